use Rattle.std.proofs.Common.{ap, ◌∙◌, sym, rules, map}
use Rattle.std.specs.Prelude.{option_map, List, ℤ}
use Rattle.std.specs.Int.{w64}
use Rattle.std.proofs.lemmas.Int.{to_z-of_z}
use Rattle.dc_entities.specs.Found.{entity_of}
use Rattle.dc_tree.specs.Entities.{entity}
use Rattle.dc_tree.specs.Syntax.{tree}
use Rattle.dc_meaning.specs.Storing.{assigned, assigned_whole, assigned_at}
use Rattle.dc_meaning.specs.WalkScope.{own_of, scope_of}
use Rattle.dc_meaning.proofs.Walking.{stays-as, stays-then, stays-bad, handed}
use Rattle.dc_meaning.proofs.Storing.{goes_on, with-subscripts, held-subscripts}
use Rattle.dc_meaning.proofs.assign.assign_to.Goals as goal

pub all_values-requires-clause-held : goal.all_values-requires-clause-held
all_values-requires-clause-held c = held-subscripts c.args.target.now.name c.args.target.now.subscripts _ _ c.in-Some.is c.as_slice.ensures c.requires.held

pub returns-in-None : goal.returns-in-None
returns-in-None c =
    let told = to_z-of_z w64 c.args.given (search rules) in
    let scope = scope_of c.args.walk.now in
    let named = ap (entity scope) (sym c.as_bytes.ensures) ∙ sym c.defined-found.ensures.found in
    stays-as
    (λ call.
    ap (λ s. assigned scope call c.args.line (entity scope c.args.target.now.name) (option_map (map tree) s) c.args.given) c.in-None.is
    ∙ ap (λ e. assigned_whole c.args.line e c.args.given) named
    ∙ ap (assigned_whole c.args.line (entity_of c.defined-found.result)) (sym told))
    (c.assign_whole.ensures (own_of c.args.walk.now))

pub returns-in_err-subscripts-in-Some : goal.returns-in_err-subscripts-in-Some
returns-in_err-subscripts-in-Some c =
    let scope = scope_of c.args.walk.now in
    let variable = entity scope c.args.target.now.name in
    handed c.from_residual.result _ c.from_residual.ensures.1
    (stays-as (λ call. with-subscripts scope call c.args.line variable c.args.target.now.subscripts _ _ c.args.given c.in-Some.is c.as_slice.ensures)
    (stays-bad {A = Unit {0}} {tell = goes_on} (λ call values. assigned_at c.args.line variable values c.args.given) c.in_err-subscripts-in-Some.ensures))

pub returns-in_ok-subscripts-in-Some : goal.returns-in_ok-subscripts-in-Some
returns-in_ok-subscripts-in-Some c =
    let scope = scope_of c.args.walk.now in
    let told = to_z-of_z w64 c.args.given (search rules) in
    let variable = entity scope c.args.target.now.name in
    let named = ap (entity scope) (sym c.as_bytes.ensures) ∙ sym c.defined-found.ensures.found in
    stays-as (λ call. with-subscripts scope call c.args.line variable c.args.target.now.subscripts _ _ c.args.given c.in-Some.is c.as_slice.ensures)
    (stays-then (λ call values. assigned_at c.args.line variable values c.args.given) c.in_ok-subscripts-in-Some.ensures
    (stays-as (λ call. ap (λ e. assigned_at c.args.line e c.in_ok-subscripts-in-Some.subscripts c.args.given) named
    ∙ ap (λ (zs : List ℤ). assigned_at c.args.line (entity_of c.defined-found.result) zs c.args.given) (sym c.as_slice-in-Some.ensures)
    ∙ ap (assigned_at c.args.line (entity_of c.defined-found.result) c.as_slice-in-Some.result.now) (sym told))
    (c.assign_element.ensures (own_of c.args.walk.now))))
