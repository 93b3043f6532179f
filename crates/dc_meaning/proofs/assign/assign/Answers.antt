use Rattle.std.proofs.Common.{ap, sym, rules, map}
use Rattle.std.specs.Prelude.{option_map}
use Rattle.std.specs.Int.{w64}
use Rattle.std.proofs.lemmas.Int.{to_z-of_z}
use Rattle.dc_tree.specs.Entities.{entity}
use Rattle.dc_tree.specs.Statements.{target_of}
use Rattle.dc_tree.specs.Syntax.{tree}
use Rattle.dc_meaning.specs.Storing.{assigned}
use Rattle.dc_meaning.specs.WalkScope.{scope_of}
use Rattle.dc_meaning.proofs.Defining.{defines-plain}
use Rattle.dc_meaning.proofs.Walking.{stays-as, stays-then, stays-bad, handed}
use Rattle.dc_meaning.proofs.Storing.{goes_on, assignment-plain}
use Rattle.dc_meaning.proofs.assign.assign.Goals as goal

pub returns-in_err-given : goal.returns-in_err-given
returns-in_err-given c =
    let scope = scope_of c.args.walk.now in
    let variable = entity scope c.args.target.now.name in
    let plain = defines-plain c.args.walk.now.standing c.args.target.now.name c.requires.spared c.requires.walk.named.unit in
    handed c.from_residual.result _ c.from_residual.ensures.1
    (stays-as (λ call. assignment-plain scope call c.args.line (target_of c.args.target.now) (tree c.args.right.now) variable plain)
    (stays-bad {A = Unit {0}} {tell = goes_on} (λ call given. assigned scope call c.args.line variable (option_map (map tree) c.args.target.now.subscripts) given) c.in_err-given.ensures))

pub returns : goal.returns
returns c =
    let scope = scope_of c.args.walk.now in
    let variable = entity scope c.args.target.now.name in
    let told = to_z-of_z w64 c.in_ok-given.given (search rules) in
    let plain = defines-plain c.args.walk.now.standing c.args.target.now.name c.requires.spared c.requires.walk.named.unit in
    stays-as (λ call. assignment-plain scope call c.args.line (target_of c.args.target.now) (tree c.args.right.now) variable plain)
    (stays-then (λ call given. assigned scope call c.args.line variable (option_map (map tree) c.args.target.now.subscripts) given) c.in_ok-given.ensures
    (stays-as (λ call. ap (assigned scope call c.args.line variable (option_map (map tree) c.args.target.now.subscripts)) (sym told)) c.assign_to.ensures))
