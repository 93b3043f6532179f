use Rattle.std.proofs.Common.{ap, ◌∙◌, sym}
use Rattle.dc_tree.specs.Entities.{entity}
use Rattle.dc_meaning.specs.Storing.{listed_whole}
use Rattle.dc_meaning.specs.WalkScope.{own_of, scope_of}
use Rattle.dc_meaning.proofs.Walking.{stays-as, stays-then, stays-bad, handed}
use Rattle.dc_meaning.proofs.Storing.{goes_on}
use Rattle.dc_meaning.proofs.assign.assign_list.Goals as goal

pub returns-in_err-given : goal.returns-in_err-given
returns-in_err-given c =
    let scope = scope_of c.args.walk.now in
    handed c.from_residual.result _ c.from_residual.ensures.1
    (stays-bad {A = Unit {0}} {tell = goes_on} (λ call given. listed_whole c.args.line (entity scope c.args.name.now) given) c.in_err-given.ensures)

pub returns : goal.returns
returns c =
    let scope = scope_of c.args.walk.now in
    stays-then (λ call given. listed_whole c.args.line (entity scope c.args.name.now) given) c.in_ok-given.ensures
    (stays-as (λ call. ap (listed_whole c.args.line (entity scope c.args.name.now)) (sym c.as_slice.ensures) ∙ ap (λ e. listed_whole c.args.line e c.as_slice.result.now) (sym c.defined-found.ensures.found))
    (c.list_whole.ensures (own_of c.args.walk.now)))
