use Rattle.std.proofs.Common.{map, sym, ap, ap₂, ◌∙◌}
use Rattle.dc_tree.specs.Entities.{entity}
use Rattle.dc_tree.specs.Statements.{deed}
use Rattle.dc_tree.specs.Syntax.{tree}
use Rattle.dc_meaning.specs.Actions as actions
use Rattle.dc_meaning.specs.WalkScope.{scope_of}
use Rattle.dc_meaning.proofs.Walking.{stays-as}
use Rattle.dc_meaning.proofs.assignment.act.Goals as goal

pub returns-in-Assign : goal.returns-in-Assign
returns-in-Assign c = stays-as (λ call. ap (λ a. actions.act (scope_of c.args.walk.now) call c.args.line (deed a)) c.in-Assign.is) c.assign.ensures

pub returns-in-Fill : goal.returns-in-Fill
returns-in-Fill c =
    stays-as
    (λ call.
    ap (λ a. actions.act (scope_of c.args.walk.now) call c.args.line (deed a)) c.in-Fill.is
    ∙ ap₂ (λ items name. actions.filling (scope_of c.args.walk.now) call c.args.line (map tree items) (entity (scope_of c.args.walk.now) name)) (sym c.as_slice.ensures) (sym c.as_bytes.ensures))
    c.assign_list.ensures
