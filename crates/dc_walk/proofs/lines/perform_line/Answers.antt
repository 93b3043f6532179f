use Rattle.std.proofs.Common.{ap}
use Rattle.dc_tree.specs.declared.stmt.Stmt.{Stmt}
use Rattle.dc_tree.specs.Blocks.{line_of}
use Rattle.dc_meaning.specs.Execution.{plain_line}
use Rattle.dc_meaning.specs.WalkScope.{scope_of}
use Rattle.dc_meaning.proofs.Walking.{stays-as}
use Rattle.dc_walk.proofs.lines.perform_line.Goals as goal

pub returns-in-Act : goal.returns-in-Act
returns-in-Act c =
    stays-as (λ call. ap (λ (s : Stmt). plain_line (scope_of c.args.walk.now) call (line_of (record { line = c.args.lined.now.line; stmt = s }))) c.in-Act.is)
    c.perform_action.ensures

pub returns-in-IfAction : goal.returns-in-IfAction
returns-in-IfAction c =
    stays-as (λ call. ap (λ (s : Stmt). plain_line (scope_of c.args.walk.now) call (line_of (record { line = c.args.lined.now.line; stmt = s }))) c.in-IfAction.is)
    c.perform_tested.ensures
