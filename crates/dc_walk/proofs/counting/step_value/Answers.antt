use Rattle.std.proofs.Common.{ap, Option}
use Rattle.std.specs.Prelude.{option_map}
use Rattle.dc_tree.specs.declared.expr.Expr.{Expr}
use Rattle.dc_tree.specs.Syntax.{tree}
use Rattle.dc_meaning.specs.Execution.{step_value}
use Rattle.dc_meaning.specs.WalkScope.{scope_of}
use Rattle.dc_meaning.proofs.Walking.{stays-as}
use Rattle.dc_walk.proofs.counting.step_value.Goals as goal

pub returns-in-Some : goal.returns-in-Some
returns-in-Some c =
    stays-as (λ call. ap (λ (s : Option Expr). step_value (scope_of c.args.walk.now) call c.args.line (option_map tree s)) c.in-Some.is) c.value.ensures
