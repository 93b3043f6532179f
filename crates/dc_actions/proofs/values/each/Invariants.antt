-- What is added so far and what the rest adds is all together.
use Rattle.std.proofs.Common.{◌≡◌, ◌++◌, drop, map, IsTrue}
use Rattle.std.specs.List.{list_all}
use Rattle.dc_form.specs.BuiltPrograms.{is_held}
use Rattle.dc_tree.specs.Syntax.{tree}
use Rattle.dc_actions.specs.Assigning.{each_code}
use Rattle.dc_actions.specs.Naming.{scope_of}
use Rattle.dc_actions.proofs.values.each.Given as goal

abbrev pub invariant-loop-expr : goal.invariant-loop-expr
invariant-loop-expr l =
    record {
      held : IsTrue (list_all is_held (map tree (drop l.expr-index l.exprs)));
      code : l.whats ++ each_code (scope_of l.names) (map tree (drop l.expr-index l.exprs)) ≡ l.fn.whats ++ each_code (scope_of l.names) (map tree l.exprs);
    }
