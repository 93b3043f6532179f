-- What is added so far and what the rest adds is all together.
use Rattle.std.proofs.Common.{◌≡◌, ◌++◌, drop, map, IsTrue}
use Rattle.std.specs.List.{list_all}
use Rattle.dc_form.specs.BuiltPrograms.{is_held}
use Rattle.dc_tree.specs.Syntax.{tree}
use Rattle.dc_sorts.specs.Forms.{sort_of_form}
use Rattle.dc_actions.specs.Assigning.{keeping_code}
use Rattle.dc_actions.specs.Naming.{scope_of}
use Rattle.dc_actions.proofs.lists.keeping.Given as goal

abbrev pub invariant-loop-before : goal.invariant-loop-before
invariant-loop-before l =
    record {
      held : IsTrue (list_all is_held (map tree (drop l.before l.items)));
      code : l.whats ++ keeping_code (scope_of l.names) (sort_of_form l.form) l.group l.before (map tree (drop l.before l.items))
          ≡ l.fn.whats ++ keeping_code (scope_of l.names) (sort_of_form l.form) l.group 0 (map tree l.items);
    }
