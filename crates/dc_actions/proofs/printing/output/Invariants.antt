-- What is added so far and what the rest adds is all together.
use Rattle.std.proofs.Common.{◌≡◌, ◌++◌, drop, length, map, IsTrue}
use Rattle.std.specs.List.{list_all}
use Rattle.dc_form.specs.BuiltPrograms.{is_held}
use Rattle.dc_tree.specs.Syntax.{tree}
use Rattle.dc_actions.specs.Naming.{scope_of}
use Rattle.dc_actions.specs.Printing.{items_code, texts_of_items}
use Rattle.dc_actions.proofs.printing.output.Given as goal

abbrev pub invariant-loop-each : goal.invariant-loop-each
invariant-loop-each l =
    record {
      held : IsTrue (list_all is_held (map tree (drop l.each-index l.items)));
      code : l.whats ++ items_code (scope_of l.names) (length l.texts) (map tree (drop l.each-index l.items)) ≡ l.fn.whats ++ items_code (scope_of l.names) (length l.fn.texts) (map tree l.items);
      texts : l.texts ++ texts_of_items (map tree (drop l.each-index l.items)) ≡ l.fn.texts ++ texts_of_items (map tree l.items);
    }
