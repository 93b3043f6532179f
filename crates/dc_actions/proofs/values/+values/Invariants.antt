-- What is added so far and what the rest adds is all together.
use Rattle.std.proofs.Common.{◌≡◌, ◌++◌, drop, map, IsTrue}
use Rattle.dc_form.specs.BuiltPrograms.{are_held}
use Rattle.dc_tree.specs.Syntax.{arg_tree, args_from}
use Rattle.dc_sorts.specs.Knowing.{known_args}
use Rattle.dc_actions.specs.Expressions.{values_code, further_code}
use Rattle.dc_actions.specs.Naming.{scope_of}
use Rattle.dc_actions.proofs.values.+values.Given as goal

abbrev pub invariant-values-loop-arg : goal.invariant-values-loop-arg
invariant-values-loop-arg l =
    record {
      held : IsTrue (are_held (args_from (map arg_tree (drop l.arg-index l.args))));
      known : l.known ++ known_args (scope_of l.names) (args_from (map arg_tree (drop l.arg-index l.args))) ≡ known_args (scope_of l.names) (args_from (map arg_tree l.args));
      code : l.whats ++ values_code (scope_of l.names) (args_from (map arg_tree (drop l.arg-index l.args))) ≡ l.fn.whats ++ values_code (scope_of l.names) (args_from (map arg_tree l.args));
    }

abbrev pub invariant-further-loop-at : goal.invariant-further-loop-at
invariant-further-loop-at l =
    record {
      held : IsTrue (are_held (args_from (map arg_tree (drop l.at l.args))));
      known : l.known ++ known_args (scope_of l.names) (args_from (map arg_tree (drop l.at l.args))) ≡ known_args (scope_of l.names) (args_from (map arg_tree (drop 1 l.args)));
      code : l.whats ++ further_code (scope_of l.names) l.op l.kind (args_from (map arg_tree (drop l.at l.args))) ≡ l.fn.whats ++ further_code (scope_of l.names) l.op l.kind (args_from (map arg_tree (drop 1 l.args)));
    }
