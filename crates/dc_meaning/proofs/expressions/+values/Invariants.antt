use Rattle.std.proofs.Common.{drop, map, List, IsTrue}
use Rattle.std.specs.Prelude.{Result, ℤ}
use Rattle.dc_plain.specs.Views.{View}
use Rattle.dc_form.specs.BuiltPrograms.{are_held}
use Rattle.dc_tree.specs.Syntax.{arg_tree, args_from}
use Rattle.dc_meaning.specs.declared.stop.Stop.{Stop}
use Rattle.dc_meaning.specs.Gathering.{gathered}
use Rattle.dc_meaning.specs.Values.{value, values}
use Rattle.dc_meaning.specs.WalkScope.{scope_of, own_of}
use Rattle.dc_meaning.specs.Walking.{Stays}
use Rattle.dc_meaning.proofs.Valuing.{arg_value}
use Rattle.dc_meaning.proofs.expressions.+values.Given as goal

abbrev pub invariant-values_of-loop-arg : goal.invariant-values_of-loop-arg
invariant-values_of-loop-arg l =
    record {
      held : IsTrue (are_held (args_from (map arg_tree (drop l.arg-index l.args))));
      left : (after : View) (r : Result (List ℤ) Stop)
          → Stays (λ (zs : List ℤ). zs) (own_of l.walk) l.ledger (λ call. gathered (value (scope_of l.walk) call l.line) l.given (map arg_value (drop l.arg-index l.args))) after r
          → Stays (λ (zs : List ℤ). zs) (own_of l.walk) l.fn.ledger (λ call. values (scope_of l.walk) call l.line (args_from (map arg_tree l.args))) after r;
    }
