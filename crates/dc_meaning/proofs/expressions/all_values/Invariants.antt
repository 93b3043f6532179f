use Rattle.std.proofs.Common.{drop, map, List, IsTrue}
use Rattle.std.specs.Prelude.{Result, ℤ}
use Rattle.std.specs.List.{list_all}
use Rattle.dc_plain.specs.Views.{View}
use Rattle.dc_form.specs.BuiltPrograms.{is_held}
use Rattle.dc_tree.specs.Syntax.{tree}
use Rattle.dc_meaning.specs.declared.stop.Stop.{Stop}
use Rattle.dc_meaning.specs.Gathering.{gathered}
use Rattle.dc_meaning.specs.Values.{value, all_values}
use Rattle.dc_meaning.specs.WalkScope.{scope_of, own_of}
use Rattle.dc_meaning.specs.Walking.{Stays}
use Rattle.dc_meaning.proofs.expressions.all_values.Given as goal

abbrev pub invariant-loop-expr : goal.invariant-loop-expr
invariant-loop-expr l =
    record {
      held : IsTrue (list_all is_held (map tree (drop l.expr-index l.exprs)));
      left : (after : View) (r : Result (List ℤ) Stop)
          → Stays (λ (zs : List ℤ). zs) (own_of l.walk) l.ledger (λ call. gathered (value (scope_of l.walk) call l.line) l.given (map tree (drop l.expr-index l.exprs))) after r
          → Stays (λ (zs : List ℤ). zs) (own_of l.walk) l.fn.ledger (λ call. all_values (scope_of l.walk) call l.line (map tree l.exprs)) after r;
    }
