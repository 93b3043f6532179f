use Rattle.std.specs.Prelude.{◌-◌, ◌≤◌, drop, Result}
use Rattle.dc_code.specs.Troubles.{Slots}
use Rattle.dc_plain.specs.Views.{View}
use Rattle.dc_sorts.specs.Forms.{sort_of_form}
use Rattle.dc_meaning.specs.declared.stop.Stop.{Stop}
use Rattle.dc_meaning.specs.Storing.{listed}
use Rattle.dc_meaning.specs.Walking.{Stays}
use Rattle.dc_meaning.proofs.Storing.{goes_on}
use Rattle.dc_meaning.proofs.assign.store_each.Given as goal

abbrev pub invariant-loop-value : goal.invariant-loop-value
invariant-loop-value l =
    record {
      few : l.position ≤ l.size;
      stays : (own : Slots) (after : View) (r : Result (Unit {0}) Stop)
          → Stays goes_on own l.ledger (λ call. listed l.line l.variable (sort_of_form l.form) (l.size - l.position) l.position (drop l.value-index l.given)) after r
          → Stays goes_on own l.fn.ledger (λ call. listed l.line l.variable (sort_of_form l.form) l.size 0 l.given) after r;
    }
