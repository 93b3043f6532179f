use Rattle.std.specs.Prelude.{◌-◌, Result}
use Rattle.dc_code.specs.Troubles.{Slots}
use Rattle.dc_plain.specs.Views.{View}
use Rattle.dc_meaning.specs.declared.stop.Stop.{Stop}
use Rattle.dc_meaning.specs.Storing.{filled}
use Rattle.dc_meaning.specs.Walking.{Stays}
use Rattle.dc_meaning.proofs.Storing.{goes_on}
use Rattle.dc_meaning.proofs.assign.fill.Given as goal

abbrev pub invariant-loop-position : goal.invariant-loop-position
invariant-loop-position l =
    (own : Slots) (after : View) (r : Result (Unit {0}) Stop)
    → Stays goes_on own l.ledger (λ call. filled l.line l.variable l.value (l.size - l.position) l.position) after r
    → Stays goes_on own l.fn.ledger (λ call. filled l.line l.variable l.value l.size 0) after r
