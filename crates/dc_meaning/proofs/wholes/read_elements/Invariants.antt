use Rattle.std.specs.Prelude.{◌-◌, [], List, ℤ, Result}
use Rattle.dc_code.specs.Troubles.{Slots}
use Rattle.dc_plain.specs.Views.{View}
use Rattle.dc_meaning.specs.declared.stop.Stop.{Stop}
use Rattle.dc_meaning.specs.Acts.{refer_to}
use Rattle.dc_meaning.specs.Gathering.{gathered, places_from}
use Rattle.dc_meaning.specs.Walking.{Stays}
use Rattle.dc_meaning.proofs.wholes.read_elements.Given as goal

abbrev pub invariant-loop-position : goal.invariant-loop-position
invariant-loop-position l =
    (own : Slots) (after : View) (r : Result (List ℤ) Stop)
    → Stays (λ (zs : List ℤ). zs) own l.ledger (λ call. gathered (refer_to l.line) l.values (places_from l.variable (l.count - l.position) l.position)) after r
    → Stays (λ (zs : List ℤ). zs) own l.fn.ledger (λ call. gathered (refer_to l.line) [] (places_from l.variable l.count 0)) after r
