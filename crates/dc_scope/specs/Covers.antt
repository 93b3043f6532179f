-- How the code has the values that the CASE statements of a construct name: for each sort as ranges of which no two
-- meet. This project's own.
use Rattle.std.specs.Prelude.{◌≡◌, ℤ, Bool, true, false, List}
use Rattle.std.specs.List.{list_any}
use Rattle.dc_scope.specs.declared.case_values.CaseValues.{CaseValues}
use Rattle.dc_scope.specs.declared.case_values.CasesSoFar.{CasesSoFar}
use Rattle.dc_scope.specs.declared.interval.Interval.{Interval}
use Rattle.dc_scope.specs.Cases.{Cases, meet}
use Rattle.dc_scope.specs.Ranges.{HasNumbers, touches}

abbrev pub of_sort : CaseValues → Bool → List (ℤ × ℤ)
of_sort values true = values.truths
of_sort values false = values.numbers

abbrev pub range_of : Interval → ℤ × ℤ
range_of interval = (interval.high, interval.low)

-- Each interval meets some of the values where it meets some of the intervals so far.
abbrev pub Covers : CaseValues → List Interval → Type 0
Covers values before = (next : Interval) → HasNumbers (range_of next) → list_any (touches (range_of next)) (of_sort values next.logical) ≡ list_any (meet next) before

abbrev pub Keeps : CasesSoFar → Cases → Type 0
Keeps so_far cases = Covers so_far.values cases.intervals × (so_far.has_default ≡ cases.has_default)
