-- Intervals that are empty.
use Rattle.std.proofs.Common.{◌≡◌, false, List, [], ◌∷◌, ◌<ℤ◌, refl, arith}
use Rattle.std.specs.List.{list_any}
use Rattle.std.proofs.lemmas.Int.{ints}
use Rattle.dc_scope.specs.declared.interval.Interval.{Interval}
use Rattle.dc_scope.specs.Cases.{meet}

-- An empty range meets nothing.
pub empty-meets_none : (next : Interval) (before : List Interval) → next.high <ℤ next.low → list_any (meet next) before ≡ false
empty-meets_none next [] less = refl
empty-meets_none next (first ∷ rest) less =
    let apart : meet next first ≡ false = grind (arith, ints, less) in
    rw apart (empty-meets_none next rest less)
