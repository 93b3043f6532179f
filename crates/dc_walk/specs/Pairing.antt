-- The race of a pair, where every variable has unspecified locality.
use Rattle.std.specs.Prelude.{ℕ, List, [], ◌∷◌, slice_get, Option, Some, option_and_then, ℤ}
use Rattle.dc_int.specs.Store.{Store}
use Rattle.dc_code.specs.Loops.{Loop, order}
use Rattle.dc_code.specs.Verdicts.{Verdict, race, race_in}
use Rattle.dc_plain.specs.Plainly.{plain}

-- The pair (i, j) run again, i and then j, over one store.
abbrev pub between_plain : Loop → Store → List (List ℤ) → ℕ × ℕ → Option Verdict
between_plain parts store iterations (i, j) =
    option_and_then (λ first. option_and_then (λ second. option_and_then (λ found. Some (race found first second))
    (race_in plain i j (order parts [] store (first ∷ second ∷ [])).runs)) (slice_get iterations j)) (slice_get iterations i)
