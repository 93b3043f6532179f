-- How the results of an act for each of some items are gathered, as the walker goes about it. This project's own.
use Rattle.std.specs.Prelude.{ℕ, List, ◌++◌, map}
use Rattle.std.specs.List.{range_with_len}
use Rattle.dc_code.specs.declared.frame.Place.{Place}
use Rattle.dc_meaning.specs.Acts.{Act, ◌>>=◌, just, for_each}

-- Some results, and behind them those of an act for each of these items.
abbrev pub gathered : {A B : Type 0} → (A → Act B) → List B → List A → Act (List B)
gathered act results items = for_each act items >>= (λ others. just (results ++ others))

-- The places of so many elements of a variable, from a position on.
abbrev pub places_from : ℕ → ℕ → ℕ → List Place
places_from variable count position = map (λ p. Place.Outer (record { variable = variable; position = p })) (range_with_len position count)
