-- What is answered to what was found, by the limit on the depth of expressions. This project's own.
use Rattle.std.specs.Prelude.{ℕ, nat_le, if◌then◌else◌, List, [], ◌∷◌, ◌++◌, None, Some}
use Rattle.dc_tree.specs.declared.token.Token.{Token}
use Rattle.dc_slices.specs.declared.reading.Reading.{Reading}
use Rattle.dc_slices.specs.Finding.{Found}

-- nothing, or too deep, or the value
abbrev pub within : {A : Type 0} → A × ℕ → Reading A
within found = if nat_le found.1 256 then Reading.Whole found.0 else Reading.Deep

unfoldable pub judged : {A : Type 0} → Found A → Reading A
judged None = Reading.Nothing
judged (Some found) = within found

-- the same by a view
abbrev pub seen : {X A : Type 0} → (X → A) → Reading X → Reading A
seen view Reading.Nothing = Reading.Nothing
seen view Reading.Deep = Reading.Deep
seen view (Reading.Whole x) = Reading.Whole (view x)

-- Of two readings the one that found nothing counts before the one that is too deep.
abbrev pub behind : {A B : Type 0} → A → Reading B → Reading (A × B)
behind one Reading.Nothing = Reading.Nothing
behind one Reading.Deep = Reading.Deep
behind one (Reading.Whole other) = Reading.Whole (one, other)

abbrev pub deep_behind : {A B : Type 0} → Reading B → Reading (A × B)
deep_behind Reading.Nothing = Reading.Nothing
deep_behind other = Reading.Deep

abbrev pub both_of : {A B : Type 0} → Reading A → Reading B → Reading (A × B)
both_of Reading.Nothing other = Reading.Nothing
both_of Reading.Deep other = deep_behind other
both_of (Reading.Whole one) other = behind one other

-- a list with one more item
abbrev pub added : {A : Type 0} → Reading (List A) → Reading A → Reading (List A)
added so_far part = seen (λ pair. pair.0 ++ pair.1 ∷ []) (both_of so_far part)

-- a list with the items of further slices
abbrev pub gathered : {A : Type 0} → Reading (List A) → (List Token → Found A) → List (List Token) → Reading (List A)
gathered so_far read [] = so_far
gathered so_far read (slice ∷ slices) = gathered (added so_far (judged (read slice))) read slices
