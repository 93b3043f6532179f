-- The values of the indexes of a loop, and their combinations. After ISO/IEC 1539-1:2023, clause
-- 11.1.7.4; that the first index varies fastest is this project's own.
use Rattle.std.specs.Prelude.{ℕ, zero, suc, Bool, true, false, List, [], ◌∷◌, ◌++◌, map, ℤ, pos, negsuc, ◌+ℤ◌, ◌-ℤ◌, int_div}

-- The limits and the step of an index, each wrapped to the kind of the index.
pub record Span : Type 0 where
  pub first : ℤ
  pub last : ℤ
  pub step : ℤ

abbrev pub natural : ℤ → ℕ
natural (pos n) = n
natural (negsuc n) = 0

-- A step of zero, with which an index has no values: a loop whose header leaves one comes to a fault.
abbrev pub has_zero_step : Span → Bool
has_zero_step span = by span.step
  where
    by : ℤ → Bool
    by (pos zero) = true
    by step = false

-- How many values the index takes, in exact numbers, where its step isn't zero.
abbrev pub value_count : Span → ℕ
value_count span = natural (int_div ((span.last -ℤ span.first) +ℤ span.step) span.step)

abbrev pub values_from : ℤ → ℤ → ℕ → List ℤ
values_from value step zero = []
values_from value step (suc count) = value ∷ values_from (value +ℤ step) step count

abbrev pub values_of : Span → List ℤ
values_of span = values_from span.first span.step (value_count span)

-- each value in front of each combination of the further indexes
abbrev pub each_before : List ℤ → List (List ℤ) → List (List ℤ)
each_before values [] = []
each_before values (others ∷ rest) = map (λ value. value ∷ others) values ++ each_before values rest

-- The combinations, the first index varying fastest.
abbrev pub combinations : List Span → List (List ℤ)
combinations [] = [] ∷ []
combinations (span ∷ spans) = each_before (values_of span) (combinations spans)
