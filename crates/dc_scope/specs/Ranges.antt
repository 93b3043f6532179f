-- Ranges of numbers of which no two meet, in ascending order. A range is its high end and then its low end, since the
-- high ends are the keys by which the code has them. This project's own.
use Rattle.std.specs.Prelude.{◌≡◌, ℤ, Bool, ◌&&◌, int_le, ◌≤ℤ◌, ◌<ℤ◌, List, [], ◌∷◌}
use Rattle.std.specs.Int.{int_max, int_min}
use Rattle.std.specs.List.{list_any}

-- It isn't empty.
abbrev pub HasNumbers : ℤ × ℤ → Type 0
HasNumbers range = range.1 ≤ℤ range.0

-- Each begins above a number.
abbrev pub AreAbove : ℤ → List (ℤ × ℤ) → Type 0
AreAbove end [] = Unit {0}
AreAbove end (first ∷ rest) = (end <ℤ first.1) × AreAbove end rest

-- None is empty, and each ends before those behind it begin.
abbrev pub AreApart : List (ℤ × ℤ) → Type 0
AreApart [] = Unit {0}
AreApart (first ∷ rest) = HasNumbers first × AreAbove first.0 rest × AreApart rest

-- The other ends at the first number of this range or behind it.
abbrev pub reaches : ℤ × ℤ → ℤ × ℤ → Bool
reaches range other = int_le range.1 other.0

-- Some number is in both, which aren't empty.
abbrev pub touches : ℤ × ℤ → ℤ × ℤ → Bool
touches range other = reaches range other && int_le other.1 range.0

-- The numbers of both, where they meet.
abbrev pub joined : ℤ × ℤ → ℤ × ℤ → ℤ × ℤ
joined range other = (int_max range.0 other.0, int_min range.1 other.1)

-- They have the same numbers: what meets some of the one ranges meets some of the others.
abbrev pub HaveSame : List (ℤ × ℤ) → List (ℤ × ℤ) → Type 0
HaveSame one other = (range : ℤ × ℤ) → HasNumbers range → list_any (touches range) one ≡ list_any (touches range) other
