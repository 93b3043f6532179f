-- Slots that are numbered group after group.
use Rattle.std.proofs.Common.{◌≡◌, ℕ, zero, suc, ◌+◌, ◌-◌, ◌<◌, true, false, List, [], ◌∷◌, length, take, get_or, Option, refl, sym, ap, ◌∙◌, arith}
use Rattle.std.proofs.lemmas.Bool.Decides.{nat_tests}
use Rattle.std.proofs.lemmas.List.Sums.{sum_by-cons}
use Rattle.std.specs.Prelude.{ℤ, slice_set, sum_by, nat_lt, if◌then◌else◌}
use Rattle.dc_int.specs.Store.{changed_at}
use Rattle.dc_code.specs.Troubles.{Slots}
use Rattle.dc_frame.specs.Units.{slot_set}

-- how many slots there are in groups
abbrev pub slot_count : Slots → ℕ
slot_count rows = sum_by length rows

abbrev set_at : ℕ → Option ℤ → List (Option ℤ) → List (Option ℤ)
set_at position state cells = slice_set cells position state

in-first : (slot : ℕ) (state : Option ℤ) (row : List (Option ℤ)) (rows : Slots) → slot < length row → slot_set slot state (row ∷ rows) ≡ slice_set row slot state ∷ rows
in-first slot state row rows within =
    let test : nat_lt slot (length row) ≡ true = grind (arith, nat_tests) in
    ap (λ b. if b then slice_set row slot state ∷ rows else row ∷ slot_set (slot - length row) state rows) test

past-first
    : (slot : ℕ) (state : Option ℤ) (row : List (Option ℤ)) (rows : Slots) (later : ℕ) → slot ≡ length row + later
    → slot_set slot state (row ∷ rows) ≡ row ∷ slot_set later state rows
past-first slot state row rows later is =
    let test : nat_lt slot (length row) ≡ false = grind (arith, nat_tests) in
    let rest : slot - length row ≡ later = omega (arith, is) in
    ap (λ b. if b then slice_set row slot state ∷ rows else row ∷ slot_set (slot - length row) state rows) test ∙ ap (λ n. row ∷ slot_set n state rows) rest

-- The slot of a number that is a position in a group behind as many slots as the groups before have.
pub slot-there
    : (rows : Slots) (group position slot : ℕ) (row : List (Option ℤ)) (state : Option ℤ) → slot ≡ slot_count (take group rows) + position → group < length rows
    → row ≡ get_or rows group row → position < length row → slot_set slot state rows ≡ changed_at (set_at position state) rows group
slot-there [] group position slot row state is within read inside = absurd (omega (arith, within))
slot-there (first ∷ rows) zero position slot row state is within read inside =
    let same : slot ≡ position = omega (arith, is) in
    ap (λ n. slot_set n state (first ∷ rows)) same ∙ in-first position state first rows (rw (sym read) inside)
slot-there (first ∷ rows) (suc group) position slot row state is within read inside =
    past-first slot state first rows (slot_count (take group rows) + position) (omega (arith, is, sum_by-cons length first (take group rows)))
    ∙ ap (λ more. first ∷ more) (slot-there rows group position (slot_count (take group rows) + position) row state refl (omega (arith, within)) read inside)

-- No slot has a number that is past all groups.
pub slot-past
    : (rows : Slots) (position slot : ℕ) (state : Option ℤ) → slot ≡ slot_count rows + position
    → slot_set slot state rows ≡ changed_at (set_at position state) rows (length rows)
slot-past [] position slot state is = refl
slot-past (first ∷ rows) position slot state is =
    past-first slot state first rows (slot_count rows + position) (omega (arith, is, sum_by-cons length first rows))
    ∙ ap (λ more. first ∷ more) (slot-past rows position (slot_count rows + position) state refl)
