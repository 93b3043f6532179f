-- When two iterations break the restriction of an element's locality, by what each did. After
-- ISO/IEC 1539-1:2023, clause 11.1.7.5.
use Rattle.std.specs.Prelude.{ℕ, Bool, false, not, ◌&&◌, ◌||◌, List, [], ◌∷◌, ◌++◌, Option, Some, None, find, if◌then◌else◌}
use Rattle.dc_int.specs.declared.access.ElementId.{ElementId}
use Rattle.dc_int.specs.declared.variable.Locality.{Locality}
use Rattle.dc_int.specs.Entries.{Entry, Reads, Defines, Undefines, Contributes, is_read_of, is_touch_of, reads, touches, exposes}

-- An iteration accesses an element where it reads or touches it.
abbrev pub accesses : ElementId → List Entry → Bool
accesses x entries = reads x entries || touches x entries

-- Unspecified locality: what one iteration touches, no other has an exposed read of. SHARED: what
-- one iteration touches, no other reads or touches. Other localities can't be broken.
abbrev pub breaks : Locality → ElementId → List Entry → List Entry → Bool
breaks Locality.Plain x one other = (touches x one && exposes x other) || (touches x other && exposes x one)
breaks Locality.Shared x one other = (touches x one && accesses x other) || (touches x other && accesses x one)
breaks locality x one other = false

-- ---- the first break of two iterations in succession, this project's own

-- An access of the second iteration breaks the restriction with what the first one did. `before` is
-- what the second did before that access.
abbrev pub reading_breaks : Locality → ElementId → List Entry → List Entry → Bool
reading_breaks Locality.Plain x first before = touches x first && not (touches x before)
reading_breaks Locality.Shared x first before = touches x first
reading_breaks locality x first before = false

abbrev pub touching_breaks : Locality → ElementId → List Entry → Bool
touching_breaks Locality.Plain x first = exposes x first
touching_breaks Locality.Shared x first = accesses x first
touching_breaks locality x first = false

abbrev pub entry_breaks : (ℕ → Locality) → List Entry → List Entry → Entry → Bool
entry_breaks locality first before (Reads x line) = reading_breaks (locality x.variable) x first before
entry_breaks locality first before (Defines x value line) = touching_breaks (locality x.variable) x first
entry_breaks locality first before (Undefines x line) = touching_breaks (locality x.variable) x first
entry_breaks locality first before (Contributes x op value) = false

-- the first break among what the second iteration is still to do
abbrev pub break_after : (ℕ → Locality) → List Entry → List Entry → List Entry → Option Entry
break_after locality first before [] = None
break_after locality first before (entry ∷ later) =
    if entry_breaks locality first before entry then Some entry else break_after locality first (before ++ entry ∷ []) later

-- The first access of the second iteration that breaks the restriction with what the first did.
abbrev pub first_break : (ℕ → Locality) → List Entry → List Entry → Option Entry
first_break locality first second = break_after locality first [] second

abbrev pub first_read : ElementId → List Entry → Option Entry
first_read x entries = find (is_read_of x) entries

abbrev pub first_touch : ElementId → List Entry → Option Entry
first_touch x entries = find (is_touch_of x) entries

-- what the first iteration did that a touch of the second breaks with; a read that is exposed is the
-- first one
abbrev pub other_side : Locality → ElementId → List Entry → Option Entry
other_side Locality.Shared x first = if touches x first then first_touch x first else first_read x first
other_side locality x first = first_read x first

-- The access of the first iteration that is named beside the breaking one: for a read its first
-- touch, for a touch its exposed read, or where the variable is SHARED its first touch before any
-- read.
abbrev pub named_beside : (ℕ → Locality) → List Entry → Entry → Option Entry
named_beside locality first (Reads x line) = first_touch x first
named_beside locality first (Defines x value line) = other_side (locality x.variable) x first
named_beside locality first (Undefines x line) = other_side (locality x.variable) x first
named_beside locality first (Contributes x op value) = None
