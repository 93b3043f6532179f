-- The innermost unit of a frame.
use Rattle.std.proofs.Common.{◌≡◌, ℕ, ◌+◌, ◌-◌, ◌≤◌, List, [], ◌∷◌, ◌++◌, length, take, get_or, Option, Some, None, refl, sym, ap, ap₂, ◌∙◌, arith}
use Rattle.std.proofs.lemmas.List.{length-append}
use Rattle.std.specs.Prelude.{slice_get, slice_set}
use Rattle.dc_int.specs.Store.{changed_at}
use Rattle.dc_code.specs.Frames.{UnitFrame, Frame, with_units, with_returned, level, innermost, innermost_changed, left_unit}
use Rattle.dc_frame.specs.Units.{state_in}
use Rattle.dc_frame.proofs.Changing.{changed_item}

-- The last unit, put back when it is changed.
pub innermost-put
    : (change : UnitFrame → UnitFrame) (frame : Frame) (n : ℕ) (unit after : UnitFrame) → 1 ≤ length frame.units → n ≡ length frame.units - 1
    → unit ≡ get_or frame.units n unit → after ≡ change unit → with_units (slice_set frame.units n after) frame ≡ innermost_changed change frame
innermost-put change frame n unit after some last read is =
    ap (λ units. with_units units frame) (changed_item change frame.units n unit after (omega (arith, some, last)) read is)
    ∙ ap (λ k. with_units (changed_at change frame.units k) frame) last

-- ---- the innermost unit is left

pub one-less : (units rest : List UnitFrame) (unit : UnitFrame) → units ≡ rest ++ unit ∷ [] → length units - 1 ≡ length rest
one-less units rest unit is =
    let count : length units ≡ length rest + 1 = ap length is ∙ length-append rest (unit ∷ []) in
    omega (arith, count)

last-of : (rest : List UnitFrame) (unit : UnitFrame) → slice_get (rest ++ unit ∷ []) (length rest) ≡ Some unit
last-of [] unit = refl
last-of (first ∷ rest) unit = last-of rest unit

but-last : (rest : List UnitFrame) (unit : UnitFrame) → take (length rest) (rest ++ unit ∷ []) ≡ rest
but-last [] unit = refl
but-last (first ∷ rest) unit = ap (λ units. first ∷ units) (but-last rest unit)

-- what `innermost` makes of the unit that is found
abbrev or_no_unit : Option UnitFrame → UnitFrame
or_no_unit (Some unit) = unit
or_no_unit None = record { plan = 0; slots = []; dummies = []; back = 0; returned = None }

-- The last unit is taken off, and the one before it, which gets its result, is put back.
pub innermost-left
    : (frame : Frame) (rest : List UnitFrame) (unit outer after : UnitFrame) (n : ℕ) → frame.units ≡ rest ++ unit ∷ [] → 1 ≤ length rest → n ≡ length rest - 1
    → outer ≡ get_or rest n outer → after ≡ with_returned (state_in unit.slots 0 0) outer → with_units (slice_set rest n after) frame ≡ left_unit frame
innermost-left frame rest unit outer after n is some last read returned =
    innermost-put (with_returned (state_in unit.slots 0 0)) (with_units rest frame) n outer after some last read returned
    ∙ sym (ap₂ (λ (inner : UnitFrame) (units : List UnitFrame). innermost_changed (with_returned (state_in inner.slots 0 0)) (with_units units frame)) inner left)
  where
    count : level frame ≡ length rest
    count = one-less frame.units rest unit is

    inner : innermost frame ≡ unit
    inner = ap or_no_unit (ap₂ slice_get is count ∙ last-of rest unit)

    left : take (level frame) frame.units ≡ rest
    left = ap₂ take count is ∙ but-last rest unit
