-- A frame that is reset is a new one.
use Rattle.std.proofs.Common.{◌≡◌, ℕ, List, [], ◌∷◌, length, map, take, replicate, Option, None, false, refl, sym, ap, ap₂, ◌∙◌}
use Rattle.std.specs.Prelude.{ℤ}
use Rattle.dc_code.specs.declared.frame.Passed.{Passed}
use Rattle.dc_code.specs.declared.plan.Group.{Group}
use Rattle.dc_code.specs.Codes.{CodeLists, blank, blank_slots, plan_at, plan_numbered}
use Rattle.dc_code.specs.Frames.{UnitFrame, Frame, fresh_unit}
use Rattle.dc_code.specs.Machine.{new_frame}
use Rattle.dc_code.specs.Troubles.{Slots}
use Rattle.dc_frame.specs.Units.{BeganAt, restarted, restarted_unit, size_of_group}
use Rattle.dc_frame.proofs.Changing.{map_same}

abbrev undefined_slots : Slots → Slots
undefined_slots slots = map (λ cells. map (λ cell. None) cells) slots

-- As many slots in each group, undefined, are those of the plan.
blank-again : (slots : Slots) (groups : List Group) → map length slots ≡ map size_of_group groups → undefined_slots slots ≡ map blank groups
blank-again [] [] same = refl
blank-again [] (group ∷ groups) same = absurd cc
blank-again (cells ∷ slots) [] same = absurd cc
blank-again (cells ∷ slots) (group ∷ groups) same =
    ap₂ (λ (first : List (Option ℤ)) (rest : Slots). first ∷ rest)
    (sym (map_same None cells) ∙ ap (λ n. replicate n None) count)
    (blank-again slots groups others)
  where
    count : length cells ≡ size_of_group group
    count = cc

    others : map length slots ≡ map size_of_group groups
    others = cc

abbrev unit_with : ℕ → Slots → List Passed → ℕ → UnitFrame
unit_with plan slots dummies back = record { plan = plan; slots = slots; dummies = dummies; back = back; returned = None }

pub restarted-new : (code : CodeLists) (entry : ℕ) (frame : Frame) → BeganAt code entry frame → restarted frame ≡ new_frame code entry
restarted-new code entry frame began =
    ap (λ units. record { stack = []; units = map restarted_unit (take 1 units); line = []; begun = false }) began.units
    ∙ ap (λ unit. record { stack = []; units = unit ∷ []; line = []; begun = false }) outer
  where
    outer : restarted_unit began.outermost ≡ fresh_unit code (plan_at code entry) [] 0
    outer =
        ap₂ (λ (plan : ℕ) (slots : Slots). unit_with plan slots began.outermost.dummies began.outermost.back) began.plan
        (blank-again began.outermost.slots (plan_numbered code (plan_at code entry)).groups began.slots)
        ∙ ap₂ (λ (dummies : List Passed) (back : ℕ). unit_with (plan_at code entry) (blank_slots (plan_numbered code (plan_at code entry))) dummies back)
        began.dummies began.back
