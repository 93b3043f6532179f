-- What is taken off a stack, slots that are set, and a frame that begins anew.
use Rattle.std.proofs.Common.{◌≡◌, true, false, List, [], ◌∷◌, Some, None, refl}
use Rattle.std.specs.Prelude.{pos, negsuc}
use Rattle.dc_int.specs.declared.fault.FaultKind.{FaultKind}
use Rattle.dc_int.specs.Store.{Bounds}
use Rattle.dc_code.specs.declared.frame.Item.{Item}
use Rattle.dc_code.specs.declared.frame.Passed.{Passed}
use Rattle.dc_code.specs.Frames.{UnitFrame, Frame}
use Rattle.dc_code.specs.Operands.{faulty, stuck, item_off, value_off}
use Rattle.dc_frame.specs.declared.subscripts.Subscripted.{Subscripted}
use Rattle.dc_frame.specs.Taking.{taken, subscripts_off, subscripted, has_value_on_top}
use Rattle.dc_frame.specs.Units.{slot_set, dummy_set, restarted}

-- a function's unit, with its result and an array of two slots, inside the main program's
abbrev main_unit : UnitFrame
main_unit = record { plan = 0; slots = (Some (pos 1) ∷ []) ∷ []; dummies = []; back = 0; returned = Some (pos 5) }

abbrev function_unit : UnitFrame
function_unit =
    record {
      plan = 1;
      slots = (None ∷ []) ∷ (Some (pos 3) ∷ None ∷ []) ∷ [];
      dummies = Passed.ByValue (pos 7) ∷ [];
      back = 12;
      returned = None;
    }

abbrev with_items : List Item → Frame
with_items items = record { stack = items; units = main_unit ∷ function_unit ∷ []; line = 65 ∷ []; begun = true }

-- ---- the stack

the_top_is_taken : item_off 4 (with_items (Item.Position 2 ∷ Item.Value (pos 8) ∷ [])) ≡ taken 4 (Some (Item.Position 2)) (with_items (Item.Value (pos 8) ∷ []))
the_top_is_taken = refl

a_position_is_no_value : value_off 4 (with_items (Item.Position 2 ∷ [])) ≡ taken 4 None (with_items [])
a_position_is_no_value = refl

a_value_on_top : has_value_on_top (with_items (Item.Value (pos 8) ∷ Item.Position 2 ∷ [])) ≡ true
a_value_on_top = refl

a_value_below : has_value_on_top (with_items (Item.Position 2 ∷ Item.Value (pos 8) ∷ [])) ≡ false
a_value_below = refl

nothing_on_top : has_value_on_top (with_items []) ≡ false
nothing_on_top = refl

-- ---- subscripts of an array with the bounds 1 to 3 and -1 to 0: the last is on the top

abbrev three_by_two : Bounds
three_by_two = (pos 1, pos 3) ∷ (negsuc 0, pos 0) ∷ []

the_first_varies_fastest
    : subscripts_off 9 three_by_two (with_items (Item.Value (negsuc 0) ∷ Item.Value (pos 3) ∷ Item.Position 6 ∷ []))
    ≡ subscripted 9 (Subscripted.At 2) (with_items (Item.Position 6 ∷ []))
the_first_varies_fastest = refl

the_last_element : subscripts_off 9 three_by_two (with_items (Item.Value (pos 0) ∷ Item.Value (pos 3) ∷ [])) ≡ subscripted 9 (Subscripted.At 5) (with_items [])
the_last_element = refl

out_of_bounds : subscripts_off 9 three_by_two (with_items (Item.Value (pos 1) ∷ Item.Value (pos 3) ∷ [])) ≡ faulty FaultKind.Subscript 9
out_of_bounds = refl

-- One that is missing comes before one that is out of its bounds.
one_is_missing : subscripts_off 9 three_by_two (with_items (Item.Value (pos 1) ∷ [])) ≡ stuck 9
one_is_missing = refl

a_scalar : subscripts_off 9 [] (with_items []) ≡ subscripted 9 (Subscripted.At 0) (with_items [])
a_scalar = refl

-- ---- slots by their numbers

the_third_slot : slot_set 2 (Some (pos 4)) function_unit.slots ≡ (None ∷ []) ∷ (Some (pos 3) ∷ Some (pos 4) ∷ []) ∷ []
the_third_slot = refl

the_first_slot : slot_set 0 (Some (pos 4)) function_unit.slots ≡ (Some (pos 4) ∷ []) ∷ (Some (pos 3) ∷ None ∷ []) ∷ []
the_first_slot = refl

no_fourth_slot : slot_set 3 (Some (pos 4)) function_unit.slots ≡ function_unit.slots
no_fourth_slot = refl

-- ---- dummies

a_dummy_gets_a_value : (dummy_set 0 (pos 2) function_unit).dummies ≡ Passed.ByValue (pos 2) ∷ []
a_dummy_gets_a_value = refl

-- ---- a frame that begins anew

anew
    : restarted (with_items (Item.Position 2 ∷ []))
    ≡ record {
      stack = [];
      units = record { plan = 0; slots = (None ∷ []) ∷ []; dummies = []; back = 0; returned = None } ∷ [];
      line = [];
      begun = false;
    }
anew = refl
