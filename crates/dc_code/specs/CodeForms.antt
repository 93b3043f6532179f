-- A loop as its code gives it: its header, its mask and its body by the machine. This project's own, on ISO/IEC
-- 1539-1:2023, clause 11.1.7.4.
use Rattle.std.specs.Prelude.{ℕ, Bool, true, false, List, [], ◌∷◌, ◌++◌, map, length, take, drop, replicate, reverse, flat_map, slice_get, Option, Some, None, if◌then◌else◌, ℤ, pos}
use Rattle.std.specs.List.{range_with_len}
use Rattle.dc_int.specs.declared.access.ElementId.{ElementId}
use Rattle.dc_int.specs.declared.kind.Kind.{Kind}
use Rattle.dc_int.specs.declared.variable.Locality.{Locality}
use Rattle.dc_int.specs.declared.variable.Shape.{Shape}
use Rattle.dc_int.specs.Reductions.{truth}
use Rattle.dc_code.specs.declared.frame.Item.{Item}
use Rattle.dc_code.specs.declared.plan.ConstructCode.{ConstructCode}
use Rattle.dc_code.specs.Codes.{CodeLists, elements_of_variable, elements_of_shape}
use Rattle.dc_code.specs.Combinations.{Span}
use Rattle.dc_code.specs.Computation.{give, sequence}
use Rattle.dc_code.specs.Frames.{Frame, with_slots, innermost_changed}
use Rattle.dc_code.specs.Inner.{Forms}
use Rattle.dc_code.specs.Loops.{Form, Copies}
use Rattle.dc_code.specs.Machine.{machine, new_frame}
use Rattle.dc_code.specs.Troubles.{Computing, Slots}

-- ---- what is left on the stack

-- The limits and steps that a header leaves, three values for each index, the step of the last one on top.
abbrev pub spans_in : List Item → List Span
spans_in (Item.Value first ∷ Item.Value last ∷ Item.Value step ∷ items) = record { first = first; last = last; step = step } ∷ spans_in items
spans_in items = []

abbrev pub is_true_on_top : List Item → Bool
is_true_on_top (Item.Value z ∷ items) = truth z
is_true_on_top items = false

-- ---- slots

-- The slots of a part whose first groups are in these states; the others are undefined.
abbrev pub slots_beginning : Slots → Slots → Slots
slots_beginning given all = given ++ drop (length given) all

-- A frame at the start of a part, whose first groups are in these states.
abbrev pub frame_with : CodeLists → ℕ → Slots → Frame
frame_with code entry given = innermost_changed (λ unit. with_slots (slots_beginning given unit.slots) unit) (new_frame code entry)

abbrev pub index_slots : List ℤ → Slots
index_slots at = map (λ z. Some z ∷ []) at

-- The LOCAL and LOCAL_INIT variables of an iteration at its start, in declared order: undefined, or as the
-- copies are, in turn.
abbrev pub local_slots : Copies → List (Locality × ℕ) → Slots
local_slots copies [] = []
local_slots copies ((Locality.Local, elements) ∷ rest) = replicate elements None ∷ local_slots copies rest
local_slots copies ((Locality.LocalInit, elements) ∷ rest) = take elements copies ∷ local_slots (drop elements copies) rest
local_slots copies (other ∷ rest) = local_slots copies rest

-- ---- localities

abbrev pub locality_in : ConstructCode → ℕ → Locality
locality_in construct variable = by (slice_get construct.localities variable)
  where
    by : Option Locality → Locality
    by (Some locality) = locality
    by None = Locality.Plain

abbrev pub kind_in : CodeLists → ℕ → Kind
kind_in code variable = by (slice_get code.shapes variable)
  where
    by : Option Shape → Kind
    by (Some shape) = shape.kind
    by None = Kind.K4

-- the variables with their localities and sizes
abbrev pub sized_localities : CodeLists → ConstructCode → List (Locality × ℕ)
sized_localities code construct = map (λ variable. (locality_in construct variable, elements_of_shape (slice_get code.shapes variable))) (range_with_len 0 (length code.shapes))

abbrev pub is_copied : Locality → Bool
is_copied Locality.LocalInit = true
is_copied locality = false

abbrev pub is_combined : Locality → Bool
is_combined (Locality.Reduce op) = true
is_combined locality = false

-- The elements of the variables whose locality is such, in store order.
abbrev pub elements_where : (Locality → Bool) → CodeLists → ConstructCode → List ElementId
elements_where holds code construct =
    flat_map (λ variable. if holds (locality_in construct variable) then elements_of_variable code variable else []) (range_with_len 0 (length code.shapes))

-- ---- the loop

abbrev pub mask_run : CodeLists → ℕ → Option ℕ → List ℤ → Computing Bool
mask_run code turns None at = give true
mask_run code turns (Some mask) at = sequence (machine code mask (frame_with code mask (index_slots at)) turns) (λ w. give (is_true_on_top (w.0).stack))

abbrev pub body_run : CodeLists → ConstructCode → ℕ → Copies → List ℤ → Computing ℕ
body_run code construct turns copies at =
    let given = index_slots at ++ local_slots copies (sized_localities code construct) in
    sequence (machine code construct.body (frame_with code construct.body given) turns) (λ w. give w.1)

-- The loop, where each mask and each iteration has so many turns.
abbrev pub form_in : CodeLists → ℕ → ConstructCode → Form
form_in code turns construct = record {
  line = construct.line;
  localities = record { locality = locality_in construct; kind = kind_in code; passed = λ variable. false };
  copied = elements_where is_copied code construct;
  combines = elements_where is_combined code construct;
  header = λ left. sequence (machine code construct.header (new_frame code construct.header) left) (λ w. give (spans_in (reverse (w.0).stack), w.1));
  mask = mask_run code turns construct.mask;
  block = body_run code construct turns;
}

-- A loop that isn't there: no iteration. No well-formed code enters it.
abbrev pub no_form : Form
no_form = record {
  line = 0;
  localities = record { locality = λ variable. Locality.Plain; kind = λ variable. Kind.K4; passed = λ variable. false };
  copied = [];
  combines = [];
  header = λ left. give (record { first = pos 1; last = pos 0; step = pos 1 } ∷ [], left);
  mask = λ at. give false;
  block = λ copies at. give 0;
}

-- The loops of a code, by their numbers. They stand in the main program, so nothing is around them.
abbrev pub code_forms : CodeLists → ℕ → Forms
code_forms code turns number slots = by (slice_get code.constructs number)
  where
    by : Option ConstructCode → Form
    by (Some construct) = form_in code turns construct
    by None = no_form
