-- SUM, COUNT, ANY and ALL, one value after another.
use Rattle.std.proofs.Common.{◌≡◌, ◌<◌, ℕ, suc, ◌+◌, Bool, true, false, List, [], ◌∷◌, length, Option, Some, refl, sym, ap, ◌∙◌, subst, arith}
use Rattle.std.proofs.lemmas.Int.{ints, int_wrap_fits, int_wrap-add_left}
use Rattle.std.specs.Prelude.{ℤ, pos, ◌+ℤ◌, ◌||◌, ◌&&◌, filter, Result, Err, if◌then◌else◌, FitsSigned}
use Rattle.std.specs.Int.{w32}
use Rattle.std.specs.List.{list_any, list_all}
use Rattle.dc_int.specs.declared.access.ElementId.{ElementId}
use Rattle.dc_int.specs.declared.kind.Kind.{Kind}
use Rattle.dc_int.specs.declared.operation.ReduceOp.{ReduceOp}
use Rattle.dc_int.specs.declared.variable.Shape.{Shape}
use Rattle.dc_int.specs.Entries.{Entry}
use Rattle.dc_int.specs.Store.{Store}
use Rattle.dc_int.specs.Kinds.{wrapped}
use Rattle.dc_int.specs.Reductions.{truth, number_of_truth}
use Rattle.dc_code.specs.declared.frame.Item.{Item}
use Rattle.dc_code.specs.declared.instr.Folding.{Folding}
use Rattle.dc_code.specs.declared.plan.Group.{Group}
use Rattle.dc_code.specs.Closing.{combined_with}
use Rattle.dc_code.specs.Codes.{CodeLists, element, elements_of_variable}
use Rattle.dc_code.specs.Computation.{give, sequence, done}
use Rattle.dc_code.specs.Frames.{Frame, pushed}
use Rattle.dc_code.specs.Instructions.{folded, folding_pushed, slot_folding_pushed}
use Rattle.dc_code.specs.OverCells.{over_cells}
use Rattle.dc_code.specs.Reaching.{element_read, all_read, all_required, group_slots}
use Rattle.dc_code.specs.Troubles.{Computing}
use Rattle.dc_code.proofs.Sequences.{sequence-then}
use Rattle.dc_steps.specs.declared.halt.Halt.{Halt}
use Rattle.dc_steps.specs.Elementwise.{elements_from, folded_first, folded_further, folded_from, elements_folded, states_folded}
use Rattle.dc_steps.specs.Halting.{Gives, Leaves, Reaches, LeavesBoth}
use Rattle.dc_steps.specs.Working.{value_pushed}
use Rattle.dc_steps.proofs.Behind.{gives_alike, halts_alike, reaches_as, read_more, read_halts, required_more}
use Rattle.dc_steps.proofs.Leading.{then_leaves}
use Rattle.dc_steps.proofs.Rest.{elements_more}

sum-from : (kind : Kind) (before : ℤ) (zs : List ℤ) → folded_from Folding.Sum kind before zs ≡ combined_with ReduceOp.Add kind before zs
sum-from kind before [] = refl
sum-from kind before (z ∷ zs) = sum-from kind (folded_further Folding.Sum kind before z) zs

truth-back : (b : Bool) → truth (number_of_truth b) ≡ b
truth-back true = refl
truth-back false = refl

any-from : (kind : Kind) (b : Bool) (zs : List ℤ) → folded_from Folding.Any kind (number_of_truth b) zs ≡ number_of_truth (b || list_any truth zs)
any-from kind true [] = refl
any-from kind false [] = refl
any-from kind true (z ∷ zs) = any-from kind true zs
any-from kind false (z ∷ zs) = any-from kind (truth z) zs

all-from : (kind : Kind) (b : Bool) (zs : List ℤ) → folded_from Folding.All kind (number_of_truth b) zs ≡ number_of_truth (b && list_all truth zs)
all-from kind true [] = refl
all-from kind false [] = refl
all-from kind true (z ∷ zs) = all-from kind (truth z) zs
all-from kind false (z ∷ zs) = all-from kind false zs

-- how many truths there are in front
abbrev counted_truths : Bool → ℕ → ℕ
counted_truths true n = suc n
counted_truths false n = n

count-one : (b : Bool) (n m : ℕ) → (pos n +ℤ number_of_truth b) +ℤ pos m ≡ pos n +ℤ pos (counted_truths b m)
count-one true n m = omega (arith, ints)
count-one false n m = omega (arith, ints)

filter-one : (z : ℤ) (zs : List ℤ) → length (filter truth (z ∷ zs)) ≡ counted_truths (truth z) (length (filter truth zs))
filter-one z zs = elim (truth z) as (λ b. length (if b then z ∷ filter truth zs else filter truth zs) ≡ counted_truths b (length (filter truth zs))) [ true ↦ refl | false ↦ refl ]

one-more : (b : Bool) (n : ℕ) → pos n +ℤ number_of_truth b ≡ pos (counted_truths b n)
one-more true n = omega (arith, ints)
one-more false n = omega (arith, ints)

count-from : (kind : Kind) (n : ℕ) (zs : List ℤ) → folded_from Folding.Count kind (wrapped Kind.K4 (pos n)) zs ≡ wrapped Kind.K4 (pos n +ℤ pos (length (filter truth zs)))
count-from kind n [] = let e : pos n ≡ pos n +ℤ pos 0 = omega (arith, ints) in ap (wrapped Kind.K4) e
count-from kind n (z ∷ zs) =
    let further : wrapped Kind.K4 (wrapped Kind.K4 (pos n) +ℤ number_of_truth (truth z)) ≡ wrapped Kind.K4 (pos (counted_truths (truth z) n)) =
    int_wrap-add_left w32 (pos n) (number_of_truth (truth z)) ∙ ap (wrapped Kind.K4) (one-more (truth z) n) in
    ap (λ before. folded_from Folding.Count kind before zs) further
    ∙ (count-from kind (counted_truths (truth z) n) zs
    ∙ ap (wrapped Kind.K4) (ap (λ w. w +ℤ pos (length (filter truth zs))) (sym (one-more (truth z) n)) ∙ count-one (truth z) n (length (filter truth zs)) ∙ ap (λ m. pos n +ℤ pos m) (sym (filter-one z zs))))

zero-wrapped : wrapped Kind.K4 (pos 0) ≡ pos 0
zero-wrapped = let fits : FitsSigned w32 (pos 0) = omega (arith, ints) in int_wrap_fits w32 (pos 0) fits

-- All of them, begun with what is made of none.
pub folded_is : (folding : Folding) (kind : Kind) (zs : List ℤ) → folded_from folding kind (folded_first folding) zs ≡ folded folding kind zs
folded_is Folding.Sum kind zs = sum-from kind (pos 0) zs
folded_is Folding.Count kind zs =
    ap (λ before. folded_from Folding.Count kind before zs) (sym zero-wrapped)
    ∙ (count-from kind 0 zs ∙ ap (wrapped Kind.K4) (none (length (filter truth zs))))
  where
    none : (n : ℕ) → pos 0 +ℤ pos n ≡ pos n
    none n = omega (arith, ints)
folded_is Folding.Any kind zs = any-from kind false zs
folded_is Folding.All kind zs = all-from kind true zs

-- ---- what is left to be read, with what is made so far

abbrev pub folded_onto : CodeLists → ℕ → Folding → Kind → ℤ → List ElementId → Computing ℤ
folded_onto code line folding kind before elements = sequence (all_read code line elements) (λ zs. give (folded_from folding kind before zs))

abbrev pub states_onto : ℕ → Folding → Kind → ℤ → List (Option ℤ) → Computing ℤ
states_onto line folding kind before states = sequence (all_required line states) (λ zs. give (folded_from folding kind before zs))

pub elements_first : (code : CodeLists) (line : ℕ) (folding : Folding) (kind : Kind) (elements : List ElementId)
    → elements_folded code line folding kind elements ≡ folded_onto code line folding kind (folded_first folding) elements
elements_first code line folding kind elements = λ i. sequence (all_read code line elements) (λ zs. give (sym (folded_is folding kind zs) i))

pub states_first : (line : ℕ) (folding : Folding) (kind : Kind) (states : List (Option ℤ))
    → states_folded line folding kind states ≡ states_onto line folding kind (folded_first folding) states
states_first line folding kind states = λ i. sequence (all_required line states) (λ zs. give (sym (folded_is folding kind zs) i))

-- ---- one value more

pub states_more : (line : ℕ) (folding : Folding) (kind : Kind) (before z after : ℤ) (states more : List (Option ℤ))
    → states ≡ Some z ∷ more → after ≡ folded_further folding kind before z
    → states_onto line folding kind before states ≡ states_onto line folding kind after more
states_more line folding kind before z after states more is same =
    ap (states_onto line folding kind before) is
    ∙ (required_more line z more (λ zs. give (folded_from folding kind before zs))
    ∙ ap (λ after. states_onto line folding kind after more) (sym same))

module _ {M : Type 0} (code : CodeLists) (shown : M → Store) (after : Entry → M → M) (line : ℕ) (held now : M) (folding : Folding) (kind : Kind) (variable position count : ℕ) (before : ℤ) (less : position < count) where
  pub folded_more : (z further : ℤ) → over_cells shown after held (element_read code line (element variable position)) ≡ record { meaning = now; reached = done z }
      → further ≡ folded_further folding kind before z
      → over_cells shown after held (folded_onto code line folding kind before (elements_from variable position count))
      ≡ over_cells shown after now (folded_onto code line folding kind further (elements_from variable (position + 1) count))
  folded_more z further reached same =
      ap (λ elements. over_cells shown after held (folded_onto code line folding kind before elements)) (elements_more variable position count less)
      ∙ (read_more code shown after line held now (element variable position) (elements_from variable (position + 1) count) z (λ zs. give (folded_from folding kind before zs)) reached
      ∙ ap (λ further. over_cells shown after now (folded_onto code line folding kind further (elements_from variable (position + 1) count))) (sym same))

  pub folded_stops : (halt : Halt) → Reaches line (Err halt) (λ (z : ℤ). z) now (over_cells shown after held (element_read code line (element variable position)))
      → Reaches line (Err halt) (λ (z : ℤ). z) now (over_cells shown after held (folded_onto code line folding kind before (elements_from variable position count)))
  folded_stops halt halts =
      reaches_as line (Err halt) (λ (z : ℤ). z) now _ _
      (ap (λ elements. over_cells shown after held (folded_onto code line folding kind before elements)) (elements_more variable position count less))
      (read_halts code shown after line held now (element variable position) (elements_from variable (position + 1) count) halt (λ (z : ℤ). z) (λ zs. give (folded_from folding kind before zs)) halts)

-- ---- what is made of them is pushed

abbrev pushing : Frame → ℤ → Computing Frame
pushing frame z = give (pushed (Item.Value z) frame)

module _ {M : Type 0} (code : CodeLists) (shown : M → Store) (after : Entry → M → M) (held now : M) (line : ℕ) (folding : Folding) (variable : ℕ) (found : Option Shape) (shape : Shape) (is : found ≡ Some shape) (frame : Frame) where
  made-first : folding_pushed code line folding variable found frame ≡ sequence (elements_folded code line folding shape.kind (elements_of_variable code variable)) (pushing frame)
  made-first =
      ap (λ found. folding_pushed code line folding variable found frame) is
      ∙ sym (sequence-then (all_read code line (elements_of_variable code variable)) (λ zs. give (folded folding shape.kind zs)) (pushing frame))

  pub folding_so : {U : Type 0} (z given : ℤ) (result : Result U Halt) (left : Frame)
      → over_cells shown after held (elements_folded code line folding shape.kind (elements_of_variable code variable)) ≡ record { meaning = now; reached = done z }
      → given ≡ z → Leaves line result left (value_pushed given frame)
      → LeavesBoth line result left now (over_cells shown after held (folding_pushed code line folding variable found frame))
  folding_so z given result left reached same leaves =
      reaches_as line result (λ a. left) now _ _ (ap (over_cells shown after held) made-first)
      (then_leaves shown after held now (elements_folded code line folding shape.kind (elements_of_variable code variable)) z reached line result left (pushing frame)
      (subst (λ z. Leaves line result left (value_pushed z frame)) same leaves))

  pub folding_halts : (U : Type 0) (halt : Halt) (left : Frame)
      → Reaches line (Err halt) (λ (z : ℤ). z) now (over_cells shown after held (elements_folded code line folding shape.kind (elements_of_variable code variable)))
      → LeavesBoth {A = U} line (Err halt) left now (over_cells shown after held (folding_pushed code line folding variable found frame))
  folding_halts U halt left halts =
      reaches_as line (Err halt) (λ (a : U). left) now _ _ (ap (over_cells shown after held) made-first)
      (halts_alike line halt (λ (z : ℤ). z) (λ (a : U). left) shown after held now (elements_folded code line folding shape.kind (elements_of_variable code variable)) (pushing frame) halts)

module _ (line : ℕ) (folding : Folding) (group : ℕ) (found : Option Group) (planned : Group) (is : found ≡ Some planned) (frame : Frame) where
  states-first : slot_folding_pushed line folding group found frame ≡ sequence (states_folded line folding planned.kind (group_slots frame group)) (pushing frame)
  states-first =
      ap (λ found. slot_folding_pushed line folding group found frame) is
      ∙ sym (sequence-then (all_required line (group_slots frame group)) (λ zs. give (folded folding planned.kind zs)) (pushing frame))

  pub slot_folding_so : {U : Type 0} (states : List (Option ℤ)) (z given : ℤ) (result : Result U Halt) (left : Frame)
      → states ≡ group_slots frame group → states_folded line folding planned.kind states ≡ give z
      → given ≡ z → Leaves line result left (value_pushed given frame) → Leaves line result left (slot_folding_pushed line folding group found frame)
  slot_folding_so states z given result left those made same leaves =
      subst (Leaves line result left)
      (sym (states-first ∙ (ap (λ states. sequence (states_folded line folding planned.kind states) (pushing frame)) (sym those) ∙ ap (λ c. sequence c (pushing frame)) made)))
      (subst (λ z. Leaves line result left (value_pushed z frame)) same leaves)

  pub slot_folding_halts : (U : Type 0) (states : List (Option ℤ)) (halt : Halt) (left : Frame)
      → states ≡ group_slots frame group → Gives line (Err halt) (λ (z : ℤ). z) (states_folded line folding planned.kind states)
      → Leaves {A = U} line (Err halt) left (slot_folding_pushed line folding group found frame)
  slot_folding_halts U states halt left those halts =
      subst (Leaves {A = U} line (Err halt) left)
      (sym (states-first ∙ ap (λ states. sequence (states_folded line folding planned.kind states) (pushing frame)) (sym those)))
      (gives_alike line halt (λ (z : ℤ). z) (λ (a : U). left) (states_folded line folding planned.kind states) (pushing frame) halts)
