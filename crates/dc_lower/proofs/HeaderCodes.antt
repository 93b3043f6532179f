-- The code of a header leaves the limits and the step that the header means.
use Rattle.std.proofs.Common.{◌≡◌, ℕ, suc, ◌+◌, true, List, [], ◌∷◌, ◌++◌, length, None, refl, sym, ap, ◌∙◌, subst, append_assoc, append-nil}
use Rattle.std.proofs.lemmas.List.{reverse-reverse}
use Rattle.std.specs.Int.{int_wrap}
use Rattle.std.specs.Prelude.{ℤ, pos, reverse}
use Rattle.dc_int.specs.declared.kind.Kind.{Kind}
use Rattle.dc_int.specs.Kinds.{wrapped}
use Rattle.dc_int.specs.Sorts.{Sort, whole, fitted}
use Rattle.dc_code.specs.declared.frame.Item.{Item}
use Rattle.dc_code.specs.declared.instr.What.{What}
use Rattle.dc_code.specs.Codes.{CodeLists}
use Rattle.dc_code.specs.CodeForms.{spans_in}
use Rattle.dc_code.specs.Combinations.{Span}
use Rattle.dc_code.specs.Computation.{give, sequence}
use Rattle.dc_code.specs.Frames.{Frame, pushed, with_stack}
use Rattle.dc_code.specs.Machine.{machine}
use Rattle.dc_code.specs.Troubles.{Computing}
use Rattle.dc_code.proofs.Sequences.{sequence-then, same-then}
use Rattle.dc_tree.specs.Entities.{Scope}
use Rattle.dc_tree.specs.Statements.{Ranging}
use Rattle.dc_meaning.specs.Acts.{State, just, for_each}
use Rattle.dc_meaning.specs.Execution.{span_of, step_value, checked_span}
use Rattle.dc_meaning.specs.Values.{Callee, value}
use Rattle.dc_actions.specs.Expressions.{value_code, is_usable}
use Rattle.dc_lower.specs.Heading.{items_of, stack_of}
use Rattle.dc_actions.specs.Limits.{step_code, limits_code}
use Rattle.dc_actions.specs.Placed.{StandAt, HaveNames}
use Rattle.dc_actions.proofs.Going.{machine-goes, machine-step}
use Rattle.dc_actions.proofs.OperatorLaws.{gives-unit, sequence-give}
use Rattle.dc_actions.proofs.DeedLaws.{all-values-left}
use Rattle.dc_actions.proofs.Placing.{stand-left, stand-right, stand-rest, stand-first, stepped}

abbrev spanning : Kind → ℤ → ℤ → Span
spanning its_kind first last = record { first = wrapped its_kind first; last = wrapped its_kind last; step = pos 1 }

-- a step of 1 is left as it is, and isn't zero
one-wrapped : (its_kind : Kind) → fitted (whole its_kind) (pos 1) ≡ pos 1
unfolding int_wrap
one-wrapped Kind.K1 = refl
one-wrapped Kind.K2 = refl
one-wrapped Kind.K4 = refl
one-wrapped Kind.K8 = refl

one-checked : (line : ℕ) (its_kind : Kind) (first last : ℤ)
    → checked_span line (record { first = fitted (whole its_kind) first; last = fitted (whole its_kind) last; step = fitted (whole its_kind) (pos 1) }) ≡ just (spanning its_kind first last)
one-checked line its_kind first last = ap (λ step. checked_span line (record { first = wrapped its_kind first; last = wrapped its_kind last; step = step })) (one-wrapped its_kind)

-- ---- spans on the stack

-- A frame with spans alone on its stack, and the turns left.
abbrev pub left_on : Frame → List Span × ℕ → Computing (Frame × ℕ)
left_on frame w = give (with_stack (stack_of w.0) frame, w.1)

spans-of-items : (spans : List Span) → spans_in (items_of spans) ≡ spans
spans-of-items [] = refl
spans-of-items (span ∷ spans) = ap (λ found. span ∷ found) (spans-of-items spans)

-- The spans of a stack are found again.
pub spans-of-stack : (spans : List Span) → spans_in (reverse (stack_of spans)) ≡ spans
spans-of-stack spans = ap spans_in (reverse-reverse (items_of spans)) ∙ spans-of-items spans

-- So a run that leaves the spans of a header tells what the header does.
pub found-again : (frame : Frame) (header : Computing (List Span × ℕ)) (run : Computing (Frame × ℕ)) → run ≡ sequence header (left_on frame)
    → sequence run (λ w. give (spans_in (reverse (w.0).stack), w.1)) ≡ header
found-again frame header run leaves =
    ap (λ c. sequence c told) leaves
    ∙ sequence-then header (left_on frame) told
    ∙ same-then (λ w. Unit {0}) header (λ w. give (spans_in (reverse (stack_of w.0)), w.1)) (λ w. give w) (gives-unit header) (λ w any. ap (λ (spans : List Span). give (spans, w.1)) (spans-of-stack w.0))
    ∙ sequence-give header
  where
    told : Frame × ℕ → Computing (List Span × ℕ)
    told w = give (spans_in (reverse (w.0).stack), w.1)

-- ---- the code

module _ (scope : Scope) (call : Callee) (line : ℕ) (its_kind : Kind) (ranging : Ranging) (none : ranging.step ≡ None) where
  -- what follows both limits
  abbrev Between : {B : Type 0} → State → (ℤ → ℤ → State → Computing B) → Computing B
  Between state next = sequence (value scope call line ranging.first state) (λ w. sequence (value scope call line ranging.last w.1) (λ v. next w.0 v.0 v.1))

  span-between : {B : Type 0} (sort : Sort) → sort ≡ whole its_kind → (state : State) (rest : Span × State → Computing B)
      → sequence (span_of scope call line sort ranging state) rest ≡ Between state (λ a b after. rest (spanning its_kind a b, after))
  span-between sort sorted state rest =
      (λ i. sequence (sequence (value scope call line ranging.first state) (λ w. sequence (value scope call line ranging.last w.1)
      (λ v. sequence (step_value scope call line (none i) v.1) (λ u. checked_span line (record { first = fitted (sorted i) w.0; last = fitted (sorted i) v.0; step = fitted (sorted i) u.0 }) u.1)))) rest)
      ∙ (λ i. sequence (Between state (λ a b after. one-checked line its_kind a b i after)) rest)
      ∙ sequence-then (value scope call line ranging.first state) (λ w. sequence (value scope call line ranging.last w.1) (λ v. give (spanning its_kind w.0 v.0, v.1))) rest
      ∙ (λ i. sequence (value scope call line ranging.first state) (λ w. sequence-then (value scope call line ranging.last w.1) (λ v. give (spanning its_kind w.0 v.0, v.1)) rest i))

  -- ---- the instructions

  abbrev behind_last : List What
  behind_last = What.Wrap its_kind ∷ What.Const its_kind (pos 1) ∷ What.End ∷ []

  abbrev behind_first : List What
  behind_first = What.Wrap its_kind ∷ (value_code scope ranging.last ++ behind_last)

  limits-are : (limits_code scope its_kind ranging ++ []) ++ What.End ∷ [] ≡ value_code scope ranging.first ++ behind_first
  limits-are =
      let first = value_code scope ranging.first in
      let last = value_code scope ranging.last in
      let wrap : List What = What.Wrap its_kind ∷ [] in
      ap (λ whats. whats ++ What.End ∷ []) (append-nil (limits_code scope its_kind ranging))
      ∙ (λ i. (first ++ (What.Wrap its_kind ∷ (last ++ (What.Wrap its_kind ∷ step_code scope its_kind (none i))))) ++ What.End ∷ [])
      ∙ append_assoc first (What.Wrap its_kind ∷ (last ++ (What.Wrap its_kind ∷ What.Const its_kind (pos 1) ∷ []))) (What.End ∷ [])
      ∙ ap (λ whats. first ++ (What.Wrap its_kind ∷ whats)) (append_assoc last (What.Wrap its_kind ∷ What.Const its_kind (pos 1) ∷ []) (What.End ∷ []))

  abbrev left_with : Frame → ℤ → ℤ → Frame
  left_with frame a b = pushed (Item.Value (pos 1)) (pushed (Item.Value (wrapped its_kind b)) (pushed (Item.Value (wrapped its_kind a)) frame))

  module _ (code : CodeLists) (names : (frame : Frame) (state : State) → HaveNames code scope frame state)
      (first-usable : is_usable scope ranging.first ≡ true) (last-usable : is_usable scope ranging.last ≡ true) (frame : Frame) (state : State) where
    behind-last : (at : ℕ) (a b : ℤ) → StandAt code line at behind_last
        → machine code at (pushed (Item.Value b) (pushed (Item.Value (wrapped its_kind a)) frame)) state.turns ≡ give (left_with frame a b, state.turns)
    behind-last at a b stand =
        let one = stand-rest at (What.Wrap its_kind) (What.Const its_kind (pos 1) ∷ What.End ∷ []) stand in
        stepped (machine-goes code) at (What.Wrap its_kind) (What.Const its_kind (pos 1) ∷ What.End ∷ []) (pushed (Item.Value b) (pushed (Item.Value (wrapped its_kind a)) frame)) state.turns stand refl
        ∙ stepped (machine-goes code) (suc at) (What.Const its_kind (pos 1)) (What.End ∷ []) (pushed (Item.Value (wrapped its_kind b)) (pushed (Item.Value (wrapped its_kind a)) frame)) state.turns one refl
        ∙ machine-step code (suc (suc at)) line What.End (left_with frame a b) state.turns (stand-first (suc (suc at)) What.End [] (stand-rest (suc at) (What.Const its_kind (pos 1)) (What.End ∷ []) one))

    behind-first : (at : ℕ) (a : ℤ) → StandAt code line at behind_first
        → machine code at (pushed (Item.Value a) frame) state.turns ≡ sequence (value scope call line ranging.last state) (λ v. give (left_with frame a v.0, (v.1).turns))
    behind-first at a stand =
        let last = value_code scope ranging.last in
        let later = stand-rest at (What.Wrap its_kind) (last ++ behind_last) stand in
        let wrapped_frame = pushed (Item.Value (wrapped its_kind a)) frame in
        stepped (machine-goes code) at (What.Wrap its_kind) (last ++ behind_last) (pushed (Item.Value a) frame) state.turns stand refl
        ∙ all-values-left code scope call line ranging.last last-usable (suc at) wrapped_frame state (names wrapped_frame state) (stand-left last behind_last later)
        (λ v. give (left_with frame a v.0, (v.1).turns))
        (λ b. behind-last (suc at + length last) a b (stand-right (suc at) last behind_last later))

    limits-law : (at : ℕ) → StandAt code line at ((limits_code scope its_kind ranging ++ []) ++ What.End ∷ [])
        → machine code at frame state.turns ≡ Between state (λ a b after. give (left_with frame a b, after.turns))
    limits-law at stand =
        let first = value_code scope ranging.first in
        let whole_stand = subst (StandAt code line at) limits-are stand in
        all-values-left code scope call line ranging.first first-usable at frame state (names frame state) (stand-left first behind_first whole_stand)
        (λ w. sequence (value scope call line ranging.last w.1) (λ v. give (left_with frame w.0 v.0, (v.1).turns)))
        (λ a. behind-first (at + length first) a (stand-right at first behind_first whole_stand))

    abbrev meant : Sort → Computing (List Span × ℕ)
    meant sort = sequence (for_each (span_of scope call line sort) (ranging ∷ []) state) (λ w. give (w.0, (w.1).turns))

    -- Where the stack was empty the spans stand on it, and the frame is otherwise as it was.
    pub header-law : (at : ℕ) (sort : Sort) → sort ≡ whole its_kind → frame.stack ≡ [] → StandAt code line at ((limits_code scope its_kind ranging ++ []) ++ What.End ∷ [])
        → machine code at frame state.turns ≡ sequence (meant sort) (left_on frame)
    header-law at sort sorted empty stand =
        limits-law at stand
        ∙ (λ i. Between state (λ a b after. give (with_stack (Item.Value (pos 1) ∷ Item.Value (wrapped its_kind b) ∷ Item.Value (wrapped its_kind a) ∷ empty i) frame, after.turns)))
        ∙ sym (span-between sort sorted state (λ w. left_on frame (w.0 ∷ [], (w.1).turns)))
        ∙ sym (sequence-then (span_of scope call line sort ranging state) (λ w. give (w.0 ∷ [], w.1)) (λ w. left_on frame (w.0, (w.1).turns)))
        ∙ sym (sequence-then (for_each (span_of scope call line sort) (ranging ∷ []) state) (λ w. give (w.0, (w.1).turns)) (left_on frame))
