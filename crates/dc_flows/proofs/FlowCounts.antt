-- The head and the step of a counted DO.
use Rattle.std.proofs.Common.{◌≡◌, ◌<◌, ◌≤◌, ℕ, zero, suc, ◌+◌, Bool, true, false, cond, List, [], ◌∷◌, ◌++◌, length, Option, Some, None, refl, sym, ap, ◌∙◌, subst, arith}
use Rattle.std.proofs.lemmas.Bool.{lt-leb}
use Rattle.std.proofs.lemmas.Int.{ints}
use Rattle.std.proofs.lemmas.List.{length-append}
use Rattle.std.specs.Prelude.{ℤ, pos, negsuc, ◌+ℤ◌, ◌-ℤ◌, int_le, min, not, ◌&&◌}
use Rattle.dc_int.specs.declared.fault.FaultKind.{FaultKind}
use Rattle.dc_int.specs.declared.kind.Kind.{Kind}
use Rattle.dc_int.specs.declared.operation.Op.{Op}
use Rattle.dc_int.specs.Kinds.{wrapped}
use Rattle.dc_int.specs.Reductions.{truth, number_of_truth}
use Rattle.dc_int.specs.Sorts.{Sort, whole, fitted}
use Rattle.dc_code.specs.declared.frame.Item.{Item}
use Rattle.dc_code.specs.declared.frame.Place.{Place}
use Rattle.dc_code.specs.declared.instr.Relation.{Relation}
use Rattle.dc_code.specs.declared.instr.What.{What}
use Rattle.dc_code.specs.declared.plan.Group.{Group}
use Rattle.dc_code.specs.Codes.{CodeLists, element}
use Rattle.dc_code.specs.Combinations.{Span, has_zero_step, value_count}
use Rattle.dc_code.specs.Computation.{give, define, sequence}
use Rattle.dc_code.specs.Frames.{Frame, pushed}
use Rattle.dc_code.specs.Instructions.{Going, compares, greatest_rounds}
use Rattle.dc_code.specs.Operands.{faulty}
use Rattle.dc_code.specs.Troubles.{Computing}
use Rattle.dc_code.proofs.Sequences.{sequence-then}
use Rattle.dc_tree.specs.Entities.{Entity, outside, Scope, entity}
use Rattle.dc_tree.specs.Operating.{is_equal}
use Rattle.dc_tree.specs.Statements.{Name, Ranging}
use Rattle.dc_tree.specs.Syntax.{Tree}
use Rattle.dc_meaning.specs.Acts as acts
use Rattle.dc_meaning.specs.Acts.{State, just, wrong}
use Rattle.dc_meaning.specs.Execution.{span_of, step_value, checked_span, stepped}
use Rattle.dc_meaning.specs.Values.{Callee, value}
use Rattle.dc_actions.specs.Expressions.{value_code, entity_code, is_usable}
use Rattle.dc_actions.specs.Limits.{step_is_usable, step_code}
use Rattle.dc_actions.specs.Placed.{StandAt, HaveNames, Alike}
use Rattle.dc_actions.proofs.AssignmentLaws.{store-law}
use Rattle.dc_actions.proofs.Converting.{fitted-twice, truth-back}
use Rattle.dc_actions.proofs.Expressions.{value-law}
use Rattle.dc_actions.proofs.FillingLaws.{held_at}
use Rattle.dc_actions.proofs.Kept.{put_slot, put-alike, put-there, alike-then}
use Rattle.dc_actions.proofs.OperatorLaws.{arith-law, outside-law, pushed-names, plus-none}
use Rattle.dc_actions.proofs.Placing.{stand-left, stand-right, stand-rest}
use Rattle.dc_actions.proofs.Placing as placing
use Rattle.dc_flows.specs.Flows.{keep_code, fetch_code, test_code, scalar_group, store_code, counted_head, counted_step}
use Rattle.dc_flows.proofs.FlowGoing.{FlowsAs, flows-go, false-law}
use Rattle.dc_flows.proofs.FlowRuns.{turned, StandsAlways, stands-alike}
use Rattle.dc_flows.proofs.FlowSlots.{HasScalar, kept-scalar, alike-scalar, fits-eight, keep-law, fetch-law, put-holds}

pub pushed-scalar : {code : CodeLists} {frame : Frame} {group : ℕ} {sort : Sort} (item : Item) → HasScalar code frame group sort → HasScalar code (pushed item frame) group sort
pushed-scalar item has = record { planned = has.planned; room = has.room }

pub zero-same : (s : ℤ) → is_equal s (pos 0) ≡ has_zero_step (record { first = s; last = s; step = s })
zero-same (pos zero) = refl
zero-same (pos (suc n)) = ap (λ b. b && int_le (pos 0) (pos (suc n))) (lt-leb (suc n) 0 (omega arith))
zero-same (negsuc n) = refl

module _ {code : CodeLists} {go : Going} (flows : FlowsAs code go) (scope : Scope) (call : Callee) (frames : List acts.Frame) (line : ℕ) (text : Name) (variable : ℕ) (its_kind : Kind)
    (is : entity scope text ≡ outside variable (whole its_kind) []) (free : ℕ) (inside : List Group) where
  -- ---- what is kept

  abbrev pub counter : Entity
  counter = outside variable (whole its_kind) []

  abbrev pub counter_place : Place
  counter_place = Place.Outer (element variable 0)

  abbrev pub counted_groups : List Group
  counted_groups = scalar_group (whole its_kind) ∷ scalar_group (whole its_kind) ∷ scalar_group (whole Kind.K8) ∷ inside

  abbrev pub Ready : Frame → Type 0
  Ready frame = StandsAlways code scope frames frame free counted_groups

  pub first-scalar : (frame : Frame) → Ready frame → HasScalar code frame free (whole its_kind)
  first-scalar frame ready = subst (λ group. HasScalar code frame group (whole its_kind)) (sym (plus-none free)) (kept-scalar 0 (whole its_kind) (ready 0).kept refl)

  pub step-scalar : (frame : Frame) → Ready frame → HasScalar code frame (free + 1) (whole its_kind)
  step-scalar frame ready = kept-scalar 1 (whole its_kind) (ready 0).kept refl

  pub left-scalar : (frame : Frame) → Ready frame → HasScalar code frame (free + 2) (whole Kind.K8)
  left-scalar frame ready = kept-scalar 2 (whole Kind.K8) (ready 0).kept refl

  -- A value on the stack is stored in the variable.
  pub store-scalar : (at : ℕ) (frame : Frame) (turns : ℕ) (z : ℤ) → HaveNames code scope frame (turned frames turns) → StandAt code line at (store_code counter)
      → go at (pushed (Item.Value z) frame) turns ≡ define (element variable 0) (fitted (whole its_kind) z) line (go (at + 2) frame turns)
  store-scalar at frame turns z names stand =
      store-law code go (flows-go flows) line at frame (turned frames turns) variable (whole its_kind) [] z [] (names.outer text variable (whole its_kind) [] is) refl stand (λ w. go (at + 2) frame turns) refl

  -- ---- the test

  abbrev pub rounds_test : List What
  rounds_test = fetch_code (free + 2) ++ What.Const Kind.K8 (pos 0) ∷ What.Compare Relation.Gt ∷ []

  pub tested-law : (at place : ℕ) (frame : Frame) (turns count : ℕ) → Ready frame → held_at frame (free + 2) 0 ≡ Some (pos count)
      → StandAt code line at (test_code rounds_test place) → at + 5 ≤ place
      → go at frame turns ≡ cond (truth (number_of_truth (compares Relation.Gt (pos count) (pos 0)))) (go (at + 5) frame turns) (go place frame turns)
  tested-law at place frame turns count ready held stand ahead =
      let rest = What.Const Kind.K8 (pos 0) ∷ What.Compare Relation.Gt ∷ What.JumpFalse place ∷ [] in
      let one = stand-right at (fetch_code (free + 2)) rest stand in
      let two = stand-rest (at + 2) (What.Const Kind.K8 (pos 0)) (What.Compare Relation.Gt ∷ What.JumpFalse place ∷ []) one in
      fetch-law (flows-go flows) at (free + 2) frame turns (whole Kind.K8) (pos count) (left-scalar frame ready) held (stand-left (fetch_code (free + 2)) rest stand)
      ∙ placing.stepped (flows-go flows) (at + 2) (What.Const Kind.K8 (pos 0)) (What.Compare Relation.Gt ∷ What.JumpFalse place ∷ []) (pushed (Item.Value (pos count)) frame) turns one refl
      ∙ placing.stepped (flows-go flows) (suc (at + 2)) (What.Compare Relation.Gt) (What.JumpFalse place ∷ []) (pushed (Item.Value (pos 0)) (pushed (Item.Value (pos count)) frame)) turns two refl
      ∙ false-law flows (suc (suc (at + 2))) [] place frame turns (number_of_truth (compares Relation.Gt (pos count) (pos 0)))
      (stand-rest (suc (at + 2)) (What.Compare Relation.Gt) (What.JumpFalse place ∷ []) two) (omega (arith, ahead))
      ∙ ap (λ next. cond (truth (number_of_truth (compares Relation.Gt (pos count) (pos 0)))) (go next frame turns) (go place frame turns)) there
    where
      there : suc (suc (at + 2)) + 1 ≡ at + 5
      there = omega arith

  pub more : (count : ℕ) → truth (number_of_truth (compares Relation.Gt (pos (suc count)) (pos 0))) ≡ true
  more count = truth-back (compares Relation.Gt (pos (suc count)) (pos 0)) ∙ ap not (lt-leb (suc count) 0 (omega arith))

  -- ---- behind a round

  -- One round fewer is left.
  fewer-law : (at : ℕ) (frame : Frame) (turns count : ℕ) → Ready frame → held_at frame (free + 2) 0 ≡ Some (pos (suc count)) → suc count ≤ greatest_rounds
      → StandAt code line at (fetch_code (free + 2) ++ (What.Const Kind.K8 (pos 1) ∷ What.Arith Op.Sub Kind.K8 ∷ keep_code (free + 2)))
      → go at frame turns ≡ go (at + 6) (put_slot (free + 2) 0 (Some (pos count)) frame) turns
  fewer-law at frame turns count ready held few stand =
      let last = What.Arith Op.Sub Kind.K8 ∷ keep_code (free + 2) in
      let one = stand-right at (fetch_code (free + 2)) (What.Const Kind.K8 (pos 1) ∷ last) stand in
      let two = stand-rest (at + 2) (What.Const Kind.K8 (pos 1)) last one in
      fetch-law (flows-go flows) at (free + 2) frame turns (whole Kind.K8) (pos (suc count)) (left-scalar frame ready) held (stand-left (fetch_code (free + 2)) (What.Const Kind.K8 (pos 1) ∷ last) stand)
      ∙ placing.stepped (flows-go flows) (at + 2) (What.Const Kind.K8 (pos 1)) last (pushed (Item.Value (pos (suc count))) frame) turns one refl
      ∙ arith-law code go (flows-go flows) line (suc (at + 2)) frame (turned frames turns) Op.Sub Kind.K8 (pos (suc count)) (pos 1) refl (stand-left (What.Arith Op.Sub Kind.K8 ∷ []) (keep_code (free + 2)) two)
      (λ w. go (suc (at + 2) + 1) (pushed (Item.Value w.0) frame) turns) (λ z. refl)
      ∙ keep-law (flows-go flows) (suc (at + 2) + 1) (free + 2) frame turns (whole Kind.K8) (wrapped Kind.K8 (pos (suc count) -ℤ pos 1)) (left-scalar frame ready)
      (stand-right (suc (at + 2)) (What.Arith Op.Sub Kind.K8 ∷ []) (keep_code (free + 2)) two)
      ∙ ap (λ kept. go (suc (at + 2) + 1 + 2) (put_slot (free + 2) 0 (Some kept) frame) turns) one-fewer
      ∙ ap (λ place. go place (put_slot (free + 2) 0 (Some (pos count)) frame) turns) there
    where
      there : suc (at + 2) + 1 + 2 ≡ at + 6
      there = omega arith

      minus : pos (suc count) -ℤ pos 1 ≡ pos count
      minus = omega (arith, ints)

      one-fewer : fitted (whole Kind.K8) (wrapped Kind.K8 (pos (suc count) -ℤ pos 1)) ≡ pos count
      one-fewer = fitted-twice (whole Kind.K8) (pos (suc count) -ℤ pos 1) ∙ ap (wrapped Kind.K8) minus ∙ fits-eight count (omega (arith, few))

  -- The variable is read and defined anew.
  pub step-law : (at : ℕ) (frame : Frame) (turns count : ℕ) (s : ℤ) → Ready frame → held_at frame (free + 1) 0 ≡ Some s → held_at frame (free + 2) 0 ≡ Some (pos (suc count)) → suc count ≤ greatest_rounds
      → StandAt code line at (counted_step free its_kind counter)
      → (K : Unit {0} × State → Computing (Frame × ℕ))
      → go (at + 13) (put_slot (free + 2) 0 (Some (pos count)) frame) turns ≡ K (tt, turned frames turns)
      → go at frame turns ≡ sequence (stepped line counter_place (whole its_kind) s (turned frames turns)) K
  step-law at frame turns count s ready held left few stand K later =
      outside-law code go (flows-go flows) call line at frame (turned frames turns) variable (whole its_kind) [] [] (stand-left (entity_code counter) second stand)
      (names.outer text variable (whole its_kind) [] is) refl after (λ z. added z)
      ∙ sym (sequence-then (acts.refer_to line counter_place (turned frames turns)) (λ w. acts.store line counter_place (fitted (whole its_kind) (w.0 +ℤ s)) w.1) K)
    where
      names : HaveNames code scope frame (turned frames turns)
      names = (ready turns).names

      fifth : List What
      fifth = fetch_code (free + 2) ++ (What.Const Kind.K8 (pos 1) ∷ What.Arith Op.Sub Kind.K8 ∷ keep_code (free + 2))

      fourth : List What
      fourth = store_code counter ++ fifth

      third : List What
      third = What.Arith Op.Add its_kind ∷ fourth

      second : List What
      second = fetch_code (free + 1) ++ third

      second-stand : StandAt code line (at + 2) second
      second-stand = stand-right at (entity_code counter) second stand

      third-stand : StandAt code line (at + 2 + 2) third
      third-stand = stand-right (at + 2) (fetch_code (free + 1)) third second-stand

      fourth-stand : StandAt code line (at + 2 + 2 + 1) fourth
      fourth-stand = stand-right (at + 2 + 2) (What.Arith Op.Add its_kind ∷ []) fourth third-stand

      fifth-stand : StandAt code line (at + 2 + 2 + 1 + 2) fifth
      fifth-stand = stand-right (at + 2 + 2 + 1) (store_code counter) fifth fourth-stand

      after : ℤ × State → Computing (Frame × ℕ)
      after w = sequence (acts.store line counter_place (fitted (whole its_kind) (w.0 +ℤ s)) w.1) K

      there : at + 2 + 2 + 1 + 2 + 6 ≡ at + 13
      there = omega arith

      added : (z : ℤ) → go (at + 2) (pushed (Item.Value z) frame) turns ≡ after (z, turned frames turns)
      added z =
          fetch-law (flows-go flows) (at + 2) (free + 1) (pushed (Item.Value z) frame) turns (whole its_kind) s (pushed-scalar (Item.Value z) (step-scalar frame ready)) held
          (stand-left (fetch_code (free + 1)) third second-stand)
          ∙ arith-law code go (flows-go flows) line (at + 2 + 2) frame (turned frames turns) Op.Add its_kind z s refl (stand-left (What.Arith Op.Add its_kind ∷ []) fourth third-stand)
          (λ w. go (at + 2 + 2 + 1) (pushed (Item.Value w.0) frame) turns) (λ z. refl)
          ∙ store-scalar (at + 2 + 2 + 1) frame turns (wrapped its_kind (z +ℤ s)) names (stand-left (store_code counter) fifth fourth-stand)
          ∙ ap (λ given. define (element variable 0) given line (go (at + 2 + 2 + 1 + 2) frame turns)) (fitted-twice (whole its_kind) (z +ℤ s))
          ∙ ap (define (element variable 0) (fitted (whole its_kind) (z +ℤ s)) line)
          (fewer-law (at + 2 + 2 + 1 + 2) frame turns count ready left few fifth-stand ∙ ap (λ place. go place (put_slot (free + 2) 0 (Some (pos count)) frame) turns) there ∙ later)
