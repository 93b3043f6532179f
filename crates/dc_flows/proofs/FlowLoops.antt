-- Loops in rounds carry out what they mean, where their blocks do.
use Rattle.std.proofs.Common.{◌≡◌, ◌<◌, ◌≤◌, ℕ, zero, suc, ◌+◌, true, List, [], ◌∷◌, ◌++◌, length, Option, Some, refl, sym, ap, ◌∙◌, subst, arith}
use Rattle.std.proofs.lemmas.Bool.{eqb-true, false≢true}
use Rattle.std.proofs.lemmas.List.{length-append}
use Rattle.std.specs.Prelude.{ℤ, ◌&&◌}
use Rattle.dc_int.specs.declared.kind.Kind.{Kind}
use Rattle.dc_int.specs.Sorts.{whole, logical}
use Rattle.dc_code.specs.declared.instr.Instr.{Instr}
use Rattle.dc_code.specs.declared.instr.What.{What}
use Rattle.dc_code.specs.declared.plan.Group.{Group}
use Rattle.dc_code.specs.Codes.{CodeLists}
use Rattle.dc_code.specs.Computation.{sequence}
use Rattle.dc_code.specs.Instructions.{Going, spent}
use Rattle.dc_tree.specs.Entities.{Entity, outside, slots, dummy, constant, function, subroutine, reduction, nothing, Scope, entity}
use Rattle.dc_tree.specs.Statements.{Name, Ranging}
use Rattle.dc_tree.specs.Typing.{sort_of_entity}
use Rattle.dc_meaning.specs.Actions.{Flow}
use Rattle.dc_meaning.specs.Acts as acts
use Rattle.dc_meaning.specs.Acts.{Act}
use Rattle.dc_meaning.specs.Execution.{while_do, counted_do}
use Rattle.dc_meaning.specs.Values.{Callee}
use Rattle.dc_actions.specs.Assigning.{takes_values}
use Rattle.dc_actions.specs.Deeds.{InstrsStand, lined}
use Rattle.dc_actions.specs.Expressions.{is_usable, is_number}
use Rattle.dc_actions.specs.Limits.{step_is_usable}
use Rattle.dc_actions.specs.Placed.{StandAt}
use Rattle.dc_actions.proofs.DeedLaws.{length-lined}
use Rattle.dc_actions.proofs.Facts.{both-true}
use Rattle.dc_actions.proofs.OperatorLaws.{plus-none}
use Rattle.dc_actions.proofs.Placing.{stand-left, stand-right, instrs-left, instrs-right, lined-stand}
use Rattle.dc_flows.specs.Flows as flow_codes
use Rattle.dc_flows.specs.Flows.{LoopAround, Rounds, test_code, begins_at, around_block, rounds_code, loop_size}
use Rattle.dc_flows.proofs.FlowCounted.{counted-runs}
use Rattle.dc_flows.proofs.FlowGoing.{FlowsAs, turn-law, back-law}
use Rattle.dc_flows.proofs.FlowRounds.{Tests, RoundAt, while-law}
use Rattle.dc_flows.proofs.FlowRuns.{Runs}

-- ---- where the instructions of a loop stand

module _ (code : CodeLists) (go : Going) (flows : FlowsAs code go) (line at : ℕ) (rounds : Rounds) (size : ℕ) where
  abbrev pub begins : ℕ
  begins = begins_at at rounds

  abbrev pub inner : LoopAround
  inner = around_block at rounds size

  abbrev pub before_rounds : List What
  before_rounds = rounds.head ++ (test_code rounds.test inner.behind ++ What.Turn ∷ [])

  abbrev pub behind_rounds : List What
  behind_rounds = rounds.step ++ (test_code rounds.test inner.behind ++ What.Back begins ∷ [])

  pub record LoopStands (block : List Instr) : Type 0 where
    pub head : StandAt code line at before_rounds
    pub body : InstrsStand code begins block
    pub step : StandAt code line inner.next behind_rounds

  long-test : (first : List What) (last : What) → length (first ++ (test_code rounds.test inner.behind ++ last ∷ [])) ≡ length first + (length rounds.test + 2)
  long-test first last =
      omega (arith, length-append first (test_code rounds.test inner.behind ++ last ∷ []), length-append (test_code rounds.test inner.behind) (last ∷ []), length-append rounds.test (What.JumpFalse inner.behind ∷ []))

  pub loop-stands : (block : List Instr) → length block ≡ size → InstrsStand code at (rounds_code at line rounds size block) → LoopStands block
  loop-stands block long stand = record {
    head = lined-stand line before_rounds (instrs-left first (block ++ last) stand);
    body = subst (λ place. InstrsStand code place block) begun (instrs-left block last behind);
    step = subst (λ place. StandAt code line place behind_rounds) ended (lined-stand line behind_rounds (instrs-right (at + length first) block last behind));
  }
    where
      first : List Instr
      first = lined line before_rounds

      last : List Instr
      last = lined line behind_rounds

      behind : InstrsStand code (at + length first) (block ++ last)
      behind = instrs-right at first (block ++ last) stand

      begun : at + length first ≡ begins
      begun = ap (λ n. at + n) (length-lined line before_rounds ∙ long-test rounds.head What.Turn)

      ended : at + length first + length block ≡ inner.next
      ended = ap (λ place. place + length block) begun ∙ ap (λ n. begins + n) long

  pub first-round : StandAt code line at before_rounds → RoundAt code go line rounds.test begins inner.behind (at + length rounds.head)
  first-round stand = record {
    test_stands = stand-left (test_code rounds.test inner.behind) (What.Turn ∷ []) behind;
    ahead = omega arith;
    turns = λ frame turns. turn-law flows (at + length rounds.head + (length rounds.test + 1)) [] frame turns
        (subst (λ place. StandAt code line place (What.Turn ∷ [])) there (stand-right (at + length rounds.head) (test_code rounds.test inner.behind) (What.Turn ∷ []) behind))
        ∙ ap (λ next. sequence (spent line turns) (λ spared. go next frame spared)) begun;
  }
    where
      behind : StandAt code line (at + length rounds.head) (test_code rounds.test inner.behind ++ What.Turn ∷ [])
      behind = stand-right at rounds.head (test_code rounds.test inner.behind ++ What.Turn ∷ []) stand

      there : at + length rounds.head + length (test_code rounds.test inner.behind) ≡ at + length rounds.head + (length rounds.test + 1)
      there = ap (λ n. at + length rounds.head + n) (length-append rounds.test (What.JumpFalse inner.behind ∷ []))

      begun : at + length rounds.head + (length rounds.test + 1) + 1 ≡ begins
      begun = omega arith

  pub next-round : StandAt code line inner.next behind_rounds → RoundAt code go line rounds.test begins inner.behind (inner.next + length rounds.step)
  next-round stand = record {
    test_stands = stand-left (test_code rounds.test inner.behind) (What.Back begins ∷ []) behind;
    ahead = omega arith;
    turns = λ frame turns. back-law flows (inner.next + length rounds.step + (length rounds.test + 1)) [] begins frame turns
        (subst (λ place. StandAt code line place (What.Back begins ∷ [])) there (stand-right (inner.next + length rounds.step) (test_code rounds.test inner.behind) (What.Back begins ∷ []) behind));
  }
    where
      behind : StandAt code line (inner.next + length rounds.step) (test_code rounds.test inner.behind ++ What.Back begins ∷ [])
      behind = stand-right inner.next rounds.step (test_code rounds.test inner.behind ++ What.Back begins ∷ []) stand

      there : inner.next + length rounds.step + length (test_code rounds.test inner.behind) ≡ inner.next + length rounds.step + (length rounds.test + 1)
      there = ap (λ n. inner.next + length rounds.step + n) (length-append rounds.test (What.JumpFalse inner.behind ∷ []))

  pub loop-end : inner.behind ≡ at + loop_size (Some rounds) size
  loop-end = omega arith

-- ---- the loops

module _ (code : CodeLists) (go : Going) (flows : FlowsAs code go) (scope : Scope) (frames : List acts.Frame) (around : List LoopAround) (line at size free : ℕ) (label : Option Name) (inside : List Group)
    (body : Act Flow) (block : List Instr) (long : length block ≡ size) where
  pub while-runs : (test : List What) (tests : Act ℤ) → Tests code go scope frames line test tests
      → InstrsStand code at (rounds_code at line (flow_codes.while_rounds label test) size block)
      → Runs code go scope frames (around_block at (flow_codes.while_rounds label test) size ∷ around) (begins_at at (flow_codes.while_rounds label test))
      (begins_at at (flow_codes.while_rounds label test) + size) free inside body
      → Runs code go scope frames around at (around_block at (flow_codes.while_rounds label test) size).behind free inside (while_do line label tests body)
  while-runs test tests test_law stand runs frame turns stands small =
      while-law code go scope frames around round line (begins_at at rounds) free inside test tests test_law body runs again (suc turns) at first frame turns stands small (omega arith)
    where
      rounds : Rounds
      rounds = flow_codes.while_rounds label test

      round : LoopAround
      round = around_block at rounds size

      stand_there : LoopStands code go flows line at rounds size block
      stand_there = loop-stands code go flows line at rounds size block long stand

      first : RoundAt code go line test (begins_at at rounds) round.behind at
      first = subst (λ place. RoundAt code go line test (begins_at at rounds) round.behind place) (sym (plus-none at)) (first-round code go flows line at rounds size stand_there.head)

      again : RoundAt code go line test (begins_at at rounds) round.behind round.next
      again = subst (λ place. RoundAt code go line test (begins_at at rounds) round.behind place) (sym (plus-none round.next)) (next-round code go flows line at rounds size stand_there.step)

  module _ (call : Callee) (ranging : Ranging) (usable : is_usable scope ranging.first ≡ true) (lasts : is_usable scope ranging.last ≡ true) (steps : step_is_usable scope ranging.step ≡ true) where
    abbrev rounds_with : Entity → Rounds
    rounds_with variable = flow_codes.rounds_by scope free label ranging variable

    one-runs : (variable : ℕ) (its_kind : Kind) → entity scope ranging.name ≡ outside variable (whole its_kind) []
        → InstrsStand code at (rounds_code at line (rounds_with (outside variable (whole its_kind) [])) size block)
        → Runs code go scope frames (around_block at (rounds_with (outside variable (whole its_kind) [])) size ∷ around) (begins_at at (rounds_with (outside variable (whole its_kind) [])))
        (begins_at at (rounds_with (outside variable (whole its_kind) [])) + size) (free + 3) inside body
        → Runs code go scope frames around at (around_block at (rounds_with (outside variable (whole its_kind) [])) size).behind free ((rounds_with (outside variable (whole its_kind) [])).groups ++ inside)
        (counted_do scope call line label ranging (outside variable (whole its_kind) []) body)
    one-runs variable its_kind is stand runs frame turns stands small =
        counted-runs flows scope call frames line ranging.name variable its_kind is free inside around (around_block at rounds size) (begins_at at rounds) body runs ranging at usable lasts steps
        (stand-left rounds.head (test_code rounds.test (around_block at rounds size).behind ++ What.Turn ∷ []) there.head) (first-round code go flows line at rounds size there.head)
        (stand-left rounds.step (test_code rounds.test (around_block at rounds size).behind ++ What.Back (begins_at at rounds) ∷ []) there.step) (next-round code go flows line at rounds size there.step)
        frame turns stands small
      where
        rounds : Rounds
        rounds = rounds_with (outside variable (whole its_kind) [])

        there : LoopStands code go flows line at rounds size block
        there = loop-stands code go flows line at rounds size block long stand

    pub counted-loop : (found : Entity) → entity scope ranging.name ≡ found → takes_values scope found (Some []) ≡ true → is_number (sort_of_entity found) ≡ true
        → InstrsStand code at (rounds_code at line (rounds_with found) size block)
        → Runs code go scope frames (around_block at (rounds_with found) size ∷ around) (begins_at at (rounds_with found)) (begins_at at (rounds_with found) + size) (free + 3) inside body
        → Runs code go scope frames around at (around_block at (rounds_with found) size).behind free ((rounds_with found).groups ++ inside) (counted_do scope call line label ranging found body)
    counted-loop (outside variable (whole its_kind) []) is takes number stand runs = one-runs variable its_kind is stand runs
    counted-loop (outside variable logical []) is takes number stand runs = absurd (false≢true number)
    counted-loop (outside variable sort (dimension ∷ bounds)) is takes number stand runs = absurd (none (length bounds) (eqb-true (suc (length bounds)) 0 (both-true takes).0))
      where
        none : (n : ℕ) → suc n ≡ 0 → ⊥
        none n e = omega (arith, e)
    counted-loop (slots group sort bounds) is takes number stand runs = absurd (false≢true takes)
    counted-loop (constant sort z) is takes number stand runs = absurd (false≢true takes)
    counted-loop (dummy place sort) is takes number stand runs = absurd (false≢true takes)
    counted-loop (function procedure sort) is takes number stand runs = absurd (false≢true takes)
    counted-loop (subroutine procedure intents) is takes number stand runs = absurd (false≢true takes)
    counted-loop (reduction variable op sort bounds) is takes number stand runs = absurd (false≢true takes)
    counted-loop nothing is takes number stand runs = absurd (false≢true takes)
