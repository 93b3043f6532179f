-- Statements and loops carry out what they mean, where the blocks of the loops do.
use Rattle.std.proofs.Common.{◌≡◌, ◌<◌, ◌≤◌, ℕ, suc, ◌+◌, Bool, true, false, ◌&&◌, cond, List, [], ◌∷◌, ◌++◌, length, Option, Some, None, refl, sym, ap, ◌∙◌, subst, arith}
use Rattle.std.proofs.lemmas.Bool.{false≢true}
use Rattle.std.proofs.lemmas.Int.{ints, clamps}
use Rattle.std.specs.Prelude.{ℤ, pos, min}
use Rattle.dc_int.specs.Sorts.{whole}
use Rattle.dc_code.specs.declared.instr.Instr.{Instr}
use Rattle.dc_code.specs.declared.instr.What.{What}
use Rattle.dc_code.specs.Codes.{CodeLists}
use Rattle.dc_code.specs.Combinations.{natural}
use Rattle.dc_code.specs.Computation.{pause}
use Rattle.dc_code.specs.Instructions.{Going}
use Rattle.dc_code.specs.Troubles.{enter_loop}
use Rattle.dc_tree.specs.Blocks.{Line, Items}
use Rattle.dc_tree.specs.Entities.{Scope, entity}
use Rattle.dc_tree.specs.Statements.{Name, Ranging, Statement, if_action, do_line, do_while, concurrent, act}
use Rattle.dc_tree.specs.Typing.{sort_of_entity}
use Rattle.dc_meaning.specs.Actions.{Flow, on}
use Rattle.dc_meaning.specs.Acts as acts
use Rattle.dc_meaning.specs.Acts.{Act, just}
use Rattle.dc_meaning.specs.Execution.{plain_line, loop_of, exec_all, is_concurrent, concurrent_do, while_do}
use Rattle.dc_meaning.specs.Values.{Callee, value}
use Rattle.dc_actions.specs.Deeds.{InstrsStand, lined}
use Rattle.dc_actions.specs.Assigning.{takes_values}
use Rattle.dc_actions.specs.Expressions.{value_code, is_usable, is_number}
use Rattle.dc_actions.specs.Limits.{step_is_usable}
use Rattle.dc_actions.specs.Placed.{StandAt}
use Rattle.dc_actions.specs.Printing.{TextsStand}
use Rattle.dc_actions.proofs.Facts.{both-true}
use Rattle.dc_actions.proofs.Kept.{same-alike}
use Rattle.dc_actions.proofs.OperatorLaws.{plus-one, plus-none}
use Rattle.dc_actions.proofs.Placing.{stand-first, lined-stand}
use Rattle.dc_flows.specs.Flows as flow_codes
use Rattle.dc_flows.specs.Flows.{Before, LoopAround, labels_of, Rounds, placed, keeping, says_code, says_size, texts_of_says, groups_of_says, begins_at, around_block, rounds_by, rounds_of, loop_code, loop_size, groups_of_loop, block_size, texts_of_block, groups_of_block, block_code}
use Rattle.dc_flows.specs.FlowsLowered.{EndBehind, says_is_lowered, counted_is_lowered, head_is_lowered, label_of, block_is_lowered}
use Rattle.dc_flows.proofs.FlowActions.{ends-sooner, action-runs, guarded-runs}
use Rattle.dc_flows.proofs.FlowGoing.{FlowsAs}
use Rattle.dc_flows.proofs.FlowLoops.{LoopStands, loop-stands, loop-end, while-runs, counted-loop}
use Rattle.dc_flows.proofs.FlowRounds.{Tests, value-tests, true-tests}
use Rattle.dc_flows.proofs.FlowRuns.{turned, Runs}
use Rattle.dc_flows.proofs.FlowSizes.{says-length, counted-size, block-length}

-- A loop that ends before the loops around do, around its own block.
inner-ends : (around : List LoopAround) (at : ℕ) (rounds : Rounds) (size : ℕ) → EndBehind (at + loop_size (Some rounds) size) around
    → EndBehind (begins_at at rounds + size) (around_block at rounds size ∷ around)
inner-ends around at rounds size ends = (omega arith, (omega arith, ends-sooner (begins_at at rounds + size) (at + loop_size (Some rounds) size) around (omega arith) ends))

-- What the rules leave of the limits and the variable of a counted DO.
record IsCounted (scope : Scope) (ranging : Ranging) : Type 0 where
  first : is_usable scope ranging.first ≡ true
  last : is_usable scope ranging.last ≡ true
  step : step_is_usable scope ranging.step ≡ true
  takes : takes_values scope (entity scope ranging.name) (Some []) ≡ true
  number : is_number (sort_of_entity (entity scope ranging.name)) ≡ true

is-counted : (scope : Scope) (ranging : Ranging) → counted_is_lowered scope ranging ≡ true → IsCounted scope ranging
is-counted scope ranging so =
    let number = is_number (sort_of_entity (entity scope ranging.name)) in
    let takes = takes_values scope (entity scope ranging.name) (Some []) in
    let steps = step_is_usable scope ranging.step in
    let lasts = is_usable scope ranging.last in
    let one : (is_usable scope ranging.first ≡ true) × ((lasts && (steps && (takes && number))) ≡ true) = both-true so in
    let two : (lasts ≡ true) × ((steps && (takes && number)) ≡ true) = both-true one.1 in
    let three : (steps ≡ true) × ((takes && number) ≡ true) = both-true two.1 in
    let four : (takes ≡ true) × (number ≡ true) = both-true three.1 in
    record { first = one.0; last = two.0; step = three.0; takes = four.0; number = four.1 }

module _ (code : CodeLists) (go : Going) (flows : FlowsAs code go) (scope : Scope) (call : Callee) (frames : List acts.Frame) (main : Bool) where
  -- ---- single statements

  pub says-runs : (before : Before) (around : List LoopAround) (line : ℕ) (says : Statement) → StandAt code line before.at (says_code scope before around says)
      → TextsStand code before.texts (texts_of_says says) → says_is_lowered scope main (labels_of around) says ≡ true → EndBehind (before.at + length (says_code scope before around says)) around
      → Runs code go scope frames around before.at (before.at + length (says_code scope before around says)) before.groups (groups_of_says scope says)
      (plain_line scope call (record { line = line; says = says }))
  says-runs before around line (act deed) stand there so ends = action-runs code go flows scope call frames main line around before.at before deed there stand so ends
  says-runs before around line (if_action tree deed) stand there so ends =
      guarded-runs code go flows scope call frames main line around before tree deed there stand (both-true so).0 (both-true so).1 ends
  says-runs before around line says stand there so ends = absurd (false≢true so)

  -- ---- loops

  -- The block of a loop, wherever it stands and whatever is around it.
  abbrev pub BlockRuns : Items → Type 0
  BlockRuns body =
      (inside : Before) (loops : List LoopAround) → InstrsStand code inside.at (block_code scope inside loops body) → TextsStand code inside.texts (texts_of_block body)
      → block_is_lowered scope main (labels_of loops) body ≡ true → EndBehind (inside.at + block_size scope body) loops
      → Runs code go scope frames loops inside.at (inside.at + block_size scope body) inside.groups (groups_of_block scope body) (exec_all scope call inside.loops body)

  enter-runs : (around : List LoopAround) (line at free number : ℕ) → (acts.innermost (turned frames 0)).slots ≡ [] → StandAt code line at (What.Enter number ∷ [])
      → Runs code go scope frames around at (at + 1) free [] (concurrent_do number)
  enter-runs around line at free number none stand frame turns stands small K behind =
      flows.each at line (What.Enter number) frame turns (stand-first at (What.Enter number) [] stand) refl
      ∙ ap (λ slots. pause (enter_loop number turns slots) (λ told. go (suc at) frame (min (natural told) turns))) (sym none)
      ∙ (λ i. pause (enter_loop number turns (acts.innermost (turned frames 0)).slots)
      (λ told. (ap (λ place. go place frame (min (natural told) turns)) (plus-one at) ∙ behind on (at + 1) frame (min (natural told) turns) refl (same-alike free frame) (fewer (natural told))) i))
    where
      fewer : (told : ℕ) → min told turns ≤ turns
      fewer told = omega (arith, ints, clamps)

  module _ (before : Before) (around : List LoopAround) (line : ℕ) (body : Items) (runs : BlockRuns body) (there : TextsStand code before.texts (texts_of_block body)) where
    abbrev inside_of : Rounds → Before
    inside_of rounds = placed (begins_at before.at rounds) (keeping (length rounds.groups) before)

    abbrev instrs : Rounds → List Instr
    instrs rounds = block_code scope (inside_of rounds) (around_block before.at rounds (block_size scope body) ∷ around) body

    -- The block, in the rounds of the loop.
    block-in : (rounds : Rounds) → InstrsStand code before.at (flow_codes.rounds_code before.at line rounds (block_size scope body) (instrs rounds))
        → block_is_lowered scope main (rounds.label ∷ labels_of around) body ≡ true → EndBehind (before.at + loop_size (Some rounds) (block_size scope body)) around
        → Runs code go scope frames (around_block before.at rounds (block_size scope body) ∷ around) (begins_at before.at rounds) (begins_at before.at rounds + block_size scope body)
        (before.groups + length rounds.groups) (groups_of_block scope body) (exec_all scope call before.loops body)
    block-in rounds stand so ends =
        runs (inside_of rounds) (around_block before.at rounds (block_size scope body) ∷ around)
        (loop-stands code go flows line before.at rounds (block_size scope body) (instrs rounds) (block-length scope (inside_of rounds) (around_block before.at rounds (block_size scope body) ∷ around) body) stand).body
        there so (inner-ends around before.at rounds (block_size scope body) ends)

    while-loop : (label : Option Name) (test : List What) (tests : Act ℤ) → Tests code go scope frames line test tests
        → InstrsStand code before.at (flow_codes.rounds_code before.at line (flow_codes.while_rounds label test) (block_size scope body) (instrs (flow_codes.while_rounds label test)))
        → block_is_lowered scope main (label ∷ labels_of around) body ≡ true → EndBehind (before.at + loop_size (Some (flow_codes.while_rounds label test)) (block_size scope body)) around
        → Runs code go scope frames around before.at (before.at + loop_size (Some (flow_codes.while_rounds label test)) (block_size scope body)) before.groups (groups_of_block scope body)
        (while_do line label tests (exec_all scope call before.loops body))
    while-loop label test tests test_law stand so ends =
        subst (λ end. Runs code go scope frames around before.at end before.groups (groups_of_block scope body) (while_do line label tests (exec_all scope call before.loops body)))
        (loop-end code go flows line before.at rounds (block_size scope body))
        (while-runs code go flows scope frames around line before.at (block_size scope body) before.groups label (groups_of_block scope body) (exec_all scope call before.loops body) (instrs rounds)
        (block-length scope (inside_of rounds) (around_block before.at rounds (block_size scope body) ∷ around) body) test tests test_law stand
        (subst (λ free. Runs code go scope frames (around_block before.at rounds (block_size scope body) ∷ around) (begins_at before.at rounds) (begins_at before.at rounds + block_size scope body)
        free (groups_of_block scope body) (exec_all scope call before.loops body)) (sym (plus-none before.groups)) (block-in rounds stand so ends)))
      where
        rounds : Rounds
        rounds = flow_codes.while_rounds label test

    counted-do : (label : Option Name) (ranging : Ranging)
        → InstrsStand code before.at (flow_codes.rounds_code before.at line (flow_codes.counted_rounds scope before.groups label ranging) (block_size scope body)
        (instrs (flow_codes.counted_rounds scope before.groups label ranging)))
        → head_is_lowered scope main (do_line label (Some ranging)) ≡ true → block_is_lowered scope main (label ∷ labels_of around) body ≡ true
        → EndBehind (before.at + loop_size (Some (flow_codes.counted_rounds scope 0 label ranging)) (block_size scope body)) around
        → Runs code go scope frames around before.at (before.at + loop_size (Some (flow_codes.counted_rounds scope 0 label ranging)) (block_size scope body)) before.groups
        ((flow_codes.counted_rounds scope 0 label ranging).groups ++ groups_of_block scope body)
        (loop_of scope call before.loops (record { line = line; says = do_line label (Some ranging) }) (exec_all scope call before.loops body))
    counted-do label ranging stand head so ends =
        subst (λ end. Runs code go scope frames around before.at end before.groups (rounds.groups ++ groups_of_block scope body)
        (loop_of scope call before.loops (record { line = line; says = do_line label (Some ranging) }) (exec_all scope call before.loops body)))
        (loop-end code go flows line before.at rounds (block_size scope body) ∙ ap (λ n. before.at + n) sized)
        (counted-loop code go flows scope frames around line before.at (block_size scope body) before.groups label (groups_of_block scope body) (exec_all scope call before.loops body) (instrs rounds)
        (block-length scope (inside_of rounds) (around_block before.at rounds (block_size scope body) ∷ around) body) call ranging
        facts.first facts.last facts.step (entity scope ranging.name) refl facts.takes facts.number stand
        (block-in rounds stand so (subst (λ n. EndBehind (before.at + n) around) (sym sized) ends)))
      where
        rounds : Rounds
        rounds = flow_codes.counted_rounds scope before.groups label ranging

        facts : IsCounted scope ranging
        facts = is-counted scope ranging head

        sized : loop_size (Some rounds) (block_size scope body) ≡ loop_size (Some (flow_codes.counted_rounds scope 0 label ranging)) (block_size scope body)
        sized = counted-size scope before.groups 0 ranging (block_size scope body)

  pub loop-runs : (alone : main ≡ true → (acts.innermost (turned frames 0)).slots ≡ []) (before : Before) (around : List LoopAround) (line : ℕ) (says : Statement) (body : Items) → BlockRuns body
      → InstrsStand code before.at (loop_code scope before (record { line = line; says = says }) (block_size scope body) (λ inside loops. block_code scope inside loops body) around)
      → TextsStand code before.texts (cond (is_concurrent says) [] (texts_of_block body))
      → (head_is_lowered scope main says && cond (is_concurrent says) true (block_is_lowered scope main (label_of says ∷ labels_of around) body)) ≡ true
      → EndBehind (before.at + loop_size (rounds_of scope 0 says) (block_size scope body)) around
      → Runs code go scope frames around before.at (before.at + loop_size (rounds_of scope 0 says) (block_size scope body)) before.groups
      (groups_of_loop (rounds_of scope 0 says) (groups_of_block scope body)) (loop_of scope call before.loops (record { line = line; says = says }) (exec_all scope call before.loops body))
  loop-runs alone before around line (do_line label (Some ranging)) body runs stand there so ends =
      counted-do before around line body runs there label ranging stand (both-true so).0 (both-true {a = head_is_lowered scope main (do_line label (Some ranging))} so).1 ends
  loop-runs alone before around line (do_line label None) body runs stand there so ends =
      while-loop before around line body runs there label (What.Truth true ∷ []) (just (pos 1)) (true-tests flows scope frames line) stand (both-true {a = true} so).1 ends
  loop-runs alone before around line (do_while label test) body runs stand there so ends =
      while-loop before around line body runs there label (value_code scope test) (value scope call line test) (value-tests flows scope call frames line test (both-true so).0) stand (both-true so).1 ends
  loop-runs alone before around line (concurrent label spec indexes mask locality) body runs stand there so ends =
      enter-runs around line before.at before.groups before.loops (alone (both-true so).0) (lined-stand line (What.Enter before.loops ∷ []) stand)
  loop-runs alone before around line says body runs stand there so ends = absurd (false≢true so)
