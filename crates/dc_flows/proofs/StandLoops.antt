-- Loops are joined, where their blocks are.
use Rattle.std.proofs.Common.{◌≡◌, ◌≤◌, ◌<◌, ℕ, ◌+◌, Bool, true, false, ◌&&◌, cond, List, [], ◌∷◌, ◌++◌, length, map, Option, Some, None, refl, sym, ap, ◌∙◌, subst, arith}
use Rattle.std.proofs.lemmas.Bool.{false≢true}
use Rattle.std.specs.Prelude.{slice_get}
use Rattle.dc_int.specs.declared.kind.Kind.{Kind}
use Rattle.dc_int.specs.Sorts.{whole, kind_of}
use Rattle.dc_code.specs.declared.instr.Instr.{Instr}
use Rattle.dc_code.specs.declared.instr.What.{What}
use Rattle.dc_code.specs.declared.plan.Group.{Group}
use Rattle.dc_code.specs.StackSorts.{a_truth}
use Rattle.dc_tree.specs.Blocks.{Items}
use Rattle.dc_tree.specs.Entities.{Scope, entity}
use Rattle.dc_tree.specs.Statements.{Name, Ranging, Statement, do_line, do_while, concurrent}
use Rattle.dc_tree.specs.Typing.{sort_of_entity}
use Rattle.dc_meaning.specs.Execution.{is_concurrent, loops_in_all}
use Rattle.dc_actions.specs.Deeds.{lined}
use Rattle.dc_actions.specs.Expressions.{value_code}
use Rattle.dc_actions.specs.Typed.{limits_are_typed}
use Rattle.dc_actions.proofs.Facts.{both-true}
use Rattle.dc_actions.proofs.RunsOfDeeds.{whats_of, whats-lined, there-runs}
use Rattle.dc_actions.proofs.RunsOfNames.{truth-runs}
use Rattle.dc_actions.proofs.Standing.{Stand, second-stand, here-stands, found-within}
use Rattle.dc_actions.proofs.Straight.{Ground, Runs, runs-step}
use Rattle.dc_flows.specs.Flows as flow_codes
use Rattle.dc_flows.specs.Flows.{Before, LoopAround, Rounds, placed, keeping, test_code, scalar_group, rounds_by, rounds_of, begins_at, around_block, rounds_code, loop_size, loop_code, groups_of_loop, block_size, texts_of_block, groups_of_block, block_code}
use Rattle.dc_flows.specs.FlowsLowered.{EndBehind, counted_is_lowered, head_is_lowered, label_of, block_is_lowered}
use Rattle.dc_flows.specs.FlowsTyped.{head_is_typed, block_is_typed, block_is_silent}
use Rattle.dc_flows.proofs.FlowActions.{ends-sooner}
use Rattle.dc_flows.proofs.FlowSizes.{counted-size, block-length}
use Rattle.dc_flows.proofs.StandActions.{test-runs}
use Rattle.dc_flows.proofs.StandArms.{whats-both, whats-long, whats-behind, line-joined}
use Rattle.dc_flows.proofs.StandCounts.{AreCounters, head-runs, left-runs, counted-step-runs, is-counted}
use Rattle.dc_flows.proofs.StandGrounds.{Suits, can-main, Rooms, IsAround}
use Rattle.dc_flows.proofs.StandJoints.{AreJoined, joined-runs}
use Rattle.dc_flows.proofs.StandScalars.{scalar-there}
use Rattle.dc_flows.proofs.StandShapes.{rounds-joined}

-- ---- rounds

-- What a loop does around its block leaves its sorts.
pub record RoundsRun (ground : Ground) (rounds : Rounds) : Type 0 where
  pub head : Runs ground [] rounds.head []
  pub test : Runs ground [] rounds.test (a_truth ∷ [])
  pub step : Runs ground [] rounds.step []

rounds-code-joined : (ground : Ground) (around : List LoopAround) (at line : ℕ) (rounds : Rounds) (size : ℕ) (block : List Instr) → length block ≡ size → RoundsRun ground rounds
    → AreJoined ground (IsAround (around_block at rounds size ∷ around)) (begins_at at rounds) (whats_of block)
    → AreJoined ground (IsAround around) at (whats_of (rounds_code at line rounds size block))
rounds-code-joined ground around at line rounds size block long runs joined =
    subst (λ whats. AreJoined ground (IsAround around) at whats) (sym shape)
    (rounds-joined ground (IsAround around) at begins inner.next inner.behind rounds.head rounds.test rounds.step (whats_of block) refl
    (ap (λ n. begins + n) (sym (whats-long block ∙ long))) refl runs.head runs.test runs.step joined)
  where
    begins : ℕ
    begins = begins_at at rounds

    inner : LoopAround
    inner = around_block at rounds size

    opening : List What
    opening = rounds.head ++ (test_code rounds.test inner.behind ++ What.Turn ∷ [])

    closing : List What
    closing = rounds.step ++ (test_code rounds.test inner.behind ++ What.Back begins ∷ [])

    shape : whats_of (rounds_code at line rounds size block) ≡ opening ++ (whats_of block ++ closing)
    shape =
        whats-behind line opening (block ++ lined line closing)
        ∙ ap (λ found. opening ++ found) (whats-both block (lined line closing) ∙ ap (λ found. whats_of block ++ found) (whats-lined line closing))

-- ---- loops

while-run : (ground : Ground) (label : Option Name) (test : List What) → Runs ground [] test (a_truth ∷ []) → RoundsRun ground (flow_codes.while_rounds label test)
while-run ground label test runs = record { head = refl; test = runs; step = refl }

module _ (ground : Ground) (scope : Scope) (in_main : Bool) (suits : Suits ground scope in_main) where
  -- The scalars of a counted DO are the first of its groups.
  counters-there : (free : ℕ) (its_kind : Kind) (inside : List Group)
      → Stand ground.plan.groups free (scalar_group (whole its_kind) ∷ scalar_group (whole its_kind) ∷ scalar_group (whole Kind.K8) ∷ inside) → AreCounters ground free its_kind
  counters-there free its_kind inside stand = record {
    first = scalar-there ground free (whole its_kind) (here-stands ground.plan.groups free (scalar_group (whole its_kind)) (scalar_group (whole its_kind) ∷ scalar_group (whole Kind.K8) ∷ inside) stand);
    step = scalar-there ground (free + 1) (whole its_kind) (stand.each 1 (scalar_group (whole its_kind)) refl);
    left = scalar-there ground (free + 2) (whole Kind.K8) (stand.each 2 (scalar_group (whole Kind.K8)) refl);
  }

  counted-run : (free : ℕ) (label : Option Name) (ranging : Ranging) → counted_is_lowered scope ranging ≡ true → limits_are_typed scope ranging ≡ true
      → AreCounters ground free (kind_of (sort_of_entity (entity scope ranging.name))) → RoundsRun ground (flow_codes.counted_rounds scope free label ranging)
  counted-run free label ranging so typed counters =
      let first = both-true so in
      let last = both-true first.1 in
      let step = both-true last.1 in
      let named = both-true step.1 in
      let variable = is-counted ground scope suits.fits suits.changeable ranging.name (entity scope ranging.name) refl named.0 named.1 in
      record {
        head = head-runs ground scope suits.fits free (kind_of (sort_of_entity (entity scope ranging.name))) (entity scope ranging.name) ranging counters variable first.0 last.0 step.0 typed;
        test = left-runs ground scope suits.fits free counters.left;
        step = counted-step-runs ground scope suits.fits free (kind_of (sort_of_entity (entity scope ranging.name))) (entity scope ranging.name) counters variable;
      }

  enter-joined : (out : ℕ → Type 0) (at number : ℕ) → in_main ≡ true → number < length ground.code.constructs → AreJoined ground out at (What.Enter number ∷ [])
  enter-joined out at number e within =
      let there = found-within ground.code.constructs number within in
      joined-runs ground out at (What.Enter number ∷ [])
      (runs-step ground [] [] [] (What.Enter number) [] (can-main ground scope in_main suits (What.Enter number) refl e) (λ last. there-runs (slice_get ground.code.constructs number) there.0 [] there.1) refl)

  -- The block of a loop is joined, wherever it stands and whatever is around it.
  abbrev pub BlockJoined : Items → Type 0
  BlockJoined body =
      (inside : Before) (loops : List LoopAround) → Rooms ground inside.texts inside.groups inside.loops (texts_of_block body) (groups_of_block scope body) (loops_in_all body)
      → block_is_lowered scope in_main (map (λ (loop : LoopAround). loop.label) loops) body ≡ true → block_is_typed scope body ≡ true → (in_main ≡ false → block_is_silent body ≡ true)
      → EndBehind (inside.at + block_size scope body) loops → AreJoined ground (IsAround loops) inside.at (whats_of (block_code scope inside loops body))

  -- A loop in rounds is none that is entered.
  plain-rooms : (before : Before) (body : Items) {groups : List Group} → Rooms ground before.texts before.groups before.loops (texts_of_block body) groups (0 + loops_in_all body)
      → Rooms ground before.texts before.groups before.loops (texts_of_block body) groups (loops_in_all body)
  plain-rooms before body rooms =
      let few : before.loops + (0 + loops_in_all body) ≤ length ground.code.constructs = rooms.loops_fit in
      record { texts_stand = rooms.texts_stand; groups_stand = rooms.groups_stand; loops_fit = omega (arith, few) }

  module _ (before : Before) (around : List LoopAround) (line : ℕ) (body : Items) where
    abbrev inside_of : Rounds → Before
    inside_of rounds = placed (begins_at before.at rounds) (keeping (length rounds.groups) before)

    abbrev inner_of : Rounds → List LoopAround
    inner_of rounds = around_block before.at rounds (block_size scope body) ∷ around

    loop-by : (rounds : Rounds) → RoundsRun ground rounds → BlockJoined body
        → Rooms ground before.texts before.groups before.loops (texts_of_block body) (rounds.groups ++ groups_of_block scope body) (loops_in_all body)
        → block_is_lowered scope in_main (rounds.label ∷ map (λ (loop : LoopAround). loop.label) around) body ≡ true → block_is_typed scope body ≡ true
        → (in_main ≡ false → block_is_silent body ≡ true) → EndBehind (before.at + loop_size (Some rounds) (block_size scope body)) around
        → AreJoined ground (IsAround around) before.at
        (whats_of (rounds_code before.at line rounds (block_size scope body) (block_code scope (inside_of rounds) (inner_of rounds) body)))
    loop-by rounds runs block rooms so typed silent ends =
        rounds-code-joined ground around before.at line rounds (block_size scope body) (block_code scope (inside_of rounds) (inner_of rounds) body)
        (block-length scope (inside_of rounds) (inner_of rounds) body) runs
        (block (inside_of rounds) (inner_of rounds) (record {
          texts_stand = rooms.texts_stand;
          groups_stand = second-stand ground.plan.groups before.groups rounds.groups (groups_of_block scope body) rooms.groups_stand;
          loops_fit = rooms.loops_fit;
        }) so typed silent (omega arith, (omega arith, ends-sooner (begins_at before.at rounds + block_size scope body) (before.at + loop_size (Some rounds) (block_size scope body)) around (omega arith) ends)))

    counted-joined : (label : Option Name) (ranging : Ranging) → BlockJoined body
        → Rooms ground before.texts before.groups before.loops (texts_of_block body) (groups_of_loop (rounds_of scope 0 (do_line label (Some ranging))) (groups_of_block scope body)) (loops_in_all body)
        → counted_is_lowered scope ranging ≡ true → limits_are_typed scope ranging ≡ true
        → block_is_lowered scope in_main (label ∷ map (λ (loop : LoopAround). loop.label) around) body ≡ true → block_is_typed scope body ≡ true
        → (in_main ≡ false → block_is_silent body ≡ true)
        → EndBehind (before.at + loop_size (rounds_of scope 0 (do_line label (Some ranging))) (block_size scope body)) around
        → AreJoined ground (IsAround around) before.at
        (whats_of (loop_code scope before (record { line = line; says = do_line label (Some ranging) }) (block_size scope body) (λ inside loops. block_code scope inside loops body) around))
    counted-joined label ranging block rooms head limits so typed silent ends =
        loop-by rounds
        (counted-run before.groups label ranging head limits
        (counters-there before.groups (kind_of (sort_of_entity (entity scope ranging.name))) (groups_of_block scope body) rooms.groups_stand))
        block rooms so typed silent
        (subst (λ n. EndBehind (before.at + n) around) (sym (counted-size scope before.groups 0 ranging (block_size scope body))) ends)
      where
        rounds : Rounds
        rounds = flow_codes.counted_rounds scope before.groups label ranging

  -- ---- a loop, by its head

  pub loop-joined : (before : Before) (around : List LoopAround) (line : ℕ) (says : Statement) (body : Items) → BlockJoined body
      → Rooms ground before.texts before.groups before.loops (cond (is_concurrent says) [] (texts_of_block body)) (groups_of_loop (rounds_of scope 0 says) (groups_of_block scope body))
      (cond (is_concurrent says) 1 0 + loops_in_all body)
      → (head_is_lowered scope in_main says && cond (is_concurrent says) true (block_is_lowered scope in_main (label_of says ∷ map (λ (loop : LoopAround). loop.label) around) body)) ≡ true
      → (head_is_typed scope says && cond (is_concurrent says) true (block_is_typed scope body)) ≡ true → (in_main ≡ false → block_is_silent body ≡ true)
      → EndBehind (before.at + loop_size (rounds_of scope 0 says) (block_size scope body)) around
      → AreJoined ground (IsAround around) before.at
      (whats_of (loop_code scope before (record { line = line; says = says }) (block_size scope body) (λ inside loops. block_code scope inside loops body) around))
  loop-joined before around line (do_line label (Some ranging)) body block rooms so typed silent ends =
      counted-joined before around line body label ranging block (plain-rooms before body rooms) (both-true so).0 (both-true typed).0
      (both-true {a = head_is_lowered scope in_main (do_line label (Some ranging))} so).1 (both-true {a = limits_are_typed scope ranging} typed).1 silent ends
  loop-joined before around line (do_line label None) body block rooms so typed silent ends =
      loop-by before around line body (flow_codes.while_rounds label (What.Truth true ∷ [])) (while-run ground label (What.Truth true ∷ []) (truth-runs ground [] true)) block (plain-rooms before body rooms) so typed silent ends
  loop-joined before around line (do_while label test) body block rooms so typed silent ends =
      loop-by before around line body (flow_codes.while_rounds label (value_code scope test))
      (while-run ground label (value_code scope test) (test-runs ground scope in_main suits test (both-true so).0 (both-true typed).0)) block (plain-rooms before body rooms)
      (both-true so).1 (both-true typed).1 silent ends
  loop-joined before around line (concurrent label spec indexes mask locality) body block rooms so typed silent ends =
      let few : before.loops + (1 + loops_in_all body) ≤ length ground.code.constructs = rooms.loops_fit in
      line-joined ground (IsAround around) before.at line (What.Enter before.loops ∷ []) (enter-joined (IsAround around) before.at before.loops (both-true so).0 (omega (arith, few)))
  loop-joined before around line says body block rooms so typed silent ends = absurd (false≢true so)
