-- The arms of SELECT CASE, and the selector.
use Rattle.std.proofs.Common.{◌≡◌, ◌<◌, ◌≤◌, ℕ, suc, ◌+◌, Bool, true, false, cond, List, [], ◌∷◌, ◌++◌, length, Option, Some, None, refl, sym, ap, ◌∙◌, subst, arith}
use Rattle.std.proofs.lemmas.List.{length-append}
use Rattle.std.specs.Int.{int_wrap}
use Rattle.std.specs.List.{list_any}
use Rattle.std.specs.Prelude.{ℤ, pos}
use Rattle.dc_int.specs.declared.kind.Kind.{Kind}
use Rattle.dc_int.specs.Reductions.{truth, number_of_truth}
use Rattle.dc_int.specs.Sorts.{Sort, whole, fitted}
use Rattle.dc_code.specs.declared.frame.Item.{Item}
use Rattle.dc_code.specs.declared.instr.Instr.{Instr}
use Rattle.dc_code.specs.declared.instr.What.{What}
use Rattle.dc_code.specs.declared.plan.Group.{Group}
use Rattle.dc_code.specs.Codes.{CodeLists}
use Rattle.dc_code.specs.Computation.{sequence}
use Rattle.dc_code.specs.Frames.{Frame, pushed}
use Rattle.dc_code.specs.Instructions.{Going}
use Rattle.dc_code.proofs.Sequences.{sequence-then}
use Rattle.dc_tree.specs.Blocks.{Items, Arms}
use Rattle.dc_tree.specs.Entities.{Scope}
use Rattle.dc_tree.specs.Statements.{CaseRange, Statement, case, select_case}
use Rattle.dc_tree.specs.Syntax.{Tree}
use Rattle.dc_tree.specs.Typing.{sort_of}
use Rattle.dc_meaning.specs.Actions.{Flow, on}
use Rattle.dc_meaning.specs.Acts as acts
use Rattle.dc_meaning.specs.Acts.{State, Act, ◌>>=◌, just}
use Rattle.dc_meaning.specs.Execution.{is_in_range, case_arm, selector_of, exec_all, exec_cases, loops_in_all}
use Rattle.dc_meaning.specs.Values.{Callee, value}
use Rattle.dc_actions.specs.Deeds.{InstrsStand, lined}
use Rattle.dc_actions.specs.Expressions.{value_code}
use Rattle.dc_actions.specs.Placed.{StandAt, Alike}
use Rattle.dc_actions.specs.Printing.{TextsStand}
use Rattle.dc_actions.proofs.DeedLaws.{length-lined}
use Rattle.dc_actions.proofs.Converting.{truth-back}
use Rattle.dc_actions.proofs.Expressions.{value-law}
use Rattle.dc_actions.proofs.FillingLaws.{held_at}
use Rattle.dc_actions.proofs.Kept.{put_slot, put-alike, put-there, alike-then}
use Rattle.dc_actions.proofs.OperatorLaws.{plus-none}
use Rattle.dc_actions.proofs.OutputLaws.{texts-left, texts-right}
use Rattle.dc_actions.proofs.Placing.{stand-left, stand-right, stand-rest, stepped, instrs-left, instrs-right, lined-stand}
use Rattle.dc_flows.specs.Flows.{Before, LoopAround, Otherwise, nothing_else, placed, keeping, numbered, test_code, keep_code, scalar_group, ranges_code, ranges_in, selected, selector_sort, selector_code, case_size, block_size, cases_size, behind_case, texts_of_block, texts_of_cases, groups_of_block, groups_of_cases, behind_block, case_code, block_code, cases_code}
use Rattle.dc_flows.specs.FlowsLowered.{EndBehind, place_of, case_is_lowered, is_usable_test, greatest_turns}
use Rattle.dc_flows.proofs.FlowActions.{ends-sooner}
use Rattle.dc_flows.proofs.FlowArms.{ArmStands, arm-stands}
use Rattle.dc_flows.proofs.FlowCases.{ranges-leave}
use Rattle.dc_flows.proofs.FlowGoing.{FlowsAs, flows-go, false-law}
use Rattle.dc_flows.proofs.FlowRuns.{turned, StandsAlways, Later, Behind, From, Runs, stands-left, stands-right, stands-alike, from-none, from-lower, from-jumped}
use Rattle.dc_flows.proofs.FlowSizes.{ranges-length}
use Rattle.dc_flows.proofs.FlowSlots.{HasScalar, kept-scalar, alike-scalar, keep-law}

-- ---- what is meant, by the parts of statements

abbrev pub case_meant : Scope → ℤ → Option (List CaseRange) → Act Flow → (Act Flow → Act Flow) → Act Flow → Act Flow
case_meant scope z (Some ranges) body further otherwise = cond (list_any (is_in_range scope z) ranges) body (further otherwise)
case_meant scope z None body further otherwise = further body

pub case-is : (scope : Scope) (z : ℤ) (says : Statement) (body : Act Flow) (further : Act Flow → Act Flow) (otherwise : Act Flow)
    → case_arm scope z says body further otherwise ≡ case_meant scope z (ranges_in says) body further otherwise
case-is scope z (case ranges) body further otherwise = refl
case-is scope z says body further otherwise = refl

abbrev pub selector_meant : Scope → Callee → (line : ℕ) → Option Tree → Act ℤ
selector_meant scope call line (Some tree) = value scope call line tree >>= (λ z. just (fitted (sort_of scope tree) z))
selector_meant scope call line None = just (pos 0)

pub selector-is : (scope : Scope) (call : Callee) (line : ℕ) (says : Statement) → selector_of scope call (record { line = line; says = says }) ≡ selector_meant scope call line (selected says)
selector-is scope call line (select_case tree) = refl
selector-is scope call line says = refl

-- ---- arms, with a frame that keeps the selector

module _ (code : CodeLists) (go : Going) (flows : FlowsAs code go) (scope : Scope) (call : Callee) (frames : List acts.Frame) (around : List LoopAround) where
  -- What is done where no arm is taken does what is meant, where it stands behind all arms.
  abbrev pub ElseRuns : (low : ℕ) → Frame → (turns : ℕ) → Otherwise → List (List ℕ) → List Group → Act Flow → Type 0
  ElseRuns low frame turns other texts groups meant =
      (last : Before) → InstrsStand code last.at (other.code last) → TextsStand code last.texts texts → StandsAlways code scope frames frame last.groups groups → low ≤ last.groups
      → EndBehind (last.at + other.size) around → From go frames around last.at (last.at + other.size) low frame turns meant

  -- The block of an arm, and the arms behind it.
  abbrev pub BodyRuns : Items → Type 0
  BodyRuns body =
      (inside : Before) → InstrsStand code inside.at (block_code scope inside around body) → TextsStand code inside.texts (texts_of_block body) → EndBehind (inside.at + block_size scope body) around
      → Runs code go scope frames around inside.at (inside.at + block_size scope body) inside.groups (groups_of_block scope body) (exec_all scope call inside.loops body)

  abbrev pub CasesRun : (group low : ℕ) → Frame → (turns : ℕ) → Sort → ℤ → Arms → Type 0
  CasesRun group low frame turns sort z arms =
      (before : Before) (other : Otherwise) (texts : List (List ℕ)) (groups : List Group) (meant : Act Flow) → ElseRuns low frame turns other texts groups meant
      → InstrsStand code before.at (cases_code scope before around group sort arms other) → TextsStand code before.texts (texts_of_cases arms texts)
      → StandsAlways code scope frames frame before.groups (groups_of_cases scope arms groups) → low ≤ before.groups → EndBehind (before.at + cases_size scope sort arms other.size) around
      → From go frames around before.at (before.at + cases_size scope sort arms other.size) low frame turns (exec_cases scope call before.loops (fitted sort z) arms meant)

  module _ (group low : ℕ) (frame : Frame) (turns : ℕ) (sort : Sort) (z : ℤ) (has : HasScalar code frame group sort) (held : held_at frame group 0 ≡ Some (fitted sort z)) (small : turns ≤ greatest_turns) where
    -- An arm with ranges.
    ranges-from : (before : Before) (line : ℕ) (ranges : List CaseRange) (body : Items) (rest : Arms) (other : Otherwise) (texts : List (List ℕ)) (groups : List Group) (meant : Act Flow)
        → length (block_code scope (placed (before.at + (length (ranges_code scope group sort ranges) + 1)) before) around body) ≡ block_size scope body
        → BodyRuns body → CasesRun group low frame turns sort z rest → ElseRuns low frame turns other texts groups meant
        → InstrsStand code before.at (case_code scope before (behind_block scope body before) line group sort (Some ranges) (block_size scope body) (λ inside. block_code scope inside around body)
        (cases_size scope sort rest) (λ next other. cases_code scope next around group sort rest other) other)
        → TextsStand code before.texts (texts_of_block body ++ texts_of_cases rest texts) → case_is_lowered sort (Some ranges) ≡ true
        → StandsAlways code scope frames frame before.groups (groups_of_block scope body ++ groups_of_cases scope rest groups) → low ≤ before.groups
        → EndBehind (before.at + case_size scope sort (Some ranges) (block_size scope body) (cases_size scope sort rest) other.size) around
        → length (ranges_code scope group sort ranges) ≡ length (ranges_code scope 0 sort ranges)
        → From go frames around before.at (before.at + case_size scope sort (Some ranges) (block_size scope body) (cases_size scope sort rest) other.size) low frame turns
        (case_meant scope (fitted sort z) (Some ranges) (exec_all scope call before.loops body) (λ other. exec_cases scope call (before.loops + loops_in_all body) (fitted sort z) rest other) meant)
    ranges-from before line ranges body rest other texts groups meant long runs later else_runs stand there so stands least ends as_long K behind =
        ranges-leave code go (flows-go flows) scope line group before.at frame turns sort z ranges so has held (stand-left test (What.JumpFalse next ∷ []) all.test_stands)
        ∙ false-law flows (before.at + length test) [] next frame turns (number_of_truth found) (stand-right before.at test (What.JumpFalse next ∷ []) all.test_stands) (omega arith)
        ∙ ap (λ b. cond b (go (before.at + length test + 1) frame turns) (go next frame turns)) (truth-back found)
        ∙ ap (λ place. cond found (go place frame turns) (go next frame turns)) begun
        ∙ chosen found
      where
        test : List What
        test = ranges_code scope group sort ranges

        size : ℕ
        size = block_size scope body

        start : ℕ
        start = before.at + (length test + 1)

        next : ℕ
        next = start + size + 1

        count : ℕ
        count = cases_size scope sort rest other.size

        end : ℕ
        end = before.at + (length (ranges_code scope 0 sort ranges) + 1 + (size + 1 + count))

        found : Bool
        found = list_any (is_in_range scope (fitted sort z)) ranges

        behind_body : Before
        behind_body = placed next (behind_block scope body before)

        begun : before.at + length test + 1 ≡ start
        begun = omega arith

        ended : next + count ≡ end
        ended = omega (arith, as_long)

        all : ArmStands code before line test size (λ inside. block_code scope inside around body) count
            (λ next. cases_code scope (placed next (behind_block scope body before)) around group sort rest other)
        all = arm-stands code before line test size (λ inside. block_code scope inside around body) count
            (λ next. cases_code scope (placed next (behind_block scope body before)) around group sort rest other) long stand

        own : From go frames around start end low frame turns (exec_all scope call before.loops body)
        own =
            from-jumped go frames around flows start (start + size) end low frame turns (exec_all scope call before.loops body) []
            (from-lower go frames around start (start + size) low before.groups frame turns (exec_all scope call before.loops body) least
            (runs (placed start before) all.body (texts-left (texts_of_block body) (texts_of_cases rest texts) there) (ends-sooner (start + size) end around (omega (arith, ended)) ends)
            frame turns (stands-left (groups_of_block scope body) (groups_of_cases scope rest groups) stands) small))
            (subst (λ place. StandAt code line (start + size) (What.Jump place ∷ [])) ended all.jump) (omega (arith, ended))

        others : From go frames around next end low frame turns (exec_cases scope call (before.loops + loops_in_all body) (fitted sort z) rest meant)
        others =
            subst (λ place. From go frames around next place low frame turns (exec_cases scope call (before.loops + loops_in_all body) (fitted sort z) rest meant)) ended
            (later behind_body other texts groups meant else_runs all.others (texts-right before.texts (texts_of_block body) (texts_of_cases rest texts) there)
            (stands-right before.groups (groups_of_block scope body) (groups_of_cases scope rest groups) stands) (omega (arith, least)) (subst (λ place. EndBehind place around) (sym ended) ends))

        chosen : (b : Bool) → cond b (go start frame turns) (go next frame turns)
            ≡ sequence (cond b (exec_all scope call before.loops body) (exec_cases scope call (before.loops + loops_in_all body) (fitted sort z) rest meant) (turned frames turns)) K
        chosen true = own K behind
        chosen false = others K behind

    -- A default, which is done where none of the arms behind it is taken.
    default-from : (before : Before) (line : ℕ) (body : Items) (rest : Arms) (other : Otherwise) (texts : List (List ℕ)) (groups : List Group) (meant : Act Flow)
        → BodyRuns body → CasesRun group low frame turns sort z rest
        → InstrsStand code before.at (case_code scope before (behind_block scope body before) line group sort None (block_size scope body) (λ inside. block_code scope inside around body)
        (cases_size scope sort rest) (λ next other. cases_code scope next around group sort rest other) other)
        → TextsStand code before.texts (texts_of_cases rest (texts_of_block body)) → StandsAlways code scope frames frame before.groups (groups_of_cases scope rest (groups_of_block scope body))
        → low ≤ before.groups → EndBehind (before.at + cases_size scope sort rest (block_size scope body)) around
        → From go frames around before.at (before.at + cases_size scope sort rest (block_size scope body)) low frame turns
        (exec_cases scope call (before.loops + loops_in_all body) (fitted sort z) rest (exec_all scope call before.loops body))
    default-from before line body rest other texts groups meant runs later stand there stands least ends =
        later (numbered (before.loops + loops_in_all body) before) own (texts_of_block body) (groups_of_block scope body) (exec_all scope call before.loops body) own-runs stand there stands least ends
      where
        own : Otherwise
        own = record { size = block_size scope body; code = λ last. block_code scope (numbered before.loops last) around body }

        own-runs : ElseRuns low frame turns own (texts_of_block body) (groups_of_block scope body) (exec_all scope call before.loops body)
        own-runs last stand there stands least ends =
            from-lower go frames around last.at (last.at + block_size scope body) low last.groups frame turns (exec_all scope call before.loops body) least
            (runs (numbered before.loops last) stand there ends frame turns stands small)

    pub case-from : (before : Before) (line : ℕ) (found : Option (List CaseRange)) (body : Items) (rest : Arms) (other : Otherwise) (texts : List (List ℕ)) (groups : List Group) (meant : Act Flow)
        → ((inside : Before) → length (block_code scope inside around body) ≡ block_size scope body)
        → BodyRuns body → CasesRun group low frame turns sort z rest → ElseRuns low frame turns other texts groups meant
        → InstrsStand code before.at (case_code scope before (behind_block scope body before) line group sort found (block_size scope body) (λ inside. block_code scope inside around body)
        (cases_size scope sort rest) (λ next other. cases_code scope next around group sort rest other) other)
        → TextsStand code before.texts (behind_case found (texts_of_block body) (texts_of_cases rest) texts) → case_is_lowered sort found ≡ true
        → StandsAlways code scope frames frame before.groups (behind_case found (groups_of_block scope body) (groups_of_cases scope rest) groups) → low ≤ before.groups
        → EndBehind (before.at + case_size scope sort found (block_size scope body) (cases_size scope sort rest) other.size) around
        → From go frames around before.at (before.at + case_size scope sort found (block_size scope body) (cases_size scope sort rest) other.size) low frame turns
        (case_meant scope (fitted sort z) found (exec_all scope call before.loops body) (λ other. exec_cases scope call (before.loops + loops_in_all body) (fitted sort z) rest other) meant)
    case-from before line (Some ranges) body rest other texts groups meant long runs later else_runs stand there so stands least ends =
        ranges-from before line ranges body rest other texts groups meant (long (placed (before.at + (length (ranges_code scope group sort ranges) + 1)) before)) runs later else_runs stand there so stands least ends
        (ranges-length scope group 0 sort ranges)
    case-from before line None body rest other texts groups meant long runs later else_runs stand there so stands least ends =
        default-from before line body rest other texts groups meant runs later stand there stands least ends

  -- ---- the selector

  nothing-runs : (low : ℕ) (frame : Frame) (turns : ℕ) → ElseRuns low frame turns nothing_else [] [] (just on)
  nothing-runs low frame turns last stand there stands least ends =
      subst (λ end. From go frames around last.at end low frame turns (just on)) (plus-none last.at) (from-none go frames around last.at low frame turns)

  module _ (before : Before) (line : ℕ) (arms : Arms) (sort : Sort)
      (later : (frame : Frame) (turns : ℕ) (z : ℤ) → HasScalar code frame before.groups sort → held_at frame before.groups 0 ≡ Some (fitted sort z) → turns ≤ greatest_turns
      → CasesRun before.groups before.groups frame turns sort z arms)
      (there : TextsStand code before.texts (texts_of_cases arms [])) where
    -- The value of the selector is kept, and then an arm is taken.
    kept-from : (at mid end : ℕ) (frame : Frame) (turns : ℕ) (z : ℤ) → mid ≡ at + 2 → end ≡ mid + cases_size scope sort arms 0 → StandAt code line at (keep_code before.groups)
        → InstrsStand code mid (cases_code scope (placed mid (keeping 1 before)) around before.groups sort arms nothing_else)
        → StandsAlways code scope frames frame before.groups (scalar_group sort ∷ groups_of_cases scope arms []) → turns ≤ greatest_turns → EndBehind end around
        → (K : Later) → Behind go frames around end before.groups frame turns K
        → go at (pushed (Item.Value z) frame) turns ≡ sequence (exec_cases scope call before.loops (fitted sort z) arms (just on) (turned frames turns)) K
    kept-from at mid end frame turns z begins ended stand cases_stand stands small ends K behind =
        keep-law (flows-go flows) at before.groups frame turns sort z scalar stand
        ∙ ap (λ place. go place left turns) (sym begins)
        ∙ later left turns z (alike-scalar alike scalar) (put-there before.groups 0 (Some (fitted sort z)) frame scalar.room) small
        (placed mid (keeping 1 before)) nothing_else [] [] (just on) (nothing-runs before.groups left turns) cases_stand there
        (stands-right before.groups (scalar_group sort ∷ []) (groups_of_cases scope arms []) (stands-alike alike stands)) (omega arith) (subst (λ place. EndBehind place around) ended ends) K
        (λ flow place other least is same fewer. behind flow place other least (subst (λ p. place_of p around flow ≡ Some place) (sym ended) is) (alike-then alike same) fewer)
      where
        left : Frame
        left = put_slot before.groups 0 (Some (fitted sort z)) frame

        alike : Alike before.groups frame left
        alike = put-alike before.groups before.groups 0 (Some (fitted sort z)) frame (omega arith)

        scalar : HasScalar code frame before.groups sort
        scalar = subst (λ group. HasScalar code frame group sort) (sym (plus-none before.groups)) (kept-scalar 0 sort (stands 0).kept refl)

  zero-fitted : fitted (whole Kind.K4) (pos 0) ≡ pos 0
  unfolding int_wrap
  zero-fitted = refl

  pub select-runs : (before : Before) (line : ℕ) (found : Option Tree) (arms : Arms)
      → ((frame : Frame) (turns : ℕ) (z : ℤ) → HasScalar code frame before.groups (selector_sort scope found) → held_at frame before.groups 0 ≡ Some (fitted (selector_sort scope found) z)
      → turns ≤ greatest_turns → CasesRun before.groups before.groups frame turns (selector_sort scope found) z arms)
      → TextsStand code before.texts (texts_of_cases arms []) → is_usable_test scope found ≡ true
      → InstrsStand code before.at (lined line (selector_code scope before.groups found)
      ++ cases_code scope (placed (before.at + length (selector_code scope before.groups found)) (keeping 1 before)) around before.groups (selector_sort scope found) arms nothing_else)
      → EndBehind (before.at + (length (selector_code scope before.groups found) + cases_size scope (selector_sort scope found) arms 0)) around
      → Runs code go scope frames around before.at (before.at + (length (selector_code scope before.groups found) + cases_size scope (selector_sort scope found) arms 0)) before.groups
      (scalar_group (selector_sort scope found) ∷ groups_of_cases scope arms []) (selector_meant scope call line found >>= (λ z. exec_cases scope call before.loops z arms (just on)))
  select-runs before line (Some tree) arms later there usable stand ends frame turns stands small K behind =
      value-law code go (flows-go flows) scope call line before.at frame (turned frames turns) tree (stands turns).names (stand-left test (keep_code before.groups) selector_stand) usable
      (λ w. sequence (exec_cases scope call before.loops (fitted sort w.0) arms (just on) w.1) K)
      (λ z. kept-from before line arms sort later there (before.at + length test) mid end frame turns z begun ended (stand-right before.at test (keep_code before.groups) selector_stand) cases_stand stands small ends K behind)
      ∙ sym (sequence-then (value scope call line tree (turned frames turns)) (λ w. just (fitted sort w.0) w.1) (λ w. sequence (exec_cases scope call before.loops w.0 arms (just on) w.1) K))
      ∙ sym (sequence-then (selector_meant scope call line (Some tree) (turned frames turns)) (λ w. exec_cases scope call before.loops w.0 arms (just on) w.1) K)
    where
      sort : Sort
      sort = sort_of scope tree

      test : List What
      test = value_code scope tree

      selector : List What
      selector = selector_code scope before.groups (Some tree)

      mid : ℕ
      mid = before.at + length selector

      end : ℕ
      end = before.at + (length selector + cases_size scope sort arms 0)

      cases : List Instr
      cases = cases_code scope (placed mid (keeping 1 before)) around before.groups sort arms nothing_else

      selector_stand : StandAt code line before.at selector
      selector_stand = lined-stand line selector (instrs-left (lined line selector) cases stand)

      cases_stand : InstrsStand code mid cases
      cases_stand = subst (λ n. InstrsStand code (before.at + n) cases) (length-lined line selector) (instrs-right before.at (lined line selector) cases stand)

      begun : mid ≡ before.at + length test + 2
      begun = omega (arith, length-append test (keep_code before.groups))

      ended : end ≡ mid + cases_size scope sort arms 0
      ended = omega arith
  select-runs before line None arms later there usable stand ends frame turns stands small K behind =
      stepped (flows-go flows) before.at (What.Const Kind.K4 (pos 0)) (keep_code before.groups) frame turns selector_stand refl
      ∙ kept-from before line arms (whole Kind.K4) later there (suc before.at) (before.at + 3) (before.at + (3 + cases_size scope (whole Kind.K4) arms 0)) frame turns (pos 0) (omega arith) (omega arith)
      (stand-rest before.at (What.Const Kind.K4 (pos 0)) (keep_code before.groups) selector_stand) cases_stand stands small ends K behind
      ∙ ap (λ z. sequence (exec_cases scope call before.loops z arms (just on) (turned frames turns)) K) zero-fitted
    where
      selector : List What
      selector = selector_code scope before.groups None

      cases : List Instr
      cases = cases_code scope (placed (before.at + 3) (keeping 1 before)) around before.groups (whole Kind.K4) arms nothing_else

      selector_stand : StandAt code line before.at selector
      selector_stand = lined-stand line selector (instrs-left (lined line selector) cases stand)

      cases_stand : InstrsStand code (before.at + 3) cases
      cases_stand = subst (λ n. InstrsStand code (before.at + n) cases) (length-lined line selector) (instrs-right before.at (lined line selector) cases stand)
