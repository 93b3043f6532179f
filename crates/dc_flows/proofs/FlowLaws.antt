-- The instructions of blocks carry them out, by induction on statements, blocks and arms.
use Rattle.std.proofs.Common.{◌≡◌, ◌≤◌, ℕ, ◌+◌, Bool, true, ◌&&◌, List, [], ◌∷◌, ◌++◌, length, Option, Some, refl, sym, ap, ◌∙◌, subst, arith}
use Rattle.std.specs.Prelude.{ℤ}
use Rattle.dc_int.specs.Sorts.{Sort, fitted}
use Rattle.dc_code.specs.declared.instr.Instr.{Instr}
use Rattle.dc_code.specs.declared.plan.Group.{Group}
use Rattle.dc_code.specs.Codes.{CodeLists}
use Rattle.dc_code.specs.Computation.{sequence}
use Rattle.dc_code.specs.Frames.{Frame}
use Rattle.dc_code.specs.Instructions.{Going}
use Rattle.dc_tree.specs.Blocks.{Line, Item, Items, Arms, plain, branch, select, loop, none, and_then, no_arms, arm}
use Rattle.dc_tree.specs.Entities.{Scope}
use Rattle.dc_tree.specs.Syntax.{Tree}
use Rattle.dc_meaning.specs.Actions.{Flow, on}
use Rattle.dc_meaning.specs.Acts as acts
use Rattle.dc_meaning.specs.Acts.{State, Act, ◌>>=◌, just}
use Rattle.dc_meaning.specs.Execution.{plain_line, exec, exec_all, exec_arms, exec_cases, loops_in_all}
use Rattle.dc_meaning.specs.Values.{Callee}
use Rattle.dc_actions.specs.Deeds.{InstrsStand, lined}
use Rattle.dc_actions.specs.Printing.{TextsStand}
use Rattle.dc_actions.proofs.Facts.{both-true}
use Rattle.dc_actions.proofs.FillingLaws.{held_at}
use Rattle.dc_actions.proofs.OperatorLaws.{plus-none}
use Rattle.dc_actions.proofs.OutputLaws.{texts-left, texts-right}
use Rattle.dc_actions.proofs.Placing.{instrs-left, instrs-right, lined-stand}
use Rattle.dc_flows.specs.Flows.{Before, LoopAround, labels_of, placed, tested, ranges_in, selected, selector_sort, selector_code, says_code, says_size, item_size, block_size, arms_size, cases_size, texts_of_item, texts_of_block, texts_of_arms, texts_of_cases, groups_of_item, groups_of_says, groups_of_block, groups_of_arms, groups_of_cases, scalar_group, behind_item, behind_block, item_code, block_code, arms_code, cases_code}
use Rattle.dc_flows.specs.FlowsLowered.{EndBehind, is_usable_test, case_is_lowered, item_is_lowered, block_is_lowered, arms_are_lowered, cases_are_lowered, greatest_turns}
use Rattle.dc_flows.proofs.FlowActions.{ends-sooner}
use Rattle.dc_flows.proofs.FlowArms.{arm_meant, arm-is, if-runs}
use Rattle.dc_flows.proofs.FlowGoing.{FlowsAs}
use Rattle.dc_flows.proofs.FlowItems.{says-runs, loop-runs}
use Rattle.dc_flows.proofs.FlowRuns.{turned, From, Runs, from-none, runs-then}
use Rattle.dc_flows.proofs.FlowSelects.{CasesRun, case_meant, case-is, selector_meant, selector-is, case-from, select-runs}
use Rattle.dc_flows.proofs.FlowSizes.{says-length, selector-length, item-length, block-length}
use Rattle.dc_flows.proofs.FlowSlots.{HasScalar}

module _ (code : CodeLists) (go : Going) (flows : FlowsAs code go) (scope : Scope) (call : Callee) (frames : List acts.Frame) (main : Bool) (alone : main ≡ true → (acts.innermost (turned frames 0)).slots ≡ []) where
  -- what is said of an item, of a block, and of arms
  abbrev ItemRuns : Before → List LoopAround → Item → Type 0
  ItemRuns before around item =
      InstrsStand code before.at (item_code scope before around item) → TextsStand code before.texts (texts_of_item item) → item_is_lowered scope main (labels_of around) item ≡ true
      → EndBehind (before.at + item_size scope item) around
      → Runs code go scope frames around before.at (before.at + item_size scope item) before.groups (groups_of_item scope item) (exec scope call before.loops item)

  abbrev BlockRuns : Before → List LoopAround → Items → Type 0
  BlockRuns before around block =
      InstrsStand code before.at (block_code scope before around block) → TextsStand code before.texts (texts_of_block block) → block_is_lowered scope main (labels_of around) block ≡ true
      → EndBehind (before.at + block_size scope block) around
      → Runs code go scope frames around before.at (before.at + block_size scope block) before.groups (groups_of_block scope block) (exec_all scope call before.loops block)

  abbrev ArmsRun : Before → List LoopAround → Arms → Type 0
  ArmsRun before around arms =
      InstrsStand code before.at (arms_code scope before around arms) → TextsStand code before.texts (texts_of_arms arms) → arms_are_lowered scope main (labels_of around) arms ≡ true
      → EndBehind (before.at + arms_size scope arms) around
      → Runs code go scope frames around before.at (before.at + arms_size scope arms) before.groups (groups_of_arms scope arms) (exec_arms scope call before.loops arms)

  abbrev CasesRuns : List LoopAround → Arms → Type 0
  CasesRuns around arms =
      (group low : ℕ) (frame : Frame) (turns : ℕ) (sort : Sort) (z : ℤ) → HasScalar code frame group sort → held_at frame group 0 ≡ Some (fitted sort z) → turns ≤ greatest_turns
      → cases_are_lowered scope main (labels_of around) sort arms ≡ true → CasesRun code go flows scope call frames around group low frame turns sort z arms

  nothing-runs : (around : List LoopAround) (at free : ℕ) → Runs code go scope frames around at (at + 0) free [] (just on)
  nothing-runs around at free frame turns stands small =
      subst (λ end. From go frames around at end free frame turns (just on)) (plus-none at) (from-none go frames around at free frame turns)

  line-runs : (before : Before) (around : List LoopAround) (line : Line) → ItemRuns before around (plain line)
  line-runs before around line stand there so ends =
      subst (λ n. Runs code go scope frames around before.at (before.at + n) before.groups (groups_of_says scope line.says) (plain_line scope call line)) sized
      (says-runs code go flows scope call frames main before around line.line line.says (lined-stand line.line (says_code scope before around line.says) stand) there so
      (subst (λ n. EndBehind (before.at + n) around) (sym sized) ends))
    where
      sized : length (says_code scope before around line.says) ≡ says_size scope line.says
      sized = says-length scope before around line.says

  selected-runs : (before : Before) (around : List LoopAround) (head : Line) (arms : Arms) (close : Line) → CasesRuns around arms → ItemRuns before around (select head arms close)
  selected-runs before around head arms close later stand there so ends =
      subst (λ act. Runs code go scope frames around before.at (before.at + (length (selector_code scope 0 found) + cases_size scope sort arms 0)) before.groups
      (scalar_group sort ∷ groups_of_cases scope arms []) (act >>= (λ z. exec_cases scope call before.loops z arms (just on)))) (sym (selector-is scope call head.line head.says))
      (subst (λ n. Runs code go scope frames around before.at (before.at + (n + cases_size scope sort arms 0)) before.groups
      (scalar_group sort ∷ groups_of_cases scope arms []) (selector_meant scope call head.line found >>= (λ z. exec_cases scope call before.loops z arms (just on)))) sized
      (select-runs code go flows scope call frames around before head.line found arms
      (λ frame turns z has held small. later before.groups before.groups frame turns sort z has held small (both-true so).1) there (both-true so).0 stand
      (subst (λ n. EndBehind (before.at + (n + cases_size scope sort arms 0)) around) (sym sized) ends)))
    where
      found : Option Tree
      found = selected head.says

      sort : Sort
      sort = selector_sort scope found

      sized : length (selector_code scope before.groups found) ≡ length (selector_code scope 0 found)
      sized = selector-length scope before.groups 0 found

  behind-runs : (before : Before) (around : List LoopAround) (first : Item) (rest : Items) → ItemRuns before around first → BlockRuns (behind_item scope first before) around rest
      → BlockRuns before around (and_then first rest)
  behind-runs before around first rest one others stand there so ends =
      runs-then code go scope frames around before.at mid (before.at + (item_size scope first + block_size scope rest)) before.groups (groups_of_item scope first) (groups_of_block scope rest)
      (exec scope call before.loops first) (exec_all scope call (behind_item scope first before).loops rest)
      (one (instrs-left own later stand) (texts-left (texts_of_item first) (texts_of_block rest) there) (both-true so).0
      (ends-sooner mid (before.at + (item_size scope first + block_size scope rest)) around (omega arith) ends))
      (subst (λ end. Runs code go scope frames around mid end (before.groups + length (groups_of_item scope first)) (groups_of_block scope rest) (exec_all scope call (behind_item scope first before).loops rest)) ended
      (others (subst (λ n. InstrsStand code (before.at + n) later) (item-length scope before around first) (instrs-right before.at own later stand))
      (texts-right before.texts (texts_of_item first) (texts_of_block rest) there) (both-true so).1 (subst (λ end. EndBehind end around) (sym ended) ends)))
    where
      mid : ℕ
      mid = before.at + item_size scope first

      own : List Instr
      own = item_code scope before around first

      later : List Instr
      later = block_code scope (behind_item scope first before) around rest

      ended : mid + block_size scope rest ≡ before.at + (item_size scope first + block_size scope rest)
      ended = omega arith

  arm-runs : (before : Before) (around : List LoopAround) (head : Line) (body : Items) (rest : Arms) → ((at : ℕ) → BlockRuns (placed at before) around body)
      → ((next : ℕ) → ArmsRun (placed next (behind_block scope body before)) around rest) → ArmsRun before around (arm head body rest)
  arm-runs before around head body rest runs later stand there so ends =
      subst (λ act. Runs code go scope frames around before.at (before.at + arms_size scope (arm head body rest)) before.groups (groups_of_block scope body ++ groups_of_arms scope rest) act)
      (sym (arm-is scope call head.line head.says (exec_all scope call before.loops body) (exec_arms scope call (before.loops + loops_in_all body) rest)))
      (if-runs code go flows scope call frames around before head.line (tested head.says) (block_size scope body) (λ inside. block_code scope inside around body) (arms_size scope rest)
      (λ next. arms_code scope (placed next (behind_block scope body before)) around rest) (groups_of_block scope body) (groups_of_arms scope rest)
      (exec_all scope call before.loops body) (exec_arms scope call (before.loops + loops_in_all body) rest) (λ inside. block-length scope inside around body)
      (λ at stand ends. runs at stand (texts-left (texts_of_block body) (texts_of_arms rest) there) both.0 ends)
      (λ next stand ends. later next stand (texts-right before.texts (texts_of_block body) (texts_of_arms rest) there) both.1 ends) stand (both-true so).0 ends)
    where
      both : (block_is_lowered scope main (labels_of around) body ≡ true) × (arms_are_lowered scope main (labels_of around) rest ≡ true)
      both = both-true (both-true {a = is_usable_test scope (tested head.says)} so).1

  case-runs : (around : List LoopAround) (head : Line) (body : Items) (rest : Arms) → ((inside : Before) → BlockRuns inside around body) → CasesRuns around rest → CasesRuns around (arm head body rest)
  case-runs around head body rest runs later group low frame turns sort z has held small so before other texts groups meant else_runs stand there stands least ends =
      subst (λ act. From go frames around before.at (before.at + cases_size scope sort (arm head body rest) other.size) low frame turns act)
      (sym (case-is scope (fitted sort z) head.says (exec_all scope call before.loops body) (λ other. exec_cases scope call (before.loops + loops_in_all body) (fitted sort z) rest other) meant))
      (case-from code go flows scope call frames around group low frame turns sort z has held small before head.line (ranges_in head.says) body rest other texts groups meant
      (λ inside. block-length scope inside around body) (λ inside stand there ends. runs inside stand there both.0 ends)
      (later group low frame turns sort z has held small both.1) else_runs stand there (both-true so).0 stands least ends)
    where
      both : (block_is_lowered scope main (labels_of around) body ≡ true) × (cases_are_lowered scope main (labels_of around) sort rest ≡ true)
      both = both-true (both-true {a = case_is_lowered sort (ranges_in head.says)} so).1

  mutual
    pub item-runs : (before : Before) (around : List LoopAround) (item : Item) → ItemRuns before around item
    item-runs before around (plain line) = line-runs before around line
    item-runs before around (branch arms close) = arms-run before around arms
    item-runs before around (select head arms close) = selected-runs before around head arms close (cases-run around arms)
    item-runs before around (loop head body close) =
        loop-runs code go flows scope call frames main alone before around head.line head.says body (λ inside loops. block-runs inside loops body)

    pub block-runs : (before : Before) (around : List LoopAround) (block : Items) → BlockRuns before around block
    block-runs before around none = λ stand there so ends. nothing-runs around before.at before.groups
    block-runs before around (and_then first rest) = behind-runs before around first rest (item-runs before around first) (block-runs (behind_item scope first before) around rest)

    arms-run : (before : Before) (around : List LoopAround) (arms : Arms) → ArmsRun before around arms
    arms-run before around no_arms = λ stand there so ends. nothing-runs around before.at before.groups
    arms-run before around (arm head body rest) =
        arm-runs before around head body rest (λ at. block-runs (placed at before) around body) (λ next. arms-run (placed next (behind_block scope body before)) around rest)

    cases-run : (around : List LoopAround) (arms : Arms) → CasesRuns around arms
    cases-run around no_arms = λ group low frame turns sort z has held small so before other texts groups meant else_runs stand there stands least ends. else_runs before stand there stands least ends
    cases-run around (arm head body rest) = case-runs around head body rest (λ inside. block-runs inside around body) (cases-run around rest)
