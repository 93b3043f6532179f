-- The instructions of blocks are joined, by induction on statements, blocks and arms.
use Rattle.std.proofs.Common.{◌≡◌, ◌≤◌, ℕ, ◌+◌, Bool, true, false, ◌&&◌, List, [], ◌∷◌, length, map, Option, Some, None, refl, sym, ap, subst, arith}
use Rattle.std.proofs.lemmas.Bool.{false≢true}
use Rattle.std.proofs.lemmas.List.{length-append}
use Rattle.dc_int.specs.Sorts.{Sort}
use Rattle.dc_code.specs.declared.instr.What.{What}
use Rattle.dc_code.specs.declared.plan.Group.{Group}
use Rattle.dc_tree.specs.Blocks.{Line, Item, Items, Arms, plain, branch, select, loop, none, and_then, no_arms, arm}
use Rattle.dc_tree.specs.Entities.{Scope}
use Rattle.dc_tree.specs.Statements.{Name, CaseRange, Statement, act, if_action}
use Rattle.dc_tree.specs.Syntax.{Tree}
use Rattle.dc_meaning.specs.Execution.{loops_in, loops_in_all, loops_in_arms}
use Rattle.dc_actions.specs.Deeds.{lined}
use Rattle.dc_actions.specs.Expressions.{value_code}
use Rattle.dc_actions.proofs.Facts.{both-true}
use Rattle.dc_actions.proofs.DeedLaws.{length-lined}
use Rattle.dc_actions.proofs.RunsOfDeeds.{whats_of}
use Rattle.dc_actions.proofs.Standing.{Stand, second-stand, here-stands}
use Rattle.dc_actions.proofs.Straight.{Ground}
use Rattle.dc_flows.specs.Flows.{Before, LoopAround, Otherwise, nothing_else, placed, keeping, numbered, tested, ranges_in, selected, selector_sort, selector_code, scalar_group, test_code, action_code, guarded_code, says_code, case_size, item_size, block_size, arms_size, cases_size, texts_of_says, texts_of_item, texts_of_block, texts_of_arms, texts_of_cases, groups_of_says, groups_of_item, groups_of_block, groups_of_arms, groups_of_cases, behind_case, behind_item, behind_block, case_code, item_code, block_code, arms_code, cases_code}
use Rattle.dc_flows.specs.FlowsLowered.{EndBehind, is_usable_test, case_is_lowered, says_is_lowered, item_is_lowered, block_is_lowered, arms_are_lowered, cases_are_lowered}
use Rattle.dc_flows.specs.FlowsTyped.{says_is_typed, test_is_typed, selector_is_typed, case_is_typed, item_is_typed, block_is_typed, arms_are_typed, cases_are_typed, says_is_silent, item_is_silent, block_is_silent, arms_are_silent}
use Rattle.dc_flows.proofs.FlowActions.{ends-sooner}
use Rattle.dc_flows.proofs.FlowSizes.{says-length, selector-length, item-length, block-length, arms-length, cases-length}
use Rattle.dc_flows.proofs.StandActions.{test-runs, action-joined}
use Rattle.dc_flows.proofs.StandArms.{instrs-joined, line-joined, if-joined, ranges-joined}
use Rattle.dc_flows.proofs.StandCases.{selector-runs}
use Rattle.dc_flows.proofs.StandGrounds.{Suits, Rooms, rooms-first, rooms-second, IsAround}
use Rattle.dc_flows.proofs.StandJoints.{AreJoined, joined-runs}
use Rattle.dc_flows.proofs.StandLoops.{loop-joined}
use Rattle.dc_flows.proofs.StandScalars.{IsScalar, scalar-there}
use Rattle.dc_flows.proofs.StandShapes.{guarded-joined}

abbrev Labels : List LoopAround → List (Option Name)
Labels around = map (λ (loop : LoopAround). loop.label) around

module _ (ground : Ground) (scope : Scope) (in_main : Bool) (suits : Suits ground scope in_main) where
  -- Only the main program writes.
  abbrev Silent : Bool → Type 0
  Silent silent = in_main ≡ false → silent ≡ true

  abbrev ItemJoined : Before → List LoopAround → Item → Type 0
  ItemJoined before around item =
      Rooms ground before.texts before.groups before.loops (texts_of_item item) (groups_of_item scope item) (loops_in item)
      → item_is_lowered scope in_main (Labels around) item ≡ true → item_is_typed scope item ≡ true → Silent (item_is_silent item)
      → EndBehind (before.at + item_size scope item) around → AreJoined ground (IsAround around) before.at (whats_of (item_code scope before around item))

  abbrev BlockJoined : Before → List LoopAround → Items → Type 0
  BlockJoined before around block =
      Rooms ground before.texts before.groups before.loops (texts_of_block block) (groups_of_block scope block) (loops_in_all block)
      → block_is_lowered scope in_main (Labels around) block ≡ true → block_is_typed scope block ≡ true → Silent (block_is_silent block)
      → EndBehind (before.at + block_size scope block) around → AreJoined ground (IsAround around) before.at (whats_of (block_code scope before around block))

  abbrev ArmsJoined : Before → List LoopAround → Arms → Type 0
  ArmsJoined before around arms =
      Rooms ground before.texts before.groups before.loops (texts_of_arms arms) (groups_of_arms scope arms) (loops_in_arms arms)
      → arms_are_lowered scope in_main (Labels around) arms ≡ true → arms_are_typed scope arms ≡ true → Silent (arms_are_silent arms)
      → EndBehind (before.at + arms_size scope arms) around → AreJoined ground (IsAround around) before.at (whats_of (arms_code scope before around arms))

  -- What is done where no arm is taken is joined, where it stands behind all arms.
  record IsJoinedElse (around : List LoopAround) (other : Otherwise) (texts : List (List ℕ)) (groups : List Group) : Type 0 where
    pub long : (last : Before) → length (other.code last) ≡ other.size
    pub joined
        : (last : Before) → Stand ground.code.texts last.texts texts → Stand ground.plan.groups last.groups groups → EndBehind (last.at + other.size) around
        → AreJoined ground (IsAround around) last.at (whats_of (other.code last))

  abbrev CasesJoined : List LoopAround → Arms → Type 0
  CasesJoined around arms =
      (before : Before) (group : ℕ) (sort : Sort) (other : Otherwise) (texts : List (List ℕ)) (groups : List Group) → IsScalar ground group sort → IsJoinedElse around other texts groups
      → Rooms ground before.texts before.groups before.loops (texts_of_cases arms texts) (groups_of_cases scope arms groups) (loops_in_arms arms)
      → cases_are_lowered scope in_main (Labels around) sort arms ≡ true → cases_are_typed scope sort arms ≡ true → Silent (arms_are_silent arms)
      → EndBehind (before.at + cases_size scope sort arms other.size) around
      → AreJoined ground (IsAround around) before.at (whats_of (cases_code scope before around group sort arms other))

  -- ---- single statements

  says-joined : (before : Before) (around : List LoopAround) (says : Statement)
      → Rooms ground before.texts before.groups before.loops (texts_of_says says) (groups_of_says scope says) 0
      → says_is_lowered scope in_main (Labels around) says ≡ true → says_is_typed scope says ≡ true → Silent (says_is_silent says)
      → EndBehind (before.at + length (says_code scope before around says)) around → AreJoined ground (IsAround around) before.at (says_code scope before around says)
  says-joined before around (act deed) rooms so typed silent ends = action-joined ground scope in_main suits around before.at before deed 0 rooms so typed silent ends
  says-joined before around (if_action tree deed) rooms so typed silent ends =
      let usable = both-true so in
      let test_typed = both-true typed in
      guarded-joined ground (IsAround around) before.at (value_code scope tree) (action_code scope before around deed)
      (test-runs ground scope in_main suits tree usable.0 test_typed.0)
      (action-joined ground scope in_main suits around (before.at + (length (value_code scope tree) + 1)) before deed 0 rooms usable.1 test_typed.1 silent
      (subst (λ n. EndBehind n around) long ends))
    where
      test : List What
      test = value_code scope tree

      whats : List What
      whats = action_code scope before around deed

      long : before.at + length (guarded_code before.at test whats) ≡ before.at + (length test + 1) + length whats
      long = omega (arith, length-append (test_code test (before.at + (length test + 1) + length whats)) whats, length-append test (What.JumpFalse (before.at + (length test + 1) + length whats) ∷ []))
  says-joined before around says rooms so typed silent ends = absurd (false≢true so)

  line-is-joined : (before : Before) (around : List LoopAround) (line : Line) → ItemJoined before around (plain line)
  line-is-joined before around line rooms so typed silent ends =
      line-joined ground (IsAround around) before.at line.line (says_code scope before around line.says)
      (says-joined before around line.says rooms so typed silent (subst (λ n. EndBehind (before.at + n) around) (sym (says-length scope before around line.says)) ends))

  -- ---- blocks

  -- A statement, and what follows it.
  behind-joined : (before : Before) (around : List LoopAround) (first : Item) (rest : Items) → ItemJoined before around first → BlockJoined (behind_item scope first before) around rest
      → BlockJoined before around (and_then first rest)
  behind-joined before around first rest one others rooms so typed silent ends =
      instrs-joined ground (IsAround around) before.at mid (item_code scope before around first) (block_code scope (behind_item scope first before) around rest)
      (ap (λ n. before.at + n) (sym (item-length scope before around first)))
      (one (rooms-first (texts_of_item first) (texts_of_block rest) (groups_of_item scope first) (groups_of_block scope rest) (loops_in first) (loops_in_all rest) rooms)
      (both-true so).0 (both-true typed).0 (λ e. (both-true (silent e)).0) (ends-sooner mid (before.at + (item_size scope first + block_size scope rest)) around (omega arith) ends))
      (others (rooms-second (texts_of_item first) (texts_of_block rest) (groups_of_item scope first) (groups_of_block scope rest) (loops_in first) (loops_in_all rest) rooms)
      (both-true so).1 (both-true typed).1 (λ e. (both-true {a = item_is_silent first} (silent e)).1) (subst (λ end. EndBehind end around) ended ends))
    where
      mid : ℕ
      mid = before.at + item_size scope first

      ended : before.at + (item_size scope first + block_size scope rest) ≡ mid + block_size scope rest
      ended = omega arith

  -- ---- arms

  arm-is-joined : (before : Before) (around : List LoopAround) (head : Line) (body : Items) (rest : Arms) → ((at : ℕ) → BlockJoined (placed at before) around body)
      → ((next : ℕ) → ArmsJoined (placed next (behind_block scope body before)) around rest) → ArmsJoined before around (arm head body rest)
  arm-is-joined before around head body rest joined later rooms so typed silent ends =
      if-joined ground around scope in_main suits before head.line (tested head.says) (block_size scope body) (λ inside. block_code scope inside around body) (arms_size scope rest)
      (λ next. arms_code scope (placed next (behind_block scope body before)) around rest) (λ inside. block-length scope inside around body)
      (λ next. arms-length scope (placed next (behind_block scope body before)) around rest) lowered.0 types.0
      (λ at sooner. joined at (rooms-first (texts_of_block body) (texts_of_arms rest) (groups_of_block scope body) (groups_of_arms scope rest) (loops_in_all body) (loops_in_arms rest) rooms)
      (both-true lowered.1).0 (both-true types.1).0 (λ e. (both-true (silent e)).0) sooner)
      (λ next sooner. later next (rooms-second (texts_of_block body) (texts_of_arms rest) (groups_of_block scope body) (groups_of_arms scope rest) (loops_in_all body) (loops_in_arms rest) rooms)
      (both-true lowered.1).1 (both-true types.1).1 (λ e. (both-true {a = block_is_silent body} (silent e)).1) sooner)
      ends
    where
      lowered : (is_usable_test scope (tested head.says) ≡ true) × ((block_is_lowered scope in_main (Labels around) body && arms_are_lowered scope in_main (Labels around) rest) ≡ true)
      lowered = both-true so

      types : (test_is_typed scope (tested head.says) ≡ true) × ((block_is_typed scope body && arms_are_typed scope rest) ≡ true)
      types = both-true typed

  -- ---- arms of SELECT CASE

  -- The parts of an arm that is found to be an arm with these ranges, or the default.
  abbrev CaseJoined : List LoopAround → Before → (line : ℕ) → Option (List CaseRange) → Items → Arms → Type 0
  CaseJoined around before line found body rest =
      (group : ℕ) (sort : Sort) (other : Otherwise) (texts : List (List ℕ)) (groups : List Group) → IsScalar ground group sort → IsJoinedElse around other texts groups
      → Rooms ground before.texts before.groups before.loops (behind_case found (texts_of_block body) (texts_of_cases rest) texts)
      (behind_case found (groups_of_block scope body) (groups_of_cases scope rest) groups) (loops_in_all body + loops_in_arms rest)
      → (block_is_lowered scope in_main (Labels around) body && cases_are_lowered scope in_main (Labels around) sort rest) ≡ true
      → case_is_typed scope sort found ≡ true → (block_is_typed scope body && cases_are_typed scope sort rest) ≡ true → Silent (block_is_silent body && arms_are_silent rest)
      → EndBehind (before.at + case_size scope sort found (block_size scope body) (cases_size scope sort rest) other.size) around
      → AreJoined ground (IsAround around) before.at
      (whats_of (case_code scope before (behind_block scope body before) line group sort found (block_size scope body) (λ inside. block_code scope inside around body)
      (cases_size scope sort rest) (λ next others. cases_code scope next around group sort rest others) other))

  case-joined : (around : List LoopAround) (before : Before) (line : ℕ) (found : Option (List CaseRange)) (body : Items) (rest : Arms) → ((inside : Before) → BlockJoined inside around body)
      → CasesJoined around rest → CaseJoined around before line found body rest
  case-joined around before line (Some ranges) body rest joined later group sort other texts groups scalar elses rooms so ranged typed silent ends =
      ranges-joined ground around scope before (behind_block scope body before) line group sort ranges (block_size scope body) (λ inside. block_code scope inside around body)
      (cases_size scope sort rest) (λ next others. cases_code scope next around group sort rest others) other (λ inside. block-length scope inside around body)
      (λ next. cases-length scope next around group sort rest other elses.long) scalar ranged
      (λ at sooner. joined (placed at before)
      (rooms-first (texts_of_block body) (texts_of_cases rest texts) (groups_of_block scope body) (groups_of_cases scope rest groups) (loops_in_all body) (loops_in_arms rest) rooms)
      (both-true so).0 (both-true typed).0 (λ e. (both-true (silent e)).0) sooner)
      (λ next sooner. later (placed next (behind_block scope body before)) group sort other texts groups scalar elses
      (rooms-second (texts_of_block body) (texts_of_cases rest texts) (groups_of_block scope body) (groups_of_cases scope rest groups) (loops_in_all body) (loops_in_arms rest) rooms)
      (both-true so).1 (both-true typed).1 (λ e. (both-true {a = block_is_silent body} (silent e)).1) sooner)
      ends
  case-joined around before line None body rest joined later group sort other texts groups scalar elses rooms so ranged typed silent ends =
      later (numbered (before.loops + loops_in_all body) before) group sort own (texts_of_block body) (groups_of_block scope body) scalar own-elses
      (record { texts_stand = rooms.texts_stand; groups_stand = rooms.groups_stand; loops_fit = later-fit })
      (both-true so).1 (both-true typed).1 (λ e. (both-true {a = block_is_silent body} (silent e)).1) ends
    where
      own : Otherwise
      own = record { size = block_size scope body; code = λ last. block_code scope (numbered before.loops last) around body }

      few : before.loops + (loops_in_all body + loops_in_arms rest) ≤ length ground.code.constructs
      few = rooms.loops_fit

      later-fit : before.loops + loops_in_all body + loops_in_arms rest ≤ length ground.code.constructs
      later-fit = omega (arith, few)

      own-fit : before.loops + loops_in_all body ≤ length ground.code.constructs
      own-fit = omega (arith, few)

      own-elses : IsJoinedElse around own (texts_of_block body) (groups_of_block scope body)
      own-elses = record {
        long = λ last. block-length scope (numbered before.loops last) around body;
        joined = λ last texts_stand groups_stand sooner.
            joined (numbered before.loops last) (record { texts_stand = texts_stand; groups_stand = groups_stand; loops_fit = own-fit })
            (both-true so).0 (both-true typed).0 (λ e. (both-true (silent e)).0) sooner;
      }

  cases-joined : (around : List LoopAround) (head : Line) (body : Items) (rest : Arms) → ((inside : Before) → BlockJoined inside around body) → CasesJoined around rest
      → CasesJoined around (arm head body rest)
  cases-joined around head body rest joined later before group sort other texts groups scalar elses rooms so typed silent ends =
      case-joined around before head.line (ranges_in head.says) body rest joined later group sort other texts groups scalar elses rooms
      (both-true {a = case_is_lowered sort (ranges_in head.says)} so).1 (both-true typed).0 (both-true {a = case_is_typed scope sort (ranges_in head.says)} typed).1 silent ends

  selected-joined : (before : Before) (around : List LoopAround) (head : Line) (arms : Arms) (close : Line) → CasesJoined around arms → ItemJoined before around (select head arms close)
  selected-joined before around head arms close later rooms so typed silent ends =
      instrs-joined ground (IsAround around) before.at mid (lined head.line test) (cases_code scope inside around before.groups sort arms nothing_else)
      (ap (λ n. before.at + n) (sym (length-lined head.line test)))
      (line-joined ground (IsAround around) before.at head.line test
      (joined-runs ground (IsAround around) before.at test (selector-runs ground before.groups scope suits.fits found scalar (both-true so).0 (both-true typed).0 [])))
      (later inside before.groups sort nothing_else [] [] scalar nothing-joined
      (record {
        texts_stand = rooms.texts_stand;
        groups_stand = second-stand ground.plan.groups before.groups (scalar_group sort ∷ []) (groups_of_cases scope arms []) rooms.groups_stand;
        loops_fit = rooms.loops_fit;
      })
      (both-true {a = is_usable_test scope found} so).1 (both-true {a = selector_is_typed scope found} typed).1 silent
      (subst (λ end. EndBehind end around) ended ends))
    where
      found : Option Tree
      found = selected head.says

      sort : Sort
      sort = selector_sort scope found

      test : List What
      test = selector_code scope before.groups found

      mid : ℕ
      mid = before.at + length test

      inside : Before
      inside = placed mid (keeping 1 before)

      scalar : IsScalar ground before.groups sort
      scalar = scalar-there ground before.groups sort (here-stands ground.plan.groups before.groups (scalar_group sort) (groups_of_cases scope arms []) rooms.groups_stand)

      nothing-joined : IsJoinedElse around nothing_else [] []
      nothing-joined = record { long = λ last. refl; joined = λ last texts_stand groups_stand sooner. joined-runs ground (IsAround around) last.at [] refl }

      sized : length (selector_code scope 0 found) ≡ length test
      sized = selector-length scope 0 before.groups found

      ended : before.at + (length (selector_code scope 0 found) + cases_size scope sort arms 0) ≡ mid + cases_size scope sort arms 0
      ended = omega (arith, sized)

  -- ---- the induction

  mutual
    pub item-is-joined : (before : Before) (around : List LoopAround) (item : Item) → ItemJoined before around item
    item-is-joined before around (plain line) = line-is-joined before around line
    item-is-joined before around (branch arms close) = arms-are-joined before around arms
    item-is-joined before around (select head arms close) = selected-joined before around head arms close (cases-are-joined around arms)
    item-is-joined before around (loop head body close) =
        loop-joined ground scope in_main suits before around head.line head.says body (λ inside loops. block-is-joined inside loops body)

    pub block-is-joined : (before : Before) (around : List LoopAround) (block : Items) → BlockJoined before around block
    block-is-joined before around none = λ rooms so typed silent ends. joined-runs ground (IsAround around) before.at [] refl
    block-is-joined before around (and_then first rest) =
        behind-joined before around first rest (item-is-joined before around first) (block-is-joined (behind_item scope first before) around rest)

    arms-are-joined : (before : Before) (around : List LoopAround) (arms : Arms) → ArmsJoined before around arms
    arms-are-joined before around no_arms = λ rooms so typed silent ends. joined-runs ground (IsAround around) before.at [] refl
    arms-are-joined before around (arm head body rest) =
        arm-is-joined before around head body rest (λ at. block-is-joined (placed at before) around body) (λ next. arms-are-joined (placed next (behind_block scope body before)) around rest)

    cases-are-joined : (around : List LoopAround) (arms : Arms) → CasesJoined around arms
    cases-are-joined around no_arms = λ before group sort other texts groups scalar elses rooms so typed silent ends. elses.joined before rooms.texts_stand rooms.groups_stand ends
    cases-are-joined around (arm head body rest) = cases-joined around head body rest (λ inside. block-is-joined inside around body) (cases-are-joined around rest)
