-- The arms of branches are joined, where their blocks are.
use Rattle.std.proofs.Common.{◌≡◌, ℕ, ◌+◌, Bool, true, List, [], ◌∷◌, ◌++◌, length, Option, Some, None, sym, ap, ◌∙◌, subst, arith}
use Rattle.std.proofs.lemmas.List.{map-append, length-map}
use Rattle.dc_int.specs.Sorts.{Sort}
use Rattle.dc_code.specs.declared.instr.Instr.{Instr}
use Rattle.dc_code.specs.declared.instr.What.{What}
use Rattle.dc_code.specs.StackSorts.{a_truth}
use Rattle.dc_tree.specs.Entities.{Scope}
use Rattle.dc_tree.specs.Statements.{CaseRange}
use Rattle.dc_tree.specs.Syntax.{Tree}
use Rattle.dc_actions.specs.Deeds.{lined}
use Rattle.dc_actions.specs.Expressions.{value_code}
use Rattle.dc_actions.proofs.RunsOfDeeds.{whats_of, whats-lined}
use Rattle.dc_actions.proofs.Straight.{Ground, Runs}
use Rattle.dc_flows.specs.Flows.{Before, LoopAround, Otherwise, placed, test_code, arm_size, arm_code, if_code, case_size, case_code, ranges_code}
use Rattle.dc_flows.specs.FlowsLowered.{EndBehind, is_usable_test}
use Rattle.dc_flows.specs.FlowsTyped.{test_is_typed, case_is_typed}
use Rattle.dc_flows.proofs.FlowActions.{ends-sooner}
use Rattle.dc_flows.proofs.FlowSizes.{ranges-length}
use Rattle.dc_flows.proofs.StandActions.{test-runs}
use Rattle.dc_flows.proofs.StandCases.{ranges-runs}
use Rattle.dc_flows.proofs.StandGrounds.{Suits, IsAround}
use Rattle.dc_flows.proofs.StandJoints.{AreJoined, joined-both}
use Rattle.dc_flows.proofs.StandScalars.{IsScalar}
use Rattle.dc_flows.proofs.StandShapes.{arm-joined}

-- ---- instructions without their lines

pub whats-both : (first second : List Instr) → whats_of (first ++ second) ≡ whats_of first ++ whats_of second
whats-both first second = map-append (λ (instr : Instr). instr.what) first second

pub whats-long : (instrs : List Instr) → length (whats_of instrs) ≡ length instrs
whats-long instrs = length-map instrs (λ (instr : Instr). instr.what)

-- instructions of one line before others
pub whats-behind : (line : ℕ) (whats : List What) (instrs : List Instr) → whats_of (lined line whats ++ instrs) ≡ whats ++ whats_of instrs
whats-behind line whats instrs = whats-both (lined line whats) instrs ∙ ap (λ first. first ++ whats_of instrs) (whats-lined line whats)

-- Joined instructions behind others.
pub instrs-joined : (ground : Ground) (out : ℕ → Type 0) (at mid : ℕ) (first second : List Instr) → mid ≡ at + length first → AreJoined ground out at (whats_of first)
    → AreJoined ground out mid (whats_of second) → AreJoined ground out at (whats_of (first ++ second))
instrs-joined ground out at mid first second begins one other =
    subst (λ whats. AreJoined ground out at whats) (sym (whats-both first second))
    (joined-both ground out at mid (whats_of first) (whats_of second) (begins ∙ ap (λ n. at + n) (sym (whats-long first))) one other)

pub line-joined : (ground : Ground) (out : ℕ → Type 0) (at line : ℕ) (whats : List What) → AreJoined ground out at whats → AreJoined ground out at (whats_of (lined line whats))
line-joined ground out at line whats joined = subst (λ found. AreJoined ground out at found) (sym (whats-lined line whats)) joined

-- ---- arms

module _ (ground : Ground) (around : List LoopAround) where
  -- An arm by its test, its block and what stands behind it.
  arm-code-joined : (before : Before) (line : ℕ) (test : List What) (size : ℕ) (block : Before → List Instr) (rest : ℕ) (further : ℕ → List Instr)
      → ((inside : Before) → length (block inside) ≡ size) → ((next : ℕ) → length (further next) ≡ rest) → Runs ground [] test (a_truth ∷ [])
      → ((at : ℕ) → EndBehind (at + size) around → AreJoined ground (IsAround around) at (whats_of (block (placed at before))))
      → ((next : ℕ) → EndBehind (next + rest) around → AreJoined ground (IsAround around) next (whats_of (further next)))
      → EndBehind (before.at + (length test + 1 + (size + 1 + rest))) around
      → AreJoined ground (IsAround around) before.at (whats_of (arm_code before line test size block rest further))
  arm-code-joined before line test size block rest further long far runs joined others ends =
      subst (λ whats. AreJoined ground (IsAround around) before.at whats) (sym shape)
      (arm-joined ground (IsAround around) before.at next (next + rest) test (whats_of own) (whats_of later) following ending runs
      (joined start (ends-sooner (start + size) end around (omega arith) ends)) (others next (ends-sooner (next + rest) end around (omega arith) ends)))
    where
      start : ℕ
      start = before.at + (length test + 1)

      next : ℕ
      next = start + size + 1

      end : ℕ
      end = before.at + (length test + 1 + (size + 1 + rest))

      own : List Instr
      own = block (placed start before)

      later : List Instr
      later = further next

      following : next ≡ start + length (whats_of own) + 1
      following = ap (λ n. start + n + 1) (sym (whats-long own ∙ long (placed start before)))

      ending : next + rest ≡ next + length (whats_of later)
      ending = ap (λ n. next + n) (sym (whats-long later ∙ far next))

      jump : List What
      jump = What.Jump (next + rest) ∷ []

      shape : whats_of (arm_code before line test size block rest further) ≡ test_code test next ++ (whats_of own ++ (jump ++ whats_of later))
      shape =
          whats-behind line (test_code test next) (own ++ (lined line jump ++ later))
          ∙ ap (λ found. test_code test next ++ found) (whats-both own (lined line jump ++ later) ∙ ap (λ found. whats_of own ++ found) (whats-behind line jump later))

  -- An arm of IF.
  pub if-joined : (scope : Scope) (in_main : Bool) → Suits ground scope in_main → (before : Before) (line : ℕ) (found : Option Tree) (size : ℕ) (block : Before → List Instr) (rest : ℕ)
      → (further : ℕ → List Instr) → ((inside : Before) → length (block inside) ≡ size) → ((next : ℕ) → length (further next) ≡ rest)
      → is_usable_test scope found ≡ true → test_is_typed scope found ≡ true
      → ((at : ℕ) → EndBehind (at + size) around → AreJoined ground (IsAround around) at (whats_of (block (placed at before))))
      → ((next : ℕ) → EndBehind (next + rest) around → AreJoined ground (IsAround around) next (whats_of (further next)))
      → EndBehind (before.at + arm_size scope found size rest) around
      → AreJoined ground (IsAround around) before.at (whats_of (if_code scope before line found size block rest further))
  if-joined scope in_main suits before line None size block rest further long far so typed joined others ends = joined before.at ends
  if-joined scope in_main suits before line (Some tree) size block rest further long far so typed joined others ends =
      arm-code-joined before line (value_code scope tree) size block rest further long far (test-runs ground scope in_main suits tree so typed) joined others ends

  -- An arm of SELECT CASE with ranges.
  pub ranges-joined : (scope : Scope) (before behind : Before) (line group : ℕ) (sort : Sort) (ranges : List CaseRange) (size : ℕ) (block : Before → List Instr) (rest : ℕ → ℕ)
      → (further : Before → Otherwise → List Instr) (other : Otherwise) → ((inside : Before) → length (block inside) ≡ size)
      → ((next : Before) → length (further next other) ≡ rest other.size) → IsScalar ground group sort → case_is_typed scope sort (Some ranges) ≡ true
      → ((at : ℕ) → EndBehind (at + size) around → AreJoined ground (IsAround around) at (whats_of (block (placed at before))))
      → ((next : ℕ) → EndBehind (next + rest other.size) around → AreJoined ground (IsAround around) next (whats_of (further (placed next behind) other)))
      → EndBehind (before.at + case_size scope sort (Some ranges) size rest other.size) around
      → AreJoined ground (IsAround around) before.at (whats_of (case_code scope before behind line group sort (Some ranges) size block rest further other))
  ranges-joined scope before behind line group sort ranges size block rest further other long far scalar typed joined others ends =
      arm-code-joined before line (ranges_code scope group sort ranges) size block (rest other.size) (λ next. further (placed next behind) other) long (λ next. far (placed next behind))
      (ranges-runs ground group scope sort ranges scalar typed []) joined others
      (subst (λ n. EndBehind (before.at + (n + 1 + (size + 1 + rest other.size))) around) (ranges-length scope 0 group sort ranges) ends)
