-- Arms of branches: where their instructions stand, and those of IF.
use Rattle.std.proofs.Common.{◌≡◌, ◌<◌, ◌≤◌, ℕ, suc, ◌+◌, Bool, true, false, cond, List, [], ◌∷◌, ◌++◌, length, Option, Some, None, refl, sym, ap, ◌∙◌, subst, arith}
use Rattle.std.proofs.lemmas.List.{length-append}
use Rattle.std.specs.Prelude.{ℤ}
use Rattle.dc_int.specs.Reductions.{truth}
use Rattle.dc_code.specs.declared.instr.Instr.{Instr}
use Rattle.dc_code.specs.declared.instr.What.{What}
use Rattle.dc_code.specs.declared.plan.Group.{Group}
use Rattle.dc_code.specs.Codes.{CodeLists}
use Rattle.dc_code.specs.Instructions.{Going}
use Rattle.dc_tree.specs.Entities.{Scope}
use Rattle.dc_tree.specs.Statements.{Statement, if_then, else_if}
use Rattle.dc_tree.specs.Syntax.{Tree}
use Rattle.dc_meaning.specs.Actions.{Flow}
use Rattle.dc_meaning.specs.Acts as acts
use Rattle.dc_meaning.specs.Acts.{Act, ◌>>=◌}
use Rattle.dc_meaning.specs.Execution.{if_arm}
use Rattle.dc_meaning.specs.Values.{Callee, value}
use Rattle.dc_actions.specs.Deeds.{InstrsStand, lined}
use Rattle.dc_actions.specs.Expressions.{value_code}
use Rattle.dc_actions.specs.Placed.{StandAt}
use Rattle.dc_actions.proofs.DeedLaws.{length-lined}
use Rattle.dc_actions.proofs.Placing.{instrs-left, instrs-right, lined-stand}
use Rattle.dc_flows.specs.Flows.{Before, LoopAround, placed, test_code, tested, arm_size, arm_code, if_code}
use Rattle.dc_flows.specs.FlowsLowered.{EndBehind, is_usable_test}
use Rattle.dc_flows.proofs.FlowActions.{ends-sooner}
use Rattle.dc_flows.proofs.FlowGoing.{FlowsAs}
use Rattle.dc_flows.proofs.FlowRuns.{Runs, from-jumped, from-tested, runs-left, runs-right}

-- ---- where the instructions of an arm stand

module _ (code : CodeLists) (before : Before) (line : ℕ) (test : List What) (size : ℕ) (block : Before → List Instr) (rest : ℕ) (further : ℕ → List Instr) where
  -- where its block begins, and the next arm
  abbrev pub arm_start : ℕ
  arm_start = before.at + (length test + 1)

  abbrev pub arm_next : ℕ
  arm_next = arm_start + size + 1

  pub record ArmStands : Type 0 where
    pub test_stands : StandAt code line before.at (test_code test arm_next)
    pub body : InstrsStand code arm_start (block (placed arm_start before))
    pub jump : StandAt code line (arm_start + size) (What.Jump (arm_next + rest) ∷ [])
    pub others : InstrsStand code arm_next (further arm_next)

  pub arm-stands : length (block (placed arm_start before)) ≡ size → InstrsStand code before.at (arm_code before line test size block rest further) → ArmStands
  arm-stands long stand = record {
    test_stands = lined-stand line (test_code test arm_next) (instrs-left first (own ++ (jump ++ further arm_next)) stand);
    body = instrs-left own (jump ++ further arm_next) behind;
    jump = lined-stand line (What.Jump (arm_next + rest) ∷ []) (instrs-left jump (further arm_next) ending);
    others = instrs-right (arm_start + size) jump (further arm_next) ending;
  }
    where
      first : List Instr
      first = lined line (test_code test arm_next)

      own : List Instr
      own = block (placed arm_start before)

      jump : List Instr
      jump = lined line (What.Jump (arm_next + rest) ∷ [])

      begun : before.at + length first ≡ arm_start
      begun = ap (λ n. before.at + n) (length-lined line (test_code test arm_next) ∙ length-append test (What.JumpFalse arm_next ∷ []))

      behind : InstrsStand code arm_start (own ++ (jump ++ further arm_next))
      behind = subst (λ place. InstrsStand code place (own ++ (jump ++ further arm_next))) begun (instrs-right before.at first (own ++ (jump ++ further arm_next)) stand)

      ending : InstrsStand code (arm_start + size) (jump ++ further arm_next)
      ending = subst (λ n. InstrsStand code (arm_start + n) (jump ++ further arm_next)) long (instrs-right arm_start own (jump ++ further arm_next) behind)

-- ---- the arms of IF

-- An arm of IF by its test, where it has one.
abbrev pub arm_meant : Scope → Callee → (line : ℕ) → Option Tree → Act Flow → Act Flow → Act Flow
arm_meant scope call line (Some tree) body further = value scope call line tree >>= (λ z. cond (truth z) body further)
arm_meant scope call line None body further = body

pub arm-is : (scope : Scope) (call : Callee) (line : ℕ) (says : Statement) (body further : Act Flow)
    → if_arm scope call (record { line = line; says = says }) body further ≡ arm_meant scope call line (tested says) body further
arm-is scope call line (if_then tree) body further = refl
arm-is scope call line (else_if tree) body further = refl
arm-is scope call line says body further = refl

module _ (code : CodeLists) (go : Going) (flows : FlowsAs code go) (scope : Scope) (call : Callee) (frames : List acts.Frame) (around : List LoopAround) where
  pub if-runs : (before : Before) (line : ℕ) (found : Option Tree) (size : ℕ) (block : Before → List Instr) (rest : ℕ) (further : ℕ → List Instr)
      → (first second : List Group) (body others : Act Flow) → ((inside : Before) → length (block inside) ≡ size)
      → ((at : ℕ) → InstrsStand code at (block (placed at before)) → EndBehind (at + size) around → Runs code go scope frames around at (at + size) before.groups first body)
      → ((next : ℕ) → InstrsStand code next (further next) → EndBehind (next + rest) around → Runs code go scope frames around next (next + rest) (before.groups + length first) second others)
      → InstrsStand code before.at (if_code scope before line found size block rest further) → is_usable_test scope found ≡ true → EndBehind (before.at + arm_size scope found size rest) around
      → Runs code go scope frames around before.at (before.at + arm_size scope found size rest) before.groups (first ++ second) (arm_meant scope call line found body others)
  if-runs before line None size block rest further first second body others long runs later stand usable ends frame turns stands small =
      runs-left code go scope frames around before.at (before.at + size) before.groups body first second (runs before.at stand ends) frame turns stands small
  if-runs before line (Some tree) size block rest further first second body others long runs later stand usable ends frame turns stands small =
      from-tested flows scope call frames line around before.at start next end before.groups tree frame turns body others (stands turns).names there.test_stands usable refl (omega arith)
      (from-jumped go frames around flows start (start + size) end before.groups frame turns body []
      (runs-left code go scope frames around start (start + size) before.groups body first second
      (runs start there.body (ends-sooner (start + size) end around (omega arith) ends)) frame turns stands small)
      (subst (λ place. StandAt code line (start + size) (What.Jump place ∷ [])) ended there.jump) (omega arith))
      (subst (λ place. Runs code go scope frames around next place before.groups (first ++ second) others) ended
      (runs-right code go scope frames around next (next + rest) before.groups others first second
      (later next there.others (subst (λ place. EndBehind place around) (sym ended) ends))) frame turns stands small)
    where
      test : List What
      test = value_code scope tree

      start : ℕ
      start = before.at + (length test + 1)

      next : ℕ
      next = start + size + 1

      end : ℕ
      end = before.at + (length test + 1 + (size + 1 + rest))

      ended : next + rest ≡ end
      ended = omega arith

      there : ArmStands code before line test size block rest further
      there = arm-stands code before line test size block rest further (long (placed start before)) stand
