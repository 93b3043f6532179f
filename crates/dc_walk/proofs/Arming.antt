-- The arms of constructs.
use Rattle.std.proofs.Common.{◌≡◌, ℕ, ◌+◌, ◌<◌, ◌≤◌, Bool, true, false, ◌&&◌, List, map, length, drop, get_or, refl, sym, ap, ◌∙◌, arith}
use Rattle.std.specs.Prelude.{Result, Ok, Err, if◌then◌else◌}
use Rattle.std.proofs.lemmas.Bool.{and_parts}
use Rattle.std.proofs.lemmas.List.{drop_all}
use Rattle.dc_code.specs.Troubles.{Slots}
use Rattle.dc_plain.specs.Views.{View}
use Rattle.dc_tree.specs.declared.program.Part.{Part, out-Part, fold_out-Part}
use Rattle.dc_tree.specs.Blocks.{Line, Item, Items, Arms, arm, line_of, items, arms_from, part_items, item_step, items_step, part_step}
use Rattle.dc_tree.specs.Entities.{Scope}
use Rattle.dc_tree.specs.Statements as statements
use Rattle.dc_tree.specs.Statements.{Name, Statement}
use Rattle.dc_meaning.specs.declared.stop.Stop.{Stop}
use Rattle.dc_meaning.specs.Acts.{Act, ◌>>=◌}
use Rattle.dc_meaning.specs.Actions.{Flow}
use Rattle.dc_meaning.specs.Execution.{loops_in_all, if_arm, exec_all, exec_arms}
use Rattle.dc_meaning.specs.Values.{Callee}
use Rattle.dc_meaning.specs.Walking.{Stays}
use Rattle.dc_meaning.proofs.Gathering.{next-is}
use Rattle.dc_walk.specs.declared.flow.Flow as code
use Rattle.dc_walk.specs.Arms.{tested, test_of}
use Rattle.dc_walk.specs.Flows.{Spends}
use Rattle.dc_walk.specs.Walked.{is_held_or_absent, is_walked_block, are_walked_arms}
use Rattle.dc_walk.proofs.Spending.{spends-as, spends-behind, spends-bad, spends-just}
use Rattle.dc_walk.proofs.Taking.{tested-then}
use Rattle.dc_walk.proofs.Unnumbered.{none-in-all}

-- an arm as the code has it
pub part-is : (part : Part) → part_items part ≡ (line_of (out-Part part).head, items (out-Part part).body)
part-is part = fold_out-Part Item Items (Line × Items) item_step items_step part_step part

-- ---- the arms of IF

if-arm-is : (scope : Scope) (call : Callee) (line : ℕ) (says : Statement) (body further : Act Flow)
    → if_arm scope call (record { line = line; says = says }) body further ≡ (tested scope call line (test_of says) >>= (λ holds. if holds then body else further))
if-arm-is scope call line (statements.program_line name) body further = refl
if-arm-is scope call line (statements.use_line form source names) body further = refl
if-arm-is scope call line statements.implicit_none body further = refl
if-arm-is scope call line (statements.declare form attributes colons names) body further = refl
if-arm-is scope call line statements.contains_line body further = refl
if-arm-is scope call line (statements.procedure_line prefix with_result text brackets dummies result) body further = refl
if-arm-is scope call line (statements.end_line unit text) body further = refl
if-arm-is scope call line (statements.if_then test) body further = tested-then scope call line test (λ holds. if holds then body else further)
if-arm-is scope call line (statements.else_if test) body further = tested-then scope call line test (λ holds. if holds then body else further)
if-arm-is scope call line statements.else_line body further = refl
if-arm-is scope call line statements.end_if body further = refl
if-arm-is scope call line (statements.if_action test deed) body further = refl
if-arm-is scope call line (statements.select_case tree) body further = refl
if-arm-is scope call line (statements.case ranges) body further = refl
if-arm-is scope call line statements.case_default body further = refl
if-arm-is scope call line statements.end_select body further = refl
if-arm-is scope call line (statements.do_line label ranging) body further = refl
if-arm-is scope call line (statements.do_while label test) body further = refl
if-arm-is scope call line (statements.concurrent label spec indexes mask locality) body further = refl
if-arm-is scope call line (statements.end_do label) body further = refl
if-arm-is scope call line (statements.act deed) body further = refl

module _ (scope : Scope) (indexes : List Name) (parts : List Part) (at : ℕ) (part : Part) (below : at < length parts) (is : part ≡ get_or parts at part)
    (walked : are_walked_arms scope indexes (arms_from (map part_items (drop at parts))) ≡ true) where
  abbrev others : Arms
  others = arms_from (map part_items (drop (at + 1) parts))

  abbrev head : Line
  head = line_of (out-Part part).head

  abbrev body : Items
  body = items (out-Part part).body

  next-arms : arms_from (map part_items (drop at parts)) ≡ arm head body others
  next-arms = ap (λ ps. arms_from (map part_items ps)) (next-is parts at part below is) ∙ ap (λ (w : Line × Items). arm w.0 w.1 others) (part-is part)

  all-walked : (is_held_or_absent (test_of head.says) ≡ true) × ((is_walked_block scope indexes body && are_walked_arms scope indexes others) ≡ true)
  all-walked =
      and_parts (is_held_or_absent (test_of head.says)) (is_walked_block scope indexes body && are_walked_arms scope indexes others)
      (ap (are_walked_arms scope indexes) (sym next-arms) ∙ walked)

  both-walked : (is_walked_block scope indexes body ≡ true) × (are_walked_arms scope indexes others ≡ true)
  both-walked = and_parts (is_walked_block scope indexes body) (are_walked_arms scope indexes others) all-walked.1

  pub arm-held : is_held_or_absent (test_of head.says) ≡ true
  arm-held = all-walked.0

  pub arm-walked : is_walked_block scope indexes body ≡ true
  arm-walked = both-walked.0

  pub arms-walked : are_walked_arms scope indexes others ≡ true
  arms-walked = both-walked.1

  abbrev by-test : ℕ → Callee → Bool → Act Flow
  by-test number call holds = if holds then exec_all scope call number body else exec_arms scope call number others

  arms-are : (number : ℕ) (call : Callee) → exec_arms scope call number (arms_from (map part_items (drop at parts))) ≡ (tested scope call head.line (test_of head.says) >>= by-test number call)
  arms-are number call =
      let few = none-in-all scope indexes body arm-walked in
      let same : number + loops_in_all body ≡ number = omega (arith, few) in
      ap (exec_arms scope call number) next-arms
      ∙ if-arm-is scope call head.line head.says (exec_all scope call number body) (exec_arms scope call (number + loops_in_all body) others)
      ∙ ap (λ n. tested scope call head.line (test_of head.says) >>= (λ holds. if holds then exec_all scope call number body else exec_arms scope call n others)) same

  module _ {own : Slots} {turns left : ℕ} {before between after : View} {r : Result code.Flow Stop} (number : ℕ) where
    pub arm-taken : (holds : Bool) → holds ≡ true → Stays (λ is. is) own before (λ call. tested scope call head.line (test_of head.says)) between (Ok holds)
        → Spends own turns between (λ call. exec_all scope call number body) left after r
        → Spends own turns before (λ call. exec_arms scope call number (arms_from (map part_items (drop at parts)))) left after r
    arm-taken holds is test taken = spends-as (arms-are number) (spends-behind (by-test number) test (spends-as (λ call. ap (by-test number call) is) taken))

    pub arm-passed : (holds : Bool) → holds ≡ false → Stays (λ is. is) own before (λ call. tested scope call head.line (test_of head.says)) between (Ok holds)
        → Spends own turns between (λ call. exec_arms scope call number others) left after r
        → Spends own turns before (λ call. exec_arms scope call number (arms_from (map part_items (drop at parts)))) left after r
    arm-passed holds is test passed = spends-as (arms-are number) (spends-behind (by-test number) test (spends-as (λ call. ap (by-test number call) is) passed))

  pub arm-bad : {own : Slots} {turns left : ℕ} {before after : View} {e : Stop} (number : ℕ) → Stays (λ is. is) own before (λ call. tested scope call head.line (test_of head.says)) after (Err e)
      → Spends own turns before (λ call. exec_arms scope call number (arms_from (map part_items (drop at parts)))) left after (Err e)
  arm-bad number test = spends-as (arms-are number) (spends-bad (by-test number) test)

pub arms-none : {own : Slots} {turns : ℕ} {view : View} (scope : Scope) (number : ℕ) (parts : List Part) (at : ℕ) → length parts ≤ at
    → Spends own turns view (λ call. exec_arms scope call number (arms_from (map part_items (drop at parts)))) turns view (Ok code.Flow.On)
arms-none scope number parts at past = spends-just code.Flow.On (λ call. ap (λ ps. exec_arms scope call number (arms_from (map part_items ps))) (drop_all at parts past))
