-- How many instructions there are doesn't depend on where they stand.
use Rattle.std.proofs.Common.{◌≡◌, ℕ, zero, suc, ◌+◌, true, List, [], ◌∷◌, ◌++◌, length, Option, Some, None, refl, sym, ap, ◌∙◌, arith}
use Rattle.std.proofs.lemmas.List.{length-append}
use Rattle.std.specs.Prelude.{ℤ, pos, negsuc}
use Rattle.dc_int.specs.declared.kind.Kind.{Kind}
use Rattle.dc_int.specs.Sorts.{Sort, whole, logical, kind_of}
use Rattle.dc_int.specs.Store.{Bounds}
use Rattle.dc_code.specs.declared.instr.Instr.{Instr}
use Rattle.dc_code.specs.declared.instr.Relation.{Relation}
use Rattle.dc_code.specs.declared.instr.What.{What}
use Rattle.dc_tree.specs.Blocks.{Item, Items, Arms, plain, branch, select, loop, none, and_then, no_arms, arm}
use Rattle.dc_tree.specs.Entities.{Entity, outside, Scope, entity}
use Rattle.dc_tree.specs.Statements.{Ranging, CaseRange, only, from, up_to, between, Deed, assign, fill, cycle, exit, print, Statement, if_action, do_line, do_while, act}
use Rattle.dc_tree.specs.Syntax.{Tree, chars}
use Rattle.dc_tree.specs.Typing.{constant_value, sort_of, sort_of_entity}
use Rattle.dc_actions.specs.Assigning.{conversion_code, slot_code, keeping_code, element_code, handing_code, filling_code}
use Rattle.dc_actions.specs.Deeds.{lined, deed_code}
use Rattle.dc_actions.specs.Expressions.{value_code, entity_code}
use Rattle.dc_actions.specs.Limits.{step_code}
use Rattle.dc_actions.specs.Printing as printing
use Rattle.dc_actions.specs.Printing.{items_code}
use Rattle.dc_actions.proofs.DeedLaws.{length-lined}
use Rattle.dc_flows.specs.Flows.{Before, LoopAround, Rounds, Otherwise, placed, keeping, nowhere, loop_named, keep_code, fetch_code, action_code, guarded_code, test_code, says_code, says_size, bound_code, truth_code, range_code, further_range_code, further_ranges_code, ranges_code, selector_code, selected, selector_sort, store_code, counted_head, counted_step, counted_rounds, while_rounds, begins_at, around_block, rounds_code, loop_size, loop_code, rounds_of, arm_size, tested, ranges_in, case_size, item_size, block_size, arms_size, cases_size, behind_item, behind_block, arm_code, if_code, case_code, numbered, nothing_else, item_code, block_code, arms_code, cases_code}
use Rattle.dc_flows.proofs.FlowActions.{length-jump}

same-behind : {A : Type 0} (first one other : List A) → length one ≡ length other → length (first ++ one) ≡ length (first ++ other)
same-behind first one other e = length-append first one ∙ ap (λ n. length first + n) e ∙ sym (length-append first other)

same-both : {A : Type 0} (first third second fourth : List A) → length first ≡ length third → length second ≡ length fourth → length (first ++ second) ≡ length (third ++ fourth)
same-both first third second fourth e f = length-append first second ∙ ap (λ n. n + length second) e ∙ ap (λ n. length third + n) f ∙ sym (length-append third fourth)

-- ---- single statements

module _ (scope : Scope) where
  keeping-length : (sort : Sort) (one other before : ℕ) (trees : List Tree) → length (keeping_code scope sort one before trees) ≡ length (keeping_code scope sort other before trees)
  keeping-length sort one other before [] = refl
  keeping-length sort one other before (tree ∷ trees) =
      let given = keeping_code scope sort one (suc before) trees in
      let taken = keeping_code scope sort other (suc before) trees in
      let both : length given ≡ length taken = keeping-length sort one other (suc before) trees in
      same-behind (value_code scope tree) _ _ (same-behind (conversion_code (sort_of scope tree) sort) (slot_code one before ++ (What.StoreSlot one ∷ given)) (slot_code other before ++ (What.StoreSlot other ∷ taken))
      (ap (λ n. suc (suc (suc n))) both))

  handing-length : (variable : ℕ) (bounds : Bounds) (one other before count : ℕ) → length (handing_code variable bounds one before count) ≡ length (handing_code variable bounds other before count)
  handing-length variable bounds one other before zero = refl
  handing-length variable bounds one other before (suc count) =
      let both : length (handing_code variable bounds one (suc before) count) ≡ length (handing_code variable bounds other (suc before) count) = handing-length variable bounds one other (suc before) count in
      ap (λ n. suc (suc (suc n))) (same-behind (element_code variable bounds before) (What.Store variable ∷ handing_code variable bounds one (suc before) count) (What.Store variable ∷ handing_code variable bounds other (suc before) count) (ap suc both))

  filling-length : (one other : ℕ) (trees : List Tree) (found : Entity) → length (filling_code scope one trees found) ≡ length (filling_code scope other trees found)
  filling-length one other trees (outside variable sort bounds) =
      same-both (keeping_code scope sort one 0 trees) (keeping_code scope sort other 0 trees) (handing_code variable bounds one 0 (length trees)) (handing_code variable bounds other 0 (length trees))
      (keeping-length sort one other 0 trees) (handing-length variable bounds one other 0 (length trees))
  filling-length one other trees found = refl

  item-put-length : (one other : ℕ) (tree : Tree) → length (printing.item_code scope one tree) ≡ length (printing.item_code scope other tree)
  item-put-length one other (chars text) = refl
  item-put-length one other tree = refl

  items-length : (one other : ℕ) (trees : List Tree) → length (items_code scope one trees) ≡ length (items_code scope other trees)
  items-length one other [] = refl
  items-length one other (tree ∷ trees) =
      same-both (printing.item_code scope one tree) (printing.item_code scope other tree)
      (items_code scope (one + length (printing.texts_of_item tree)) trees) (items_code scope (other + length (printing.texts_of_item tree)) trees)
      (item-put-length one other tree) (items-length (one + length (printing.texts_of_item tree)) (other + length (printing.texts_of_item tree)) trees)

  deed-length : (next free other most : ℕ) (deed : Deed) → length (deed_code scope next free deed) ≡ length (deed_code scope other most deed)
  deed-length next free other most (fill text trees) = filling-length free most trees (entity scope text)
  deed-length next free other most (print written trees) = same-both (items_code scope next trees) (items_code scope other trees) (What.PutEnd ∷ []) (What.PutEnd ∷ []) (items-length next other trees) refl
  deed-length next free other most deed = refl

  action-length : (before after : Before) (around others : List LoopAround) (deed : Deed) → length (action_code scope before around deed) ≡ length (action_code scope after others deed)
  action-length before after around others (cycle given) = length-jump (λ found. found.next) (loop_named around given) ∙ sym (length-jump (λ found. found.next) (loop_named others given))
  action-length before after around others (exit given) = length-jump (λ found. found.behind) (loop_named around given) ∙ sym (length-jump (λ found. found.behind) (loop_named others given))
  action-length before after around others (fill text trees) = deed-length before.texts before.groups after.texts after.groups (fill text trees)
  action-length before after around others (print written trees) = deed-length before.texts before.groups after.texts after.groups (print written trees)
  action-length before after around others deed = refl

  guarded-length : (at there : ℕ) (test one other : List What) → length one ≡ length other → length (guarded_code at test one) ≡ length (guarded_code there test other)
  guarded-length at there test one other e =
      same-both (test ++ What.JumpFalse (at + (length test + 1) + length one) ∷ []) (test ++ What.JumpFalse (there + (length test + 1) + length other) ∷ []) one other
      (same-behind test (What.JumpFalse (at + (length test + 1) + length one) ∷ []) (What.JumpFalse (there + (length test + 1) + length other) ∷ []) refl) e

  pub says-length : (before : Before) (around : List LoopAround) (says : Statement) → length (says_code scope before around says) ≡ says_size scope says
  says-length before around (act deed) = action-length before nowhere around [] deed
  says-length before around (if_action tree deed) =
      guarded-length before.at nowhere.at (value_code scope tree) (action_code scope before around deed) (action_code scope nowhere [] deed) (action-length before nowhere around [] deed)
  says-length before around says = refl

  -- ---- tests of SELECT CASE

  bound-length : (one other : ℕ) (relation : Relation) (bound : Option ℤ) → length (bound_code one relation bound) ≡ length (bound_code other relation bound)
  bound-length one other relation (Some z) = refl
  bound-length one other relation None = refl

  truth-length : (one other : ℕ) (given : Option ℤ) → length (truth_code one given) ≡ length (truth_code other given)
  truth-length one other (Some (pos zero)) = refl
  truth-length one other (Some (pos (suc zero))) = refl
  truth-length one other given = refl

  range-length : (one other : ℕ) (sort : Sort) (range : CaseRange) → length (range_code scope one sort range) ≡ length (range_code scope other sort range)
  range-length one other logical (only tree) = truth-length one other (constant_value scope tree)
  range-length one other (whole its_kind) (only tree) = bound-length one other Relation.Eq (constant_value scope tree)
  range-length one other (whole its_kind) (from low) = bound-length one other Relation.Ge (constant_value scope low)
  range-length one other (whole its_kind) (up_to high) = bound-length one other Relation.Le (constant_value scope high)
  range-length one other (whole its_kind) (between low high) =
      same-both (bound_code one Relation.Ge (constant_value scope low)) (bound_code other Relation.Ge (constant_value scope low)) _ _ (bound-length one other Relation.Ge (constant_value scope low))
      (same-both (bound_code one Relation.Le (constant_value scope high)) (bound_code other Relation.Le (constant_value scope high)) (What.And ∷ []) (What.And ∷ []) (bound-length one other Relation.Le (constant_value scope high)) refl)
  range-length one other sort range = refl

  further-length : (one other : ℕ) (sort : Sort) (ranges : List CaseRange) → length (further_ranges_code scope one sort ranges) ≡ length (further_ranges_code scope other sort ranges)
  further-length one other sort [] = refl
  further-length one other sort (range ∷ ranges) =
      same-both (further_range_code scope one sort range) (further_range_code scope other sort range) _ _
      (same-both (range_code scope one sort range) (range_code scope other sort range) (What.Or ∷ []) (What.Or ∷ []) (range-length one other sort range) refl) (further-length one other sort ranges)

  pub ranges-length : (one other : ℕ) (sort : Sort) (ranges : List CaseRange) → length (ranges_code scope one sort ranges) ≡ length (ranges_code scope other sort ranges)
  ranges-length one other sort ranges = ap suc (further-length one other sort ranges)

  pub selector-length : (one other : ℕ) (found : Option Tree) → length (selector_code scope one found) ≡ length (selector_code scope other found)
  selector-length one other (Some tree) = same-behind (value_code scope tree) (keep_code one) (keep_code other) refl
  selector-length one other None = refl

  -- ---- loops

  counted-head-length : (one other : ℕ) (its_kind : Kind) (variable : Entity) (ranging : Ranging)
      → length (counted_head scope one its_kind variable ranging) ≡ length (counted_head scope other its_kind variable ranging)
  counted-head-length one other its_kind variable ranging =
      same-behind (value_code scope ranging.first) _ _ (ap (λ n. suc (suc (suc (suc (suc n)))))
      (same-behind (value_code scope ranging.last) _ _ (ap suc
      (same-behind (step_code scope its_kind ranging.step) _ _ refl))))

  counted-step-length : (one other : ℕ) (its_kind : Kind) (variable : Entity) → length (counted_step one its_kind variable) ≡ length (counted_step other its_kind variable)
  counted-step-length one other its_kind variable =
      same-behind (entity_code variable) _ _ (ap (λ n. suc (suc (suc n)))
      (same-behind (store_code variable) _ _ refl))

  pub counted-size : (one other : ℕ) (ranging : Ranging) (size : ℕ) → loop_size (Some (counted_rounds scope one None ranging)) size ≡ loop_size (Some (counted_rounds scope other None ranging)) size
  counted-size one other ranging size =
      let variable = entity scope ranging.name in
      let its_kind = kind_of (sort_of_entity variable) in
      (λ i. counted-head-length one other its_kind variable ranging i + (4 + 2) + (size + (counted-step-length one other its_kind variable i + (4 + 2))))

pub rounds-length : (at line : ℕ) (rounds : Rounds) (size : ℕ) (block : List Instr) → length block ≡ size → length (rounds_code at line rounds size block) ≡ loop_size (Some rounds) size
rounds-length at line rounds size block long =
    let before : List What = rounds.head ++ (test_code rounds.test (around_block at rounds size).behind ++ What.Turn ∷ []) in
    let after : List What = rounds.step ++ (test_code rounds.test (around_block at rounds size).behind ++ What.Back (begins_at at rounds) ∷ []) in
    length-append (lined line before) (block ++ lined line after)
    ∙ ap (λ n. n + length (block ++ lined line after)) (length-lined line before ∙ tested-length rounds.head rounds.test (around_block at rounds size).behind What.Turn)
    ∙ ap (λ n. length rounds.head + (length rounds.test + 2) + n) (length-append block (lined line after) ∙ ap (λ n. n + length (lined line after)) long
    ∙ ap (λ n. size + n) (length-lined line after ∙ tested-length rounds.step rounds.test (around_block at rounds size).behind (What.Back (begins_at at rounds))))
  where
    tested-length : (first test : List What) (place : ℕ) (last : What) → length (first ++ (test_code test place ++ last ∷ [])) ≡ length first + (length test + 2)
    tested-length first test place last = omega (arith, length-append first (test_code test place ++ last ∷ []), length-append (test_code test place) (last ∷ []), length-append test (What.JumpFalse place ∷ []))

pub arm-length : (before : Before) (line : ℕ) (test : List What) (size : ℕ) (block : Before → List Instr) (rest : ℕ) (further : ℕ → List Instr)
    → ((inside : Before) → length (block inside) ≡ size) → ((next : ℕ) → length (further next) ≡ rest)
    → length (arm_code before line test size block rest further) ≡ length test + 1 + (size + 1 + rest)
arm-length before line test size block rest further long others =
    let start : ℕ = before.at + (length test + 1) in
    let next : ℕ = start + size + 1 in
    let jump : List Instr = lined line (What.Jump (next + rest) ∷ []) in
    let own : length (block (placed start before)) ≡ size = long (placed start before) in
    let later : length (further next) ≡ rest = others next in
    omega (
      arith,
      own,
      later,
      length-append (lined line (test_code test next)) (block (placed start before) ++ (jump ++ further next)),
      length-lined line (test_code test next),
      length-append test (What.JumpFalse next ∷ []),
      length-append (block (placed start before)) (jump ++ further next),
      length-append jump (further next),
    )

-- ---- blocks

loop-length : (scope : Scope) (before : Before) (line : ℕ) (says : Statement) (size : ℕ) (block : Before → List LoopAround → List Instr) (around : List LoopAround)
    → ((inside : Before) (loops : List LoopAround) → length (block inside loops) ≡ size)
    → length (loop_code scope before (record { line = line; says = says }) size block around) ≡ loop_size (rounds_of scope 0 says) size
loop-length scope before line (do_line label (Some ranging)) size block around long =
    rounds-length before.at line (counted_rounds scope before.groups label ranging) size _ (long _ _) ∙ counted-size scope before.groups 0 ranging size
loop-length scope before line (do_line label None) size block around long = rounds-length before.at line (while_rounds label (What.Truth true ∷ [])) size _ (long _ _)
loop-length scope before line (do_while label test) size block around long = rounds-length before.at line (while_rounds label (value_code scope test)) size _ (long _ _)
loop-length scope before line says size block around long = refl

if-length : (scope : Scope) (before : Before) (line : ℕ) (found : Option Tree) (size : ℕ) (block : Before → List Instr) (rest : ℕ) (further : ℕ → List Instr)
    → ((inside : Before) → length (block inside) ≡ size) → ((next : ℕ) → length (further next) ≡ rest)
    → length (if_code scope before line found size block rest further) ≡ arm_size scope found size rest
if-length scope before line (Some tree) size block rest further long others = arm-length before line (value_code scope tree) size block rest further long others
if-length scope before line None size block rest further long others = long before

case-length : (scope : Scope) (before behind : Before) (line group : ℕ) (sort : Sort) (found : Option (List CaseRange)) (size : ℕ) (block : Before → List Instr) (rest : ℕ → ℕ)
    → (further : Before → Otherwise → List Instr) (otherwise : Otherwise) → ((inside : Before) → length (block inside) ≡ size)
    → ((next : Before) (other : Otherwise) → ((last : Before) → length (other.code last) ≡ other.size) → length (further next other) ≡ rest other.size)
    → ((last : Before) → length (otherwise.code last) ≡ otherwise.size)
    → length (case_code scope before behind line group sort found size block rest further otherwise) ≡ case_size scope sort found size rest otherwise.size
case-length scope before behind line group sort (Some ranges) size block rest further otherwise long others last =
    arm-length before line (ranges_code scope group sort ranges) size block (rest otherwise.size) (λ next. further (placed next behind) otherwise) long (λ next. others (placed next behind) otherwise last)
    ∙ ap (λ n. n + 1 + (size + 1 + rest otherwise.size)) (ranges-length scope group 0 sort ranges)
case-length scope before behind line group sort None size block rest further otherwise long others last =
    others (numbered behind.loops before) (record { size = size; code = λ end. block (numbered before.loops end) }) (λ end. long (numbered before.loops end))

mutual
  pub item-length : (scope : Scope) (before : Before) (around : List LoopAround) (item : Item) → length (item_code scope before around item) ≡ item_size scope item
  item-length scope before around (plain line) = length-lined line.line (says_code scope before around line.says) ∙ says-length scope before around line.says
  item-length scope before around (branch arms close) = arms-length scope before around arms
  item-length scope before around (select head arms close) =
      let found = selected head.says in
      let test = selector_code scope before.groups found in
      let inside = placed (before.at + length test) (keeping 1 before) in
      let cases = cases_code scope inside around before.groups (selector_sort scope found) arms nothing_else in
      length-append (lined head.line test) cases
      ∙ ap (λ n. n + length cases) (length-lined head.line test ∙ selector-length scope before.groups 0 found)
      ∙ ap (λ n. length (selector_code scope 0 found) + n) (cases-length scope inside around before.groups (selector_sort scope found) arms nothing_else (λ last. refl))
  item-length scope before around (loop head body close) =
      loop-length scope before head.line head.says (block_size scope body) (λ inside loops. block_code scope inside loops body) around (λ inside loops. block-length scope inside loops body)

  pub block-length : (scope : Scope) (before : Before) (around : List LoopAround) (block : Items) → length (block_code scope before around block) ≡ block_size scope block
  block-length scope before around none = refl
  block-length scope before around (and_then first rest) =
      length-append (item_code scope before around first) (block_code scope (behind_item scope first before) around rest)
      ∙ ap (λ n. n + length (block_code scope (behind_item scope first before) around rest)) (item-length scope before around first)
      ∙ ap (λ n. item_size scope first + n) (block-length scope (behind_item scope first before) around rest)

  pub arms-length : (scope : Scope) (before : Before) (around : List LoopAround) (arms : Arms) → length (arms_code scope before around arms) ≡ arms_size scope arms
  arms-length scope before around no_arms = refl
  arms-length scope before around (arm head body rest) =
      if-length scope before head.line (tested head.says) (block_size scope body) (λ inside. block_code scope inside around body) (arms_size scope rest)
      (λ next. arms_code scope (placed next (behind_block scope body before)) around rest) (λ inside. block-length scope inside around body)
      (λ next. arms-length scope (placed next (behind_block scope body before)) around rest)

  pub cases-length : (scope : Scope) (before : Before) (around : List LoopAround) (group : ℕ) (sort : Sort) (arms : Arms) (otherwise : Otherwise)
      → ((last : Before) → length (otherwise.code last) ≡ otherwise.size) → length (cases_code scope before around group sort arms otherwise) ≡ cases_size scope sort arms otherwise.size
  cases-length scope before around group sort no_arms otherwise long = long before
  cases-length scope before around group sort (arm head body rest) otherwise long =
      case-length scope before (behind_block scope body before) head.line group sort (ranges_in head.says) (block_size scope body) (λ inside. block_code scope inside around body)
      (cases_size scope sort rest) (λ next other. cases_code scope next around group sort rest other) otherwise (λ inside. block-length scope inside around body)
      (λ next other. cases-length scope next around group sort rest other) long
