-- The instructions of blocks: of single statements, of branches and of loops. Only the way back to the beginning of a
-- round goes to an earlier place. This project's own.
use Rattle.std.specs.Prelude.{ℕ, zero, suc, ◌+◌, Bool, true, false, ◌&&◌, nat_eq, List, [], ◌∷◌, ◌++◌, length, map, Option, Some, None, option_map, if◌then◌else◌, ℤ, pos}
use Rattle.std.specs.List.{list_all, list_any}
use Rattle.dc_int.specs.declared.kind.Kind.{Kind}
use Rattle.dc_int.specs.declared.operation.Op.{Op}
use Rattle.dc_int.specs.Sorts.{Sort, whole, logical, kind_of}
use Rattle.dc_code.specs.declared.instr.Instr.{Instr}
use Rattle.dc_code.specs.declared.instr.Relation.{Relation}
use Rattle.dc_code.specs.declared.instr.What.{What}
use Rattle.dc_code.specs.declared.plan.Group.{Group}
use Rattle.dc_tree.specs.Blocks.{Line, Item, Items, Arms, plain, branch, select, loop, none, and_then, no_arms, arm}
use Rattle.dc_tree.specs.Entities.{Entity, outside, Scope, entity}
use Rattle.dc_tree.specs.Statements as statements
use Rattle.dc_tree.specs.Statements.{Name, Ranging, CaseRange, Deed, cycle, exit, continue, stop, error_stop, Statement}
use Rattle.dc_tree.specs.Syntax.{Tree}
use Rattle.dc_tree.specs.Typing.{constant_value, sort_of, sort_of_entity}
use Rattle.dc_meaning.specs.Execution.{belongs, is_concurrent, loops_in, loops_in_all}
use Rattle.dc_actions.specs.Assigning.{storing_code, takes_values}
use Rattle.dc_actions.specs.Deeds.{lined, deed_code, texts_of_deed, groups_of_deed, deed_is_lowered}
use Rattle.dc_actions.specs.Expressions.{value_code, entity_code, is_usable, is_number}
use Rattle.dc_actions.specs.Limits.{step_is_usable, step_code}

-- What stands before a statement in its part: the place of its first instruction, and how many texts, groups of slots
-- and DO CONCURRENT loops there are.
pub record Before : Type 0 where
  pub at : ℕ
  pub texts : ℕ
  pub groups : ℕ
  pub loops : ℕ

-- The same at another place, and with so many groups more.
abbrev pub placed : ℕ → Before → Before
placed at before = record { at = at; texts = before.texts; groups = before.groups; loops = before.loops }

abbrev pub keeping : ℕ → Before → Before
keeping count before = record { at = before.at; texts = before.texts; groups = before.groups + count; loops = before.loops }

-- ---- loops around a statement

-- A loop around: its label, and where a CYCLE and where an EXIT that belongs to it go on.
pub record LoopAround : Type 0 where
  pub label : Option Name
  pub next : ℕ
  pub behind : ℕ

abbrev pub labels_of : List LoopAround → List (Option Name)
labels_of around = map (λ found. found.label) around

-- The loop to which a CYCLE or EXIT with this name, or with none, belongs; the innermost is the first.
abbrev pub loop_named : List LoopAround → Option Name → Option LoopAround
loop_named [] given = None
loop_named (nearest ∷ others) given = if belongs nearest.label given then Some nearest else loop_named others given

abbrev pub jump_code : (LoopAround → ℕ) → Option LoopAround → List What
jump_code place (Some found) = What.Jump (place found) ∷ []
jump_code place None = What.Jump 0 ∷ []

-- ---- values that are kept in scalars, which are added for a statement

abbrev pub keep_code : ℕ → List What
keep_code group = What.SubscriptSlot group ∷ What.StoreSlot group ∷ []

abbrev pub fetch_code : ℕ → List What
fetch_code group = What.SubscriptSlot group ∷ What.LoadSlot group ∷ []

abbrev pub scalar_group : Sort → Group
scalar_group (whole its_kind) = record { kind = its_kind; logical = false; bounds = [] }
scalar_group logical = record { kind = Kind.K4; logical = true; bounds = [] }

-- ---- single statements

abbrev pub action_code : Scope → Before → List LoopAround → Deed → List What
action_code scope before around (cycle given) = jump_code (λ found. found.next) (loop_named around given)
action_code scope before around (exit given) = jump_code (λ found. found.behind) (loop_named around given)
action_code scope before around stop = What.Stop ∷ []
action_code scope before around error_stop = What.ErrorStop ∷ []
action_code scope before around other = deed_code scope before.texts before.groups other

-- A test, behind which what follows is passed over where it doesn't hold.
abbrev pub test_code : List What → ℕ → List What
test_code test place = test ++ What.JumpFalse place ∷ []

abbrev pub guarded_code : ℕ → List What → List What → List What
guarded_code at test whats = test_code test (at + (length test + 1) + length whats) ++ whats

abbrev pub says_code : Scope → Before → List LoopAround → Statement → List What
says_code scope before around (statements.act deed) = action_code scope before around deed
says_code scope before around (statements.if_action tree deed) = guarded_code before.at (value_code scope tree) (action_code scope before around deed)
says_code scope before around other = []

-- ---- the tests of SELECT CASE, by the group that keeps the selector and its sort

abbrev pub bound_code : (group : ℕ) → Relation → Option ℤ → List What
bound_code group relation (Some z) = fetch_code group ++ What.Const Kind.K8 z ∷ What.Compare relation ∷ []
bound_code group relation None = What.Truth false ∷ []

abbrev pub truth_code : (group : ℕ) → Option ℤ → List What
truth_code group (Some (pos zero)) = fetch_code group ++ What.Not ∷ []
truth_code group (Some (pos (suc zero))) = fetch_code group
truth_code group other = What.Truth false ∷ []

-- Truths are compared with single values alone.
abbrev pub range_code : Scope → (group : ℕ) → Sort → CaseRange → List What
range_code scope group logical (statements.only tree) = truth_code group (constant_value scope tree)
range_code scope group logical other = What.Truth false ∷ []
range_code scope group sort (statements.only tree) = bound_code group Relation.Eq (constant_value scope tree)
range_code scope group sort (statements.from low) = bound_code group Relation.Ge (constant_value scope low)
range_code scope group sort (statements.up_to high) = bound_code group Relation.Le (constant_value scope high)
range_code scope group sort (statements.between low high) =
    bound_code group Relation.Ge (constant_value scope low) ++ (bound_code group Relation.Le (constant_value scope high) ++ What.And ∷ [])

-- Whether the range, or one of these, has the selector, or what is on top of the stack holds already.
abbrev pub further_range_code : Scope → (group : ℕ) → Sort → CaseRange → List What
further_range_code scope group sort range = range_code scope group sort range ++ What.Or ∷ []

abbrev pub further_ranges_code : Scope → (group : ℕ) → Sort → List CaseRange → List What
further_ranges_code scope group sort [] = []
further_ranges_code scope group sort (range ∷ ranges) = further_range_code scope group sort range ++ further_ranges_code scope group sort ranges

-- Whether some range has the selector.
abbrev pub ranges_code : Scope → (group : ℕ) → Sort → List CaseRange → List What
ranges_code scope group sort ranges = What.Truth false ∷ further_ranges_code scope group sort ranges

abbrev pub selected : Statement → Option Tree
selected (statements.select_case tree) = Some tree
selected other = None

abbrev pub selector_sort : Scope → Option Tree → Sort
selector_sort scope (Some tree) = sort_of scope tree
selector_sort scope None = whole Kind.K4

-- The selector is kept.
abbrev pub selector_code : Scope → (group : ℕ) → Option Tree → List What
selector_code scope group (Some tree) = value_code scope tree ++ keep_code group
selector_code scope group None = What.Const Kind.K4 (pos 0) ∷ keep_code group

-- ---- loops

-- What a loop does before its rounds, before each, and behind each, and the groups that are added for it. A counted DO
-- keeps its first value, its step, and how many rounds are left.
pub record Rounds : Type 0 where
  pub label : Option Name
  pub head : List What
  pub test : List What
  pub step : List What
  pub groups : List Group

abbrev pub while_rounds : Option Name → List What → Rounds
while_rounds label test = record { label = label; head = []; test = test; step = []; groups = [] }

-- A value on top of the stack is stored in a scalar of the main program.
abbrev pub store_code : Entity → List What
store_code (outside variable sort bounds) = What.Subscript variable ∷ What.Store variable ∷ []
store_code other = []

-- The rounds are counted, and the variable takes its first value.
abbrev pub start_code : Kind → (first left : ℕ) → Entity → List What
start_code its_kind first left variable = What.Count its_kind ∷ (keep_code left ++ (fetch_code first ++ store_code variable))

-- The last limit and the step, and how the rounds begin.
abbrev pub behind_first_code : Scope → Kind → (first step left : ℕ) → Entity → Ranging → List What
behind_first_code scope its_kind first step left variable ranging =
    value_code scope ranging.last ++ (What.Wrap its_kind ∷ (step_code scope its_kind ranging.step ++ (keep_code step ++ (fetch_code step
    ++ start_code its_kind first left variable))))

abbrev pub counted_head : Scope → (group : ℕ) → Kind → Entity → Ranging → List What
counted_head scope group its_kind variable ranging =
    value_code scope ranging.first ++ (What.Wrap its_kind ∷ (keep_code group ++ (fetch_code group
    ++ behind_first_code scope its_kind group (group + 1) (group + 2) variable ranging)))

-- A round fewer is left.
abbrev pub down_code : (left : ℕ) → List What
down_code left = fetch_code left ++ (What.Const Kind.K8 (pos 1) ∷ What.Arith Op.Sub Kind.K8 ∷ keep_code left)

abbrev pub counted_step : (group : ℕ) → Kind → Entity → List What
counted_step group its_kind variable =
    entity_code variable ++ (fetch_code (group + 1) ++ (What.Arith Op.Add its_kind ∷ (store_code variable ++ down_code (group + 2))))

abbrev pub rounds_by : Scope → (group : ℕ) → Option Name → Ranging → (variable : Entity) → Rounds
rounds_by scope group label ranging variable =
    let its_kind = kind_of (sort_of_entity variable) in
    record {
      label = label;
      head = counted_head scope group its_kind variable ranging;
      test = fetch_code (group + 2) ++ What.Const Kind.K8 (pos 0) ∷ What.Compare Relation.Gt ∷ [];
      step = counted_step group its_kind variable;
      groups = scalar_group (whole its_kind) ∷ scalar_group (whole its_kind) ∷ scalar_group (whole Kind.K8) ∷ [];
    }

abbrev pub counted_rounds : Scope → (group : ℕ) → Option Name → Ranging → Rounds
counted_rounds scope group label ranging = rounds_by scope group label ranging (entity scope ranging.name)

-- What a loop by this statement does in rounds; a DO CONCURRENT is entered.
abbrev pub rounds_of : Scope → (group : ℕ) → Statement → Option Rounds
rounds_of scope group (statements.do_line label (Some ranging)) = Some (counted_rounds scope group label ranging)
rounds_of scope group (statements.do_line label None) = Some (while_rounds label (What.Truth true ∷ []))
rounds_of scope group (statements.do_while label test) = Some (while_rounds label (value_code scope test))
rounds_of scope group other = None

-- Where the block of a loop at this place begins, where a round ends, and what is behind the loop, whose block has so
-- many instructions.
abbrev pub begins_at : ℕ → Rounds → ℕ
begins_at at rounds = at + (length rounds.head + (length rounds.test + 2))

abbrev pub around_block : ℕ → Rounds → ℕ → LoopAround
around_block at rounds size = record {
  label = rounds.label;
  next = begins_at at rounds + size;
  behind = begins_at at rounds + size + (length rounds.step + (length rounds.test + 2));
}

-- Before the first round and behind each a test, and behind the last one the loop is left.
abbrev pub rounds_code : ℕ → (line : ℕ) → Rounds → (size : ℕ) → List Instr → List Instr
rounds_code at line rounds size block =
    let behind = (around_block at rounds size).behind in
    lined line (rounds.head ++ (test_code rounds.test behind ++ What.Turn ∷ []))
    ++ (block ++ lined line (rounds.step ++ (test_code rounds.test behind ++ What.Back (begins_at at rounds) ∷ [])))

abbrev pub loop_code : Scope → Before → Line → (size : ℕ) → (Before → List LoopAround → List Instr) → List LoopAround → List Instr
loop_code scope before head size block around = by (rounds_of scope before.groups head.says)
  where
    by : Option Rounds → List Instr
    by (Some rounds) = rounds_code before.at head.line rounds size
        (block (placed (begins_at before.at rounds) (keeping (length rounds.groups) before)) (around_block before.at rounds size ∷ around))
    by None = lined head.line (What.Enter before.loops ∷ [])

-- ---- how many instructions there are

abbrev pub nowhere : Before
nowhere = record { at = 0; texts = 0; groups = 0; loops = 0 }

abbrev pub says_size : Scope → Statement → ℕ
says_size scope says = length (says_code scope nowhere [] says)

-- The test of an arm of IF; ELSE has none.
abbrev pub tested : Statement → Option Tree
tested (statements.if_then test) = Some test
tested (statements.else_if test) = Some test
tested other = None

abbrev pub arm_size : Scope → Option Tree → (body rest : ℕ) → ℕ
arm_size scope (Some tree) body rest = length (value_code scope tree) + 1 + (body + 1 + rest)
arm_size scope None body rest = body

-- The ranges of an arm of SELECT CASE; the default has none, and stands behind the other arms.
abbrev pub ranges_in : Statement → Option (List CaseRange)
ranges_in (statements.case ranges) = Some ranges
ranges_in other = None

abbrev pub case_size : Scope → Sort → Option (List CaseRange) → (body : ℕ) → (ℕ → ℕ) → (otherwise : ℕ) → ℕ
case_size scope sort (Some ranges) body further otherwise = length (ranges_code scope 0 sort ranges) + 1 + (body + 1 + further otherwise)
case_size scope sort None body further otherwise = further body

abbrev pub loop_size : Option Rounds → ℕ → ℕ
loop_size (Some rounds) body = length rounds.head + (length rounds.test + 2) + (body + (length rounds.step + (length rounds.test + 2)))
loop_size None body = 1

abbrev mutual
  pub item_size : Scope → Item → ℕ
  item_size scope (plain line) = says_size scope line.says
  item_size scope (branch arms close) = arms_size scope arms
  item_size scope (select head arms close) =
      length (selector_code scope 0 (selected head.says)) + cases_size scope (selector_sort scope (selected head.says)) arms 0
  item_size scope (loop head body close) = loop_size (rounds_of scope 0 head.says) (block_size scope body)

  pub block_size : Scope → Items → ℕ
  block_size scope none = 0
  block_size scope (and_then first rest) = item_size scope first + block_size scope rest

  pub arms_size : Scope → Arms → ℕ
  arms_size scope no_arms = 0
  arms_size scope (arm head body rest) = arm_size scope (tested head.says) (block_size scope body) (arms_size scope rest)

  pub cases_size : Scope → Sort → Arms → (otherwise : ℕ) → ℕ
  cases_size scope sort no_arms otherwise = otherwise
  cases_size scope sort (arm head body rest) otherwise = case_size scope sort (ranges_in head.says) (block_size scope body) (cases_size scope sort rest) otherwise

-- ---- texts and groups

abbrev pub texts_of_says : Statement → List (List ℕ)
texts_of_says (statements.act deed) = texts_of_deed deed
texts_of_says (statements.if_action test deed) = texts_of_deed deed
texts_of_says other = []

-- What an arm of SELECT CASE has comes before what the others have, and what the default has behind all.
abbrev pub behind_case : {A : Type 0} → Option (List CaseRange) → List A → (List A → List A) → List A → List A
behind_case (Some ranges) inside further otherwise = inside ++ further otherwise
behind_case None inside further otherwise = further inside

-- The block of a DO CONCURRENT is a part of its own.
abbrev mutual
  pub texts_of_item : Item → List (List ℕ)
  texts_of_item (plain line) = texts_of_says line.says
  texts_of_item (branch arms close) = texts_of_arms arms
  texts_of_item (select head arms close) = texts_of_cases arms []
  texts_of_item (loop head body close) = if is_concurrent head.says then [] else texts_of_block body

  pub texts_of_block : Items → List (List ℕ)
  texts_of_block none = []
  texts_of_block (and_then first rest) = texts_of_item first ++ texts_of_block rest

  pub texts_of_arms : Arms → List (List ℕ)
  texts_of_arms no_arms = []
  texts_of_arms (arm head body rest) = texts_of_block body ++ texts_of_arms rest

  -- In the order of the code, in which the default is last.
  pub texts_of_cases : Arms → (otherwise : List (List ℕ)) → List (List ℕ)
  texts_of_cases no_arms otherwise = otherwise
  texts_of_cases (arm head body rest) otherwise = behind_case (ranges_in head.says) (texts_of_block body) (texts_of_cases rest) otherwise

abbrev pub groups_of_says : Scope → Statement → List Group
groups_of_says scope (statements.act deed) = groups_of_deed scope deed
groups_of_says scope (statements.if_action test deed) = groups_of_deed scope deed
groups_of_says scope other = []

abbrev pub groups_of_loop : Option Rounds → List Group → List Group
groups_of_loop (Some rounds) inside = rounds.groups ++ inside
groups_of_loop None inside = []

abbrev mutual
  pub groups_of_item : Scope → Item → List Group
  groups_of_item scope (plain line) = groups_of_says scope line.says
  groups_of_item scope (branch arms close) = groups_of_arms scope arms
  groups_of_item scope (select head arms close) = scalar_group (selector_sort scope (selected head.says)) ∷ groups_of_cases scope arms []
  groups_of_item scope (loop head body close) = groups_of_loop (rounds_of scope 0 head.says) (groups_of_block scope body)

  pub groups_of_block : Scope → Items → List Group
  groups_of_block scope none = []
  groups_of_block scope (and_then first rest) = groups_of_item scope first ++ groups_of_block scope rest

  pub groups_of_arms : Scope → Arms → List Group
  groups_of_arms scope no_arms = []
  groups_of_arms scope (arm head body rest) = groups_of_block scope body ++ groups_of_arms scope rest

  pub groups_of_cases : Scope → Arms → (otherwise : List Group) → List Group
  groups_of_cases scope no_arms otherwise = otherwise
  groups_of_cases scope (arm head body rest) otherwise = behind_case (ranges_in head.says) (groups_of_block scope body) (groups_of_cases scope rest) otherwise

-- ---- blocks

-- What stands before what follows an item, or a block.
abbrev pub behind_item : Scope → Item → Before → Before
behind_item scope item before = record {
  at = before.at + item_size scope item;
  texts = before.texts + length (texts_of_item item);
  groups = before.groups + length (groups_of_item scope item);
  loops = before.loops + loops_in item;
}

abbrev pub behind_block : Scope → Items → Before → Before
behind_block scope block before = record {
  at = before.at + block_size scope block;
  texts = before.texts + length (texts_of_block block);
  groups = before.groups + length (groups_of_block scope block);
  loops = before.loops + loops_in_all block;
}

-- An arm: its test, its block, and a jump over what stands behind it, which is so many instructions.
abbrev pub arm_code : Before → (line : ℕ) → List What → (size : ℕ) → (Before → List Instr) → (rest : ℕ) → (ℕ → List Instr) → List Instr
arm_code before line test size block rest further =
    let start = before.at + (length test + 1) in
    let next = start + size + 1 in
    lined line (test_code test next) ++ (block (placed start before) ++ (lined line (What.Jump (next + rest) ∷ []) ++ further next))

-- An arm of IF. ELSE is its block alone.
abbrev pub if_code : Scope → Before → (line : ℕ) → Option Tree → (size : ℕ) → (Before → List Instr) → (rest : ℕ) → (ℕ → List Instr) → List Instr
if_code scope before line (Some tree) size block rest further = arm_code before line (value_code scope tree) size block rest further
if_code scope before line None size block rest further = block before

-- What is done where no arm is taken: so many instructions, by what stands before them. They stand behind all arms.
pub record Otherwise : Type 0 where
  pub size : ℕ
  pub code : Before → List Instr

abbrev pub nothing_else : Otherwise
nothing_else = record { size = 0; code = λ before. [] }

-- The same, with another number of loops before.
abbrev pub numbered : ℕ → Before → Before
numbered loops before = record { at = before.at; texts = before.texts; groups = before.groups; loops = loops }

-- An arm of SELECT CASE, by what stands before it and what before the next. The default is what is done where no other
-- arm is taken.
abbrev pub case_code
    : Scope → Before → (behind : Before) → (line group : ℕ) → Sort → Option (List CaseRange) → (size : ℕ) → (Before → List Instr) → (rest : ℕ → ℕ)
    → (Before → Otherwise → List Instr) → Otherwise → List Instr
case_code scope before behind line group sort (Some ranges) size block rest further otherwise =
    arm_code before line (ranges_code scope group sort ranges) size block (rest otherwise.size) (λ next. further (placed next behind) otherwise)
case_code scope before behind line group sort None size block rest further otherwise =
    further (numbered behind.loops before) (record { size = size; code = λ last. block (numbered before.loops last) })

abbrev mutual
  pub item_code : Scope → Before → List LoopAround → Item → List Instr
  item_code scope before around (plain line) = lined line.line (says_code scope before around line.says)
  item_code scope before around (branch arms close) = arms_code scope before around arms
  item_code scope before around (select head arms close) =
      let test = selector_code scope before.groups (selected head.says) in
      lined head.line test
      ++ cases_code scope (placed (before.at + length test) (keeping 1 before)) around before.groups (selector_sort scope (selected head.says)) arms nothing_else
  item_code scope before around (loop head body close) =
      loop_code scope before head (block_size scope body) (λ inside loops. block_code scope inside loops body) around

  pub block_code : Scope → Before → List LoopAround → Items → List Instr
  block_code scope before around none = []
  block_code scope before around (and_then first rest) =
      item_code scope before around first ++ block_code scope (behind_item scope first before) around rest

  pub arms_code : Scope → Before → List LoopAround → Arms → List Instr
  arms_code scope before around no_arms = []
  arms_code scope before around (arm head body rest) =
      if_code scope before head.line (tested head.says) (block_size scope body) (λ inside. block_code scope inside around body)
      (arms_size scope rest) (λ next. arms_code scope (placed next (behind_block scope body before)) around rest)

  -- By the group that keeps the selector, and its sort.
  pub cases_code : Scope → Before → List LoopAround → (group : ℕ) → Sort → Arms → Otherwise → List Instr
  cases_code scope before around group sort no_arms otherwise = otherwise.code before
  cases_code scope before around group sort (arm head body rest) otherwise =
      case_code scope before (behind_block scope body before) head.line group sort (ranges_in head.says) (block_size scope body)
      (λ inside. block_code scope inside around body) (cases_size scope sort rest) (λ next other. cases_code scope next around group sort rest other) otherwise

-- A block with what ends it, at the line of its end.
abbrev pub part_code : Scope → Before → List LoopAround → Items → (line : ℕ) → List Instr
part_code scope before around block line = block_code scope before around block ++ lined line (What.End ∷ [])

-- The loops around the block of a part, by their labels: none around that of the main program, and around that of a DO
-- CONCURRENT this loop, whose iteration a CYCLE ends.
abbrev pub around_part : List (Option Name) → (end : ℕ) → List LoopAround
around_part labels end = map (λ label. record { label = label; next = end; behind = end }) labels
