-- What the rules of types leave of blocks with branches and loops, so that the instructions find on the stack what they
-- take. This project's own, after ISO/IEC 1539-1:2023, clauses 11.1.7.4, 11.1.8 and 11.1.9.
use Rattle.std.specs.Prelude.{Bool, true, false, ◌&&◌, List, Option, Some, None, if◌then◌else◌, ℤ}
use Rattle.std.specs.List.{list_all}
use Rattle.dc_int.specs.declared.kind.Kind.{Kind}
use Rattle.dc_int.specs.Kinds.{is_of_kind}
use Rattle.dc_int.specs.Sorts.{Sort}
use Rattle.dc_tree.specs.Blocks.{Item, Items, Arms, plain, branch, select, loop, none, and_then, no_arms, arm}
use Rattle.dc_tree.specs.Entities.{Scope}
use Rattle.dc_tree.specs.Statements as statements
use Rattle.dc_tree.specs.Statements.{CaseRange, Deed, Statement}
use Rattle.dc_tree.specs.Syntax.{Tree}
use Rattle.dc_tree.specs.Typing.{constant_value, sort_of}
use Rattle.dc_meaning.specs.Execution.{is_concurrent}
use Rattle.dc_actions.specs.Typed.{is_logical, is_same_type, is_typed, limits_are_typed, deed_is_typed}
use Rattle.dc_flows.specs.Flows.{ranges_in, selected, selector_sort, tested}

-- A test is LOGICAL.
abbrev pub is_typed_test : Scope → Tree → Bool
is_typed_test scope tree = is_typed scope tree && is_logical (sort_of scope tree)

abbrev pub says_is_typed : Scope → Statement → Bool
says_is_typed scope (statements.act deed) = deed_is_typed scope deed
says_is_typed scope (statements.if_action test deed) = is_typed_test scope test && deed_is_typed scope deed
says_is_typed scope other = true

-- ---- branches

-- The test of an arm of IF; ELSE has none.
abbrev pub test_is_typed : Scope → Option Tree → Bool
test_is_typed scope (Some tree) = is_typed_test scope tree
test_is_typed scope None = true

abbrev pub selector_is_typed : Scope → Option Tree → Bool
selector_is_typed scope (Some tree) = is_typed scope tree
selector_is_typed scope None = true

-- An instruction can hold a constant.
abbrev pub is_held_constant : Option ℤ → Bool
is_held_constant (Some z) = is_of_kind Kind.K8 z
is_held_constant None = true

-- A value of SELECT CASE has the type of the selector.
abbrev pub bound_is_typed : Scope → Sort → Tree → Bool
bound_is_typed scope sort tree = is_same_type sort (sort_of scope tree) && is_held_constant (constant_value scope tree)

abbrev pub range_is_typed : Scope → Sort → CaseRange → Bool
range_is_typed scope sort (statements.only tree) = bound_is_typed scope sort tree
range_is_typed scope sort (statements.from low) = bound_is_typed scope sort low
range_is_typed scope sort (statements.up_to high) = bound_is_typed scope sort high
range_is_typed scope sort (statements.between low high) = bound_is_typed scope sort low && bound_is_typed scope sort high

-- The ranges of an arm; the default has none.
abbrev pub case_is_typed : Scope → Sort → Option (List CaseRange) → Bool
case_is_typed scope sort (Some ranges) = list_all (range_is_typed scope sort) ranges
case_is_typed scope sort None = true

-- ---- loops

-- A DO CONCURRENT is looked at by itself.
abbrev pub head_is_typed : Scope → Statement → Bool
head_is_typed scope (statements.do_line label (Some ranging)) = limits_are_typed scope ranging
head_is_typed scope (statements.do_while label test) = is_typed_test scope test
head_is_typed scope other = true

-- ---- blocks

abbrev mutual
  pub item_is_typed : Scope → Item → Bool
  item_is_typed scope (plain line) = says_is_typed scope line.says
  item_is_typed scope (branch arms close) = arms_are_typed scope arms
  item_is_typed scope (select head arms close) = selector_is_typed scope (selected head.says) && cases_are_typed scope (selector_sort scope (selected head.says)) arms
  item_is_typed scope (loop head body close) = head_is_typed scope head.says && (if is_concurrent head.says then true else block_is_typed scope body)

  pub block_is_typed : Scope → Items → Bool
  block_is_typed scope none = true
  block_is_typed scope (and_then first rest) = item_is_typed scope first && block_is_typed scope rest

  pub arms_are_typed : Scope → Arms → Bool
  arms_are_typed scope no_arms = true
  arms_are_typed scope (arm head body rest) = test_is_typed scope (tested head.says) && (block_is_typed scope body && arms_are_typed scope rest)

  pub cases_are_typed : Scope → Sort → Arms → Bool
  cases_are_typed scope sort no_arms = true
  cases_are_typed scope sort (arm head body rest) = case_is_typed scope sort (ranges_in head.says) && (block_is_typed scope body && cases_are_typed scope sort rest)

-- ---- output

-- The block of a DO CONCURRENT writes no line.
abbrev pub writes_nothing : Deed → Bool
writes_nothing (statements.print written trees) = false
writes_nothing other = true

abbrev pub says_is_silent : Statement → Bool
says_is_silent (statements.act deed) = writes_nothing deed
says_is_silent (statements.if_action test deed) = writes_nothing deed
says_is_silent other = true

abbrev mutual
  pub item_is_silent : Item → Bool
  item_is_silent (plain line) = says_is_silent line.says
  item_is_silent (branch arms close) = arms_are_silent arms
  item_is_silent (select head arms close) = arms_are_silent arms
  item_is_silent (loop head body close) = block_is_silent body

  pub block_is_silent : Items → Bool
  block_is_silent none = true
  block_is_silent (and_then first rest) = item_is_silent first && block_is_silent rest

  pub arms_are_silent : Arms → Bool
  arms_are_silent no_arms = true
  arms_are_silent (arm head body rest) = block_is_silent body && arms_are_silent rest
