-- What the rules leave of blocks, so that their instructions do what they mean. This project's own.
use Rattle.std.specs.Prelude.{◌≡◌, ◌≤◌, ℕ, ◌+◌, Bool, true, false, ◌&&◌, List, [], ◌∷◌, map, Option, Some, None, option_map, if◌then◌else◌}
use Rattle.std.specs.List.{list_all, list_any}
use Rattle.dc_int.specs.Sorts.{Sort, whole, logical}
use Rattle.dc_tree.specs.Blocks.{Item, Items, Arms, plain, branch, select, loop, none, and_then, no_arms, arm}
use Rattle.dc_tree.specs.Entities.{Scope, entity}
use Rattle.dc_tree.specs.Statements as statements
use Rattle.dc_tree.specs.Statements.{Name, Ranging, CaseRange, Deed, cycle, exit, continue, stop, error_stop, Statement}
use Rattle.dc_tree.specs.Syntax.{Tree}
use Rattle.dc_tree.specs.Typing.{sort_of_entity}
use Rattle.dc_meaning.specs.Actions as actions
use Rattle.dc_meaning.specs.Actions.{Flow}
use Rattle.dc_meaning.specs.Execution.{belongs, is_concurrent}
use Rattle.dc_actions.specs.Assigning.{takes_values}
use Rattle.dc_actions.specs.Deeds.{deed_is_lowered}
use Rattle.dc_actions.specs.Expressions.{is_usable, is_number}
use Rattle.dc_actions.specs.Limits.{step_is_usable}
use Rattle.dc_flows.specs.Flows.{LoopAround, loop_named, ranges_in, selected, selector_sort, tested}

-- It belongs to one of the loops around, by their labels.
abbrev pub belongs_to_some : List (Option Name) → Option Name → Bool
belongs_to_some labels given = list_any (λ label. belongs label given) labels

-- In the main program, or in the block of a DO CONCURRENT, which doesn't stop.
abbrev pub action_is_lowered : Scope → (main : Bool) → List (Option Name) → Deed → Bool
action_is_lowered scope main labels (cycle given) = belongs_to_some labels given
action_is_lowered scope main labels (exit given) = belongs_to_some labels given
action_is_lowered scope main labels continue = true
action_is_lowered scope main labels stop = main
action_is_lowered scope main labels error_stop = main
action_is_lowered scope main labels other = deed_is_lowered scope other

abbrev pub says_is_lowered : Scope → (main : Bool) → List (Option Name) → Statement → Bool
says_is_lowered scope main labels (statements.act deed) = action_is_lowered scope main labels deed
says_is_lowered scope main labels (statements.if_action test deed) = is_usable scope test && action_is_lowered scope main labels deed
says_is_lowered scope main labels other = false

abbrev pub is_usable_test : Scope → Option Tree → Bool
is_usable_test scope (Some tree) = is_usable scope tree
is_usable_test scope None = true

-- Truths are compared with single values alone.
abbrev pub range_is_lowered : Sort → CaseRange → Bool
range_is_lowered (whole kind) range = true
range_is_lowered logical (statements.only tree) = true
range_is_lowered logical other = false

abbrev pub case_is_lowered : Sort → Option (List CaseRange) → Bool
case_is_lowered sort (Some ranges) = list_all (range_is_lowered sort) ranges
case_is_lowered sort None = true

-- The variable of a counted DO is an INTEGER scalar.
abbrev pub counted_is_lowered : Scope → Ranging → Bool
counted_is_lowered scope ranging =
    is_usable scope ranging.first && (is_usable scope ranging.last && (step_is_usable scope ranging.step
    && (takes_values scope (entity scope ranging.name) (Some []) && is_number (sort_of_entity (entity scope ranging.name)))))

-- A loop by its head; a DO CONCURRENT stands in the main program.
abbrev pub head_is_lowered : Scope → (main : Bool) → Statement → Bool
head_is_lowered scope main (statements.do_line label (Some ranging)) = counted_is_lowered scope ranging
head_is_lowered scope main (statements.do_line label None) = true
head_is_lowered scope main (statements.do_while label test) = is_usable scope test
head_is_lowered scope main (statements.concurrent label spec indexes mask locality) = main
head_is_lowered scope main other = false

abbrev pub label_of : Statement → Option Name
label_of (statements.do_line label counted) = label
label_of (statements.do_while label test) = label
label_of (statements.concurrent label spec indexes mask locality) = label
label_of other = None

abbrev mutual
  pub item_is_lowered : Scope → (main : Bool) → List (Option Name) → Item → Bool
  item_is_lowered scope main labels (plain line) = says_is_lowered scope main labels line.says
  item_is_lowered scope main labels (branch arms close) = arms_are_lowered scope main labels arms
  item_is_lowered scope main labels (select head arms close) =
      is_usable_test scope (selected head.says) && cases_are_lowered scope main labels (selector_sort scope (selected head.says)) arms
  item_is_lowered scope main labels (loop head body close) =
      head_is_lowered scope main head.says && (if is_concurrent head.says then true else block_is_lowered scope main (label_of head.says ∷ labels) body)

  pub block_is_lowered : Scope → (main : Bool) → List (Option Name) → Items → Bool
  block_is_lowered scope main labels none = true
  block_is_lowered scope main labels (and_then first rest) = item_is_lowered scope main labels first && block_is_lowered scope main labels rest

  pub arms_are_lowered : Scope → (main : Bool) → List (Option Name) → Arms → Bool
  arms_are_lowered scope main labels no_arms = true
  arms_are_lowered scope main labels (arm head body rest) =
      is_usable_test scope (tested head.says) && (block_is_lowered scope main labels body && arms_are_lowered scope main labels rest)

  pub cases_are_lowered : Scope → (main : Bool) → List (Option Name) → Sort → Arms → Bool
  cases_are_lowered scope main labels sort no_arms = true
  cases_are_lowered scope main labels sort (arm head body rest) =
      case_is_lowered sort (ranges_in head.says) && (block_is_lowered scope main labels body && cases_are_lowered scope main labels sort rest)

-- ---- where the run goes on

-- Behind a block that ends at this place, by how it was left. A RETURN stands in procedures alone.
abbrev pub place_of : (behind : ℕ) → List LoopAround → Flow → Option ℕ
place_of behind around actions.on = Some behind
place_of behind around actions.returns = None
place_of behind around (actions.cycles given) = option_map (λ found. found.next) (loop_named around given)
place_of behind around (actions.exits given) = option_map (λ found. found.behind) (loop_named around given)

-- The loops around end at this place or behind it.
abbrev pub EndBehind : ℕ → List LoopAround → Type 0
EndBehind at [] = Unit {0}
EndBehind at (nearest ∷ others) = (at ≤ nearest.next) × ((at ≤ nearest.behind) × EndBehind at others)

-- As many turns as a run is given at most.
abbrev pub greatest_turns : ℕ
greatest_turns = 1000000000
