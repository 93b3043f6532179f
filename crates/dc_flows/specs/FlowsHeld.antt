-- The blocks whose instructions are made: their numbers can be held. This project's own.
use Rattle.std.specs.Prelude.{Bool, true, false, ◌&&◌, List, Option, Some, None}
use Rattle.std.specs.List.{list_all}
use Rattle.dc_form.specs.BuiltPrograms.{is_held}
use Rattle.dc_tree.specs.Blocks.{Item, Items, Arms, plain, branch, select, loop, none, and_then, no_arms, arm}
use Rattle.dc_tree.specs.Entities.{Scope, entity}
use Rattle.dc_tree.specs.Statements as statements
use Rattle.dc_tree.specs.Statements.{CaseRange, Ranging, Deed, Statement}
use Rattle.dc_tree.specs.Syntax.{Tree}
use Rattle.dc_actions.specs.Deeds.{deed_has_code}
use Rattle.dc_actions.specs.Limits.{is_held_index}
use Rattle.dc_actions.specs.Printing.{is_outside}
use Rattle.dc_flows.specs.Flows.{Rounds, rounds_of, selected, tested, ranges_in}

abbrev pub is_held_range : CaseRange → Bool
is_held_range (statements.only tree) = is_held tree
is_held_range (statements.from low) = is_held low
is_held_range (statements.up_to high) = is_held high
is_held_range (statements.between low high) = is_held low && is_held high

-- ---- statements

abbrev pub action_has_code : Scope → Deed → Bool
action_has_code scope (statements.cycle given) = true
action_has_code scope (statements.exit given) = true
action_has_code scope statements.continue = true
action_has_code scope statements.stop = true
action_has_code scope statements.error_stop = true
action_has_code scope other = deed_has_code scope other

abbrev pub says_has_code : Scope → Statement → Bool
says_has_code scope (statements.act deed) = action_has_code scope deed
says_has_code scope (statements.if_action test deed) = is_held test && action_has_code scope deed
says_has_code scope other = false

-- ---- loops

abbrev pub is_held_test : Option Tree → Bool
is_held_test (Some tree) = is_held tree
is_held_test None = true

-- The variable of a counted DO is one of the main program.
abbrev pub counted_has_code : Scope → Ranging → Bool
counted_has_code scope ranging = is_held_index ranging && is_outside (entity scope ranging.name)

abbrev pub head_has_code : Scope → Statement → Bool
head_has_code scope (statements.do_line label (Some ranging)) = counted_has_code scope ranging
head_has_code scope (statements.do_line label None) = true
head_has_code scope (statements.do_while label test) = is_held test
head_has_code scope (statements.concurrent label spec indexes mask locality) = true
head_has_code scope other = false

-- ---- blocks

abbrev pub is_held_selector : Option Tree → Bool
is_held_selector (Some tree) = is_held tree
is_held_selector None = false

abbrev pub are_held_ranges : Option (List CaseRange) → Bool
are_held_ranges (Some ranges) = list_all is_held_range ranges
are_held_ranges None = true

-- ELSE is the last arm.
abbrev pub ends_arms : Option Tree → Arms → Bool
ends_arms (Some tree) rest = true
ends_arms None no_arms = true
ends_arms None (arm head body rest) = false

-- The block of a DO CONCURRENT is a part of its own.
abbrev pub inside_has_code : Option Rounds → Bool → Bool
inside_has_code (Some rounds) inside = inside
inside_has_code None inside = true

abbrev mutual
  pub item_has_code : Scope → Item → Bool
  item_has_code scope (plain line) = says_has_code scope line.says
  item_has_code scope (branch arms close) = arms_have_code scope arms
  item_has_code scope (select head arms close) = is_held_selector (selected head.says) && cases_have_code scope arms
  item_has_code scope (loop head body close) = head_has_code scope head.says && inside_has_code (rounds_of scope 0 head.says) (block_has_code scope body)

  pub block_has_code : Scope → Items → Bool
  block_has_code scope none = true
  block_has_code scope (and_then first rest) = item_has_code scope first && block_has_code scope rest

  pub arms_have_code : Scope → Arms → Bool
  arms_have_code scope no_arms = true
  arms_have_code scope (arm head body rest) = is_held_test (tested head.says) && (block_has_code scope body && (arms_have_code scope rest && ends_arms (tested head.says) rest))

  pub cases_have_code : Scope → Arms → Bool
  cases_have_code scope no_arms = true
  cases_have_code scope (arm head body rest) = are_held_ranges (ranges_in head.says) && (block_has_code scope body && cases_have_code scope rest)
