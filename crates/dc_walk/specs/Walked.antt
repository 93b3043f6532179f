-- The blocks that the walker executes: of assignments, IF, SELECT CASE and the loops that go in rounds, without calls,
-- output, input, STOP and loops DO CONCURRENT. That numbers can be held, and that the indexes of the loop around aren't
-- defined, is said here for the walker; rules on tokens and names refuse others before. This project's own.
use Rattle.std.specs.Prelude.{Bool, true, false, ◌&&◌, List, Option, Some, None}
use Rattle.dc_tree.specs.Blocks.{Item, Items, Arms, plain, branch, select, loop, none, and_then, no_arms, arm}
use Rattle.dc_tree.specs.Entities.{Scope, entity}
use Rattle.dc_tree.specs.Statements as statements
use Rattle.dc_tree.specs.Statements.{Name, Ranging, Deed, Statement}
use Rattle.dc_tree.specs.Syntax.{Tree}
use Rattle.dc_form.specs.BuiltPrograms.{is_held, is_whole_scalar, is_built_assignment}
use Rattle.dc_meaning.specs.WalkScope.{spared}
use Rattle.dc_walk.specs.Arms.{test_of}

-- ---- single statements

abbrev pub is_walked_deed : List Name → Deed → Bool
is_walked_deed indexes (statements.cycle label) = true
is_walked_deed indexes (statements.exit label) = true
is_walked_deed indexes statements.continue = true
is_walked_deed indexes deed = is_built_assignment deed && spared indexes (statements.act deed)

abbrev pub is_walked_line : List Name → Statement → Bool
is_walked_line indexes (statements.act deed) = is_walked_deed indexes deed
is_walked_line indexes (statements.if_action test deed) = is_held test && is_walked_deed indexes deed
is_walked_line indexes says = false

-- ---- heads of constructs and of their arms

-- A test or a step, where there is one.
abbrev pub is_held_or_absent : Option Tree → Bool
is_held_or_absent (Some test) = is_held test
is_held_or_absent None = true

abbrev pub is_walked_select : Statement → Bool
is_walked_select (statements.select_case tree) = is_held tree
is_walked_select says = false

-- The variable of a counted DO is an INTEGER scalar of the main program.
abbrev pub is_walked_ranging : Scope → Ranging → Bool
is_walked_ranging scope ranging =
    is_whole_scalar (entity scope ranging.name) && (is_held ranging.first && (is_held ranging.last && is_held_or_absent ranging.step))

abbrev pub is_walked_loop : Scope → Statement → Bool
is_walked_loop scope (statements.do_line label (Some ranging)) = is_walked_ranging scope ranging
is_walked_loop scope (statements.do_line label None) = true
is_walked_loop scope (statements.do_while label test) = is_held test
is_walked_loop scope says = false

-- ---- blocks

-- In a scope, inside a loop with indexes of these names.
abbrev mutual
  pub is_walked : Scope → List Name → Item → Bool
  is_walked scope indexes (plain line) = is_walked_line indexes line.says
  is_walked scope indexes (branch arms close) = are_walked_arms scope indexes arms
  is_walked scope indexes (select head arms close) = is_walked_select head.says && are_walked_arms scope indexes arms
  is_walked scope indexes (loop head body close) = is_walked_loop scope head.says && is_walked_block scope indexes body

  pub is_walked_block : Scope → List Name → Items → Bool
  is_walked_block scope indexes none = true
  is_walked_block scope indexes (and_then first rest) = is_walked scope indexes first && is_walked_block scope indexes rest

  pub are_walked_arms : Scope → List Name → Arms → Bool
  are_walked_arms scope indexes no_arms = true
  are_walked_arms scope indexes (arm head body rest) =
      is_held_or_absent (test_of head.says) && (is_walked_block scope indexes body && are_walked_arms scope indexes rest)
