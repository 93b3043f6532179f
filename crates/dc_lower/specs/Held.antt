-- The statements and blocks whose instructions are made: numbers can be held, and an array takes a list of as many
-- values as it has elements. This project's own.
use Rattle.std.specs.Prelude.{Bool, true, false, ◌&&◌, nat_eq}
use Rattle.dc_tree.specs.Blocks.{Item, Items, plain, loop, none, and_then}
use Rattle.dc_tree.specs.Entities.{Scope}
use Rattle.dc_tree.specs.Statements.{Statement, act}
use Rattle.dc_meaning.specs.Execution.{loops_in}
use Rattle.dc_actions.specs.Deeds.{deed_has_code}

abbrev pub says_has_code : Scope → Statement → Bool
says_has_code scope (act deed) = deed_has_code scope deed
says_has_code scope other = false

-- A loop stands there alone.
abbrev pub item_has_code : Scope → Item → Bool
item_has_code scope (plain line) = says_has_code scope line.says
item_has_code scope (loop head body close) = nat_eq (loops_in (loop head body close)) 1
item_has_code scope other = false

abbrev pub block_has_code : Scope → Items → Bool
block_has_code scope none = true
block_has_code scope (and_then first rest) = item_has_code scope first && block_has_code scope rest
