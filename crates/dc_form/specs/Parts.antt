-- Parts of the condition by themselves: a name by its symbol, a statement of a loop, a header.
use Rattle.std.specs.Prelude.{Bool, true, false, ◌&&◌, List, [], ◌∷◌, Option, Some, None}
use Rattle.dc_tree.specs.declared.stmt.Local.{Local}
use Rattle.dc_tree.specs.declared.symbols.Role as roles
use Rattle.dc_tree.specs.declared.symbols.Symbol.{Symbol}
use Rattle.dc_tree.specs.Blocks.{Item, Items, plain}
use Rattle.dc_form.specs.BuiltPrograms.{is_built_inside, is_built_index, is_built_block, all_spare}
use Rattle.dc_tree.specs.Entities.{Scope}
use Rattle.dc_tree.specs.Statements.{Ranging}

-- an INTEGER scalar
abbrev pub is_whole_role : roles.Role → Bool
is_whole_role (roles.Role.Variable false kind [] initial) = true
is_whole_role role = false

abbrev pub is_whole_symbol : Option Symbol → Bool
is_whole_symbol None = false
is_whole_symbol (Some symbol) = is_whole_role symbol.role

-- one statement of a loop
abbrev pub is_built_inner : Item → Bool
is_built_inner (plain line) = is_built_inside line.says
is_built_inner other = false

-- a loop over these indexes with this locality
abbrev pub is_plain_loop : Scope → List Ranging → List Local → Items → Bool
is_plain_loop scope (ranging ∷ []) [] body = is_built_index scope ranging && (is_built_block body && all_spare ranging.name body)
is_plain_loop scope indexes locality body = false
