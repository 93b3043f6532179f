-- The programs that are run today, as a condition on trees and declared names: all expressions without procedures,
-- assignments, output, and DO CONCURRENT loops of one index over assignments. That numbers, names and elements are no
-- more than can be held is said here for those who run a program; rules on tokens and names refuse others before. This
-- project's own.
use Rattle.std.specs.Prelude.{ℕ, ◌+◌, Bool, true, false, not, ◌&&◌, ◌||◌, nat_le, nat_eq, List, [], ◌∷◌, length, bytes_eq, Option, Some, None, is_none, ℤ}
use Rattle.std.specs.List.{list_all, list_any}
use Rattle.dc_int.specs.Sorts.{whole}
use Rattle.dc_int.specs.Store.{Bounds, elements_in}
use Rattle.dc_tree.specs.declared.symbols.Role as roles
use Rattle.dc_tree.specs.declared.symbols.Symbol.{Symbol}
use Rattle.dc_tree.specs.Blocks.{Item, Items, Subprogram, Source, plain, loop, none, and_then}
use Rattle.dc_tree.specs.Entities.{Entity, outside, Scope, entity, main_scope}
use Rattle.dc_tree.specs.Literals.{number_of}
use Rattle.dc_tree.specs.Statements.{Name, Ranging, Target, Deed, assign, fill, print, Statement, act, concurrent}
use Rattle.dc_tree.specs.Syntax.{Tree, Args, number, name, refer, paren, unary, binary, no_args, arg}

-- ---- expressions

abbrev pub greatest_number : ℕ
greatest_number = 9223372036854775807

abbrev mutual
  -- Its numbers are no greater than that.
  pub is_held : Tree → Bool
  is_held (number digits suffix) = nat_le (number_of digits) greatest_number
  is_held (refer text args) = are_held args
  is_held (paren inside) = is_held inside
  is_held (unary mark right) = is_held right
  is_held (binary mark left right) = is_held left && is_held right
  is_held other = true

  pub are_held : Args → Bool
  are_held no_args = true
  are_held (arg keyed value rest) = is_held value && are_held rest

abbrev mutual
  -- It refers to what has this name.
  pub mentions : Name → Tree → Bool
  mentions asked (name text) = bytes_eq text asked
  mentions asked (refer text args) = bytes_eq text asked || some_mentions asked args
  mentions asked (paren inside) = mentions asked inside
  mentions asked (unary mark right) = mentions asked right
  mentions asked (binary mark left right) = mentions asked left || mentions asked right
  mentions asked other = false

  pub some_mentions : Name → Args → Bool
  some_mentions asked no_args = false
  some_mentions asked (arg keyed value rest) = mentions asked value || some_mentions asked rest

-- ---- statements

abbrev pub is_held_target : Target → Bool
is_held_target target = by target.subscripts
  where
    by : Option (List Tree) → Bool
    by None = true
    by (Some subscripts) = list_all is_held subscripts

abbrev pub is_built_assignment : Deed → Bool
is_built_assignment (assign target value) = is_held_target target && is_held value
is_built_assignment (fill text values) = list_all is_held values
is_built_assignment other = false

-- An assignment or output, as the main program has it.
abbrev pub is_built_deed : Deed → Bool
is_built_deed (print written items) = list_all is_held items
is_built_deed other = is_built_assignment other

-- ---- loops

-- An INTEGER scalar of the main program.
abbrev pub is_whole_scalar : Entity → Bool
is_whole_scalar (outside variable (whole kind) []) = true
is_whole_scalar other = false

-- A limit doesn't refer to the index.
abbrev pub is_built_limit : Name → Tree → Bool
is_built_limit index limit = is_held limit && not (mentions index limit)

abbrev pub is_built_index : Scope → Ranging → Bool
is_built_index scope ranging =
    is_none ranging.step
    && (is_whole_scalar (entity scope ranging.name) && (is_built_limit ranging.name ranging.first && is_built_limit ranging.name ranging.last))

abbrev pub is_built_inside : Statement → Bool
is_built_inside (act deed) = is_built_assignment deed
is_built_inside other = false

abbrev pub is_built_block : Items → Bool
is_built_block none = true
is_built_block (and_then (plain line) rest) = is_built_inside line.says && is_built_block rest
is_built_block other = false

-- It defines nothing of this name.
abbrev pub spares : Name → Statement → Bool
spares index (act (assign target value)) = not (bytes_eq target.name index)
spares index (act (fill text values)) = not (bytes_eq text index)
spares index other = true

abbrev pub all_spare : Name → Items → Bool
all_spare index none = true
all_spare index (and_then (plain line) rest) = spares index line.says && all_spare index rest
all_spare index other = true

-- One index, without a type, a step, a mask or localities, which the block doesn't define.
abbrev pub is_built_loop : Scope → Statement → Items → Bool
is_built_loop scope (concurrent label None (ranging ∷ []) None []) body =
    is_built_index scope ranging && (is_built_block body && all_spare ranging.name body)
is_built_loop scope other body = false

-- ---- programs

abbrev pub is_built_line : Statement → Bool
is_built_line (act deed) = is_built_deed deed
is_built_line other = false

abbrev pub is_built_item : Scope → Item → Bool
is_built_item scope (plain line) = is_built_line line.says
is_built_item scope (loop head body close) = is_built_loop scope head.says body
is_built_item scope other = false

abbrev pub are_built_items : Scope → Items → Bool
are_built_items scope none = true
are_built_items scope (and_then first rest) = is_built_item scope first && are_built_items scope rest

-- ---- declared names

-- No initial value, or one for each element.
abbrev pub is_filled : Bounds → List ℤ → Bool
is_filled bounds [] = true
is_filled bounds given = nat_eq (length given) (elements_in bounds)

abbrev pub is_built_role : roles.Role → Bool
is_built_role (roles.Role.Variable logical kind bounds initial) = is_filled bounds initial
is_built_role (roles.Role.Constant logical kind value) = true
is_built_role role = false

-- A variable or a constant of the main program.
abbrev pub is_built_symbol : Symbol → Bool
is_built_symbol symbol = nat_eq symbol.scope 0 && is_built_role symbol.role

abbrev pub role_elements : roles.Role → ℕ
role_elements (roles.Role.Variable logical kind bounds initial) = elements_in bounds
role_elements role = 0

abbrev pub elements_of_all : List Symbol → ℕ
elements_of_all [] = 0
elements_of_all (symbol ∷ rest) = role_elements symbol.role + elements_of_all rest

-- The greatest number of names, and of the elements of all variables.
abbrev pub greatest_names : ℕ
greatest_names = 1048576

abbrev pub greatest_elements : ℕ
greatest_elements = 4194304

abbrev pub are_built_symbols : List Symbol → Bool
are_built_symbols symbols =
    nat_le (length symbols) greatest_names && (list_all is_built_symbol symbols && nat_le (elements_of_all symbols) greatest_elements)

-- A program that is run today, by its declared names.
abbrev pub is_built : List Symbol → Source → Bool
is_built symbols source = by source.procedures
  where
    by : List Subprogram → Bool
    by [] = is_none source.contains && (are_built_symbols symbols && are_built_items (main_scope symbols) source.body)
    by procedures = false
