-- The programs whose code is made: those that are built and break no rule. This project's own.
use Rattle.std.specs.Prelude.{◌≡◌, Bool, true, false, ◌&&◌, List, IsTrue}
use Rattle.std.specs.List.{list_all}
use Rattle.dc_tree.specs.declared.symbols.Role as roles
use Rattle.dc_tree.specs.declared.symbols.Symbol.{Symbol}
use Rattle.dc_tree.specs.Blocks.{Source}
use Rattle.dc_form.specs.BuiltPrograms.{is_built}
use Rattle.dc_tree.specs.Entities.{main_scope}
use Rattle.dc_tree.specs.Symbols.{is_sound}
use Rattle.dc_meaning.specs.Concurrent.{Concurrent, Surroundings, block_scope}
use Rattle.dc_meaning.specs.Programs.{surroundings, program_loops}
use Rattle.dc_lower.specs.Blocks.{block_is_lowered, block_is_typed}
use Rattle.dc_actions.specs.Typed.{are_held_bounds}
use Rattle.dc_actions.specs.Limits.{limits_are_lowered}

-- A loop with limits that can be evaluated around it, over a block that has a code.
abbrev pub loop_is_lowered : Surroundings → Concurrent → Bool
loop_is_lowered within loop =
    list_all (limits_are_lowered loop.around) loop.indexes
    && (block_is_lowered (block_scope within loop) false loop.body && block_is_typed (block_scope within loop) loop.body)

pub record IsLowerable (symbols : List Symbol) (source : Source) : Type 0 where
  pub built : IsTrue (is_built symbols source)
  pub sound : IsTrue (list_all is_sound symbols)
  pub lowered : block_is_lowered (main_scope symbols) true source.body ≡ true
  pub typed : block_is_typed (main_scope symbols) source.body ≡ true
  pub loops : list_all (loop_is_lowered (surroundings symbols source 0)) (program_loops symbols source 0) ≡ true

-- ---- the declared bounds are numbers that an instruction holds

abbrev pub is_held_symbol : Symbol → Bool
is_held_symbol symbol = by symbol.role
  where
    by : roles.Role → Bool
    by (roles.Role.Variable logical kind bounds initial) = are_held_bounds bounds
    by role = true

abbrev pub are_held_symbols : List Symbol → Bool
are_held_symbols symbols = list_all is_held_symbol symbols
