-- A whole program: what its main program does, its loops, and the store with which it begins. After ISO/IEC
-- 1539-1:2023, clauses 8.4 and 14.1.
use Rattle.std.specs.Prelude.{ℕ, suc, List, [], ◌∷◌}
use Rattle.dc_int.specs.Sorts.{sort_with}
use Rattle.dc_code.specs.Inner.{Forms}
use Rattle.dc_code.specs.Troubles.{Computing}
pub use Rattle.dc_plain.specs.FirstStores.{first_store, first_variable, first_cells}
use Rattle.dc_tree.specs.declared.symbols.Role as roles
use Rattle.dc_tree.specs.declared.symbols.Symbol.{Symbol}
use Rattle.dc_tree.specs.Blocks.{Source}
use Rattle.dc_tree.specs.Entities.{symbols_in, main_scope}
use Rattle.dc_meaning.specs.Calls.{callee, greatest_call_depth, procedures_from}
use Rattle.dc_meaning.specs.Concurrent.{Outside, Concurrent, Surroundings}
use Rattle.dc_meaning.specs.Execution.{exec_all}
use Rattle.dc_meaning.specs.Headers.{inside_frame}
use Rattle.dc_meaning.specs.Numbering.{loops_of_all, forms_of}

-- The outside variables in declared order, from a number on.
abbrev pub outsides_from : ℕ → List Symbol → List Outside
outsides_from number [] = []
outsides_from number (symbol ∷ rest) = by symbol.role (outsides_from (suc number) rest) (outsides_from number rest)
  where
    by : roles.Role → List Outside → List Outside → List Outside
    by (roles.Role.Variable logical kind bounds initial) behind others =
        record { name = symbol.name; number = number; sort = sort_with logical kind; bounds = bounds } ∷ behind
    by role behind others = others

abbrev pub surroundings : List Symbol → Source → ℕ → Surroundings
surroundings symbols source turns = record {
  outsides = outsides_from 0 (symbols_in 0 symbols);
  call = callee (procedures_from symbols 1 source.procedures) greatest_call_depth;
  turns = turns;
}

-- The main program, with so many turns.
abbrev pub main_computation : List Symbol → Source → ℕ → Computing Unit
main_computation symbols source turns =
    inside_frame [] turns (exec_all (main_scope symbols) (surroundings symbols source turns).call 0 source.body) (λ flow left. tt)

-- Its DO CONCURRENT loops, by their numbers, where each mask and each iteration has so many turns.
abbrev pub program_loops : List Symbol → Source → ℕ → List Concurrent
program_loops symbols source turns = loops_of_all (surroundings symbols source turns) (main_scope symbols) 0 source.body

abbrev pub program_forms : List Symbol → Source → ℕ → Forms
program_forms symbols source turns = forms_of (surroundings symbols source turns) (program_loops symbols source turns)
