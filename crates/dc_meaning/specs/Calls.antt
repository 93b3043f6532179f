-- Procedures and their calls. After ISO/IEC 1539-1:2023, clauses 15.5 and 15.6; the turn of a call and the
-- greatest depth are this project's own.
use Rattle.std.specs.Prelude.{ℕ, zero, suc, ◌-◌, List, [], ◌∷◌, ◌++◌, filter_map, zip, slice_get, Option, Some, None, ℤ}
use Rattle.dc_int.specs.declared.fault.FaultKind.{FaultKind}
use Rattle.dc_int.specs.Sorts.{Sort}
use Rattle.dc_code.specs.declared.frame.Passed.{Passed}
use Rattle.dc_code.specs.declared.frame.Place.{Place}
use Rattle.dc_code.specs.Computation.{give}
use Rattle.dc_code.specs.Troubles.{Slots}
pub use Rattle.dc_plain.specs.FirstStores.{undefined_cells}
use Rattle.dc_tree.specs.declared.stmt.Intent.{Intent}
use Rattle.dc_tree.specs.declared.symbols.Role as roles
use Rattle.dc_tree.specs.declared.symbols.Symbol.{Symbol}
use Rattle.dc_tree.specs.Blocks.{Items, Subprogram}
use Rattle.dc_tree.specs.Entities.{Scope, symbols_in, result_in, intents_in, procedure_scope}
use Rattle.dc_meaning.specs.Acts.{Act, ◌>>=◌, just, wrong, spend, for_each, forget, enter_unit, leave_unit, level, slot_of}
use Rattle.dc_meaning.specs.Actions.{◌>>◌}
use Rattle.dc_meaning.specs.Execution.{exec_all}
use Rattle.dc_meaning.specs.Values.{Callee}

-- A procedure: its scope, its slots at a call, all undefined, the intents of its dummies, and its block.
pub record Procedure : Type 0 where
  pub scope : Scope
  pub fresh : Slots
  pub intents : List Intent
  pub body : Items

-- The places of INTENT(OUT) dummies.
abbrev pub out_place : Intent × Passed → Option Place
out_place (Intent.Out, Passed.AtPlace place) = Some place
out_place other = None

-- A function's result is the first of its slots.
abbrev pub result : Act (Option ℤ)
result = level >>= (λ frame state. give (slot_of state.frames frame 0 0, state))

-- A call: its turn, the INTENT(OUT) places become undefined, and the block is executed.
abbrev pub called_with : Callee → Procedure → ℕ → List Passed → Act (Option ℤ)
called_with call procedure line given = do
  spent ← spend line
  forgotten ← for_each (forget line) (filter_map out_place (zip procedure.intents given))
  entered ← enter_unit procedure.fresh given
  flow ← exec_all procedure.scope call 0 procedure.body
  found ← result
  leave_unit >> just found

-- What a call does, with so many calls deeper allowed. Procedures are counted from 1.
abbrev pub callee : List Procedure → ℕ → Callee
callee procedures zero number line given = wrong FaultKind.TooDeep line
callee procedures (suc deeper) number line given = by (slice_get procedures (number - 1)) (callee procedures deeper)
  where
    by : Option Procedure → Callee → Act (Option ℤ)
    by (Some procedure) call = called_with call procedure line given
    by None call = just None

abbrev pub greatest_call_depth : ℕ
greatest_call_depth = 100

-- ---- from the declared names

abbrev pub variable_cells : Symbol → Option (List (Option ℤ))
variable_cells symbol = by symbol.role
  where
    by : roles.Role → Option (List (Option ℤ))
    by (roles.Role.Variable logical kind bounds initial) = Some (undefined_cells bounds)
    by role = None

abbrev pub result_cells : List Symbol → Slots
result_cells symbols = by (result_in symbols)
  where
    by : Option Sort → Slots
    by (Some sort) = (None ∷ []) ∷ []
    by None = []

abbrev pub procedure_of : List Symbol → ℕ → Subprogram → Procedure
procedure_of symbols number subprogram =
    let own = symbols_in number symbols in
    record { scope = procedure_scope symbols number; fresh = result_cells own ++ filter_map variable_cells own; intents = intents_in own; body = subprogram.body }

abbrev pub procedures_from : List Symbol → ℕ → List Subprogram → List Procedure
procedures_from symbols number [] = []
procedures_from symbols number (first ∷ rest) = procedure_of symbols number first ∷ procedures_from symbols (suc number) rest
