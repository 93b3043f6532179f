-- The variables of a running program as cells of the machine. This project's own.
use Rattle.std.specs.Prelude.{List}
use Rattle.dc_int.specs.declared.variable.Shape.{Shape}
use Rattle.dc_int.specs.Entries.{Entry, store_after_entry}
use Rattle.dc_int.specs.Store.{Store}
use Rattle.dc_run.specs.declared.variables.Variables.{Variables}

-- The store of a ledger, and the shapes of its variables.
pub record Held : Type 0 where
  pub shapes : List Shape
  pub store : Store

abbrev pub held_by : Variables → Held
held_by variables = record { shapes = variables.shapes; store = variables.ledger.store }

abbrev pub after_entry : Entry → Held → Held
after_entry entry held = record { shapes = held.shapes; store = store_after_entry entry held.store }
