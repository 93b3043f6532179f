-- A block over a store, where it holds loops: what a loop inside does is an argument, and orders for the
-- loops inside are handed through. This project's own.
use Rattle.std.specs.Prelude.{ℕ, List, [], ◌∷◌, ◌++◌, Some, None, is_none, if◌then◌else◌, pos}
use Rattle.dc_int.specs.Entries.{Entry, Reads, Defines, Undefines, Contributes, store_after_entry}
use Rattle.dc_int.specs.Store.{Store, value_at, bounds_of}
use Rattle.dc_code.specs.Computation.{give, fail, read, define, undefine, contribute, ask, pause}
use Rattle.dc_code.specs.Loops.{Orders, Passage}
use Rattle.dc_code.specs.Troubles.{Trouble, Slots, Computing, enter_loop, in_statement}

-- What runs a loop inside: its number, the turns left, the entities around it, and the store and the
-- orders with which it is reached.
abbrev pub Entering : Type 0
Entering = ℕ → ℕ → Slots → Store → Orders → Passage

abbrev pub ended_well : Store → ℕ → Orders → Passage
ended_well store turns orders = record { entries = []; store = store; turns = turns; orders = orders; trouble = None }

abbrev pub ended_badly : Store → Orders → Trouble → Passage
ended_badly store orders trouble = record { entries = []; store = store; turns = 0; orders = orders; trouble = Some trouble }

abbrev pub passage_behind : List Entry → Passage → Passage
passage_behind entries passage = record {
  entries = entries ++ passage.entries;
  store = passage.store;
  turns = passage.turns;
  orders = passage.orders;
  trouble = passage.trouble;
}

-- what follows a loop inside, where that ended well
abbrev pub behind_loop : Passage → (ℕ → Store → Orders → Passage) → Passage
behind_loop passage rest = if is_none passage.trouble then passage_behind passage.entries (rest passage.turns passage.store passage.orders) else passage

-- A block over a store. It pauses at the loops inside alone.
abbrev pub through : Entering → Store → Orders → Computing ℕ → Passage
through enter store orders (give turns) = ended_well store turns orders
through enter store orders (fail failure) = ended_badly store orders (in_statement failure)
through enter store orders (read x line rest) = passage_behind (Reads x line ∷ []) (through enter store orders (rest (value_at store x)))
through enter store orders (define x value line rest) =
    passage_behind (Defines x value line ∷ []) (through enter (store_after_entry (Defines x value line) store) orders rest)
through enter store orders (undefine x line rest) = passage_behind (Undefines x line ∷ []) (through enter (store_after_entry (Undefines x line) store) orders rest)
through enter store orders (contribute x op value rest) = passage_behind (Contributes x op value ∷ []) (through enter store orders rest)
through enter store orders (ask variable rest) = through enter store orders (rest (bounds_of store variable))
through enter store orders (pause (enter_loop number turns slots) rest) =
    behind_loop (enter number turns slots store orders) (λ left after later. through enter after later (rest (pos left)))
through enter store orders (pause event rest) = through enter store orders (rest (pos 0))
