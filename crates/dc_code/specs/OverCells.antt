-- What a computation does over cells of any form, which show a store. This project's own.
use Rattle.std.specs.Prelude.{List, [], ◌∷◌}
use Rattle.dc_int.specs.Entries.{Entry, Reads, Defines, Undefines, Contributes}
use Rattle.dc_int.specs.Store.{Store, value_at, bounds_of}
use Rattle.dc_code.specs.Computation.{Computation, give, fail, read, define, undefine, contribute, ask, pause, Reached, done, bad, paused}

-- What the cells hold at the end, and where it ends.
pub record CellsRun (M : Type 0) (E T A : Type 0) : Type 0 where
  pub meaning : M
  pub reached : Reached E T A

-- A read is answered by the store that is shown; each entry changes what the cells hold.
abbrev pub over_cells : {M E T A : Type 0} → (M → Store) → (Entry → M → M) → M → Computation E T A → CellsRun M E T A
over_cells shown after held (give a) = record { meaning = held; reached = done a }
over_cells shown after held (fail trouble) = record { meaning = held; reached = bad trouble }
over_cells shown after held (read x line rest) = over_cells shown after (after (Reads x line) held) (rest (value_at (shown held) x))
over_cells shown after held (define x z line rest) = over_cells shown after (after (Defines x z line) held) rest
over_cells shown after held (undefine x line rest) = over_cells shown after (after (Undefines x line) held) rest
over_cells shown after held (contribute x op z rest) = over_cells shown after (after (Contributes x op z) held) rest
over_cells shown after held (ask variable rest) = over_cells shown after held (rest (bounds_of (shown held) variable))
over_cells shown after held (pause event rest) = record { meaning = held; reached = paused event rest }

-- What the cells hold after entries, one after another.
abbrev pub after_entries : {M : Type 0} → (Entry → M → M) → List Entry → M → M
after_entries after [] held = held
after_entries after (entry ∷ entries) held = after_entries after entries (after entry held)
