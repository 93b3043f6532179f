-- How what an iteration did is taken back: each element that it touched is as in the opening store again.
use Rattle.std.specs.Prelude.{List, [], ◌∷◌}
use Rattle.dc_int.specs.Entries.{Entry, Defines, Undefines}
use Rattle.dc_int.specs.Store.{Store, value_at, put_at}

abbrev pub taken_back : List Entry → Store → Store → Store
taken_back [] opening store = store
taken_back (Defines x value line ∷ rest) opening store = taken_back rest opening (put_at store x (value_at opening x))
taken_back (Undefines x line ∷ rest) opening store = taken_back rest opening (put_at store x (value_at opening x))
taken_back (entry ∷ rest) opening store = taken_back rest opening store
