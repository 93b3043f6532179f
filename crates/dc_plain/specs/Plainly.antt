-- What the plain judge asks of two iterations, where every variable has unspecified locality.
use Rattle.std.specs.Prelude.{ℕ, List, Option}
use Rattle.dc_int.specs.declared.variable.Locality.{Locality}
use Rattle.dc_code.specs.declared.verdict.Race.{Race}
use Rattle.dc_code.specs.Verdicts.{race_of}
use Rattle.dc_plain.specs.declared.note.Note.{Note}
use Rattle.dc_plain.specs.Views.{entries_of}

abbrev pub plain : ℕ → Locality
plain variable = Locality.Plain

-- The race of the iterations i and j, by what they did in succession.
abbrev pub race_by : ℕ → ℕ → List Note → List Note → Option Race
race_by i j first second = race_of plain i j (entries_of first) (entries_of second)
