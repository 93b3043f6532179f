-- How the judge's definitions see what its code holds.
use Rattle.std.specs.Prelude.{◌<◌, ◌≤◌, ℕ, List, map, length, slice_index_or, Option, option_map, Vec}
use Rattle.dc_code.specs.Pairs as pairs
use Rattle.dc_plain.specs.declared.marks.Ends as ends
use Rattle.dc_plain.specs.declared.marks.Mark as marks
use Rattle.dc_plain.specs.declared.marks.Named as named
use Rattle.dc_plain.specs.Marks.{Mark, Marks, Named}

abbrev pub one_ends : ends.Ends → pairs.Ends
one_ends e = record { least = e.least; greatest = e.greatest }

abbrev pub ends_of_code : Option ends.Ends → Option pairs.Ends
ends_of_code e = option_map one_ends e

abbrev pub mark_of : marks.Mark → Mark
mark_of m = record { touchers = ends_of_code m.touchers; readers = ends_of_code m.readers }

module _ {A : Type 0} where
  abbrev pub row_of : Vec marks.Mark A → List Mark
  row_of row = map mark_of row.items

  abbrev pub marks_of : List (Vec marks.Mark A) → Marks
  marks_of rows = map row_of rows

abbrev pub named_of : named.Named → Named
named_of n = record { element = n.element; pair = (n.first, n.second) }

-- No more rows, and no longer ones, than a store has.
module _ {A : Type 0} where
  pub record FitStore (rows : List (Vec marks.Mark A)) : Type 0 where
    pub few : length rows ≤ 4194304
    pub short : (k : ℕ) (d : Vec marks.Mark A) → k < length rows → length (slice_index_or rows k d).items ≤ 4194304
