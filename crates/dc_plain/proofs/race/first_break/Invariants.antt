use Rattle.std.proofs.Common.{◌≡◌, drop, take}
use Rattle.dc_code.specs.Breaks.{break_after, first_break}
use Rattle.dc_plain.specs.Plainly.{plain}
use Rattle.dc_plain.specs.Views.{entries_of}
use Rattle.dc_plain.proofs.race.first_break.Given as goal

abbrev pub invariant-loop-note : goal.invariant-loop-note
invariant-loop-note l =
    (l.count ≡ l.note-index)
    × (break_after plain (entries_of l.first) (entries_of (take l.count l.second)) (entries_of (drop l.note-index l.second)) ≡ first_break plain (entries_of l.first) (entries_of l.second))
