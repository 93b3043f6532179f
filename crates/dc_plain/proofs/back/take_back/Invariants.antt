use Rattle.std.proofs.Common.{◌≡◌, drop, map}
use Rattle.dc_plain.specs.TakingBack.{taken_back}
use Rattle.dc_plain.specs.Views.{variable_of, entry_of}
use Rattle.dc_plain.proofs.back.take_back.Given as goal

abbrev pub invariant-loop-note : goal.invariant-loop-note
invariant-loop-note l =
    taken_back (map entry_of (drop l.note-index l.notes)) (map variable_of l.opening) (map variable_of l.variables.items)
    ≡ taken_back (map entry_of l.notes) (map variable_of l.opening) (map variable_of l.fn.variables.items)
