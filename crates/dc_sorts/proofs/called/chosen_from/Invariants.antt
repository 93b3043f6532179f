-- The values that come are chosen from behind what was chosen.
use Rattle.std.proofs.Common.{◌≡◌, drop, map}
use Rattle.dc_tree.specs.Operating.{chosen_from}
use Rattle.dc_tree.specs.Typing.{value_of}
use Rattle.dc_sorts.specs.Forms.{sort_of_form}
use Rattle.dc_sorts.specs.References.{number_given}
use Rattle.dc_sorts.proofs.called.chosen_from.Given as goal

abbrev pub invariant-loop-arg : goal.invariant-loop-arg
invariant-loop-arg l =
    value_of (chosen_from l.op (sort_of_form l.form) l.chosen (map number_given (drop l.arg-index l.rest)))
    ≡ value_of (chosen_from l.op (sort_of_form l.form) l.fn.first (map number_given l.rest))
