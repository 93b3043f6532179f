-- The values that come are chosen from behind what was chosen.
use Rattle.std.proofs.Common.{◌≡◌, drop}
use Rattle.dc_tree.specs.Operating.{chosen_from}
use Rattle.dc_sorts.specs.Forms.{sort_of_form}
use Rattle.dc_sorts.proofs.operating.chosen_from.Given as goal

abbrev pub invariant-loop-value : goal.invariant-loop-value
invariant-loop-value l =
    chosen_from l.op (sort_of_form l.form) l.chosen (drop l.value-index l.rest) ≡ chosen_from l.op (sort_of_form l.form) l.fn.first l.rest
