-- No argument is left.
use Rattle.std.proofs.Common.{◌≤◌, length, sym, ◌∙◌, arith}
use Rattle.dc_operands.proofs.Dummies.{fixed-end}
use Rattle.dc_operands.proofs.fitting.some_breaks_fixed.Goals as goal

pub returns : goal.returns
returns c =
    let past : length c.args.arguments.now ≤ c.loop-place.place = omega arith in
    sym (fixed-end c.args.dummies.now c.args.arguments.now c.loop-place.place past) ∙ c.loop-place.invariant.1
