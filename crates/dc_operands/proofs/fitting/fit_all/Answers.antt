-- No argument is left, or no dummy.
use Rattle.std.proofs.Common.{◌<◌, ◌≤◌, length, sym, ◌∙◌, arith}
use Rattle.std.proofs.lemmas.Bool.{ltb-false}
use Rattle.dc_operands.proofs.Dummies.{fit-end, fit-short}
use Rattle.dc_operands.proofs.fitting.fit_all.Goals as goal

pub returns : goal.returns
returns c =
    let past : length c.args.arguments.now ≤ c.loop-place.place = omega arith in
    let within : c.loop-place.place ≤ length c.args.arguments.now = omega arith in
    fit-end c.args.dummies.now c.args.arguments.now c.loop-place.place past within c.loop-place.invariant.0 ∙ c.loop-place.invariant.1

pub returns-in-None : goal.returns-in-None
returns-in-None c =
    let past : length c.args.dummies.now ≤ c.loop-place.place = ltb-false _ _ (sym c.in-None.ensures.lookup.0) in
    let within : c.loop-place.place < length c.args.arguments.now = omega arith in
    sym (fit-short c.args.dummies.now c.args.arguments.now c.loop-place.place past within) ∙ c.loop-place.invariant.1
