use Rattle.std.proofs.Common.{arith, sym, ap, rules}
use Rattle.std.specs.Int.{w64, cast_signed as to_z, cast_unsigned as of_z}
use Rattle.std.proofs.lemmas.Int.{to_z-of_z}
use Rattle.dc_meaning.specs.Storing.{filled}
use Rattle.dc_meaning.proofs.Walking.{stays-as}
use Rattle.dc_meaning.proofs.Storing.{filled-on, filled-none}
use Rattle.dc_meaning.proofs.assign.fill.Goals as goal

pub loop-position-init : goal.loop-position-init
loop-position-init c = λ own after r walks. stays-as (λ call. ap (λ n. filled c.args.line c.args.variable (to_z w64 (of_z w64 c.args.value)) n 0) (omega arith)) walks

pub loop-position-preserved : goal.loop-position-preserved
loop-position-preserved c = λ own after r walks.
    c.loop-position.invariant own after r
    (filled-on c.args.line c.args.variable _ c.args.size c.loop-position.position c.loop-position-test.true c.in_ok-set.ensures.ok walks)

pub returns : goal.returns
returns c = λ own.
    let told = to_z-of_z w64 c.args.value (search rules) in
    stays-as (λ call. ap (λ z. filled c.args.line c.args.variable z c.args.size 0) (sym told))
    (c.loop-position.invariant own _ _ (filled-none c.args.line c.args.variable _ _ c.loop-position.position (omega (arith, c.loop-position-test.false))))
