use Rattle.std.proofs.Common.{◌≤◌, arith}
use Rattle.std.proofs.lemmas.Bool.Decides.{nat_tests}
use Rattle.std.specs.Prelude.{pos}
use Rattle.dc_int.specs.Store.{elements_in}
use Rattle.dc_frame.proofs.Positions.{extent-less}
use Rattle.dc_frame.proofs.subscripts.elements.Goals as goal

pub extent-size-requires-clause-few : goal.extent-size-requires-clause-few
extent-size-requires-clause-few c =
    let few : elements_in c.args.bounds.now ≤ 4194304 = grind (arith, nat_tests, c.requires) in
    let less = extent-less c.args.bounds.now c.loop-dimension.dimension-index (pos 0, pos 0) c.if-not-has_elements.ensures (omega arith) in
    omega (arith, less, few)
