use Rattle.std.proofs.Common.{◌∙◌, ap, ap₂, sym, rules}
use Rattle.std.specs.Prelude.{FitsSigned, pos, bit_and, count_ones}
use Rattle.std.specs.Int.{w64, w128}
use Rattle.std.proofs.lemmas.Int.{to_z-of_z}
use Rattle.dc_int.specs.Operations.{pattern}
use Rattle.dc_int.proofs.Exact.{count-is}
use Rattle.dc_int.proofs.bits.count_of_ones.Goals as goal

pub returns : goal.returns
returns c =
    let fits : FitsSigned w128 c.from.result = search rules in
    to_z-of_z w128 c.from.result fits ∙ c.from.ensures
    ∙ ap (λ n. pos (count_ones n)) (ap₂ bit_and (c.pattern.ensures ∙ ap (pattern c.args.kind) (to_z-of_z w64 c.args.a c.ranges.a)) c.all_ones.ensures)
    ∙ sym (count-is c.args.kind c.args.a)
