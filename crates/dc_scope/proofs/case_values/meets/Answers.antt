use Rattle.std.proofs.Common.{◌<ℤ◌, arith}
use Rattle.std.proofs.lemmas.Int.{ints}
use Rattle.dc_scope.proofs.Covering.{empty-meets_none}
use Rattle.dc_scope.proofs.case_values.meets.Goals as goal

pub returns-else-next : goal.returns-else-next
returns-else-next c before covers =
    let less : c.args.next.high <ℤ c.args.next.low = grind (arith, ints, c.if-next.false) in
    grind (arith, ints, less, empty-meets_none c.args.next before less)
