use Rattle.std.proofs.Common.{Some, None, ap, ◌∙◌}
use Rattle.std.specs.Prelude.{nat_le}
use Rattle.dc_expr.proofs.Waiting.{waits-found}
use Rattle.dc_expr.proofs.stack.waits.Goals as goal

pub returns-in-Some : goal.returns-in-Some
returns-in-Some c = ap (nat_le c.args.least) c.level.ensures ∙ waits-found c.args.least c.args.stack.now c.waiting.result (Some c.in-Some.mark) c.waiting.ensures c.in-Some.is

pub returns-in-None : goal.returns-in-None
returns-in-None c = waits-found c.args.least c.args.stack.now c.waiting.result None c.waiting.ensures c.in-None.is
