use Rattle.std.proofs.Common.{Some, None, ◌∙◌}
use Rattle.dc_expr.proofs.Waiting.{need-found}
use Rattle.dc_expr.proofs.stack.need.Goals as goal

pub returns-in-Some : goal.returns-in-Some
returns-in-Some c = c.right_rank.ensures ∙ need-found c.args.stack.now c.waiting.result (Some c.in-Some.mark) c.waiting.ensures c.in-Some.is

pub returns-in-None : goal.returns-in-None
returns-in-None c = need-found c.args.stack.now c.waiting.result None c.waiting.ensures c.in-None.is
