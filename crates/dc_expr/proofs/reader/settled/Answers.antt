use Rattle.dc_expr.proofs.Answering.{open-nothing}
use Rattle.dc_expr.proofs.reader.settled.Goals as goal

pub returns-else-is_empty : goal.returns-else-is_empty
returns-else-is_empty c = open-nothing _ _ _ c.is_empty.result c.in_ok-value.ensures c.is_empty.ensures c.if-is_empty.false
