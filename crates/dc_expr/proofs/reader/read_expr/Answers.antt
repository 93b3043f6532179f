use Rattle.dc_expr.proofs.Answering.{read-tells, reads-is_read}
use Rattle.dc_expr.proofs.reader.read_expr.Goals as goal

pub returns-clause-reads : goal.returns-clause-reads
returns-clause-reads c = read-tells c.args.tokens.now _ _ c.finish.result c.new-stack.ensures c.in_ok-progress.ensures c.finish.ensures

pub returns-clause-answers : goal.returns-clause-answers
returns-clause-answers c = reads-is_read c.args.tokens.now c.finish.result (returns-clause-reads c)
