use Rattle.dc_lexer.proofs.Answering.{ok-finds}
use Rattle.dc_lexer.proofs.lexemes.lexeme.Goals as goal

pub returns : goal.returns
returns c = ok-finds c.args.bytes.now c.scan.result c.scan.ensures
