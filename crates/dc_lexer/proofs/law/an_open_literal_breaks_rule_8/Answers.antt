use Rattle.dc_lexer.proofs.Either.{open-breaks}
use Rattle.dc_lexer.proofs.law.an_open_literal_breaks_rule_8.Goals as goal

pub returns : goal.returns
returns c = λ text lexemes quote bytes front mark stays. open-breaks text lexemes quote bytes front mark stays
