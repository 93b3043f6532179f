use Rattle.dc_lexer.proofs.Either.{either}
use Rattle.dc_lexer.proofs.law.a_text_has_tokens_or_breaks_a_rule.Goals as goal

pub returns : goal.returns
returns c = λ text. either text
