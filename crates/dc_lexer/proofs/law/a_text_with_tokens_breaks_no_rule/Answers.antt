use Rattle.dc_lexer.proofs.Answering.{kept}
use Rattle.dc_lexer.proofs.law.a_text_with_tokens_breaks_no_rule.Goals as goal

pub returns : goal.returns
returns c = λ text tokens rule has broken. kept text tokens rule has broken
