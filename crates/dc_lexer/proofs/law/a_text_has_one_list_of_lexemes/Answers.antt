use Rattle.dc_lexer.proofs.Determined.{one_list}
use Rattle.dc_lexer.proofs.law.a_text_has_one_list_of_lexemes.Goals as goal

pub returns : goal.returns
returns c = λ text first second a b. one_list text first second a b
