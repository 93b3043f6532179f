use Rattle.std.proofs.Common.{ℕ, List, subst}
use Rattle.dc_lexer.specs.Progress.{Reads}
use Rattle.dc_lexer.proofs.Answering.{answered}
use Rattle.dc_lexer.proofs.statement.tokens.Goals as goal

pub returns : goal.returns
returns c =
    answered c.args.statement.now c.in_ok-reading.reading c.finish.result (subst (λ (text : List ℕ). Reads text c.in_ok-reading.reading) c.as_bytes.ensures c.in_ok-reading.ensures) c.finish.ensures
