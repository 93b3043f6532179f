use Rattle.dc_code.proofs.Passages.{plain-framed, plain-differs}
use Rattle.dc_code.proofs.loop_law.plain_blocks_are_framed.Goals as goal

pub returns-clause-framed : goal.returns-clause-framed
returns-clause-framed c = λ enter form plain. plain-framed enter form plain

pub returns-clause-differs : goal.returns-clause-differs
returns-clause-differs c = λ enter form plain. plain-differs enter form plain
