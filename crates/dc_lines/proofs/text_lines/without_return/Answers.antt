use Rattle.std.proofs.lemmas.Bool.{ne_eqb}
use Rattle.dc_lines.proofs.Ends.{last-return, last-no_return}
use Rattle.dc_lines.proofs.text_lines.without_return.Goals as goal

pub returns-then-last-eq13 : goal.returns-then-last-eq13
returns-then-last-eq13 c = last-return c.args.line.now c.in-len1-up.len_at_least c.if-last-eq13.true

pub returns-else-last-eq13 : goal.returns-else-last-eq13
returns-else-last-eq13 c = last-no_return c.args.line.now c.in-len1-up.len_at_least (ne_eqb _ 13 c.if-last-eq13.false)
