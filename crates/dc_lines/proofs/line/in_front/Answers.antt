use Rattle.std.proofs.Common.{sym, ◌∙◌}
use Rattle.std.proofs.lemmas.Bool.{ne_eqb}
use Rattle.dc_lines.proofs.Ends.{last-ampersand, last-blank, last-other}
use Rattle.dc_lines.proofs.line.in_front.Goals as goal

pub returns-then-last-eq38 : goal.returns-then-last-eq38
returns-then-last-eq38 c = last-ampersand c.loop-rest.rest.now c.in-len1-up.len_at_least c.if-last-eq38.true ∙ c.loop-rest.invariant

pub returns-then-not-is_blank : goal.returns-then-not-is_blank
returns-then-not-is_blank c =
    last-other c.loop-rest.rest.now c.in-len1-up.len_at_least (ne_eqb _ 38 c.if-last-eq38.false) (sym c.is_blank.ensures ∙ c.if-not-is_blank.true)
    ∙ c.loop-rest.invariant

pub loop-rest-preserved : goal.loop-rest-preserved
loop-rest-preserved c =
    last-blank c.loop-rest.rest.now c.in-len1-up.len_at_least (sym c.is_blank.ensures ∙ c.if-not-is_blank.false) ∙ c.loop-rest.invariant
