use Rattle.std.proofs.Common.{ap, ◌∙◌}
use Rattle.dc_lexer.specs.Bytes.{past_blanks}
use Rattle.dc_lexer.proofs.Answering.{found_longest, less_left, reached-more}
use Rattle.dc_lexer.proofs.statement.reading_of.Goals as goal

pub loop-rest-smaller : goal.loop-rest-smaller
loop-rest-smaller c =
    less_left c.loop-rest.rest.now c.past_blanks-rest-in-loop-rest.result.now c.in-Some.found.length c.in-Some.found.lexeme (found_longest c.loop-rest.rest.now _ c.in-Some.found c.in_ok-found.ensures c.in-Some.is)
    (c.past_blanks-rest-in-loop-rest.ensures ∙ ap past_blanks c.from.ensures)

pub loop-rest-preserved : goal.loop-rest-preserved
loop-rest-preserved c =
    reached-more c.args.text.now c.loop-rest.reading _ c.loop-rest.rest.now c.past_blanks-rest-in-loop-rest.result.now c.in-Some.found.length c.in-Some.found.lexeme c.loop-rest.invariant
    (found_longest c.loop-rest.rest.now _ c.in-Some.found c.in_ok-found.ensures c.in-Some.is)
    c.in_ok-add.ensures
    (c.past_blanks-rest-in-loop-rest.ensures ∙ ap past_blanks c.from.ensures)
