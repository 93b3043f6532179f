use Rattle.std.proofs.Common.{◌≤ℤ◌, ◌<ℤ◌, arith, sym, ◌∙◌}
use Rattle.std.proofs.lemmas.Int.{ints}
use Rattle.dc_scope.proofs.Ranges.{met_first, met_none, met_nowhere}
use Rattle.dc_scope.proofs.covered.first_meeting.Goals as goal

pub returns-in_err-first : goal.returns-in_err-first
returns-in_err-first c =
    c.from_residual.ensures ∙ sym (met_nowhere c.args.range c.args.lows.now.entries (sym c.first_from.ensures ∙ c.in_err-first.was))

pub returns-then-first-range : goal.returns-then-first-range
returns-then-first-range c =
    let less : c.in_ok-first.first.1 ≤ℤ c.args.range.0 = grind (arith, ints, c.if-first-range.true) in
    sym (met_first c.args.range c.in_ok-first.first c.args.lows.now.entries (sym c.first_from.ensures ∙ c.in_ok-first.was) less)

pub returns-else-first-range : goal.returns-else-first-range
returns-else-first-range c =
    let less : c.args.range.0 <ℤ c.in_ok-first.first.1 = grind (arith, ints, c.if-first-range.false) in
    sym (met_none c.args.range c.in_ok-first.first c.args.lows.now.entries c.requires (sym c.first_from.ensures ∙ c.in_ok-first.was) less)
