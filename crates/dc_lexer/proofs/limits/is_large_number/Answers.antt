use Rattle.std.proofs.Common.{ℕ, ◌+◌, ◌*◌, drop, sym, ap, ◌∙◌}
use Rattle.std.proofs.lemmas.List.{at_drop_more}
use Rattle.dc_tree.specs.Literals.{number_from}
use Rattle.dc_lexer.proofs.Steps.{is_above}
use Rattle.dc_lexer.proofs.limits.is_large_number.Goals as goal

pub returns-then-number-gt-GREATEST : goal.returns-then-number-gt-GREATEST
returns-then-number-gt-GREATEST c =
    let n = c.loop-digit.number in
    let digits = c.args.digits.now in
    let behind = drop (c.loop-digit.digit-index + 1) digits in
    is_above 9223372036854775807 (n * 10 + c.from.result) behind digits c.if-number-gt-GREATEST.true (
    ap (λ (digit : ℕ). number_from (n * 10 + digit) behind) (c.from.ensures ∙ c.saturating_sub.ensures)
    ∙ sym (at_drop_more (number_from n) digits c.loop-digit.digit-index 0 c.loop-digit-test.true)
    ∙ c.loop-digit.invariant.0
    )
