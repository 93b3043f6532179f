use Rattle.std.proofs.Common.{◌∙◌, arith}
use Rattle.std.proofs.lemmas.Option.{IfSome_then}
use Rattle.dc_lexer.proofs.Steps.{behind, length-behind, closes-behind, closes-behind_two}
use Rattle.dc_lexer.proofs.literals.closes.Goals as goal

pub loop-rest-preserved-then-byte-quote : goal.loop-rest-preserved-then-byte-quote
loop-rest-preserved-then-byte-quote c =
    let shorter = length-behind c.loop-rest.rest.now c.in-len1-up.len_at_least in (
      closes-behind c.loop-rest.closed c.loop-rest.passed c.args.quote c.loop-rest.rest.now c.in-len1-up.len_at_least c.if-byte-quote.true ∙ c.loop-rest.invariant.0,
      omega (arith, shorter, c.loop-rest.invariant.1),
      IfSome_then c.loop-rest.closed c.loop-rest.invariant.2 (λ n within. (within.0, omega (arith, within.1))),
    )

pub loop-rest-preserved : goal.loop-rest-preserved
loop-rest-preserved c =
    let shorter = length-behind c.loop-rest.rest.now c.in-len1-up.len_at_least in
    let shorter_still = length-behind (behind c.loop-rest.rest.now) c.in-len1-up-behind.len_at_least in (
      closes-behind_two c.loop-rest.closed c.loop-rest.passed c.args.quote c.loop-rest.rest.now c.in-len1-up.len_at_least c.if-byte-quote.false c.in-len1-up-behind.len_at_least c.if-next-quote.true ∙ c.loop-rest.invariant.0,
      omega (arith, shorter, shorter_still, c.loop-rest.invariant.1),
      (omega arith, omega arith),
    )
