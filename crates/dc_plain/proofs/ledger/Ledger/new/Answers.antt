use Rattle.dc_plain.proofs.Sizes.{fit-with}
use Rattle.dc_plain.proofs.ledger.Ledger.new.Goals as goal

pub invariant_of-result : goal.invariant_of-result
invariant_of-result c = rw (c.in_ok-variables.ensures, c.as_slice.ensures.symbols) (fit-with c.args.symbols.now c.args.opening.now c.requires)
