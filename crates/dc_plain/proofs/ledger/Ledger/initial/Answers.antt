use Rattle.dc_plain.proofs.Sizes.{fit-first}
use Rattle.dc_plain.proofs.ledger.Ledger.initial.Goals as goal

pub invariant_of-result : goal.invariant_of-result
invariant_of-result c = rw (c.in_ok-variables.ensures, c.as_slice.ensures.symbols) (fit-first c.args.symbols.now c.requires)
