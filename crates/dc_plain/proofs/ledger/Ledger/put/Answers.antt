use Rattle.std.proofs.Common.{map, sym, ap, subst, ◌∙◌}
use Rattle.dc_plain.specs.Sizes.{sizes_of, FitSizes}
use Rattle.dc_plain.specs.Views.{variable_of}
use Rattle.dc_plain.proofs.Sizes.{sizes-put}
use Rattle.dc_plain.proofs.ledger.Ledger.put.Goals as goal

pub invariant_of-self : goal.invariant_of-self
invariant_of-self c =
    subst FitSizes (sym (ap sizes_of c.put.ensures ∙ sizes-put (map variable_of c.self.inside.variables.items) c.args.element _)) c.self.invariant
