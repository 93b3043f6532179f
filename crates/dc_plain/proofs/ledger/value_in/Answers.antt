use Rattle.std.proofs.Common.{refl, ◌∙◌}
use Rattle.std.proofs.lemmas.Option.{slice_get_read, slice_get_past}
use Rattle.dc_plain.proofs.Variables.{value-found, value-missing}
use Rattle.dc_plain.proofs.ledger.value_in.Goals as goal

pub returns-in-Some : goal.returns-in-Some
returns-in-Some c =
    let h = c.in-Some.ensures.lookup in
    let found = slice_get_read c.args.variables.now _ c.args.element.variable c.in-Some.variable.now refl h.3.0 h.1 in
    c.cell_in.ensures ∙ value-found c.args.variables.now c.args.element c.in-Some.variable.now found

pub returns-in-None : goal.returns-in-None
returns-in-None c =
    let h = c.in-None.ensures.lookup in
    value-missing c.args.variables.now c.args.element (slice_get_past c.args.variables.now c.args.element.variable h.3)
