use Rattle.std.proofs.Common.{◌∙◌, ap, rules}
use Rattle.std.specs.Int.{w64}
use Rattle.std.proofs.lemmas.Int.{to_z-of_z}
use Rattle.dc_int.specs.Entries.{Defines}
use Rattle.dc_plain.specs.Views.{noted}
use Rattle.dc_int.specs.Sorts.{fitted}
use Rattle.dc_sorts.specs.Forms.{sort_of_form}
use Rattle.dc_tree.specs.Entities.{outside}
use Rattle.dc_meaning.proofs.Storing.{element-bad, element-walks}
use Rattle.dc_meaning.proofs.Walking.{handed}
use Rattle.dc_meaning.proofs.assign.assign_outside.Goals as goal

pub returns-in_err-element : goal.returns-in_err-element
returns-in_err-element c = λ own.
    handed c.from_residual.result _ c.from_residual.ensures.1
    (element-bad c.args.line (outside c.args.variable (sort_of_form c.args.form) c.args.bounds.now) c.args.subscripts.now c.args.given (c.in_err-element.ensures own c.args.ledger.now (sort_of_form c.args.form)))

pub returns : goal.returns
returns c = λ own.
    let value = to_z-of_z w64 c.fitted.result (search rules) ∙ c.fitted.ensures ∙ ap (fitted (sort_of_form c.args.form)) (to_z-of_z w64 c.args.given (search rules)) in
    element-walks c.args.line (outside c.args.variable (sort_of_form c.args.form) c.args.bounds.now) c.args.subscripts.now c.args.given c.in_ok-element.element
    (c.in_ok-set.ensures.ok ∙ ap (λ z. noted (Defines c.in_ok-element.element z c.args.line) c.args.ledger.now) value) (c.in_ok-element.ensures own c.args.ledger.now (sort_of_form c.args.form))
