use Rattle.std.proofs.Common.{◌∙◌, ap, sym, rules}
use Rattle.std.specs.Int.{w64}
use Rattle.std.proofs.lemmas.Int.{to_z-of_z}
use Rattle.dc_int.specs.Sorts.{fitted}
use Rattle.dc_entities.specs.Found.{entity_of}
use Rattle.dc_sorts.specs.Forms.{sort_of_form}
use Rattle.dc_meaning.specs.Storing.{assigned_whole, filled}
use Rattle.dc_meaning.proofs.Walking.{stays-as}
use Rattle.dc_meaning.proofs.Storing.{whole-assigned}
use Rattle.dc_meaning.proofs.assign.assign_whole.Goals as goal

pub returns-in-Variable : goal.returns-in-Variable
returns-in-Variable c = λ own.
    let value = to_z-of_z w64 c.fitted.result (search rules) ∙ c.fitted.ensures ∙ ap (fitted (sort_of_form c.in-Variable.form)) (to_z-of_z w64 c.args.given (search rules)) in
    stays-as
    (λ call.
    ap (λ f. assigned_whole c.args.line (entity_of f) c.args.given) c.in-Variable.is
    ∙ whole-assigned c.args.line c.in-Variable.number (sort_of_form c.in-Variable.form) c.in-Variable.bounds.now c.args.given
    ∙ ap (λ n. filled c.args.line c.in-Variable.number (fitted (sort_of_form c.in-Variable.form) c.args.given) n 0) (sym c.elements.ensures)
    ∙ ap (λ z. filled c.args.line c.in-Variable.number z c.elements.result 0) (sym value))
    (c.fill.ensures own)
