use Rattle.std.proofs.Common.{◌∙◌, ap, sym, rules}
use Rattle.std.specs.Int.{w64}
use Rattle.std.proofs.lemmas.Int.{to_z-of_z}
use Rattle.dc_entities.specs.Found.{entity_of}
use Rattle.dc_sorts.specs.Forms.{sort_of_form}
use Rattle.dc_tree.specs.Entities.{outside}
use Rattle.dc_meaning.specs.Storing.{assigned_at}
use Rattle.dc_meaning.proofs.Walking.{stays-as}
use Rattle.dc_meaning.proofs.assign.assign_element.Goals as goal

pub returns-in-Variable : goal.returns-in-Variable
returns-in-Variable c = λ own.
    let told = to_z-of_z w64 c.args.given (search rules) in
    stays-as
    (λ call.
    ap (λ f. assigned_at c.args.line (entity_of f) c.args.subscripts.now c.args.given) c.in-Variable.is
    ∙ ap (assigned_at c.args.line (outside c.in-Variable.number (sort_of_form c.in-Variable.form) c.in-Variable.bounds.now) c.args.subscripts.now) (sym told))
    (c.assign_outside.ensures own)
