use Rattle.std.proofs.Common.{ap, ap₂, ◌∙◌, rules}
use Rattle.std.specs.Int.{w64}
use Rattle.std.proofs.lemmas.Int.{to_z-of_z}
use Rattle.dc_meaning.specs.WalkScope.{own_of}
use Rattle.dc_sorts.specs.Forms.{sort_of_form}
use Rattle.dc_tree.specs.Operating.{joined_by}
use Rattle.dc_meaning.proofs.Inquiring.{settled-as}
use Rattle.dc_meaning.proofs.reference.joined.Goals as goal

pub returns : goal.returns
returns c = λ view.
    let a = to_z-of_z w64 c.args.a (search rules) in
    let b = to_z-of_z w64 c.args.b (search rules) in
    settled-as c.args.line _ _ (c.join_values.ensures ∙ ap₂ (joined_by c.args.mark (sort_of_form c.in_ok-form.form)) a b ∙ ap (λ sort. joined_by c.args.mark sort c.args.a c.args.b) c.in_ok-form.ensures)
    (c.settled.ensures (own_of c.args.walk.now) view)
