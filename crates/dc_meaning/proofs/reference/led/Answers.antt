use Rattle.std.proofs.Common.{ap, ◌∙◌, rules}
use Rattle.std.specs.Int.{w64}
use Rattle.std.proofs.lemmas.Int.{to_z-of_z}
use Rattle.dc_tree.specs.Syntax.{tree}
use Rattle.dc_meaning.specs.WalkScope.{scope_of, own_of}
use Rattle.dc_sorts.specs.Forms.{sort_of_form}
use Rattle.dc_tree.specs.Operating.{led_by}
use Rattle.dc_meaning.proofs.Inquiring.{settled-as, known-sort}
use Rattle.dc_meaning.proofs.reference.led.Goals as goal

pub returns : goal.returns
returns c = λ view.
    let a = to_z-of_z w64 c.args.a (search rules) in
    settled-as c.args.line _ _
    (c.lead_value.ensures ∙ ap (led_by c.args.mark (sort_of_form c.in_ok-known.known.form)) a
    ∙ ap (λ sort. led_by c.args.mark sort c.args.a) (known-sort (scope_of c.args.walk.now) (tree c.args.right.now) c.in_ok-known.known c.in_ok-known.ensures))
    (c.settled.ensures (own_of c.args.walk.now) view)
