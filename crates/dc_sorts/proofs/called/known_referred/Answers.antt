-- By the form of what the name means.
use Rattle.std.proofs.Common.{Option, ap, ◌∙◌}
use Rattle.dc_sorts.specs.declared.form.Form.{Form}
use Rattle.dc_sorts.specs.declared.meaning.Meaning.{Meaning}
use Rattle.dc_sorts.specs.References.{form_declared, referred}
use Rattle.dc_sorts.specs.Standing.{standing_of}
use Rattle.dc_sorts.proofs.References.{referred-by}
use Rattle.dc_sorts.proofs.called.known_referred.Goals as goal

pub returns : goal.returns
returns c =
    c.referred.ensures
    ∙ ap (λ (declared : Option Form). referred declared c.args.text.now c.args.args.now) (c.form_declared.ensures ∙ ap (λ (m : Meaning). form_declared m) c.meaning.ensures.meaning)
    ∙ referred-by (standing_of c.args.standing.now) c.args.text.now c.args.args.now c.meaning.ensures.sound
