-- By what the name means.
use Rattle.std.proofs.Common.{sym, ap, ◌∙◌}
use Rattle.dc_sorts.specs.Meanings.{constant_of_meaning}
use Rattle.dc_sorts.specs.Standing.{standing_of}
use Rattle.dc_sorts.proofs.Entities.{meaning-agrees}
use Rattle.dc_sorts.proofs.naming.constant_named.Goals as goal

pub returns : goal.returns
returns c =
    c.constant_of_meaning.ensures ∙ ap constant_of_meaning c.meaning.ensures.meaning
    ∙ sym (meaning-agrees (standing_of c.args.standing.now) c.args.text.now c.meaning.ensures.sound).constant
