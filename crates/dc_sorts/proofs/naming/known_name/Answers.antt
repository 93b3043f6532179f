-- By what the name means.
use Rattle.std.proofs.Common.{sym, ap, ◌∙◌}
use Rattle.dc_sorts.specs.Naming.{name_known}
use Rattle.dc_sorts.specs.Standing.{standing_of}
use Rattle.dc_sorts.proofs.Entities.{name-known}
use Rattle.dc_sorts.proofs.naming.known_name.Goals as goal

pub returns : goal.returns
returns c =
    c.name_known.ensures ∙ ap name_known c.meaning.ensures.meaning
    ∙ sym (name-known (standing_of c.args.standing.now) c.args.text.now c.meaning.ensures.sound)
