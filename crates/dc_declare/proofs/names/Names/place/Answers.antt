use Rattle.std.proofs.Common.{ℕ, List, ap, ◌∙◌}
use Rattle.dc_declare.specs.Names.{place_of}
use Rattle.dc_declare.proofs.Tabled.{named_place}
use Rattle.dc_declare.proofs.names.Names.place.Goals as goal

pub returns : goal.returns
returns c =
    c.place.ensures
    ∙ named_place c.self.inside.table c.args.name.now c.self.invariant
    ∙ ap (λ (names : List (List ℕ)). place_of names c.args.name.now) c.self.view_is
