use Rattle.std.proofs.Common.{ℕ, List, ap, ◌∙◌}
use Rattle.dc_declare.specs.Names.{place_of}
use Rattle.dc_declare.proofs.Tabled.{unnamed}
use Rattle.dc_declare.proofs.names.Names.push.Goals as goal

pub push-requires-clause-free : goal.push-requires-clause-free
push-requires-clause-free c =
    unnamed c.self.inside.table c.args.name c.self.invariant
    (ap (λ (names : List (List ℕ)). place_of names c.args.name) c.self.view_is ∙ c.requires)
