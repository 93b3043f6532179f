use Rattle.std.proofs.Common.{ap, ◌∙◌, rules}
use Rattle.std.specs.Int.{w64, w128}
use Rattle.std.specs.Prelude.{int_div}
use Rattle.std.proofs.lemmas.Int.{quot_is, to_z-of_z}
use Rattle.dc_walk.proofs.Quotients.{quot-fits}
use Rattle.dc_walk.proofs.counting.quotient.Goals as goal

pub returns : goal.returns
returns c =
    quot_is w128 c.args.way c.from.result (search rules) (search rules) (quot-fits c.args.way c.from.result c.requires.short)
    ∙ ap (int_div c.args.way) (c.from.ensures ∙ to_z-of_z w64 c.args.step (search rules))
