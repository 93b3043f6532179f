use Rattle.std.proofs.Common.{map}
use Rattle.dc_plain.specs.MarkViews.{marks_of}
use Rattle.dc_plain.specs.Views.{variable_of}
use Rattle.dc_plain.proofs.Sizes.{sizes-forgotten}
use Rattle.dc_plain.proofs.ledger.Ledger.forget_touched_twice.Goals as goal

pub invariant_of-self : goal.invariant_of-self
invariant_of-self c =
    let kept = sizes-forgotten 0 (marks_of c.args.rows.now) (map variable_of c.self.inside.variables.items) in
    rw (c.forget_touched_twice.ensures, kept) c.self.invariant
