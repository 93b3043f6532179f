use Rattle.std.specs.Prelude.{reverse}
use Rattle.dc_steps.proofs.Passes.{ItemsLeft}
use Rattle.dc_steps.proofs.arguments.items_off.Given as goal

abbrev pub invariant-loop-left : goal.invariant-loop-left
invariant-loop-left l = ItemsLeft l.count l.initial.frame l.left l.frame (reverse l.items)

abbrev pub decreases-loop-left : goal.decreases-loop-left
decreases-loop-left l = l.left
