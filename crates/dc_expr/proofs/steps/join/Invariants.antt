use Rattle.std.proofs.Common.{◌≡◌, length}
use Rattle.dc_tree.specs.Reader.{join}
use Rattle.dc_expr.specs.Limited.{limited}
use Rattle.dc_expr.specs.Views.{kept, frames_of}
use Rattle.dc_expr.proofs.steps.join.Given as goal

abbrev pub invariant-loop-part : goal.invariant-loop-part
invariant-loop-part l = join limited l.least (frames_of l.stack) (kept l.value) ≡ join limited l.fn.least (frames_of l.fn.stack) (kept l.fn.value)

abbrev pub decreases-loop-part : goal.decreases-loop-part
decreases-loop-part l = length (frames_of l.stack)
