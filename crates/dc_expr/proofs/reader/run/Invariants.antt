use Rattle.std.proofs.Common.{◌≡◌, drop}
use Rattle.dc_tree.specs.Reader.{start, run}
use Rattle.dc_expr.specs.Limited.{limited}
use Rattle.dc_expr.specs.Views.{frames_of, state_of}
use Rattle.dc_expr.proofs.reader.run.Given as goal

abbrev pub invariant-loop-token : goal.invariant-loop-token
invariant-loop-token l = run limited (drop l.token-index l.tokens) (state_of l.progress l.stack) ≡ run limited l.tokens (start (frames_of l.fn.stack))
