-- The rest decides.
use Rattle.std.proofs.Common.{◌≡◌, drop}
use Rattle.dc_types.specs.Loops.{is_local}
use Rattle.dc_types.proofs.naming.is_local.Given as goal

abbrev pub invariant-loop-local : goal.invariant-loop-local
invariant-loop-local l = is_local (drop l.local-index l.locality) l.text ≡ is_local l.locality l.text
