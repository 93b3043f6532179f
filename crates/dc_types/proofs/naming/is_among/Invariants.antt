-- The rest decides.
use Rattle.std.proofs.Common.{◌≡◌, drop}
use Rattle.dc_types.specs.Loops.{is_among}
use Rattle.dc_types.proofs.naming.is_among.Given as goal

abbrev pub invariant-loop-name : goal.invariant-loop-name
invariant-loop-name l = is_among (drop l.name-index l.names) l.text ≡ is_among l.names l.text
