use Rattle.std.proofs.Common.{◌≡◌, ◌+◌, drop}
use Rattle.dc_code.specs.Codes.{place_among}
use Rattle.dc_frame.proofs.starts.place_among.Given as goal

abbrev pub invariant-loop-before : goal.invariant-loop-before
invariant-loop-before l = l.before + place_among (drop l.before l.starts) l.place ≡ place_among l.starts l.place
