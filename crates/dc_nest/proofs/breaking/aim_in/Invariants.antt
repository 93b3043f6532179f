use Rattle.std.proofs.Common.{◌≡◌, take, reverse}
use Rattle.dc_nest.specs.Rules.{aim}
use Rattle.dc_nest.proofs.breaking.aim_in.Given as goal

abbrev pub invariant-loop-construct : goal.invariant-loop-construct
invariant-loop-construct l = l.aim ≡ aim l.label (reverse (take l.construct-index l.construct-items))
