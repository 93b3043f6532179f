use Rattle.std.proofs.Common.{◌≡◌, take, reverse}
use Rattle.std.specs.List.{list_any}
use Rattle.dc_nest.specs.Rules.{is_concurrent}
use Rattle.dc_nest.proofs.breaking.is_in_concurrent.Given as goal

abbrev pub invariant-loop-construct : goal.invariant-loop-construct
invariant-loop-construct l = l.inside ≡ list_any is_concurrent (reverse (take l.construct-index l.construct-items))
