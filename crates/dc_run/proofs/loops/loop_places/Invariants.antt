use Rattle.std.proofs.Common.{◌≡◌, ◌++◌, drop, map}
use Rattle.dc_tree.specs.Blocks.{item}
use Rattle.dc_run.specs.LoopPlaces.{loop_places}
use Rattle.dc_run.proofs.loops.loop_places.Given as goal

abbrev pub invariant-loop-place : goal.invariant-loop-place
invariant-loop-place l = l.places ++ loop_places l.place (map item (drop l.place l.nodes)) ≡ loop_places 0 (map item l.nodes)
