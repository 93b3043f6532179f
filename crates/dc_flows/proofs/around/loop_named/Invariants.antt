-- The loop is among those that are left.
use Rattle.std.proofs.Common.{◌≡◌, drop, map, option_map}
use Rattle.dc_flows.specs.Arounds.{around_of}
use Rattle.dc_flows.specs.Flows.{loop_named}
use Rattle.dc_flows.proofs.around.loop_named.Given as goal

abbrev pub invariant-loop-found : goal.invariant-loop-found
invariant-loop-found l =
    loop_named (map around_of (drop l.found-index l.around)) (option_map (λ name. name.now) l.given)
    ≡ loop_named (map around_of l.around) (option_map (λ name. name.now) l.given)
