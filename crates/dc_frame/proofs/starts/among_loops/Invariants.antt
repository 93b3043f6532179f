use Rattle.std.proofs.Common.{◌≡◌, ◌+◌, drop, flat_map}
use Rattle.dc_code.specs.Codes.{place_among, starts_of_loop}
use Rattle.dc_frame.proofs.starts.among_loops.Given as goal

abbrev pub invariant-loop-construct : goal.invariant-loop-construct
invariant-loop-construct l =
    l.before + place_among (flat_map starts_of_loop (drop l.construct-index l.loops)) l.place ≡ l.number + place_among (flat_map starts_of_loop l.loops) l.place
