-- A loop of the main program, under a rule. This project's own, on ISO/IEC 1539-1:2023, clause 11.1.7.4.
use Rattle.std.specs.Prelude.{ℕ, ◌-◌, List, [], length, slice_get, Option, Some, ℤ}
use Rattle.dc_int.specs.Store.{Store}
use Rattle.dc_code.specs.Computation.{Reached, done, bad, paused, over}
use Rattle.dc_code.specs.Inner.{Rule, judging, in_order}
use Rattle.dc_code.specs.Loops.{HeaderResult, header_of, Loop, Ordered, order, closed}
use Rattle.dc_code.specs.Orders.{turned}
use Rattle.dc_code.specs.Troubles.{Trouble}
use Rattle.dc_code.specs.Verdicts.{go_on, at_header, in_iteration, stays, judgement}
pub use Rattle.dc_code.specs.Verdicts.{Visited}

-- In an order and not judged: the first iteration that doesn't end well ends the run.
abbrev pub visited_in : Loop → Store → ℕ → List (List ℤ) → Ordered → Visited
visited_in loop store turns iterations ordered = by ordered.trouble (slice_get iterations (length ordered.runs - 1))
  where
    by : Option Trouble → Option (List ℤ) → Visited
    by (Some trouble) (Some at) = stays store (in_iteration trouble at)
    by trouble at = record { verdict = go_on; store = closed loop ordered; turns = turns }

-- In the order of a number, behind a header that ended so.
abbrev pub visited_turned : ℕ → Loop → Store → Reached ⊥ Trouble HeaderResult → Visited
visited_turned number loop store (bad trouble) = stays store (at_header trouble)
visited_turned number loop store (done given) =
    let iterations = turned number given.iterations in visited_in loop store given.turns iterations (order loop [] store iterations)
visited_turned number loop store (paused event rest) = absurd event

-- A loop of the main program, over the store with which it is reached and with the turns left there.
abbrev pub visited : Rule → Loop → ℕ → Store → Visited
visited judging loop turns store = judgement loop turns store
visited (in_order number) loop turns store = visited_turned number loop store (over store (header_of loop.form turns)).reached
