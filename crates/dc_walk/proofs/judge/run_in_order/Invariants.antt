use Rattle.std.proofs.Common.{◌≡◌, [], drop, map}
use Rattle.dc_code.specs.Loops.{order}
use Rattle.dc_walk.specs.Judging.{combination}
use Rattle.dc_plain.specs.Marks.{marked_runs}
use Rattle.dc_plain.specs.MarkViews.{marks_of}
use Rattle.dc_walk.proofs.judge.run_in_order.Given as goal

abbrev pub ghost-iterate : goal.ghost-iterate
ghost-iterate g a = g.parts

abbrev pub invariant-loop-value : goal.invariant-loop-value
invariant-loop-value g l =
    (l.iteration ≡ l.value-index)
    × (marked_runs l.iteration (order g.parts [] l.ledger.store (map combination (drop l.value-index l.active))).runs (marks_of l.rows.items) ≡ marked_runs 0 (order g.parts [] l.fn.ledger.store (map combination l.active)).runs (marks_of l.fn.rows.items))
    × ((order g.parts [] l.ledger.store (map combination (drop l.value-index l.active))).store ≡ (order g.parts [] l.fn.ledger.store (map combination l.active)).store)
