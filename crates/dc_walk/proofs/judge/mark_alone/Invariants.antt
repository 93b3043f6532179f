use Rattle.std.proofs.Common.{◌≡◌, drop}
use Rattle.dc_walk.specs.Judging.{bad_of, runs_of}
use Rattle.dc_plain.specs.Marks.{marked_runs}
use Rattle.dc_plain.specs.MarkViews.{marks_of}
use Rattle.dc_walk.proofs.judge.mark_alone.Given as goal

abbrev pub ghost-mark_one : goal.ghost-mark_one
ghost-mark_one g a = g.parts

abbrev pub invariant-loop-value : goal.invariant-loop-value
invariant-loop-value g l =
    (l.iteration ≡ l.value-index)
    × (marked_runs l.iteration (runs_of g.parts l.opening.store (drop l.value-index l.active)) (marks_of l.rows.items) ≡ marked_runs 0 (runs_of g.parts l.opening.store l.active) (marks_of l.fn.rows.items))
    × (bad_of g.parts l.opening.store (drop l.value-index l.active) ≡ bad_of g.parts l.opening.store l.active)
    × (l.ledger.store ≡ l.opening.store)
