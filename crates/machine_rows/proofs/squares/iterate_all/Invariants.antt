use Rattle.machine_rows.specs.Ready.{IsReady}
use Rattle.machine_rows.proofs.squares.iterate_all.Given as goal

abbrev pub invariant-loop-index : goal.invariant-loop-index
invariant-loop-index l = IsReady l.code l.cells
