use Rattle.machine_rows.specs.Ready.{IsReady}
use Rattle.machine_rows.proofs.squares.written.Given as goal

abbrev pub invariant-loop-position : goal.invariant-loop-position
invariant-loop-position l = IsReady l.code l.cells
