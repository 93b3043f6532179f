use Rattle.std.proofs.Common.{◌≡◌, ℕ, List}
use Rattle.dc_code.specs.Machine.{bound}
use Rattle.dc_run.specs.Resuming.{IsUsual, told_from}
use Rattle.dc_run.specs.Running.{looping_in}
use Rattle.dc_run.proofs.running.run_code.Given as goal

abbrev pub ghost-advance : goal.ghost-advance
ghost-advance g a = g.forms

abbrev pub invariant-loop-next : goal.invariant-loop-next
invariant-loop-next g l =
    record {
      usual : IsUsual l.task.symbols.now l.task.code.now l.standing;
      left : (given : List ℕ) → told_from given (looping_in g.forms) l.task.code.now l.at l.left l.standing ≡ told_from given (looping_in g.forms) l.task.code.now 0 l.fn.turns l.fn.standing;
    }

abbrev pub decreases-loop-next : goal.decreases-loop-next
decreases-loop-next g l = bound l.task.code.now l.at l.standing.frame l.left
