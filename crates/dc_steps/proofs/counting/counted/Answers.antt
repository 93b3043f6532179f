use Rattle.std.proofs.Common.{FitsSigned, w64, rules}
use Rattle.std.proofs.lemmas.Int.{to_z-of_z}
use Rattle.dc_steps.specs.Spans.{span_of}
use Rattle.dc_steps.proofs.Counts.{counted_so, counted_halts}
use Rattle.dc_steps.proofs.counting.counted.Goals as goal

pub returns-in-Ok : goal.returns-in-Ok
returns-in-Ok c = λ line.
    let fits : FitsSigned w64 c.in-Ok.rounds = search rules in
    counted_so line c.args.frame.now c.limits_off.new.frame (span_of c.in_ok-limits.limits) (c.in_ok-limits.ensures line)
    c.in-Ok.rounds _ c.value_pushed.result c.value_pushed.new.frame (c.in-Ok.ensures line) (to_z-of_z w64 c.in-Ok.rounds fits) (c.value_pushed.ensures line)

pub returns-in-Err : goal.returns-in-Err
returns-in-Err c = λ line.
    counted_halts line c.args.frame.now c.limits_off.new.frame (span_of c.in_ok-limits.limits) (c.in_ok-limits.ensures line)
    c.in-Err.halt c.limits_off.new.frame (c.in-Err.ensures line)
