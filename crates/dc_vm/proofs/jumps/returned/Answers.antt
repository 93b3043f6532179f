use Rattle.dc_vm.proofs.Moved.{returned_so, returned_halts}
use Rattle.dc_vm.proofs.jumps.returned.Goals as goal

pub returns-in-Ok : goal.returns-in-Ok
returns-in-Ok c = returned_so c.args.line c.args.turns c.args.frame.now c.unit_left.new.frame c.in-Ok.back (c.in-Ok.ensures c.args.line)

pub returns-in-Err : goal.returns-in-Err
returns-in-Err c = rw c.halted.ensures (returned_halts c.in-Err.halt c.args.line c.args.turns c.args.frame.now c.unit_left.new.frame (c.in-Err.ensures c.args.line))
