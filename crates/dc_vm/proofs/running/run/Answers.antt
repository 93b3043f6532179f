use Rattle.std.proofs.Common.{◌≡◌, ◌≤◌, Some, None, slice_get, ap, ◌∙◌, arith}
use Rattle.dc_code.specs.Machine.{bound}
use Rattle.dc_code.specs.OverCells.{over_cells}
use Rattle.dc_steps.proofs.Onward.{lower, goes_on, ends, past_the_end}
use Rattle.dc_vm.proofs.Pauses.{pauses_lower}
use Rattle.dc_vm.proofs.running.run.Goals as goal

pub loop-instr-smaller : goal.loop-instr-smaller
loop-instr-smaller g c =
    let found : slice_get c.args.code.now.instructions c.loop-instr.at ≡ Some c.in-Some.instr = cc (c.in-Some.ensures, c.instructions-instructions.ensures) in
    lower c.args.code.now g.M.Cells.shown g.M.Cells.after c.loop-instr.at c.loop-instr.frame c.loop-instr.left c.in-Some.instr (g.M.Cells.holds c.loop-instr.cells) c.in-On.to c.step.new.frame c.in-On.turns (g.M.Cells.holds c.step.new.cells) found c.in-On.ensures.carries

pub loop-instr-preserved : goal.loop-instr-preserved
loop-instr-preserved g c =
    let found : slice_get c.args.code.now.instructions c.loop-instr.at ≡ Some c.in-Some.instr = cc (c.in-Some.ensures, c.instructions-instructions.ensures) in
    let less = lower c.args.code.now g.M.Cells.shown g.M.Cells.after c.loop-instr.at c.loop-instr.frame c.loop-instr.left c.in-Some.instr (g.M.Cells.holds c.loop-instr.cells) c.in-On.to c.step.new.frame c.in-On.turns (g.M.Cells.holds c.step.new.cells) found c.in-On.ensures.carries in
    let within : bound c.args.code.now c.in-On.to c.step.new.frame c.in-On.turns ≤ bound c.args.code.now c.args.entry c.args.frame.now c.args.turns = omega (arith, less, c.loop-instr.invariant.1.1.1) in (
      c.loop-instr.invariant.0 ∙ goes_on c.args.code.now g.M.Cells.shown g.M.Cells.after c.loop-instr.at c.loop-instr.frame c.loop-instr.left c.in-Some.instr (g.M.Cells.holds c.loop-instr.cells) c.in-On.to c.step.new.frame c.in-On.turns (g.M.Cells.holds c.step.new.cells) found c.in-On.ensures.carries,
      (c.in-On.ensures.ready, (c.instructions-instructions.ensures, within)),
    )

pub returns-in-Over-clause-ends : goal.returns-in-Over-clause-ends
returns-in-Over-clause-ends g c =
    let found : slice_get c.args.code.now.instructions c.loop-instr.at ≡ Some c.in-Some.instr = cc (c.in-Some.ensures, c.instructions-instructions.ensures) in
    ends c.args.code.now g.M.Cells.shown g.M.Cells.after c.loop-instr.at c.loop-instr.frame c.loop-instr.left c.in-Some.instr (g.M.Cells.holds c.loop-instr.cells) c.in-Over.ended c.step.new.frame (g.M.Cells.holds c.step.new.cells) _ found c.in-Over.ensures.carries c.loop-instr.invariant.0

pub returns-in-Over-clause-lower : goal.returns-in-Over-clause-lower
returns-in-Over-clause-lower g c =
    let found : slice_get c.args.code.now.instructions c.loop-instr.at ≡ Some c.in-Some.instr = cc (c.in-Some.ensures, c.instructions-instructions.ensures) in
    pauses_lower c.args.code.now g.M.Cells.shown g.M.Cells.after _ c.loop-instr.at c.loop-instr.frame c.loop-instr.left c.in-Some.instr (g.M.Cells.holds c.loop-instr.cells) c.in-Over.ended c.step.new.frame (g.M.Cells.holds c.step.new.cells) found c.in-Over.ensures.carries c.loop-instr.invariant.1.1.1

pub returns-clause-ends : goal.returns-clause-ends
returns-clause-ends g c =
    let found : slice_get c.args.code.now.instructions c.loop-instr.at ≡ None = cc (c.in_default.ensures, c.instructions-instructions.ensures) in
    c.loop-instr.invariant.0 ∙ ap (over_cells g.M.Cells.shown g.M.Cells.after (g.M.Cells.holds c.loop-instr.cells)) (past_the_end c.args.code.now c.loop-instr.at c.loop-instr.frame c.loop-instr.left found)
