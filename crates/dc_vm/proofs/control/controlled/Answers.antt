use Rattle.std.proofs.Common.{add-one, subst}
use Rattle.dc_code.specs.Computation.{sequence}
use Rattle.dc_code.specs.Instructions.{Going, ahead, spent, returned}
use Rattle.dc_vm.specs.Moving.{Moves}
use Rattle.dc_vm.proofs.Moved.{moves_carry}
use Rattle.dc_vm.proofs.control.controlled.Goals as goal

pub returns-in-Jump-clause-carries : goal.returns-in-Jump-clause-carries
returns-in-Jump-clause-carries g c =
    rw c.in-Jump.is
    (moves_carry c.args.code.now g.M.Cells.shown g.M.Cells.after c.ahead.result c.args.frame.now (g.M.Cells.holds c.args.cells.now)
    (λ go. ahead go c.args.instr.line c.in-Jump.t c.args.at c.args.frame.now c.args.turns) (c.ahead.ensures c.args.frame.now))

pub returns-in-Turn-clause-carries : goal.returns-in-Turn-clause-carries
returns-in-Turn-clause-carries g c =
    rw c.in-Turn.is
    (moves_carry c.args.code.now g.M.Cells.shown g.M.Cells.after c.spent_to.result c.args.frame.now (g.M.Cells.holds c.args.cells.now) _
    (subst (λ to. Moves c.spent_to.result c.args.frame.now (λ (go : Going). sequence (spent c.args.instr.line c.args.turns) (λ left. go to c.args.frame.now left))) (add-one c.args.at) (c.spent_to.ensures c.args.frame.now)))

pub returns-in-Back-clause-carries : goal.returns-in-Back-clause-carries
returns-in-Back-clause-carries g c =
    rw c.in-Back.is
    (moves_carry c.args.code.now g.M.Cells.shown g.M.Cells.after c.spent_to-in-Back.result c.args.frame.now (g.M.Cells.holds c.args.cells.now)
    (λ go. sequence (spent c.args.instr.line c.args.turns) (λ left. go c.in-Back.t c.args.frame.now left)) (c.spent_to-in-Back.ensures c.args.frame.now))

pub returns-in-Return-clause-carries : goal.returns-in-Return-clause-carries
returns-in-Return-clause-carries g c =
    rw c.in-Return.is
    (moves_carry c.args.code.now g.M.Cells.shown g.M.Cells.after c.returned.result c.returned.new.frame (g.M.Cells.holds c.args.cells.now)
    (λ go. returned go c.args.instr.line c.args.frame.now c.args.turns) c.returned.ensures)
