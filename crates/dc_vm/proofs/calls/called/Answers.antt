use Rattle.std.proofs.Common.{◌≡◌, suc, ◌+◌, ◌-◌, sym, subst, arith}
use Rattle.dc_code.specs.declared.instr.What.{What}
use Rattle.dc_steps.specs.declared.ended.Next.{Next}
use Rattle.dc_steps.specs.Carrying.{Carries}
use Rattle.dc_vm.proofs.Called.{call_without_arguments, call_too_deep, call_spent, call_entered, call_not_entered}
use Rattle.dc_vm.proofs.calls.called.Goals as goal

pub returns-in-Err-clause-carries : goal.returns-in-Err-clause-carries
returns-in-Err-clause-carries g c =
    subst (λ (next : Next). Carries c.args.code.now g.M.Cells.shown g.M.Cells.after c.args.line (What.Call c.args.procedure c.args.count) c.args.at c.args.turns c.args.frame.now (g.M.Cells.holds c.args.cells.now) next c.arguments_off.new.frame (g.M.Cells.holds c.args.cells.now))
    (sym c.halted-in-Err.ensures)
    (call_without_arguments c.args.code.now g.M.Cells.shown g.M.Cells.after c.args.line c.args.procedure c.args.count c.args.at c.args.turns c.args.frame.now (g.M.Cells.holds c.args.cells.now)
    c.in-Some.entry (sym c.in-Some.ensures) c.in-Err.halt c.arguments_off.new.frame _ (c.in-Err.ensures c.args.line))

pub returns-in-Err-deepened-clause-carries : goal.returns-in-Err-deepened-clause-carries
returns-in-Err-deepened-clause-carries g c =
    subst (λ (next : Next). Carries c.args.code.now g.M.Cells.shown g.M.Cells.after c.args.line (What.Call c.args.procedure c.args.count) c.args.at c.args.turns c.args.frame.now (g.M.Cells.holds c.args.cells.now) next c.arguments_off.new.frame (g.M.Cells.holds c.args.cells.now))
    (sym c.halted-in-Err-deepened.ensures)
    (call_too_deep c.args.code.now g.M.Cells.shown g.M.Cells.after c.args.line c.args.procedure c.args.count c.args.at c.args.turns c.args.frame.now (g.M.Cells.holds c.args.cells.now)
    c.in-Some.entry (sym c.in-Some.ensures) c.in-Ok.passed c.arguments_off.new.frame (c.in-Ok.ensures c.args.line) c.in-Err-deepened.halt c.arguments_off.new.frame _ (c.in-Err-deepened.ensures.deepens c.args.line))

pub returns-then-turns-eq0-clause-carries : goal.returns-then-turns-eq0-clause-carries
returns-then-turns-eq0-clause-carries g c =
    call_spent c.args.code.now g.M.Cells.shown g.M.Cells.after c.args.line c.args.procedure c.args.count c.args.at c.args.turns c.args.frame.now (g.M.Cells.holds c.args.cells.now)
    c.in-Some.entry (sym c.in-Some.ensures) c.in-Ok.passed c.arguments_off.new.frame (c.in-Ok.ensures c.args.line) (c.in_default-deepened.ensures.deepens c.args.line) c.arguments_off.new.frame c.if-turns-eq0.true

pub returns-in-Ok-entered-clause-carries : goal.returns-in-Ok-entered-clause-carries
returns-in-Ok-entered-clause-carries g c =
    let some : c.args.turns ≡ suc (c.args.turns - 1) = omega (arith, c.if-turns-eq0.false) in
    let behind : c.args.at + 1 ≡ suc c.args.at = omega arith in
    call_entered c.args.code.now g.M.Cells.shown g.M.Cells.after c.args.line c.args.procedure c.args.count c.args.at c.args.turns c.args.frame.now (g.M.Cells.holds c.args.cells.now)
    c.in-Some.entry (sym c.in-Some.ensures) c.in-Ok.passed c.arguments_off.new.frame (c.in-Ok.ensures c.args.line) (c.in_default-deepened.ensures.deepens c.args.line)
    (c.args.turns - 1) some (c.args.at + 1) behind c.entered.new.frame (g.M.Cells.holds c.entered.new.cells) c.in-Ok-entered.ensures.enters

pub returns-in-Err-entered-clause-carries : goal.returns-in-Err-entered-clause-carries
returns-in-Err-entered-clause-carries g c =
    let some : c.args.turns ≡ suc (c.args.turns - 1) = omega (arith, c.if-turns-eq0.false) in
    let behind : c.args.at + 1 ≡ suc c.args.at = omega arith in
    subst (λ (next : Next). Carries c.args.code.now g.M.Cells.shown g.M.Cells.after c.args.line (What.Call c.args.procedure c.args.count) c.args.at c.args.turns c.args.frame.now (g.M.Cells.holds c.args.cells.now) next c.entered.new.frame (g.M.Cells.holds c.entered.new.cells))
    (sym c.halted-in-Err-entered.ensures)
    (call_not_entered c.args.code.now g.M.Cells.shown g.M.Cells.after c.args.line c.args.procedure c.args.count c.args.at c.args.turns c.args.frame.now (g.M.Cells.holds c.args.cells.now)
    c.in-Some.entry (sym c.in-Some.ensures) c.in-Ok.passed c.arguments_off.new.frame (c.in-Ok.ensures c.args.line) (c.in_default-deepened.ensures.deepens c.args.line)
    (c.args.turns - 1) some (c.args.at + 1) behind c.in-Err-entered.halt c.entered.new.frame (g.M.Cells.holds c.entered.new.cells) _ c.in-Err-entered.ensures.enters)
