use Rattle.std.proofs.Common.{refl}
use Rattle.dc_int.specs.declared.fault.Why.{Why}
use Rattle.dc_code.specs.Machine.{machine}
use Rattle.dc_run.specs.declared.standing.Standing.{Standing}
use Rattle.dc_run.specs.Running.{looping_in}
use Rattle.dc_run.proofs.Advancing.{usual-ran, done-advances, bad-advances, attended-advances, both-ok}
use Rattle.dc_run.proofs.Pausing.{is-pause}
use Rattle.dc_run.proofs.Played.{comes-there}
use Rattle.dc_run.proofs.running.advance.Goals as goal

pub attend-requires : goal.attend-requires
attend-requires g c =
    let code = c.args.task.code.now in
    let comes = comes-there _ _ _ c.in-Paused.ensures.ends in
    let middle : Standing = record { variables = c.run-ended.new.cells; frame = c.run-ended.new.frame; output = c.args.standing.now.output } in (
      c.requires.0,
      (
        is-pause code (machine code) _ c.in-Paused.at c.run-ended.new.frame c.in-Paused.turns comes.reached c.requires.0.today comes.is,
        usual-ran c.args.task.symbols.now code c.args.at c.args.turns c.args.standing.now middle comes.reached (record { is = comes.run_is; output = refl }) c.in-Paused.ensures.ready c.requires.1,
      ),
    )

pub returns-in-Done-clause-advances : goal.returns-in-Done-clause-advances
returns-in-Done-clause-advances g c =
    let middle : Standing = record { variables = c.run-ended.new.cells; frame = c.run-ended.new.frame; output = c.args.standing.now.output } in
    done-advances (looping_in g.forms) c.args.task.symbols.now c.args.task.code.now c.args.at c.args.turns c.args.standing.now middle (c.run-ended.new.frame, c.in-Done.turns)
    (record { is = c.in-Done.ensures.ends; output = refl })

pub returns-in-Done-clause-usual : goal.returns-in-Done-clause-usual
returns-in-Done-clause-usual g c =
    let middle : Standing = record { variables = c.run-ended.new.cells; frame = c.run-ended.new.frame; output = c.args.standing.now.output } in
    usual-ran c.args.task.symbols.now c.args.task.code.now c.args.at c.args.turns c.args.standing.now middle _ (record { is = c.in-Done.ensures.ends; output = refl }) c.in-Done.ensures.ready c.requires.1

pub returns-in-Fault-clause-advances : goal.returns-in-Fault-clause-advances
returns-in-Fault-clause-advances g c =
    let middle : Standing = record { variables = c.run-ended.new.cells; frame = c.run-ended.new.frame; output = c.args.standing.now.output } in
    bad-advances (looping_in g.forms) c.args.task.symbols.now c.args.task.code.now c.args.at c.args.turns c.args.standing.now middle (Why.Fault c.in-Fault.why) c.in-Fault.line c.bad.result c.bad.ensures
    (record { is = c.in-Fault.ensures.ends; output = refl })

pub returns-in-Fault-clause-usual : goal.returns-in-Fault-clause-usual
returns-in-Fault-clause-usual g c =
    let middle : Standing = record { variables = c.run-ended.new.cells; frame = c.run-ended.new.frame; output = c.args.standing.now.output } in
    usual-ran c.args.task.symbols.now c.args.task.code.now c.args.at c.args.turns c.args.standing.now middle _ (record { is = c.in-Fault.ensures.ends; output = refl }) c.in-Fault.ensures.ready c.requires.1

pub returns-in-Spent-clause-advances : goal.returns-in-Spent-clause-advances
returns-in-Spent-clause-advances g c =
    let middle : Standing = record { variables = c.run-ended.new.cells; frame = c.run-ended.new.frame; output = c.args.standing.now.output } in
    bad-advances (looping_in g.forms) c.args.task.symbols.now c.args.task.code.now c.args.at c.args.turns c.args.standing.now middle Why.Spent c.in-Spent.line c.bad-in-Spent.result c.bad-in-Spent.ensures
    (record { is = c.in-Spent.ensures.ends; output = refl })

pub returns-in-Spent-clause-usual : goal.returns-in-Spent-clause-usual
returns-in-Spent-clause-usual g c =
    let middle : Standing = record { variables = c.run-ended.new.cells; frame = c.run-ended.new.frame; output = c.args.standing.now.output } in
    usual-ran c.args.task.symbols.now c.args.task.code.now c.args.at c.args.turns c.args.standing.now middle _ (record { is = c.in-Spent.ensures.ends; output = refl }) c.in-Spent.ensures.ready c.requires.1

pub returns-in-Paused-clause-advances : goal.returns-in-Paused-clause-advances
returns-in-Paused-clause-advances g c =
    let code = c.args.task.code.now in
    let comes = comes-there _ _ _ c.in-Paused.ensures.ends in
    let middle : Standing = record { variables = c.run-ended.new.cells; frame = c.run-ended.new.frame; output = c.args.standing.now.output } in
    both-ok c.attend.result _ _ _ c.attend.ensures.attends c.attend.ensures.units
    (λ step attends units.
    attended-advances (looping_in g.forms) c.args.task.symbols.now code c.args.at c.args.turns c.args.standing.now middle c.attend.new.standing comes.reached (record { is = comes.run_is; output = refl }) c.in-Paused.at c.in-Paused.turns comes.is
    step attends units c.in-Paused.ensures.lower)
