use Rattle.std.proofs.Common.{◌∙◌, sym}
use Rattle.std.specs.Prelude.{slice_index_or}
use Rattle.dc_int.specs.declared.fault.Why.{Why}
use Rattle.dc_code.specs.Machine.{machine, new_frame}
use Rattle.dc_run.specs.Variables.{held_by}
use Rattle.dc_run.proofs.Openings.{has-opened, has-limits, has-failed, never-pauses, left-paused, span-off, limits-off, construct-found}
use Rattle.dc_run.proofs.Played.{comes-there}
use Rattle.dc_run.proofs.opening.open.Goals as goal

pub limits_off-requires : goal.limits_off-requires
limits_off-requires g c =
    let code = c.args.task.code.now in
    let found = c.args.found in
    let there = construct-found code.constructs c.constructs.result.now found.number _ c.requires.0.headed.construct c.constructs.ensures c.requires.0.headed.there in
    let came = has-opened c.requires.0 c.args.turns _ c.in_ok-frame.frame (held_by c.args.variables.now) (held_by c.run.new.cells) _ there c.in_ok-frame.ensures c.in-Done.ensures.ends in
    let has = has-limits c.requires.0 c.args.turns _ (held_by c.args.variables.now) (held_by c.run.new.cells) c.run.new.frame c.in-Done.turns came in
    span-off c.run.new.frame.stack has.span has.stack

pub returns-in-Done-clause-opens : goal.returns-in-Done-clause-opens
returns-in-Done-clause-opens g c =
    let code = c.args.task.code.now in
    let found = c.args.found in
    let there = construct-found code.constructs c.constructs.result.now found.number _ c.requires.0.headed.construct c.constructs.ensures c.requires.0.headed.there in
    let came = has-opened c.requires.0 c.args.turns _ c.in_ok-frame.frame (held_by c.args.variables.now) (held_by c.run.new.cells) _ there c.in_ok-frame.ensures c.in-Done.ensures.ends in
    let has = has-limits c.requires.0 c.args.turns _ (held_by c.args.variables.now) (held_by c.run.new.cells) c.run.new.frame c.in-Done.turns came in
    limits-off g.parts c.args.turns c.args.variables.now.ledger.store c.run.new.frame c.in-Done.turns c.limits_off.result has c.limits_off.ensures.first c.limits_off.ensures.last

pub returns-in-Done-clause-kept : goal.returns-in-Done-clause-kept
returns-in-Done-clause-kept g c =
    let code = c.args.task.code.now in
    let found = c.args.found in
    let there = construct-found code.constructs c.constructs.result.now found.number _ c.requires.0.headed.construct c.constructs.ensures c.requires.0.headed.there in
    (has-opened c.requires.0 c.args.turns _ c.in_ok-frame.frame (held_by c.args.variables.now) (held_by c.run.new.cells) _ there c.in_ok-frame.ensures c.in-Done.ensures.ends).kept

pub returns-in-Fault-clause-opens : goal.returns-in-Fault-clause-opens
returns-in-Fault-clause-opens g c =
    let code = c.args.task.code.now in
    let found = c.args.found in
    let there = construct-found code.constructs c.constructs.result.now found.number _ c.requires.0.headed.construct c.constructs.ensures c.requires.0.headed.there in
    let came = has-opened c.requires.0 c.args.turns _ c.in_ok-frame.frame (held_by c.args.variables.now) (held_by c.run.new.cells) _ there c.in_ok-frame.ensures c.in-Fault.ensures.ends in
    has-failed c.requires.0 c.args.turns _ (held_by c.args.variables.now) (held_by c.run.new.cells) (record { why = Why.Fault c.in-Fault.why; line = c.in-Fault.line }) came

pub returns-in-Fault-clause-kept : goal.returns-in-Fault-clause-kept
returns-in-Fault-clause-kept g c =
    let code = c.args.task.code.now in
    let found = c.args.found in
    let there = construct-found code.constructs c.constructs.result.now found.number _ c.requires.0.headed.construct c.constructs.ensures c.requires.0.headed.there in
    (has-opened c.requires.0 c.args.turns _ c.in_ok-frame.frame (held_by c.args.variables.now) (held_by c.run.new.cells) _ there c.in_ok-frame.ensures c.in-Fault.ensures.ends).kept

pub returns-in-Spent-clause-opens : goal.returns-in-Spent-clause-opens
returns-in-Spent-clause-opens g c =
    let code = c.args.task.code.now in
    let found = c.args.found in
    let there = construct-found code.constructs c.constructs.result.now found.number _ c.requires.0.headed.construct c.constructs.ensures c.requires.0.headed.there in
    let came = has-opened c.requires.0 c.args.turns _ c.in_ok-frame.frame (held_by c.args.variables.now) (held_by c.run.new.cells) _ there c.in_ok-frame.ensures c.in-Spent.ensures.ends in
    has-failed c.requires.0 c.args.turns _ (held_by c.args.variables.now) (held_by c.run.new.cells) (record { why = Why.Spent; line = c.in-Spent.line }) came

pub returns-in-Spent-clause-kept : goal.returns-in-Spent-clause-kept
returns-in-Spent-clause-kept g c =
    let code = c.args.task.code.now in
    let found = c.args.found in
    let there = construct-found code.constructs c.constructs.result.now found.number _ c.requires.0.headed.construct c.constructs.ensures c.requires.0.headed.there in
    (has-opened c.requires.0 c.args.turns _ c.in_ok-frame.frame (held_by c.args.variables.now) (held_by c.run.new.cells) _ there c.in_ok-frame.ensures c.in-Spent.ensures.ends).kept

pub unreachable-requires : goal.unreachable-requires
unreachable-requires g c =
    let code = c.args.task.code.now in
    let found = c.args.found in
    let there = construct-found code.constructs c.constructs.result.now found.number _ c.requires.0.headed.construct c.constructs.ensures c.requires.0.headed.there in
    let comes = comes-there _ _ _ c.in-Paused.ensures.ends in
    let came = has-opened c.requires.0 c.args.turns _ c.in_ok-frame.frame (held_by c.args.variables.now) (held_by c.run.new.cells) comes.reached there c.in_ok-frame.ensures comes.run_is in
    let pausing = left-paused code (machine code) _ _ _ comes.reached _ comes.is in
    never-pauses c.requires.0 c.args.turns (new_frame code (slice_index_or c.constructs.result.now found.number c.index-constructs-found.result).header) (held_by c.args.variables.now) (held_by c.run.new.cells) pausing.event pausing.rest
    (record { kept = came.kept; is = sym pausing.is ∙ came.is })
