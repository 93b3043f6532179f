use Rattle.dc_meaning.proofs.Walking.{handed}
use Rattle.std.proofs.Common.{refl}
use Rattle.dc_walk.specs.declared.flow.Flow.{Flow}
use Rattle.dc_walk.specs.Flows.{flow_of}
use Rattle.dc_walk.proofs.Spending.{stays-told, stays-failed}
use Rattle.dc_walk.proofs.lines.perform_action.Goals as goal

pub returns-in_err-act-in-Assign : goal.returns-in_err-act-in-Assign
returns-in_err-act-in-Assign c =
    handed c.from_residual.result _ c.from_residual.ensures.1 (stays-failed {told = flow_of} c.in_err-act-in-Assign.ensures)

pub returns-in_ok-act-in-Assign : goal.returns-in_ok-act-in-Assign
returns-in_ok-act-in-Assign c = stays-told {told = flow_of} c.in_ok-act-in-Assign.field-0 Flow.On refl c.in_ok-act-in-Assign.ensures
