-- What a call and a return do beside the turn that they spend. This project's own.
use Rattle.std.specs.Prelude.{ℕ, List, length, nat_lt, if◌then◌else◌}
use Rattle.dc_code.specs.declared.frame.Passed.{Passed}
use Rattle.dc_code.specs.declared.plan.DummyPlan.{DummyPlan}
use Rattle.dc_code.specs.Codes.{CodeLists, plan_numbered}
use Rattle.dc_code.specs.Computation.{give, ◌>>=◌}
use Rattle.dc_code.specs.Frames.{Frame, fresh_unit, entered, innermost, left_unit}
use Rattle.dc_code.specs.Instructions.{passed_to, all_forgotten_out}
use Rattle.dc_code.specs.Operands.{stuck, items_off}
use Rattle.dc_code.specs.Troubles.{Computing}

-- So many items are taken off, as dummies take them.
abbrev pub arguments_off : ℕ → List DummyPlan → ℕ → Frame → Computing (List Passed × Frame)
arguments_off line dummies count frame = do
  (items, below) ← items_off line count frame
  passed ← passed_to line dummies items
  give (passed, below)

-- Places of INTENT(OUT) dummies become undefined, and the procedure is entered.
abbrev pub entering : CodeLists → ℕ → ℕ → List Passed → ℕ → Frame → Computing Frame
entering code line procedure passed back frame = do
  cleared ← all_forgotten_out code line (plan_numbered code procedure).dummies passed frame
  give (entered (fresh_unit code procedure passed back) cleared)

-- The place behind the call of the innermost unit, and the frame without that unit.
abbrev pub unit_left : ℕ → Frame → Computing (ℕ × Frame)
unit_left line frame = if nat_lt 1 (length frame.units) then give ((innermost frame).back, left_unit frame) else stuck line
