-- The limits and the step of a counted DO. This project's own.
use Rattle.std.specs.Prelude.{ℕ}
use Rattle.dc_code.specs.Combinations.{Span}
use Rattle.dc_code.specs.Computation.{give, ◌>>=◌}
use Rattle.dc_code.specs.Frames.{Frame}
use Rattle.dc_code.specs.Operands.{value_off}
use Rattle.dc_code.specs.Troubles.{Computing}
use Rattle.dc_steps.specs.declared.counting.Limits.{Limits}

-- as the code has them
abbrev pub span_of : Limits → Span
span_of limits = record { first = limits.first; last = limits.last; step = limits.step }

-- The three values that are taken off.
abbrev pub limits_off : ℕ → Frame → Computing (Span × Frame)
limits_off line frame = do
  (step, below) ← value_off line frame
  (last, under) ← value_off line below
  (first, left) ← value_off line under
  give (record { first = first; last = last; step = step }, left)
