-- The instructions that the code of a program that is run today has. This project's own.
use Rattle.std.specs.Prelude.{ℕ, Bool, true, false, nat_lt}
use Rattle.dc_code.specs.declared.instr.What.{What}

-- It takes nothing in, doesn't stop, and enters the loops of these numbers alone.
abbrev pub is_of_today : (loops : ℕ) → What → Bool
is_of_today loops (What.TakeNumber kind) = false
is_of_today loops What.TakeTruth = false
is_of_today loops (What.TakeAll v) = false
is_of_today loops (What.TakeEnd n) = false
is_of_today loops What.Stop = false
is_of_today loops What.ErrorStop = false
is_of_today loops (What.Enter c) = nat_lt c loops
is_of_today loops what = true
