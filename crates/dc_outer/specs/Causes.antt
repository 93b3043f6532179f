-- How an object's count of faults moves in a call.
use Rattle.std.specs.Prelude.{◌≡◌, ℕ, ◌+◌, ◌-◌, ◌^◌, ◌≤◌, min, Result, OnOk, OnErr, IfErr}
use Rattle.dc_outer.specs.declared.fault.FileFault.{FileFault}
use Rattle.dc_outer.specs.declared.fault.FileFault.TheVariants.{Failed, NoMemory}

-- the greatest u64
abbrev pub greatest_count : ℕ
greatest_count = 2 ^ 64 - 1

-- the count rose: it is greater than before, or stands at the greatest u64
abbrev pub Rose : ℕ → ℕ → Type 0
Rose before now = min (before + 1) greatest_count ≤ now

-- one more, or the greatest u64
abbrev pub next_count : ℕ → ℕ
next_count n = min (n + 1) greatest_count

-- the count over a call of a device: it never falls, stays where the call is Ok, and rises where it failed
pub record CountOf {T E : Type 0} (before now : ℕ) (result : Result T E) : Type 0 where
  pub never_falls : before ≤ now
  pub ok : OnOk result (now ≡ before)
  pub err : OnErr result (Rose before now)

-- a fault of the device raises the count, and want of memory leaves it
abbrev pub HasCause : FileFault → ℕ → ℕ → Type 0
HasCause Failed before now = Rose before now
HasCause NoMemory before now = now ≡ before

-- the count over a read of a file: it never falls, stays where the call is Ok, and rises where the device failed
pub record FileCount {T : Type 0} (before now : ℕ) (result : Result T FileFault) : Type 0 where
  pub never_falls : before ≤ now
  pub ok : OnOk result (now ≡ before)
  pub err : IfErr result (λ fault. HasCause fault before now)
