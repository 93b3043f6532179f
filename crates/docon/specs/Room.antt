-- Writing to sinks that tell how many bytes more they take for sure.
use Rattle.std.specs.Prelude.{◌≡◌, ℕ, ◌-◌, ◌≤◌, Bool, length, Option, Some, IfSome, IsSomeAnd, IsTrue}
use Rattle.docon.specs.declared.report.Report.{Report}

-- room is told, and it is enough for so many bytes
abbrev pub IsRoomFor : ℕ → Option ℕ → Type 0
IsRoomFor count room = IsSomeAnd room (λ free. count ≤ free)

-- Where the room is enough for so many bytes, writing them goes well, and the room falls by them.
abbrev pub WritesInRoom : Option ℕ → Option ℕ → ℕ → Bool → Type 0
WritesInRoom before now count went_well = IfSome before (λ free. count ≤ free → IsTrue went_well × (now ≡ Some (free - count)))

-- both sinks have room for the report
pub record Fits (report : Report) (out log : Option ℕ) : Type 0 where
  pub out_fits : IsRoomFor (length report.out) out
  pub log_fits : IsRoomFor (length report.log) log
