-- What a call of a source or a sink does to the bytes and the room that it tells.
use Rattle.std.specs.Prelude.{◌≡◌, ℕ, ◌-◌, ◌<◌, ◌≤◌, ◌↔◌, List, [], ◌++◌, take, Option, Result, option_map, IfSome, IfOk, IsOk, OnErr}

-- the next n bytes left the source, and stand at the buffer's front
abbrev pub Moved : Option (List ℕ) → Option (List ℕ) → ℕ → List ℕ → Type 0
Moved before now n buffer = before ≡ option_map (λ rest. take n buffer ++ rest) now

-- where bytes are told, a read gives 0 exactly where none was left
abbrev pub AtEndOnly : Option (List ℕ) → ℕ → Type 0
AtEndOnly left n = IfSome left (λ rest. (n ≡ 0) ↔ (rest ≡ []))

-- the sink took the first n bytes of the piece
abbrev pub Taken : Option (List ℕ) → Option (List ℕ) → ℕ → List ℕ → Type 0
Taken before now n piece = now ≡ option_map (λ held. held ++ take n piece) before

-- the room over a write: where some is told the write is Ok, and takes no more; it falls by what was taken
pub record RoomOf {E : Type 0} (before now : Option ℕ) (result : Result ℕ E) : Type 0 where
  pub sure : IfSome before (λ free. 0 < free → IsOk result)
  pub within : IfOk result (λ n. IfSome before (λ free. n ≤ free))
  pub ok : IfOk result (λ n. now ≡ option_map (λ free. free - n) before)
  pub err : OnErr result (now ≡ before)
