-- An adapter, as contracts see it.
use Rattle.std.specs.Prelude.{ℕ}

-- what it stands over, and how many faults came
pub record Counted (T : Type 0) : Type 0 where
  pub inner : T
  pub faults : ℕ
