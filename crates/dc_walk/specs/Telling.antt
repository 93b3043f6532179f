-- What the walker tells of what it did. This project's own.
use Rattle.std.specs.Prelude.{◌≡◌, ℕ, List, Result, Ok, Err, Option, Some, None}
use Rattle.dc_int.specs.Entries.{Entry, accesses_of, last_states, contributions_of}
use Rattle.dc_walk.specs.declared.alone_out.AloneOut.{AloneOut}
use Rattle.dc_meaning.specs.declared.stop.Stop.{Stop}
use Rattle.dc_int.specs.declared.fault.Why.{Why}

-- How an iteration ended, where memory wasn't wanting.
abbrev pub ending_of : Result (Unit {0}) Stop → Option (Option (Why × ℕ))
ending_of (Ok well) = Some None
ending_of (Err (Stop.Failed why line)) = Some (Some (why, line))
ending_of (Err Stop.NoMemory) = None

pub record IsTold (entries : List Entry) (ended : Result (Unit {0}) Stop) (out : AloneOut) : Type 0 where
  pub ending : ending_of ended ≡ Some out.ending
  pub accesses : out.accesses ≡ accesses_of entries
  pub touches : out.touches ≡ last_states entries
  pub contributions : out.contributions ≡ contributions_of entries
