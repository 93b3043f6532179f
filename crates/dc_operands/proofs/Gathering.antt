-- Lists that are gathered item by item.
use Rattle.std.proofs.Common.{append_assoc, append-nil}

pub ruleset gathering = (append_assoc, append-nil)
