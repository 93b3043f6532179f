use Rattle.std.proofs.Common.{length}
use Rattle.dc_stmt.proofs.headings.+once_only.Given as goal

abbrev pub decreases-once_only : goal.decreases-once_only
decreases-once_only l = length l.slices.now
