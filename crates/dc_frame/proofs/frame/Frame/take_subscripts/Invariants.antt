use Rattle.dc_frame.proofs.Gathered.{Gathered}
use Rattle.dc_frame.proofs.frame.Frame.take_subscripts.Given as goal

abbrev pub invariant-loop-rank : goal.invariant-loop-rank
invariant-loop-rank l = Gathered l.bounds l.initial.self l.self l.rank l.position

abbrev pub decreases-loop-rank : goal.decreases-loop-rank
decreases-loop-rank l = l.rank
