use Rattle.std.proofs.Common.{◌∷◌, btree_map_len}
use Rattle.dc_scope.specs.Ranges.{HasNumbers, AreApart, HaveSame}
use Rattle.dc_scope.proofs.covered.take_meeting.Given as goal

abbrev pub invariant-loop-met : goal.invariant-loop-met
invariant-loop-met l = AreApart l.lows.entries × HasNumbers l.whole × HaveSame (l.whole ∷ l.lows.entries) (l.fn.range ∷ l.fn.lows.entries)

abbrev pub decreases-loop-met : goal.decreases-loop-met
decreases-loop-met l = btree_map_len l.lows
