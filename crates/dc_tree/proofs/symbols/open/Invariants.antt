use Rattle.std.proofs.Common.{◌-◌, length, suc}
use Rattle.dc_tree.specs.Places.{IsSameIndex, HasSameResults}
use Rattle.dc_tree.proofs.symbols.open.Given as goal

abbrev pub invariant-loop-alloc : goal.invariant-loop-alloc
invariant-loop-alloc l = IsSameIndex l.fn.scopes.items l.scopes.items × HasSameResults l.fn.scopes.items l.scopes.items

abbrev pub decreases-loop-alloc : goal.decreases-loop-alloc
decreases-loop-alloc l = suc l.scope - length l.scopes.items
