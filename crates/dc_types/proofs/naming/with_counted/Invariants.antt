-- What is copied so far and the rest is all together.
use Rattle.std.proofs.Common.{◌≡◌, ◌∷◌, ◌++◌, drop}
use Rattle.dc_types.proofs.naming.with_counted.Given as goal

abbrev pub invariant-loop-name : goal.invariant-loop-name
invariant-loop-name l = l.list ++ drop l.name-index l.counted ≡ l.text ∷ l.counted
