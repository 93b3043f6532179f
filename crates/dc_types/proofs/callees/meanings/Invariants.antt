-- What is gathered so far and what comes of the rest is all together.
use Rattle.std.proofs.Common.{◌≡◌, ◌++◌, drop, map}
use Rattle.dc_sorts.specs.Meanings.{declared_meaning}
use Rattle.dc_types.proofs.callees.meanings.Given as goal

abbrev pub invariant-loop-name : goal.invariant-loop-name
invariant-loop-name l =
    l.list ++ map (declared_meaning l.symbols l.number) (drop l.name-index l.names) ≡ map (declared_meaning l.symbols l.number) l.names
