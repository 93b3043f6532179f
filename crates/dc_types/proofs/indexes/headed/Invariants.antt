-- What is made so far and what comes of the rest is all together.
use Rattle.std.proofs.Common.{◌≡◌, ◌++◌, drop, map}
use Rattle.dc_tree.specs.Statements.{index_ranging}
use Rattle.dc_sorts.specs.Standing.{standing_of}
use Rattle.dc_types.specs.Loops.{index_names}
use Rattle.dc_types.proofs.indexes.headed.Given as goal

abbrev pub invariant-loop-index : goal.invariant-loop-index
invariant-loop-index l =
    l.list ++ index_names (standing_of l.standing) l.typed (map index_ranging (drop l.index-index l.names))
    ≡ index_names (standing_of l.standing) l.typed (map index_ranging l.names)
