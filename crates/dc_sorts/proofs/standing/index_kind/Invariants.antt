-- It is left to look among the indexes that come.
use Rattle.std.proofs.Common.{◌≡◌, drop}
use Rattle.dc_sorts.specs.Standing.{index_kind}
use Rattle.dc_sorts.proofs.standing.index_kind.Given as goal

abbrev pub invariant-loop-index : goal.invariant-loop-index
invariant-loop-index l = index_kind (drop l.index-index l.indexes) l.name ≡ index_kind l.indexes l.name
