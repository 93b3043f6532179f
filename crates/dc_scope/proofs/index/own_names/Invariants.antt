use Rattle.std.proofs.Common.{◌≡◌, ◌++◌, drop, map}
use Rattle.dc_tree.specs.Statements.{index_ranging}
use Rattle.dc_sorts.specs.Standing.{standing_of}
use Rattle.dc_scope.specs.Headers.{index_name}
use Rattle.dc_scope.proofs.index.own_names.Given as goal

abbrev pub invariant-loop-index : goal.invariant-loop-index
invariant-loop-index l =
    l.names ++ map (index_name (standing_of l.standing) l.typed) (map index_ranging (drop l.index-index l.indexes))
    ≡ map (index_name (standing_of l.standing) l.typed) (map index_ranging l.indexes)
