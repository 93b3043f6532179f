use Rattle.std.proofs.Common.{◌≡◌, ℕ, List, take, drop, map, nat_cmp, Bor}
use Rattle.std.specs.List.{list_any}
use Rattle.std.specs.BTreeSet.{contains}
use Rattle.std.specs.Cmp.Lexicographic.{slice_cmp}
use Rattle.dc_tree.specs.Statements.{index_ranging}
use Rattle.dc_scope.specs.Headers.{is_named, has_twice}
use Rattle.dc_scope.proofs.Repeats.{repeats}
use Rattle.dc_scope.proofs.twice.has_twice.Given as goal

abbrev pub invariant-loop-index : goal.invariant-loop-index
invariant-loop-index l =
    ((name : Bor (List ℕ)) → contains (λ x y. slice_cmp nat_cmp x.now y.now) l.names name ≡ list_any (is_named name.now) (map index_ranging (take l.index-index l.indexes)))
    × (repeats (map index_ranging (take l.index-index l.indexes)) (map index_ranging (drop l.index-index l.indexes)) ≡ has_twice (map index_ranging l.indexes))
