use Rattle.std.proofs.Common.{◌≡◌, ◌<◌, drop, map, None}
use Rattle.std.specs.Prelude.{IfSome}
use Rattle.dc_sorts.specs.Standing.{standing_of, scope_at}
use Rattle.dc_tree.specs.Blocks.{arms_from, part_items}
use Rattle.dc_walk.specs.Arms.{chosen_from}
use Rattle.dc_walk.proofs.cases.chosen.Given as goal

abbrev pub invariant-loop-place : goal.invariant-loop-place
invariant-loop-place l =
    (IfSome l.otherwise (λ place. place < l.place))
    × (chosen_from (scope_at (standing_of l.standing)) l.given l.place (arms_from (map part_items (drop l.place l.arms))) l.otherwise
    ≡ chosen_from (scope_at (standing_of l.standing)) l.given 0 (arms_from (map part_items l.arms)) None)
