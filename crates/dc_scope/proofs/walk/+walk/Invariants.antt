use Rattle.std.proofs.Common.{◌≡◌, drop, map}
use Rattle.dc_tree.specs.Blocks.{item, items_from, arms_from, part_items}
use Rattle.dc_tree.specs.Findings.{least_with_all}
use Rattle.dc_sorts.specs.Standing.{standing_of}
use Rattle.dc_scope.specs.Cases.{Cases, no_cases}
use Rattle.dc_scope.specs.Covers.{Keeps}
use Rattle.dc_scope.specs.Scope.{block_findings, arms_findings, select_findings}
use Rattle.dc_scope.proofs.walk.+walk.Given as goal

abbrev pub invariant-note_nodes-loop-node : goal.invariant-note_nodes-loop-node
invariant-note_nodes-loop-node l =
    least_with_all l.found (block_findings (standing_of l.standing) (items_from (map item (drop l.node-index l.nodes))))
    ≡ least_with_all l.fn.found (block_findings (standing_of l.standing) (items_from (map item l.nodes)))

abbrev pub invariant-note_arms-loop-arm : goal.invariant-note_arms-loop-arm
invariant-note_arms-loop-arm l =
    least_with_all l.found (arms_findings (standing_of l.standing) (arms_from (map part_items (drop l.arm-index l.arms))))
    ≡ least_with_all l.fn.found (arms_findings (standing_of l.standing) (arms_from (map part_items l.arms)))

abbrev pub invariant-note_select-loop-arm : goal.invariant-note_select-loop-arm
invariant-note_select-loop-arm l =
    (cases : Cases) × Keeps l.so_far cases
    × (least_with_all l.found (select_findings (standing_of l.standing) cases (arms_from (map part_items (drop l.arm-index l.arms))))
    ≡ least_with_all l.fn.found (select_findings (standing_of l.standing) no_cases (arms_from (map part_items l.arms))))
