use Rattle.std.proofs.Common.{◌≡◌, drop, map}
use Rattle.dc_tree.specs.Blocks.{line_of}
use Rattle.dc_tree.specs.Findings.{least_with_all}
use Rattle.dc_declare.specs.Declarations.{after_front, front_findings}
use Rattle.dc_declare.proofs.front.declare_front.Given as goal

abbrev pub invariant-loop-lined : goal.invariant-loop-lined
invariant-loop-lined l =
    (after_front l.heading l.scan (map line_of (drop l.lined-index l.front)) ≡ after_front l.heading l.fn.scan (map line_of l.front))
    × (least_with_all l.found (front_findings l.heading l.scan (map line_of (drop l.lined-index l.front)))
    ≡ least_with_all l.fn.found (front_findings l.heading l.fn.scan (map line_of l.front)))
