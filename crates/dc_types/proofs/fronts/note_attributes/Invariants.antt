-- What is noted so far and what the rest breaks is all together.
use Rattle.std.proofs.Common.{◌≡◌, drop, map}
use Rattle.dc_tree.specs.Findings.{least_with_all}
use Rattle.dc_tree.specs.Statements.{attribute}
use Rattle.dc_sorts.specs.Standing.{standing_of}
use Rattle.dc_types.specs.Types.{each_attribute_numbers}
use Rattle.dc_types.proofs.fronts.note_attributes.Given as goal

abbrev pub invariant-loop-attr : goal.invariant-loop-attr
invariant-loop-attr l =
    least_with_all l.found (each_attribute_numbers (standing_of l.standing) l.line (map attribute (drop l.attr-index l.attrs)))
    ≡ least_with_all l.fn.found (each_attribute_numbers (standing_of l.standing) l.line (map attribute l.attrs))
