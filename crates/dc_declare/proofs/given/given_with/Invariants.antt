use Rattle.std.proofs.Common.{◌≡◌, drop, map}
use Rattle.dc_sorts.specs.Standing.{standing_of}
use Rattle.dc_tree.specs.Statements.{attribute}
use Rattle.dc_declare.specs.Entities.{plainly, with_attributes}
use Rattle.dc_declare.proofs.given.given_with.Given as goal

abbrev pub invariant-loop-attr : goal.invariant-loop-attr
invariant-loop-attr l =
    with_attributes (standing_of l.standing) l.given (map attribute (drop l.attr-index l.attrs))
    ≡ with_attributes (standing_of l.standing) (plainly l.fn.form) (map attribute l.attrs)
