use Rattle.std.proofs.Common.{rules, ◌≡◌, ◌+◌, ◌*◌, ◌<◌, Some, sym, ◌∙◌, FitsSigned, w64, arith}
use Rattle.std.proofs.lemmas.Int.{to_z-of_z}
use Rattle.dc_int.specs.Store.{extent, offset_in}
use Rattle.dc_frame.proofs.Positions.{position-small}
use Rattle.dc_frame.proofs.subscripts.joined.Goals as goal
use Rattle.dc_frame.proofs.subscripts.joined.Goals.{In_ok-offset}

small : (c : In_ok-offset) → c.in_ok-offset.field-0 + extent c.args.dimension * c.in_ok-others.others < 4194304
small c =
    let fits : FitsSigned w64 c.args.subscript = search rules in
    let found : offset_in c.args.dimension c.args.subscript ≡ Some c.in_ok-offset.field-0 = simp to_z-of_z at (sym c.offset.ensures ∙ c.in_ok-offset.was) in
    position-small c.args.dimension c.args.subscript c.in_ok-offset.field-0 c.in_ok-others.others found (c.requires c.in_ok-others.others c.in_ok-others.was)

pub overflow_cast-offset : goal.overflow_cast-offset
overflow_cast-offset c = let less = small c in omega (arith, less)

pub overflow_mul-result : goal.overflow_mul-result
overflow_mul-result c = let less = small (goal.at.overflow_mul-result c).In_ok-offset in rw c.extent.ensures (omega (arith, less))

pub overflow_add-result : goal.overflow_add-result
overflow_add-result c = let less = small (goal.at.overflow_add-result c).In_ok-offset in rw c.extent.ensures (omega (arith, less))
