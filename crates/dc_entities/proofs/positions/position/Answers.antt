use Rattle.std.proofs.Common.{rules, ◌≡◌, ◌+◌, ◌-◌, ℕ, None, drop, FitsSigned, w64, sym, ap, ◌∙◌, arith}
use Rattle.std.specs.Prelude.{ℤ, pos, slice_index_or}
use Rattle.std.proofs.lemmas.List.{drop_more}
use Rattle.std.proofs.lemmas.Int.{to_z-of_z}
use Rattle.dc_int.specs.Store.{position_in}
use Rattle.dc_entities.proofs.Places.{other-rank, nowhere, room, no-position}
use Rattle.dc_entities.proofs.positions.position.Goals as goal

pub returns-then-bounds-subscripts : goal.returns-then-bounds-subscripts
returns-then-bounds-subscripts c = other-rank c.args.bounds.now c.args.subscripts.now c.if-bounds-subscripts.true

pub returns-then-not-has_elements : goal.returns-then-not-has_elements
returns-then-not-has_elements c = nowhere c.args.bounds.now c.args.subscripts.now c.if-not-has_elements.ensures

pub joined-requires : goal.joined-requires
joined-requires c =
    let k = c.loop-rank.rank - 1 in
    let none : ℤ × ℤ = (pos 0, pos 0) in
    let next : k + 1 ≡ c.loop-rank.rank = omega arith in
    let later = ap (λ (n : ℕ). position_in (drop n c.args.bounds.now) (drop n c.args.subscripts.now)) next ∙ c.loop-rank.invariant.later in
    room k c.args.bounds.now c.args.subscripts.now (slice_index_or c.args.bounds.now k none) c.loop-rank.position (drop_more c.args.bounds.now k none (omega arith)) c.if-not-has_elements.ensures c.requires later

pub returns-in_err-position : goal.returns-in_err-position
returns-in_err-position c =
    let k = c.loop-rank.rank - 1 in
    let bounds = c.args.bounds.now in
    let subscripts = c.args.subscripts.now in
    let none : ℤ × ℤ = (pos 0, pos 0) in
    let next : k + 1 ≡ c.loop-rank.rank = omega arith in
    let later = ap (λ (n : ℕ). position_in (drop n bounds) (drop n subscripts)) next ∙ c.loop-rank.invariant.later in
    let first = drop_more bounds k none (omega arith) in
    let given = drop_more subscripts k (pos 0) (omega arith) in
    let subscript = slice_index_or subscripts k (pos 0) in
    let fits : FitsSigned w64 subscript = search rules in
    let out = simp to_z-of_z at (sym c.joined.ensures ∙ c.in_err-position.was) in
    let gone : None ≡ position_in bounds subscripts = no-position k bounds subscripts (slice_index_or bounds k none) subscript c.loop-rank.position first given later out in
    c.from_residual.ensures ∙ gone
