use Rattle.std.proofs.Common.{rules, ◌≡◌, ◌∙◌, ap, refl, ℕ, zero, suc, map, replicate, length, ◌∷◌}
use Rattle.dc_plain.specs.Marks.{blank}
use Rattle.dc_plain.specs.MarkViews.{mark_of}
use Rattle.dc_plain.proofs.marks.blank_row.Goals as goal

map-replicate : {A B : Type 0} (f : A → B) (n : ℕ) (a : A) → map f (replicate n a) ≡ replicate n (f a)
map-replicate f zero a = refl
map-replicate f (suc n) a = ap (λ xs. f a ∷ xs) (map-replicate f n a)

pub returns : goal.returns
returns c =
    let all = c.in_ok-row.ensures.items_if_clones_equal (λ y same. same) in
    let states : c.as_slice-states.result.now ≡ c.args.variable.now.cells.items = search rules in
    ap (map mark_of) all ∙ map-replicate mark_of (length c.as_slice-states.result.now) _ ∙ ap (λ xs. replicate (length xs) blank) states
