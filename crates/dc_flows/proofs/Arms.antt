-- The arms of a construct, one after another.
use Rattle.std.proofs.Common.{◌≡◌, ℕ, ◌+◌, ◌<◌, List, length, map, drop, get_or, ap, ◌∙◌, arith}
use Rattle.dc_tree.specs.declared.program.Part.{Part, out-Part, fold_out-Part}
use Rattle.dc_tree.specs.Blocks.{Line, Item, Items, Arms, arm, arms_from, items, line_of, part_items, item_step, items_step, part_step}
use Rattle.dc_meaning.proofs.Gathering.{next-is}

pub part-is : (part : Part) → part_items part ≡ (line_of (out-Part part).head, items (out-Part part).body)
part-is part = fold_out-Part Item Items (Line × Items) item_step items_step part_step part

-- The arm at a place, before the others.
pub arms-next : (arms : List Part) (at : ℕ) (part : Part) → at < length arms → part ≡ get_or arms at part
    → arms_from (map part_items (drop at arms)) ≡ arm (line_of (out-Part part).head) (items (out-Part part).body) (arms_from (map part_items (drop (at + 1) arms)))
arms-next arms at part below is =
    ap (λ given. arms_from (map part_items given)) (next-is arms at part below is)
    ∙ ap (λ (w : Line × Items). arm w.0 w.1 (arms_from (map part_items (drop (at + 1) arms)))) (part-is part)

-- The size of an arm with a test is added.
pub arm-added : (before test body rest whole first second both after : ℕ) → first ≡ test + 1 → second ≡ body + 1 → both ≡ first + second → after ≡ before + both
    → before + (test + 1 + (body + 1 + rest)) ≡ whole → after + rest ≡ whole
arm-added before test body rest whole first second both after a b c d e = omega (arith, a, b, c, d, e)
