-- How the ranks of the operators stand to each other.
use Rattle.std.proofs.Common.{◌<◌, ◌≤◌, arith}
use Rattle.dc_tree.specs.declared.token.Mark.{Mark}
use Rattle.dc_tree.specs.Grammar.{level, left_rank, right_rank}

pub level-left : (mark : Mark) → level mark ≤ left_rank mark
level-left Mark.Power = omega arith
level-left mark = omega arith

pub level-right : (mark : Mark) → level mark ≤ right_rank mark
level-right Mark.Power = omega arith
level-right mark = omega arith

-- a primary stands in every place
pub left-primary : (mark : Mark) → left_rank mark ≤ 8
left-primary Mark.Power = omega arith
left-primary mark = omega arith

pub right-primary : (mark : Mark) → right_rank mark ≤ 8
right-primary Mark.Power = omega arith
right-primary mark = omega arith

power-crosses : (mark : Mark) → 7 ≤ level mark → 7 < left_rank mark
power-crosses Mark.Power fits = omega arith
power-crosses mark fits = omega arith

-- an operator that may stand behind another one doesn't take what the other one waits for
pub crosses : (waiting mark : Mark) → right_rank waiting ≤ level mark → level waiting < left_rank mark
crosses Mark.Power mark fits = power-crosses mark fits
crosses waiting mark fits = omega (arith, level-left mark)
