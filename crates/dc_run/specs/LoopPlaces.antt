-- Where the loops of a main program stand among its statements. This project's own.
use Rattle.std.specs.Prelude.{ℕ, suc, Bool, true, false, List, [], ◌∷◌, if◌then◌else◌}
use Rattle.dc_tree.specs.Blocks.{Item, loop}

abbrev pub is_loop : Item → Bool
is_loop (loop head body close) = true
is_loop other = false

-- The places of the loops, where so many items stand before.
abbrev pub loop_places : ℕ → List Item → List ℕ
loop_places before [] = []
loop_places before (first ∷ rest) = if is_loop first then before ∷ loop_places (suc before) rest else loop_places (suc before) rest
