-- The loops of a main program of today's form, and their indexes. This project's own.
use Rattle.std.specs.Prelude.{◌≡◌, ℕ, zero, suc, Bool, true, false, [], ◌∷◌, Option, Some, None}
use Rattle.dc_tree.specs.Blocks as blocks
use Rattle.dc_tree.specs.Blocks.{Line, Items, none, and_then}
use Rattle.dc_tree.specs.Statements.{Name, Ranging, Statement, concurrent}

-- The loop of this number among the loops of a main program of today's form: its head and its block.
abbrev pub nth_loop : ℕ → Items → Option (Line × Items)
nth_loop number none = None
nth_loop zero (and_then (blocks.loop head body close) rest) = Some (head, body)
nth_loop (suc number) (and_then (blocks.loop head body close) rest) = nth_loop number rest
nth_loop number (and_then other rest) = nth_loop number rest

-- The name of a loop's first index.
abbrev pub index_name : Statement → Name
index_name (concurrent label spec (ranging ∷ rest) mask locality) = ranging.name
index_name other = []

-- The first index of a header.
abbrev pub first_index : Statement → Ranging → Type 0
first_index (concurrent label spec (ranging ∷ rest) mask locality) asked = ranging ≡ asked
first_index other asked = ⊥

abbrev pub has_index : Statement → Bool
has_index (concurrent label spec (ranging ∷ rest) mask locality) = true
has_index other = false
