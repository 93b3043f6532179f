-- The pieces of an output line, and the text of each. After ISO/IEC 1539-1:2023, clause 13.10.4; that a line is made
-- of pieces is this project's own.
use Rattle.std.specs.Prelude.{ℕ, List, ℤ}
use Rattle.dc_int.specs.Sorts.{Sort}
use Rattle.dc_lists.specs.Output.{written}

-- A value of a sort, or a literal.
pub data Piece : Type 0 where
  value : Sort → ℤ → Piece
  text : List ℕ → Piece

abbrev pub piece_text : Piece → List ℕ
piece_text (value sort z) = written sort z
piece_text (text bytes) = bytes
