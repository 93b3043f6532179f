-- The statements of a text: its lines joined, and parted at their ends (ISO/IEC 1539-1:2023, 6.3.2.4 and 6.3.2.5).
use Rattle.std.specs.Prelude.{ℕ, suc, not, ◌==◌, List, [], ◌∷◌, ◌++◌, map, filter, Option, Some, None, option_map, if◌then◌else◌}
use Rattle.std.specs.List.{flat_map, filter_map}
use Rattle.dc_tree.specs.declared.logical_lines.Logical.{Logical}
use Rattle.dc_lines.specs.declared.line.Context.{Context}
use Rattle.dc_lines.specs.declared.line.Joint.{Joint}
use Rattle.dc_lines.specs.Line.{is_blank, behind, is_comment_line, context_of, is_continued, joint_behind, is_apart, spelled}

-- A line where it stands: its number, counted from 1, how it is joined, and its bytes.
pub record Placed : Type 0 where
  pub number : ℕ
  pub joint : Joint
  pub bytes : List ℕ

abbrev pub placed_from : ℕ → Joint → List (List ℕ) → List Placed
placed_from number joint [] = []
placed_from number joint (line ∷ lines) =
    record { number = number; joint = joint; bytes = line } ∷ placed_from (suc number) (joint_behind joint line) lines

abbrev pub placed : List (List ℕ) → List Placed
placed lines = placed_from 1 Joint.Begins lines

-- the lines that aren't comment lines
abbrev pub statement_lines : List Placed → List Placed
statement_lines lines = filter (λ (p : Placed). not (is_comment_line p.bytes)) lines

-- A character of the joined text, with the line where it stands.
pub record Character : Type 0 where
  pub byte : ℕ
  pub line : ℕ

-- The joined text is a list of characters, and of ends of statements.
pub data Sign : Type 0 where
  written : Character → Sign
  ends : Sign

abbrev pub character : ℕ → ℕ → Sign
character line c = written (record { byte = c; line = line })

-- Outside of literals, `;` ends a statement, and a tab is a blank.
abbrev pub sign : Context → ℕ → ℕ → Sign
sign Context.Outside line c = if c == 59 then ends else character line (if c == 9 then 32 else c)
sign (Context.Literal mark) line c = character line c

abbrev pub signs_from : Context → ℕ → List ℕ → List Sign
signs_from context line [] = []
signs_from context line (c ∷ rest) = sign context line c ∷ signs_from (behind context c) line rest

-- a blank that is put in front of a line
abbrev pub gap : Placed → List Sign
gap p = if is_apart p.joint p.bytes then character p.number 32 ∷ [] else []

-- A line that isn't continued ends a statement.
abbrev pub end_of : Placed → List Sign
end_of p = if is_continued p.joint p.bytes then [] else ends ∷ []

abbrev pub signs_of : Placed → List Sign
signs_of p = gap p ++ signs_from (context_of p.joint) p.number (spelled p.joint p.bytes) ++ end_of p

abbrev pub signs : List Placed → List Sign
signs lines = flat_map signs_of (statement_lines lines)

abbrev pub put_first : Character → List (List Character) → List (List Character)
put_first c [] = (c ∷ []) ∷ []
put_first c (piece ∷ pieces) = (c ∷ piece) ∷ pieces

-- what stands between the ends of statements, and behind the last
abbrev pub pieces : List Sign → List (List Character)
pieces [] = [] ∷ []
pieces (written c ∷ rest) = put_first c (pieces rest)
pieces (ends ∷ rest) = [] ∷ pieces rest

-- the line of the first character that isn't blank
abbrev pub first_line : List Character → Option ℕ
first_line [] = None
first_line (c ∷ piece) = if is_blank c.byte then first_line piece else Some c.line

abbrev pub bytes_of : List Character → List ℕ
bytes_of piece = map (λ (c : Character). c.byte) piece

-- the statement that is spelled, on the line of its first character that isn't blank; an empty one is dropped
abbrev pub statement : List Character → Option Logical
statement piece = option_map (λ line. record { line = line; text = bytes_of piece }) (first_line piece)

abbrev pub statements_of : List (List ℕ) → List Logical
statements_of lines = filter_map statement (pieces (signs (placed lines)))
