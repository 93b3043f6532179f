-- The rules of the source form, K2 to K7. The limits of lengths are those of ISO/IEC 1539-1:2023, 6.3.2.1 and
-- 6.3.2.6, and what may not stand in a line is after 6.3.2.4. The characters of K4, the numbers of the rules, and
-- the lines that they name, are this project's own.
use Rattle.std.specs.Prelude.{ℕ, Bool, true, false, not, ◌&&◌, ◌||◌, ◌==◌, nat_lt, nat_le, List, [], ◌∷◌, length, slice_get, is_none, IsTrue}
use Rattle.std.specs.List.{list_all, list_any}
use Rattle.std.specs.Option.{option_map_or}
use Rattle.dc_lines.specs.declared.line.Context.{Context}
use Rattle.dc_lines.specs.declared.line.Joint.{Joint}
use Rattle.dc_lines.specs.declared.rule.Rule.{Rule}
use Rattle.dc_lines.specs.Line.{is_blank, is_outside, behind, behind_first, context_of, without_comment, is_continued, context_behind, joint_behind}
use Rattle.dc_lines.specs.Joined.{Placed, Character, placed, statement_lines, signs, pieces}

-- ---- what one line may break

abbrev pub is_long : List ℕ → Bool
is_long line = nat_lt 10000 (length line)

-- a tab, or a character from a blank to a tilde
abbrev pub is_allowed : ℕ → Bool
is_allowed c = c == 9 || (nat_le 32 c && nat_le c 126)

-- whether a character outside of literals isn't allowed
abbrev pub has_foreign_from : Context → List ℕ → Bool
has_foreign_from context [] = false
has_foreign_from context (c ∷ line) = (is_outside context && not (is_allowed c)) || has_foreign_from (behind context c) line

abbrev pub has_foreign : Joint → List ℕ → Bool
has_foreign joint line = has_foreign_from (context_of joint) (without_comment joint line)

-- A literal is open at the end of a line that isn't continued, or goes on in a line that doesn't begin with `&`.
abbrev pub has_open_literal : Joint → List ℕ → Bool
has_open_literal joint line =
    (not (is_outside (context_behind joint line)) && not (is_continued joint line)) || (not (is_outside (context_of joint)) && is_none (behind_first line))

-- `&` is the only character that isn't blank, comments aside.
abbrev pub is_lone : Joint → List ℕ → Bool
is_lone joint line = option_map_or (list_all is_blank) (behind_first (without_comment joint line)) false

-- ---- what a whole text may break

-- some line with this number passes the test
abbrev pub some_line : (Joint → List ℕ → Bool) → ℕ → List Placed → Bool
some_line test number lines = list_any (λ (p : Placed). p.number == number && test p.joint p.bytes) lines

-- the byte with which a statement is too long stands in this line; blanks count
abbrev pub is_too_long_at : ℕ → List Character → Bool
is_too_long_at number piece = option_map_or (λ (c : Character). c.line == number) (slice_get piece 1000000) false

abbrev pub is_open : Joint → Bool
is_open Joint.Begins = false
is_open (Joint.Continues context) = true

-- whether the last line that isn't a comment line is continued
abbrev pub is_open_behind : Joint → List (List ℕ) → Bool
is_open_behind joint [] = is_open joint
is_open_behind joint (line ∷ lines) = is_open_behind (joint_behind joint line) lines

-- Whether a rule is broken on the line of this number.
abbrev pub breaks : Rule → List (List ℕ) → ℕ → Bool
-- K2: A line has more than 10,000 bytes.
breaks Rule.LongLine lines number = some_line (λ joint line. is_long line) number (placed lines)
-- K3: A statement has more than 1,000,000 bytes. It is the line of the next byte.
breaks Rule.LongStatement lines number = list_any (is_too_long_at number) (pieces (signs (placed lines)))
-- K4: A byte outside of comments and literals is neither a tab nor 32 to 126.
breaks Rule.ForeignByte lines number = some_line has_foreign number (statement_lines (placed lines))
-- K5: A literal is open at the end of a line that isn't continued, or goes on in a line that doesn't begin with `&`.
breaks Rule.OpenLiteral lines number = some_line has_open_literal number (statement_lines (placed lines))
-- K6: The last statement is continued, and no line follows that isn't a comment line. It is the last line of the text.
breaks Rule.Unfinished lines number = is_open_behind Joint.Begins lines && number == length lines
-- K7: `&` is the only character of a line that isn't blank, comments aside.
breaks Rule.LoneAmpersand lines number = some_line is_lone number (statement_lines (placed lines))

abbrev pub Breaks : Rule → List (List ℕ) → ℕ → Type 0
Breaks rule lines number = IsTrue (breaks rule lines number)

abbrev pub number_of : Rule → ℕ
number_of Rule.LongLine = 2
number_of Rule.LongStatement = 3
number_of Rule.ForeignByte = 4
number_of Rule.OpenLiteral = 5
number_of Rule.Unfinished = 6
number_of Rule.LoneAmpersand = 7
