-- What one line is, where it begins in a character context (ISO/IEC 1539-1:2023, 6.3.2.3 and 6.3.2.4).
use Rattle.std.specs.Prelude.{ℕ, Bool, true, false, ◌&&◌, ◌||◌, ◌==◌, List, [], ◌∷◌, Option, Some, None, option_map, unwrap_or, is_some, is_none, if◌then◌else◌}
use Rattle.std.specs.List.{list_all}
use Rattle.dc_lines.specs.declared.line.Context.{Context}
use Rattle.dc_lines.specs.declared.line.Joint.{Joint}

-- A tab outside of a literal counts as a blank, which is this project's own. So does one behind the last `&` of a
-- line, or in front of the first, where a literal goes on.
abbrev pub is_blank : ℕ → Bool
is_blank c = c == 32 || c == 9

abbrev pub past_blanks : List ℕ → List ℕ
past_blanks [] = []
past_blanks (c ∷ line) = if is_blank c then past_blanks line else c ∷ line

-- ---- character contexts (7.4.4)

abbrev pub is_outside : Context → Bool
is_outside Context.Outside = true
is_outside (Context.Literal mark) = false

-- an apostrophe or a quote
abbrev pub is_mark : ℕ → Bool
is_mark c = c == 39 || c == 34

-- The context behind a character. A mark that is doubled closes its literal and opens it again.
abbrev pub behind : Context → ℕ → Context
behind Context.Outside c = if is_mark c then Context.Literal c else Context.Outside
behind (Context.Literal mark) c = if c == mark then Context.Outside else Context.Literal mark

abbrev pub behind_all : Context → List ℕ → Context
behind_all context [] = context
behind_all context (c ∷ line) = behind_all (behind context c) line

-- ---- comments: `!` outside of a literal begins one

abbrev pub uncommented : Context → List ℕ → List ℕ
uncommented context [] = []
uncommented context (c ∷ line) = if is_outside context && c == 33 then [] else c ∷ uncommented (behind context c) line

abbrev pub has_only_comment : List ℕ → Bool
has_only_comment [] = true
has_only_comment (c ∷ line) = c == 33

-- A comment line is blank, or has nothing in front of its comment.
abbrev pub is_comment_line : List ℕ → Bool
is_comment_line line = has_only_comment (past_blanks line)

-- ---- continuation

-- what stands in front of the last character that isn't blank, where that is `&`
abbrev pub in_front : List ℕ → Option (List ℕ)
in_front [] = None
in_front (c ∷ line) = if c == 38 && list_all is_blank line then Some [] else option_map (λ front. c ∷ front) (in_front line)

abbrev pub past_ampersand : List ℕ → Option (List ℕ)
past_ampersand [] = None
past_ampersand (c ∷ line) = if c == 38 then Some line else None

-- what follows the first character that isn't blank, where that is `&`
abbrev pub behind_first : List ℕ → Option (List ℕ)
behind_first line = past_ampersand (past_blanks line)

-- the context in which a line begins
abbrev pub context_of : Joint → Context
context_of Joint.Begins = Context.Outside
context_of (Joint.Continues context) = context

abbrev pub without_comment : Joint → List ℕ → List ℕ
without_comment joint line = uncommented (context_of joint) line

-- A line in which `&` stands alone counts as continued, too.
abbrev pub is_continued : Joint → List ℕ → Bool
is_continued joint line = is_some (in_front (without_comment joint line))

abbrev pub context_behind : Joint → List ℕ → Context
context_behind joint line = behind_all (context_of joint) (without_comment joint line)

-- how the next line is joined; comment lines are passed over
abbrev pub joint_behind : Joint → List ℕ → Joint
joint_behind joint line =
    if is_comment_line line then joint else (if is_continued joint line then Joint.Continues (context_behind joint line) else Joint.Begins)

-- from where a line goes on with a continued statement
abbrev pub going_on : Joint → List ℕ → List ℕ
going_on Joint.Begins line = line
going_on (Joint.Continues context) line = unwrap_or (behind_first line) line

-- whether a line goes on with its first character, with a blank between
abbrev pub is_apart : Joint → List ℕ → Bool
is_apart Joint.Begins line = false
is_apart (Joint.Continues context) line = is_outside context && is_none (behind_first line)

abbrev pub up_to_last : List ℕ → List ℕ
up_to_last line = unwrap_or (in_front line) line

-- the characters of a line that belong to statements
abbrev pub spelled : Joint → List ℕ → List ℕ
spelled joint line = up_to_last (going_on joint (without_comment joint line))
