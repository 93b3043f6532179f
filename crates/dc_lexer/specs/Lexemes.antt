-- The lexemes: what the bytes of a lexeme spell. After ISO/IEC 1539-1:2023, clause 6.2: names are of
-- clause 6.2.2, numbers of 7.4.3.1, literals of 7.4.4, truths of 7.4.5, and operators of 6.2.4 and
-- 10.1.5. That there are no other constants, operators and delimiters is this project's own.
use Rattle.std.specs.Prelude.{ℕ, Bool, true, not, ◌&&◌, ◌==◌, List, [], ◌∷◌, take, drop, Option, Some, None, option_map, codes, bytes_eq, if◌then◌else◌}
use Rattle.dc_tree.specs.declared.token.Mark.{Mark}
use Rattle.dc_tree.specs.declared.token.Suffix.{Suffix}
use Rattle.dc_tree.specs.declared.token.Token.{Token}
use Rattle.dc_lexer.specs.Bytes.{is_letter, is_digit, is_quote, small, is_word, are_digits, span}

-- A lexeme is a token, but for the joined words, each of which is one lexeme and two tokens.
abbrev pub Lexeme : Type 0
Lexeme = Token

-- ---- words and numbers

-- A word is in small letters.
abbrev pub word_form : List ℕ → Option Lexeme
word_form bytes = if is_word bytes then Some (Token.Word (small bytes)) else None

-- The kind of a number is a word, in small letters, or digits.
abbrev pub kind_form : List ℕ → List ℕ → Option Lexeme
kind_form digits kind =
    if is_word kind then Some (Token.Number digits (Suffix.Named (small kind)))
    else (if are_digits kind then Some (Token.Number digits (Suffix.Digits kind)) else None)

-- Behind the digits of a number stands nothing, or `_` and a kind.
abbrev pub suffix_form : List ℕ → List ℕ → Option Lexeme
suffix_form digits [] = Some (Token.Number digits Suffix.Absent)
suffix_form digits (byte ∷ kind) = if byte == 95 then kind_form digits kind else None

abbrev pub number_form : List ℕ → Option Lexeme
number_form bytes = suffix_form (take (span is_digit bytes) bytes) (drop (span is_digit bytes) bytes)

-- ---- characters

-- The text of a literal, from behind the quote that opens it. The same quote closes it at the very
-- end. Where the quote stands twice inside, it stands once in the text. A literal that isn't closed is
-- no lexeme.
abbrev pub literal : ℕ → List ℕ → Option (List ℕ)
literal quote [] = None
literal quote (byte ∷ []) = if byte == quote then Some [] else None
literal quote (byte ∷ next ∷ bytes) =
    if byte == quote then (if next == quote then option_map (λ text. quote ∷ text) (literal quote bytes) else None)
    else option_map (λ text. byte ∷ text) (literal quote (next ∷ bytes))

-- Bytes behind a quote leave the literal open where each of its quotes in them stands twice.
abbrev pub is_open : ℕ → List ℕ → Bool
is_open quote [] = true
is_open quote (byte ∷ []) = not (byte == quote)
is_open quote (byte ∷ next ∷ bytes) = if byte == quote then next == quote && is_open quote bytes else is_open quote (next ∷ bytes)

abbrev pub characters_form : ℕ → List ℕ → Option Lexeme
characters_form quote bytes = option_map (λ text. Token.Chars text) (literal quote bytes)

-- ---- marks

pub record Spelling : Type 0 where
  pub bytes : List ℕ
  pub mark : Mark

abbrev spells : List ℕ → Mark → Spelling
spells bytes mark = record { bytes = bytes; mark = mark }

-- The spellings of the marks, in small letters and the longer ones first. A relation has two.
abbrev pub spellings : List Spelling
spellings =
    spells (codes ".false.") Mark.False ∷ spells (codes ".neqv.") Mark.Neqv ∷ spells (codes ".true.") Mark.True ∷ spells (codes ".not.") Mark.Not
    ∷ spells (codes ".and.") Mark.And ∷ spells (codes ".eqv.") Mark.Eqv ∷ spells (codes ".or.") Mark.Or ∷ spells (codes ".eq.") Mark.Eq
    ∷ spells (codes ".ne.") Mark.Ne ∷ spells (codes ".lt.") Mark.Lt ∷ spells (codes ".le.") Mark.Le ∷ spells (codes ".gt.") Mark.Gt
    ∷ spells (codes ".ge.") Mark.Ge ∷ spells (codes "::") Mark.Colons ∷ spells (codes "**") Mark.Power ∷ spells (codes "==") Mark.Eq
    ∷ spells (codes "/=") Mark.Ne ∷ spells (codes "<=") Mark.Le ∷ spells (codes ">=") Mark.Ge ∷ spells (codes "<") Mark.Lt
    ∷ spells (codes ">") Mark.Gt ∷ spells (codes "(") Mark.Open ∷ spells (codes ")") Mark.Close ∷ spells (codes "[") Mark.OpenList
    ∷ spells (codes "]") Mark.CloseList ∷ spells (codes ",") Mark.Comma ∷ spells (codes ":") Mark.Colon ∷ spells (codes "=") Mark.Equals
    ∷ spells (codes "+") Mark.Plus ∷ spells (codes "-") Mark.Minus ∷ spells (codes "*") Mark.Times ∷ spells (codes "/") Mark.Slash ∷ []

-- the mark that a text spells
abbrev pub mark_of : List Spelling → List ℕ → Option Mark
mark_of [] bytes = None
mark_of (spelling ∷ spellings) bytes = if bytes_eq spelling.bytes bytes then Some spelling.mark else mark_of spellings bytes

abbrev pub mark_form : List ℕ → Option Lexeme
mark_form bytes = option_map (λ mark. Token.Mark mark) (mark_of spellings (small bytes))

-- ---- all of them

-- The lexeme that the bytes are, all of them together, if they are one. The first byte says of which
-- sort it is.
abbrev pub form : List ℕ → Option Lexeme
form [] = None
form (byte ∷ bytes) =
    if is_letter byte then word_form (byte ∷ bytes)
    else (if is_digit byte then number_form (byte ∷ bytes)
    else (if is_quote byte then characters_form byte bytes
    else mark_form (byte ∷ bytes)))
