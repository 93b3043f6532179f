-- From the lexemes to the tokens, and the limits of both. After ISO/IEC 1539-1:2023, clauses 6.2.2
-- (63 characters) and 6.3.2.2 (words that may be joined); the greatest number is this project's own.
use Rattle.std.specs.Prelude.{ℕ, Bool, false, List, [], ◌∷◌, ◌++◌, length, nat_lt, codes, bytes_eq, Option, Some, None, if◌then◌else◌}
use Rattle.dc_tree.specs.declared.token.Suffix.{Suffix}
use Rattle.dc_tree.specs.declared.token.Token.{Token}
use Rattle.dc_tree.specs.Literals.{number_of}
use Rattle.dc_lexer.specs.Lexemes.{Lexeme}

-- ---- joined words

pub record Joined : Type 0 where
  pub first : List ℕ
  pub second : List ℕ

abbrev joins : List ℕ → List ℕ → Joined
joins first second = record { first = first; second = second }

-- the words that may be written as one
abbrev pub joined : List Joined
joined =
    joins (codes "end") (codes "do") ∷ joins (codes "end") (codes "if") ∷ joins (codes "else") (codes "if") ∷ joins (codes "end") (codes "program")
    ∷ joins (codes "end") (codes "function") ∷ joins (codes "end") (codes "subroutine") ∷ joins (codes "select") (codes "case")
    ∷ joins (codes "end") (codes "select") ∷ []

-- the two words that a word stands for, if it is joined
abbrev pub split : List Joined → List ℕ → Option Joined
split [] word = None
split (pair ∷ pairs) word = if bytes_eq (pair.first ++ pair.second) word then Some pair else split pairs word

abbrev pub word_tokens : List ℕ → Option Joined → List Token
word_tokens word None = Token.Word word ∷ []
word_tokens word (Some pair) = Token.Word pair.first ∷ Token.Word pair.second ∷ []

-- A joined word gives two tokens, and every other lexeme gives itself. The kind of a number is never two words.
abbrev pub tokens_of_one : Lexeme → List Token
tokens_of_one (Token.Word word) = word_tokens word (split joined word)
tokens_of_one lexeme = lexeme ∷ []

abbrev pub tokens_of : List Lexeme → List Token
tokens_of [] = []
tokens_of (lexeme ∷ lexemes) = tokens_of_one lexeme ++ tokens_of lexemes

-- ---- limits

-- A word has more than 63 characters: a lexeme itself, or the kind of a number.
abbrev pub is_long : Lexeme → Bool
is_long (Token.Word word) = nat_lt 63 (length word)
is_long (Token.Number digits (Suffix.Named word)) = nat_lt 63 (length word)
is_long lexeme = false

-- A number is greater than the greatest number of the widest kind. Zeros in front don't count, and
-- the digits of its kind aren't asked.
abbrev pub is_large : Lexeme → Bool
is_large (Token.Number digits suffix) = nat_lt 9223372036854775807 (number_of digits)
is_large lexeme = false
