-- How a text is cut into lexemes. After ISO/IEC 1539-1:2023, clause 6.3.2: blanks stand between
-- lexemes and have no meaning of their own. That the longest lexeme is taken is this project's own.
use Rattle.std.specs.Prelude.{◌≡◌, ◌≤◌, ◌<◌, ℕ, List, [], ◌∷◌, length, take, drop, Some, None}
use Rattle.dc_lexer.specs.Bytes.{past_blanks}
use Rattle.dc_lexer.specs.Lexemes.{Lexeme, form}

-- The first n bytes of a text are this lexeme, and no more of its bytes from the front on are one.
pub record IsLongest (bytes : List ℕ) (n : ℕ) (lexeme : Lexeme) : Type 0 where
  pub within : n ≤ length bytes
  pub is : form (take n bytes) ≡ Some lexeme
  pub longest : (k : ℕ) → n < k → k ≤ length bytes → form (take k bytes) ≡ None

-- No lexeme begins at the front of a text.
abbrev pub BeginsNone : List ℕ → Type 0
BeginsNone bytes = (k : ℕ) → k ≤ length bytes → form (take k bytes) ≡ None

-- A text begins with these lexemes, the longest at each place, and the rest is what stands behind
-- them and the blanks that follow.
abbrev pub BeginsWith : List ℕ → List Lexeme → List ℕ → Type 0
BeginsWith bytes [] rest = past_blanks bytes ≡ rest
BeginsWith bytes (lexeme ∷ lexemes) rest = (n : ℕ) × (IsLongest (past_blanks bytes) n lexeme × BeginsWith (drop n (past_blanks bytes)) lexemes rest)

-- The lexemes of a text, to its end.
abbrev pub AreLexemes : List ℕ → List Lexeme → Type 0
AreLexemes bytes lexemes = BeginsWith bytes lexemes []
