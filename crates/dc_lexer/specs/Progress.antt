-- How far the code has come in a statement, and the lexemes that led there.
use Rattle.std.specs.Prelude.{◌≡◌, ◌||◌, ◌++◌, List, [], ℕ, Option, Some, None, Result, Ok, Err, if◌then◌else◌}
use Rattle.std.specs.List.{list_any}
use Rattle.dc_tree.specs.declared.fail.Fail.{Fail}
use Rattle.dc_tree.specs.Findings.{finding}
use Rattle.dc_tree.specs.declared.token.Token.{Token}
use Rattle.dc_lexer.specs.Lexemes.{Lexeme}
use Rattle.dc_lexer.specs.Readings.{BeginsWith}
use Rattle.dc_lexer.specs.Tokens.{tokens_of, tokens_of_one, is_long, is_large}
use Rattle.dc_lexer.specs.Answers.{BreaksRule8}
use Rattle.dc_lexer.specs.declared.found.Reading.{Reading}

abbrev pub with_lexeme : Reading → Lexeme → Reading
with_lexeme reading lexeme =
    record { tokens = reading.tokens ++ tokens_of_one lexeme; has_long = reading.has_long || is_long lexeme; has_large = reading.has_large || is_large lexeme }

-- The reading is that of some lexemes, with which the text begins, and the rest is left.
pub record Reached (text : List ℕ) (reading : Reading) (rest : List ℕ) : Type 0 where
  pub lexemes : List Lexeme
  pub front : BeginsWith text lexemes rest
  pub tokens_are : reading.tokens ≡ tokens_of lexemes
  pub long_is : reading.has_long ≡ list_any is_long lexemes
  pub large_is : reading.has_large ≡ list_any is_large lexemes

-- A text was read to its end, or up to a place where no lexeme begins.
abbrev pub Reads : List ℕ → Option Reading → Type 0
Reads text None = BreaksRule8 text
Reads text (Some reading) = Reached text reading []

abbrev pub finish : Option Reading → ℕ → Result (List Token) Fail
finish None line = Err (Fail.Refused (finding 8 line))
finish (Some reading) line =
    if reading.has_long then Err (Fail.Refused (finding 9 line))
    else (if reading.has_large then Err (Fail.Refused (finding 10 line))
    else Ok reading.tokens)
