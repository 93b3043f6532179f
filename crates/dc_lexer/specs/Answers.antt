-- What the reader of tokens answers. The rules and their order are this project's own.
use Rattle.std.specs.Prelude.{◌≡◌, ◌≢◌, ◌⊎◌, ℕ, true, false, List, [], Result, Ok, Err}
use Rattle.std.specs.List.{list_any}
use Rattle.dc_tree.specs.declared.fail.Fail.{Fail}
use Rattle.dc_tree.specs.declared.logical_lines.Logical.{Logical}
use Rattle.dc_tree.specs.declared.token.Token.{Token}
use Rattle.dc_tree.specs.Findings.{IsFirst}
use Rattle.dc_lexer.specs.Lexemes.{Lexeme}
use Rattle.dc_lexer.specs.Readings.{BeginsNone, BeginsWith, AreLexemes}
use Rattle.dc_lexer.specs.Tokens.{tokens_of, is_long, is_large}

-- Rule 8: behind some lexemes of the text something is left, and no lexeme begins there. A literal
-- that isn't closed leads to such a place, at its first quote or at one of its doubled quotes.
pub record BreaksRule8 (text : List ℕ) : Type 0 where
  pub lexemes : List Lexeme
  pub rest : List ℕ
  pub front : BeginsWith text lexemes rest
  pub some : rest ≢ []
  pub none : BeginsNone rest

-- Rule 9: among the lexemes that the text begins with, one has a word that is too long.
pub record BreaksRule9 (text : List ℕ) : Type 0 where
  pub lexemes : List Lexeme
  pub rest : List ℕ
  pub front : BeginsWith text lexemes rest
  pub long : list_any is_long lexemes ≡ true

-- Rule 10: among the lexemes that the text begins with, one is a number that is too large.
pub record BreaksRule10 (text : List ℕ) : Type 0 where
  pub lexemes : List Lexeme
  pub rest : List ℕ
  pub front : BeginsWith text lexemes rest
  pub large : list_any is_large lexemes ≡ true

-- Each rule is broken or kept by itself, whatever the text does to the others. Rules 9 and 10 ask the
-- lexemes that are reached from the front, and so none behind a place where no lexeme begins.
abbrev pub Breaks : ℕ → List ℕ → Type 0
Breaks rule text = ((rule ≡ 8) × BreaksRule8 text) ⊎ (((rule ≡ 9) × BreaksRule9 text) ⊎ ((rule ≡ 10) × BreaksRule10 text))

-- A statement breaks rules on its own line alone.
abbrev pub broken_in : Logical → ℕ → ℕ → Type 0
broken_in statement rule line = (line ≡ statement.line) × Breaks rule statement.text

-- The text has lexemes to its end, none of them passes a limit, and these are its tokens.
pub record HasTokens (text : List ℕ) (tokens : List Token) : Type 0 where
  pub lexemes : List Lexeme
  pub are : AreLexemes text lexemes
  pub none_long : list_any is_long lexemes ≡ false
  pub none_large : list_any is_large lexemes ≡ false
  pub tokens_are : tokens ≡ tokens_of lexemes

-- Want of memory may come at any time.
abbrev pub Answers : Logical → Result (List Token) Fail → Type 0
Answers statement (Ok tokens) = HasTokens statement.text tokens
Answers statement (Err (Fail.Refused refusal)) = IsFirst (broken_in statement) refusal
Answers statement (Err Fail.NoMemory) = Unit {0}
