-- From the lexemes that were read to the answer.
use Rattle.std.proofs.Common.{◌≡◌, ℕ, ◌<◌, ◌≤◌, Bool, true, false, ◌||◌, List, [], ◌∷◌, ◌++◌, length, drop, Option, Some, None, Result, Ok, Err, refl, sym, ap, subst, ◌∙◌, inl, inr, arith, append_assoc, append-nil, length-drop}
use Rattle.std.specs.Prelude.{IfOk}
use Rattle.std.specs.List.{list_any}
use Rattle.std.proofs.lemmas.Bool.Decides.{eqb_tells}
use Rattle.std.proofs.lemmas.List.Folds.{list_any-append}
use Rattle.dc_tree.specs.declared.fail.Fail.{Fail}
use Rattle.dc_tree.specs.declared.logical_lines.Logical.{Logical}
use Rattle.dc_tree.specs.declared.token.Token.{Token}
use Rattle.dc_tree.specs.Findings.{IsFirst, finding}
use Rattle.dc_lexer.specs.Bytes.{past_blanks}
use Rattle.dc_lexer.specs.Lexemes.{Lexeme}
use Rattle.dc_lexer.specs.Readings.{IsLongest, BeginsWith}
use Rattle.dc_lexer.specs.Tokens.{tokens_of, tokens_of_one, is_long, is_large}
use Rattle.dc_lexer.specs.Answers.{BreaksRule8, BreaksRule9, BreaksRule10, Breaks, broken_in, HasTokens, Answers}
use Rattle.dc_lexer.specs.Scan.{Finds, scan}
use Rattle.dc_lexer.specs.Progress.{with_lexeme, Reached, Reads, finish}
use Rattle.dc_lexer.specs.declared.found.Reading.{Reading}
use Rattle.dc_lexer.specs.declared.found.Scanned.{Scanned}
use Rattle.dc_lexer.proofs.Determined.{some_bytes, keeps_rule8, keeps_rule9, keeps_rule10}
use Rattle.dc_lexer.proofs.Longest.{scan-finds}

pub ok-finds : {E : Type 0} (bytes : List ℕ) (result : Result (Option Scanned) E) → IfOk result (λ found. found ≡ scan bytes) → IfOk result (λ found. Finds bytes found)
ok-finds bytes (Ok found) is = subst (λ (f : Option Scanned). Finds bytes f) (sym is) (scan-finds bytes)
ok-finds bytes (Err error) is = tt

pub found_longest : (bytes : List ℕ) (found : Option Scanned) (here : Scanned) → Finds bytes found → found ≡ Some here → IsLongest bytes here.length here.lexeme
found_longest bytes found here finds is = subst (λ (f : Option Scanned). Finds bytes f) is finds

-- ---- one lexeme more

past_blanks-within : (bytes : List ℕ) → length (past_blanks bytes) ≤ length bytes
past_blanks-within [] = omega arith
past_blanks-within (byte ∷ bytes) =
    let more : length (past_blanks bytes) ≤ length bytes = past_blanks-within bytes in
    elim (eqb_tells byte 32) [ inl blank ↦ rw blank.0 (omega (arith, more)) | inr other ↦ rw other.0 (omega arith) ]

pub less_left : (bytes left : List ℕ) (n : ℕ) (a : Lexeme) → IsLongest bytes n a → left ≡ past_blanks (drop n bytes) → length left < length bytes
less_left bytes left n a found is = omega (arith, found.within, some_bytes n a bytes found, past_blanks-within (drop n bytes), length-drop n bytes, ap length is)

begins_with-more : (text : List ℕ) (lexemes : List Lexeme) (rest : List ℕ) (n : ℕ) (a : Lexeme) → BeginsWith text lexemes rest → IsLongest rest n a → BeginsWith text (lexemes ++ a ∷ []) (past_blanks (drop n rest))
begins_with-more text [] rest n a front found =
    (n, (subst (λ (b : List ℕ). IsLongest b n a) (sym front) found, ap (λ (b : List ℕ). past_blanks (drop n b)) front))
begins_with-more text (b ∷ lexemes) rest n a front found = (front.0, (front.1.0, begins_with-more (drop front.0 (past_blanks text)) lexemes rest n a front.1.1 found))

tokens_of-push : (lexemes : List Lexeme) (a : Lexeme) → tokens_of lexemes ++ tokens_of_one a ≡ tokens_of (lexemes ++ a ∷ [])
tokens_of-push [] a = sym (append-nil (tokens_of_one a))
tokens_of-push (b ∷ lexemes) a = append_assoc (tokens_of_one b) (tokens_of lexemes) (tokens_of_one a) ∙ ap (λ (ts : List Token). tokens_of_one b ++ ts) (tokens_of-push lexemes a)

list_any-push : (test : Lexeme → Bool) (lexemes : List Lexeme) (a : Lexeme) → (list_any test lexemes || test a) ≡ list_any test (lexemes ++ a ∷ [])
list_any-push test lexemes a = ap (λ (b : Bool). list_any test lexemes || b) (with_none (test a)) ∙ sym (list_any-append test lexemes (a ∷ []))
  where
    with_none : (b : Bool) → b ≡ (b || false)
    with_none true = refl
    with_none false = refl

pub reached-more : (text : List ℕ) (reading next : Reading) (rest left : List ℕ) (n : ℕ) (a : Lexeme) → Reached text reading rest → IsLongest rest n a → next ≡ with_lexeme reading a → left ≡ past_blanks (drop n rest) → Reached text next left
reached-more text reading next rest left n a reached found next_is left_is =
    subst (λ (r : Reading). Reached text r left) (sym next_is) (
    record {
      lexemes = reached.lexemes ++ a ∷ [];
      front = subst (λ (l : List ℕ). BeginsWith text (reached.lexemes ++ a ∷ []) l) (sym left_is) (begins_with-more text reached.lexemes rest n a reached.front found);
      tokens_are = ap (λ (ts : List Token). ts ++ tokens_of_one a) reached.tokens_are ∙ tokens_of-push reached.lexemes a;
      long_is = ap (λ (b : Bool). b || is_long a) reached.long_is ∙ list_any-push is_long reached.lexemes a;
      large_is = ap (λ (b : Bool). b || is_large a) reached.large_is ∙ list_any-push is_large reached.lexemes a;
    }
    )

-- ---- the answer

-- the least rule is the one that is told
pub least8 : (text : List ℕ) (other : ℕ) → other < 8 → Breaks other text → ⊥
least8 text other less broken =
    elim broken [
      | inl eight ↦ let e = eight.0 in absurd (omega (arith, e))
      | inr more ↦ elim more [ inl nine ↦ let e = nine.0 in absurd (omega (arith, e)) | inr ten ↦ let e = ten.0 in absurd (omega (arith, e)) ]
    ]

least9 : (text : List ℕ) → (BreaksRule8 text → ⊥) → (other : ℕ) → other < 9 → Breaks other text → ⊥
least9 text keeps other less broken =
    elim broken [
      | inl eight ↦ keeps eight.1
      | inr more ↦ elim more [ inl nine ↦ let e = nine.0 in absurd (omega (arith, e)) | inr ten ↦ let e = ten.0 in absurd (omega (arith, e)) ]
    ]

least10 : (text : List ℕ) → (BreaksRule8 text → ⊥) → (BreaksRule9 text → ⊥) → (other : ℕ) → other < 10 → Breaks other text → ⊥
least10 text keeps keeps_too other less broken =
    elim broken [
      | inl eight ↦ keeps eight.1
      | inr more ↦ elim more [ inl nine ↦ keeps_too nine.1 | inr ten ↦ let e = ten.0 in absurd (omega (arith, e)) ]
    ]

pub first-broken : (statement : Logical) (rule : ℕ) → Breaks rule statement.text → ((other : ℕ) → other < rule → Breaks other statement.text → ⊥)
    → IsFirst (broken_in statement) (finding rule statement.line)
first-broken statement rule broken least = record {
  broken = (refl, broken);
  no_earlier = λ other line less found. let same = found.0 in absurd (omega (arith, less, same));
  no_lesser = λ other less found. least other less found.1;
}

finished : (statement : Logical) (reading : Reading) (long large : Bool) → reading.has_long ≡ long → reading.has_large ≡ large → Reached statement.text reading []
    → Answers statement (finish (Some reading) statement.line)
finished statement reading true large long_is large_is reached =
    let broken : BreaksRule9 statement.text = record { lexemes = reached.lexemes; rest = []; front = reached.front; long = sym reached.long_is ∙ long_is } in
    rw long_is (first-broken statement 9 (inr (inl (refl, broken))) (least9 statement.text (keeps_rule8 statement.text reached.lexemes reached.front)))
finished statement reading false true long_is large_is reached =
    let broken : BreaksRule10 statement.text = record { lexemes = reached.lexemes; rest = []; front = reached.front; large = sym reached.large_is ∙ large_is } in
    let keeps = keeps_rule9 statement.text reached.lexemes reached.front (sym reached.long_is ∙ long_is) in
    rw long_is (
    rw large_is (
    first-broken statement 10 (inr (inr (refl, broken))) (least10 statement.text (keeps_rule8 statement.text reached.lexemes reached.front) keeps)
    )
    )
finished statement reading false false long_is large_is reached =
    rw long_is (
    rw large_is (
    record {
      lexemes = reached.lexemes;
      are = reached.front;
      none_long = sym reached.long_is ∙ long_is;
      none_large = sym reached.large_is ∙ large_is;
      tokens_are = reached.tokens_are;
    }
    )
    )

pub answered : (statement : Logical) (reading : Option Reading) (result : Result (List Token) Fail) → Reads statement.text reading → result ≡ finish reading statement.line → Answers statement result
answered statement reading result reads is = subst (λ (r : Result (List Token) Fail). Answers statement r) (sym is) (by_reading reading reads)
  where
    by_reading : (reading : Option Reading) → Reads statement.text reading → Answers statement (finish reading statement.line)
    by_reading None broken = first-broken statement 8 (inl (refl, broken)) (least8 statement.text)
    by_reading (Some reading) reached = finished statement reading reading.has_long reading.has_large refl refl reached

-- ---- both answers at once are none

pub kept : (text : List ℕ) (tokens : List Token) (rule : ℕ) → HasTokens text tokens → Breaks rule text → ⊥
kept text tokens rule has broken =
    elim broken [
      | inl eight ↦ keeps_rule8 text has.lexemes has.are eight.1
      | inr more ↦ elim more [ inl nine ↦ keeps_rule9 text has.lexemes has.are has.none_long nine.1 | inr ten ↦ keeps_rule10 text has.lexemes has.are has.none_large ten.1 ]
    ]
