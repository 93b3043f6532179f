-- Each text has tokens or breaks a rule, and one with an open literal breaks rule 8.
use Rattle.std.proofs.Common.{◌≡◌, ℕ, zero, suc, ◌+◌, ◌-◌, ◌<◌, Bool, true, false, eqb, ◌⊎◌, List, [], ◌∷◌, length, take, drop, Option, Some, None, refl, sym, ap, subst, ◌∙◌, inl, inr, arith}
use Rattle.std.specs.Prelude.{option_map}
use Rattle.std.specs.List.{list_any}
use Rattle.std.proofs.lemmas.Bool.{cases_Bool, and_parts, or_cases, eqb-true, false≢true}
use Rattle.dc_tree.specs.declared.token.Token.{Token}
use Rattle.dc_lexer.specs.Bytes.{is_letter, is_digit, is_quote, past_blanks}
use Rattle.dc_lexer.specs.Lexemes.{Lexeme, is_open}
use Rattle.dc_lexer.specs.Readings.{IsLongest, BeginsWith, AreLexemes}
use Rattle.dc_lexer.specs.Tokens.{tokens_of, is_long, is_large}
use Rattle.dc_lexer.specs.Answers.{BreaksRule8, Breaks, HasTokens}
use Rattle.dc_lexer.specs.Scan.{Finds, scan, closes, closed_at, doubled, undoubled}
use Rattle.dc_lexer.specs.declared.found.Scanned.{Scanned}
use Rattle.dc_lexer.proofs.Determined.{from_blanks, past_blanks-past_blanks}
use Rattle.dc_lexer.proofs.Answering.{less_left}
use Rattle.dc_lexer.proofs.Longest.{scan-finds, literal-finds}

-- ---- one lexeme in front, or some

-- What stands behind the first lexeme and breaks rule 8 breaks it for the whole text.
breaks_behind : (text : List ℕ) (n : ℕ) (a : Lexeme) → IsLongest (past_blanks text) n a → BreaksRule8 (drop n (past_blanks text)) → BreaksRule8 text
breaks_behind text n a found broken = record { lexemes = a ∷ broken.lexemes; rest = broken.rest; front = (n, (found, broken.front)); some = broken.some; none = broken.none }

breaks_behind_all : (text : List ℕ) (lexemes : List Lexeme) (rest : List ℕ) → BeginsWith text lexemes rest → BreaksRule8 rest → BreaksRule8 text
breaks_behind_all text [] rest front broken =
    record { lexemes = broken.lexemes; rest = broken.rest; front = from_blanks rest text broken.lexemes broken.rest (ap past_blanks (sym front) ∙ past_blanks-past_blanks text) broken.front; some = broken.some; none = broken.none }
breaks_behind_all text (a ∷ lexemes) rest front broken = breaks_behind text front.0 a front.1.0 (breaks_behind_all (drop front.0 (past_blanks text)) lexemes rest front.1.1 broken)

-- ---- each text

abbrev Whole : List ℕ → Type 0
Whole text = ((lexemes : List Lexeme) × AreLexemes text lexemes) ⊎ BreaksRule8 text

whole_at : (text bytes : List ℕ) → past_blanks text ≡ bytes → ((left : List ℕ) → length (past_blanks left) < length bytes → Whole left) → (found : Option Scanned) → Finds bytes found → Whole text
whole_at text [] is behind found longest = inl ([], is)
whole_at text (byte ∷ bytes) is behind None none = inr (record { lexemes = []; rest = byte ∷ bytes; front = is; some = λ empty. cc; none = none })
whole_at text (byte ∷ bytes) is behind (Some found) longest =
    let left : List ℕ = drop found.length (byte ∷ bytes) in
    let here : IsLongest (past_blanks text) found.length found.lexeme = subst (λ (b : List ℕ). IsLongest b found.length found.lexeme) (sym is) longest in
    let same : left ≡ drop found.length (past_blanks text) = ap (drop found.length) (sym is) in
    elim (behind left (less_left (byte ∷ bytes) (past_blanks left) found.length found.lexeme longest refl)) [
      | inl all ↦ inl (found.lexeme ∷ all.0, (found.length, (here, subst (λ (b : List ℕ). AreLexemes b all.0) same all.1)))
      | inr broken ↦ inr (breaks_behind text found.length found.lexeme here (subst BreaksRule8 same broken))
    ]

whole : (size : ℕ) (text : List ℕ) → length (past_blanks text) < size → Whole text
whole zero text few = absurd (omega arith)
whole (suc size) text few = whole_at text (past_blanks text) refl (λ left less. whole size left (omega (arith, few, less))) (scan (past_blanks text)) (scan-finds (past_blanks text))

pub either : (text : List ℕ) → ((tokens : List Token) × HasTokens text tokens) ⊎ ((rule : ℕ) × Breaks rule text)
either text = elim (whole (suc (length (past_blanks text))) text (omega arith)) [ inl all ↦ by_limits all.0 all.1 (list_any is_long all.0) (list_any is_large all.0) refl refl | inr broken ↦ inr (8, inl (refl, broken)) ]
  where
    by_limits : (lexemes : List Lexeme) → AreLexemes text lexemes → (long large : Bool) → list_any is_long lexemes ≡ long → list_any is_large lexemes ≡ large
        → ((tokens : List Token) × HasTokens text tokens) ⊎ ((rule : ℕ) × Breaks rule text)
    by_limits lexemes are true large long_is large_is = inr (9, inr (inl (refl, record { lexemes = lexemes; rest = []; front = are; long = long_is })))
    by_limits lexemes are false true long_is large_is = inr (10, inr (inr (refl, record { lexemes = lexemes; rest = []; front = are; large = large_is })))
    by_limits lexemes are false false long_is large_is = inl (tokens_of lexemes, record { lexemes = lexemes; are = are; none_long = long_is; none_large = large_is; tokens_are = refl })

-- ---- open literals

-- Where a literal that stays open ends at a doubled quote, the second of the two opens another that stays open.
record OpenBehind (quote : ℕ) (bytes : List ℕ) (n : ℕ) : Type 0 where
  more : List ℕ
  left : drop n bytes ≡ quote ∷ more
  open_still : is_open quote more ≡ true
  shorter : length more < length bytes

abbrev OpenAt : ℕ → List ℕ → Option ℕ → Type 0
OpenAt quote bytes None = Unit {0}
OpenAt quote bytes (Some n) = OpenBehind quote bytes n

open_later : (quote byte : ℕ) (bytes : List ℕ) (found : Option ℕ) → OpenAt quote bytes found → OpenAt quote (byte ∷ bytes) (option_map (λ n. suc n) found)
open_later quote byte bytes None behind = tt
open_later quote byte bytes (Some n) behind = record { more = behind.more; left = behind.left; open_still = behind.open_still; shorter = omega (arith, behind.shorter) }

open_doubled : (quote byte next : ℕ) (bytes : List ℕ) (found : Option ℕ) → eqb next quote ≡ true → is_open quote bytes ≡ true → OpenAt quote bytes found → OpenAt quote (byte ∷ next ∷ bytes) (doubled found)
open_doubled quote byte next bytes None again stays behind = record { more = bytes; left = ap (λ b. b ∷ bytes) (eqb-true next quote again); open_still = stays; shorter = omega arith }
open_doubled quote byte next bytes (Some n) again stays behind = record { more = behind.more; left = behind.left; open_still = behind.open_still; shorter = omega (arith, behind.shorter) }

open_at : (quote : ℕ) (bytes : List ℕ) → is_open quote bytes ≡ true → OpenAt quote bytes (closes quote bytes)
open_at quote [] stays = tt
open_at quote (byte ∷ []) stays =
    elim (cases_Bool (eqb byte quote)) [ inl mark ↦ let no_end = rw mark at stays in absurd (false≢true no_end) | inr other ↦ rw other tt ]
open_at quote (byte ∷ next ∷ bytes) stays =
    elim (cases_Bool (eqb byte quote)) [
      | inl mark ↦
          let parts = and_parts (eqb next quote) (is_open quote bytes) (rw mark at stays) in
          rw mark (rw parts.0 (open_doubled quote byte next bytes (closes quote bytes) parts.0 parts.1 (open_at quote bytes parts.1)))
      | inr other ↦
          let stays_behind = rw other at stays in
          rw other (open_later quote byte (next ∷ bytes) (closes quote (next ∷ bytes)) (open_at quote (next ∷ bytes) stays_behind))
    ]

record IsPlainQuote (quote : ℕ) : Type 0 where
  no_letter : is_letter quote ≡ false
  no_digit : is_digit quote ≡ false
  no_blank : eqb quote 32 ≡ false

plain : (quote : ℕ) → is_quote quote ≡ true → IsPlainQuote quote
unfolding is_quote is_letter is_digit
plain quote mark =
    elim (or_cases (eqb quote 39) (eqb quote 34) mark) [
      | inl single ↦ let e = eqb-true quote 39 single in subst IsPlainQuote (sym e) (record { no_letter = refl; no_digit = refl; no_blank = refl })
      | inr double ↦ let e = eqb-true quote 34 double in subst IsPlainQuote (sym e) (record { no_letter = refl; no_digit = refl; no_blank = refl })
    ]

open_breaks : (size : ℕ) (quote : ℕ) (bytes : List ℕ) → length bytes < size → is_quote quote ≡ true → is_open quote bytes ≡ true → BreaksRule8 (quote ∷ bytes)
open_breaks zero quote bytes few mark stays = absurd (omega arith)
open_breaks (suc size) quote bytes few mark stays =
    by_closed (closes quote bytes) (open_at quote bytes stays) (literal-finds quote bytes kind.no_letter kind.no_digit mark) (λ more less open_still. open_breaks size quote more (omega (arith, few, less)) mark open_still)
  where
    kind : IsPlainQuote quote
    kind = plain quote mark

    visible : past_blanks (quote ∷ bytes) ≡ quote ∷ bytes
    visible = rw kind.no_blank refl

    by_closed : (closed : Option ℕ) → OpenAt quote bytes closed → Finds (quote ∷ bytes) (closed_at quote bytes closed)
        → ((more : List ℕ) → length more < length bytes → is_open quote more ≡ true → BreaksRule8 (quote ∷ more)) → BreaksRule8 (quote ∷ bytes)
    by_closed None behind none again = record { lexemes = []; rest = quote ∷ bytes; front = visible; some = λ empty. cc; none = none }
    by_closed (Some n) behind found again =
        let e : n + 1 ≡ suc n = omega arith in
        let a : Lexeme = Token.Chars (undoubled quote (take (n - 1) bytes)) in
        let here : IsLongest (past_blanks (quote ∷ bytes)) (n + 1) a = subst (λ (b : List ℕ). IsLongest b (n + 1) a) (sym visible) found in
        let left : drop (n + 1) (past_blanks (quote ∷ bytes)) ≡ quote ∷ behind.more = ap (drop (n + 1)) visible ∙ ap (λ (k : ℕ). drop k (quote ∷ bytes)) e ∙ behind.left in
        breaks_behind (quote ∷ bytes) (n + 1) a here (subst BreaksRule8 (sym left) (again behind.more behind.shorter behind.open_still))

pub open-breaks : (text : List ℕ) (lexemes : List Lexeme) (quote : ℕ) (bytes : List ℕ) → BeginsWith text lexemes (quote ∷ bytes) → is_quote quote ≡ true → is_open quote bytes ≡ true → Breaks 8 text
open-breaks text lexemes quote bytes front mark stays = inl (refl, breaks_behind_all text lexemes (quote ∷ bytes) front (open_breaks (suc (length bytes)) quote bytes (omega arith) mark stays))
