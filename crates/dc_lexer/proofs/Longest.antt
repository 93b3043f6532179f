-- What the code finds at the front of a text is the longest lexeme there.
use Rattle.std.proofs.Common.{◌≡◌, ℕ, zero, suc, ◌+◌, ◌-◌, ◌<◌, ◌≤◌, true, false, List, [], ◌∷◌, length, take, Option, Some, None, refl, ap, ◌∙◌, inl, inr, arith}
use Rattle.std.specs.Prelude.{option_map}
use Rattle.std.proofs.lemmas.Bool.{cases_Bool}
use Rattle.std.proofs.lemmas.Option.{none-some}
use Rattle.dc_tree.specs.declared.token.Token.{Token}
use Rattle.dc_lexer.specs.Bytes.{is_letter, is_digit, is_quote}
use Rattle.dc_lexer.specs.Lexemes.{Lexeme, form, word_form, number_form, mark_form, characters_form}
use Rattle.dc_lexer.specs.Readings.{IsLongest, BeginsNone}
use Rattle.dc_lexer.specs.Scan.{Finds, scan, scan_word, scan_number, scan_mark, scan_literal, closes, closed_at, undoubled}
use Rattle.dc_lexer.specs.declared.found.Scanned.{Scanned}
use Rattle.dc_lexer.proofs.LongestLiteral.{Closes, closes-closes}
use Rattle.dc_lexer.proofs.LongestNumber.{LongestBy, letter-word_byte, word-longest, number-longest}
use Rattle.dc_lexer.proofs.LongestMark as marks

-- The lexemes that begin with a byte are those of one form.
from_form : (f : List ℕ → Option Lexeme) (byte : ℕ) (bytes : List ℕ) (n : ℕ) (a : Lexeme) → ((k : ℕ) → form (byte ∷ take k bytes) ≡ f (byte ∷ take k bytes)) → 0 < n → LongestBy f (byte ∷ bytes) n a → IsLongest (byte ∷ bytes) n a
from_form f byte bytes zero a same some found = absurd (omega arith)
from_form f byte bytes (suc n) a same some found = record { within = found.within; is = same n ∙ found.is; longest = beyond }
  where
    beyond : (k : ℕ) → suc n < k → k ≤ length (byte ∷ bytes) → form (take k (byte ∷ bytes)) ≡ None
    beyond zero more within = refl
    beyond (suc k) more within = same k ∙ found.longest (suc k) more within

none_from_form : (f : List ℕ → Option Lexeme) (byte : ℕ) (bytes : List ℕ) → ((k : ℕ) → form (byte ∷ take k bytes) ≡ f (byte ∷ take k bytes)) → ((k : ℕ) → k ≤ length (byte ∷ bytes) → f (take k (byte ∷ bytes)) ≡ None) → BeginsNone (byte ∷ bytes)
none_from_form f byte bytes same none zero within = refl
none_from_form f byte bytes same none (suc k) within = same k ∙ none (suc k) within

word-finds : (byte : ℕ) (bytes : List ℕ) → is_letter byte ≡ true → IsLongest (byte ∷ bytes) (scan_word (byte ∷ bytes)).length (scan_word (byte ∷ bytes)).lexeme
word-finds byte bytes letter = from_form word_form byte bytes (scan_word (byte ∷ bytes)).length (scan_word (byte ∷ bytes)).lexeme (λ k. rw letter refl) (rw (letter-word_byte byte letter) (omega arith)) (word-longest byte bytes letter)

number-finds : (byte : ℕ) (bytes : List ℕ) → is_letter byte ≡ false → is_digit byte ≡ true → IsLongest (byte ∷ bytes) (scan_number (byte ∷ bytes)).length (scan_number (byte ∷ bytes)).lexeme
number-finds byte bytes other digit = from_form number_form byte bytes (scan_number (byte ∷ bytes)).length (scan_number (byte ∷ bytes)).lexeme same some (number-longest (byte ∷ bytes))
  where
    same : (k : ℕ) → form (byte ∷ take k bytes) ≡ number_form (byte ∷ take k bytes)
    same k = rw other (rw digit refl)

    some : 0 < (scan_number (byte ∷ bytes)).length
    some = rw digit (omega arith)

-- ---- literals

literal-form : (quote : ℕ) (bytes : List ℕ) (k : ℕ) → is_letter quote ≡ false → is_digit quote ≡ false → is_quote quote ≡ true → form (quote ∷ take k bytes) ≡ characters_form quote (take k bytes)
literal-form quote bytes k other neither mark = rw other (rw neither (rw mark refl))

pub literal-finds : (quote : ℕ) (bytes : List ℕ) → is_letter quote ≡ false → is_digit quote ≡ false → is_quote quote ≡ true → Finds (quote ∷ bytes) (scan_literal quote bytes)
literal-finds quote bytes other neither mark = by_closed (closes quote bytes) (closes-closes quote bytes)
  where
    by_closed : (closed : Option ℕ) → Closes quote bytes closed → Finds (quote ∷ bytes) (closed_at quote bytes closed)
    by_closed None none = at
      where
        at : (k : ℕ) → k ≤ length (quote ∷ bytes) → form (take k (quote ∷ bytes)) ≡ None
        at zero within = refl
        at (suc k) within = literal-form quote bytes k other neither mark ∙ ap (option_map (λ (text : List ℕ). Token.Chars text)) (none k)
    by_closed (Some n) closed = record { within = omega (arith, closed.within); is = is; longest = beyond }
      where
        is : form (take (n + 1) (quote ∷ bytes)) ≡ Some (Token.Chars (undoubled quote (take (n - 1) bytes)))
        is =
            let e : n + 1 ≡ suc n = omega arith in
            let inner_is : closed.inner ≡ n - 1 = omega (arith, closed.length_is) in
            ap (λ (k : ℕ). form (take k (quote ∷ bytes))) e
            ∙ literal-form quote bytes n other neither mark
            ∙ ap (option_map (λ (text : List ℕ). Token.Chars text)) closed.text
            ∙ ap (λ (k : ℕ). Some (Token.Chars (undoubled quote (take k bytes)))) inner_is

        beyond : (k : ℕ) → n + 1 < k → k ≤ length (quote ∷ bytes) → form (take k (quote ∷ bytes)) ≡ None
        beyond zero more within = refl
        beyond (suc k) more within =
            literal-form quote bytes k other neither mark
            ∙ ap (option_map (λ (text : List ℕ). Token.Chars text)) (closed.longest k (omega arith) (omega arith))

-- ---- marks

mark-finds : (byte : ℕ) (bytes : List ℕ) → is_letter byte ≡ false → is_digit byte ≡ false → is_quote byte ≡ false → Finds (byte ∷ bytes) (scan_mark (byte ∷ bytes))
mark-finds byte bytes other neither apart = by_found (scan_mark (byte ∷ bytes)) (marks.mark-longest (byte ∷ bytes))
  where
    same : (k : ℕ) → form (byte ∷ take k bytes) ≡ mark_form (byte ∷ take k bytes)
    same k = rw other (rw neither (rw apart refl))

    by_found : (found : Option Scanned) → marks.Finds mark_form (byte ∷ bytes) found → Finds (byte ∷ bytes) found
    by_found None none = none_from_form mark_form byte bytes same none
    by_found (Some found) at = from_form mark_form byte bytes found.length found.lexeme same (some found.length at.is) at
      where
        some : (n : ℕ) → mark_form (take n (byte ∷ bytes)) ≡ Some found.lexeme → 0 < n
        some zero is = absurd (none-some _ is)
        some (suc n) is = omega arith

-- ---- all of them

pub scan-finds : (bytes : List ℕ) → Finds bytes (scan bytes)
scan-finds [] = λ k within. elim k as (λ i. form (take i []) ≡ None) [ zero ↦ refl | suc i ↦ refl ]
scan-finds (byte ∷ bytes) =
    elim (cases_Bool (is_letter byte)) [
      | inl letter ↦ rw letter (word-finds byte bytes letter)
      | inr other ↦
          elim (cases_Bool (is_digit byte)) [
            | inl digit ↦ let found = rw digit at (number-finds byte bytes other digit) in rw other (rw digit found)
            | inr neither ↦
                elim (cases_Bool (is_quote byte)) [
                  | inl mark ↦ rw other (rw neither (rw mark (literal-finds byte bytes other neither mark)))
                  | inr apart ↦ rw other (rw neither (rw apart (mark-finds byte bytes other neither apart)))
                ]
          ]
    ]
