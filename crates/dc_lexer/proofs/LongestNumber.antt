-- The word and the number at the front of a text are the longest.
use Rattle.std.proofs.Common.{◌≡◌, ℕ, zero, suc, ◌+◌, ◌-◌, ◌<◌, ◌≤◌, true, false, eqb, leb, ◌&&◌, List, [], ◌∷◌, length, take, drop, Option, Some, None, refl, sym, ap, ◌∙◌, inl, inr, arith, length-drop}
use Rattle.std.proofs.lemmas.Bool.{cases_Bool, or_cases, and_parts, leb-true, lt-leb}
use Rattle.std.proofs.lemmas.List.{take-take, drop-take}
use Rattle.dc_tree.specs.declared.token.Suffix.{Suffix}
use Rattle.dc_tree.specs.declared.token.Token.{Token}
use Rattle.dc_lexer.specs.Bytes.{is_letter, is_digit, is_word_byte, small, span}
use Rattle.dc_lexer.specs.Lexemes.{Lexeme, word_form, kind_form, suffix_form, number_form}
use Rattle.dc_lexer.specs.Scan.{scan_kind, scan_suffix, scan_number, suffixed}
use Rattle.dc_lexer.specs.declared.found.Suffixed.{Suffixed}
use Rattle.dc_lexer.proofs.Spans.{span-within, all-take-span, all-take_more, span-take}

-- The first n bytes are of a form, and no more bytes are.
pub record LongestBy (f : List ℕ → Option Lexeme) (bytes : List ℕ) (n : ℕ) (lexeme : Lexeme) : Type 0 where
  pub within : n ≤ length bytes
  pub is : f (take n bytes) ≡ Some lexeme
  pub longest : (k : ℕ) → n < k → k ≤ length bytes → f (take k bytes) ≡ None

-- ---- bytes

letter-no_digit : (byte : ℕ) → is_letter byte ≡ true → is_digit byte ≡ false
unfolding is_letter is_digit
letter-no_digit byte letter =
    elim (or_cases (leb 65 byte && leb byte 90) (leb 97 byte && leb byte 122) letter) [
      | inl capital ↦ above (leb-true 65 byte (and_parts (leb 65 byte) (leb byte 90) capital).0)
      | inr lower ↦ let h : 97 ≤ byte = leb-true 97 byte (and_parts (leb 97 byte) (leb byte 122) lower).0 in above (omega arith)
    ]
  where
    above : 65 ≤ byte → (leb 48 byte && leb byte 57) ≡ false
    above h = let high : leb byte 57 ≡ false = lt-leb byte 57 (omega arith) in rw high (elim (leb 48 byte) as (λ b. (b && false) ≡ false) [ true ↦ refl | false ↦ refl ])

pub letter-word_byte : (byte : ℕ) → is_letter byte ≡ true → is_word_byte byte ≡ true
unfolding is_word_byte
letter-word_byte byte letter = rw letter refl

-- ---- words

pub word-longest : (byte : ℕ) (bytes : List ℕ) → is_letter byte ≡ true
    → LongestBy word_form (byte ∷ bytes) (span is_word_byte (byte ∷ bytes)) (Token.Word (small (take (span is_word_byte (byte ∷ bytes)) (byte ∷ bytes))))
word-longest byte bytes letter = rw (letter-word_byte byte letter) (record { within = omega (arith, span-within is_word_byte bytes); is = rw letter (rw (all-take-span is_word_byte bytes) refl); longest = beyond })
  where
    beyond : (k : ℕ) → suc (span is_word_byte bytes) < k → k ≤ length (byte ∷ bytes) → word_form (take k (byte ∷ bytes)) ≡ None
    beyond zero more within = refl
    beyond (suc k) more within = rw letter (rw (all-take_more is_word_byte bytes k (omega arith) (omega arith)) refl)

-- ---- the kind of a number

-- what a kind of no byte is, and that none is longer
pub record LongestKind (digits bytes : List ℕ) (found : Suffixed) : Type 0 where
  pub within : found.length ≤ suc (length bytes)
  pub is : suffix_form digits (take found.length (95 ∷ bytes)) ≡ Some (Token.Number digits found.suffix)
  pub longest : (k : ℕ) → found.length < suc k → k ≤ length bytes → kind_form digits (take k bytes) ≡ None

named-longest : (digits : List ℕ) (byte : ℕ) (bytes : List ℕ) → is_letter byte ≡ true
    → LongestKind digits (byte ∷ bytes) (suffixed (suc (span is_word_byte bytes) + 1) (Suffix.Named (small (take (suc (span is_word_byte bytes)) (byte ∷ bytes)))))
named-longest digits byte bytes letter = record { within = omega (arith, span-within is_word_byte bytes); is = is; longest = beyond }
  where
    is : suffix_form digits (take (suc (span is_word_byte bytes) + 1) (95 ∷ byte ∷ bytes)) ≡ Some (Token.Number digits (Suffix.Named (small (take (suc (span is_word_byte bytes)) (byte ∷ bytes)))))
    is =
        let e : suc (span is_word_byte bytes) + 1 ≡ suc (suc (span is_word_byte bytes)) = omega arith in
        rw e (rw letter (rw (all-take-span is_word_byte bytes) refl))

    beyond : (k : ℕ) → suc (span is_word_byte bytes) + 1 < suc k → k ≤ length (byte ∷ bytes) → kind_form digits (take k (byte ∷ bytes)) ≡ None
    beyond zero more within = refl
    beyond (suc k) more within =
        rw letter (rw (all-take_more is_word_byte bytes k (omega arith) (omega arith)) (rw (letter-no_digit byte letter) refl))

digits-longest : (digits : List ℕ) (byte : ℕ) (bytes : List ℕ) → is_letter byte ≡ false → is_digit byte ≡ true
    → LongestKind digits (byte ∷ bytes) (suffixed (suc (span is_digit bytes) + 1) (Suffix.Digits (take (suc (span is_digit bytes)) (byte ∷ bytes))))
digits-longest digits byte bytes other digit = record { within = omega (arith, span-within is_digit bytes); is = is; longest = beyond }
  where
    is : suffix_form digits (take (suc (span is_digit bytes) + 1) (95 ∷ byte ∷ bytes)) ≡ Some (Token.Number digits (Suffix.Digits (take (suc (span is_digit bytes)) (byte ∷ bytes))))
    is =
        let e : suc (span is_digit bytes) + 1 ≡ suc (suc (span is_digit bytes)) = omega arith in
        rw e (rw other (rw digit (rw (all-take-span is_digit bytes) refl)))

    beyond : (k : ℕ) → suc (span is_digit bytes) + 1 < suc k → k ≤ length (byte ∷ bytes) → kind_form digits (take k (byte ∷ bytes)) ≡ None
    beyond zero more within = refl
    beyond (suc k) more within = rw other (rw digit (rw (all-take_more is_digit bytes k (omega arith) (omega arith)) refl))

-- a byte with which no kind begins
neither-longest : (digits : List ℕ) (byte : ℕ) (bytes : List ℕ) → is_letter byte ≡ false → is_digit byte ≡ false → LongestKind digits (byte ∷ bytes) (suffixed 0 Suffix.Absent)
neither-longest digits byte bytes other neither = record { within = omega arith; is = refl; longest = beyond }
  where
    beyond : (k : ℕ) → 0 < suc k → k ≤ length (byte ∷ bytes) → kind_form digits (take k (byte ∷ bytes)) ≡ None
    beyond zero more within = refl
    beyond (suc k) more within = rw other (rw neither refl)

kind-longest : (digits bytes : List ℕ) → LongestKind digits bytes (scan_kind bytes)
kind-longest digits [] = record { within = omega arith; is = refl; longest = λ k more within. elim k as (λ i. kind_form digits (take i []) ≡ None) [ zero ↦ refl | suc i ↦ refl ] }
kind-longest digits (byte ∷ bytes) =
    elim (cases_Bool (is_letter byte)) [
      | inl letter ↦ let word = letter-word_byte byte letter in rw letter (rw word (named-longest digits byte bytes letter))
      | inr other ↦
          elim (cases_Bool (is_digit byte)) [
            | inl digit ↦ rw other (rw digit (digits-longest digits byte bytes other digit))
            | inr neither ↦ rw other (rw neither (neither-longest digits byte bytes other neither))
          ]
    ]

-- ---- what follows the digits

pub suffix-longest : (digits bytes : List ℕ) → LongestBy (suffix_form digits) bytes (scan_suffix bytes).length (Token.Number digits (scan_suffix bytes).suffix)
suffix-longest digits [] = record { within = omega arith; is = refl; longest = λ k more within. absurd (omega arith) }
suffix-longest digits (byte ∷ bytes) = elim (cases_Bool (eqb byte 95)) [ inl joined ↦ rw joined (behind joined (kind-longest digits bytes)) | inr other ↦ rw other (none other) ]
  where
    behind : eqb byte 95 ≡ true → LongestKind digits bytes (scan_kind bytes) → LongestBy (suffix_form digits) (byte ∷ bytes) (scan_kind bytes).length (Token.Number digits (scan_kind bytes).suffix)
    behind joined kind = record { within = kind.within; is = front (scan_kind bytes).length kind.is; longest = beyond }
      where
        front : (n : ℕ) → suffix_form digits (take n (95 ∷ bytes)) ≡ Some (Token.Number digits (scan_kind bytes).suffix) → suffix_form digits (take n (byte ∷ bytes)) ≡ Some (Token.Number digits (scan_kind bytes).suffix)
        front zero is = is
        front (suc n) is = rw joined is

        beyond : (k : ℕ) → (scan_kind bytes).length < k → k ≤ length (byte ∷ bytes) → suffix_form digits (take k (byte ∷ bytes)) ≡ None
        beyond zero more within = absurd (omega arith)
        beyond (suc k) more within = rw joined (kind.longest k more (omega arith))

    none : eqb byte 95 ≡ false → LongestBy (suffix_form digits) (byte ∷ bytes) 0 (Token.Number digits Suffix.Absent)
    none other = record { within = omega arith; is = refl; longest = beyond }
      where
        beyond : (k : ℕ) → 0 < k → k ≤ length (byte ∷ bytes) → suffix_form digits (take k (byte ∷ bytes)) ≡ None
        beyond zero more within = absurd (omega arith)
        beyond (suc k) more within = rw other refl

-- ---- numbers

-- a front that has all the digits is told by what follows them
number_form-front : (bytes : List ℕ) (j : ℕ) → number_form (take (span is_digit bytes + j) bytes) ≡ suffix_form (take (span is_digit bytes) bytes) (take j (drop (span is_digit bytes) bytes))
number_form-front bytes j =
    let n : ℕ = span is_digit bytes in
    let front : List ℕ = take (n + j) bytes in
    let within : n ≤ n + j = omega arith in
    ap (λ (m : ℕ). suffix_form (take m front) (drop m front)) (span-take is_digit bytes j)
    ∙ ap (λ (digits : List ℕ). suffix_form digits (drop n front)) (take-take n (n + j) bytes within)
    ∙ ap (suffix_form (take n bytes)) (drop-take n j bytes)

pub number-longest : (bytes : List ℕ) → LongestBy number_form bytes (scan_number bytes).length (scan_number bytes).lexeme
number-longest bytes = record {
  within = omega (arith, behind.within, span-within is_digit bytes, length-drop n bytes);
  is = number_form-front bytes found.length ∙ behind.is;
  longest = beyond;
}
  where
    n : ℕ
    n = span is_digit bytes

    found : Suffixed
    found = scan_suffix (drop (span is_digit bytes) bytes)

    behind : LongestBy (suffix_form (take (span is_digit bytes) bytes)) (drop (span is_digit bytes) bytes) (scan_suffix (drop (span is_digit bytes) bytes)).length (Token.Number (take (span is_digit bytes) bytes) (scan_suffix (drop (span is_digit bytes) bytes)).suffix)
    behind = suffix-longest (take (span is_digit bytes) bytes) (drop (span is_digit bytes) bytes)

    beyond : (k : ℕ) → (scan_number bytes).length < k → k ≤ length bytes → number_form (take k bytes) ≡ None
    beyond k more within =
        let m : ℕ = span is_digit bytes in
        let j : ℕ = k - m in
        let e : m + j ≡ k = omega arith in
        ap (λ (i : ℕ). number_form (take i bytes)) (sym e)
        ∙ number_form-front bytes j
        ∙ behind.longest j (omega arith) (omega (arith, length-drop m bytes))
