-- The mark at the front of a text is the longest, since longer spellings are tried first.
use Rattle.std.proofs.Common.{◌≡◌, ℕ, zero, suc, ◌<◌, ◌≤◌, Bool, true, false, cond, leb, eqb, ◌&&◌, List, [], ◌∷◌, length, take, Option, Some, None, refl, sym, ap, ◌∙◌, inl, inr, arith}
use Rattle.std.specs.Prelude.{bytes_eq, nat_le, option_map}
use Rattle.std.specs.Char.{to_ascii_lowercase}
use Rattle.std.specs.List.{list_all}
use Rattle.std.proofs.lemmas.Bool.{cases_Bool, and_parts, and_from, leb-true, eqb-true, eq-eqb, false≢true, false_from_ne_true, both_ways}
use Rattle.dc_tree.specs.declared.token.Mark.{Mark}
use Rattle.dc_tree.specs.declared.token.Token.{Token}
use Rattle.dc_lexer.specs.Bytes.{small}
use Rattle.dc_lexer.specs.Lexemes.{Lexeme, Spelling, spellings, mark_of, mark_form}
use Rattle.dc_lexer.specs.Scan.{begins, first_mark, scan_mark, scanned}
use Rattle.dc_lexer.specs.declared.found.Scanned.{Scanned}
use Rattle.dc_lexer.proofs.LongestNumber.{LongestBy}

-- ---- one spelling

both : (b c : Bool) → cond b c false ≡ true → (b ≡ true) × (c ≡ true)
both true c e = (refl, e)
both false c e = absurd (false≢true e)

-- a text that begins with a spelling has it as its front
begins-front : (letters bytes : List ℕ) → begins letters bytes ≡ true → bytes_eq letters (small (take (length letters) bytes)) ≡ true
begins-front [] bytes front = refl
begins-front (letter ∷ letters) [] front = absurd (false≢true front)
begins-front (letter ∷ letters) (byte ∷ bytes) front =
    let parts = both (eqb (to_ascii_lowercase byte) letter) (begins letters bytes) front in
    and_from _ _ (eq-eqb letter (to_ascii_lowercase byte) (sym (eqb-true (to_ascii_lowercase byte) letter parts.0))) (begins-front letters bytes parts.1)

begins-within : (letters bytes : List ℕ) → begins letters bytes ≡ true → length letters ≤ length bytes
begins-within [] bytes front = omega arith
begins-within (letter ∷ letters) [] front = absurd (false≢true front)
begins-within (letter ∷ letters) (byte ∷ bytes) front =
    let more : length letters ≤ length bytes = begins-within letters bytes (both (eqb (to_ascii_lowercase byte) letter) (begins letters bytes) front).1 in
    omega (arith, more)

-- a front that is a spelling is as long, and the text begins with it
front-length : (letters bytes : List ℕ) (k : ℕ) → k ≤ length bytes → bytes_eq letters (small (take k bytes)) ≡ true → k ≡ length letters
front-length [] bytes zero within same = refl
front-length [] [] (suc k) within same = absurd (omega arith)
front-length [] (byte ∷ bytes) (suc k) within same = absurd (false≢true same)
front-length (letter ∷ letters) bytes zero within same = absurd (false≢true same)
front-length (letter ∷ letters) [] (suc k) within same = absurd (omega arith)
front-length (letter ∷ letters) (byte ∷ bytes) (suc k) within same =
    ap suc (front-length letters bytes k (omega arith) (and_parts (eqb letter (to_ascii_lowercase byte)) (bytes_eq letters (small (take k bytes))) same).1)

front-begins : (letters bytes : List ℕ) (k : ℕ) → bytes_eq letters (small (take k bytes)) ≡ true → begins letters bytes ≡ true
front-begins [] bytes k same = refl
front-begins (letter ∷ letters) bytes zero same = absurd (false≢true same)
front-begins (letter ∷ letters) [] (suc k) same = absurd (false≢true same)
front-begins (letter ∷ letters) (byte ∷ bytes) (suc k) same =
    let parts = and_parts (eqb letter (to_ascii_lowercase byte)) (bytes_eq letters (small (take k bytes))) same in
    rw (eq-eqb (to_ascii_lowercase byte) letter (sym (eqb-true letter (to_ascii_lowercase byte) parts.0))) (front-begins letters bytes k parts.1)

-- ---- a table

-- no spelling is longer than one before it
abbrev falls : List Spelling → Bool
falls [] = true
falls (spelling ∷ table) = list_all (λ (other : Spelling). nat_le (length other.bytes) (length spelling.bytes)) table && falls table

longer-none : (table : List Spelling) (n : ℕ) (bytes : List ℕ) (k : ℕ) → list_all (λ (other : Spelling). nat_le (length other.bytes) n) table ≡ true → n < k → k ≤ length bytes → mark_of table (small (take k bytes)) ≡ None
longer-none [] n bytes k short more within = refl
longer-none (spelling ∷ table) n bytes k short more within =
    let parts = and_parts (leb (length spelling.bytes) n) (list_all (λ (other : Spelling). nat_le (length other.bytes) n) table) short in
    let small_enough : length spelling.bytes ≤ n = leb-true (length spelling.bytes) n parts.0 in
    let apart = false_from_ne_true (bytes_eq spelling.bytes (small (take k bytes))) (λ same. let e = front-length spelling.bytes bytes k within same in absurd (omega (arith, e, small_enough))) in
    rw apart (longer-none table n bytes k parts.1 more within)

record MarkAt (table : List Spelling) (bytes : List ℕ) (found : Scanned) : Type 0 where
  mark : Mark
  lexeme_is : found.lexeme ≡ Token.Mark mark
  within : found.length ≤ length bytes
  is : mark_of table (small (take found.length bytes)) ≡ Some mark
  longest : (k : ℕ) → found.length < k → k ≤ length bytes → mark_of table (small (take k bytes)) ≡ None

abbrev FindsMark : List Spelling → List ℕ → Option Scanned → Type 0
FindsMark table bytes None = (k : ℕ) → k ≤ length bytes → mark_of table (small (take k bytes)) ≡ None
FindsMark table bytes (Some found) = MarkAt table bytes found

here : (spelling : Spelling) (table : List Spelling) (bytes : List ℕ) → falls (spelling ∷ table) ≡ true → begins spelling.bytes bytes ≡ true
    → MarkAt (spelling ∷ table) bytes (scanned (length spelling.bytes) (Token.Mark spelling.mark))
here spelling table bytes falling front = record {
  mark = spelling.mark;
  lexeme_is = refl;
  within = begins-within spelling.bytes bytes front;
  is = rw (begins-front spelling.bytes bytes front) refl;
  longest = beyond;
}
  where
    beyond : (k : ℕ) → length spelling.bytes < k → k ≤ length bytes → mark_of (spelling ∷ table) (small (take k bytes)) ≡ None
    beyond k more within =
        let short = (and_parts (list_all (λ (other : Spelling). nat_le (length other.bytes) (length spelling.bytes)) table) (falls table) falling).0 in
        let apart = false_from_ne_true (bytes_eq spelling.bytes (small (take k bytes))) (λ same. let e = front-length spelling.bytes bytes k within same in absurd (omega (arith, e, more))) in
        rw apart (longer-none table (length spelling.bytes) bytes k short more within)

later : (spelling : Spelling) (table : List Spelling) (bytes : List ℕ) (found : Option Scanned) → begins spelling.bytes bytes ≡ false → FindsMark table bytes found → FindsMark (spelling ∷ table) bytes found
later spelling table bytes found other = by_found found
  where
    apart : (k : ℕ) → bytes_eq spelling.bytes (small (take k bytes)) ≡ false
    apart k = false_from_ne_true (bytes_eq spelling.bytes (small (take k bytes))) (λ same. both_ways _ other (front-begins spelling.bytes bytes k same))

    by_found : (found : Option Scanned) → FindsMark table bytes found → FindsMark (spelling ∷ table) bytes found
    by_found None none = λ k within. rw (apart k) (none k within)
    by_found (Some found) at = record {
      mark = at.mark;
      lexeme_is = at.lexeme_is;
      within = at.within;
      is = rw (apart found.length) at.is;
      longest = λ k more within. rw (apart k) (at.longest k more within);
    }

finds_mark : (table : List Spelling) (bytes : List ℕ) → falls table ≡ true → FindsMark table bytes (first_mark table bytes)
finds_mark [] bytes falling = λ k within. refl
finds_mark (spelling ∷ table) bytes falling =
    let more = finds_mark table bytes (and_parts (list_all (λ (other : Spelling). nat_le (length other.bytes) (length spelling.bytes)) table) (falls table) falling).1 in
    elim (cases_Bool (begins spelling.bytes bytes)) [
      | inl front ↦ rw front (here spelling table bytes falling front)
      | inr other ↦ rw other (later spelling table bytes (first_mark table bytes) other more)
    ]

-- ---- all marks

abbrev pub Finds : (List ℕ → Option Lexeme) → List ℕ → Option Scanned → Type 0
Finds f bytes None = (k : ℕ) → k ≤ length bytes → f (take k bytes) ≡ None
Finds f bytes (Some found) = LongestBy f bytes found.length found.lexeme

pub mark-longest : (bytes : List ℕ) → Finds mark_form bytes (scan_mark bytes)
unfolding scan_mark
mark-longest bytes = by_found (first_mark spellings bytes) (finds_mark spellings bytes refl)
  where
    by_found : (found : Option Scanned) → FindsMark spellings bytes found → Finds mark_form bytes found
    by_found None none = λ k within. ap (option_map (λ (mark : Mark). Token.Mark mark)) (none k within)
    by_found (Some found) at = record {
      within = at.within;
      is = ap (option_map (λ (mark : Mark). Token.Mark mark)) at.is ∙ ap (λ (a : Lexeme). Some a) (sym at.lexeme_is);
      longest = λ k more within. ap (option_map (λ (mark : Mark). Token.Mark mark)) (at.longest k more within);
    }
