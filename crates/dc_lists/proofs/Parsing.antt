-- What std's `parse` gives for the text of a number.
use Rattle.std.proofs.Common.{◌≡◌, ◌<◌, ◌==◌, ◌⊎◌, ℕ, Bool, true, false, cond, List, [], ◌∷◌, length, drop, Some, None, Result, Ok, Err, refl, sym, ap, ◌∙◌, arith, inl, inr}
use Rattle.std.proofs.lemmas.Bool.{cases_Bool, false_from_ne_true, true≢false, eqb-true}
use Rattle.std.proofs.lemmas.Int.{ints}
use Rattle.std.proofs.lemmas.Str.{IsUtf8-from_ascii}
use Rattle.std.proofs.lemmas.Str.Ascii.{IsAscii-nil, IsAscii-cons}
use Rattle.std.proofs.lemmas.Str.Parse.{numerals_by_value, tells_all_ascii_digits, digit_from_value}
use Rattle.std.specs.Prelude.{ℤ, pos, neg_ℤ, FitsSigned, if◌then◌else◌, option_map, OkIff}
use Rattle.std.specs.Int.{w64}
use Rattle.std.specs.Str.{IsAscii, IsUtf8, all_ascii_digits}
use Rattle.std.specs.Str.Parse.{AllDigits, IsNumeral, digits_value, ParsesSigned}
use Rattle.dc_int.specs.declared.fault.FaultKind.{FaultKind}
use Rattle.dc_int.specs.declared.kind.Kind.{Kind}
use Rattle.dc_int.specs.Kinds.{is_of_kind}
use Rattle.dc_int.proofs.Wraps.{is_of_kind-true, is_of_kind-holds}
use Rattle.dc_lists.specs.Input.{unsigned_in, negative, signed_from, signed_in, of_kind}
use Rattle.dc_lists.proofs.Numbers.{unsigned_back}

-- ---- digits

no_number : (text : List ℕ) → ¬ IsNumeral 10 text → unsigned_in text ≡ None
no_number [] none = refl
no_number (byte ∷ text) none =
    let model = numerals_by_value (λ digits. all_ascii_digits digits ≡ true) tells_all_ascii_digits in
    let other = false_from_ne_true (all_ascii_digits (byte ∷ text)) (λ all. none (omega arith, model.to (byte ∷ text) all)) in
    λ i. if other i then Some (digits_value 10 (byte ∷ text)) else None

-- digits or not
cases_numeral : (text : List ℕ) → IsNumeral 10 text ⊎ (¬ IsNumeral 10 text)
cases_numeral [] = inr (λ numeral. let some : 0 < length {A = ℕ} [] = numeral.0 in omega arith)
cases_numeral (byte ∷ text) =
    let model = numerals_by_value (λ digits. all_ascii_digits digits ≡ true) tells_all_ascii_digits in
    elim (cases_Bool (all_ascii_digits (byte ∷ text))) [
      | inl all ↦ inl (omega arith, model.to (byte ∷ text) all)
      | inr other ↦ inr (λ numeral. true≢false (sym (model.from (byte ∷ text) numeral.1) ∙ other))
    ]

digits_ascii : (text : List ℕ) → AllDigits 10 text → IsAscii text
digits_ascii [] digits = IsAscii-nil
digits_ascii (byte ∷ text) digits =
    let within = digit_from_value byte digits.0 in
    let low : byte < 128 = omega (arith, within.1) in
    IsAscii-cons byte text low (digits_ascii text digits.1)

-- ---- the widest kind

within_widest : (z : ℤ) → FitsSigned w64 z → is_of_kind Kind.K8 z ≡ true
within_widest z fits = is_of_kind-holds Kind.K8 z (omega (arith, ints), omega (arith, ints))

from_widest : (z : ℤ) → is_of_kind Kind.K8 z ≡ true → FitsSigned w64 z
from_widest z test = let within = is_of_kind-true Kind.K8 z test in omega (arith, ints, within.0, within.1)

-- What was answered: the number that is there, or that there is none.
abbrev pub Told : {E : Type 0} → Result ℤ E → Result ℤ FaultKind → Type 0
Told (Ok z) found = found ≡ Ok z
Told (Err e) found = found ≡ Err FaultKind.BadInput

-- digits whose number is taken as it is, or with its sign turned
read_digits : {E : Type 0} (signed : ℕ → ℤ) (text : List ℕ) (r : Result ℤ E)
    → OkIff r (IsNumeral 10 text × FitsSigned w64 (signed (digits_value 10 text))) (signed (digits_value 10 text))
    → Told r (of_kind Kind.K8 (option_map signed (unsigned_in text)))
read_digits signed text (Ok z) told =
    let value : ℤ = signed (digits_value 10 text) in
    let within = within_widest value told.0.1 in
    ap (λ found. of_kind Kind.K8 (option_map signed found)) (unsigned_back text told.0.0)
    ∙ (λ i. if within i then Ok value else Err FaultKind.BadInput)
    ∙ ap (λ number. Ok number) (sym told.1)
read_digits signed text (Err e) told =
    let value : ℤ = signed (digits_value 10 text) in
    elim (cases_numeral text) [
      | inl numeral ↦
          (let outside = false_from_ne_true (is_of_kind Kind.K8 value) (λ test. told (numeral, from_widest value test)) in
          ap (λ found. of_kind Kind.K8 (option_map signed found)) (unsigned_back text numeral)
          ∙ (λ i. if outside i then Ok value else Err FaultKind.BadInput))
      | inr none ↦ ap (λ found. of_kind Kind.K8 (option_map signed found)) (no_number text none)
    ]

-- ---- signs

-- the digits behind a sign, by whether there is a minus or a plus
abbrev digits_behind : Bool → Bool → List ℕ → List ℕ
digits_behind minus plus bytes = cond minus (drop 1 bytes) (drop (cond plus 1 0) bytes)

abbrev number_behind : Bool → Bool → List ℕ → ℤ
number_behind minus plus bytes =
    cond minus (neg_ℤ (pos (digits_value 10 (digits_behind minus plus bytes)))) (pos (digits_value 10 (digits_behind minus plus bytes)))

read_signed : {E : Type 0} (minus plus : Bool) (byte : ℕ) (text : List ℕ) (r : Result ℤ E)
    → OkIff r (IsNumeral 10 (digits_behind minus plus (byte ∷ text)) × FitsSigned w64 (number_behind minus plus (byte ∷ text)))
    (number_behind minus plus (byte ∷ text))
    → Told r (of_kind Kind.K8 (if minus then option_map negative (unsigned_in text)
    else (if plus then option_map pos (unsigned_in text) else option_map pos (unsigned_in (byte ∷ text)))))
read_signed true plus byte text r told = read_digits negative text r told
read_signed false true byte text r told = read_digits pos text r told
read_signed false false byte text r told = read_digits pos (byte ∷ text) r told

pub parsed : {E : Type 0} (text : List ℕ) (r : Result ℤ E) → ParsesSigned w64 10 text r → Told r (of_kind Kind.K8 (signed_in text))
parsed [] (Ok z) told = absurd (let some : 0 < length {A = ℕ} [] = told.0.0.0 in omega arith)
parsed [] (Err e) told = refl
parsed (byte ∷ text) r told = read_signed (byte == 45) (byte == 43) byte text r told

-- ---- bytes that are no text

behind_sign : (byte : ℕ) (text : List ℕ) → byte < 128 → ¬ IsUtf8 (byte ∷ text) → unsigned_in text ≡ None
behind_sign byte text low other =
    no_number text (λ numeral. other (IsUtf8-from_ascii (byte ∷ text) (IsAscii-cons byte text low (digits_ascii text numeral.1))))

no_sign : (text : List ℕ) → ¬ IsUtf8 text → unsigned_in text ≡ None
no_sign text other = no_number text (λ numeral. other (IsUtf8-from_ascii text (digits_ascii text numeral.1)))

no_signed : (byte : ℕ) (text : List ℕ) → ¬ IsUtf8 (byte ∷ text) → signed_from byte text ≡ None
no_signed byte text other =
    elim (cases_Bool (byte == 45)) [
      | inl minus ↦
          (let is : byte ≡ 45 = eqb-true byte 45 minus in
          (λ i. if minus i then option_map negative (unsigned_in text)
          else (if byte == 43 then option_map pos (unsigned_in text) else option_map pos (unsigned_in (byte ∷ text))))
          ∙ ap (λ found. option_map negative found) (behind_sign byte text (omega arith) other))
      | inr no_minus ↦
          ((λ i. if no_minus i then option_map negative (unsigned_in text)
          else (if byte == 43 then option_map pos (unsigned_in text) else option_map pos (unsigned_in (byte ∷ text))))
          ∙ elim (cases_Bool (byte == 43)) [
            | inl plus ↦
                (let is : byte ≡ 43 = eqb-true byte 43 plus in
                (λ i. if plus i then option_map pos (unsigned_in text) else option_map pos (unsigned_in (byte ∷ text)))
                ∙ ap (λ found. option_map pos found) (behind_sign byte text (omega arith) other))
            | inr no_plus ↦
                ((λ i. if no_plus i then option_map pos (unsigned_in text) else option_map pos (unsigned_in (byte ∷ text)))
                ∙ ap (λ found. option_map pos found) (no_sign (byte ∷ text) other))
          ])
    ]

pub no_text : (text : List ℕ) → ¬ IsUtf8 text → of_kind Kind.K8 (signed_in text) ≡ Err FaultKind.BadInput
no_text [] other = refl
no_text (byte ∷ text) other = ap (of_kind Kind.K8) (no_signed byte text other)
