-- What a value of a sort writes is a text that is this value.
use Rattle.std.proofs.Common.{◌≡◌, ◌≤◌, ◌<◌, ◌^◌, ℕ, zero, suc, true, not, ◌||◌, ◌&&◌, List, [], ◌∷◌, length, Some, None, Ok, Err, refl, ap, ◌∙◌, arith, decimal}
use Rattle.std.proofs.lemmas.Bool.{and_parts, ne_eqb, leb-true}
use Rattle.std.proofs.lemmas.Fmt.{decimal_is_IsNumeral}
use Rattle.std.proofs.lemmas.Int.{ints}
use Rattle.std.proofs.lemmas.Str.Parse.{numerals_by_value, tells_all_ascii_digits, digit_from_value}
use Rattle.std.specs.Prelude.{ℤ, pos, negsuc, if◌then◌else◌, option_map, int_le}
use Rattle.std.specs.Fmt.{signed_decimal}
use Rattle.std.specs.List.{list_all}
use Rattle.std.specs.Str.{all_ascii_digits}
use Rattle.std.specs.Str.Parse.{AllDigits, IsNumeral, digits_value}
use Rattle.dc_int.specs.declared.fault.FaultKind.{FaultKind}
use Rattle.dc_int.specs.declared.kind.Kind.{Kind}
use Rattle.dc_int.specs.Kinds.{InRange, is_of_kind, is_truth_value}
use Rattle.dc_int.specs.Sorts.{Sort, whole, logical}
use Rattle.dc_int.proofs.Wraps.{is_of_kind-true}
use Rattle.dc_lists.specs.Input.{is_part, unsigned_in, negative, signed_in, of_kind}
use Rattle.dc_lists.specs.Output.{is_of_sort, written}
use Rattle.dc_lists.proofs.Texts.{IsValue}

digit_is_part : (byte : ℕ) → 48 ≤ byte → is_part byte ≡ true
digit_is_part byte low =
    let blank = ne_eqb byte 32 (λ e. omega arith) in
    let tab = ne_eqb byte 9 (λ e. omega arith) in
    let return = ne_eqb byte 13 (λ e. omega arith) in
    let feed = ne_eqb byte 10 (λ e. omega arith) in
    let comma = ne_eqb byte 44 (λ e. omega arith) in
    λ i. not ((((blank i || tab i) || return i) || feed i) || comma i)

digits_are_parts : (text : List ℕ) → AllDigits 10 text → list_all is_part text ≡ true
digits_are_parts [] digits = refl
digits_are_parts (byte ∷ text) digits = λ i. digit_is_part byte (digit_from_value byte digits.0).0 i && digits_are_parts text digits.1 i

pub unsigned_back : (text : List ℕ) → IsNumeral 10 text → unsigned_in text ≡ Some (digits_value 10 text)
unsigned_back [] numeral = absurd (let some : 0 < length {A = ℕ} [] = numeral.0 in omega arith)
unsigned_back (byte ∷ text) numeral =
    let model = numerals_by_value (λ digits. all_ascii_digits digits ≡ true) tells_all_ascii_digits in
    let all = model.from (byte ∷ text) numeral.1 in
    λ i. if all i then Some (digits_value 10 (byte ∷ text)) else None

no_sign : (text : List ℕ) → IsNumeral 10 text → signed_in text ≡ option_map pos (unsigned_in text)
no_sign [] numeral = refl
no_sign (byte ∷ text) numeral =
    let low = (digit_from_value byte numeral.1.0).0 in
    let minus = ne_eqb byte 45 (λ e. omega arith) in
    let plus = ne_eqb byte 43 (λ e. omega arith) in
    λ i. if minus i then option_map negative (unsigned_in text)
    else (if plus i then option_map pos (unsigned_in text) else option_map pos (unsigned_in (byte ∷ text)))

-- A text of parts that writes this number.
record Writes (z : ℤ) (text : List ℕ) : Type 0 where
  some : 0 < length text
  parts : list_all is_part text ≡ true
  number : signed_in text ≡ Some z

decimal_back : (n : ℕ) → n < 2 ^ 64 → unsigned_in (decimal n) ≡ Some n
decimal_back n small = let numeral = decimal_is_IsNumeral n small in unsigned_back (decimal n) numeral.0 ∙ ap (λ m. Some m) numeral.1

decimal_writes : (n : ℕ) → n < 2 ^ 64 → Writes (pos n) (decimal n)
decimal_writes n small =
    let numeral = decimal_is_IsNumeral n small in
    record {
      some = numeral.0.0;
      parts = digits_are_parts (decimal n) numeral.0.1;
      number = no_sign (decimal n) numeral.0 ∙ ap (λ found. option_map pos found) (decimal_back n small);
    }

minus_writes : (n : ℕ) → suc n < 2 ^ 64 → Writes (negsuc n) (45 ∷ decimal (suc n))
minus_writes n small =
    let numeral = decimal_is_IsNumeral (suc n) small in
    record {
      some = omega arith;
      parts = digits_are_parts (decimal (suc n)) numeral.0.1;
      number = ap (λ found. option_map negative found) (decimal_back (suc n) small);
    }

small_above : (kind : Kind) (n : ℕ) → InRange kind (pos n) → n < 2 ^ 64
small_above Kind.K1 n within = omega (arith, ints)
small_above Kind.K2 n within = omega (arith, ints)
small_above Kind.K4 n within = omega (arith, ints)
small_above Kind.K8 n within = omega (arith, ints)

small_below : (kind : Kind) (n : ℕ) → InRange kind (negsuc n) → suc n < 2 ^ 64
small_below Kind.K1 n within = omega (arith, ints)
small_below Kind.K2 n within = omega (arith, ints)
small_below Kind.K4 n within = omega (arith, ints)
small_below Kind.K8 n within = omega (arith, ints)

number_writes : (kind : Kind) (z : ℤ) → InRange kind z → Writes z (signed_decimal z)
number_writes kind (pos n) within = decimal_writes n (small_above kind n within)
number_writes kind (negsuc n) within = minus_writes n (small_below kind n within)

number_is_value : (kind : Kind) (z : ℤ) → is_of_kind kind z ≡ true → IsValue (whole kind) z (signed_decimal z)
number_is_value kind z within =
    let writes = number_writes kind z (is_of_kind-true kind z within) in
    let in_range : of_kind kind (Some z) ≡ Ok z = λ i. if within i then Ok z else Err FaultKind.BadInput in
    record { some = writes.some; parts = writes.parts; value = ap (of_kind kind) writes.number ∙ in_range }

truth_is_value : (z : ℤ) → is_truth_value z ≡ true → IsValue logical z (written logical z)
truth_is_value (pos zero) fits = record { some = omega arith; parts = refl; value = refl }
truth_is_value (pos (suc zero)) fits = record { some = omega arith; parts = refl; value = refl }
truth_is_value (pos (suc (suc n))) fits =
    let parts = and_parts (int_le (pos 0) (pos (suc (suc n)))) (int_le (pos (suc (suc n))) (pos 1)) fits in
    let few : suc (suc n) ≤ 1 = leb-true (suc (suc n)) 1 parts.1 in
    absurd (omega arith)
truth_is_value (negsuc n) fits = absurd (cc)

pub written_is_value : (sort : Sort) (z : ℤ) → is_of_sort sort z ≡ true → IsValue sort z (written sort z)
written_is_value (whole kind) z fits = number_is_value kind z fits
written_is_value logical z fits = truth_is_value z fits
