-- The text of a value is taken whole where no part of a value stands behind it.
use Rattle.std.proofs.Common.{◌≡◌, ◌<◌, ℕ, Bool, true, false, not, ◌||◌, ◌==◌, List, [], ◌∷◌, ◌++◌, length, Ok, Err, refl, sym, ap, ◌∙◌, arith}
use Rattle.std.proofs.lemmas.Bool.{and_parts, not-true}
use Rattle.std.specs.Prelude.{ℤ, if◌then◌else◌}
use Rattle.std.specs.List.{list_all}
use Rattle.dc_int.specs.declared.fault.FaultKind.{FaultKind}
use Rattle.dc_int.specs.Sorts.{Sort}
use Rattle.dc_lists.specs.Input.{Taken, ◌>>=◌, is_space, is_gap, is_part, run_of, past_run, past_comma, past_separator, text_here, take_text, value_of, take_value}

-- No part of a value stands in front.
abbrev pub stops : List ℕ → Bool
stops [] = true
stops (byte ∷ left) = not (is_part byte)

run_of_none : (tail : List ℕ) → stops tail ≡ true → run_of is_part tail ≡ []
run_of_none [] stop = refl
run_of_none (byte ∷ left) stop = λ i. if not-true (is_part byte) stop i then byte ∷ run_of is_part left else []

past_none : (tail : List ℕ) → stops tail ≡ true → past_run is_part tail ≡ tail
past_none [] stop = refl
past_none (byte ∷ left) stop = λ i. if not-true (is_part byte) stop i then past_run is_part left else byte ∷ left

run_of_parts : (text tail : List ℕ) → list_all is_part text ≡ true → stops tail ≡ true → run_of is_part (text ++ tail) ≡ text
run_of_parts [] tail all stop = run_of_none tail stop
run_of_parts (byte ∷ text) tail all stop =
    let parts = and_parts (is_part byte) (list_all is_part text) all in
    λ i. if parts.0 i then byte ∷ run_of_parts text tail parts.1 stop i else []

past_parts : (text tail : List ℕ) → list_all is_part text ≡ true → stops tail ≡ true → past_run is_part (text ++ tail) ≡ tail
past_parts [] tail all stop = past_none tail stop
past_parts (byte ∷ text) tail all stop =
    let parts = and_parts (is_part byte) (list_all is_part text) all in
    λ i. if parts.0 i then past_parts text tail parts.1 stop i else byte ∷ (text ++ tail)

-- ---- a part is no space, no gap and no comma

part_no_space : (space feed comma : Bool) → not ((space || feed) || comma) ≡ true → space ≡ false
part_no_space false feed comma part = refl
part_no_space true feed comma part = sym part

part_no_gap : (gap comma : Bool) → not (gap || comma) ≡ true → gap ≡ false
part_no_gap false comma part = refl
part_no_gap true comma part = sym part

part_no_comma : (gap comma : Bool) → not (gap || comma) ≡ true → comma ≡ false
part_no_comma false comma part = not-true comma part
part_no_comma true comma part = absurd (cc)

-- a blank in front of a text is passed as what separates it from the value before
pub past_blank : (text tail : List ℕ) → 0 < length text → list_all is_part text ≡ true → past_separator (32 ∷ (text ++ tail)) ≡ text ++ tail
past_blank [] tail some all = absurd (omega arith)
past_blank (byte ∷ text) tail some all =
    let part = (and_parts (is_part byte) (list_all is_part text) all).0 in
    let no_space = part_no_space (is_space byte) (byte == 10) (byte == 44) part in
    let no_comma = part_no_comma (is_gap byte) (byte == 44) part in
    ap past_comma (λ i. if no_space i then past_run is_space (text ++ tail) else byte ∷ (text ++ tail))
    ∙ (λ i. if no_comma i then text ++ tail else byte ∷ (text ++ tail))

-- ---- the text, and the value

here : (byte : ℕ) (text tail : List ℕ) → list_all is_part (byte ∷ text) ≡ true → stops tail ≡ true
    → text_here ((byte ∷ text) ++ tail) ≡ Ok (byte ∷ text, past_separator tail)
here byte text tail all stop =
    let parts = and_parts (is_part byte) (list_all is_part text) all in
    let whole = run_of_parts (byte ∷ text) tail all stop in
    let rest = past_parts (byte ∷ text) tail all stop in
    λ i. if parts.0 i then Ok (whole i, past_separator (rest i)) else Err FaultKind.BadInput

text_taken : (text tail : List ℕ) → 0 < length text → list_all is_part text ≡ true → stops tail ≡ true
    → take_text (text ++ tail) ≡ Ok (text, past_separator tail)
text_taken [] tail some all stop = absurd (omega arith)
text_taken (byte ∷ text) tail some all stop =
    let parts = and_parts (is_part byte) (list_all is_part text) all in
    let begins = part_no_gap (is_gap byte) (byte == 44) parts.0 in
    ap text_here (λ i. if begins i then past_run is_gap (text ++ tail) else byte ∷ (text ++ tail)) ∙ here byte text tail all stop

-- A text that is one value of this sort.
pub record IsValue (sort : Sort) (z : ℤ) (text : List ℕ) : Type 0 where
  pub some : 0 < length text
  pub parts : list_all is_part text ≡ true
  pub value : value_of sort text ≡ Ok z

pub value_taken : (sort : Sort) (z : ℤ) (text tail : List ℕ) → IsValue sort z text → stops tail ≡ true
    → take_value sort (text ++ tail) ≡ Ok (z, past_separator tail)
value_taken sort z text tail is stop =
    let taken = text_taken text tail is.some is.parts stop in
    ap (λ (found : Taken (List ℕ)). found >>= (λ part. value_of sort part.0 >>= (λ read. Ok (read, part.1)))) taken
    ∙ ap (λ found. found >>= (λ read. Ok (read, past_separator tail))) is.value
