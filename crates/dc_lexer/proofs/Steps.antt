-- The steps of the code's loops.
use Rattle.std.proofs.Common.{◌≡◌, ℕ, suc, ◌+◌, ◌-◌, ◌*◌, ◌<◌, ◌≤◌, true, false, eqb, List, [], ◌∷◌, length, get_or, take, drop, Option, Some, None, refl, sym, ap, ◌∙◌, arith}
use Rattle.std.specs.Prelude.{option_map, nat_lt}
use Rattle.std.proofs.lemmas.Bool.{lt-ltb, ne_eqb, eq-eqb}
use Rattle.std.proofs.lemmas.List.{take_all}
use Rattle.dc_tree.specs.Literals.{number_from, number_of}
use Rattle.dc_lexer.specs.Scan.{closes, closed_later, doubled}

-- ---- numbers

-- digits that follow make no number less
number_from-grows : (n : ℕ) (digits : List ℕ) → n ≤ number_from n digits
number_from-grows n [] = omega arith
number_from-grows n (digit ∷ digits) = omega (arith, number_from-grows (n * 10 + (digit - 48)) digits)

pub is_above : (most n : ℕ) (digits all : List ℕ) → most < n → number_from n digits ≡ number_of all → true ≡ nat_lt most (number_of all)
is_above most n digits all above is = sym (lt-ltb most (number_of all) (omega (arith, number_from-grows n digits, is)))

-- ---- literals

pub closed_later-other : (closed : Option ℕ) (passed : ℕ) (found : Option ℕ) → closed_later closed (passed + 1) found ≡ closed_later closed passed (option_map (λ n. suc n) found)
closed_later-other closed passed None = refl
closed_later-other closed passed (Some n) = let e : (passed + 1) + n ≡ passed + suc n = omega arith in ap (λ (m : ℕ). Some m) e

pub closed_later-twice : (closed : Option ℕ) (passed : ℕ) (found : Option ℕ) → closed_later (Some (passed + 1)) (passed + 2) found ≡ closed_later closed passed (doubled found)
closed_later-twice closed passed None = refl
closed_later-twice closed passed (Some n) = let e : (passed + 2) + n ≡ passed + suc (suc n) = omega arith in ap (λ (m : ℕ). Some m) e

-- what is behind the first byte
abbrev pub behind : List ℕ → List ℕ
behind bytes = take (length bytes - 1) (drop 1 bytes)

behind-cons : (byte : ℕ) (bytes : List ℕ) → behind (byte ∷ bytes) ≡ bytes
behind-cons byte bytes = take_all (suc (length bytes) - 1) bytes (omega arith)

pub length-behind : (bytes : List ℕ) → 1 ≤ length bytes → length (behind bytes) + 1 ≡ length bytes
length-behind [] some = absurd (omega arith)
length-behind (byte ∷ bytes) some = rw (behind-cons byte bytes) (omega arith)

-- a byte that isn't the quote
closes-other : (closed : Option ℕ) (passed quote byte : ℕ) (bytes : List ℕ) → eqb byte quote ≡ false
    → closed_later closed (passed + 1) (closes quote bytes) ≡ closed_later closed passed (closes quote (byte ∷ bytes))
closes-other closed passed quote byte [] other = rw other refl
closes-other closed passed quote byte (next ∷ bytes) other = rw other (closed_later-other closed passed (closes quote (next ∷ bytes)))

pub closes-behind : (closed : Option ℕ) (passed quote : ℕ) (rest : List ℕ) → 1 ≤ length rest → (get_or rest 0 0 ≡ quote → ⊥)
    → closed_later closed (passed + 1) (closes quote (behind rest)) ≡ closed_later closed passed (closes quote rest)
closes-behind closed passed quote [] some other = absurd (omega arith)
closes-behind closed passed quote (byte ∷ bytes) some other =
    ap (λ (b : List ℕ). closed_later closed (passed + 1) (closes quote b)) (behind-cons byte bytes) ∙ closes-other closed passed quote byte bytes (ne_eqb byte quote other)

-- the quote twice
closes-twice : (closed : Option ℕ) (passed quote byte next : ℕ) (bytes : List ℕ) → eqb byte quote ≡ true → eqb next quote ≡ true
    → closed_later (Some (passed + 1)) (passed + 2) (closes quote bytes) ≡ closed_later closed passed (closes quote (byte ∷ next ∷ bytes))
closes-twice closed passed quote byte next bytes mark again = rw mark (rw again (closed_later-twice closed passed (closes quote bytes)))

pub closes-behind_two : (closed : Option ℕ) (passed quote : ℕ) (rest : List ℕ) → 1 ≤ length rest → get_or rest 0 0 ≡ quote → 1 ≤ length (behind rest) → get_or (behind rest) 0 0 ≡ quote
    → closed_later (Some (passed + 1)) (passed + 2) (closes quote (behind (behind rest))) ≡ closed_later closed passed (closes quote rest)
closes-behind_two closed passed quote [] some mark more again = absurd (omega arith)
closes-behind_two closed passed quote (byte ∷ []) some mark more again = absurd (omega arith)
closes-behind_two closed passed quote (byte ∷ next ∷ bytes) some mark more again =
    let first = behind-cons byte (next ∷ bytes) in
    let here : next ≡ quote = ap (λ (b : List ℕ). get_or b 0 0) (sym first) ∙ again in
    ap (λ (b : List ℕ). closed_later (Some (passed + 1)) (passed + 2) (closes quote b)) (ap behind first ∙ behind-cons next bytes)
    ∙ closes-twice closed passed quote byte next bytes (eq-eqb byte quote mark) (eq-eqb next quote here)
