-- Words without blanks and line feeds, and the words of numbers.
use Rattle.std.proofs.Common.{◌≡◌, ℕ, zero, suc, ◌+◌, ◌-◌, ◌<◌, Bool, true, false, ◌&&◌, List, [], ◌∷◌, ◌++◌, map, flat_map, length, refl, ap, ◌∙◌, arith}
use Rattle.std.proofs.lemmas.Bool.{lt-ltb, le-ltb}
use Rattle.std.proofs.lemmas.List.Folds.{list_all-append}
use Rattle.std.proofs.lemmas.Int.Digits.{number_digits_of, all_below_base_digits_of}
use Rattle.std.specs.Prelude.{ℤ, pos, negsuc, nat_lt, if◌then◌else◌}
use Rattle.std.specs.Int.Digits.{digits_of, number_from_digits, AllBelowBase}
use Rattle.std.specs.List.{list_all}
use Rattle.dc_listing.specs.Words.{Word, number, signed, list_words}

-- A byte above the blank, so neither a blank nor a line feed.
abbrev pub is_mark : ℕ → Bool
is_mark byte = nat_lt 32 byte

abbrev pub is_plain : Word → Bool
is_plain word = list_all is_mark word

abbrev pub are_plain : List Word → Bool
are_plain words = list_all is_plain words

-- ---- digits

abbrev pub is_digit : ℕ → Bool
is_digit byte = nat_lt 47 byte && nat_lt byte 58

-- There is a first byte, and it passes a test.
abbrev pub opens : (ℕ → Bool) → List ℕ → Bool
opens test [] = false
opens test (byte ∷ left) = test byte

-- the byte of a digit
abbrev glyph : ℕ → ℕ
glyph digit = 48 + digit

glyphs-plain : (ds : List ℕ) → is_plain (map glyph ds) ≡ true
glyphs-plain [] = refl
glyphs-plain (d ∷ ds) = λ i. lt-ltb 32 (48 + d) (omega arith) i && glyphs-plain ds i

pub number-plain : (n : ℕ) → is_plain (number n) ≡ true
unfolding number
number-plain zero = refl
number-plain (suc n) = glyphs-plain (digits_of 10 (suc n))

pub signed-plain : (z : ℤ) → is_plain (signed z) ≡ true
signed-plain (pos n) = number-plain n
signed-plain (negsuc n) = number-plain (suc n)

-- ---- a number begins with a digit

glyphs-open : (ds r : List ℕ) → 0 < length ds → AllBelowBase 10 ds → opens is_digit (map glyph ds ++ r) ≡ true
glyphs-open [] r some below = absurd (omega arith)
glyphs-open (d ∷ ds) r some below = λ i. lt-ltb 47 (48 + d) (omega arith) i && lt-ltb (48 + d) 58 (omega (arith, below.0)) i

digits-some : (n : ℕ) → 0 < length (digits_of 10 (suc n))
digits-some n = by (digits_of 10 (suc n)) (number_digits_of 10 (suc n) (omega arith))
  where
    by : (ds : List ℕ) → number_from_digits 10 ds ≡ suc n → 0 < length ds
    by [] is = absurd (omega (arith, is))
    by (d ∷ ds) is = omega arith

pub number-opens : (n : ℕ) (r : List ℕ) → opens is_digit (number n ++ r) ≡ true
unfolding number
number-opens zero r = refl
number-opens (suc n) r = glyphs-open (digits_of 10 (suc n)) r (digits-some n) (all_below_base_digits_of 10 (suc n) (omega arith))

-- ---- numbers are read back

-- the digit of a byte
abbrev value : ℕ → ℕ
value byte = byte - 48

abbrev pub number_in : Word → ℕ
number_in word = number_from_digits 10 (map value word)

glyphs-back : (ds : List ℕ) → map value (map glyph ds) ≡ ds
glyphs-back [] = refl
glyphs-back (d ∷ ds) = let one : 48 + d - 48 ≡ d = omega arith in λ i. one i ∷ glyphs-back ds i

pub number-back : (n : ℕ) → number_in (number n) ≡ n
unfolding number
number-back zero = refl
number-back (suc n) = ap (number_from_digits 10) (glyphs-back (digits_of 10 (suc n))) ∙ number_digits_of 10 (suc n) (omega arith)

-- `-` is the only byte below the digits that a number begins with.
abbrev pub signed_in : Word → ℤ
signed_in [] = pos 0
signed_in (byte ∷ word) = if nat_lt byte 48 then negsuc (number_in word - 1) else pos (number_in (byte ∷ word))

glyphs-signed : (ds : List ℕ) → 0 < length ds → signed_in (map glyph ds) ≡ pos (number_in (map glyph ds))
glyphs-signed [] some = absurd (omega arith)
glyphs-signed (d ∷ ds) some =
    let high : nat_lt (48 + d) 48 ≡ false = le-ltb (48 + d) 48 (omega arith) in
    λ i. if high i then negsuc (number_in (map glyph ds) - 1) else pos (number_in (map glyph (d ∷ ds)))

number-signed : (n : ℕ) → signed_in (number n) ≡ pos (number_in (number n))
unfolding number
number-signed zero = refl
number-signed (suc n) = glyphs-signed (digits_of 10 (suc n)) (digits-some n)

pub signed-back : (z : ℤ) → signed_in (signed z) ≡ z
signed-back (pos n) = number-signed n ∙ ap pos (number-back n)
signed-back (negsuc n) = let one : suc n - 1 ≡ n = omega arith in ap (λ m. negsuc (m - 1)) (number-back (suc n)) ∙ ap negsuc one

-- ---- plain lists

pub both-plain : (first others : List Word) → are_plain first ≡ true → are_plain others ≡ true → are_plain (first ++ others) ≡ true
both-plain first others one two = list_all-append is_plain first others ∙ (λ i. one i && two i)

pub items-plain : {A : Type 0} (words : A → List Word) → ((x : A) → are_plain (words x) ≡ true) → (xs : List A) → are_plain (flat_map words xs) ≡ true
items-plain words each [] = refl
items-plain words each (x ∷ xs) = both-plain (words x) (flat_map words xs) (each x) (items-plain words each xs)

pub list-plain : {A : Type 0} (words : A → List Word) → ((x : A) → are_plain (words x) ≡ true) → (xs : List A) → are_plain (list_words words xs) ≡ true
list-plain words each xs = λ i. number-plain (length xs) i && items-plain words each xs i
