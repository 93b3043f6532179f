-- The bytes that lexemes are made of. After ISO/IEC 1539-1:2023, clause 6.1.
use Rattle.std.specs.Prelude.{ℕ, suc, Bool, false, ◌&&◌, ◌||◌, ◌==◌, List, [], ◌∷◌, map, if◌then◌else◌}
use Rattle.std.specs.List.{list_all}
use Rattle.std.specs.Char.{is_ascii_alphabetic, is_ascii_digit, to_ascii_lowercase}

-- `a` to `z` and `A` to `Z`
unfoldable pub is_letter : ℕ → Bool
is_letter byte = is_ascii_alphabetic byte

-- `0` to `9`
unfoldable pub is_digit : ℕ → Bool
is_digit byte = is_ascii_digit byte

-- a letter, a digit or `_`
unfoldable pub is_word_byte : ℕ → Bool
is_word_byte byte = is_letter byte || is_digit byte || byte == 95

-- `'` or `"`
unfoldable pub is_quote : ℕ → Bool
is_quote byte = byte == 39 || byte == 34

-- a text with its capitals made small
abbrev pub small : List ℕ → List ℕ
small bytes = map to_ascii_lowercase bytes

-- a letter, then letters, digits and `_`
abbrev pub is_word : List ℕ → Bool
is_word [] = false
is_word (byte ∷ bytes) = is_letter byte && list_all is_word_byte bytes

-- one digit or more
abbrev pub are_digits : List ℕ → Bool
are_digits [] = false
are_digits (byte ∷ bytes) = is_digit byte && list_all is_digit bytes

-- how many bytes at the front pass a test
abbrev pub span : (ℕ → Bool) → List ℕ → ℕ
span test [] = 0
span test (byte ∷ bytes) = if test byte then suc (span test bytes) else 0

-- a text without the blanks in front of it
abbrev pub past_blanks : List ℕ → List ℕ
past_blanks [] = []
past_blanks (byte ∷ bytes) = if byte == 32 then past_blanks bytes else byte ∷ bytes
