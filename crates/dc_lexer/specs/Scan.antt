-- How the code finds a lexeme at the front of a text: its functions, as equations. That what they
-- find is the longest lexeme is said by `Finds`, and no public clause cites the rest.
use Rattle.std.specs.Prelude.{ℕ, suc, ◌+◌, ◌-◌, Bool, true, false, ◌==◌, List, [], ◌∷◌, length, take, drop, bytes_eq, Option, Some, None, option_map, if◌then◌else◌}
use Rattle.std.specs.Char.{to_ascii_lowercase}
use Rattle.dc_tree.specs.declared.token.Suffix.{Suffix}
use Rattle.dc_tree.specs.declared.token.Token.{Token}
use Rattle.dc_lexer.specs.Bytes.{is_letter, is_digit, is_word_byte, is_quote, small, span}
use Rattle.dc_lexer.specs.Lexemes.{Lexeme, Spelling, spellings}
use Rattle.dc_lexer.specs.Readings.{IsLongest, BeginsNone}
use Rattle.dc_lexer.specs.Tokens.{Joined}
use Rattle.dc_lexer.specs.declared.found.Scanned.{Scanned}
use Rattle.dc_lexer.specs.declared.found.Suffixed.{Suffixed}

-- The longest lexeme at the front of a text was found, or there is none.
abbrev pub Finds : List ℕ → Option Scanned → Type 0
Finds bytes None = BeginsNone bytes
Finds bytes (Some found) = IsLongest bytes found.length found.lexeme

abbrev pub scanned : ℕ → Lexeme → Scanned
scanned n lexeme = record { length = n; lexeme = lexeme }

abbrev pub suffixed : ℕ → Suffix → Suffixed
suffixed n suffix = record { length = n; suffix = suffix }

-- ---- words and numbers

abbrev pub scan_word : List ℕ → Scanned
scan_word bytes = scanned (span is_word_byte bytes) (Token.Word (small (take (span is_word_byte bytes) bytes)))

-- the kind of a number, behind `_`
abbrev pub scan_kind : List ℕ → Suffixed
scan_kind [] = suffixed 0 Suffix.Absent
scan_kind (byte ∷ bytes) =
    if is_letter byte then suffixed (span is_word_byte (byte ∷ bytes) + 1) (Suffix.Named (small (take (span is_word_byte (byte ∷ bytes)) (byte ∷ bytes))))
    else (if is_digit byte then suffixed (span is_digit (byte ∷ bytes) + 1) (Suffix.Digits (take (span is_digit (byte ∷ bytes)) (byte ∷ bytes)))
    else suffixed 0 Suffix.Absent)

abbrev pub scan_suffix : List ℕ → Suffixed
scan_suffix [] = suffixed 0 Suffix.Absent
scan_suffix (byte ∷ bytes) = if byte == 95 then scan_kind bytes else suffixed 0 Suffix.Absent

abbrev pub with_suffix : ℕ → List ℕ → Suffixed → Scanned
with_suffix n digits found = scanned (n + found.length) (Token.Number digits found.suffix)

abbrev pub scan_number : List ℕ → Scanned
scan_number bytes = with_suffix (span is_digit bytes) (take (span is_digit bytes) bytes) (scan_suffix (drop (span is_digit bytes) bytes))

-- ---- characters

-- where a doubled quote closes a literal, unless it goes on and is closed later
abbrev pub doubled : Option ℕ → Option ℕ
doubled None = Some 1
doubled (Some n) = Some (suc (suc n))

-- how many bytes there are up to the quote that closes a literal, with it
abbrev pub closes : ℕ → List ℕ → Option ℕ
closes quote [] = None
closes quote (byte ∷ []) = if byte == quote then Some 1 else None
closes quote (byte ∷ next ∷ bytes) =
    if byte == quote then (if next == quote then doubled (closes quote bytes) else Some 1) else option_map (λ n. suc n) (closes quote (next ∷ bytes))

-- where a literal closes, of which some bytes are passed: later, or where it was closed before
abbrev pub closed_later : Option ℕ → ℕ → Option ℕ → Option ℕ
closed_later closed passed None = closed
closed_later closed passed (Some n) = Some (passed + n)

-- a text with one quote for each two
abbrev pub undoubled : ℕ → List ℕ → List ℕ
undoubled quote [] = []
undoubled quote (byte ∷ []) = byte ∷ []
undoubled quote (byte ∷ next ∷ bytes) = if byte == quote then byte ∷ undoubled quote bytes else byte ∷ undoubled quote (next ∷ bytes)

abbrev pub closed_at : ℕ → List ℕ → Option ℕ → Option Scanned
closed_at quote bytes None = None
closed_at quote bytes (Some n) = Some (scanned (n + 1) (Token.Chars (undoubled quote (take (n - 1) bytes))))

abbrev pub scan_literal : ℕ → List ℕ → Option Scanned
scan_literal quote bytes = closed_at quote bytes (closes quote bytes)

-- ---- marks

-- a text begins with a spelling, whatever the case of its letters
abbrev pub begins : List ℕ → List ℕ → Bool
begins [] bytes = true
begins (letter ∷ letters) [] = false
begins (letter ∷ letters) (byte ∷ bytes) = if to_ascii_lowercase byte == letter then begins letters bytes else false

abbrev pub first_mark : List Spelling → List ℕ → Option Scanned
first_mark [] bytes = None
first_mark (spelling ∷ table) bytes = if begins spelling.bytes bytes then Some (scanned (length spelling.bytes) (Token.Mark spelling.mark)) else first_mark table bytes

unfoldable pub scan_mark : List ℕ → Option Scanned
scan_mark bytes = first_mark spellings bytes

-- ---- all of them

abbrev pub scan : List ℕ → Option Scanned
scan [] = None
scan (byte ∷ bytes) =
    if is_letter byte then Some (scan_word (byte ∷ bytes))
    else (if is_digit byte then Some (scan_number (byte ∷ bytes))
    else (if is_quote byte then scan_literal byte bytes
    else scan_mark (byte ∷ bytes)))

-- ---- joined words

-- a joined word, and the two words that it stands for
pub record Split : Type 0 where
  pub whole : List ℕ
  pub first : List ℕ
  pub second : List ℕ

abbrev pub split_in : List Split → List ℕ → Option Joined
split_in [] word = None
split_in (entry ∷ table) word = if bytes_eq entry.whole word then Some (record { first = entry.first; second = entry.second }) else split_in table word
