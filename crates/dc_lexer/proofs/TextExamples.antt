-- Whole texts, with their lexemes one by one and the bytes that each takes.
use Rattle.std.proofs.Common.{◌≡◌, ℕ, zero, suc, List, [], ◌∷◌, drop, Option, Some, None, refl, subst, inl}
use Rattle.std.specs.Prelude.{codes, Err}
use Rattle.dc_tree.specs.declared.fail.Fail.{Fail}
use Rattle.dc_tree.specs.declared.token.Mark.{Mark}
use Rattle.dc_tree.specs.declared.token.Suffix.{Suffix}
use Rattle.dc_tree.specs.declared.token.Token.{Token}
use Rattle.dc_lexer.specs.Bytes.{is_letter, is_digit, is_word_byte, is_quote, past_blanks}
use Rattle.dc_lexer.specs.Lexemes.{Lexeme}
use Rattle.dc_lexer.specs.Readings.{BeginsNone, BeginsWith, AreLexemes}
use Rattle.dc_lexer.specs.Answers.{BreaksRule8, BreaksRule9, BreaksRule10, HasTokens, Answers}
use Rattle.dc_lexer.specs.Scan.{Finds, scan, scan_mark}
use Rattle.dc_lexer.specs.declared.found.Scanned.{Scanned}
use Rattle.dc_lexer.proofs.Answering.{first-broken, least8}
use Rattle.dc_lexer.proofs.Longest.{scan-finds}

-- up to n lexemes of a text, and what is left behind them
abbrev lexemes_in : ℕ → List ℕ → List Lexeme
lexemes_in zero text = []
lexemes_in (suc n) text = elim (scan (past_blanks text)) [ None ↦ [] | Some found ↦ found.lexeme ∷ lexemes_in n (drop found.length (past_blanks text)) ]

abbrev left_in : ℕ → List ℕ → List ℕ
left_in zero text = past_blanks text
left_in (suc n) text = elim (scan (past_blanks text)) [ None ↦ past_blanks text | Some found ↦ left_in n (drop found.length (past_blanks text)) ]

begins_with : (n : ℕ) (text : List ℕ) → BeginsWith text (lexemes_in n text) (left_in n text)
begins_with zero text = refl
begins_with (suc n) text = by_found (scan (past_blanks text)) (scan-finds (past_blanks text)) (begins_with n)
  where
    by_found : (found : Option Scanned) → Finds (past_blanks text) found → ((text : List ℕ) → BeginsWith text (lexemes_in n text) (left_in n text))
        → BeginsWith text (elim found [ None ↦ [] | Some found ↦ found.lexeme ∷ lexemes_in n (drop found.length (past_blanks text)) ]) (elim found [ None ↦ past_blanks text | Some found ↦ left_in n (drop found.length (past_blanks text)) ])
    by_found None none more = refl
    by_found (Some found) longest more = (found.length, (longest, more (drop found.length (past_blanks text))))

no_next : (text : List ℕ) → scan text ≡ None → BeginsNone text
no_next text none = subst (λ (found : Option Scanned). Finds text found) none (scan-finds text)

abbrev word : List ℕ → Lexeme
word text = Token.Word text

abbrev number : List ℕ → Lexeme
number digits = Token.Number digits Suffix.Absent

abbrev mark : Mark → Lexeme
mark m = Token.Mark m

-- no point belongs to a number
AreLexemes-relation : AreLexemes (codes "1.eq.2") (number (codes "1") ∷ mark Mark.Eq ∷ number (codes "2") ∷ [])
unfolding is_letter is_digit is_word_byte is_quote scan_mark
AreLexemes-relation = begins_with 3 (codes "1.eq.2")

AreLexemes-equivalence : AreLexemes (codes "a.EQV.b") (word (codes "a") ∷ mark Mark.Eqv ∷ word (codes "b") ∷ [])
unfolding is_letter is_digit is_word_byte is_quote scan_mark
AreLexemes-equivalence = begins_with 3 (codes "a.EQV.b")

AreLexemes-power : AreLexemes (codes "A**b * c") (word (codes "a") ∷ mark Mark.Power ∷ word (codes "b") ∷ mark Mark.Times ∷ word (codes "c") ∷ [])
unfolding is_letter is_digit is_word_byte is_quote scan_mark
AreLexemes-power = begins_with 5 (codes "A**b * c")

AreLexemes-sign : AreLexemes (codes "x==-1") (word (codes "x") ∷ mark Mark.Eq ∷ mark Mark.Minus ∷ number (codes "1") ∷ [])
unfolding is_letter is_digit is_word_byte is_quote scan_mark
AreLexemes-sign = begins_with 4 (codes "x==-1")

-- what touches is one mark, and a blank parts it
AreLexemes-colons : AreLexemes (codes " :: : : ") (mark Mark.Colons ∷ mark Mark.Colon ∷ mark Mark.Colon ∷ [])
unfolding is_letter is_digit is_word_byte is_quote scan_mark
AreLexemes-colons = begins_with 3 (codes " :: : : ")

AreLexemes-characters : AreLexemes (codes "'it''s' 'A'") (Token.Chars (codes "it's") ∷ Token.Chars (codes "A") ∷ [])
unfolding is_letter is_digit is_word_byte is_quote scan_mark
AreLexemes-characters = begins_with 2 (codes "'it''s' 'A'")

AreLexemes-kinds : AreLexemes (codes "1_8 1_Int8 1_8a") (Token.Number (codes "1") (Suffix.Digits (codes "8")) ∷ Token.Number (codes "1") (Suffix.Named (codes "int8")) ∷ Token.Number (codes "1") (Suffix.Digits (codes "8")) ∷ word (codes "a") ∷ [])
unfolding is_letter is_digit is_word_byte is_quote scan_mark
AreLexemes-kinds = begins_with 4 (codes "1_8 1_Int8 1_8a")

-- a joined word is two tokens, but not as a kind
HasTokens-joined : HasTokens (codes "EndDo 1_enddo") (word (codes "end") ∷ word (codes "do") ∷ Token.Number (codes "1") (Suffix.Named (codes "enddo")) ∷ [])
unfolding is_letter is_digit is_word_byte is_quote scan_mark
HasTokens-joined = record {
  lexemes = word (codes "enddo") ∷ Token.Number (codes "1") (Suffix.Named (codes "enddo")) ∷ [];
  are = begins_with 2 (codes "EndDo 1_enddo");
  none_long = refl;
  none_large = refl;
  tokens_are = refl;
}

-- ---- rule 8

Breaks-fraction : BreaksRule8 (codes ".5")
unfolding is_letter is_digit is_word_byte is_quote scan_mark
Breaks-fraction = record { lexemes = []; rest = codes ".5"; front = refl; some = λ empty. cc; none = no_next (codes ".5") refl }

-- the number is `1`, and `_` begins nothing
Breaks-no_kind : BreaksRule8 (codes "1_")
unfolding is_letter is_digit is_word_byte is_quote scan_mark
Breaks-no_kind = record { lexemes = number (codes "1") ∷ []; rest = codes "_"; front = begins_with 1 (codes "1_"); some = λ empty. cc; none = no_next (codes "_") refl }

-- A literal that would end at a doubled quote leaves one behind that is open in turn.
Breaks-open : BreaksRule8 (codes "'it''s")
unfolding is_letter is_digit is_word_byte is_quote scan_mark
Breaks-open = record { lexemes = Token.Chars (codes "it") ∷ []; rest = codes "'s"; front = begins_with 1 (codes "'it''s"); some = λ empty. cc; none = no_next (codes "'s") refl }

-- ---- rules 9 and 10, and rule 8 behind them

abbrev long_word : List ℕ
long_word = codes "a23456789a123456789a123456789a123456789a123456789a123456789a1234"

abbrev large_number : List ℕ
large_number = codes "9223372036854775808"

abbrev all_three : List ℕ
all_three = codes "9223372036854775808 a23456789a123456789a123456789a123456789a123456789a123456789a1234 .5"

front-all_three : BeginsWith all_three (number large_number ∷ word long_word ∷ []) (codes ".5")
unfolding is_letter is_digit is_word_byte is_quote scan_mark
front-all_three = begins_with 2 all_three

Breaks-long : BreaksRule9 all_three
Breaks-long = record { lexemes = number large_number ∷ word long_word ∷ []; rest = codes ".5"; front = front-all_three; long = refl }

Breaks-large : BreaksRule10 all_three
Breaks-large = record { lexemes = number large_number ∷ word long_word ∷ []; rest = codes ".5"; front = front-all_three; large = refl }

Answers-all_three : Answers (record { line = 7; text = all_three }) (Err (Fail.Refused (record { rule = 8; line = 7 })))
unfolding is_letter is_digit is_word_byte is_quote scan_mark
Answers-all_three =
    let broken : BreaksRule8 all_three =
    record { lexemes = number large_number ∷ word long_word ∷ []; rest = codes ".5"; front = front-all_three; some = λ empty. cc; none = no_next (codes ".5") refl } in
    first-broken (record { line = 7; text = all_three }) 8 (inl (refl, broken)) (least8 all_three)
