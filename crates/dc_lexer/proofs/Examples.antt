-- The definitions at a few texts, each written in full.
use Rattle.std.proofs.Common.{◌≡◌, true, false, [], ◌∷◌, map, refl, Some, None}
use Rattle.std.specs.Prelude.{codes, ◌++◌}
use Rattle.dc_tree.specs.Names.{joined_words}
use Rattle.dc_tree.specs.declared.token.Mark.{Mark}
use Rattle.dc_tree.specs.declared.token.Suffix.{Suffix}
use Rattle.dc_tree.specs.declared.token.Token.{Token}
use Rattle.dc_lexer.specs.Bytes.{is_letter, is_digit, is_word_byte, is_quote}
use Rattle.dc_lexer.specs.Lexemes.{form}
use Rattle.dc_lexer.specs.Tokens.{Joined, joined, tokens_of, is_long, is_large}

-- ---- words

form-word : form (codes "Row_2") ≡ Some (Token.Word (codes "row_2"))
unfolding is_letter is_digit is_word_byte is_quote
form-word = refl

form-blank : form (codes "a b") ≡ None
unfolding is_letter is_digit is_word_byte is_quote
form-blank = refl

-- ---- numbers

form-number : form (codes "007") ≡ Some (Token.Number (codes "007") Suffix.Absent)
unfolding is_letter is_digit is_word_byte is_quote
form-number = refl

form-digits : form (codes "1_8") ≡ Some (Token.Number (codes "1") (Suffix.Digits (codes "8")))
unfolding is_letter is_digit is_word_byte is_quote
form-digits = refl

form-named : form (codes "1_INT8") ≡ Some (Token.Number (codes "1") (Suffix.Named (codes "int8")))
unfolding is_letter is_digit is_word_byte is_quote
form-named = refl

-- the kind is `8`, and `a` no part of the number
form-digits_word : form (codes "1_8a") ≡ None
unfolding is_letter is_digit is_word_byte is_quote
form-digits_word = refl

form-no_kind : form (codes "1_") ≡ None
unfolding is_letter is_digit is_word_byte is_quote
form-no_kind = refl

form-point : form (codes "1.5") ≡ None
unfolding is_letter is_digit is_word_byte is_quote
form-point = refl

-- ---- characters

form-characters : form (codes "'it''s A'") ≡ Some (Token.Chars (codes "it's A"))
unfolding is_letter is_digit is_word_byte is_quote
form-characters = refl

-- the other quote is a character like any other
form-quoted : form (34 ∷ codes "it's" ++ 34 ∷ []) ≡ Some (Token.Chars (codes "it's"))
unfolding is_letter is_digit is_word_byte is_quote
form-quoted = refl

form-no_characters : form (codes "''") ≡ Some (Token.Chars [])
unfolding is_letter is_digit is_word_byte is_quote
form-no_characters = refl

form-open : form (codes "'it''s") ≡ None
unfolding is_letter is_digit is_word_byte is_quote
form-open = refl

-- ---- marks

form-colons : form (codes "::") ≡ Some (Token.Mark Mark.Colons)
unfolding is_letter is_digit is_word_byte is_quote
form-colons = refl

form-colons_apart : form (codes ": :") ≡ None
unfolding is_letter is_digit is_word_byte is_quote
form-colons_apart = refl

form-and : form (codes ".AND.") ≡ Some (Token.Mark Mark.And)
unfolding is_letter is_digit is_word_byte is_quote
form-and = refl

form-true : form (codes ".True.") ≡ Some (Token.Mark Mark.True)
unfolding is_letter is_digit is_word_byte is_quote
form-true = refl

-- both spellings of a relation
form-equal : form (codes "==") ≡ form (codes ".eq.")
unfolding is_letter is_digit is_word_byte is_quote
form-equal = refl

form-fraction : form (codes ".5") ≡ None
unfolding is_letter is_digit is_word_byte is_quote
form-fraction = refl

-- ---- tokens

tokens_of-joined : tokens_of (Token.Word (codes "enddo") ∷ Token.Word (codes "enddos") ∷ [])
    ≡ Token.Word (codes "end") ∷ Token.Word (codes "do") ∷ Token.Word (codes "enddos") ∷ []
tokens_of-joined = refl

-- a kind stays one word
tokens_of-kind : tokens_of (Token.Number (codes "1") (Suffix.Named (codes "enddo")) ∷ []) ≡ Token.Number (codes "1") (Suffix.Named (codes "enddo")) ∷ []
tokens_of-kind = refl

-- they are the words that are never names
joined-reserved : map (λ (pair : Joined). pair.first ++ pair.second) joined ≡ joined_words
joined-reserved = refl

-- ---- limits

is_long-63 : is_long (Token.Word (codes "a23456789a123456789a123456789a123456789a123456789a123456789a123")) ≡ false
is_long-63 = refl

is_long-64 : is_long (Token.Word (codes "a23456789a123456789a123456789a123456789a123456789a123456789a1234")) ≡ true
is_long-64 = refl

is_long-kind : is_long (Token.Number (codes "1") (Suffix.Named (codes "a23456789a123456789a123456789a123456789a123456789a123456789a1234"))) ≡ true
is_long-kind = refl

is_large-greatest : is_large (Token.Number (codes "0009223372036854775807") (Suffix.Digits (codes "99999999999999999999"))) ≡ false
is_large-greatest = refl

is_large-one_more : is_large (Token.Number (codes "9223372036854775808") Suffix.Absent) ≡ true
is_large-one_more = refl
