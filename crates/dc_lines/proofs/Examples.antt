-- Small examples of the source form, which compute.
use Rattle.std.proofs.Common.{◌≡◌, ℕ, Bool, true, false, List, [], ◌∷◌, ◌++◌, replicate, Ok, Err, refl}
use Rattle.std.specs.Prelude.{codes}
use Rattle.dc_tree.specs.declared.fail.Fail.{Fail}
use Rattle.dc_tree.specs.declared.logical_lines.Logical.{Logical}
use Rattle.dc_lines.specs.declared.rule.Rule.{Rule}
use Rattle.dc_lines.specs.TextLines.{lines_of}
use Rattle.dc_lines.specs.Joined.{statements_of}
use Rattle.dc_lines.specs.Rules.{breaks, is_long}
use Rattle.dc_lines.specs.Answer.{Answers}
use Rattle.dc_lines.specs.Reading.{read, start, outcome}
use Rattle.dc_lines.proofs.Laws.{read-answers}

abbrev spelled_by : List ℕ → List Logical
spelled_by text = statements_of (lines_of text)

abbrev at : ℕ → List ℕ → Logical
at line text = record { line = line; text = text }

abbrev tab : List ℕ
tab = 9 ∷ []

-- ---- lines and statements

two_lines : spelled_by (codes "a = 1\nb = 2\n") ≡ at 1 (codes "a = 1") ∷ at 2 (codes "b = 2") ∷ []
two_lines = refl

last_without_feed : spelled_by (codes "a = 1\r\n\r\nb = 2") ≡ at 1 (codes "a = 1") ∷ at 3 (codes "b = 2") ∷ []
last_without_feed = refl

nothing : spelled_by [] ≡ []
nothing = refl

several_on_a_line : spelled_by (codes ";a = 1; ;b = 2 ;") ≡ at 1 (codes "a = 1") ∷ at 1 (codes "b = 2 ") ∷ []
several_on_a_line = refl

comments : spelled_by (codes " ! a\n\nb ! c & \n!") ≡ at 3 (codes "b ") ∷ []
comments = refl

-- ---- continued lines

continued : spelled_by (codes "a = & ! b\n  1") ≡ at 1 (codes "a =    1") ∷ []
continued = refl

continued_at_ampersand : spelled_by (codes "a = 1&\n  &2") ≡ at 1 (codes "a = 12") ∷ []
continued_at_ampersand = refl

comment_between : spelled_by (codes "a = 1&\n! b\n\n  &2; c = 3") ≡ at 1 (codes "a = 12") ∷ at 4 (codes " c = 3") ∷ []
comment_between = refl

begins_behind : spelled_by (codes "; &\n ;&\n  b = 1") ≡ at 3 (codes "   b = 1") ∷ []
begins_behind = refl

-- ---- literals

literal_over_two_lines : spelled_by (codes "print *, 'a; ! &\n! b\n & b&'") ≡ at 1 (codes "print *, 'a; !  b&'") ∷ []
literal_over_two_lines = refl

doubled_mark : spelled_by (codes "print *, 'a''; b', \"'\"\"\"; c") ≡ at 1 (codes "print *, 'a''; b', \"'\"\"\"") ∷ at 1 (codes " c") ∷ []
doubled_mark = refl

doubled_mark_parted : spelled_by (codes "print *, 'a'&\n  &';b'") ≡ at 1 (codes "print *, 'a'';b'") ∷ []
doubled_mark_parted = refl

tabs : spelled_by (codes "a" ++ tab ++ codes "= '" ++ tab ++ codes "'&" ++ tab ++ 10 ∷ tab ++ codes "&") ≡ at 1 (codes "a = '" ++ tab ++ codes "'") ∷ []
tabs = refl

-- ---- what is refused

long_line : is_long (replicate 10001 32) ≡ true
long_line = refl

longest_line : is_long (replicate 10000 32) ≡ false
longest_line = refl

abbrev is_broken : Rule → ℕ → List ℕ → Bool
is_broken rule line text = breaks rule (lines_of text) line

foreign_byte : is_broken Rule.ForeignByte 2 (codes "a = 1\nb = 2" ++ 127 ∷ []) ≡ true
foreign_byte = refl

foreign_byte_in_a_comment : is_broken Rule.ForeignByte 1 (codes "a = 1 ! " ++ 200 ∷ []) ≡ false
foreign_byte_in_a_comment = refl

foreign_byte_in_a_literal : is_broken Rule.ForeignByte 1 (codes "a = '" ++ 200 ∷ codes "'") ≡ false
foreign_byte_in_a_literal = refl

second_return : is_broken Rule.ForeignByte 1 (codes "a = 1\r\r\n") ≡ true
second_return = refl

open_literal : is_broken Rule.OpenLiteral 1 (codes "a = 'b\n") ≡ true
open_literal = refl

literal_without_ampersand : is_broken Rule.OpenLiteral 3 (codes "a = 'b&\n! c\nd'\n") ≡ true
literal_without_ampersand = refl

literal_with_ampersand : is_broken Rule.OpenLiteral 3 (codes "a = 'b&\n! c\n&d'\n") ≡ false
literal_with_ampersand = refl

unfinished : is_broken Rule.Unfinished 3 (codes "a = 1 &\n! b\n\n") ≡ true
unfinished = refl

finished : is_broken Rule.Unfinished 2 (codes "a = 1 &\n;\n") ≡ false
finished = refl

lone_ampersand : is_broken Rule.LoneAmpersand 2 (codes "a = &\n & ! b\n1") ≡ true
lone_ampersand = refl

two_ampersands : is_broken Rule.LoneAmpersand 2 (codes "a = &\n & & ! b\n1") ≡ false
two_ampersands = refl

-- As the last line, a lone `&` breaks both rules, and counts as continued.
last_lone_ampersand : is_broken Rule.Unfinished 1 (codes "&") ≡ true
last_lone_ampersand = refl

-- A literal goes on in a line that doesn't begin with `&`, so what follows its mark is outside.
foreign_behind_open_literal : is_broken Rule.ForeignByte 2 (codes "a = 'b&\nc'" ++ 7 ∷ []) ≡ true
foreign_behind_open_literal = refl

-- ---- what is answered: the least line, and on it the least rule

abbrev Refuses : List ℕ → ℕ → ℕ → Type 0
Refuses text rule line = Answers text (Err (Fail.Refused (record { rule = rule; line = line })))

refuses : (text : List ℕ) (rule line : ℕ) → outcome (read start (lines_of text)) ≡ Err (record { rule = rule; line = line }) → Refuses text rule line
refuses text rule line found = read-answers text (Err (Fail.Refused (record { rule = rule; line = line }))) found

earlier_line : Refuses (codes "a = 'b\nc = " ++ 127 ∷ []) 5 1
earlier_line = refuses (codes "a = 'b\nc = " ++ 127 ∷ []) 5 1 refl

lesser_rule : Refuses (codes "a = 'b&\nc'" ++ 7 ∷ []) 4 2
lesser_rule = refuses (codes "a = 'b&\nc'" ++ 7 ∷ []) 4 2 refl

lone_on_the_last_line : Refuses (codes "&") 6 1
lone_on_the_last_line = refuses (codes "&") 6 1 refl

lone_before_a_comment : Refuses (codes "&\n! a") 7 1
lone_before_a_comment = refuses (codes "&\n! a") 7 1 refl

lone_in_a_literal : Refuses (codes "a = 'b&\n & \n&c'") 7 2
lone_in_a_literal = refuses (codes "a = 'b&\n & \n&c'") 7 2 refl

foreign_before_unfinished : Refuses (127 ∷ codes " &") 4 1
foreign_before_unfinished = refuses (127 ∷ codes " &") 4 1 refl

accepted : Answers (codes "a = 1") (Ok (at 1 (codes "a = 1") ∷ []))
accepted = read-answers (codes "a = 1") (Ok (at 1 (codes "a = 1") ∷ [])) refl
