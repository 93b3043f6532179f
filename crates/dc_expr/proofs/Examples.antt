-- The reading of a few expressions, each written in full.
use Rattle.std.proofs.Common.{◌≡◌, ℕ, List, [], ◌∷◌, ◌++◌, Ok, Err, true, false, refl}
use Rattle.std.specs.Prelude.{codes, replicate, is_ok}
use Rattle.dc_tree.specs.declared.fail.Fail.{Fail}
use Rattle.dc_tree.specs.declared.token.Mark.{Mark}
use Rattle.dc_tree.specs.declared.token.Suffix.{Suffix}
use Rattle.dc_tree.specs.declared.token.Token.{Token}
use Rattle.dc_tree.specs.Names.{is_name}
use Rattle.dc_tree.specs.Syntax.{Tree, number, name, refer, paren, unary, binary, no_args, arg}
use Rattle.dc_expr.specs.Answers.{breach, outcome}

abbrev mark : Mark → Token
mark m = Token.Mark m

abbrev word : List ℕ → Token
word text = Token.Word text

abbrev figure : List ℕ → Token
figure digits = Token.Number digits Suffix.Absent

abbrev two : Tree
two = number (codes "2") Suffix.Absent

abbrev a : Tree
a = name (codes "a")

abbrev b : Tree
b = name (codes "b")

abbrev c : Tree
c = name (codes "c")

-- no tree spells these tokens of line 4
abbrev IsRefused : List Token → Type 0
IsRefused tokens = outcome 4 tokens ≡ Err (Fail.Refused (breach 11 4))

-- `-2 ** 2` is the negative of a power
sign-power : outcome 4 (mark Mark.Minus ∷ figure (codes "2") ∷ mark Mark.Power ∷ figure (codes "2") ∷ []) ≡ Ok (unary Mark.Minus (binary Mark.Power two two))
sign-power = refl

-- `2 ** 3 ** 2` goes from the right
powers : outcome 4 (figure (codes "2") ∷ mark Mark.Power ∷ figure (codes "3") ∷ mark Mark.Power ∷ figure (codes "2") ∷ [])
    ≡ Ok (binary Mark.Power two (binary Mark.Power (number (codes "3") Suffix.Absent) two))
powers = refl

-- `a - b - c` goes from the left
differences : outcome 4 (word (codes "a") ∷ mark Mark.Minus ∷ word (codes "b") ∷ mark Mark.Minus ∷ word (codes "c") ∷ [])
    ≡ Ok (binary Mark.Minus (binary Mark.Minus a b) c)
unfolding is_name
differences = refl

-- `a .eqv. b .or. c`
equivalence : outcome 4 (word (codes "a") ∷ mark Mark.Eqv ∷ word (codes "b") ∷ mark Mark.Or ∷ word (codes "c") ∷ [])
    ≡ Ok (binary Mark.Eqv a (binary Mark.Or b c))
unfolding is_name
equivalence = refl

-- `a * (b + c)`
brackets : outcome 4 (word (codes "a") ∷ mark Mark.Times ∷ mark Mark.Open ∷ word (codes "b") ∷ mark Mark.Plus ∷ word (codes "c") ∷ mark Mark.Close ∷ [])
    ≡ Ok (binary Mark.Times a (paren (binary Mark.Plus b c)))
unfolding is_name
brackets = refl

-- `f(a, kind = 2)`
keyed : outcome 4 (word (codes "f") ∷ mark Mark.Open ∷ word (codes "a") ∷ mark Mark.Comma ∷ word (codes "kind") ∷ mark Mark.Equals ∷ figure (codes "2") ∷ mark Mark.Close ∷ [])
    ≡ Ok (refer (codes "f") (arg false a (arg true two no_args)))
unfolding is_name
keyed = refl

-- `kind(kind = kind)`: the word is a name where no `=` stands behind it
kinds : outcome 4 (word (codes "kind") ∷ mark Mark.Open ∷ word (codes "kind") ∷ mark Mark.Equals ∷ word (codes "kind") ∷ mark Mark.Close ∷ [])
    ≡ Ok (refer (codes "kind") (arg true (name (codes "kind")) no_args))
unfolding is_name
kinds = refl

-- `f()`
no_argument : outcome 4 (word (codes "f") ∷ mark Mark.Open ∷ mark Mark.Close ∷ []) ≡ Ok (refer (codes "f") no_args)
unfolding is_name
no_argument = refl

-- `a == b == c`: relations don't chain
relations : IsRefused (word (codes "a") ∷ mark Mark.Eq ∷ word (codes "b") ∷ mark Mark.Eq ∷ word (codes "c") ∷ [])
unfolding is_name
relations = refl

-- `a + -b` and `a ** -b`: no sign follows an operator
sign_after_sum : IsRefused (word (codes "a") ∷ mark Mark.Plus ∷ mark Mark.Minus ∷ word (codes "b") ∷ [])
unfolding is_name
sign_after_sum = refl

sign_after_power : IsRefused (word (codes "a") ∷ mark Mark.Power ∷ mark Mark.Minus ∷ word (codes "b") ∷ [])
unfolding is_name
sign_after_power = refl

-- `.not. .not. a`
negations : IsRefused (mark Mark.Not ∷ mark Mark.Not ∷ word (codes "a") ∷ [])
negations = refl

-- `(a`, `f(a,)`, and no token at all
open_bracket : IsRefused (mark Mark.Open ∷ word (codes "a") ∷ [])
unfolding is_name
open_bracket = refl

missing_argument : IsRefused (word (codes "f") ∷ mark Mark.Open ∷ word (codes "a") ∷ mark Mark.Comma ∷ mark Mark.Close ∷ [])
unfolding is_name
missing_argument = refl

nothing : IsRefused []
nothing = refl

-- `end`: a reserved word is no name
reserved : IsRefused (word (codes "end") ∷ [])
unfolding is_name
reserved = refl

-- a character literal is no operand
characters : IsRefused (Token.Chars (codes "a") ∷ [])
characters = refl

-- 255 brackets round a number are the most
abbrev bracketed : ℕ → List Token
bracketed count = replicate count (mark Mark.Open) ++ figure (codes "2") ∷ replicate count (mark Mark.Close)

deepest_brackets : is_ok (outcome 4 (bracketed 255)) ≡ true
deepest_brackets = refl

too_many_brackets : outcome 4 (bracketed 256) ≡ Err (Fail.Refused (breach 12 4))
too_many_brackets = refl

-- but where the last is open, no tree spells the tokens
brackets_and_end : IsRefused (mark Mark.Open ∷ bracketed 256)
brackets_and_end = refl
