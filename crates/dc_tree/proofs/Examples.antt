-- The grammar at a few expressions, each written in full.
use Rattle.std.proofs.Common.{◌≡◌, ℕ, List, [], ◌∷◌, true, false, refl, arith}
use Rattle.std.specs.Prelude.{codes}
use Rattle.dc_tree.specs.declared.token.Mark.{Mark}
use Rattle.dc_tree.specs.declared.token.Token.{Token}
use Rattle.dc_tree.specs.declared.token.Suffix.{Suffix}
use Rattle.dc_tree.specs.Names.{is_name}
use Rattle.dc_tree.specs.Syntax.{Tree, number, truth, chars, name, refer, paren, unary, binary, no_args, arg}
use Rattle.dc_tree.specs.Grammar.{Ranked, spell, depth}
use Rattle.dc_tree.proofs.Names.{letter-is_name}

abbrev one : Tree
one = number (codes "1") Suffix.Absent

abbrev a : Tree
a = name (codes "a")

abbrev b : Tree
b = name (codes "b")

abbrev word : List ℕ → Token
word text = Token.Word text

-- `-a ** b` is the negative of a power, and no power of `-a`
abbrev negative_power : Tree
negative_power = unary Mark.Minus (binary Mark.Power a b)

spell-power : spell negative_power ≡ Token.Mark Mark.Minus ∷ word (codes "a") ∷ Token.Mark Mark.Power ∷ word (codes "b") ∷ []
spell-power = refl

depth-power : depth negative_power ≡ 3
depth-power = refl

ranked-power : Ranked negative_power
ranked-power = (refl, omega arith, (refl, omega arith, omega arith, letter-is_name 97, letter-is_name 98))

unranked-sign : Ranked (binary Mark.Power (unary Mark.Minus a) b) → ⊥
unranked-sign given = omega (arith, given.1)

-- `.not. a .and. b` begins with `.not. a`
ranked-not : Ranked (binary Mark.And (unary Mark.Not a) b)
ranked-not = (refl, omega arith, omega arith, (refl, omega arith, letter-is_name 97), letter-is_name 98)

-- `int(b, kind = 1)`
abbrev converted : Tree
converted = refer (codes "int") (arg false b (arg true one no_args))

spell-converted : spell converted
    ≡ word (codes "int") ∷ Token.Mark Mark.Open ∷ word (codes "b") ∷ Token.Mark Mark.Comma ∷ word (codes "kind") ∷ Token.Mark Mark.Equals ∷ Token.Number (codes "1") Suffix.Absent ∷ Token.Mark Mark.Close ∷ []
spell-converted = refl

depth-converted : depth converted ≡ 2
depth-converted = refl

-- a reference without arguments, in brackets
spell-empty : spell (paren (refer (codes "f") no_args))
    ≡ Token.Mark Mark.Open ∷ word (codes "f") ∷ Token.Mark Mark.Open ∷ Token.Mark Mark.Close ∷ Token.Mark Mark.Close ∷ []
spell-empty = refl

depth-empty : depth (paren (refer (codes "f") no_args)) ≡ 2
depth-empty = refl

-- relations do not chain
unranked-chain : Ranked (binary Mark.Lt (binary Mark.Lt a b) one) → ⊥
unranked-chain given = omega (arith, given.1)

is_name-end : is_name (codes "end") ≡ false
unfolding is_name
is_name-end = refl

-- `.true. .eqv. .false.`
abbrev truths : Tree
truths = binary Mark.Eqv (truth true) (truth false)

spell-truths : spell truths ≡ Token.Mark Mark.True ∷ Token.Mark Mark.Eqv ∷ Token.Mark Mark.False ∷ []
spell-truths = refl

ranked-truths : Ranked truths
ranked-truths = (refl, omega arith, omega arith, tt, tt)

-- `a ** b ** 1` goes from the right, and `a - b - 1` from the left
ranked-powers : Ranked (binary Mark.Power a (binary Mark.Power b one))
ranked-powers = (refl, omega arith, omega arith, letter-is_name 97, (refl, omega arith, omega arith, letter-is_name 98, tt))

ranked-differences : Ranked (binary Mark.Minus (binary Mark.Minus a b) one)
ranked-differences = (refl, omega arith, omega arith, (refl, omega arith, omega arith, letter-is_name 97, letter-is_name 98), tt)

unranked-differences : Ranked (binary Mark.Minus a (binary Mark.Minus b one)) → ⊥
unranked-differences given = omega (arith, given.2)

-- characters are no operand
unranked-chars : Ranked (binary Mark.Plus (chars (codes "a")) one) → ⊥
unranked-chars given = given.3
