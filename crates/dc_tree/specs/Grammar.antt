-- The ranks of the expression grammar, from the weakest operator to the strongest: `.eqv.` and
-- `.neqv.`, `.or.`, `.and.`, `.not.`, the relations, `+` and `-`, `*` and `/`, `**`, and primaries.
-- A sign has the rank of a sum. After ISO/IEC 1539-1:2023, clause 10.1.2.
use Rattle.std.specs.Prelude.{◌≤◌, ◌+◌, ℕ, max, Bool, true, false, IsTrue, if◌then◌else◌, List, [], ◌∷◌, ◌++◌, codes}
use Rattle.dc_tree.specs.declared.token.Mark.{Mark}
use Rattle.dc_tree.specs.declared.token.Token.{Token}
use Rattle.dc_tree.specs.Names.{is_name}
use Rattle.dc_tree.specs.Syntax.{Tree, Args, number, truth, chars, name, refer, paren, unary, binary, no_args, arg}

abbrev pub is_binary : Mark → Bool
is_binary Mark.Eqv = true
is_binary Mark.Neqv = true
is_binary Mark.Or = true
is_binary Mark.And = true
is_binary Mark.Eq = true
is_binary Mark.Ne = true
is_binary Mark.Lt = true
is_binary Mark.Le = true
is_binary Mark.Gt = true
is_binary Mark.Ge = true
is_binary Mark.Plus = true
is_binary Mark.Minus = true
is_binary Mark.Times = true
is_binary Mark.Slash = true
is_binary Mark.Power = true
is_binary mark = false

-- the marks that stand in front of one operand
abbrev pub is_prefix : Mark → Bool
is_prefix Mark.Not = true
is_prefix Mark.Plus = true
is_prefix Mark.Minus = true
is_prefix mark = false

-- The rank of an expression that this operator joins, or in front of which it stands.
abbrev pub level : Mark → ℕ
level Mark.Eqv = 0
level Mark.Neqv = 0
level Mark.Or = 1
level Mark.And = 2
level Mark.Not = 3
level Mark.Plus = 5
level Mark.Minus = 5
level Mark.Times = 6
level Mark.Slash = 6
level Mark.Power = 7
level mark = 4

-- the marks that compare two numbers
abbrev pub is_relation : Mark → Bool
is_relation Mark.Eq = true
is_relation Mark.Ne = true
is_relation Mark.Lt = true
is_relation Mark.Le = true
is_relation Mark.Gt = true
is_relation Mark.Ge = true
is_relation mark = false

-- The least rank of its left operand: its own, so that operators of one rank go from the left. It is
-- the next one for `**`, which goes from the right, and for a relation, since those don't chain.
abbrev pub left_rank : Mark → ℕ
left_rank Mark.Power = level Mark.Power + 1
left_rank mark = if is_relation mark then level mark + 1 else level mark

-- The least rank of its right operand.
abbrev pub right_rank : Mark → ℕ
right_rank Mark.Power = level Mark.Power
right_rank mark = level mark + 1

-- The rank of a tree: a primary has the greatest.
abbrev pub rank : Tree → ℕ
rank (unary mark right) = level mark
rank (binary mark left right) = level mark
rank primary = 8

-- The grammar gives the tree: each operand stands in a place of at most its rank, so that no
-- sign follows an operator. A character literal stands in no expression.
abbrev mutual
  pub Ranked : Tree → Type 0
  Ranked (number digits suffix) = Unit {0}
  Ranked (truth value) = Unit {0}
  Ranked (chars text) = ⊥
  Ranked (name text) = IsTrue (is_name text)
  Ranked (refer text args) = IsTrue (is_name text) × RankedArgs args
  Ranked (paren inside) = Ranked inside
  Ranked (unary mark right) = IsTrue (is_prefix mark) × (right_rank mark ≤ rank right) × Ranked right
  Ranked (binary mark left right) =
      IsTrue (is_binary mark) × (left_rank mark ≤ rank left) × (right_rank mark ≤ rank right) × Ranked left × Ranked right

  pub RankedArgs : Args → Type 0
  RankedArgs no_args = Unit {0}
  RankedArgs (arg keyed value rest) = Ranked value × RankedArgs rest

-- The tokens of a tree.
abbrev pub truth_mark : Bool → Mark
truth_mark true = Mark.True
truth_mark false = Mark.False

abbrev pub key : Bool → List Token
key true = Token.Word (codes "kind") ∷ Token.Mark Mark.Equals ∷ []
key false = []

abbrev mutual
  pub spell : Tree → List Token
  spell (number digits suffix) = Token.Number digits suffix ∷ []
  spell (truth value) = Token.Mark (truth_mark value) ∷ []
  spell (chars text) = Token.Chars text ∷ []
  spell (name text) = Token.Word text ∷ []
  spell (refer text args) = Token.Word text ∷ Token.Mark Mark.Open ∷ (spell_args args ++ Token.Mark Mark.Close ∷ [])
  spell (paren inside) = Token.Mark Mark.Open ∷ (spell inside ++ Token.Mark Mark.Close ∷ [])
  spell (unary mark right) = Token.Mark mark ∷ spell right
  spell (binary mark left right) = spell left ++ (Token.Mark mark ∷ spell right)

  pub spell_args : Args → List Token
  spell_args no_args = []
  spell_args (arg keyed value rest) = key keyed ++ (spell value ++ spell_more rest)

  -- arguments behind another one, each with its comma
  pub spell_more : Args → List Token
  spell_more no_args = []
  spell_more (arg keyed value rest) = Token.Mark Mark.Comma ∷ (key keyed ++ (spell value ++ spell_more rest))

-- How deep a tree is: a leaf has depth 1, and a parenthesis, a reference or an operator adds 1
-- to the greatest depth of its parts.
abbrev mutual
  pub depth : Tree → ℕ
  depth (refer text args) = deepest args + 1
  depth (paren inside) = depth inside + 1
  depth (unary mark right) = depth right + 1
  depth (binary mark left right) = max (depth left) (depth right) + 1
  depth leaf = 1

  pub deepest : Args → ℕ
  deepest no_args = 0
  deepest (arg keyed value rest) = max (depth value) (deepest rest)
