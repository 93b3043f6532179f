-- The way back: the code's expression of a tree. So the view of an expression loses nothing.
use Rattle.std.specs.Prelude.{◌≡◌, List, [], ◌∷◌}
use Rattle.dc_tree.specs.declared.expr.Arg.{Arg, roll-Arg}
use Rattle.dc_tree.specs.declared.expr.Expr.{Expr, Number, Truth, Chars, Name, Refer, Paren, Unary, Binary}
use Rattle.dc_tree.specs.Syntax.{Tree, Args, number, truth, chars, name, refer, paren, unary, binary, no_args, arg, tree}

abbrev mutual
  pub back : Tree → Expr
  back (number digits suffix) = Number digits suffix
  back (truth value) = Truth value
  back (chars text) = Chars text
  back (name text) = Name text
  back (refer text args) = Refer text (back_args args)
  back (paren inside) = Paren (back inside)
  back (unary mark right) = Unary mark (back right)
  back (binary mark left right) = Binary mark (back left) (back right)

  pub back_args : Args → List Arg
  back_args no_args = []
  back_args (arg keyed value rest) = roll-Arg (record { keyed = keyed; value = back value }) ∷ back_args rest

-- Two expressions with one tree are one.
abbrev pub IsToldApart : Expr → Expr → Type 0
IsToldApart a b = tree a ≡ tree b → a ≡ b
