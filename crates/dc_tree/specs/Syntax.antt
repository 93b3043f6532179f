-- The trees of expressions for definitions: plain data, one constructor for each form, and the view
-- that takes the code's trees to it.
use Rattle.std.specs.Prelude.{ℕ, Bool, List, [], ◌∷◌}
use Rattle.dc_tree.specs.declared.token.Mark.{Mark}
use Rattle.dc_tree.specs.declared.token.Suffix.{Suffix}
use Rattle.dc_tree.specs.declared.expr.Arg.{Arg, Arg-F, fold-Arg}
use Rattle.dc_tree.specs.declared.expr.Expr.{Expr, Expr-F, fold-Expr}

-- An expression, and the arguments of a reference, each with whether `kind =` stands before it.
mutual
  pub data Tree : Type 0 where
    number : List ℕ → Suffix → Tree
    truth : Bool → Tree
    chars : List ℕ → Tree
    name : List ℕ → Tree
    refer : List ℕ → Args → Tree
    paren : Tree → Tree
    unary : Mark → Tree → Tree
    binary : Mark → Tree → Tree → Tree

  pub data Args : Type 0 where
    no_args : Args
    arg : Bool → Tree → Args → Args

abbrev pub args_from : List (Bool × Tree) → Args
args_from [] = no_args
args_from (first ∷ rest) = arg first.0 first.1 (args_from rest)

abbrev pub tree_step : Expr-F Tree (Bool × Tree) → Tree
tree_step (Expr-F.Number digits suffix) = number digits suffix
tree_step (Expr-F.Truth value) = truth value
tree_step (Expr-F.Chars text) = chars text
tree_step (Expr-F.Name text) = name text
tree_step (Expr-F.Refer text inside) = refer text (args_from inside)
tree_step (Expr-F.Paren inside) = paren inside
tree_step (Expr-F.Unary mark right) = unary mark right
tree_step (Expr-F.Binary mark left right) = binary mark left right

abbrev pub arg_step : Arg-F Tree (Bool × Tree) → Bool × Tree
arg_step one = (one.keyed, one.value)

-- The tree of an expression of the code, and what is seen of an argument.
abbrev pub tree : Expr → Tree
tree = fold-Expr Tree (Bool × Tree) tree_step arg_step

abbrev pub arg_tree : Arg → Bool × Tree
arg_tree = fold-Arg Tree (Bool × Tree) tree_step arg_step
