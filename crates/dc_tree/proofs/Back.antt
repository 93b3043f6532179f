-- The view of an expression loses nothing.
use Rattle.std.proofs.Common.{◌≡◌, Bool, List, [], ◌∷◌, map, refl, sym, ap, subst, ◌∙◌}
use Rattle.dc_tree.specs.declared.expr.Arg.{Arg, roll-Arg, fold-roll-Arg}
use Rattle.dc_tree.specs.declared.expr.Expr.{Expr, Expr-F, roll-Expr, map-Expr, ind-Expr, fold-roll-Expr, Refer, Paren, Unary, Binary}
use Rattle.dc_tree.specs.declared.expr.Expr.TheVariants as variants
use Rattle.dc_tree.specs.Syntax.{Tree, tree, arg_tree, args_from, tree_step, arg_step}
use Rattle.dc_tree.specs.Back.{back, back_args, IsToldApart}

abbrev IsBack : Expr → Type 0
IsBack e = back (tree e) ≡ e

abbrev arg_of : Bool × Tree → Arg
arg_of seen = roll-Arg (record { keyed = seen.0; value = back seen.1 })

abbrev IsArgBack : Arg → Type 0
IsArgBack a = arg_of (arg_tree a) ≡ a

-- an expression and an argument beside their proofs
abbrev BackExpr : Type 0
BackExpr = (e : Expr) × IsBack e

abbrev BackArg : Type 0
BackArg = (a : Arg) × IsArgBack a

abbrev plain_args : List BackArg → List Arg
plain_args args = map (λ a. a.0) args

args-back : (args : List BackArg) → back_args (args_from (map arg_tree (plain_args args))) ≡ plain_args args
args-back [] = refl
args-back (first ∷ rest) =
    ap (λ (x : Arg). x ∷ back_args (args_from (map arg_tree (plain_args rest)))) first.1 ∙ ap (λ (xs : List Arg). first.0 ∷ xs) (args-back rest)

abbrev plain_level : Expr-F BackExpr BackArg → Expr-F Expr Arg
plain_level = map-Expr BackExpr BackArg Expr Arg (λ e. e.0) (λ a. a.0)

-- one level, whose parts are got back
opened : (x : Expr-F Expr Arg) → back (tree (roll-Expr x)) ≡ back (tree_step (map-Expr Expr Arg Tree (Bool × Tree) tree arg_tree x))
opened x = ap back (fold-roll-Expr Tree (Bool × Tree) tree_step arg_step x)

level-back : (y : Expr-F BackExpr BackArg) → IsBack (roll-Expr (plain_level y))
level-back (Expr-F.Number digits suffix) = opened (Expr-F.Number digits suffix) ∙ sym (variants.rolls-Number digits suffix)
level-back (Expr-F.Truth value) = opened (Expr-F.Truth value) ∙ sym (variants.rolls-Truth value)
level-back (Expr-F.Chars text) = opened (Expr-F.Chars text) ∙ sym (variants.rolls-Chars text)
level-back (Expr-F.Name text) = opened (Expr-F.Name text) ∙ sym (variants.rolls-Name text)
level-back (Expr-F.Refer text args) =
    opened (Expr-F.Refer text (plain_args args)) ∙ ap (λ (xs : List Arg). Refer text xs) (args-back args) ∙ sym (variants.rolls-Refer text (plain_args args))
level-back (Expr-F.Paren inside) = opened (Expr-F.Paren inside.0) ∙ ap (λ (e : Expr). Paren e) inside.1 ∙ sym (variants.rolls-Paren inside.0)
level-back (Expr-F.Unary mark right) =
    opened (Expr-F.Unary mark right.0) ∙ ap (λ (e : Expr). Unary mark e) right.1 ∙ sym (variants.rolls-Unary mark right.0)
level-back (Expr-F.Binary mark left right) =
    opened (Expr-F.Binary mark left.0 right.0) ∙ ap (λ (e : Expr). Binary mark e (back (tree right.0))) left.1 ∙ ap (λ (e : Expr). Binary mark left.0 e) right.1
    ∙ sym (variants.rolls-Binary mark left.0 right.0)

arg-back : (keyed : Bool) (value : BackExpr) → IsArgBack (roll-Arg (record { keyed = keyed; value = value.0 }))
arg-back keyed value =
    ap arg_of (fold-roll-Arg Tree (Bool × Tree) tree_step arg_step (record { keyed = keyed; value = value.0 }))
    ∙ ap (λ (e : Expr). roll-Arg (record { keyed = keyed; value = e })) value.1

pub back-tree : (e : Expr) → back (tree e) ≡ e
back-tree = ind-Expr IsBack IsArgBack (λ x y is. subst (λ z. IsBack (roll-Expr z)) is (level-back y)) (λ x y is. subst (λ z. IsArgBack (roll-Arg z)) is (arg-back y.keyed y.value))

pub told_apart : (a b : Expr) → IsToldApart a b
told_apart a b same = sym (back-tree a) ∙ ap back same ∙ back-tree b
