-- The forms of an expression of the code, by its parts.
use Rattle.std.proofs.Common.{◌≡◌, ℕ, ◌<◌, ◌≤◌, ◌+◌, Bool, true, List, [], ◌∷◌, ◌++◌, map, length, drop, get_or, sym, ap, ap₂, ◌∙◌, arith, IsTrue}
use Rattle.std.specs.Prelude.{Result, Ok, Err, ℤ}
use Rattle.std.proofs.lemmas.Bool.{and_parts}
use Rattle.std.specs.List.{list_all}
use Rattle.std.proofs.lemmas.List.{drop_all}
use Rattle.dc_code.specs.Troubles.{Slots}
use Rattle.dc_plain.specs.Views.{View}
use Rattle.dc_tree.specs.declared.expr.Arg.{Arg, out-Arg, fold_out-Arg}
use Rattle.dc_tree.specs.declared.expr.Expr.{Expr, Refer, Paren, Unary, Binary}
use Rattle.dc_tree.specs.declared.token.Mark.{Mark}
use Rattle.dc_form.specs.BuiltPrograms.{is_held, are_held}
use Rattle.dc_tree.specs.Entities.{Scope}
use Rattle.dc_tree.specs.Syntax.{Tree, refer, paren, unary, binary, tree, arg_tree, args_from, tree_step, arg_step}
use Rattle.dc_tree.proofs.Views.{tree-Refer, tree-Paren, tree-Unary, tree-Binary}
use Rattle.dc_meaning.specs.declared.stop.Stop.{Stop}
use Rattle.dc_meaning.specs.Gathering.{gathered}
use Rattle.dc_meaning.specs.Values.{value, values, first_value, all_values}
use Rattle.dc_meaning.specs.Walking.{Stays}
use Rattle.dc_meaning.proofs.Gathering.{next-is, gathered-on, gathered-bad, gathered-none, gathered-all}
use Rattle.dc_meaning.proofs.Valuing.{value-as, arg_value, values-list}
use Rattle.dc_meaning.proofs.Walking.{stays-as}

-- the expression of an argument
arg-is : (one : Arg) → arg_value one ≡ tree (out-Arg one).value
arg-is one = sym (ap (λ (w : Bool × Tree). w.1) (sym (fold_out-Arg Tree (Bool × Tree) tree_step arg_step one)))

module _ (scope : Scope) (line : ℕ) {own : Slots} {before after : View} {r : Result ℤ Stop} where
  pub value-of_refer : (e : Expr) (text : List ℕ) (args : List Arg) (shown : List ℕ) (others : List Arg) → e ≡ Refer text args → shown ≡ text → others ≡ args
      → Stays (λ z. z) own before (λ call. value scope call line (refer shown (args_from (map arg_tree others)))) after r
      → Stays (λ z. z) own before (λ call. value scope call line (tree e)) after r
  value-of_refer e text args shown others is seen same walks =
      value-as scope line e (refer shown (args_from (map arg_tree others)))
      (ap tree is ∙ tree-Refer text args ∙ ap₂ (λ name given. refer name (args_from (map arg_tree given))) (sym seen) (sym same)) walks

  pub value-of_paren : (e inside shown : Expr) → e ≡ Paren inside → shown ≡ inside → Stays (λ z. z) own before (λ call. value scope call line (tree shown)) after r
      → Stays (λ z. z) own before (λ call. value scope call line (tree e)) after r
  value-of_paren e inside shown is same walks = value-as scope line e (paren (tree shown)) (ap tree is ∙ tree-Paren inside ∙ ap (λ x. paren (tree x)) (sym same)) walks

  pub value-of_unary : (e : Expr) (mark : Mark) (right shown : Expr) → e ≡ Unary mark right → shown ≡ right
      → Stays (λ z. z) own before (λ call. value scope call line (unary mark (tree shown))) after r
      → Stays (λ z. z) own before (λ call. value scope call line (tree e)) after r
  value-of_unary e mark right shown is same walks = value-as scope line e (unary mark (tree shown)) (ap tree is ∙ tree-Unary mark right ∙ ap (λ x. unary mark (tree x)) (sym same)) walks

  pub value-of_binary : (e : Expr) (mark : Mark) (left right first second : Expr) → e ≡ Binary mark left right → first ≡ left → second ≡ right
      → Stays (λ z. z) own before (λ call. value scope call line (binary mark (tree first) (tree second))) after r
      → Stays (λ z. z) own before (λ call. value scope call line (tree e)) after r
  value-of_binary e mark left right first second is same other walks =
      value-as scope line e (binary mark (tree first) (tree second)) (ap tree is ∙ tree-Binary mark left right ∙ ap₂ (λ x y. binary mark (tree x) (tree y)) (sym same) (sym other)) walks

  pub first-of_args : (args : List Arg) (item : Arg) → 1 ≤ length args → item ≡ get_or args 0 item
      → Stays (λ z. z) own before (λ call. value scope call line (tree (out-Arg item).value)) after r
      → Stays (λ z. z) own before (λ call. first_value scope call line (args_from (map arg_tree args))) after r
  first-of_args [] item some is walks = absurd (omega (arith, some))
  first-of_args (first ∷ rest) item some is walks =
      stays-as (λ call. ap (value scope call line) (ap arg_value (sym is) ∙ arg-is item)) walks

pub held-right : (e : Expr) (mark : Mark) (left right shown : Expr) → e ≡ Binary mark left right → shown ≡ right → IsTrue (is_held (tree e)) → IsTrue (is_held (tree shown))
held-right e mark left right shown is same held =
    let both = and_parts (is_held (tree left)) (is_held (tree right)) (sym (ap (λ x. is_held (tree x)) is ∙ ap is_held (tree-Binary mark left right)) ∙ held) in
    ap (λ x. is_held (tree x)) same ∙ both.1

-- ---- arguments, one after the other

module _ (args : List Arg) (at : ℕ) (item : Arg) (below : at < length args) (is : item ≡ get_or args at item) where
  pub item-held : IsTrue (are_held (args_from (map arg_tree (drop at args)))) → IsTrue (is_held (tree (out-Arg item).value))
  item-held held =
      let both = and_parts (is_held (arg_value item)) (are_held (args_from (map arg_tree (drop (at + 1) args)))) (sym (ap (λ given. are_held (args_from (map arg_tree given))) (next-is args at item below is)) ∙ held) in
      ap is_held (sym (arg-is item)) ∙ both.0

  pub rest-held : IsTrue (are_held (args_from (map arg_tree (drop at args)))) → IsTrue (are_held (args_from (map arg_tree (drop (at + 1) args))))
  rest-held held =
      (and_parts (is_held (arg_value item)) (are_held (args_from (map arg_tree (drop (at + 1) args)))) (sym (ap (λ given. are_held (args_from (map arg_tree given))) (next-is args at item below is)) ∙ held)).1

  pub arguments-next : {own : Slots} {view between after : View} {r : Result (List ℤ) Stop} (scope : Scope) (line : ℕ) (shown more : List ℤ) (z : ℤ) → more ≡ shown ++ z ∷ []
      → Stays (λ z. z) own view (λ call. value scope call line (tree (out-Arg item).value)) between (Ok z)
      → Stays (λ zs. zs) own between (λ call. gathered (value scope call line) more (map arg_value (drop (at + 1) args))) after r
      → Stays (λ zs. zs) own view (λ call. gathered (value scope call line) shown (map arg_value (drop at args))) after r
  arguments-next scope line shown more z grows first rest =
      stays-as (λ call. ap (λ given. gathered (value scope call line) shown (map arg_value given)) (next-is args at item below is))
      (gathered-on (λ call. value scope call line) shown more (arg_value item) (map arg_value (drop (at + 1) args)) z grows (stays-as (λ call. ap (value scope call line) (arg-is item)) first) rest)

  pub arguments-bad : {own : Slots} {view after : View} {e : Stop} (scope : Scope) (line : ℕ) (shown : List ℤ)
      → Stays (λ (z : ℤ). z) own view (λ call. value scope call line (tree (out-Arg item).value)) after (Err e)
      → Stays (λ (zs : List ℤ). zs) own view (λ call. gathered (value scope call line) shown (map arg_value (drop at args))) after (Err e)
  arguments-bad scope line shown first =
      stays-as (λ call. ap (λ given. gathered (value scope call line) shown (map arg_value given)) (next-is args at item below is))
      (gathered-bad (λ call. value scope call line) shown (arg_value item) (map arg_value (drop (at + 1) args)) (stays-as (λ call. ap (value scope call line) (arg-is item)) first))

pub arguments-none : {own : Slots} {view : View} (args : List Arg) (at : ℕ) → length args ≤ at → (scope : Scope) (line : ℕ) (shown : List ℤ)
    → Stays (λ (zs : List ℤ). zs) own view (λ call. gathered (value scope call line) shown (map arg_value (drop at args))) view (Ok shown)
arguments-none args at past scope line shown =
    stays-as (λ call. ap (λ given. gathered (value scope call line) shown (map arg_value given)) (drop_all at args past)) (gathered-none (λ call. value scope call line) shown)

-- the loop begins with nothing gathered
pub arguments-all : {own : Slots} {view after : View} {r : Result (List ℤ) Stop} (args : List Arg) (scope : Scope) (line : ℕ) (shown : List ℤ) → shown ≡ []
    → Stays (λ (zs : List ℤ). zs) own view (λ call. gathered (value scope call line) shown (map arg_value args)) after r
    → Stays (λ (zs : List ℤ). zs) own view (λ call. values scope call line (args_from (map arg_tree args))) after r
arguments-all args scope line shown none walks =
    stays-as (λ call. values-list scope call line args ∙ gathered-all (value scope call line) (map arg_value args) ∙ ap (λ zs. gathered (value scope call line) zs (map arg_value args)) (sym none)) walks

-- ---- expressions, one after the other

module _ (exprs : List Expr) (at : ℕ) (item : Expr) (below : at < length exprs) (is : item ≡ get_or exprs at item) where
  trees-next : map tree (drop at exprs) ≡ tree item ∷ map tree (drop (at + 1) exprs)
  trees-next = ap (map tree) (next-is exprs at item below is)

  both-held : IsTrue (list_all is_held (map tree (drop at exprs))) → (is_held (tree item) ≡ true) × (list_all is_held (map tree (drop (at + 1) exprs)) ≡ true)
  both-held held = and_parts (is_held (tree item)) (list_all is_held (map tree (drop (at + 1) exprs))) (sym (ap (list_all is_held) trees-next) ∙ held)

  pub expr-held : IsTrue (list_all is_held (map tree (drop at exprs))) → IsTrue (is_held (tree item))
  expr-held held = (both-held held).0

  pub exprs-held : IsTrue (list_all is_held (map tree (drop at exprs))) → IsTrue (list_all is_held (map tree (drop (at + 1) exprs)))
  exprs-held held = (both-held held).1

  pub exprs-next : {own : Slots} {view between after : View} {r : Result (List ℤ) Stop} (scope : Scope) (line : ℕ) (shown more : List ℤ) (z : ℤ) → more ≡ shown ++ z ∷ []
      → Stays (λ z. z) own view (λ call. value scope call line (tree item)) between (Ok z)
      → Stays (λ zs. zs) own between (λ call. gathered (value scope call line) more (map tree (drop (at + 1) exprs))) after r
      → Stays (λ zs. zs) own view (λ call. gathered (value scope call line) shown (map tree (drop at exprs))) after r
  exprs-next scope line shown more z grows first rest =
      stays-as (λ call. ap (gathered (value scope call line) shown) trees-next)
      (gathered-on (λ call. value scope call line) shown more (tree item) (map tree (drop (at + 1) exprs)) z grows first rest)

  pub exprs-bad : {own : Slots} {view after : View} {e : Stop} (scope : Scope) (line : ℕ) (shown : List ℤ)
      → Stays (λ (z : ℤ). z) own view (λ call. value scope call line (tree item)) after (Err e)
      → Stays (λ (zs : List ℤ). zs) own view (λ call. gathered (value scope call line) shown (map tree (drop at exprs))) after (Err e)
  exprs-bad scope line shown first =
      stays-as (λ call. ap (gathered (value scope call line) shown) trees-next)
      (gathered-bad (λ call. value scope call line) shown (tree item) (map tree (drop (at + 1) exprs)) first)

pub exprs-none : {own : Slots} {view : View} (exprs : List Expr) (at : ℕ) → length exprs ≤ at → (scope : Scope) (line : ℕ) (shown : List ℤ)
    → Stays (λ (zs : List ℤ). zs) own view (λ call. gathered (value scope call line) shown (map tree (drop at exprs))) view (Ok shown)
exprs-none exprs at past scope line shown =
    stays-as (λ call. ap (λ given. gathered (value scope call line) shown (map tree given)) (drop_all at exprs past)) (gathered-none (λ call. value scope call line) shown)

pub exprs-all : {own : Slots} {view after : View} {r : Result (List ℤ) Stop} (trees : List Tree) (scope : Scope) (line : ℕ) (shown : List ℤ) → shown ≡ []
    → Stays (λ (zs : List ℤ). zs) own view (λ call. gathered (value scope call line) shown trees) after r
    → Stays (λ (zs : List ℤ). zs) own view (λ call. all_values scope call line trees) after r
exprs-all trees scope line shown none walks =
    stays-as (λ call. gathered-all (value scope call line) trees ∙ ap (λ zs. gathered (value scope call line) zs trees) (sym none)) walks
