-- Instructions that are added one after the other, and those of expressions by their parts.
use Rattle.std.proofs.Common.{◌≡◌, ap₂, ℕ, ◌+◌, ◌<◌, Bool, List, [], ◌∷◌, ◌++◌, length, map, drop, get_or, Option, Some, None, refl, sym, ap, ◌∙◌, append_assoc, append-nil}
use Rattle.dc_int.specs.declared.kind.Kind.{Kind}
use Rattle.dc_int.specs.Sorts.{Sort, kind_of}
use Rattle.dc_code.specs.declared.instr.What.{What}
use Rattle.dc_tree.specs.declared.expr.Arg.{Arg, out-Arg, fold_out-Arg}
use Rattle.dc_tree.specs.declared.expr.Expr.{Expr, Binary}
use Rattle.dc_tree.specs.declared.token.Mark.{Mark}
use Rattle.dc_tree.specs.Entities as entities
use Rattle.dc_tree.specs.Entities.{Entity, outside, slots, dummy, constant, subroutine, reduction, nothing, Scope, entity}
use Rattle.dc_tree.specs.Intrinsics.{Intrinsic, operation, chosen, merge, converted, huge, bit_size, kind, size, lower_bound, upper_bound, total, count, any, all, intrinsic}
use Rattle.dc_tree.specs.Syntax.{Tree, Args, binary, refer, arg, tree, arg_tree, args_from, tree_step, arg_step}
use Rattle.dc_tree.specs.Typing.{joined, kind_converted, sort_of, first_sort, sorts_of}
use Rattle.dc_tree.proofs.Views.{tree-Binary}
use Rattle.dc_sorts.specs.declared.form.Form.{Form}
use Rattle.dc_sorts.specs.declared.known.Known.{Known}
use Rattle.dc_sorts.specs.Forms.{sort_of_form}
use Rattle.dc_sorts.specs.Knowing.{known_of, known_args, known_sort, known_value}
use Rattle.dc_meaning.specs.Evaluating.{hidden_by}
use Rattle.dc_meaning.proofs.Gathering.{next-is}
use Rattle.dc_meaning.proofs.Inquiring.{known-sort, first-known, values-known}
use Rattle.dc_actions.specs.Expressions.{joined_code, value_code, values_code, first_code, chosen_code, function_code, referred_code}
use Rattle.dc_actions.specs.References.{arguments_code, called_code, behind_code}

-- ---- lists that grow at their end

module _ {A : Type 0} where
  -- One step more of a list that becomes the whole.
  pub grown : (before added after left rest whole : List A) → left ≡ added ++ rest → after ≡ before ++ added → before ++ left ≡ whole → after ++ rest ≡ whole
  grown before added after left rest whole is grows so =
      ap (λ (list : List A). list ++ rest) grows ∙ append_assoc before added rest ∙ ap (λ (list : List A). before ++ list) (sym is) ∙ so

  -- Nothing is left to be added.
  pub grown-whole : (before left whole : List A) → left ≡ [] → before ++ left ≡ whole → before ≡ whole
  grown-whole before left whole none so = sym (append-nil before) ∙ ap (λ (list : List A). before ++ list) (sym none) ∙ so

-- ---- arguments

arg-is : (one : Arg) → (arg_tree one).1 ≡ tree (out-Arg one).value
arg-is one = sym (ap (λ (w : Bool × Tree). w.1) (sym (fold_out-Arg Tree (Bool × Tree) tree_step arg_step one)))

-- The argument at a place, before the others.
pub args-next : (args : List Arg) (at : ℕ) (item : Arg) → at < length args → item ≡ get_or args at item
    → args_from (map arg_tree (drop at args)) ≡ arg (arg_tree item).0 (tree (out-Arg item).value) (args_from (map arg_tree (drop (at + 1) args)))
args-next args at item below is =
    ap (λ given. args_from (map arg_tree given)) (next-is args at item below is)
    ∙ ap (λ (one : Tree). arg (arg_tree item).0 one (args_from (map arg_tree (drop (at + 1) args)))) (arg-is item)

-- ---- a reference

function-parts : (scope : Scope) (function : Intrinsic) (args : Args)
    → function_code scope function args (first_sort (sorts_of scope args)) (values_code scope args) (first_code scope args) (λ op its_kind. chosen_code scope op its_kind args)
    ≡ arguments_code scope (Some function) args ++ called_code scope function args (first_sort (sorts_of scope args))
function-parts scope (operation op) args = refl
function-parts scope (chosen op) args = sym (append-nil (chosen_code scope op (kind_of (first_sort (sorts_of scope args))) args))
function-parts scope merge args = refl
function-parts scope converted args = refl
function-parts scope huge args = refl
function-parts scope bit_size args = refl
function-parts scope kind args = refl
function-parts scope size args = refl
function-parts scope lower_bound args = refl
function-parts scope upper_bound args = refl
function-parts scope total args = refl
function-parts scope count args = refl
function-parts scope any args = refl
function-parts scope all args = refl

refer-parts : (scope : Scope) (found : Entity) (named : Option Intrinsic) (args : Args)
    → referred_code scope found named args (values_code scope args) (first_code scope args) (λ op its_kind. chosen_code scope op its_kind args)
    ≡ arguments_code scope (hidden_by found named) args ++ behind_code scope found (hidden_by found named) args
refer-parts scope nothing (Some function) args = function-parts scope function args
refer-parts scope nothing None args = refl
refer-parts scope (outside variable sort bounds) named args = refl
refer-parts scope (slots group sort bounds) named args = refl
refer-parts scope (dummy place sort) named args = refl
refer-parts scope (constant sort z) named args = refl
refer-parts scope (entities.function procedure sort) named args = refl
refer-parts scope (subroutine procedure intents) named args = refl
refer-parts scope (reduction variable op sort bounds) named args = refl

-- The instructions of a reference are those of its arguments, and those behind them.
pub code-refer : (scope : Scope) (text : List ℕ) (args : Args) (found : Entity) (function : Option Intrinsic) → found ≡ entity scope text → function ≡ hidden_by found (intrinsic text)
    → value_code scope (refer text args) ≡ arguments_code scope function args ++ behind_code scope found function args
code-refer scope text args found function is named =
    refer-parts scope (entity scope text) (intrinsic text) args
    ∙ ap (λ (e : Entity). arguments_code scope (hidden_by e (intrinsic text)) args ++ behind_code scope e (hidden_by e (intrinsic text)) args) (sym is)
    ∙ ap (λ (f : Option Intrinsic). arguments_code scope f args ++ behind_code scope found f args) (sym named)

-- INT wraps to the kind that its arguments name.
pub code-converted : (scope : Scope) (args : Args) (sort : Sort) (known : List Known) (its_kind : Kind) → known ≡ known_args scope args → its_kind ≡ kind_converted (map known_value known)
    → What.Wrap its_kind ∷ [] ≡ called_code scope converted args sort
code-converted scope args sort known its_kind is named = ap (λ k. What.Wrap k ∷ []) (named ∙ ap kind_converted (values-known scope args known is))

-- A function of the language goes by the sort of its first argument.
pub code-called : (scope : Scope) (asked : Intrinsic) (args : Args) (known : List Known) (form : Form) → known ≡ known_args scope args → sort_of_form form ≡ first_sort (map known_sort known)
    → called_code scope asked args (sort_of_form form) ≡ called_code scope asked args (first_sort (sorts_of scope args))
code-called scope asked args known form is first = ap (called_code scope asked args) (first ∙ first-known scope args known is)

-- ---- operators

pub code-binary : (scope : Scope) (e : Expr) (mark : Mark) (left right first second : Expr) (a b : Known) (form : Form) (before between behind after : List What) → e ≡ Binary mark left right → first ≡ left → second ≡ right
    → a ≡ known_of scope (tree first) → b ≡ known_of scope (tree second) → sort_of_form form ≡ joined (sort_of_form a.form) (sort_of_form b.form)
    → between ≡ before ++ value_code scope (tree first) → behind ≡ between ++ value_code scope (tree second) → after ≡ behind ++ joined_code mark (sort_of_form form)
    → after ≡ before ++ value_code scope (tree e)
code-binary scope e mark left right first second a b form before between behind after is same other known_a known_b sort grows then_grows grows_last =
    let one = value_code scope (tree first) in
    let two = value_code scope (tree second) in
    let sorts : sort_of_form form ≡ joined (sort_of scope (tree first)) (sort_of scope (tree second)) =
    sort ∙ ap₂ joined (known-sort scope (tree first) a known_a) (known-sort scope (tree second) b known_b) in
    let whole : tree e ≡ binary mark (tree first) (tree second) =
    ap tree is ∙ tree-Binary mark left right ∙ ap₂ (λ x y. binary mark (tree x) (tree y)) (sym same) (sym other) in
    grows_last ∙ ap (λ w. behind ++ joined_code mark w) sorts
    ∙ ap (λ (w : List What). w ++ joined_code mark (joined (sort_of scope (tree first)) (sort_of scope (tree second)))) (then_grows ∙ ap (λ (w : List What). w ++ two) grows ∙ append_assoc before one two)
    ∙ append_assoc before (one ++ two) (joined_code mark (joined (sort_of scope (tree first)) (sort_of scope (tree second))))
    ∙ ap (λ (w : List What). before ++ w) (append_assoc one two (joined_code mark (joined (sort_of scope (tree first)) (sort_of scope (tree second)))))
    ∙ ap (λ t. before ++ value_code scope t) (sym whole)
