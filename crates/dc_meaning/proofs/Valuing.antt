-- The values of expressions, form by form.
use Rattle.std.proofs.Common.{◌≡◌, ℕ, Bool, List, [], ◌∷◌, map, Option, Some, None, refl, sym, ap, ◌∙◌}
use Rattle.std.specs.Prelude.{Result, Ok, Err, ℤ, pos}
use Rattle.std.proofs.lemmas.Option.{none-some}
use Rattle.dc_int.specs.Reductions.{number_of_truth}
use Rattle.dc_code.specs.Troubles.{Slots}
use Rattle.dc_entities.specs.declared.found.Found.{Found}
use Rattle.dc_entities.specs.Found.{entity_of}
use Rattle.dc_plain.specs.Views.{View}
use Rattle.dc_sorts.specs.declared.known.Known.{Known}
use Rattle.dc_sorts.specs.Forms.{sort_of_form}
use Rattle.dc_sorts.specs.Knowing.{known_of}
use Rattle.dc_sorts.proofs.Knowing.{form-back}
use Rattle.dc_tree.specs.declared.token.Mark.{Mark}
use Rattle.dc_tree.specs.declared.token.Suffix.{Suffix}
use Rattle.dc_tree.specs.declared.expr.Arg.{Arg}
use Rattle.dc_tree.specs.declared.expr.Expr.{Expr, Number, Truth, Chars, Name}
use Rattle.dc_tree.specs.Entities.{Entity, nothing, Scope, entity}
use Rattle.dc_tree.specs.Intrinsics.{Intrinsic, operation, chosen, merge, converted, huge, bit_size, kind, size, lower_bound, upper_bound, total, count, any, all, intrinsic}
use Rattle.dc_tree.specs.Literals.{number_of}
use Rattle.dc_tree.specs.Syntax.{Tree, Args, number, truth, chars, name, refer, unary, binary, args_from, tree, arg_tree}
use Rattle.dc_tree.specs.Typing.{sort_of}
use Rattle.dc_tree.proofs.Views.{tree-Number, tree-Truth, tree-Chars, tree-Name}
use Rattle.dc_meaning.specs.declared.stop.Stop.{Stop}
use Rattle.dc_meaning.specs.Acts.{Act, just, ◌>>=◌, for_each}
use Rattle.dc_meaning.specs.declared.reference.Evaluates.{Evaluates}
use Rattle.dc_meaning.specs.Evaluating.{hidden_by, evaluates, referred_at, converted_to, unevaluated_at, joined_at, led_at}
use Rattle.dc_meaning.specs.Places.{value_at_entity}
use Rattle.dc_meaning.specs.Values.{Callee, refer_value, referred, value, values, first_value}
use Rattle.dc_meaning.specs.Walking.{Stays}
use Rattle.dc_meaning.proofs.Walking.{stays-just, stays-then, stays-bad, stays-as}

-- ---- names

refer-found : (found : Found) (call : Callee) (line : ℕ) (subscripts : List ℤ) → refer_value call line (entity_of found) subscripts ≡ value_at_entity line (entity_of found) subscripts
refer-found (Found.Index k) call line subscripts = refl
refer-found (Found.Variable variable form bounds) call line subscripts = refl
refer-found (Found.Constant form z) call line subscripts = refl
refer-found Found.Nothing call line subscripts = refl

-- ---- a reference with arguments, by what of these it evaluates

all-first : Evaluates.All ≡ Evaluates.First → ⊥
all-first e = cc

module _ (scope : Scope) (call : Callee) (line : ℕ) (args : Args) where
  abbrev reference : Entity → Option Intrinsic → Act ℤ
  reference e function = referred scope call line e function args (first_value scope call line args) (values scope call line args)

  -- all of them
  pub evaluates-all : (found : Found) (named function : Option Intrinsic) → function ≡ hidden_by (entity_of found) named → evaluates function ≡ Evaluates.All
      → reference (entity_of found) named ≡ (values scope call line args >>= referred_at scope line (entity_of found) function args)
  evaluates-all (Found.Index k) named function is every = rw is refl
  evaluates-all (Found.Variable variable form bounds) named function is every = rw is refl
  evaluates-all (Found.Constant form z) named function is every = rw is refl
  evaluates-all Found.Nothing None function is every = rw is refl
  evaluates-all Found.Nothing (Some f) function is every = by f (sym (ap evaluates is) ∙ every) ∙ (λ i. values scope call line args >>= referred_at scope line nothing (sym is i) args)
    where
      by : (f : Intrinsic) → evaluates (Some f) ≡ Evaluates.All → reference nothing (Some f) ≡ (values scope call line args >>= referred_at scope line nothing (Some f) args)
      by (operation op) e = refl
      by (chosen op) e = refl
      by merge e = refl
      by converted e = cc
      by huge e = cc
      by bit_size e = cc
      by kind e = cc
      by size e = cc
      by lower_bound e = cc
      by upper_bound e = cc
      by total e = cc
      by count e = cc
      by any e = cc
      by all e = cc

  -- the first
  pub evaluates-first : (found : Found) (named function : Option Intrinsic) → function ≡ hidden_by (entity_of found) named → evaluates function ≡ Evaluates.First
      → reference (entity_of found) named ≡ (first_value scope call line args >>= (λ z. just (converted_to scope args z)))
  evaluates-first (Found.Index k) named function is first = absurd (all-first (sym (ap evaluates is) ∙ first))
  evaluates-first (Found.Variable variable form bounds) named function is first = absurd (all-first (sym (ap evaluates is) ∙ first))
  evaluates-first (Found.Constant form z) named function is first = absurd (all-first (sym (ap evaluates is) ∙ first))
  evaluates-first Found.Nothing None function is first = absurd (all-first (sym (ap evaluates is) ∙ first))
  evaluates-first Found.Nothing (Some f) function is first = by f (sym (ap evaluates is) ∙ first)
    where
      by : (f : Intrinsic) → evaluates (Some f) ≡ Evaluates.First → reference nothing (Some f) ≡ (first_value scope call line args >>= (λ z. just (converted_to scope args z)))
      by (operation op) e = cc
      by (chosen op) e = cc
      by merge e = cc
      by converted e = refl
      by huge e = cc
      by bit_size e = cc
      by kind e = cc
      by size e = cc
      by lower_bound e = cc
      by upper_bound e = cc
      by total e = cc
      by count e = cc
      by any e = cc
      by all e = cc

  -- none of them
  pub evaluates-none : (found : Found) (named function : Option Intrinsic) (f : Intrinsic) → function ≡ hidden_by (entity_of found) named → function ≡ Some f → evaluates function ≡ Evaluates.Nothing
      → reference (entity_of found) named ≡ unevaluated_at scope line f args
  evaluates-none (Found.Index k) named function f is some none = absurd (none-some f (sym is ∙ some))
  evaluates-none (Found.Variable variable form bounds) named function f is some none = absurd (none-some f (sym is ∙ some))
  evaluates-none (Found.Constant form z) named function f is some none = absurd (none-some f (sym is ∙ some))
  evaluates-none Found.Nothing named function f is some none =
      ap (reference nothing) (sym is ∙ some) ∙ by f (sym (ap evaluates some) ∙ none)
    where
      by : (f : Intrinsic) → evaluates (Some f) ≡ Evaluates.Nothing → reference nothing (Some f) ≡ unevaluated_at scope line f args
      by (operation op) e = cc
      by (chosen op) e = cc
      by merge e = cc
      by converted e = cc
      by huge e = refl
      by bit_size e = refl
      by kind e = refl
      by size e = refl
      by lower_bound e = refl
      by upper_bound e = refl
      by total e = refl
      by count e = refl
      by any e = refl
      by all e = refl

module _ (scope : Scope) (line : ℕ) where
  abbrev walked : Expr → Callee → Act ℤ
  walked e call = value scope call line (tree e)

  -- an expression by its tree
  pub value-as : {own : Slots} {before after : View} {r : Result ℤ Stop} (e : Expr) (t : Tree) → tree e ≡ t
      → Stays (λ z. z) own before (λ call. value scope call line t) after r → Stays (λ z. z) own before (walked e) after r
  value-as e t is walks = stays-as (λ call. ap (value scope call line) is) walks

  -- one that has its value by itself
  pub value-just : {own : Slots} {view : View} (e : Expr) (t : Tree) (z : ℤ) → tree e ≡ t → ((call : Callee) → value scope call line t ≡ just z)
      → Stays (λ z. z) own view (walked e) view (Ok z)
  value-just e t z is gives = stays-just z (λ call. ap (value scope call line) is ∙ gives call)

  pub number-value : {own : Slots} {view : View} (e : Expr) (digits : List ℕ) (suffix : Suffix) (z : ℤ) → e ≡ Number digits suffix → z ≡ pos (number_of digits)
      → Stays (λ z. z) own view (walked e) view (Ok z)
  number-value e digits suffix z is same = value-just e (number digits suffix) z (ap tree is ∙ tree-Number digits suffix) (λ call. ap just (sym same))

  pub truth-value : {own : Slots} {view : View} (e : Expr) (given : Bool) (z : ℤ) → e ≡ Truth given → z ≡ number_of_truth given → Stays (λ z. z) own view (walked e) view (Ok z)
  truth-value e given z is same = value-just e (truth given) z (ap tree is ∙ tree-Truth given) (λ call. ap just (sym same))

  pub chars-value : {own : Slots} {view : View} (e : Expr) (text : List ℕ) → e ≡ Chars text → Stays (λ z. z) own view (walked e) view (Ok (pos 0))
  chars-value e text is = value-just e (chars text) (pos 0) (ap tree is ∙ tree-Chars text) (λ call. refl)

  pub name-value : {own : Slots} {before after : View} {r : Result ℤ Stop} (e : Expr) (text shown : List ℕ) (found : Found) → e ≡ Name text → shown ≡ text → entity_of found ≡ entity scope shown
      → Stays (λ z. z) own before (λ call. value_at_entity line (entity_of found) []) after r → Stays (λ z. z) own before (walked e) after r
  name-value e text shown found is seen found-is walks =
      value-as e (name text) (ap tree is ∙ tree-Name text)
      (stays-as (λ call. ap (λ x. refer_value call line x []) (sym (found-is ∙ ap (entity scope) seen)) ∙ refer-found found call line []) walks)

  -- ---- a name with arguments

  module _ (text : List ℕ) (args : Args) (found : Found) (function : Option Intrinsic) (is : entity_of found ≡ entity scope text) (named : function ≡ hidden_by (entity_of found) (intrinsic text)) where
    refer-is : (call : Callee) → value scope call line (refer text args) ≡ reference scope call line args (entity_of found) (intrinsic text)
    refer-is call = ap (λ e. reference scope call line args e (intrinsic text)) (sym is)

    pub refer-all : {own : Slots} {before between after : View} {r : Result ℤ Stop} (given : List ℤ) → evaluates function ≡ Evaluates.All
        → Stays (λ zs. zs) own before (λ call. values scope call line args) between (Ok given)
        → Stays (λ z. z) own between (λ call. referred_at scope line (entity_of found) function args given) after r
        → Stays (λ z. z) own before (λ call. value scope call line (refer text args)) after r
    refer-all given every first second =
        stays-as (λ call. refer-is call ∙ evaluates-all scope call line args found (intrinsic text) function named every)
        (stays-then (λ call. referred_at scope line (entity_of found) function args) first second)

    pub refer-all_bad : {own : Slots} {before after : View} {e : Stop} → evaluates function ≡ Evaluates.All
        → Stays (λ (zs : List ℤ). zs) own before (λ call. values scope call line args) after (Err e)
        → Stays (λ (z : ℤ). z) own before (λ call. value scope call line (refer text args)) after (Err e)
    refer-all_bad every first =
        stays-as (λ call. refer-is call ∙ evaluates-all scope call line args found (intrinsic text) function named every)
        (stays-bad {A = ℤ} {tell = λ z. z} (λ call. referred_at scope line (entity_of found) function args) first)

    pub refer-first : {own : Slots} {before after : View} (given z : ℤ) → evaluates function ≡ Evaluates.First → z ≡ converted_to scope args given
        → Stays (λ z. z) own before (λ call. first_value scope call line args) after (Ok given)
        → Stays (λ z. z) own before (λ call. value scope call line (refer text args)) after (Ok z)
    refer-first given z first is_z walks =
        stays-as (λ call. refer-is call ∙ evaluates-first scope call line args found (intrinsic text) function named first)
        (stays-then (λ call z. just (converted_to scope args z)) walks (stays-just z (λ call. ap just (sym is_z))))

    pub refer-first_bad : {own : Slots} {before after : View} {e : Stop} → evaluates function ≡ Evaluates.First
        → Stays (λ (z : ℤ). z) own before (λ call. first_value scope call line args) after (Err e)
        → Stays (λ (z : ℤ). z) own before (λ call. value scope call line (refer text args)) after (Err e)
    refer-first_bad first walks =
        stays-as (λ call. refer-is call ∙ evaluates-first scope call line args found (intrinsic text) function named first)
        (stays-bad {A = ℤ} {tell = λ z. z} (λ call z. just (converted_to scope args z)) walks)

    pub refer-none : {own : Slots} {before after : View} {r : Result ℤ Stop} (f : Intrinsic) → function ≡ Some f → evaluates function ≡ Evaluates.Nothing
        → Stays (λ z. z) own before (λ call. unevaluated_at scope line f args) after r
        → Stays (λ z. z) own before (λ call. value scope call line (refer text args)) after r
    refer-none f some none walks =
        stays-as (λ call. refer-is call ∙ evaluates-none scope call line args found (intrinsic text) function f named some none) walks

  -- ---- marks

  -- what is known of an expression has its sort
  pub known-sort : (t : Tree) (known : Known) → known ≡ known_of scope t → sort_of_form known.form ≡ sort_of scope t
  known-sort t known is = ap (λ (k : Known). sort_of_form k.form) is ∙ form-back (sort_of scope t)

  pub unary-value : {own : Slots} {before between after : View} {r : Result ℤ Stop} (mark : Mark) (right : Tree) (a : ℤ)
      → Stays (λ z. z) own before (λ call. value scope call line right) between (Ok a) → Stays (λ z. z) own between (λ call. led_at scope line mark right a) after r
      → Stays (λ z. z) own before (λ call. value scope call line (unary mark right)) after r
  unary-value mark right a first second = stays-then (λ call. led_at scope line mark right) first second

  pub unary-bad : {own : Slots} {before after : View} {e : Stop} (mark : Mark) (right : Tree) → Stays (λ (z : ℤ). z) own before (λ call. value scope call line right) after (Err e)
      → Stays (λ (z : ℤ). z) own before (λ call. value scope call line (unary mark right)) after (Err e)
  unary-bad mark right first = stays-bad {A = ℤ} {tell = λ z. z} (λ call. led_at scope line mark right) first

  abbrev behind-left : Mark → Tree → Tree → Callee → ℤ → Act ℤ
  behind-left mark left right call a = value scope call line right >>= joined_at scope line mark left right a

  pub left-bad : {own : Slots} {before after : View} {e : Stop} (mark : Mark) (left right : Tree) → Stays (λ (z : ℤ). z) own before (λ call. value scope call line left) after (Err e)
      → Stays (λ (z : ℤ). z) own before (λ call. value scope call line (binary mark left right)) after (Err e)
  left-bad mark left right first = stays-bad {A = ℤ} {tell = λ z. z} (behind-left mark left right) first

  pub right-bad : {own : Slots} {before between after : View} {e : Stop} (mark : Mark) (left right : Tree) (a : ℤ) → Stays (λ z. z) own before (λ call. value scope call line left) between (Ok a)
      → Stays (λ (z : ℤ). z) own between (λ call. value scope call line right) after (Err e)
      → Stays (λ (z : ℤ). z) own before (λ call. value scope call line (binary mark left right)) after (Err e)
  right-bad mark left right a first second =
      stays-then (behind-left mark left right) first (stays-bad {A = ℤ} {tell = λ z. z} (λ call. joined_at scope line mark left right a) second)

  pub binary-value : {own : Slots} {before between mid after : View} {r : Result ℤ Stop} (mark : Mark) (left right : Tree) (a b : ℤ)
      → Stays (λ z. z) own before (λ call. value scope call line left) between (Ok a) → Stays (λ z. z) own between (λ call. value scope call line right) mid (Ok b)
      → Stays (λ z. z) own mid (λ call. joined_at scope line mark left right a b) after r
      → Stays (λ z. z) own before (λ call. value scope call line (binary mark left right)) after r
  binary-value mark left right a b first second third =
      stays-then (behind-left mark left right) first (stays-then (λ call. joined_at scope line mark left right a) second third)

-- ---- arguments

-- the expressions of arguments
abbrev pub arg_value : Arg → Tree
arg_value one = (arg_tree one).1

pub values-list : (scope : Scope) (call : Callee) (line : ℕ) (args : List Arg) → values scope call line (args_from (map arg_tree args)) ≡ for_each (value scope call line) (map arg_value args)
values-list scope call line [] = refl
values-list scope call line (first ∷ args) = ap (λ rest. value scope call line (arg_value first) >>= (λ a. rest >>= (λ others. just (a ∷ others)))) (values-list scope call line args)
