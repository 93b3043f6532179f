-- An expression reads elements that it may, and does nothing else.
use Rattle.std.proofs.Common.{◌≡◌, ℕ, List, [], ◌∷◌, Option, Some, None}
use Rattle.std.specs.Prelude.{ℤ, pos}
use Rattle.dc_int.specs.Operations.{Outcome}
use Rattle.dc_int.specs.Store.{Store}
use Rattle.dc_code.specs.Computation.{over}
use Rattle.dc_tree.specs.Entities.{Entity, outside, slots, dummy, constant, function, subroutine, reduction, nothing, Scope, entity}
use Rattle.dc_tree.specs.Intrinsics.{Intrinsic, operation, chosen, merge, converted, huge, bit_size, kind, size, lower_bound, upper_bound, total, count, any, all, intrinsic}
use Rattle.dc_tree.specs.Operating.{joined_by, led_by, called}
use Rattle.dc_tree.specs.Statements.{Name}
use Rattle.dc_tree.specs.Syntax.{Tree, Args, number, truth, chars, name, refer, paren, unary, binary, no_args, arg}
use Rattle.dc_tree.specs.Typing.{joined, sort_of, sorts_of, first_sort}
use Rattle.dc_meaning.specs.Acts.{State, Act, ◌>>=◌, just}
use Rattle.dc_meaning.specs.Places.{whole_values}
use Rattle.dc_meaning.specs.Values.{Callee, settled, refer_value, array_named, intrinsic_value, referred, value, values, first_value, all_values}
use Rattle.dc_meaning.proofs.Doing.{May, Any, reading, only-stays}
use Rattle.dc_meaning.proofs.Own.{Own, Each, any-each, OwnEntity, both-own, just-own, each-own, any-own, entity-own, whole_values-own, settled-own}

-- ---- references

module _ (may : May) where
  pub refer_value-own : (call : Callee) (line : ℕ) (e : Entity) (subscripts : List ℤ) → OwnEntity may.access e → Own may Any (refer_value call line e subscripts)
  refer_value-own call line (outside variable sort bounds) subscripts own = entity-own may line (outside variable sort bounds) subscripts own
  refer_value-own call line (slots group sort bounds) subscripts own = entity-own may line (slots group sort bounds) subscripts own
  refer_value-own call line (constant sort z) subscripts own = entity-own may line (constant sort z) subscripts own
  refer_value-own call line nothing subscripts own = entity-own may line nothing subscripts own
  refer_value-own call line (dummy place sort) subscripts own = absurd own
  refer_value-own call line (function procedure sort) subscripts own = absurd own
  refer_value-own call line (subroutine procedure intents) subscripts own = absurd own
  refer_value-own call line (reduction variable op sort bounds) subscripts own = absurd own

  -- a function of the language, given what its arguments do
  module _ (scope : Scope) (line : ℕ) (args : Args) (first : Act ℤ) (others : Act (List ℤ)) (array : OwnEntity may.access (array_named scope args)) (one : Own may Any first) (each : Own may Any others) where
    operated-own : (outcome : List ℤ → Outcome) → Own may Any (others >>= (λ given. settled line (outcome given)))
    operated-own outcome = both-own may {Q = Any} each (λ given any. settled-own may line (outcome given))

    folded-own : (fold : List ℤ → ℤ) → Own may Any (whole_values line (array_named scope args) >>= (λ given. just (fold given)))
    folded-own fold = both-own may {Q = Any} (whole_values-own may line (array_named scope args) array) (λ given any. just-own may (fold given) tt)

    intrinsic-own : (function_of : Intrinsic) → Own may Any (intrinsic_value scope line function_of args first others)
    intrinsic-own (operation op) = operated-own (called (operation op) (first_sort (sorts_of scope args)))
    intrinsic-own (chosen op) = operated-own (called (chosen op) (first_sort (sorts_of scope args)))
    intrinsic-own merge = operated-own (called merge (first_sort (sorts_of scope args)))
    intrinsic-own converted = both-own may {Q = Any} one (λ given any. just-own may _ tt)
    intrinsic-own huge = just-own may _ tt
    intrinsic-own bit_size = just-own may _ tt
    intrinsic-own kind = just-own may _ tt
    intrinsic-own size = just-own may _ tt
    intrinsic-own lower_bound = just-own may _ tt
    intrinsic-own upper_bound = just-own may _ tt
    intrinsic-own total = folded-own _
    intrinsic-own count = folded-own _
    intrinsic-own any = folded-own _
    intrinsic-own all = folded-own _

    referred-own : (call : Callee) (e : Entity) (function_of : Option Intrinsic) → OwnEntity may.access e → Own may Any (referred scope call line e function_of args first others)
    referred-own call e function_of own = by e function_of own
      where
        by_name : (e : Entity) → OwnEntity may.access e → Own may Any (others >>= refer_value call line e)
        by_name e own = both-own may {Q = Any} each (λ given any. refer_value-own call line e given own)

        by : (e : Entity) (function_of : Option Intrinsic) → OwnEntity may.access e → Own may Any (referred scope call line e function_of args first others)
        by nothing (Some function_of) own = intrinsic-own function_of
        by nothing None own = by_name nothing own
        by (outside variable sort bounds) function_of own = by_name (outside variable sort bounds) own
        by (slots group sort bounds) function_of own = by_name (slots group sort bounds) own
        by (constant sort z) function_of own = by_name (constant sort z) own
        by (dummy place sort) function_of own = absurd own
        by (function procedure sort) function_of own = absurd own
        by (subroutine procedure intents) function_of own = absurd own
        by (reduction variable op sort bounds) function_of own = absurd own

-- ---- expressions

-- An expression reads elements with P, and does nothing else.
module _ (may : May) (scope : Scope) (own : (text : Name) → OwnEntity may.access (entity scope text)) (call : Callee) (line : ℕ) where
  array-own : (args : Args) → OwnEntity may.access (array_named scope args)
  array-own (arg keyed (name text) rest) = own text
  array-own args = tt

  mutual
    pub value-own : (t : Tree) → Own may Any (value scope call line t)
    value-own (number digits suffix) = just-own may _ tt
    value-own (truth given) = just-own may _ tt
    value-own (chars text) = just-own may (pos 0) tt
    value-own (name text) = refer_value-own may call line (entity scope text) [] (own text)
    value-own (refer text args) =
        referred-own may scope line args (first_value scope call line args) (values scope call line args) (array-own args) (first-own args) (values-own args) call (entity scope text) (intrinsic text)
        (own text)
    value-own (paren inside) = value-own inside
    value-own (unary mark right) = both-own may {Q = Any} (value-own right) (λ a any. settled-own may line (led_by mark (sort_of scope right) a))
    value-own (binary mark left right) =
        both-own may {Q = Any} (value-own left)
        (λ a any. both-own may {Q = Any} (value-own right) (λ b more. settled-own may line (joined_by mark (joined (sort_of scope left) (sort_of scope right)) a b)))

    pub values-own : (args : Args) → Own may Any (values scope call line args)
    values-own no_args = just-own may [] tt
    values-own (arg keyed given rest) = both-own may {Q = Any} (value-own given) (λ a any. both-own may {Q = Any} (values-own rest) (λ others more. just-own may (a ∷ others) tt))

    pub first-own : (args : Args) → Own may Any (first_value scope call line args)
    first-own no_args = just-own may (pos 0) tt
    first-own (arg keyed given rest) = value-own given

  pub all_values-own : (trees : List Tree) → Own may Any (all_values scope call line trees)
  all_values-own trees = any-own may {Q = Each Any} (each-own may {Q = Any} {R = Any} (value scope call line) (λ t any. value-own t) trees (any-each trees))

-- The store stays as it is.
pub value-stays : (scope : Scope) → ((text : Name) → OwnEntity Any (entity scope text)) → (call : Callee) (line : ℕ) (t : Tree) (state : State) (store : Store)
    → (over store (value scope call line t state)).store ≡ store
value-stays scope own call line t state store =
    only-stays (reading Any) Any store (value scope call line t state) (λ x state no. no) ((value-own (reading Any) scope own call line t).holds state)
