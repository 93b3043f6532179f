-- What is known of operands and arguments, and what functions of the language make of it.
use Rattle.std.proofs.Common.{◌≡◌, ℕ, List, ◌∷◌, map, Option, refl, sym, ap, ap₂, ◌∙◌}
use Rattle.std.specs.Prelude.{Result, Ok, Err, ℤ}
use Rattle.dc_int.specs.Operations.{Outcome}
use Rattle.dc_int.specs.Sorts.{Sort}
use Rattle.dc_code.specs.Troubles.{Slots}
use Rattle.dc_plain.specs.Views.{View}
use Rattle.dc_sorts.specs.declared.known.Known.{Known}
use Rattle.dc_sorts.specs.Forms.{sort_of_form}
use Rattle.dc_sorts.specs.Knowing.{known_of, known_args, known_sort, known_value}
use Rattle.dc_sorts.proofs.Knowing.{form-back}
use Rattle.dc_tree.specs.Entities.{Scope}
use Rattle.dc_tree.specs.Intrinsics.{Intrinsic}
use Rattle.dc_tree.specs.Operating.{about_kind}
use Rattle.dc_tree.specs.Syntax.{Tree, Args, no_args, arg}
use Rattle.dc_tree.specs.Typing.{sort_of, sorts_of, constant_value, constants_of, first_sort}
use Rattle.dc_meaning.specs.declared.stop.Stop.{Stop}
use Rattle.dc_meaning.specs.Acts.{just}
use Rattle.dc_meaning.specs.declared.reference.Asks.{Asks}
use Rattle.dc_meaning.specs.Evaluating.{folded_at, asked_about, asked_of_array, asks, unevaluated_at}
use Rattle.dc_meaning.specs.Places.{whole_values}
use Rattle.dc_meaning.specs.Values.{settled, folded, array_named}
use Rattle.dc_meaning.specs.Walking.{Stays}
use Rattle.dc_meaning.proofs.Walking.{stays-as, stays-then, stays-bad, stays-just}

-- ---- sorts and constants

pub known-sort : (scope : Scope) (t : Tree) (known : Known) → known ≡ known_of scope t → sort_of_form known.form ≡ sort_of scope t
known-sort scope t known is = ap (λ (k : Known). sort_of_form k.form) is ∙ form-back (sort_of scope t)

pub known-sorts : (scope : Scope) (args : Args) → map known_sort (known_args scope args) ≡ sorts_of scope args
known-sorts scope no_args = refl
known-sorts scope (arg keyed value rest) = ap₂ (λ sort sorts. sort ∷ sorts) (form-back (sort_of scope value)) (known-sorts scope rest)

pub known-values : (scope : Scope) (args : Args) → map known_value (known_args scope args) ≡ constants_of scope args
known-values scope no_args = refl
known-values scope (arg keyed value rest) = ap (λ (values : List (Option ℤ)). constant_value scope value ∷ values) (known-values scope rest)

-- the sort of the first argument, by what is known of all
pub first-known : (scope : Scope) (args : Args) (known : List Known) → known ≡ known_args scope args → first_sort (map known_sort known) ≡ first_sort (sorts_of scope args)
first-known scope args known is = ap (λ ks. first_sort (map known_sort ks)) is ∙ ap first_sort (known-sorts scope args)

pub values-known : (scope : Scope) (args : Args) (known : List Known) → known ≡ known_args scope args → map known_value known ≡ constants_of scope args
values-known scope args known is = ap (map known_value) is ∙ known-values scope args

-- ---- operations

module _ {own : Slots} {before after : View} {r : Result ℤ Stop} (line : ℕ) where
  pub settled-as : (outcome other : Outcome) → outcome ≡ other → Stays (λ z. z) own before (λ call. settled line outcome) after r → Stays (λ z. z) own before (λ call. settled line other) after r
  settled-as outcome other is walks = stays-as (λ call. ap (settled line) (sym is)) walks

-- ---- arrays

pub folded-walks : {own : Slots} {before after : View} (scope : Scope) (line : ℕ) (function : Intrinsic) (sort : Sort) (args : Args) (given : List ℤ) (z : ℤ) → z ≡ folded function sort given
    → Stays (λ zs. zs) own before (λ call. whole_values line (array_named scope args)) after (Ok given)
    → Stays (λ z. z) own before (λ call. folded_at scope line function sort args) after (Ok z)
folded-walks scope line function sort args given z is walks = stays-then (λ call zs. just (folded function sort zs)) walks (stays-just z (λ call. ap just (sym is)))

pub folded-bad : {own : Slots} {before after : View} {e : Stop} (scope : Scope) (line : ℕ) (function : Intrinsic) (sort : Sort) (args : Args)
    → Stays (λ (zs : List ℤ). zs) own before (λ call. whole_values line (array_named scope args)) after (Err e)
    → Stays (λ (z : ℤ). z) own before (λ call. folded_at scope line function sort args) after (Err e)
folded-bad scope line function sort args walks = stays-bad {A = ℤ} {tell = λ z. z} (λ call zs. just (folded function sort zs)) walks

-- ---- functions that evaluate none of their arguments, by what they ask

module _ (scope : Scope) (line : ℕ) (function : Intrinsic) (args : Args) where
  pub asks-kind : asks function ≡ Asks.Kind → unevaluated_at scope line function args ≡ just (asked_about (about_kind function (first_sort (sorts_of scope args))))
  asks-kind is = rw is refl

  pub asks-elements : asks function ≡ Asks.Elements → unevaluated_at scope line function args ≡ folded_at scope line function (first_sort (sorts_of scope args)) args
  asks-elements is = rw is refl

  pub asks-bounds : asks function ≡ Asks.Bounds → unevaluated_at scope line function args ≡ just (asked_of_array scope function args)
  asks-bounds is = rw is refl
