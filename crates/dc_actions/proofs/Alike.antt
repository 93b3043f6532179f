-- Two scopes in which names stand for alike things, but for an index which is an outside variable in one of them: an
-- expression has the same sort and the same constant value in both.
use Rattle.std.proofs.Common.{◌≡◌, ◌⊎◌, inl, inr, ℕ, Bool, ◌&&◌, cond, List, [], ◌∷◌, Option, Some, None, is_some, option_and_then, refl, sym, ap, ◌∙◌}
use Rattle.std.specs.Prelude.{ℤ}
use Rattle.dc_int.specs.declared.kind.Kind.{Kind}
use Rattle.dc_int.specs.Sorts.{Sort, whole}
use Rattle.dc_tree.specs.declared.token.Mark.{Mark}
use Rattle.dc_tree.specs.declared.token.Suffix.{Suffix}
use Rattle.dc_tree.specs.Entities.{Entity, outside, slots, Scope, entity}
use Rattle.dc_tree.specs.Intrinsics.{Intrinsic, intrinsic}
use Rattle.dc_tree.specs.Literals.{number_of}
use Rattle.dc_tree.specs.Operating.{joined_by, led_by}
use Rattle.dc_tree.specs.Statements.{Name}
use Rattle.dc_tree.specs.Syntax as syntax
use Rattle.dc_tree.specs.Syntax.{Tree, Args, number, chars, name, refer, paren, unary, binary, no_args, arg}
use Rattle.dc_tree.specs.Typing.{sort_of_entity, constant_of_entity, kind_with_suffix, is_constant_suffix, is_constant_function, literal_value, sort_referred, constant_referred, joined, sort_led_by, sort_joined_by, value_of, sort_of, sorts_of, is_constant, are_constant, constant_value, constants_of}
use Rattle.dc_sorts.specs.Knowing.{known_with, known_of}

-- A name is the index, by its group and as the variable that it is outside of the loop.
pub record IsIndex (here there : Entity) : Type 0 where
  pub group : ℕ
  pub number : ℕ
  pub its_kind : Kind
  pub inside : here ≡ slots group (whole its_kind) []
  pub around : there ≡ outside number (whole its_kind) []

-- what is known of a reference, by what its name stands for and what is known of its arguments
abbrev referred_value : Entity → Option Intrinsic → List Sort → List (Option ℤ) → Bool → Option ℤ
referred_value its function sorts values constant =
    constant_referred (is_constant_function its function && constant) function sorts (sort_referred its function sorts values) values

abbrev led_value : Mark → Sort → Option ℤ → Option ℤ
led_value mark sort value = option_and_then (λ a. value_of (led_by mark sort a)) value

abbrev joined_value : Mark → Sort → Sort → Option ℤ → Option ℤ → Option ℤ
joined_value mark left right one other = option_and_then (λ a. option_and_then (λ b. value_of (joined_by mark (joined left right) a b)) other) one

-- The same is known.
pub record SameTree (a b : Scope) (tree : Tree) : Type 0 where
  pub sort : sort_of a tree ≡ sort_of b tree
  pub constant : is_constant a tree ≡ is_constant b tree
  pub value : constant_value a tree ≡ constant_value b tree

pub record SameArgs (a b : Scope) (args : Args) : Type 0 where
  pub sorts : sorts_of a args ≡ sorts_of b args
  pub constant : are_constant a args ≡ are_constant b args
  pub values : constants_of a args ≡ constants_of b args

kind-by : (a b : Scope) (text : Name) (value : Option ℤ) → constant_of_entity (entity a text) ≡ value → constant_of_entity (entity b text) ≡ value
    → kind_with_suffix a (Suffix.Named text) ≡ kind_with_suffix b (Suffix.Named text)
kind-by a b text None one other = rw one (rw other refl)
kind-by a b text (Some z) one other = rw one (rw other refl)

module _ (a b : Scope) (alike : (text : Name) → (entity a text ≡ entity b text) ⊎ IsIndex (entity a text) (entity b text)) where
  entity-alike : {X : Type 0} (of : Entity → X) → ((group number : ℕ) (its_kind : Kind) → of (slots group (whole its_kind) []) ≡ of (outside number (whole its_kind) []))
      → (here there : Entity) → (here ≡ there) ⊎ IsIndex here there → of here ≡ of there
  entity-alike of index here there (inl same) = ap of same
  entity-alike of index here there (inr its) = ap of its.inside ∙ index its.group its.number its.its_kind ∙ sym (ap of its.around)

  sort-alike : (text : Name) → sort_of_entity (entity a text) ≡ sort_of_entity (entity b text)
  sort-alike text = entity-alike sort_of_entity (λ group number its_kind. refl) (entity a text) (entity b text) (alike text)

  constant-alike : (text : Name) → constant_of_entity (entity a text) ≡ constant_of_entity (entity b text)
  constant-alike text = entity-alike constant_of_entity (λ group number its_kind. refl) (entity a text) (entity b text) (alike text)

  kind-alike : (suffix : Suffix) → kind_with_suffix a suffix ≡ kind_with_suffix b suffix
  kind-alike Suffix.Absent = refl
  kind-alike (Suffix.Digits digits) = refl
  kind-alike (Suffix.Named text) = kind-by a b text (constant_of_entity (entity b text)) (constant-alike text) refl

  suffix-alike : (suffix : Suffix) → is_constant_suffix a suffix ≡ is_constant_suffix b suffix
  suffix-alike Suffix.Absent = refl
  suffix-alike (Suffix.Digits digits) = refl
  suffix-alike (Suffix.Named text) = ap (λ (value : Option ℤ). is_some value) (constant-alike text)

  number-alike : (digits : List ℕ) (suffix : Suffix) → constant_value a (number digits suffix) ≡ constant_value b (number digits suffix)
  number-alike digits suffix =
      ap (λ (constant : Bool). cond constant (literal_value (kind_with_suffix a suffix) (number_of digits)) None) (suffix-alike suffix)
      ∙ ap (λ (its_kind : Kind). cond (is_constant_suffix b suffix) (literal_value its_kind (number_of digits)) None) (kind-alike suffix)

  refer-alike : (text : Name) (args : Args) → SameArgs a b args → SameTree a b (refer text args)
  refer-alike text args given = record {
    sort =
        ap (λ (sorts : List Sort). sort_referred (entity a text) (intrinsic text) sorts (constants_of a args)) given.sorts
        ∙ ap (λ (values : List (Option ℤ)). sort_referred (entity a text) (intrinsic text) (sorts_of b args) values) given.values
        ∙ entity-alike (λ (its : Entity). sort_referred its (intrinsic text) (sorts_of b args) (constants_of b args)) (λ group number its_kind. refl)
        (entity a text) (entity b text) (alike text);
    constant =
        ap (λ (constant : Bool). is_constant_function (entity a text) (intrinsic text) && constant) given.constant
        ∙ entity-alike (λ (its : Entity). is_constant_function its (intrinsic text) && are_constant b args) (λ group number its_kind. refl)
        (entity a text) (entity b text) (alike text);
    value =
        ap (λ (sorts : List Sort). referred_value (entity a text) (intrinsic text) sorts (constants_of a args) (are_constant a args)) given.sorts
        ∙ ap (λ (values : List (Option ℤ)). referred_value (entity a text) (intrinsic text) (sorts_of b args) values (are_constant a args)) given.values
        ∙ ap (λ (constant : Bool). referred_value (entity a text) (intrinsic text) (sorts_of b args) (constants_of b args) constant) given.constant
        ∙ entity-alike (λ (its : Entity). referred_value its (intrinsic text) (sorts_of b args) (constants_of b args) (are_constant b args)) (λ group number its_kind. refl)
        (entity a text) (entity b text) (alike text);
  }

  unary-alike : (mark : Mark) (right : Tree) → SameTree a b right → SameTree a b (unary mark right)
  unary-alike mark right given = record {
    sort = ap (sort_led_by mark) given.sort;
    constant = given.constant;
    value =
        ap (λ (sort : Sort). led_value mark sort (constant_value a right)) given.sort
        ∙ ap (λ (value : Option ℤ). led_value mark (sort_of b right) value) given.value;
  }

  binary-alike : (mark : Mark) (left right : Tree) → SameTree a b left → SameTree a b right → SameTree a b (binary mark left right)
  binary-alike mark left right one other = record {
    sort =
        ap (λ (sort : Sort). sort_joined_by mark sort (sort_of a right)) one.sort
        ∙ ap (λ (sort : Sort). sort_joined_by mark (sort_of b left) sort) other.sort;
    constant =
        ap (λ (constant : Bool). constant && is_constant a right) one.constant
        ∙ ap (λ (constant : Bool). is_constant b left && constant) other.constant;
    value =
        ap (λ (sort : Sort). joined_value mark sort (sort_of a right) (constant_value a left) (constant_value a right)) one.sort
        ∙ ap (λ (sort : Sort). joined_value mark (sort_of b left) sort (constant_value a left) (constant_value a right)) other.sort
        ∙ ap (λ (value : Option ℤ). joined_value mark (sort_of b left) (sort_of b right) value (constant_value a right)) one.value
        ∙ ap (λ (value : Option ℤ). joined_value mark (sort_of b left) (sort_of b right) (constant_value b left) value) other.value;
  }

  more-alike : (keyed : Bool) (given : Tree) (rest : Args) → SameTree a b given → SameArgs a b rest → SameArgs a b (arg keyed given rest)
  more-alike keyed given rest one others = record {
    sorts = ap (λ (sort : Sort). sort ∷ sorts_of a rest) one.sort ∙ ap (λ (sorts : List Sort). sort_of b given ∷ sorts) others.sorts;
    constant =
        ap (λ (constant : Bool). constant && are_constant a rest) one.constant
        ∙ ap (λ (constant : Bool). is_constant b given && constant) others.constant;
    values =
        ap (λ (value : Option ℤ). value ∷ constants_of a rest) one.value
        ∙ ap (λ (values : List (Option ℤ)). constant_value b given ∷ values) others.values;
  }

  mutual
    tree-alike : (tree : Tree) → SameTree a b tree
    tree-alike (number digits suffix) = record { sort = ap whole (kind-alike suffix); constant = suffix-alike suffix; value = number-alike digits suffix }
    tree-alike (syntax.truth given) = record { sort = refl; constant = refl; value = refl }
    tree-alike (chars text) = record { sort = refl; constant = refl; value = refl }
    tree-alike (name text) = record { sort = sort-alike text; constant = ap (λ (value : Option ℤ). is_some value) (constant-alike text); value = constant-alike text }
    tree-alike (refer text args) = refer-alike text args (args-alike args)
    tree-alike (paren inside) = let its = tree-alike inside in record { sort = its.sort; constant = its.constant; value = its.value }
    tree-alike (unary mark right) = unary-alike mark right (tree-alike right)
    tree-alike (binary mark left right) = binary-alike mark left right (tree-alike left) (tree-alike right)

    args-alike : (args : Args) → SameArgs a b args
    args-alike no_args = record { sorts = refl; constant = refl; values = refl }
    args-alike (arg keyed given rest) = more-alike keyed given rest (tree-alike given) (args-alike rest)

  pub known-alike : (tree : Tree) → known_of a tree ≡ known_of b tree
  known-alike tree =
      let its = tree-alike tree in
      ap (λ (sort : Sort). known_with sort (is_constant a tree) (constant_value a tree)) its.sort
      ∙ ap (λ (constant : Bool). known_with (sort_of b tree) constant (constant_value a tree)) its.constant
      ∙ ap (λ (value : Option ℤ). known_with (sort_of b tree) (is_constant b tree) value) its.value
