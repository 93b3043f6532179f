-- What is known of an expression, from what is known of its parts.
use Rattle.std.proofs.Common.{◌≡◌, ℕ, ◌&&◌, List, ◌∷◌, map, Option, ℤ, refl, ap, ◌∙◌, append_assoc, append-nil}
use Rattle.std.specs.List.{list_all}
use Rattle.dc_int.specs.Sorts.{Sort, whole, logical}
use Rattle.dc_tree.specs.declared.token.Mark.{Mark}
use Rattle.dc_tree.specs.Entities.{Scope}
use Rattle.dc_tree.specs.Syntax.{Tree, Args, paren, unary, binary, refer, no_args, arg}
use Rattle.dc_tree.specs.Typing.{sort_of, sorts_of, is_constant, are_constant, constant_value, constants_of}
use Rattle.dc_sorts.specs.Forms.{sort_of_form, form_of_sort}
use Rattle.dc_sorts.specs.Knowing.{known_of, known_args, known_sort, known_value, known_constant, known_led, known_joined, known_referred}

pub form-back : (sort : Sort) → sort_of_form (form_of_sort sort) ≡ sort
form-back (whole kind) = refl
form-back logical = refl

sorts-known : (scope : Scope) (args : Args) → map known_sort (known_args scope args) ≡ sorts_of scope args
sorts-known scope no_args = refl
sorts-known scope (arg keyed value rest) =
    ap (λ (s : Sort). s ∷ map known_sort (known_args scope rest)) (form-back (sort_of scope value)) ∙ ap (λ (l : List Sort). sort_of scope value ∷ l) (sorts-known scope rest)

values-known : (scope : Scope) (args : Args) → map known_value (known_args scope args) ≡ constants_of scope args
values-known scope no_args = refl
values-known scope (arg keyed value rest) = ap (λ (l : List (Option ℤ)). constant_value scope value ∷ l) (values-known scope rest)

constant-known : (scope : Scope) (args : Args) → list_all known_constant (known_args scope args) ≡ are_constant scope args
constant-known scope no_args = refl
constant-known scope (arg keyed value rest) = ap (λ b. is_constant scope value && b) (constant-known scope rest)

pub known-paren : (scope : Scope) (inside : Tree) → known_of scope (paren inside) ≡ known_of scope inside
known-paren scope inside = refl

pub known-unary : (scope : Scope) (mark : Mark) (right : Tree) → known_of scope (unary mark right) ≡ known_led mark (known_of scope right)
known-unary scope mark right = rw (form-back (sort_of scope right)) refl

pub known-binary : (scope : Scope) (mark : Mark) (left right : Tree) → known_of scope (binary mark left right) ≡ known_joined mark (known_of scope left) (known_of scope right)
known-binary scope mark left right = rw (form-back (sort_of scope left)) (rw (form-back (sort_of scope right)) refl)

pub known-refer : (scope : Scope) (text : List ℕ) (args : Args) → known_of scope (refer text args) ≡ known_referred scope text (known_args scope args)
known-refer scope text args = rw (sorts-known scope args) (rw (values-known scope args) (rw (constant-known scope args) refl))

-- What is known of an expression is found from its parts.
pub ruleset knowing = (known-paren, known-unary, known-binary, known-refer)

-- Lists that are gathered item by item.
pub ruleset gathering = (append_assoc, append-nil)
