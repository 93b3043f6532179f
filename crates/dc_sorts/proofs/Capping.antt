-- Numbers by their digits: what is asked of a number is the same where it is capped over every kind.
use Rattle.std.proofs.Common.{◌≡◌, ◌+◌, ◌*◌, ◌-◌, ℕ, List, [], ◌∷◌, Option, Some, None, ℤ, pos, refl, sym, ap, ◌∙◌, arith}
use Rattle.std.proofs.lemmas.List.{drop_more}
use Rattle.dc_int.specs.declared.kind.Kind.{Kind}
use Rattle.dc_tree.specs.declared.token.Suffix.{Suffix}
use Rattle.dc_tree.specs.Literals.{number_from, kind_numbered}
use Rattle.dc_tree.specs.Syntax.{number}
use Rattle.dc_tree.specs.Typing.{literal_value, constant_of_entity}
use Rattle.dc_tree.specs.Entities.{Scope, entity}
use Rattle.dc_sorts.specs.Knowing.{known_of}
use Rattle.dc_sorts.specs.Naming.{capped, suffix_kind, number_known}

-- ---- capping

-- capped at a step and at the end
pub capped-step : (n d : ℕ) → capped (capped n * 10 + d) ≡ capped (n * 10 + d)
capped-step n d = grind arith

pub capped-from : (n : ℕ) (digits : List ℕ) → capped (number_from (capped n) digits) ≡ capped (number_from n digits)
capped-from n [] = grind arith
capped-from n (digit ∷ digits) =
    sym (capped-from (capped n * 10 + (digit - 48)) digits) ∙ ap (λ m. capped (number_from m digits)) (capped-step n (digit - 48)) ∙ capped-from (n * 10 + (digit - 48)) digits

-- one more digit, where the number that it makes is capped
pub capped-next : (n digit : ℕ) (digits : List ℕ) → capped (number_from (capped (n * 10 + (digit - 48))) digits) ≡ capped (number_from n (digit ∷ digits))
capped-next n digit digits = capped-from (n * 10 + (digit - 48)) digits

pub capped-again : (n : ℕ) → capped (capped n) ≡ capped n
capped-again n = grind arith

pub capped-literal : (kind : Kind) (n : ℕ) → literal_value kind (capped n) ≡ literal_value kind n
capped-literal Kind.K1 n = grind arith
capped-literal Kind.K2 n = grind arith
capped-literal Kind.K4 n = grind arith
capped-literal Kind.K8 n = grind arith

pub capped-kind : (n : ℕ) → kind_numbered (pos (capped n)) ≡ kind_numbered (pos n)
capped-kind n = grind arith

pub ruleset capping = (capped-literal, capped-kind)

pub ruleset capped_digits = (capped-next, capped-again, drop_more)

-- ---- numbers

named-known : (scope : Scope) (digits text : List ℕ) (value : Option ℤ) → constant_of_entity (entity scope text) ≡ value
    → known_of scope (number digits (Suffix.Named text)) ≡ number_known digits (suffix_kind scope (Suffix.Named text))
named-known scope digits text (Some z) stands = rw stands refl
named-known scope digits text None stands = rw stands refl

-- What is known of a number, by the kind that its suffix names.
pub number-known : (scope : Scope) (digits : List ℕ) (suffix : Suffix) → known_of scope (number digits suffix) ≡ number_known digits (suffix_kind scope suffix)
number-known scope digits Suffix.Absent = refl
number-known scope digits (Suffix.Digits text) = refl
number-known scope digits (Suffix.Named text) = named-known scope digits text (constant_of_entity (entity scope text)) refl

pub ruleset numbers_known = (number-known)
