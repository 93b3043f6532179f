-- Tests whether numbers, and whether elements, are the same.
use Rattle.std.proofs.Common.{◌≡◌, ℕ, zero, suc, eqb, Bool, true, false, ◌&&◌, refl, sym, ap, ap₂, ◌∙◌, inl, inr}
use Rattle.std.proofs.lemmas.Bool.{cases_Bool, false≢true, eqb-true, eq-eqb}
use Rattle.dc_int.specs.declared.access.ElementId.{ElementId}
use Rattle.dc_int.specs.Store.{same, same_element}
use Rattle.dc_int.proofs.Stores.{same-is, same-itself}

pub same-back : (m n : ℕ) → same m n ≡ same n m
same-back zero zero = refl
same-back zero (suc n) = refl
same-back (suc m) zero = refl
same-back (suc m) (suc n) = same-back m n

pub same_element-back : (x y : ElementId) → same_element x y ≡ same_element y x
same_element-back x y = ap₂ (λ a b. a && b) (same-back x.variable y.variable) (same-back x.position y.position)

-- The code's test is the one of the definitions.
pub same-eqb : (m n : ℕ) → eqb m n ≡ same m n
same-eqb m n = by (same m n) refl
  where
    by : (b : Bool) → same m n ≡ b → eqb m n ≡ b
    by true e = ap (λ k. eqb m k) (sym (same-is m n e)) ∙ eq-eqb m m refl
    by false e = elim (cases_Bool (eqb m n)) [
      | inl equal ↦ absurd (false≢true (sym e ∙ ap (same m) (sym (eqb-true m n equal)) ∙ same-itself m))
      | inr other ↦ other
    ]

pub same-one : (x y : ElementId) → x.variable ≡ y.variable → eqb x.position y.position ≡ same_element x y
same-one x y is =
    sym (ap₂ (λ a b. a && b) (sym (same-eqb x.variable y.variable) ∙ eq-eqb x.variable y.variable is) (sym (same-eqb x.position y.position)))

pub same-other : (x y : ElementId) → (x.variable ≡ y.variable → ⊥) → eqb x.variable y.variable ≡ same_element x y
same-other x y differ = elim (cases_Bool (eqb x.variable y.variable)) [
  | inl equal ↦ absurd (differ (eqb-true x.variable y.variable equal))
  | inr other ↦ other ∙ sym (ap (λ b. b && same x.position y.position) (sym (same-eqb x.variable y.variable) ∙ other))
]
