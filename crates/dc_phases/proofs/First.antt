-- The first broken rule of two lots of broken rules.
use Rattle.std.proofs.Common.{◌≡◌, ℕ, ◌<◌, true, false, ◌&&◌, eqb, ltb, ◌⊎◌, refl, subst, inl, inr, arith}
use Rattle.std.proofs.lemmas.Bool.{cases_Bool, or_cases, and_parts, ltb-true, eqb-true}
use Rattle.dc_tree.specs.declared.fail.Refusal.{Refusal}
use Rattle.dc_tree.specs.Findings.{IsFirst, IsUnbroken, finding, precedes, lesser}
use Rattle.dc_tree.proofs.Findings.{not_before-line, not_before-rule}

-- No broken rule of these precedes the refusal.
abbrev pub NoneBefore : (ℕ → ℕ → Type 0) → Refusal → Type 0
NoneBefore breaks refusal = (rule line : ℕ) → breaks rule line → precedes (finding rule line) refusal ≡ false

-- x isn't before b, and b isn't before a
not_before : (x a b : Refusal) → precedes b a ≡ false → precedes x b ≡ false → precedes x a ≡ false
not_before x a b first second = grind (arith, first, second)

not_behind : (x a b : Refusal) → precedes b a ≡ true → precedes x a ≡ false → precedes x b ≡ false
not_behind x a b first second = grind (arith, first, second)

pub first-from : (breaks : ℕ → ℕ → Type 0) (refusal : Refusal) → breaks refusal.rule refusal.line → NoneBefore breaks refusal → IsFirst breaks refusal
first-from breaks refusal broken none = record {
  broken = broken;
  no_earlier = λ rule line less other. not_before-line (finding rule line) refusal (none rule line other) less;
  no_lesser = λ rule less other. not_before-rule (finding rule refusal.line) refusal (none rule refusal.line other) refl less;
}

pub first-none : (breaks : ℕ → ℕ → Type 0) (refusal : Refusal) → IsFirst breaks refusal → NoneBefore breaks refusal
first-none breaks refusal first rule line other =
    elim (cases_Bool (precedes (finding rule line) refusal)) [
      | inl before ↦
          elim (or_cases (ltb line refusal.line) (eqb line refusal.line && ltb rule refusal.rule) before) [
            | inl less ↦ absurd (first.no_earlier rule line (ltb-true line refusal.line less) other)
            | inr behind ↦
                let parts = and_parts (eqb line refusal.line) (ltb rule refusal.rule) behind in
                absurd (first.no_lesser rule (ltb-true rule refusal.rule parts.1) (subst (breaks rule) (eqb-true line refusal.line parts.0) other))
          ]
      | inr none ↦ none
    ]

-- A rule is broken in both lots together where it is broken in one of them.
pub record Joins (one other both : ℕ → ℕ → Type 0) : Type 0 where
  pub left : (rule line : ℕ) → one rule line → both rule line
  pub right : (rule line : ℕ) → other rule line → both rule line
  pub cases : (rule line : ℕ) → both rule line → one rule line ⊎ other rule line

none-joined : (one other both : ℕ → ℕ → Type 0) (refusal : Refusal) → Joins one other both → NoneBefore one refusal → NoneBefore other refusal → NoneBefore both refusal
none-joined one other both refusal joins first second rule line broken =
    elim (joins.cases rule line broken) [ inl is ↦ first rule line is | inr is ↦ second rule line is ]

pub unbroken-joined : (one other both : ℕ → ℕ → Type 0) → Joins one other both → IsUnbroken one → IsUnbroken other → IsUnbroken both
unbroken-joined one other both joins first second rule line broken =
    elim (joins.cases rule line broken) [ inl is ↦ first rule line is | inr is ↦ second rule line is ]

pub first-left : (one other both : ℕ → ℕ → Type 0) (refusal : Refusal) → Joins one other both → IsFirst one refusal → IsUnbroken other → IsFirst both refusal
first-left one other both refusal joins first none =
    first-from both refusal (joins.left refusal.rule refusal.line first.broken)
    (none-joined one other both refusal joins (first-none one refusal first) (λ rule line is. absurd (none rule line is)))

pub first-right : (one other both : ℕ → ℕ → Type 0) (refusal : Refusal) → Joins one other both → IsUnbroken one → IsFirst other refusal → IsFirst both refusal
first-right one other both refusal joins none first =
    first-from both refusal (joins.right refusal.rule refusal.line first.broken)
    (none-joined one other both refusal joins (λ rule line is. absurd (none rule line is)) (first-none other refusal first))

pub first-lesser : (one other both : ℕ → ℕ → Type 0) (a b : Refusal) → Joins one other both → IsFirst one a → IsFirst other b → IsFirst both (lesser a b)
first-lesser one other both a b joins first second =
    elim (cases_Bool (precedes b a)) [
      | inl before ↦
          rw before
          (first-from both b (joins.right b.rule b.line second.broken)
          (none-joined one other both b joins (λ rule line is. not_behind (finding rule line) a b before (first-none one a first rule line is)) (first-none other b second)))
      | inr behind ↦
          rw behind
          (first-from both a (joins.left a.rule a.line first.broken)
          (none-joined one other both a joins (first-none one a first) (λ rule line is. not_before (finding rule line) a b behind (first-none other b second rule line is))))
    ]
