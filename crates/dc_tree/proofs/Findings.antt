-- The least finding is the first broken rule, and the first broken rule is one.
use Rattle.std.proofs.Common.{◌≡◌, ℕ, ◌<◌, Bool, true, false, List, [], ◌∷◌, ◌++◌, Option, Some, None, refl, sym, ap, subst, ◌∙◌, inl, inr, arith, append_assoc, append-nil}
use Rattle.std.specs.Prelude.{slice_index_or}
use Rattle.std.specs.List.{All, Contains}
use Rattle.std.proofs.lemmas.List.{drop_more}
use Rattle.std.proofs.lemmas.Bool.{false≢true, cases_Bool, cases_order}
use Rattle.std.proofs.lemmas.List.Elements.{All-nil, All-push, All-contains, Contains-push, Contains-push_cases, Contains-append_left}
use Rattle.dc_tree.specs.declared.fail.Refusal.{Refusal}
use Rattle.dc_tree.specs.Findings.{IsFirst, finding, finding_if, found_in, precedes, least_with, least_with_all, least_of}

-- ---- one at most

not_earlier : (breaks : ℕ → ℕ → Type 0) (a b : Refusal) → IsFirst breaks a → IsFirst breaks b → a.line < b.line → ⊥
not_earlier breaks a b first other less = other.no_earlier a.rule a.line less first.broken

not_lesser : (breaks : ℕ → ℕ → Type 0) (a b : Refusal) → IsFirst breaks a → IsFirst breaks b → a.line ≡ b.line → a.rule < b.rule → ⊥
not_lesser breaks a b first other same less = other.no_lesser a.rule less (subst (breaks a.rule) same first.broken)

pub first_is_one : (breaks : ℕ → ℕ → Type 0) (a b : Refusal) → IsFirst breaks a → IsFirst breaks b → a ≡ b
first_is_one breaks a b first other =
    let line : a.line ≡ b.line =
    elim (cases_order a.line b.line) [
      | inl same ↦ same
      | inr apart ↦ elim apart [ inl less ↦ absurd (not_earlier breaks a b first other less) | inr more ↦ absurd (not_earlier breaks b a other first more) ]
    ] in
    let rule : a.rule ≡ b.rule =
    elim (cases_order a.rule b.rule) [
      | inl same ↦ same
      | inr apart ↦ elim apart [ inl less ↦ absurd (not_lesser breaks a b first other line less) | inr more ↦ absurd (not_lesser breaks b a other first (sym line) more) ]
    ] in
    ap (λ r. finding r a.line) rule ∙ ap (finding b.rule) line

-- ---- the order

not_itself : (a : Refusal) → precedes a a ≡ false
not_itself a = grind arith

not_before : (a b c : Refusal) → precedes a b ≡ false → precedes c b ≡ true → precedes a c ≡ false
not_before a b c first second = grind (arith, first, second)

pub not_before-line : (a b : Refusal) → precedes a b ≡ false → a.line < b.line → ⊥
not_before-line a b first less = grind (arith, first, less)

pub not_before-rule : (a b : Refusal) → precedes a b ≡ false → a.line ≡ b.line → a.rule < b.rule → ⊥
not_before-rule a b first same less = grind (arith, first, same, less)

-- ---- the least of a list

-- The least finding is one of them, and none of them precedes it.
abbrev IsLeast : Option Refusal → List Refusal → Type 0
IsLeast None findings = findings ≡ []
IsLeast (Some least) findings = Contains findings least × All (λ other. precedes other least ≡ false) findings

all_past : (a b : Refusal) (findings : List Refusal) → precedes b a ≡ true → All (λ other. precedes other a ≡ false) findings → All (λ other. precedes other b ≡ false) findings
all_past a b findings before all k d less = not_before (findings_at k d) a b (all k d less) before
  where
    findings_at : ℕ → Refusal → Refusal
    findings_at k d = slice_index_or findings k d

least_more : (least : Option Refusal) (seen : List Refusal) (next : Refusal) → IsLeast least seen → IsLeast (least_with least next) (seen ++ next ∷ [])
least_more None seen next none =
    subst (λ (l : List Refusal). IsLeast (Some next) (l ++ next ∷ [])) (sym none)
    (Contains-push [] next, All-push (λ other. precedes other next ≡ false) [] next (All-nil (λ other. precedes other next ≡ false)) (not_itself next))
least_more (Some least) seen next is =
    elim (cases_Bool (precedes next least)) [
      | inl before ↦
          rw before
          (Contains-push seen next, All-push (λ other. precedes other next ≡ false) seen next (all_past least next seen before is.1) (not_itself next))
      | inr behind ↦
          rw behind
          (Contains-append_left seen (next ∷ []) least is.0, All-push (λ other. precedes other least ≡ false) seen next is.1 behind)
    ]

least_of_all : (least : Option Refusal) (seen rest : List Refusal) → IsLeast least seen → IsLeast (least_with_all least rest) (seen ++ rest)
least_of_all least seen [] is = subst (IsLeast least) (sym (append-nil seen)) is
least_of_all least seen (next ∷ rest) is =
    subst (IsLeast (least_with_all (least_with least next) rest)) (append_assoc seen (next ∷ []) rest)
    (least_of_all (least_with least next) (seen ++ next ∷ []) rest (least_more least seen next is))

is_least : (findings : List Refusal) → IsLeast (least_of findings) findings
is_least findings = least_of_all None [] findings refl

pub none-found : (findings : List Refusal) → least_of findings ≡ None → findings ≡ []
none-found findings none = subst (λ (least : Option Refusal). IsLeast least findings) none (is_least findings)

pub least-is_first : (findings : List Refusal) (refusal : Refusal) → least_of findings ≡ Some refusal → IsFirst (found_in findings) refusal
least-is_first findings refusal some =
    let is : IsLeast (Some refusal) findings = subst (λ (least : Option Refusal). IsLeast least findings) some (is_least findings) in
    record {
      broken = is.0;
      no_earlier = λ rule line less other. not_before-line (finding rule line) refusal (All-contains (λ f. precedes f refusal ≡ false) findings (finding rule line) is.1 other) less;
      no_lesser = λ rule less other. not_before-rule (finding rule refusal.line) refusal (All-contains (λ f. precedes f refusal ≡ false) findings (finding rule refusal.line) is.1 other) refl less;
    }

-- ---- a finding where a test holds

pub none-in_nothing : (refusal : Refusal) → Contains [] refusal → ⊥
none-in_nothing refusal among = let less : among.0 < 0 = among.1 in absurd (omega (arith, less))

pub found_if-holds : (test : Bool) (rule line : ℕ) (refusal : Refusal) → Contains (finding_if test rule line) refusal → (test ≡ true) × (finding rule line ≡ refusal)
found_if-holds true rule line refusal among =
    elim (Contains-push_cases [] (finding rule line) refusal among) [ inl none ↦ absurd (none-in_nothing refusal none) | inr same ↦ (refl, same) ]
found_if-holds false rule line refusal among = absurd (none-in_nothing refusal among)

pub holds-found_if : (test : Bool) (rule line : ℕ) → test ≡ true → Contains (finding_if test rule line) (finding rule line)
holds-found_if true rule line holds = Contains-push [] (finding rule line)
holds-found_if false rule line holds = absurd (false≢true holds)

-- ---- a first refusal by other words

-- The same rules are broken on the same lines.
pub first-same : (one other : ℕ → ℕ → Type 0) (refusal : Refusal) → ((rule line : ℕ) → one rule line → other rule line) → ((rule line : ℕ) → other rule line → one rule line) → IsFirst one refusal → IsFirst other refusal
first-same one other refusal there back first = record {
  broken = there refusal.rule refusal.line first.broken;
  no_earlier = λ rule line less is. first.no_earlier rule line less (back rule line is);
  no_lesser = λ rule less is. first.no_lesser rule less (back rule refusal.line is);
}

-- ---- findings after findings

pub least_with_all-append : (least : Option Refusal) (first second : List Refusal) → least_with_all least (first ++ second) ≡ least_with_all (least_with_all least first) second
least_with_all-append least [] second = refl
least_with_all-append least (next ∷ first) second = least_with_all-append (least_with least next) first second

pub ruleset notes = (least_with_all-append, drop_more)
