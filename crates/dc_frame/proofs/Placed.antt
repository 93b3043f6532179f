-- The place of a number in a list that is put together of two.
use Rattle.std.proofs.Common.{◌≡◌, ℕ, suc, ◌+◌, ◌<◌, ◌≤◌, Bool, true, false, List, [], ◌∷◌, ◌++◌, length, refl, sym, ap, ◌∙◌, arith}
use Rattle.std.specs.Prelude.{flat_map, nat_eq, if◌then◌else◌}
use Rattle.dc_code.specs.Codes.{CodeLists, place_among, starts_of_loop, plan_at}

-- It is in the first list.
pub place-first : (firsts others : List ℕ) (place : ℕ) → place_among firsts place < length firsts → place_among (firsts ++ others) place ≡ place_among firsts place
place-first [] others place within = absurd (omega (arith, within))
place-first (first ∷ firsts) others place within = by (nat_eq first place) within (place-first firsts others place)
  where
    by
        : (b : Bool) → (if b then 0 else suc (place_among firsts place)) < suc (length firsts)
        → (place_among firsts place < length firsts → place_among (firsts ++ others) place ≡ place_among firsts place)
        → (if b then 0 else suc (place_among (firsts ++ others) place)) ≡ (if b then 0 else suc (place_among firsts place))
    by true within later = refl
    by false within later = ap suc (later (omega (arith, within)))

-- It isn't in the first list.
pub place-past
    : (firsts others : List ℕ) (place : ℕ) → length firsts ≤ place_among firsts place
    → place_among (firsts ++ others) place ≡ place_among firsts place + place_among others place
place-past [] others place past = omega arith
place-past (first ∷ firsts) others place past = by (nat_eq first place) past (place-past firsts others place)
  where
    by
        : (b : Bool) → suc (length firsts) ≤ (if b then 0 else suc (place_among firsts place))
        → (length firsts ≤ place_among firsts place → place_among (firsts ++ others) place ≡ place_among firsts place + place_among others place)
        → (if b then 0 else suc (place_among (firsts ++ others) place)) ≡ (if b then 0 else suc (place_among firsts place)) + place_among others place
    by true past later = absurd (omega (arith, past))
    by false past later = let rest = later (omega (arith, past)) in omega (arith, rest)

-- ---- the plan of a part that isn't the main program

abbrev in_loops : CodeLists → List ℕ
in_loops code = flat_map starts_of_loop code.constructs

behind-main : (code : CodeLists) (place : ℕ) → nat_eq 0 place ≡ false → suc (place_among (code.entries ++ in_loops code) place) ≡ plan_at code place
behind-main code place other = sym (ap (λ b. if b then 0 else suc (place_among (code.entries ++ in_loops code) place)) other)

-- a procedure
pub plan-procedure
    : (code : CodeLists) (place before : ℕ) → nat_eq 0 place ≡ false → before ≡ place_among code.entries place → before < length code.entries
    → before + 1 ≡ plan_at code place
plan-procedure code place before other is within =
    let first = place-first code.entries (in_loops code) place (omega (arith, is, within)) in
    let found : before + 1 ≡ suc (place_among (code.entries ++ in_loops code) place) = omega (arith, first, is) in
    found ∙ behind-main code place other

-- a part of a loop
pub plan-loop
    : (code : CodeLists) (place before : ℕ) → nat_eq 0 place ≡ false → before ≡ place_among code.entries place → length code.entries ≤ before
    → (before + 1) + place_among (flat_map starts_of_loop code.constructs) place ≡ plan_at code place
plan-loop code place before other is past =
    let later = place-past code.entries (in_loops code) place (omega (arith, is, past)) in
    let found : (before + 1) + place_among (in_loops code) place ≡ suc (place_among (code.entries ++ in_loops code) place) = omega (arith, later, is) in
    found ∙ behind-main code place other
