-- The least finding is the first broken rule.
use Rattle.std.proofs.Common.{◌≡◌, ℕ, Bool, true, false, not, ◌&&◌, ◌||◌, cond, eqb, List, [], ◌∷◌, Some, None, refl, sym, subst, inl, inr, ◌⊎◌}
use Rattle.std.specs.Prelude.{flat_map, if◌then◌else◌}
use Rattle.std.specs.List.{list_any, Contains}
use Rattle.std.proofs.lemmas.Bool.{false≢true, or_cases, or_left, or_right, and_parts, and_from, cases_Bool, eqb-true, eq-eqb, not_from_false}
use Rattle.std.proofs.lemmas.List.Elements.{Contains-append_left, Contains-append_right, Contains-append_cases}
use Rattle.dc_tree.specs.declared.fail.Refusal.{Refusal}
use Rattle.dc_tree.specs.Blocks.{Line}
use Rattle.dc_tree.specs.Findings.{IsFirst, finding, found_in, least_of}
use Rattle.dc_tree.proofs.Findings.{none-in_nothing, found_if-holds, holds-found_if, first-same, none-found, least-is_first}
use Rattle.dc_nest.specs.declared.place.Place.{Place}
use Rattle.dc_nest.specs.declared.rule.Rule.{Rule}
use Rattle.dc_nest.specs.Places.{allows, behind, is_ended}
use Rattle.dc_nest.specs.Rules.{Placed, breaks_at, breaks_from, is_of_the_end, is_open_behind, last_line, number_of, placed_from, Breaks}
use Rattle.dc_nest.specs.Answer.{broken_in}
use Rattle.dc_nest.specs.Judging.{finding_of, all_rules, findings_at, findings_from, findings, is_whole}

-- ---- the findings of one statement

abbrev IsIn : Rule → List Rule → Type 0
IsIn rule [] = ⊥
IsIn rule (first ∷ rest) = (first ≡ rule) ⊎ IsIn rule rest

all-in : (rule : Rule) → IsIn rule all_rules
all-in Rule.Misplaced = inl refl
all-in Rule.TooDeep = inr (inl refl)
all-in Rule.OtherName = inr (inr (inl refl))
all-in Rule.NoLoop = inr (inr (inr (inl refl)))
all-in Rule.Strays = inr (inr (inr (inr (inl refl))))
all-in Rule.Confined = inr (inr (inr (inr (inr (inl refl)))))

-- a rule that the statement breaks, of which this is the finding
record Stands (place : Place) (line : Line) (refusal : Refusal) : Type 0 where
  rule : Rule
  breaks : breaks_at rule place line.says ≡ true
  is : finding (number_of rule) line.line ≡ refusal

found-stands : (place : Place) (line : Line) (rules : List Rule) (refusal : Refusal) → Contains (flat_map (λ rule. finding_of rule place line) rules) refusal → Stands place line refusal
found-stands place line [] refusal among = absurd (none-in_nothing refusal among)
found-stands place line (rule ∷ rules) refusal among =
    elim (Contains-append_cases (finding_of rule place line) (flat_map (λ rule. finding_of rule place line) rules) refusal among) [
      | inl here ↦
          let holds = found_if-holds (breaks_at rule place line.says) (number_of rule) line.line refusal here in
          record { rule = rule; breaks = holds.0; is = holds.1 }
      | inr later ↦ found-stands place line rules refusal later
    ]

stands-found : (place : Place) (line : Line) (rules : List Rule) (rule : Rule) → IsIn rule rules → breaks_at rule place line.says ≡ true
    → Contains (flat_map (λ rule. finding_of rule place line) rules) (finding (number_of rule) line.line)
stands-found place line [] rule among breaks = absurd among
stands-found place line (first ∷ rules) rule among breaks =
    let rest = flat_map (λ rule. finding_of rule place line) rules in
    elim among [
      | inl same ↦
          let Found : Rule → Type 0 = λ r. Contains (finding_of r place line) (finding (number_of rule) line.line) in
          Contains-append_left (finding_of first place line) rest (finding (number_of rule) line.line)
          (subst Found (sym same) (holds-found_if (breaks_at rule place line.says) (number_of rule) line.line breaks))
      | inr later ↦ Contains-append_right (finding_of first place line) rest (finding (number_of rule) line.line) (stands-found place line rules rule later breaks)
    ]

-- ---- what the statements from a place on break: by the first of them, or by the rest

abbrev Test : Type 0
Test = Placed → Bool

first_or_rest : (allowed : Bool) (test : Test) (rest : List Placed) (here ending behind last : Bool)
    → ((here || list_any test (cond allowed rest [])) || ((ending && (allowed && behind)) && last)) ≡ true
    → (here ≡ true) ⊎ ((allowed ≡ true) × ((list_any test rest || ((ending && behind) && last)) ≡ true))
first_or_rest true test rest here ending behind last is =
    elim (or_cases (here || list_any test rest) ((ending && behind) && last) is) [
      | inl some ↦ elim (or_cases here (list_any test rest) some) [ inl first ↦ inl first | inr later ↦ inr (refl, or_left (list_any test rest) ((ending && behind) && last) later) ]
      | inr end ↦ inr (refl, or_right (list_any test rest) ((ending && behind) && last) end)
    ]
first_or_rest false test rest here ending behind last is =
    elim (or_cases (here || false) ((ending && false) && last) is) [
      | inl some ↦ elim (or_cases here false some) [ inl first ↦ inl first | inr later ↦ absurd (false≢true later) ]
      | inr end ↦ absurd (false≢true (and_parts ending false (and_parts (ending && false) last end).0).1)
    ]

from_rest : (allowed : Bool) (test : Test) (rest : List Placed) (here ending behind last : Bool) → allowed ≡ true
    → (list_any test rest || ((ending && behind) && last)) ≡ true → ((here || list_any test (cond allowed rest [])) || ((ending && (allowed && behind)) && last)) ≡ true
from_rest false test rest here ending behind last allowed is = absurd (false≢true allowed)
from_rest true test rest here ending behind last allowed is =
    elim (or_cases (list_any test rest) ((ending && behind) && last) is) [
      | inl some ↦ or_left (here || list_any test rest) ((ending && behind) && last) (or_right here (list_any test rest) some)
      | inr end ↦ or_right (here || list_any test rest) ((ending && behind) && last) end
    ]

abbrev on_line : Rule → ℕ → Test
on_line rule number = λ (p : Placed). eqb p.line number && breaks_at rule p.place p.says

breaks-parts : (place : Place) (line : ℕ) (rule : Rule) (next : Line) (rest : List Line) (number : ℕ) → breaks_from place line rule (next ∷ rest) number ≡ true
    → ((eqb next.line number && breaks_at rule place next.says) ≡ true) ⊎ ((allows place next.says ≡ true) × (breaks_from (behind place next.says) next.line rule rest number ≡ true))
breaks-parts place line rule next rest number =
    first_or_rest (allows place next.says) (on_line rule number) (placed_from (behind place next.says) rest) (eqb next.line number && breaks_at rule place next.says)
    (is_of_the_end rule) (is_open_behind (behind place next.says) rest) (eqb number (last_line next.line rest))

breaks-first : (place : Place) (line : ℕ) (rule : Rule) (next : Line) (rest : List Line) → breaks_at rule place next.says ≡ true → breaks_from place line rule (next ∷ rest) next.line ≡ true
breaks-first place line rule next rest is =
    let here = and_from (eqb next.line next.line) (breaks_at rule place next.says) (eq-eqb next.line next.line refl) is in
    let later = list_any (on_line rule next.line) (cond (allows place next.says) (placed_from (behind place next.says) rest) []) in
    or_left ((eqb next.line next.line && breaks_at rule place next.says) || later)
    ((is_of_the_end rule && (allows place next.says && is_open_behind (behind place next.says) rest)) && eqb next.line (last_line next.line rest))
    (or_left (eqb next.line next.line && breaks_at rule place next.says) later here)

breaks-rest : (place : Place) (line : ℕ) (rule : Rule) (next : Line) (rest : List Line) (number : ℕ) → allows place next.says ≡ true
    → breaks_from (behind place next.says) next.line rule rest number ≡ true → breaks_from place line rule (next ∷ rest) number ≡ true
breaks-rest place line rule next rest number =
    from_rest (allows place next.says) (on_line rule number) (placed_from (behind place next.says) rest) (eqb next.line number && breaks_at rule place next.says)
    (is_of_the_end rule) (is_open_behind (behind place next.says) rest) (eqb number (last_line next.line rest))

-- a rule that is broken, for which a refusal stands
record Broken (place : Place) (line : ℕ) (list : List Line) (refusal : Refusal) : Type 0 where
  rule : Rule
  is : refusal.rule ≡ number_of rule
  breaks : breaks_from place line rule list refusal.line ≡ true

-- ---- the findings are what is broken

end-broken : (rule : Rule) (place : Place) (line number : ℕ) → breaks_from place line rule [] number ≡ true → (Rule.Misplaced ≡ rule) × (not (is_ended place) ≡ true) × (line ≡ number)
end-broken Rule.Misplaced place line number is = let parts = and_parts (not (is_ended place)) (eqb number line) is in (refl, parts.0, sym (eqb-true number line parts.1))
end-broken Rule.TooDeep place line number is = absurd (false≢true is)
end-broken Rule.OtherName place line number is = absurd (false≢true is)
end-broken Rule.NoLoop place line number is = absurd (false≢true is)
end-broken Rule.Strays place line number is = absurd (false≢true is)
end-broken Rule.Confined place line number is = absurd (false≢true is)

-- the findings behind a statement, where it is allowed
abbrev deep : Place → Line → List Line → List Refusal
deep place next rest = findings_from (behind place next.says) next.line rest

abbrev further : Place → Line → List Line → List Refusal
further place next rest = if allows place next.says then deep place next rest else []

-- What is broken is found.
broken-found : (place : Place) (line : ℕ) (list : List Line) (rule : Rule) (number : ℕ) → breaks_from place line rule list number ≡ true
    → Contains (findings_from place line list) (finding (number_of rule) number)
broken-found place line [] rule number is =
    let end = end-broken rule place line number is in
    let Found : Rule → ℕ → Type 0 = λ r n. Contains (findings_from place line []) (finding (number_of r) n) in
    subst (λ r. Found r number) end.0 (subst (λ n. Found Rule.Misplaced n) end.2 (holds-found_if (not (is_ended place)) (number_of Rule.Misplaced) line end.1))
broken-found place line (next ∷ rest) rule number is =
    elim (breaks-parts place line rule next rest number is) [
      | inl here ↦
          let parts = and_parts (eqb next.line number) (breaks_at rule place next.says) here in
          let Found : ℕ → Type 0 = λ n. Contains (findings_from place line (next ∷ rest)) (finding (number_of rule) n) in
          subst Found (eqb-true next.line number parts.0)
          (Contains-append_left (findings_at place next) (further place next rest) (finding (number_of rule) next.line) (stands-found place next all_rules rule (all-in rule) parts.1))
      | inr later ↦
          Contains-append_right (findings_at place next) (further place next rest) (finding (number_of rule) number)
          (by_allowed (allows place next.says) later.0 (broken-found (behind place next.says) next.line rest rule number later.1))
    ]
  where
    by_allowed : (b : Bool) → b ≡ true → Contains (deep place next rest) (finding (number_of rule) number) → Contains (if b then deep place next rest else []) (finding (number_of rule) number)
    by_allowed true allowed among = among
    by_allowed false allowed among = absurd (false≢true allowed)

-- What is found is broken.
found-broken : (place : Place) (line : ℕ) (list : List Line) (refusal : Refusal) → Contains (findings_from place line list) refusal → Broken place line list refusal
found-broken place line [] refusal among =
    let holds = found_if-holds (not (is_ended place)) (number_of Rule.Misplaced) line refusal among in
    let Told : Refusal → Type 0 = λ r. Broken place line [] r in
    subst Told holds.1 (record { rule = Rule.Misplaced; is = refl; breaks = and_from (not (is_ended place)) (eqb line line) holds.0 (eq-eqb line line refl) })
found-broken place line (next ∷ rest) refusal among =
    elim (Contains-append_cases (findings_at place next) (further place next rest) refusal among) [
      | inl here ↦
          let stands = found-stands place next all_rules refusal here in
          let Told : Refusal → Type 0 = λ r. Broken place line (next ∷ rest) r in
          subst Told stands.is (record { rule = stands.rule; is = refl; breaks = breaks-first place line stands.rule next rest stands.breaks })
      | inr later ↦ by_allowed (allows place next.says) refl (λ among. found-broken (behind place next.says) next.line rest refusal among) later
    ]
  where
    by_allowed : (b : Bool) → allows place next.says ≡ b → (Contains (deep place next rest) refusal → Broken (behind place next.says) next.line rest refusal)
        → Contains (if b then deep place next rest else []) refusal → Broken place line (next ∷ rest) refusal
    by_allowed true allowed deeper later =
        let later_one = deeper later in
        record { rule = later_one.rule; is = later_one.is; breaks = breaks-rest place line later_one.rule next rest refusal.line allowed later_one.breaks }
    by_allowed false allowed deeper later = absurd (none-in_nothing refusal later)

-- ---- the first broken rule

all-broken : (list : List Line) (rule line : ℕ) → found_in (findings list) rule line → broken_in list rule line
all-broken list rule line among =
    let broken = found-broken Place.Outset 1 list (finding rule line) among in
    (broken.rule, broken.is, broken.breaks)

all-found : (list : List Line) (rule line : ℕ) → broken_in list rule line → found_in (findings list) rule line
all-found list rule line broken =
    subst (λ n. Contains (findings list) (finding n line)) (sym broken.1) (broken-found Place.Outset 1 list broken.0 line broken.2)

pub least-first : (list : List Line) (refusal : Refusal) → least_of (findings list) ≡ Some refusal → IsFirst (broken_in list) refusal
least-first list refusal least =
    first-same (found_in (findings list)) (broken_in list) refusal (all-broken list) (all-found list) (least-is_first (findings list) refusal least)

pub none-broken : (list : List Line) → least_of (findings list) ≡ None → (rule : Rule) (line : ℕ) → Breaks rule list line → ⊥
none-broken list none rule line breaks =
    let among = broken-found Place.Outset 1 list rule line breaks in
    none-in_nothing (finding (number_of rule) line)
    (subst (λ found. Contains found (finding (number_of rule) line)) (none-found (findings list) none) among)

-- ---- where K13 isn't broken

-- A list that isn't whole breaks K13.
pub broken-misplaced : (place : Place) (line : ℕ) (list : List Line) → is_whole place list ≡ false → (number : ℕ) × (breaks_from place line Rule.Misplaced list number ≡ true)
broken-misplaced place line [] open_still =
    (line, and_from (not (is_ended place)) (eqb line line) (not_from_false (is_ended place) open_still) (eq-eqb line line refl))
broken-misplaced place line (next ∷ rest) not_whole =
    by_allowed (allows place next.says) refl (λ deep. broken-misplaced (behind place next.says) next.line rest deep) not_whole
  where
    by_allowed : (b : Bool) → allows place next.says ≡ b
        → (is_whole (behind place next.says) rest ≡ false → (number : ℕ) × (breaks_from (behind place next.says) next.line Rule.Misplaced rest number ≡ true))
        → (b && is_whole (behind place next.says) rest) ≡ false
        → (number : ℕ) × (breaks_from place line Rule.Misplaced (next ∷ rest) number ≡ true)
    by_allowed true allowed deeper not_rest =
        let later = deeper not_rest in
        (later.0, breaks-rest place line Rule.Misplaced next rest later.0 allowed later.1)
    by_allowed false allowed deeper not_rest = (next.line, breaks-first place line Rule.Misplaced next rest (not_from_false (allows place next.says) allowed))

pub whole-list : (list : List Line) → least_of (findings list) ≡ None → is_whole Place.Outset list ≡ true
whole-list list none =
    elim (cases_Bool (is_whole Place.Outset list)) [
      | inl whole ↦ whole
      | inr open_still ↦ let broken = broken-misplaced Place.Outset 1 list open_still in absurd (none-broken list none Rule.Misplaced broken.0 broken.1)
    ]
