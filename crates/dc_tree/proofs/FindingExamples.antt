-- The first broken rule at a few findings: the least line, and on it the least rule.
use Rattle.std.proofs.Common.{◌≡◌, List, [], ◌∷◌, ◌++◌, true, false, Some, None, Ok, Err, refl}
use Rattle.dc_tree.specs.declared.fail.Fail.{Fail}
use Rattle.dc_tree.specs.declared.fail.Refusal.{Refusal}
use Rattle.dc_tree.specs.Findings.{IsFirst, finding, finding_if, found_in, least_of, passed}
use Rattle.dc_tree.proofs.Findings.{least-is_first}

-- noted in the order in which a phase may meet them
abbrev several : List Refusal
several = finding 20 3 ∷ finding 30 2 ∷ finding 24 2 ∷ finding 19 4 ∷ finding 28 2 ∷ []

least_of_several : least_of several ≡ Some (finding 24 2)
least_of_several = refl

first_of_several : IsFirst (found_in several) (finding 24 2)
first_of_several = least-is_first several (finding 24 2) refl

-- a greater rule on an earlier line comes first
earlier_line : least_of (finding 5 3 ∷ finding 40 2 ∷ []) ≡ Some (finding 40 2)
earlier_line = refl

-- as does a lesser rule on the same line, whichever is noted first
lesser_rule : least_of (finding 6 2 ∷ finding 5 2 ∷ []) ≡ Some (finding 5 2)
lesser_rule = refl

lesser_rule_noted_first : least_of (finding 5 2 ∷ finding 6 2 ∷ []) ≡ Some (finding 5 2)
lesser_rule_noted_first = refl

nothing_found : least_of [] ≡ None
nothing_found = refl

where_the_test_holds : least_of (finding_if false 2 1 ++ finding_if true 3 1) ≡ Some (finding 3 1)
where_the_test_holds = refl

refused_by_the_least : passed (least_of several) ≡ Err (Fail.Refused (finding 24 2))
refused_by_the_least = refl

nothing_refused : passed (least_of []) ≡ Ok tt
nothing_refused = refl
