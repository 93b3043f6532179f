-- The tests of SELECT CASE.
use Rattle.std.proofs.Common.{◌≡◌, ◌<◌, ◌≤◌, ℕ, zero, suc, ◌+◌, Bool, true, false, ◌&&◌, ◌||◌, List, [], ◌∷◌, ◌++◌, length, Option, Some, None, refl, sym, ap, ◌∙◌, subst, arith}
use Rattle.std.proofs.lemmas.Bool.{lt-leb, false≢true}
use Rattle.std.proofs.lemmas.List.{length-append}
use Rattle.std.specs.List.{list_all, list_any}
use Rattle.std.specs.Prelude.{ℤ, pos, negsuc, int_le, not}
use Rattle.dc_int.specs.declared.kind.Kind.{Kind}
use Rattle.dc_int.specs.Reductions.{truth, number_of_truth, conjunction, disjunction}
use Rattle.dc_int.specs.Sorts.{Sort, whole, logical, fitted}
use Rattle.dc_code.specs.declared.frame.Item.{Item}
use Rattle.dc_code.specs.declared.instr.Relation.{Relation}
use Rattle.dc_code.specs.declared.instr.What.{What}
use Rattle.dc_code.specs.Codes.{CodeLists}
use Rattle.dc_code.specs.Frames.{Frame, pushed}
use Rattle.dc_code.specs.Instructions.{Going, compares}
use Rattle.dc_tree.specs.Entities.{Scope}
use Rattle.dc_tree.specs.Statements.{CaseRange, only, from, up_to, between}
use Rattle.dc_tree.specs.Typing.{constant_value}
use Rattle.dc_meaning.specs.Execution.{is_from, is_up_to, is_in_range}
use Rattle.dc_actions.specs.Placed.{StandAt}
use Rattle.dc_actions.proofs.Converting.{truth-back}
use Rattle.dc_actions.proofs.Expressions.{behind-two}
use Rattle.dc_actions.proofs.Facts.{both-true}
use Rattle.dc_actions.proofs.FillingLaws.{held_at}
use Rattle.dc_actions.proofs.Going.{GoesAs}
use Rattle.dc_actions.proofs.OperatorLaws.{plus-one, plus-none}
use Rattle.dc_actions.proofs.Placing.{stand-left, stand-right, stand-rest, stepped}
use Rattle.dc_flows.specs.Flows.{fetch_code, bound_code, truth_code, range_code, further_range_code, further_ranges_code, ranges_code}
use Rattle.dc_flows.specs.FlowsLowered.{range_is_lowered}
use Rattle.dc_flows.proofs.FlowCounts.{pushed-scalar}
use Rattle.dc_flows.proofs.FlowSlots.{HasScalar, fetch-law}

-- ---- what the tests find

-- The selector stands so to a bound, where there is one.
abbrev stands_so : Relation → ℤ → Option ℤ → Bool
stands_so relation z (Some bound) = compares relation z bound
stands_so relation z None = false

from-so : (z : ℤ) (bound : Option ℤ) → stands_so Relation.Ge z bound ≡ is_from bound z
from-so z (Some bound) = refl
from-so z None = refl

up-so : (z : ℤ) (bound : Option ℤ) → stands_so Relation.Le z bound ≡ is_up_to bound z
up-so z (Some bound) = refl
up-so z None = refl

and-swaps : (a b : Bool) → (a && b) ≡ (b && a)
and-swaps true true = refl
and-swaps true false = refl
and-swaps false true = refl
and-swaps false false = refl

only-so : (z : ℤ) (bound : Option ℤ) → stands_so Relation.Eq z bound ≡ (is_from bound z && is_up_to bound z)
only-so z (Some bound) = and-swaps (int_le z bound) (int_le bound z)
only-so z None = refl

-- Where the selector is a truth, given as 1 or 0.
truth_so : Bool → Option ℤ → Bool
truth_so b (Some (pos zero)) = not b
truth_so b (Some (pos (suc zero))) = b
truth_so b other = false

truth-so : (b : Bool) (given : Option ℤ) → truth_so b given ≡ (is_from given (number_of_truth b) && is_up_to given (number_of_truth b))
unfolding truth_so
truth-so true (Some (pos zero)) = refl
truth-so false (Some (pos zero)) = refl
truth-so true (Some (pos (suc zero))) = refl
truth-so false (Some (pos (suc zero))) = refl
truth-so true (Some (pos (suc (suc n)))) = sym (ap (λ c. c && int_le (pos 1) (pos (suc (suc n)))) (lt-leb (suc (suc n)) 1 (omega arith)))
truth-so false (Some (pos (suc (suc n)))) = sym (ap (λ c. c && int_le (pos 0) (pos (suc (suc n)))) (lt-leb (suc (suc n)) 0 (omega arith)))
truth-so true (Some (negsuc n)) = refl
truth-so false (Some (negsuc n)) = refl
truth-so true None = refl
truth-so false None = refl

-- ---- the instructions

-- Instructions leave a truth on the stack.
abbrev pub Leaves : Going → (at : ℕ) → List What → Frame → (turns : ℕ) → Bool → Type 0
Leaves go at whats frame turns b = go at frame turns ≡ go (at + length whats) (pushed (Item.Value (number_of_truth b)) frame) turns

module _ (code : CodeLists) (go : Going) (goes : GoesAs code go) (scope : Scope) (line group : ℕ) where
  false-leaves : (at : ℕ) (frame : Frame) (turns : ℕ) → StandAt code line at (What.Truth false ∷ []) → Leaves go at (What.Truth false ∷ []) frame turns false
  false-leaves at frame turns stand = stepped goes at (What.Truth false) [] frame turns stand refl ∙ ap (λ place. go place (pushed (Item.Value (pos 0)) frame) turns) (plus-one at)

  bound-leaves : (at : ℕ) (frame : Frame) (turns : ℕ) (sort : Sort) (z : ℤ) (relation : Relation) (bound : Option ℤ) → HasScalar code frame group sort → held_at frame group 0 ≡ Some z
      → StandAt code line at (bound_code group relation bound) → Leaves go at (bound_code group relation bound) frame turns (stands_so relation z bound)
  bound-leaves at frame turns sort z relation None has held stand = false-leaves at frame turns stand
  bound-leaves at frame turns sort z relation (Some bound) has held stand =
      let rest = What.Const Kind.K8 bound ∷ What.Compare relation ∷ [] in
      let one = stand-right at (fetch_code group) rest stand in
      fetch-law goes at group frame turns sort z has held (stand-left (fetch_code group) rest stand)
      ∙ stepped goes (at + 2) (What.Const Kind.K8 bound) (What.Compare relation ∷ []) (pushed (Item.Value z) frame) turns one refl
      ∙ stepped goes (suc (at + 2)) (What.Compare relation) [] (pushed (Item.Value bound) (pushed (Item.Value z) frame)) turns (stand-rest (at + 2) (What.Const Kind.K8 bound) (What.Compare relation ∷ []) one) refl
      ∙ ap (λ place. go place (pushed (Item.Value (number_of_truth (compares relation z bound))) frame) turns) there
    where
      there : suc (suc (at + 2)) ≡ at + 4
      there = omega arith

  truth-leaves : (at : ℕ) (frame : Frame) (turns : ℕ) (b : Bool) (given : Option ℤ) → HasScalar code frame group logical → held_at frame group 0 ≡ Some (number_of_truth b)
      → StandAt code line at (truth_code group given) → Leaves go at (truth_code group given) frame turns (truth_so b given)
  unfolding truth_so
  truth-leaves at frame turns b (Some (pos zero)) has held stand =
      fetch-law goes at group frame turns logical (number_of_truth b) has held (stand-left (fetch_code group) (What.Not ∷ []) stand)
      ∙ stepped goes (at + 2) What.Not [] (pushed (Item.Value (number_of_truth b)) frame) turns (stand-right at (fetch_code group) (What.Not ∷ []) stand) refl
      ∙ ap (λ c. go (suc (at + 2)) (pushed (Item.Value (number_of_truth (not c))) frame) turns) (truth-back b)
      ∙ ap (λ place. go place (pushed (Item.Value (number_of_truth (not b))) frame) turns) there
    where
      there : suc (at + 2) ≡ at + 3
      there = omega arith
  truth-leaves at frame turns b (Some (pos (suc zero))) has held stand = fetch-law goes at group frame turns logical (number_of_truth b) has held stand
  truth-leaves at frame turns b (Some (pos (suc (suc n)))) has held stand = false-leaves at frame turns stand
  truth-leaves at frame turns b (Some (negsuc n)) has held stand = false-leaves at frame turns stand
  truth-leaves at frame turns b None has held stand = false-leaves at frame turns stand

  -- Two truths and what joins them.
  joined-leaves : (at : ℕ) (frame : Frame) (turns : ℕ) (first second : List What) (what : What) (a b c : Bool) → StandAt code line at (first ++ (second ++ what ∷ []))
      → Leaves go at first frame turns a → Leaves go (at + length first) second (pushed (Item.Value (number_of_truth a)) frame) turns b
      → ((place : ℕ) → StandAt code line place (what ∷ []) → go place (pushed (Item.Value (number_of_truth b)) (pushed (Item.Value (number_of_truth a)) frame)) turns
      ≡ go (suc place) (pushed (Item.Value (number_of_truth c)) frame) turns)
      → Leaves go at (first ++ (second ++ what ∷ [])) frame turns c
  joined-leaves at frame turns first second what a b c stand one other joins =
      one ∙ other ∙ joins (at + length first + length second) (stand-right (at + length first) second (what ∷ []) (stand-right at first (second ++ what ∷ []) stand))
      ∙ ap (λ place. go place (pushed (Item.Value (number_of_truth c)) frame) turns) there
    where
      there : suc (at + length first + length second) ≡ at + length (first ++ (second ++ what ∷ []))
      there = omega (arith, length-append first (second ++ what ∷ []), length-append second (what ∷ []))

  and-joins : (frame : Frame) (turns : ℕ) (a b : Bool) (place : ℕ) → StandAt code line place (What.And ∷ [])
      → go place (pushed (Item.Value (number_of_truth b)) (pushed (Item.Value (number_of_truth a)) frame)) turns ≡ go (suc place) (pushed (Item.Value (number_of_truth (a && b))) frame) turns
  and-joins frame turns a b place stand =
      stepped goes place What.And [] (pushed (Item.Value (number_of_truth b)) (pushed (Item.Value (number_of_truth a)) frame)) turns stand refl
      ∙ (λ i. go (suc place) (pushed (Item.Value (number_of_truth (truth-back a i && truth-back b i))) frame) turns)

  or-joins : (frame : Frame) (turns : ℕ) (a b : Bool) (place : ℕ) → StandAt code line place (What.Or ∷ [])
      → go place (pushed (Item.Value (number_of_truth b)) (pushed (Item.Value (number_of_truth a)) frame)) turns ≡ go (suc place) (pushed (Item.Value (number_of_truth (a || b))) frame) turns
  or-joins frame turns a b place stand =
      stepped goes place What.Or [] (pushed (Item.Value (number_of_truth b)) (pushed (Item.Value (number_of_truth a)) frame)) turns stand refl
      ∙ (λ i. go (suc place) (pushed (Item.Value (number_of_truth (truth-back a i || truth-back b i))) frame) turns)

  range-leaves : (at : ℕ) (frame : Frame) (turns : ℕ) (sort : Sort) (z : ℤ) (range : CaseRange) → range_is_lowered sort range ≡ true → HasScalar code frame group sort
      → held_at frame group 0 ≡ Some (fitted sort z) → StandAt code line at (range_code scope group sort range) → Leaves go at (range_code scope group sort range) frame turns (is_in_range scope (fitted sort z) range)
  range-leaves at frame turns logical z (only tree) so has held stand =
      truth-leaves at frame turns (truth z) (constant_value scope tree) has held stand
      ∙ ap (λ b. go (at + length (truth_code group (constant_value scope tree))) (pushed (Item.Value (number_of_truth b)) frame) turns) (truth-so (truth z) (constant_value scope tree))
  range-leaves at frame turns logical z (from low) so has held stand = absurd (false≢true so)
  range-leaves at frame turns logical z (up_to high) so has held stand = absurd (false≢true so)
  range-leaves at frame turns logical z (between low high) so has held stand = absurd (false≢true so)
  range-leaves at frame turns (whole its_kind) z (only tree) so has held stand =
      bound-leaves at frame turns (whole its_kind) (fitted (whole its_kind) z) Relation.Eq (constant_value scope tree) has held stand
      ∙ ap (λ b. go (at + length (bound_code group Relation.Eq (constant_value scope tree))) (pushed (Item.Value (number_of_truth b)) frame) turns) (only-so (fitted (whole its_kind) z) (constant_value scope tree))
  range-leaves at frame turns (whole its_kind) z (from low) so has held stand =
      bound-leaves at frame turns (whole its_kind) (fitted (whole its_kind) z) Relation.Ge (constant_value scope low) has held stand
      ∙ ap (λ b. go (at + length (bound_code group Relation.Ge (constant_value scope low))) (pushed (Item.Value (number_of_truth b)) frame) turns) (from-so (fitted (whole its_kind) z) (constant_value scope low))
  range-leaves at frame turns (whole its_kind) z (up_to high) so has held stand =
      bound-leaves at frame turns (whole its_kind) (fitted (whole its_kind) z) Relation.Le (constant_value scope high) has held stand
      ∙ ap (λ b. go (at + length (bound_code group Relation.Le (constant_value scope high))) (pushed (Item.Value (number_of_truth b)) frame) turns) (up-so (fitted (whole its_kind) z) (constant_value scope high))
  range-leaves at frame turns (whole its_kind) z (between low high) so has held stand =
      let above = bound_code group Relation.Ge (constant_value scope low) in
      let below = bound_code group Relation.Le (constant_value scope high) in
      let value = fitted (whole its_kind) z in
      let one = stands_so Relation.Ge value (constant_value scope low) in
      let other = stands_so Relation.Le value (constant_value scope high) in
      joined-leaves at frame turns above below What.And one other (one && other) stand
      (bound-leaves at frame turns (whole its_kind) value Relation.Ge (constant_value scope low) has held (stand-left above (below ++ What.And ∷ []) stand))
      (bound-leaves (at + length above) (pushed (Item.Value (number_of_truth one)) frame) turns (whole its_kind) value Relation.Le (constant_value scope high) (pushed-scalar (Item.Value (number_of_truth one)) has) held
      (stand-left below (What.And ∷ []) (stand-right at above (below ++ What.And ∷ []) stand)))
      (λ place here. and-joins frame turns one other place here)
      ∙ (λ i. go (at + length (above ++ (below ++ What.And ∷ []))) (pushed (Item.Value (number_of_truth (from-so value (constant_value scope low) i && up-so value (constant_value scope high) i))) frame) turns)

  or-none : (a : Bool) → a ≡ (a || false)
  or-none true = refl
  or-none false = refl

  or-more : (a b c : Bool) → ((a || b) || c) ≡ (a || (b || c))
  or-more true b c = refl
  or-more false b c = refl

  -- Behind a truth the ranges are joined to it.
  further-leave : (at : ℕ) (frame : Frame) (turns : ℕ) (sort : Sort) (z : ℤ) (known : Bool) (ranges : List CaseRange) → list_all (range_is_lowered sort) ranges ≡ true
      → HasScalar code frame group sort → held_at frame group 0 ≡ Some (fitted sort z) → StandAt code line at (further_ranges_code scope group sort ranges)
      → go at (pushed (Item.Value (number_of_truth known)) frame) turns
      ≡ go (at + length (further_ranges_code scope group sort ranges)) (pushed (Item.Value (number_of_truth (known || list_any (is_in_range scope (fitted sort z)) ranges))) frame) turns
  further-leave at frame turns sort z known [] so has held stand = λ i. go (plus-none at i) (pushed (Item.Value (number_of_truth (or-none known i))) frame) turns
  further-leave at frame turns sort z known (range ∷ ranges) so has held stand =
      range-leaves at (pushed (Item.Value (number_of_truth known)) frame) turns sort z range (both-true so).0 (pushed-scalar (Item.Value (number_of_truth known)) has) held
      (stand-left whats (What.Or ∷ []) (stand-left first rest stand))
      ∙ or-joins frame turns known one (at + length whats) (stand-right at whats (What.Or ∷ []) (stand-left first rest stand))
      ∙ ap (λ place. go place (pushed (Item.Value (number_of_truth (known || one))) frame) turns) behind
      ∙ further-leave (at + length first) frame turns sort z (known || one) ranges (both-true so).1 has held (stand-right at first rest stand)
      ∙ (λ i. go (at_end i) (pushed (Item.Value (number_of_truth (or-more known one others i))) frame) turns)
    where
      whats : List What
      whats = range_code scope group sort range

      first : List What
      first = further_range_code scope group sort range

      rest : List What
      rest = further_ranges_code scope group sort ranges

      one : Bool
      one = is_in_range scope (fitted sort z) range

      others : Bool
      others = list_any (is_in_range scope (fitted sort z)) ranges

      behind : suc (at + length whats) ≡ at + length first
      behind = omega (arith, length-append whats (What.Or ∷ []))

      at_end : at + length first + length rest ≡ at + length (first ++ rest)
      at_end = omega (arith, length-append first rest)

  -- Whether some range has the selector.
  pub ranges-leave : (at : ℕ) (frame : Frame) (turns : ℕ) (sort : Sort) (z : ℤ) (ranges : List CaseRange) → list_all (range_is_lowered sort) ranges ≡ true → HasScalar code frame group sort
      → held_at frame group 0 ≡ Some (fitted sort z) → StandAt code line at (ranges_code scope group sort ranges)
      → Leaves go at (ranges_code scope group sort ranges) frame turns (list_any (is_in_range scope (fitted sort z)) ranges)
  ranges-leave at frame turns sort z ranges so has held stand =
      false-leaves at frame turns (stand-left (What.Truth false ∷ []) rest stand) ∙ further-leave (at + 1) frame turns sort z false ranges so has held (stand-right at (What.Truth false ∷ []) rest stand)
      ∙ ap (λ place. go place (pushed (Item.Value (number_of_truth (list_any (is_in_range scope (fitted sort z)) ranges))) frame) turns) behind
    where
      rest : List What
      rest = further_ranges_code scope group sort ranges

      behind : at + 1 + length rest ≡ at + suc (length rest)
      behind = omega arith
