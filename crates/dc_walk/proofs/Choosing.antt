-- The arm of SELECT CASE that is taken.
use Rattle.std.proofs.Common.{◌≡◌, ℕ, zero, suc, ◌+◌, ◌<◌, Bool, true, false, ◌&&◌, List, [], ◌∷◌, map, length, drop, get_or, Option, Some, None, refl, sym, ap, ◌∙◌, arith, slice_get}
use Rattle.std.specs.Prelude.{ℤ, if◌then◌else◌}
use Rattle.std.specs.List.{list_any}
use Rattle.std.proofs.lemmas.Bool.{and_parts}
use Rattle.dc_tree.specs.declared.program.Part.{Part}
use Rattle.dc_tree.specs.Blocks.{Items, Arms, arms_from, part_items}
use Rattle.dc_tree.specs.Entities.{Scope}
use Rattle.dc_tree.specs.Statements as statements
use Rattle.dc_tree.specs.Statements.{Name, Statement}
use Rattle.dc_meaning.specs.Acts.{Act, just}
use Rattle.dc_meaning.specs.Actions.{Flow, on}
use Rattle.dc_meaning.specs.Execution.{loops_in_all, case_arm, is_in_range, exec_all, exec_cases}
use Rattle.dc_meaning.specs.Values.{Callee}
use Rattle.dc_walk.specs.Arms.{test_of, chosen_by, chosen_from}
use Rattle.dc_walk.specs.Walked.{is_held_or_absent, is_walked_block, are_walked_arms}
use Rattle.dc_walk.proofs.Unnumbered.{none-in-all}

-- ---- one arm

-- What is done where an arm is taken, by its place.
abbrev Done : Type 0
Done = Option ℕ → Act Flow

module _ (among : Done) (scope : Scope) (z : ℤ) (place : ℕ) (body : Act Flow) (further : Act Flow → Act Flow) (chosen : Option ℕ → Option ℕ) (otherwise : Option ℕ)
    (here : body ≡ among (Some place)) (later : (other : Option ℕ) → further (among other) ≡ among (chosen other)) where
  by-test : (fits : Bool) → (if fits then body else further (among otherwise)) ≡ among (if fits then Some place else chosen otherwise)
  by-test true = here
  by-test false = later otherwise

  default : further body ≡ among (chosen (Some place))
  default = ap further here ∙ later (Some place)

  case-is : (says : Statement) → case_arm scope z says body further (among otherwise) ≡ among (chosen_by scope z says place chosen otherwise)
  case-is (statements.program_line name) = default
  case-is (statements.use_line form source names) = default
  case-is statements.implicit_none = default
  case-is (statements.declare form attributes colons names) = default
  case-is statements.contains_line = default
  case-is (statements.procedure_line prefix with_result text brackets dummies result) = default
  case-is (statements.end_line unit text) = default
  case-is (statements.if_then test) = default
  case-is (statements.else_if test) = default
  case-is statements.else_line = default
  case-is statements.end_if = default
  case-is (statements.if_action test deed) = default
  case-is (statements.select_case tree) = default
  case-is (statements.case ranges) = by-test (list_any (is_in_range scope z) ranges)
  case-is statements.case_default = default
  case-is statements.end_select = default
  case-is (statements.do_line label ranging) = default
  case-is (statements.do_while label test) = default
  case-is (statements.concurrent label spec indexes mask locality) = default
  case-is (statements.end_do label) = default
  case-is (statements.act deed) = default

-- ---- all of them

next-place : {A : Type 0} (all : List A) (place : ℕ) (first : A) (rest : List A) → drop place all ≡ first ∷ rest → (slice_get all place ≡ Some first) × (drop (suc place) all ≡ rest)
next-place [] zero first rest e = cc
next-place [] (suc place) first rest e = cc
next-place (one ∷ all) zero first rest e = (cc, cc)
next-place (one ∷ all) (suc place) first rest e = next-place all place first rest e

pub got-at : {A : Type 0} (all : List A) (place : ℕ) (one : A) → place < length all → one ≡ get_or all place one → slice_get all place ≡ Some one
got-at [] place one below is = absurd (omega (arith, below))
got-at (first ∷ all) zero one below is = ap (λ a. Some a) (sym is)
got-at (first ∷ all) (suc place) one below is = got-at all place one (omega (arith, below)) is

module _ (scope : Scope) (indexes : List Name) (call : Callee) (number : ℕ) (z : ℤ) (all : List Part) where
  -- The block of an arm at a place.
  abbrev pub block-at : Option Part → Act Flow
  block-at None = just on
  block-at (Some part) = exec_all scope call number (part_items part).1

  abbrev pub done-at : Done
  done-at None = just on
  done-at (Some place) = block-at (slice_get all place)

  cases-are : (parts : List Part) (place : ℕ) (otherwise : Option ℕ) → drop place all ≡ parts → are_walked_arms scope indexes (arms_from (map part_items parts)) ≡ true
      → exec_cases scope call number z (arms_from (map part_items parts)) (done-at otherwise) ≡ done-at (chosen_from scope z place (arms_from (map part_items parts)) otherwise)
  cases-are [] place otherwise left walked = refl
  cases-are (part ∷ parts) place otherwise left walked =
      case-is done-at scope z place (exec_all scope call number body) (λ other. exec_cases scope call (number + loops_in_all body) z rest other) (chosen_from scope z (place + 1) rest) otherwise
      (sym (ap block-at here.0)) (λ other. ap (λ n. exec_cases scope call n z rest (done-at other)) same ∙ cases-are parts (place + 1) other (ap (λ n. drop n all) after ∙ here.1) both.1) (part_items part).0.says
    where
      body : Items
      body = (part_items part).1

      rest : Arms
      rest = arms_from (map part_items parts)

      here : (slice_get all place ≡ Some part) × (drop (suc place) all ≡ parts)
      here = next-place all place part parts left

      after : place + 1 ≡ suc place
      after = omega arith

      both : (is_walked_block scope indexes body ≡ true) × (are_walked_arms scope indexes rest ≡ true)
      both = and_parts (is_walked_block scope indexes body) (are_walked_arms scope indexes rest)
          (and_parts (is_held_or_absent (test_of (part_items part).0.says)) (is_walked_block scope indexes body && are_walked_arms scope indexes rest) walked).1

      few : loops_in_all body ≡ 0
      few = none-in-all scope indexes body both.0

      same : number + loops_in_all body ≡ number
      same = omega (arith, few)

  pub cases-done : are_walked_arms scope indexes (arms_from (map part_items all)) ≡ true
      → exec_cases scope call number z (arms_from (map part_items all)) (just on) ≡ done-at (chosen_from scope z 0 (arms_from (map part_items all)) None)
  cases-done walked = cases-are all 0 None refl walked
