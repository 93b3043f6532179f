-- The sorts that the instructions of a counted DO leave, before its rounds, before each and behind each.
use Rattle.std.proofs.Common.{◌≡◌, ℕ, ◌+◌, true, List, [], ◌∷◌, ◌++◌, length, Option, Some, refl, subst}
use Rattle.std.specs.Prelude.{pos}
use Rattle.std.proofs.lemmas.Bool.{false≢true, eqb-true}
use Rattle.dc_int.specs.declared.kind.Kind.{Kind}
use Rattle.dc_int.specs.declared.operation.Op.{Op}
use Rattle.dc_int.specs.Sorts.{whole, logical, kind_of}
use Rattle.dc_code.specs.declared.instr.Relation.{Relation}
use Rattle.dc_code.specs.declared.instr.What.{What}
use Rattle.dc_code.specs.StackSorts as items
use Rattle.dc_code.specs.StackSorts.{a_truth, in_variable, Sorts, sorts_after}
use Rattle.dc_tree.specs.Entities.{Entity, outside, Scope, entity}
use Rattle.dc_tree.specs.Statements.{Name, Ranging}
use Rattle.dc_tree.specs.Syntax.{Tree}
use Rattle.dc_tree.specs.Typing.{sort_of_entity}
use Rattle.dc_actions.specs.Assigning.{takes_values}
use Rattle.dc_actions.specs.Expressions.{value_code, entity_code, is_usable, is_number}
use Rattle.dc_actions.specs.Limits.{step_is_usable, step_code}
use Rattle.dc_actions.specs.Typed.{is_typed_number, limits_are_typed}
use Rattle.dc_actions.proofs.Facts.{both-true}
use Rattle.dc_actions.proofs.Straight.{Ground, Runs, runs-one, runs-both}
use Rattle.dc_actions.proofs.RunsOfNames.{Fits, const-runs, entity-runs, subscript-runs, all-off, kind-serves, arith-two-runs}
use Rattle.dc_actions.proofs.RunsOfStatements.{Changes, store-runs}
use Rattle.dc_actions.proofs.RunsOfDeeds.{wrapped-runs, wrapped-first, step-runs}
use Rattle.dc_flows.specs.Flows.{keep_code, fetch_code, store_code, counted_head, counted_step}
use Rattle.dc_flows.proofs.StandScalars.{IsScalar, keep-own, fetch-runs}

-- ---- the number of rounds

abbrev three_of : Kind → Sorts → Sorts
three_of its_kind below = items.number its_kind ∷ items.number its_kind ∷ items.number its_kind ∷ below

count-runs : (ground : Ground) (its_kind : Kind) (below : Sorts) → Runs ground (three_of its_kind below) (What.Count its_kind ∷ []) (items.number Kind.K8 ∷ below)
count-runs ground its_kind below = runs-one ground (three_of its_kind below) (items.number Kind.K8 ∷ below) (What.Count its_kind) refl (counted its_kind)
  where
    counted : (kind : Kind) (last : Option What) → sorts_after ground.code ground.plan last (What.Count kind) (three_of kind below) ≡ Some (items.number Kind.K8 ∷ below)
    counted Kind.K1 last = refl
    counted kind last = refl

-- The scalars of a counted DO: its first value, its step, and how many rounds are left.
pub record AreCounters (ground : Ground) (group : ℕ) (its_kind : Kind) : Type 0 where
  pub first : IsScalar ground group (whole its_kind)
  pub step : IsScalar ground (group + 1) (whole its_kind)
  pub left : IsScalar ground (group + 2) (whole Kind.K8)

-- ---- the variable

-- The variable of a counted DO is stored, and read.
pub record IsCounted (ground : Ground) (scope : Scope) (its_kind : Kind) (variable : Entity) : Type 0 where
  pub store : (below : Sorts) → Runs ground (items.number its_kind ∷ below) (store_code variable) below
  pub load : Runs ground [] (entity_code variable) (items.number its_kind ∷ [])

pub is-counted : (ground : Ground) (scope : Scope) → Fits ground scope → Changes ground → (text : Name) (found : Entity) → entity scope text ≡ found
    → takes_values scope found (Some []) ≡ true → is_number (sort_of_entity found) ≡ true → IsCounted ground scope (kind_of (sort_of_entity found)) found
is-counted ground scope fits changeable text (outside variable (whole its_kind) bounds) is takes number = record {
  store = λ below. runs-both ground (items.number its_kind ∷ below) (in_variable variable ∷ items.number its_kind ∷ below) below (What.Subscript variable ∷ []) (What.Store variable ∷ [])
      (subscript-runs ground scope fits text variable (whole its_kind) bounds is (items.number its_kind ∷ below) (items.number its_kind ∷ below)
      (all-off [] (length bounds) (items.number its_kind ∷ below) (eqb-true (length bounds) 0 (both-true takes).0) refl))
      (store-runs ground scope fits changeable text variable (whole its_kind) bounds is (items.number its_kind) below (kind-serves its_kind));
  load = entity-runs ground scope fits text (outside variable (whole its_kind) bounds) [] [] is (both-true takes).0 refl;
}
is-counted ground scope fits changeable text (outside variable logical bounds) is takes number = absurd (false≢true number)
is-counted ground scope fits changeable text found is takes number = absurd (false≢true takes)

module _ (ground : Ground) (scope : Scope) (fits : Fits ground scope) (group : ℕ) where
  -- ---- before the rounds

  wrapped-then : (its_kind : Kind) (tree : Tree) (below after : Sorts) (others : List What) → is_usable scope tree ≡ true → is_typed_number scope tree ≡ true
      → Runs ground (items.number its_kind ∷ below) others after → Runs ground below (value_code scope tree ++ (What.Wrap its_kind ∷ others)) after
  wrapped-then its_kind tree below after others so typed rest =
      subst (λ whats. Runs ground below whats after) (wrapped-first (value_code scope tree) its_kind others)
      (runs-both ground below (items.number its_kind ∷ below) after (value_code scope tree ++ What.Wrap its_kind ∷ []) others
      (wrapped-runs ground scope fits its_kind tree below so typed) rest)

  -- The first value is kept, and pushed again.
  again-then : (kept : ℕ) (its_kind : Kind) (below after : Sorts) (others : List What) → IsScalar ground kept (whole its_kind)
      → Runs ground (items.number its_kind ∷ below) others after → Runs ground (items.number its_kind ∷ below) (keep_code kept ++ (fetch_code kept ++ others)) after
  again-then kept its_kind below after others scalar rest =
      runs-both ground (items.number its_kind ∷ below) below after (keep_code kept) (fetch_code kept ++ others) (keep-own ground kept (whole its_kind) scalar below)
      (runs-both ground below (items.number its_kind ∷ below) after (fetch_code kept) others (fetch-runs ground kept (whole its_kind) scalar below) rest)

  pub head-runs : (its_kind : Kind) (variable : Entity) (ranging : Ranging) → AreCounters ground group its_kind → IsCounted ground scope its_kind variable
      → is_usable scope ranging.first ≡ true → is_usable scope ranging.last ≡ true → step_is_usable scope ranging.step ≡ true → limits_are_typed scope ranging ≡ true
      → Runs ground [] (counted_head scope group its_kind variable ranging) []
  head-runs its_kind variable ranging counters counted first last step typed =
      let others_typed = both-true (both-true typed).1 in
      wrapped-then its_kind ranging.first [] [] from_first first (both-true typed).0
      (again-then group its_kind [] [] from_last counters.first
      (wrapped-then its_kind ranging.last one [] (step_code scope its_kind ranging.step ++ from_step) last others_typed.0
      (runs-both ground two three [] (step_code scope its_kind ranging.step) from_step (step-runs ground scope fits its_kind ranging.step two step others_typed.1)
      (again-then (group + 1) its_kind two [] from_count counters.step
      (runs-both ground three (items.number Kind.K8 ∷ []) [] (What.Count its_kind ∷ []) from_left (count-runs ground its_kind [])
      (runs-both ground (items.number Kind.K8 ∷ []) [] [] (keep_code (group + 2)) from_fetch (keep-own ground (group + 2) (whole Kind.K8) counters.left [])
      (runs-both ground [] one [] (fetch_code group) (store_code variable) (fetch-runs ground group (whole its_kind) counters.first []) (counted.store []))))))))
    where
      one : Sorts
      one = items.number its_kind ∷ []

      two : Sorts
      two = items.number its_kind ∷ one

      three : Sorts
      three = items.number its_kind ∷ two

      from_fetch : List What
      from_fetch = fetch_code group ++ store_code variable

      from_left : List What
      from_left = keep_code (group + 2) ++ from_fetch

      from_count : List What
      from_count = What.Count its_kind ∷ from_left

      from_step : List What
      from_step = keep_code (group + 1) ++ (fetch_code (group + 1) ++ from_count)

      from_last : List What
      from_last = value_code scope ranging.last ++ (What.Wrap its_kind ∷ (step_code scope its_kind ranging.step ++ from_step))

      from_first : List What
      from_first = keep_code group ++ (fetch_code group ++ from_last)

  -- ---- before each round, and behind each

  -- Some rounds are left.
  pub left-runs : IsScalar ground (group + 2) (whole Kind.K8) → Runs ground [] (fetch_code (group + 2) ++ What.Const Kind.K8 (pos 0) ∷ What.Compare Relation.Gt ∷ []) (a_truth ∷ [])
  left-runs scalar =
      runs-both ground [] (items.number Kind.K8 ∷ []) (a_truth ∷ []) (fetch_code (group + 2)) (What.Const Kind.K8 (pos 0) ∷ What.Compare Relation.Gt ∷ [])
      (fetch-runs ground (group + 2) (whole Kind.K8) scalar [])
      (runs-both ground (items.number Kind.K8 ∷ []) (items.number Kind.K8 ∷ items.number Kind.K8 ∷ []) (a_truth ∷ []) (What.Const Kind.K8 (pos 0) ∷ []) (What.Compare Relation.Gt ∷ [])
      (const-runs ground (items.number Kind.K8 ∷ []) Kind.K8 (pos 0) refl)
      (runs-one ground (items.number Kind.K8 ∷ items.number Kind.K8 ∷ []) (a_truth ∷ []) (What.Compare Relation.Gt) refl (λ last. refl)))

  -- There is one round less.
  fewer-runs : IsScalar ground (group + 2) (whole Kind.K8) → Runs ground [] (fetch_code (group + 2) ++ (What.Const Kind.K8 (pos 1) ∷ What.Arith Op.Sub Kind.K8 ∷ keep_code (group + 2))) []
  fewer-runs scalar =
      runs-both ground [] eight [] (fetch_code (group + 2)) (What.Const Kind.K8 (pos 1) ∷ What.Arith Op.Sub Kind.K8 ∷ keep_code (group + 2)) (fetch-runs ground (group + 2) (whole Kind.K8) scalar [])
      (runs-both ground eight (items.number Kind.K8 ∷ eight) [] (What.Const Kind.K8 (pos 1) ∷ []) (What.Arith Op.Sub Kind.K8 ∷ keep_code (group + 2)) (const-runs ground eight Kind.K8 (pos 1) refl)
      (runs-both ground (items.number Kind.K8 ∷ eight) eight [] (What.Arith Op.Sub Kind.K8 ∷ []) (keep_code (group + 2)) (arith-two-runs ground Op.Sub Kind.K8 Kind.K8 Kind.K8 [] refl refl refl)
      (keep-own ground (group + 2) (whole Kind.K8) scalar [])))
    where
      eight : Sorts
      eight = items.number Kind.K8 ∷ []

  pub counted-step-runs : (its_kind : Kind) (variable : Entity) → AreCounters ground group its_kind → IsCounted ground scope its_kind variable
      → Runs ground [] (counted_step group its_kind variable) []
  counted-step-runs its_kind variable counters counted =
      runs-both ground [] one [] (entity_code variable) from_step counted.load
      (runs-both ground one two [] (fetch_code (group + 1)) from_sum (fetch-runs ground (group + 1) (whole its_kind) counters.step one)
      (runs-both ground two one [] (What.Arith Op.Add its_kind ∷ []) from_store (arith-two-runs ground Op.Add its_kind its_kind its_kind [] refl (kind-serves its_kind) (kind-serves its_kind))
      (runs-both ground one [] [] (store_code variable) from_left (counted.store []) (fewer-runs counters.left))))
    where
      one : Sorts
      one = items.number its_kind ∷ []

      two : Sorts
      two = items.number its_kind ∷ one

      from_left : List What
      from_left = fetch_code (group + 2) ++ (What.Const Kind.K8 (pos 1) ∷ What.Arith Op.Sub Kind.K8 ∷ keep_code (group + 2))

      from_store : List What
      from_store = store_code variable ++ from_left

      from_sum : List What
      from_sum = What.Arith Op.Add its_kind ∷ from_store

      from_step : List What
      from_step = fetch_code (group + 1) ++ from_sum
