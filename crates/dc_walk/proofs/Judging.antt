-- The steps of the plain judge.
use Rattle.std.proofs.Common.{◌≡◌, ℕ, zero, suc, ◌+◌, ◌<◌, List, [], ◌∷◌, length, drop, Some, None, refl, sym, ap, ◌∙◌, subst, arith, slice_get, slice_index_or}
use Rattle.std.specs.Prelude.{Result, ℤ, pos}
use Rattle.std.proofs.lemmas.List.{at_drop_more}
use Rattle.dc_int.specs.declared.fault.Why.{Why}
use Rattle.dc_int.specs.Store.{Store}
use Rattle.dc_code.specs.Loops.{Loop, alone}
use Rattle.dc_code.specs.Troubles.{ended}
use Rattle.dc_code.specs.Verdicts.{in_iteration, or_later}
use Rattle.dc_plain.specs.Marks.{Marks, marked_runs}
use Rattle.dc_plain.specs.Views.{View}
use Rattle.dc_sorts.specs.Standing.{standing_of, scope_at}
use Rattle.dc_tree.specs.Blocks.{items}
use Rattle.dc_meaning.specs.declared.stop.Stop.{Stop}
use Rattle.dc_walk.specs.declared.task.Task.{Task}
use Rattle.dc_meaning.specs.Execution.{exec_all}
use Rattle.dc_walk.specs.Judging.{IsDoneBy, IsOne, IsTask, fresh, combination, bad_of, runs_of}
use Rattle.dc_walk.specs.Flows.{Finishes}

-- What the walker does for the block of a task, for a value of its index.
abbrev pub IsCarriedOut : Task → ℤ → View → View → Result (Unit {0}) Stop → Type 0
IsCarriedOut task z before after result =
    (number : ℕ) → Finishes ((Some z ∷ []) ∷ []) task.turns before (λ call. exec_all (scope_at (standing_of task.standing)) call number (items task.body.now)) after result

-- Over a view that has no entries yet this is an iteration.
pub iterated : (parts : Loop) (task : Task) → IsTask parts task → (given z : ℤ) → given ≡ z → (store : Store) (before after : View) (result : Result (Unit {0}) Stop) → before ≡ fresh store
    → IsCarriedOut task given before after result → IsDoneBy (parts.block store [] (combination z)) after result
iterated parts task is given z same store before after result fresh_is finishes =
    subst (λ y. IsDoneBy (parts.block store [] (combination y)) after result) same
    (is.run.runs given store after result (subst (λ (b : View). IsCarriedOut task given b after result) fresh_is finishes))

-- ---- one iteration among those that are left

abbrev at_value : List ℤ → ℕ → ℤ
at_value active i = slice_index_or active i (pos 0)

pub value-at : (active : List ℤ) (i : ℕ) → i < length active → slice_get active i ≡ Some (at_value active i)
value-at [] i inside = absurd (omega (arith, inside))
value-at (z ∷ active) zero inside = refl
value-at (z ∷ active) (suc i) inside = value-at active i (omega (arith, inside))

first-bad : (parts : Loop) (store : Store) (z : ℤ) (rest : List ℤ) (n : ℕ) (before after : Marks) (why : Why) (line : ℕ)
    → IsOne (alone parts store (combination z)) n before after (Some (why, line)) → bad_of parts store (z ∷ rest) ≡ Some (in_iteration (ended why line []) (combination z))
first-bad parts store z rest n before after why line is = ap (λ t. or_later (combination z) t (bad_of parts store rest)) is.trouble

pub left-bad : (parts : Loop) (store : Store) (active : List ℤ) (i : ℕ) (given : ℤ) (n : ℕ) (before after : Marks) (why : Why) (line : ℕ)
    → i < length active → given ≡ at_value active i
    → IsOne (alone parts store (combination given)) n before after (Some (why, line))
    → bad_of parts store (drop i active) ≡ Some (in_iteration (ended why line []) (combination (at_value active i)))
left-bad parts store active i given n before after why line inside same is =
    at_drop_more (bad_of parts store) active i (pos 0) inside
    ∙ first-bad parts store (at_value active i) (drop (i + 1) active) n before after why line
    (subst (λ z. IsOne (alone parts store (combination z)) n before after (Some (why, line))) same is)

-- An iteration that ended well: what is left to be marked and judged.
pub record Goes (parts : Loop) (store : Store) (active : List ℤ) (i n : ℕ) (before after : Marks) : Type 0 where
  pub marks : marked_runs (n + 1) (runs_of parts store (drop (i + 1) active)) after ≡ marked_runs n (runs_of parts store (drop i active)) before
  pub bad : bad_of parts store (drop (i + 1) active) ≡ bad_of parts store (drop i active)

pub left-good : (parts : Loop) (store : Store) (active : List ℤ) (i : ℕ) (given : ℤ) (n : ℕ) (before after : Marks)
    → i < length active → given ≡ at_value active i → IsOne (alone parts store (combination given)) n before after None → Goes parts store active i n before after
left-good parts store active i given n before after inside same is =
    let z = at_value active i in
    let rest = drop (i + 1) active in
    let here : IsOne (alone parts store (combination z)) n before after None = subst (λ (y : ℤ). IsOne (alone parts store (combination y)) n before after None) same is in
    let trouble = here.trouble in
    let marks = here.marks in
    record {
      marks = (λ k. marked_runs (plus-one k) (runs_of parts store rest) (marks k)) ∙ sym (at_drop_more (λ zs. marked_runs n (runs_of parts store zs) before) active i (pos 0) inside);
      bad = sym (at_drop_more (bad_of parts store) active i (pos 0) inside ∙ ap (λ t. or_later (combination z) t (bad_of parts store rest)) trouble);
    }
  where
    plus-one : n + 1 ≡ suc n
    plus-one = omega arith
