-- Instructions with jumps among them: the sorts of a stack along the list, as if each went on behind itself.
use Rattle.std.proofs.Common.{◌≡◌, ℕ, zero, suc, Bool, true, false, ◌&&◌, List, [], ◌∷◌, ◌++◌, Option, Some, None, refl, sym, ap, ◌∙◌, subst}
use Rattle.std.specs.Prelude.{not, is_none, slice_get}
use Rattle.std.proofs.lemmas.Bool.{false≢true}
use Rattle.std.proofs.lemmas.Option.{none-some, same_Some}
use Rattle.dc_code.specs.declared.instr.What.{What}
use Rattle.dc_code.specs.declared.plan.Plan.{Plan}
use Rattle.dc_code.specs.Codes.{CodeLists}
use Rattle.dc_code.specs.StackSorts.{Sorts, sorts_after}
use Rattle.dc_code.specs.WellFormed.{PartOf, goes_on, target_of, changes, contributes, ends_part, is_load_result, may_change, may_stand}
use Rattle.dc_actions.proofs.Facts.{both-hold, both-true}
use Rattle.dc_actions.proofs.Straight.{can_stand, Ground, Runs}

-- An instruction before the end of a part.
abbrev pub can_flow : PartOf → What → Bool
can_flow kind what = not (ends_part what) && (is_none (contributes what) && (may_change kind (changes what) && may_stand kind what))

abbrev pub Flows : Ground → Sorts → List What → Sorts → Type 0
Flows ground before [] after = before ≡ after
Flows ground before (what ∷ whats) after =
    (next : Sorts)
    × ((can_flow ground.kind what ≡ true)
    × (((last : Option What) → sorts_after ground.code ground.plan last what before ≡ Some next) × Flows ground next whats after))

-- One instruction before others.
pub flows-step : (ground : Ground) (before next after : Sorts) (what : What) (whats : List What) → can_flow ground.kind what ≡ true
    → ((last : Option What) → sorts_after ground.code ground.plan last what before ≡ Some next) → Flows ground next whats after → Flows ground before (what ∷ whats) after
flows-step ground before next after what whats can step rest = (next, (can, (step, rest)))

pub flows-both : (ground : Ground) (before between after : Sorts) (whats others : List What) → Flows ground before whats between → Flows ground between others after
    → Flows ground before (whats ++ others) after
flows-both ground before between after [] others first second = subst (λ s. Flows ground s others after) (sym first) second
flows-both ground before between after (what ∷ whats) others first second =
    (first.0, ((first.1).0, (((first.1).1).0, flows-both ground first.0 between after whats others ((first.1).1).1 second)))

-- What stands before other instructions flows by itself.
pub flows-first : (ground : Ground) (before after : Sorts) (whats others : List What) → Flows ground before (whats ++ others) after → (between : Sorts) × Flows ground before whats between
flows-first ground before after [] others flows = (before, refl)
flows-first ground before after (what ∷ whats) others flows =
    let first = flows-first ground flows.0 after whats others ((flows.1).1).1 in
    (first.0, (flows.0, ((flows.1).0, (((flows.1).1).0, first.1))))

-- ---- instructions without jumps

-- What runs straight through flows.
stands-so : (kind : PartOf) (what : What) → can_stand kind what ≡ true → can_flow kind what ≡ true
stands-so kind what can =
    let ends = both-true {a = not (ends_part what)} (both-true {a = goes_on what} can).1 in
    let further = both-true {a = is_none (target_of what)} ends.1 in
    both-hold ends.0 further.1

pub runs-flow : (ground : Ground) (before after : Sorts) (whats : List What) → Runs ground before whats after → Flows ground before whats after
runs-flow ground before after [] runs = runs
runs-flow ground before after (what ∷ whats) runs =
    (runs.0, (stands-so ground.kind what (runs.1).0, (((runs.1).1).0, runs-flow ground runs.0 after whats ((runs.1).1).1)))

no-target : (kind : PartOf) (what : What) → can_stand kind what ≡ true → target_of what ≡ None
no-target kind what can =
    let ends = both-true {a = not (ends_part what)} (both-true {a = goes_on what} can).1 in
    nothing (target_of what) (both-true {a = is_none (target_of what)} ends.1).0
  where
    nothing : (found : Option ℕ) → is_none found ≡ true → found ≡ None
    nothing None e = refl
    nothing (Some n) e = absurd (false≢true e)

-- It has no jump.
pub runs-jumpless : (ground : Ground) (before after : Sorts) (whats : List What) → Runs ground before whats after
    → (i : ℕ) (what : What) → slice_get whats i ≡ Some what → target_of what ≡ None
runs-jumpless ground before after [] runs zero what e = absurd (none-some what e)
runs-jumpless ground before after [] runs (suc i) what e = absurd (none-some what e)
runs-jumpless ground before after (first ∷ whats) runs zero what e = ap target_of (sym (same_Some first what e)) ∙ no-target ground.kind first (runs.1).0
runs-jumpless ground before after (first ∷ whats) runs (suc i) what e = runs-jumpless ground runs.0 after whats ((runs.1).1).1 i what e

-- ---- LoadResult

-- It doesn't stand behind just any instruction.
pub no-result : (code : CodeLists) (plan : Plan) (what : What) (before after : Sorts) → ((last : Option What) → sorts_after code plan last what before ≡ Some after) → is_load_result what ≡ false
no-result code plan What.LoadResult before after step = absurd (none-some after (step None))
no-result code plan what before after step = refl
