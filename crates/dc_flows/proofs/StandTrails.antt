-- The sorts of the stack before each instruction of a part.
use Rattle.std.proofs.Common.{◌≡◌, ℕ, zero, suc, true, List, [], ◌∷◌, ◌++◌, length, Option, Some, None, refl, sym, ap, ◌∙◌, subst}
use Rattle.std.proofs.lemmas.Option.{none-some, same_Some}
use Rattle.std.specs.Prelude.{slice_get}
use Rattle.dc_code.specs.declared.instr.What.{What}
use Rattle.dc_code.specs.declared.plan.Plan.{Plan}
use Rattle.dc_code.specs.Codes.{CodeLists}
use Rattle.dc_code.specs.StackSorts.{Sorts, sorts_after}
use Rattle.dc_actions.proofs.Straight.{Ground}
use Rattle.dc_flows.proofs.StandFlows.{can_flow, Flows}
use Rattle.dc_flows.proofs.StandJoints.{Joint}

abbrev pub or_none : Option Sorts → Sorts
or_none None = []
or_none (Some sorts) = sorts

-- Before each of these instructions, and behind the last.
abbrev pub trail : CodeLists → Plan → Sorts → List What → List Sorts
trail code plan sorts [] = sorts ∷ []
trail code plan sorts (what ∷ whats) = sorts ∷ trail code plan (or_none (sorts_after code plan None what sorts)) whats

pub trail-first : (code : CodeLists) (plan : Plan) (sorts : Sorts) (whats : List What) → slice_get (trail code plan sorts whats) 0 ≡ Some sorts
trail-first code plan sorts [] = refl
trail-first code plan sorts (what ∷ whats) = refl

-- What stands behind instructions that flow.
pub flow-held : (ground : Ground) (before between : Sorts) (first second : List What) → Flows ground before first between
    → slice_get (trail ground.code ground.plan before (first ++ second)) (length first) ≡ Some between
flow-held ground before between [] second flows = trail-first ground.code ground.plan before second ∙ ap (λ (s : Sorts). Some s) flows
flow-held ground before between (what ∷ first) second flows =
    ap (λ s. slice_get (trail ground.code ground.plan (or_none s) (first ++ second)) (length first)) (((flows.1).1).0 None)
    ∙ flow-held ground flows.0 between first second ((flows.1).1).1

pub end-held : (ground : Ground) (before after : Sorts) (whats : List What) → Flows ground before whats after → slice_get (trail ground.code ground.plan before whats) (length whats) ≡ Some after
end-held ground before after [] flows = ap (λ (s : Sorts). Some s) flows
end-held ground before after (what ∷ whats) flows =
    ap (λ s. slice_get (trail ground.code ground.plan (or_none s) whats) (length whats)) (((flows.1).1).0 None) ∙ end-held ground flows.0 after whats ((flows.1).1).1

-- At a joint nothing does.
pub joint-held : (ground : Ground) (whats : List What) (place : ℕ) → Joint ground whats place → slice_get (trail ground.code ground.plan [] whats) place ≡ Some []
joint-held ground whats place joint =
    subst (λ n. slice_get (trail ground.code ground.plan [] whats) n ≡ Some []) joint.long
    (subst (λ all. slice_get (trail ground.code ground.plan [] all) (length joint.before) ≡ Some []) joint.whole (flow-held ground [] [] joint.before joint.behind joint.flows))

-- An instruction with the sorts before it and behind it.
pub record IsInside (ground : Ground) (held : List Sorts) (at : ℕ) (what : What) : Type 0 where
  pub here : Sorts
  pub next : Sorts
  pub now : slice_get held at ≡ Some here
  pub later : slice_get held (suc at) ≡ Some next
  pub can : can_flow ground.kind what ≡ true
  pub step : (last : Option What) → sorts_after ground.code ground.plan last what here ≡ Some next

one-later : (ground : Ground) (first : Sorts) (held : List Sorts) (at : ℕ) (what : What) → IsInside ground held at what → IsInside ground (first ∷ held) (suc at) what
one-later ground first held at what is = record { here = is.here; next = is.next; now = is.now; later = is.later; can = is.can; step = is.step }

pub inside-held : (ground : Ground) (before after : Sorts) (whats : List What) → Flows ground before whats after → (at : ℕ) (what : What) → slice_get whats at ≡ Some what
    → IsInside ground (trail ground.code ground.plan before whats) at what
inside-held ground before after [] flows zero what e = absurd (none-some what e)
inside-held ground before after [] flows (suc at) what e = absurd (none-some what e)
inside-held ground before after (first ∷ whats) flows zero what e = record {
  here = before;
  next = flows.0;
  now = refl;
  later =
      ap (λ s. slice_get (trail ground.code ground.plan (or_none s) whats) 0) (((flows.1).1).0 None) ∙ trail-first ground.code ground.plan flows.0 whats;
  can = subst (λ w. can_flow ground.kind w ≡ true) (same_Some first what e) (flows.1).0;
  step = λ last. subst (λ w. sorts_after ground.code ground.plan last w before ≡ Some flows.0) (same_Some first what e) (((flows.1).1).0 last);
}
inside-held ground before after (first ∷ whats) flows (suc at) what e =
    subst (λ s. IsInside ground (before ∷ trail ground.code ground.plan (or_none s) whats) (suc at) what) (sym (((flows.1).1).0 None))
    (one-later ground before (trail ground.code ground.plan flows.0 whats) at what (inside-held ground flows.0 after whats ((flows.1).1).1 at what e))
