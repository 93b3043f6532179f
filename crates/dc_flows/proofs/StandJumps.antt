-- Single jumps, and tests with a jump behind them.
use Rattle.std.proofs.Common.{◌≡◌, inl, inr, ◌<◌, ℕ, zero, suc, ◌+◌, true, List, [], ◌∷◌, ◌++◌, length, Option, Some, refl, sym, ap, ◌∙◌, subst, arith}
use Rattle.std.proofs.lemmas.Bool.{lt-ltb}
use Rattle.std.proofs.lemmas.List.{length-append}
use Rattle.std.proofs.lemmas.Option.{none-some, same_Some}
use Rattle.std.specs.Prelude.{slice_get}
use Rattle.dc_code.specs.declared.instr.What.{What}
use Rattle.dc_code.specs.StackSorts.{a_truth, sorts_after}
use Rattle.dc_code.specs.WellFormed.{PartOf, main, procedure, header, mask, body, target_of, is_in_direction}
use Rattle.dc_actions.proofs.Straight.{Ground, Runs}
use Rattle.dc_flows.specs.Flows.{test_code}
use Rattle.dc_flows.proofs.StandFlows.{can_flow, Flows, flows-step, flows-both, runs-flow, runs-jumpless}
use Rattle.dc_flows.proofs.StandJoints.{joint-end, joint-at, Jumps, JumpWell, AreJoined, IsLater, first-or-later}

-- ---- jumps can stand in all parts

can-jump : (kind : PartOf) (target : ℕ) → can_flow kind (What.Jump target) ≡ true
can-jump main target = refl
can-jump procedure target = refl
can-jump (header construct) target = refl
can-jump (mask construct) target = refl
can-jump (body construct) target = refl

can-pass : (kind : PartOf) (target : ℕ) → can_flow kind (What.JumpFalse target) ≡ true
can-pass main target = refl
can-pass procedure target = refl
can-pass (header construct) target = refl
can-pass (mask construct) target = refl
can-pass (body construct) target = refl

can-return : (kind : PartOf) (target : ℕ) → can_flow kind (What.Back target) ≡ true
can-return main target = refl
can-return procedure target = refl
can-return (header construct) target = refl
can-return (mask construct) target = refl
can-return (body construct) target = refl

module _ (ground : Ground) (out : ℕ → Type 0) where
  -- ---- one jump

  -- One instruction that jumps outside, and takes nothing from the stack.
  one-jump : (at target : ℕ) (what : What) → can_flow ground.kind what ≡ true → ((last : Option What) → sorts_after ground.code ground.plan last what [] ≡ Some [])
      → target_of what ≡ Some target → is_in_direction what at target ≡ true → out target → AreJoined ground out at (what ∷ [])
  one-jump at target what can step is direction outside = record { flows = flow; jumps = jumps }
    where
      flow : Flows ground [] (what ∷ []) []
      flow = flows-step ground [] [] [] what [] can step refl

      none-on : (at : ℕ) → at ≡ at + 0
      none-on at = omega arith

      jump : Jumps ground out at (what ∷ []) 0 what target
      jump = record {
        direction = ap (λ n. is_in_direction what n target) (sym (none-on at)) ∙ direction;
        behind = joint-end ground (what ∷ []) flow;
        lands = inl outside;
      }

      jumps : JumpWell ground out at (what ∷ [])
      jumps zero found place e f =
          subst (λ w. Jumps ground out at (what ∷ []) 0 w place) (same_Some what found e)
          (subst (λ t. Jumps ground out at (what ∷ []) 0 what t) (same_Some target place (sym is ∙ ap target_of (same_Some what found e) ∙ f)) jump)
      jumps (suc i) found place e f = absurd (none-some found e)

  pub jump-joined : (at target : ℕ) → at < target → out target → AreJoined ground out at (What.Jump target ∷ [])
  jump-joined at target ahead outside = one-jump at target (What.Jump target) (can-jump ground.kind target) (λ last. refl) refl (lt-ltb at target ahead) outside

  pub back-joined : (at target : ℕ) → target < at → out target → AreJoined ground out at (What.Back target ∷ [])
  back-joined at target before outside = one-jump at target (What.Back target) (can-return ground.kind target) (λ last. refl) refl (lt-ltb target at before) outside

  -- ---- a test

  -- A truth, and a jump where it doesn't hold.
  pub test-joined : (at target : ℕ) (test : List What) → Runs ground [] test (a_truth ∷ []) → at + length test < target → out target → AreJoined ground out at (test_code test target)
  test-joined at target test runs ahead outside = record { flows = flow; jumps = jumps }
    where
      pass : List What
      pass = What.JumpFalse target ∷ []

      flow : Flows ground [] (test ++ pass) []
      flow =
          flows-both ground [] (a_truth ∷ []) [] test pass (runs-flow ground [] (a_truth ∷ []) test runs)
          (flows-step ground (a_truth ∷ []) [] [] (What.JumpFalse target) [] (can-pass ground.kind target) (λ last. refl) refl)

      long : length (test ++ pass) ≡ suc (length test)
      long = omega (arith, length-append test pass)

      behind : (n i : ℕ) → i ≡ n + 0 → n ≡ i
      behind n i e = omega (arith, e)

      last-jump : (i place : ℕ) → i ≡ length test + 0 → Some target ≡ Some place → Jumps ground out at (test ++ pass) i (What.JumpFalse target) place
      last-jump i place e f =
          subst (λ t. Jumps ground out at (test ++ pass) i (What.JumpFalse target) t) (same_Some target place f)
          (subst (λ n. Jumps ground out at (test ++ pass) n (What.JumpFalse target) target) (behind (length test) i e)
          (record {
            direction = lt-ltb (at + length test) target ahead;
            behind = joint-at (length (test ++ pass)) (suc (length test)) long (joint-end ground (test ++ pass) flow);
            lands = inl outside;
          }))

      later : (i : ℕ) (found : What) (place : ℕ) → IsLater test pass i found → target_of found ≡ Some place → Jumps ground out at (test ++ pass) i found place
      later i found place is f = by is.place is.behind is.there
        where
          by : (n : ℕ) → i ≡ length test + n → slice_get pass n ≡ Some found → Jumps ground out at (test ++ pass) i found place
          by zero e there =
              subst (λ w. Jumps ground out at (test ++ pass) i w place) (same_Some (What.JumpFalse target) found there)
              (last-jump i place e (ap target_of (same_Some (What.JumpFalse target) found there) ∙ f))
          by (suc n) e there = absurd (none-some found there)

      jumps : JumpWell ground out at (test ++ pass)
      jumps i found place e f = elim (first-or-later test pass i found e) [
        | inl here ↦ absurd (none-some place (sym (runs-jumpless ground [] (a_truth ∷ []) test runs i found here) ∙ f))
        | inr is ↦ later i found place is f
      ]
