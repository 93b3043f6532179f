-- Joined pieces make joined statements behind tests, arms and rounds.
use Rattle.std.proofs.Common.{◌≡◌, ◌⊎◌, inl, inr, ◌<◌, ℕ, ◌+◌, List, [], ◌∷◌, ◌++◌, length, refl, sym, ap, ◌∙◌, arith}
use Rattle.std.proofs.lemmas.List.{length-append}
use Rattle.dc_code.specs.declared.instr.What.{What}
use Rattle.dc_code.specs.StackSorts.{a_truth}
use Rattle.dc_actions.proofs.Straight.{Ground, Runs, runs-one}
use Rattle.dc_flows.specs.Flows.{test_code, guarded_code}
use Rattle.dc_flows.proofs.StandJoints.{Joint, joint-start, joint-end, joint-right, AreJoined, joined-within, joined-out, joined-runs, joined-both}
use Rattle.dc_flows.proofs.StandJumps.{jump-joined, back-joined, test-joined}

-- One place more outside.
abbrev pub Also : ℕ → (ℕ → Type 0) → ℕ → Type 0
Also place out target = (target ≡ place) ⊎ out target

-- A place outside that is a joint among the instructions.
pub joined-without : (ground : Ground) (out : ℕ → Type 0) (at place inside : ℕ) (whats : List What) → place ≡ at + inside → Joint ground whats inside
    → AreJoined ground (Also place out) at whats → AreJoined ground out at whats
joined-without ground out at place inside whats e joint joined =
    joined-within ground (Also place out) out at whats (λ target outside. elim outside [
      | inl same ↦ inr (record { place = inside; there = same ∙ e; joint = joint })
      | inr further ↦ inl further
    ]) joined

-- The same where it is what is behind them.
joined-ending : (ground : Ground) (out : ℕ → Type 0) (at place : ℕ) (whats : List What) → place ≡ at + length whats → AreJoined ground (Also place out) at whats → AreJoined ground out at whats
joined-ending ground out at place whats e joined = joined-without ground out at place (length whats) whats e (joint-end ground whats joined.flows) joined

test-long : (test : List What) (place : ℕ) → length (test_code test place) ≡ length test + 1
test-long test place = length-append test (What.JumpFalse place ∷ [])

module _ (ground : Ground) (out : ℕ → Type 0) where
  -- ---- an action behind a test

  pub guarded-joined : (at : ℕ) (test whats : List What) → Runs ground [] test (a_truth ∷ []) → AreJoined ground out (at + (length test + 1)) whats → AreJoined ground out at (guarded_code at test whats)
  guarded-joined at test whats runs joined =
      joined-ending ground out at end (test_code test end ++ whats) ended
      (joined-both ground (Also end out) at (at + (length test + 1)) (test_code test end) whats (ap (λ n. at + n) (sym (test-long test end)))
      (test-joined ground (Also end out) at end test runs (omega arith) (inl refl))
      (joined-out ground out (Also end out) (at + (length test + 1)) whats (λ target outside. inr outside) joined))
    where
      end : ℕ
      end = at + (length test + 1) + length whats

      ended : end ≡ at + length (test_code test end ++ whats)
      ended = omega (arith, length-append (test_code test end) whats, test-long test end)

  -- ---- an arm

  pub arm-joined : (at next end : ℕ) (test block further : List What) → next ≡ at + (length test + 1) + length block + 1 → end ≡ next + length further
      → Runs ground [] test (a_truth ∷ []) → AreJoined ground out (at + (length test + 1)) block → AreJoined ground out next further
      → AreJoined ground out at (test_code test next ++ (block ++ (What.Jump end ∷ [] ++ further)))
  arm-joined at next end test block further following ending runs joined others =
      joined-ending ground out at end whole ended (joined-without ground (Also end out) at next (length first + (length block + (length jump + 0))) whole placed here all)
    where
      more : ℕ → Type 0
      more = Also next (Also end out)

      first : List What
      first = test_code test next

      jump : List What
      jump = What.Jump end ∷ []

      behind : List What
      behind = block ++ (jump ++ further)

      whole : List What
      whole = first ++ behind

      start : ℕ
      start = at + (length test + 1)

      outward : (target : ℕ) → out target → more target
      outward target outside = inr (inr outside)

      tested : AreJoined ground more at first
      tested = test-joined ground more at next test runs (omega (arith, following)) (inl refl)

      jumped : AreJoined ground more (start + length block) jump
      jumped = jump-joined ground more (start + length block) end (omega (arith, following, ending)) (inr (inl refl))

      later : AreJoined ground more (start + length block) (jump ++ further)
      later = joined-both ground more (start + length block) next jump further (following ∙ omega arith) jumped (joined-out ground out more next further outward others)

      body : AreJoined ground more start behind
      body = joined-both ground more start (start + length block) block (jump ++ further) refl (joined-out ground out more start block outward joined) later

      all : AreJoined ground more at whole
      all = joined-both ground more at start first behind (ap (λ n. at + n) (sym (test-long test next))) tested body

      here : Joint ground whole (length first + (length block + (length jump + 0)))
      here =
          joint-right ground first behind (length block + (length jump + 0)) tested.flows
          (joint-right ground block (jump ++ further) (length jump + 0) joined.flows (joint-right ground jump further 0 jumped.flows (joint-start ground further)))

      placed : next ≡ at + (length first + (length block + (length jump + 0)))
      placed = omega (arith, following, test-long test next)

      ended : end ≡ at + length whole
      ended = omega (arith, following, ending, test-long test next, length-append first behind, length-append block (jump ++ further), length-append jump further)

  -- ---- rounds

  pub rounds-joined : (at begins next behind : ℕ) (head test step block : List What) → begins ≡ at + (length head + (length test + 2)) → next ≡ begins + length block
      → behind ≡ next + (length step + (length test + 2)) → Runs ground [] head [] → Runs ground [] test (a_truth ∷ []) → Runs ground [] step []
      → AreJoined ground (Also next (Also behind out)) begins block
      → AreJoined ground out at ((head ++ (test_code test behind ++ What.Turn ∷ [])) ++ (block ++ (step ++ (test_code test behind ++ What.Back begins ∷ []))))
  rounds-joined at begins next behind head test step block beginning following ending heads tests steps joined =
      joined-ending ground out at behind whole ended
      (joined-without ground (Also behind out) at next (length first + (length block + 0)) whole placed here
      (joined-without ground (Also next (Also behind out)) at begins (length first + 0) whole begun there all))
    where
      inner : ℕ → Type 0
      inner = Also next (Also behind out)

      more : ℕ → Type 0
      more = Also begins (Also next (Also behind out))

      tested : List What
      tested = test_code test behind

      turn : List What
      turn = What.Turn ∷ []

      back : List What
      back = What.Back begins ∷ []

      first : List What
      first = head ++ (tested ++ turn)

      last : List What
      last = step ++ (tested ++ back)

      whole : List What
      whole = first ++ (block ++ last)

      long-last : (ending : List What) → length (tested ++ ending) ≡ length test + 1 + length ending
      long-last ending = omega (arith, length-append tested ending, test-long test behind)

      long-first : length first ≡ length head + (length test + 2)
      long-first = omega (arith, length-append head (tested ++ turn), long-last turn)

      long-step : length last ≡ length step + (length test + 2)
      long-step = omega (arith, length-append step (tested ++ back), long-last back)

      outward : (target : ℕ) → inner target → more target
      outward target outside = inr outside

      -- a test at a place, with what follows it
      tests-there : (place : ℕ) (what : What) → place + (length test + 1) < behind → AreJoined ground more (place + (length test + 1)) (what ∷ []) → AreJoined ground more place (tested ++ what ∷ [])
      tests-there place what ahead following =
          joined-both ground more place (place + (length test + 1)) tested (what ∷ []) (ap (λ n. place + n) (sym (test-long test behind)))
          (test-joined ground more place behind test tests (omega (arith, ahead)) (inr (inr (inl refl)))) following

      turned : AreJoined ground more (at + length head + (length test + 1)) turn
      turned = joined-runs ground more (at + length head + (length test + 1)) turn (runs-one ground [] [] What.Turn refl (λ last. refl))

      returned : AreJoined ground more (next + length step + (length test + 1)) back
      returned = back-joined ground more (next + length step + (length test + 1)) begins (omega (arith, following)) (inl refl)

      opening : AreJoined ground more at first
      opening =
          joined-both ground more at (at + length head) head (tested ++ turn) refl (joined-runs ground more at head heads)
          (tests-there (at + length head) What.Turn (omega (arith, beginning, following, ending)) turned)

      closing : AreJoined ground more next last
      closing =
          joined-both ground more next (next + length step) step (tested ++ back) refl (joined-runs ground more next step steps)
          (tests-there (next + length step) (What.Back begins) (omega (arith, ending)) returned)

      body : AreJoined ground more begins (block ++ last)
      body = joined-both ground more begins next block last following (joined-out ground inner more begins block outward joined) closing

      all : AreJoined ground more at whole
      all = joined-both ground more at begins first (block ++ last) (beginning ∙ ap (λ n. at + n) (sym long-first)) opening body

      there : Joint ground whole (length first + 0)
      there = joint-right ground first (block ++ last) 0 opening.flows (joint-start ground (block ++ last))

      here : Joint ground whole (length first + (length block + 0))
      here = joint-right ground first (block ++ last) (length block + 0) opening.flows (joint-right ground block last 0 joined.flows (joint-start ground last))

      begun : begins ≡ at + (length first + 0)
      begun = omega (arith, beginning, long-first)

      placed : next ≡ at + (length first + (length block + 0))
      placed = omega (arith, beginning, following, long-first)

      ended : behind ≡ at + length whole
      ended = omega (arith, beginning, following, ending, long-first, long-step, length-append first (block ++ last), length-append block last)
