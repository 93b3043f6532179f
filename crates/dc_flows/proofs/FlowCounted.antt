-- The rounds of a counted DO.
use Rattle.std.proofs.Common.{◌≡◌, ◌⊎◌, inl, inr, ◌<◌, ◌≤◌, ℕ, zero, suc, ◌+◌, true, cond, List, [], ◌∷◌, ◌++◌, length, Some, refl, sym, ap, ◌∙◌, arith}
use Rattle.std.proofs.lemmas.Bool.{cases_lt}
use Rattle.std.proofs.lemmas.Int.{ints, clamps}
use Rattle.std.specs.Prelude.{ℤ, pos, min}
use Rattle.dc_int.specs.declared.kind.Kind.{Kind}
use Rattle.dc_int.specs.Sorts.{whole}
use Rattle.dc_code.specs.declared.frame.Place.{Place}
use Rattle.dc_code.specs.declared.instr.What.{What}
use Rattle.dc_code.specs.declared.plan.Group.{Group}
use Rattle.dc_code.specs.Codes.{CodeLists, element}
use Rattle.dc_code.specs.Combinations.{Span, value_count}
use Rattle.dc_code.specs.Computation.{define, sequence}
use Rattle.dc_code.specs.Frames.{Frame}
use Rattle.dc_code.specs.Instructions.{Going, greatest_rounds}
use Rattle.dc_code.specs.Troubles.{Computing}
use Rattle.dc_code.proofs.Sequences.{sequence-then}
use Rattle.dc_tree.specs.Entities.{outside, Scope, entity}
use Rattle.dc_tree.specs.Statements.{Name, Ranging}
use Rattle.dc_meaning.specs.Actions.{Flow, on, ◌>>◌}
use Rattle.dc_meaning.specs.Acts as acts
use Rattle.dc_meaning.specs.Acts.{State, Act, ◌>>=◌}
use Rattle.dc_meaning.specs.Execution.{behind_round, counted_rounds, counted_do, span_of, stepped}
use Rattle.dc_meaning.specs.Places.{element_at}
use Rattle.dc_meaning.specs.Values.{Callee}
use Rattle.dc_actions.specs.Expressions.{is_usable}
use Rattle.dc_actions.specs.Limits.{step_is_usable}
use Rattle.dc_actions.specs.Placed.{StandAt, Alike}
use Rattle.dc_actions.proofs.FillingLaws.{held_at}
use Rattle.dc_actions.proofs.Kept.{put_slot, put-alike, put-there, same-alike, alike-then, alike-slot}
use Rattle.dc_flows.specs.Flows.{LoopAround, scalar_group, counted_head, counted_step}
use Rattle.dc_flows.specs.FlowsLowered.{greatest_turns}
use Rattle.dc_flows.proofs.FlowCounts.{counter_place, Ready, left-scalar, rounds_test, tested-law, more, step-law}
use Rattle.dc_flows.proofs.FlowGoing.{FlowsAs}
use Rattle.dc_flows.proofs.FlowHeads.{head-law}
use Rattle.dc_flows.proofs.FlowRounds.{RoundAt, spent-law, round-behind}
use Rattle.dc_flows.proofs.FlowRuns.{turned, Later, Behind, From, Runs, alike-from, stands-alike, stands-right}

-- So many rounds are left in the slot as are meant, or of both there are more than turns.
abbrev pub Together : (turns kept meant : ℕ) → Type 0
Together turns kept meant = (kept ≡ meant) ⊎ ((turns < kept) × (turns < meant))

together-fewer : (turns left fewer kept meant : ℕ) → turns ≡ suc left → fewer ≤ left → Together turns (suc kept) (suc meant) → Together fewer kept meant
together-fewer turns left fewer kept meant is less (inl same) = inl (omega (arith, same))
together-fewer turns left fewer kept meant is less (inr both) =
    let one : turns < suc kept = both.0 in
    let other : turns < suc meant = both.1 in
    inr (omega (arith, one, is, less), omega (arith, other, is, less))

none-kept : (turns meant : ℕ) → Together turns 0 (suc meant) → ⊥
none-kept turns meant (inl same) = omega (arith, same)
none-kept turns meant (inr both) = let one : turns < 0 = both.0 in omega (arith, one)

none-meant : (turns kept : ℕ) → Together turns (suc kept) 0 → ⊥
none-meant turns kept (inl same) = omega (arith, same)
none-meant turns kept (inr both) = let other : turns < 0 = both.1 in omega (arith, other)

together-first : (turns meant : ℕ) → turns ≤ greatest_turns → Together turns (min meant greatest_rounds) meant
together-first turns meant small = by (cases_lt greatest_rounds meant)
  where
    by : (greatest_rounds < meant) ⊎ (meant ≤ greatest_rounds) → Together turns (min meant greatest_rounds) meant
    by (inl many) = inr (omega (arith, ints, clamps, many, small), omega (arith, many, small))
    by (inr few) = inl (omega (arith, ints, clamps, few))

module _ {code : CodeLists} {go : Going} (flows : FlowsAs code go) (scope : Scope) (call : Callee) (frames : List acts.Frame) (line : ℕ) (text : Name) (variable : ℕ) (its_kind : Kind)
    (is : entity scope text ≡ outside variable (whole its_kind) []) (free : ℕ) (inside : List Group) (around : List LoopAround) (inner : LoopAround) (begins : ℕ) (body : Act Flow)
    (runs : Runs code go scope frames (inner ∷ around) begins inner.next (free + 3) inside body) where
  abbrev Good : Frame → Type 0
  Good frame = Ready flows scope call frames line text variable its_kind is free inside frame

  abbrev place : Place
  place = counter_place flows scope call frames line text variable its_kind is free inside

  abbrev Round : ℕ → Type 0
  Round at = RoundAt code go line (rounds_test flows scope call frames line text variable its_kind is free inside) begins inner.behind at

  module _ (stepping : StandAt code line inner.next (counted_step free its_kind (outside variable (whole its_kind) []))) (again : Round (inner.next + 13)) (s : ℤ) where
    abbrev step : Act Unit
    step = stepped line place (whole its_kind) s

    abbrev rounds : ℕ → Act Flow
    rounds count = counted_rounds line inner.label step body count

    -- A frame that is ready for a round, with so many left.
    record Counts (frame : Frame) (count : ℕ) : Type 0 where
      good : Good frame
      step_held : held_at frame (free + 1) 0 ≡ Some s
      left_held : held_at frame (free + 2) 0 ≡ Some (pos count)
      few : count ≤ greatest_rounds

    counts-then : {frame next : Frame} (count : ℕ) → Alike (free + 3) frame next → Counts frame count → Counts next count
    counts-then count alike counts = record {
      good = stands-alike (alike-from {low = free} {high = free + 3} (omega arith) alike) counts.good;
      step_held = alike-slot alike (free + 1) 0 (omega arith) ∙ counts.step_held;
      left_held = alike-slot alike (free + 2) 0 (omega arith) ∙ counts.left_held;
      few = counts.few;
    }

    counts-fewer : (frame : Frame) (count : ℕ) → Counts frame (suc count) → Counts (put_slot (free + 2) 0 (Some (pos count)) frame) count
    counts-fewer frame count counts =
        let put = put-alike (free + 2) (free + 2) 0 (Some (pos count)) frame (omega arith) in
        let few : suc count ≤ greatest_rounds = counts.few in
        record {
          good = stands-alike (alike-from {low = free} {high = free + 2} (omega arith) put) counts.good;
          step_held = alike-slot put (free + 1) 0 (omega arith) ∙ counts.step_held;
          left_held = put-there (free + 2) 0 (Some (pos count)) frame (left-scalar flows scope call frames line text variable its_kind is free inside frame counts.good).room;
          few = omega (arith, few);
        }

    one-round : (count kept at : ℕ) → Round at → (frame : Frame) (turns : ℕ) → Counts frame (suc kept) → turns ≤ greatest_turns
        → (K : Later) → Behind go frames around inner.behind free frame turns K
        → ((left : ℕ) → turns ≡ suc left → (next : Frame) (fewer : ℕ) → Counts next kept → Alike free frame next → fewer ≤ left → go (inner.next + 13) next fewer ≡ sequence (rounds count (turned frames fewer)) K)
        → go at frame turns ≡ sequence (rounds (suc count) (turned frames turns)) K
    one-round count kept at here frame turns counts small K behind further =
        tested-law flows scope call frames line text variable its_kind is free inside at inner.behind frame turns (suc kept) counts.good counts.left_held here.test_stands here.ahead
        ∙ ap (λ b. cond b (go (at + 5) frame turns) (go inner.behind frame turns)) (more flows scope call frames line text variable its_kind is free inside kept)
        ∙ here.turns frame turns
        ∙ spent-law frames line turns (λ left. go begins frame left) (body >>= behind_round inner.label (step >> rounds count)) K one
      where
        goes-on : (left : ℕ) → turns ≡ suc left → (next : Frame) (fewer : ℕ) → Alike (free + 3) frame next → fewer ≤ left → go inner.next next fewer ≡ sequence ((step >> rounds count) (turned frames fewer)) K
        goes-on left same next fewer alike less =
            let there = counts-then (suc kept) alike counts in
            let before = alike-from {low = free} {high = free + 3} (omega arith) alike in
            step-law flows scope call frames line text variable its_kind is free inside inner.next next fewer kept s there.good there.step_held there.left_held there.few stepping
            (λ w. sequence (rounds count w.1) K)
            (further left same (put_slot (free + 2) 0 (Some (pos kept)) next) fewer (counts-fewer next kept there)
            (alike-then before (put-alike free (free + 2) 0 (Some (pos kept)) next (omega arith))) less)
            ∙ sym (sequence-then (step (turned frames fewer)) (λ w. rounds count w.1) K)

        one : (left : ℕ) → turns ≡ suc left → go begins frame left ≡ sequence ((body >>= behind_round inner.label (step >> rounds count)) (turned frames left)) K
        one left same =
            runs frame left (stands-right free (scalar_group (whole its_kind) ∷ scalar_group (whole its_kind) ∷ scalar_group (whole Kind.K8) ∷ []) inside counts.good) (omega (arith, same, small))
            (λ w. sequence (behind_round inner.label (step >> rounds count) w.0 w.1) K)
            (round-behind go frames around inner free (free + 3) (omega arith) frame left (step >> rounds count) K (goes-on left same)
            (λ flow place other least goes alike fewest. behind flow place other least goes alike (omega (arith, same, fewest))))
            ∙ sym (sequence-then (body (turned frames left)) (λ w. behind_round inner.label (step >> rounds count) w.0 w.1) K)

    counted-law : (count kept at : ℕ) → Round at → (frame : Frame) (turns : ℕ) → Counts frame kept → turns ≤ greatest_turns → Together turns kept count
        → From go frames around at inner.behind free frame turns (rounds count)
    counted-law zero zero at here frame turns counts small both K behind =
        tested-law flows scope call frames line text variable its_kind is free inside at inner.behind frame turns 0 counts.good counts.left_held here.test_stands here.ahead
        ∙ behind on inner.behind frame turns refl (same-alike free frame) (omega arith)
    counted-law zero (suc kept) at here frame turns counts small both K behind = absurd (none-meant turns kept both)
    counted-law (suc count) zero at here frame turns counts small both K behind = absurd (none-kept turns count both)
    counted-law (suc count) (suc kept) at here frame turns counts small both K behind =
        one-round count kept at here frame turns counts small K behind
        (λ left same next fewer there alike less. counted-law count kept (inner.next + 13) again next fewer there (omega (arith, same, less, small)) (together-fewer turns left fewer kept count same less both) K
        (λ flow place other least goes further fewest. behind flow place other least goes (alike-then alike further) (omega (arith, same, less, fewest))))

  -- ---- the loop

  pub counted-runs : (ranging : Ranging) (at : ℕ) → is_usable scope ranging.first ≡ true → is_usable scope ranging.last ≡ true → step_is_usable scope ranging.step ≡ true
      → StandAt code line at (counted_head scope free its_kind (outside variable (whole its_kind) []) ranging)
      → Round (at + length (counted_head scope free its_kind (outside variable (whole its_kind) []) ranging))
      → StandAt code line inner.next (counted_step free its_kind (outside variable (whole its_kind) [])) → Round (inner.next + 13)
      → (frame : Frame) (turns : ℕ) → Good frame → turns ≤ greatest_turns
      → From go frames around at inner.behind free frame turns (counted_do scope call line inner.label ranging (outside variable (whole its_kind) []) body)
  counted-runs ranging at usable lasts steps stand first stepping again frame turns ready small K behind =
      head-law flows scope call frames line text variable its_kind is free inside ranging turns (at + length head) frame (λ w. sequence (all w.0 w.1) K) begun usable lasts steps ready at stand refl
      ∙ sym (sequence-then (span_of scope call line (whole its_kind) ranging (turned frames turns)) (λ w. all w.0 w.1) K)
    where
      head : List What
      head = counted_head scope free its_kind (outside variable (whole its_kind) []) ranging

      all : Span → Act Flow
      all span = element_at line (outside variable (whole its_kind) []) [] >>= (λ place. acts.store line place span.first >> counted_rounds line inner.label (stepped line place (whole its_kind) span.step) body (value_count span))

      few : (count : ℕ) → min count greatest_rounds ≤ greatest_rounds
      few count = omega (arith, ints, clamps)

      begun : (span : Span) (left : Frame) → Alike free frame left → held_at left (free + 1) 0 ≡ Some span.step → held_at left (free + 2) 0 ≡ Some (pos (min (value_count span) greatest_rounds))
          → define (element variable 0) span.first line (go (at + length head) left turns) ≡ sequence (all span (turned frames turns)) K
      begun span left alike held kept =
          ap (define (element variable 0) span.first line)
          (counted-law stepping again span.step (value_count span) (min (value_count span) greatest_rounds) (at + length head) first left turns
          (record { good = stands-alike alike ready; step_held = held; left_held = kept; few = few (value_count span) }) small (together-first turns (value_count span) small) K
          (λ flow place other least goes further fewest. behind flow place other least goes (alike-then alike further) fewest))
