-- The head of a counted DO: its limits, its step, how many rounds there are, and its variable.
use Rattle.std.proofs.Common.{◌≡◌, ◌<◌, ◌≤◌, ℕ, zero, suc, ◌+◌, Bool, true, false, ◌&&◌, cond, List, [], ◌∷◌, ◌++◌, length, Option, Some, None, refl, sym, ap, ◌∙◌, subst, arith}
use Rattle.std.proofs.lemmas.Int.{ints, clamps}
use Rattle.std.proofs.lemmas.List.{length-append}
use Rattle.std.specs.Prelude.{ℤ, pos, min}
use Rattle.dc_int.specs.declared.fault.FaultKind.{FaultKind}
use Rattle.dc_int.specs.declared.kind.Kind.{Kind}
use Rattle.dc_int.specs.Kinds.{wrapped}
use Rattle.dc_int.specs.Sorts.{Sort, whole, fitted}
use Rattle.dc_code.specs.declared.frame.Item.{Item}
use Rattle.dc_code.specs.declared.instr.What.{What}
use Rattle.dc_code.specs.declared.plan.Group.{Group}
use Rattle.dc_code.specs.Codes.{CodeLists, element}
use Rattle.dc_code.specs.Combinations.{Span, has_zero_step, value_count}
use Rattle.dc_code.specs.Computation.{give, define, sequence}
use Rattle.dc_code.specs.Frames.{Frame, pushed}
use Rattle.dc_code.specs.Instructions.{Going, greatest_rounds}
use Rattle.dc_code.specs.Operands.{faulty}
use Rattle.dc_code.specs.Troubles.{Computing}
use Rattle.dc_code.proofs.Sequences.{sequence-then}
use Rattle.dc_tree.specs.Entities.{outside, Scope, entity}
use Rattle.dc_tree.specs.Statements.{Name, Ranging}
use Rattle.dc_tree.specs.Syntax.{Tree}
use Rattle.dc_meaning.specs.Acts as acts
use Rattle.dc_meaning.specs.Acts.{State, just, wrong}
use Rattle.dc_meaning.specs.Execution.{span_of, step_value, checked_span}
use Rattle.dc_meaning.specs.Values.{Callee, value}
use Rattle.dc_actions.specs.Expressions.{value_code, is_usable}
use Rattle.dc_actions.specs.Limits.{step_is_usable, step_code}
use Rattle.dc_actions.specs.Placed.{StandAt, HaveNames, Alike}
use Rattle.dc_actions.proofs.Converting.{fitted-twice}
use Rattle.dc_actions.proofs.Expressions.{value-law}
use Rattle.dc_actions.proofs.Facts.{both-true}
use Rattle.dc_actions.proofs.FillingLaws.{held_at}
use Rattle.dc_actions.proofs.Kept.{put_slot, put-alike, put-there, same-alike, alike-then}
use Rattle.dc_actions.proofs.OperatorLaws.{pushed-names}
use Rattle.dc_actions.proofs.Placing.{stand-left, stand-right, stand-rest, stepped}
use Rattle.dc_flows.specs.Flows.{keep_code, fetch_code, store_code, counted_head}
use Rattle.dc_flows.proofs.FlowCounts.{counter, counted_groups, Ready, first-scalar, step-scalar, left-scalar, store-scalar, pushed-scalar, zero-same}
use Rattle.dc_flows.proofs.FlowGoing.{FlowsAs, flows-go}
use Rattle.dc_flows.proofs.FlowRuns.{turned, StandsAlways, alike-from, stands-alike}
use Rattle.dc_flows.proofs.FlowSlots.{HasScalar, alike-scalar, fits-eight, keep-law, fetch-law, put-holds}

module _ {code : CodeLists} {go : Going} (flows : FlowsAs code go) (scope : Scope) (call : Callee) (frames : List acts.Frame) (line : ℕ) (text : Name) (variable : ℕ) (its_kind : Kind)
    (is : entity scope text ≡ outside variable (whole its_kind) []) (free : ℕ) (inside : List Group) where
  abbrev Good : Frame → Type 0
  Good frame = Ready flows scope call frames line text variable its_kind is free inside frame

  abbrev taken : ℤ → ℤ
  taken z = fitted (whole its_kind) z

  -- ---- the instructions, from each on

  abbrev storing : List What
  storing = fetch_code free ++ store_code (outside variable (whole its_kind) [])

  abbrev counting : List What
  counting = keep_code (free + 2) ++ storing

  abbrev stepping : List What
  stepping = keep_code (free + 1) ++ (fetch_code (free + 1) ++ (What.Count its_kind ∷ counting))

  -- How many rounds are left is kept, and the first value is stored.
  kept-count : (at end : ℕ) (frame : Frame) (turns : ℕ) (z : ℤ) (many : ℕ) → Good frame → many ≤ greatest_rounds → held_at frame free 0 ≡ Some (taken z)
      → StandAt code line at counting → end ≡ at + 6
      → go at (pushed (Item.Value (pos many)) frame) turns ≡ define (element variable 0) (taken z) line (go end (put_slot (free + 2) 0 (Some (pos many)) frame) turns)
  kept-count at end frame turns z many ready few held stand ends =
      keep-law (flows-go flows) at (free + 2) frame turns (whole Kind.K8) (pos many) (left-scalar flows scope call frames line text variable its_kind is free inside frame ready)
      (stand-left (keep_code (free + 2)) storing stand)
      ∙ ap (λ kept. go (at + 2) (put_slot (free + 2) 0 (Some kept) frame) turns) (fits-eight many few)
      ∙ fetch-law (flows-go flows) (at + 2) free left turns (whole its_kind) (taken z) (alike-scalar alike (first-scalar flows scope call frames line text variable its_kind is free inside frame ready))
      (put-holds free (free + 2) (taken z) (pos many) frame (omega arith) held) (stand-left (fetch_code free) storing_code behind)
      ∙ store-scalar flows scope call frames line text variable its_kind is free inside (at + 2 + 2) left turns (taken z) (stands-alike alike ready turns).names (stand-right (at + 2) (fetch_code free) storing_code behind)
      ∙ ap (λ given. define (element variable 0) given line (go (at + 2 + 2 + 2) left turns)) (fitted-twice (whole its_kind) z)
      ∙ ap (λ place. define (element variable 0) (taken z) line (go place left turns)) there
    where
      left : Frame
      left = put_slot (free + 2) 0 (Some (pos many)) frame

      alike : Alike free frame left
      alike = put-alike free (free + 2) 0 (Some (pos many)) frame (omega arith)

      storing_code : List What
      storing_code = store_code (outside variable (whole its_kind) [])

      behind : StandAt code line (at + 2) storing
      behind = stand-right at (keep_code (free + 2)) storing stand

      there : at + 2 + 2 + 2 ≡ end
      there = omega (arith, ends)

  -- ---- what follows the head

  module _ (ranging : Ranging) (turns end : ℕ) (start : Frame) (K : Span × State → Computing (Frame × ℕ))
      (later : (span : Span) (frame : Frame) → Alike free start frame → held_at frame (free + 1) 0 ≡ Some span.step
      → held_at frame (free + 2) 0 ≡ Some (pos (min (value_count span) greatest_rounds))
      → define (element variable 0) span.first line (go end frame turns) ≡ K (span, turned frames turns)) where
    abbrev spanning : ℤ → ℤ → ℤ → Span
    spanning first last step = record { first = taken first; last = taken last; step = taken step }

    -- what is checked of the three, and then follows
    abbrev checked : ℤ → ℤ → ℤ → State → Computing (Frame × ℕ)
    checked first last step state = sequence (checked_span line (spanning first last step) state) K

    count-law : (at : ℕ) (frame : Frame) (first last step : ℤ) → Good frame → Alike free start frame → held_at frame free 0 ≡ Some (taken first) → held_at frame (free + 1) 0 ≡ Some (taken step)
        → StandAt code line at (What.Count its_kind ∷ counting) → end ≡ at + 7
        → go at (pushed (Item.Value (taken step)) (pushed (Item.Value (taken last)) (pushed (Item.Value (taken first)) frame))) turns ≡ checked first last step (turned frames turns)
    count-law at frame first last step ready alike held kept stand ends =
        stepped (flows-go flows) at (What.Count its_kind) counting (pushed (Item.Value (taken step)) (pushed (Item.Value (taken last)) (pushed (Item.Value (taken first)) frame))) turns stand refl
        ∙ by (has_zero_step span)
        ∙ ap (λ b. sequence (cond b (wrong FaultKind.StepZero line) (just span) (turned frames turns)) K) (sym (zero-same (taken step)))
      where
        span : Span
        span = spanning first last step

        many : ℕ
        many = min (value_count span) greatest_rounds

        few : many ≤ greatest_rounds
        few = omega (arith, ints, clamps)

        by : (b : Bool) → sequence (sequence (cond b (faulty FaultKind.StepZero line) (give (pos many))) (λ rounds. give (pushed (Item.Value rounds) frame))) (λ left. go (suc at) left turns)
            ≡ sequence (cond b (wrong FaultKind.StepZero line) (just span) (turned frames turns)) K
        by true = refl
        by false =
            kept-count (suc at) end frame turns first many ready few held (stand-rest at (What.Count its_kind) counting stand) (omega (arith, ends))
            ∙ later span (put_slot (free + 2) 0 (Some (pos many)) frame) (alike-then alike (put-alike free (free + 2) 0 (Some (pos many)) frame (omega arith)))
            (put-holds (free + 1) (free + 2) (taken step) (pos many) frame (omega arith) kept)
            (put-there (free + 2) 0 (Some (pos many)) frame (left-scalar flows scope call frames line text variable its_kind is free inside frame ready).room)

    step-kept : (at : ℕ) (frame : Frame) (first last step given : ℤ) → taken given ≡ taken step → Good frame → Alike free start frame → held_at frame free 0 ≡ Some (taken first)
        → StandAt code line at stepping → end ≡ at + 11
        → go at (pushed (Item.Value given) (pushed (Item.Value (taken last)) (pushed (Item.Value (taken first)) frame))) turns ≡ checked first last step (turned frames turns)
    step-kept at frame first last step given same ready alike held stand ends =
        keep-law (flows-go flows) at (free + 1) both turns (whole its_kind) given (pushed-scalar (Item.Value (taken last)) (pushed-scalar (Item.Value (taken first)) scalar))
        (stand-left (keep_code (free + 1)) second stand)
        ∙ ap (λ kept. go (at + 2) (put_slot (free + 1) 0 (Some kept) both) turns) same
        ∙ fetch-law (flows-go flows) (at + 2) (free + 1) (put_slot (free + 1) 0 (Some (taken step)) both) turns (whole its_kind) (taken step)
        (pushed-scalar (Item.Value (taken last)) (pushed-scalar (Item.Value (taken first)) (alike-scalar put scalar))) kept (stand-left (fetch_code (free + 1)) third behind)
        ∙ count-law (at + 2 + 2) left first last step (stands-alike put ready) (alike-then alike put) (put-holds free (free + 1) (taken first) (taken step) frame (omega arith) held)
        kept (stand-right (at + 2) (fetch_code (free + 1)) third behind) (omega (arith, ends))
      where
        both : Frame
        both = pushed (Item.Value (taken last)) (pushed (Item.Value (taken first)) frame)

        left : Frame
        left = put_slot (free + 1) 0 (Some (taken step)) frame

        scalar : HasScalar code frame (free + 1) (whole its_kind)
        scalar = step-scalar flows scope call frames line text variable its_kind is free inside frame ready

        put : Alike free frame left
        put = put-alike free (free + 1) 0 (Some (taken step)) frame (omega arith)

        kept : held_at left (free + 1) 0 ≡ Some (taken step)
        kept = put-there (free + 1) 0 (Some (taken step)) frame scalar.room

        third : List What
        third = What.Count its_kind ∷ counting

        second : List What
        second = fetch_code (free + 1) ++ third

        behind : StandAt code line (at + 2) second
        behind = stand-right at (keep_code (free + 1)) second stand

    -- the step, where both limits are on the stack
    step-given : (at : ℕ) (frame : Frame) (first last : ℤ) (tree : Option Tree) → step_is_usable scope tree ≡ true → Good frame → Alike free start frame → held_at frame free 0 ≡ Some (taken first)
        → StandAt code line at (step_code scope its_kind tree ++ stepping) → end ≡ at + length (step_code scope its_kind tree) + 11
        → go at (pushed (Item.Value (taken last)) (pushed (Item.Value (taken first)) frame)) turns
        ≡ sequence (sequence (step_value scope call line tree (turned frames turns)) (λ w. checked_span line (spanning first last w.0) w.1)) K
    step-given at frame first last None usable ready alike held stand ends =
        stepped (flows-go flows) at (What.Const its_kind (pos 1)) stepping (pushed (Item.Value (taken last)) (pushed (Item.Value (taken first)) frame)) turns stand refl
        ∙ step-kept (suc at) frame first last (pos 1) (pos 1) refl ready alike held (stand-rest at (What.Const its_kind (pos 1)) stepping stand) (omega (arith, ends))
    step-given at frame first last (Some tree) usable ready alike held stand ends =
        value-law code go (flows-go flows) scope call line at both (turned frames turns) tree
        (pushed-names (Item.Value (taken last)) (pushed-names (Item.Value (taken first)) (ready turns).names)) (stand-left test (What.Wrap its_kind ∷ []) (stand-left whole_step stepping stand)) usable
        (λ w. checked first last w.0 w.1)
        (λ z. stepped (flows-go flows) (at + length test) (What.Wrap its_kind) [] (pushed (Item.Value z) both) turns (stand-right at test (What.Wrap its_kind ∷ []) (stand-left whole_step stepping stand)) refl
        ∙ ap (λ place. go place (pushed (Item.Value (wrapped its_kind z)) both) turns) there
        ∙ step-kept (at + length whole_step) frame first last z (wrapped its_kind z) (fitted-twice (whole its_kind) z) ready alike held (stand-right at whole_step stepping stand) ends)
        ∙ sym (sequence-then (value scope call line tree (turned frames turns)) (λ w. checked_span line (spanning first last w.0) w.1) K)
      where
        both : Frame
        both = pushed (Item.Value (taken last)) (pushed (Item.Value (taken first)) frame)

        test : List What
        test = value_code scope tree

        whole_step : List What
        whole_step = test ++ What.Wrap its_kind ∷ []

        there : suc (at + length test) ≡ at + length whole_step
        there = omega (arith, length-append test (What.Wrap its_kind ∷ []))

    abbrev between : List What
    between = What.Wrap its_kind ∷ (step_code scope its_kind ranging.step ++ stepping)

    -- the last value and the step, where the first value is on the stack
    last-given : (at : ℕ) (frame : Frame) (first : ℤ) → is_usable scope ranging.last ≡ true → step_is_usable scope ranging.step ≡ true → Good frame → Alike free start frame
        → held_at frame free 0 ≡ Some (taken first) → StandAt code line at (value_code scope ranging.last ++ between) → end ≡ at + length (value_code scope ranging.last ++ between)
        → go at (pushed (Item.Value (taken first)) frame) turns
        ≡ sequence (sequence (value scope call line ranging.last (turned frames turns)) (λ w. sequence (step_value scope call line ranging.step w.1) (λ u. checked_span line (spanning first w.0 u.0) u.1))) K
    last-given at frame first usable steps ready alike held stand ends =
        value-law code go (flows-go flows) scope call line at (pushed (Item.Value (taken first)) frame) (turned frames turns) ranging.last
        (pushed-names (Item.Value (taken first)) (ready turns).names) (stand-left test between stand) usable
        (λ w. sequence (sequence (step_value scope call line ranging.step w.1) (λ u. checked_span line (spanning first w.0 u.0) u.1)) K)
        (λ z. stepped (flows-go flows) (at + length test) (What.Wrap its_kind) (step ++ stepping) (pushed (Item.Value z) (pushed (Item.Value (taken first)) frame)) turns behind refl
        ∙ step-given (suc (at + length test)) frame first z ranging.step steps ready alike held (stand-rest (at + length test) (What.Wrap its_kind) (step ++ stepping) behind) there)
        ∙ sym (sequence-then (value scope call line ranging.last (turned frames turns)) (λ w. sequence (step_value scope call line ranging.step w.1) (λ u. checked_span line (spanning first w.0 u.0) u.1)) K)
      where
        test : List What
        test = value_code scope ranging.last

        step : List What
        step = step_code scope its_kind ranging.step

        behind : StandAt code line (at + length test) between
        behind = stand-right at test between stand

        there : end ≡ suc (at + length test) + length step + 11
        there = omega (arith, ends, length-append test between, length-append step stepping)

    pub head-law : is_usable scope ranging.first ≡ true → is_usable scope ranging.last ≡ true → step_is_usable scope ranging.step ≡ true → Good start → (at : ℕ)
        → StandAt code line at (counted_head scope free its_kind (outside variable (whole its_kind) []) ranging)
        → end ≡ at + length (counted_head scope free its_kind (outside variable (whole its_kind) []) ranging)
        → go at start turns ≡ sequence (span_of scope call line (whole its_kind) ranging (turned frames turns)) K
    head-law usable lasts steps ready at stand ends =
        value-law code go (flows-go flows) scope call line at start (turned frames turns) ranging.first (ready turns).names (stand-left test (What.Wrap its_kind ∷ kept) stand) usable
        (λ w. sequence (further w.0 w.1) K) (λ z. begun z)
        ∙ sym (sequence-then (value scope call line ranging.first (turned frames turns)) (λ w. further w.0 w.1) K)
      where
        test : List What
        test = value_code scope ranging.first

        last : List What
        last = value_code scope ranging.last ++ between

        kept : List What
        kept = keep_code free ++ (fetch_code free ++ last)

        further : ℤ → State → Computing (Span × State)
        further first state =
            sequence (value scope call line ranging.last state) (λ w. sequence (step_value scope call line ranging.step w.1) (λ u. checked_span line (spanning first w.0 u.0) u.1))

        behind : StandAt code line (at + length test) (What.Wrap its_kind ∷ kept)
        behind = stand-right at test (What.Wrap its_kind ∷ kept) stand

        keeping : StandAt code line (suc (at + length test)) kept
        keeping = stand-rest (at + length test) (What.Wrap its_kind) kept behind

        fetching : StandAt code line (suc (at + length test) + 2) (fetch_code free ++ last)
        fetching = stand-right (suc (at + length test)) (keep_code free) (fetch_code free ++ last) keeping

        scalar : HasScalar code start free (whole its_kind)
        scalar = first-scalar flows scope call frames line text variable its_kind is free inside start ready

        there : end ≡ suc (at + length test) + 2 + 2 + length last
        there = omega (arith, ends, length-append test (What.Wrap its_kind ∷ kept))

        begun : (z : ℤ) → go (at + length test) (pushed (Item.Value z) start) turns ≡ sequence (further z (turned frames turns)) K
        begun z =
            let frame = put_slot free 0 (Some (taken z)) start in
            let alike = put-alike free free 0 (Some (taken z)) start (omega arith) in
            let held = put-there free 0 (Some (taken z)) start scalar.room in
            stepped (flows-go flows) (at + length test) (What.Wrap its_kind) kept (pushed (Item.Value z) start) turns behind refl
            ∙ keep-law (flows-go flows) (suc (at + length test)) free start turns (whole its_kind) (wrapped its_kind z) scalar (stand-left (keep_code free) (fetch_code free ++ last) keeping)
            ∙ ap (λ given. go (suc (at + length test) + 2) (put_slot free 0 (Some given) start) turns) (fitted-twice (whole its_kind) z)
            ∙ fetch-law (flows-go flows) (suc (at + length test) + 2) free frame turns (whole its_kind) (taken z) (alike-scalar alike scalar) held (stand-left (fetch_code free) last fetching)
            ∙ last-given (suc (at + length test) + 2 + 2) frame z lasts steps (stands-alike alike ready) alike held
            (stand-right (suc (at + length test) + 2) (fetch_code free) last fetching) there
