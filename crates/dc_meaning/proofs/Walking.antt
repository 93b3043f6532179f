-- The laws of what a computation does to a view.
use Rattle.std.proofs.Common.{◌≡◌, ℕ, [], ◌∷◌, refl, sym, ap, subst, ◌∙◌, append_assoc, append-nil}
use Rattle.std.specs.Prelude.{Result, Ok, Err}
use Rattle.std.specs.Result.{IsErrAnd}
use Rattle.dc_int.specs.declared.fault.FaultKind.{FaultKind}
use Rattle.dc_int.specs.declared.fault.Why.{Why}
use Rattle.dc_int.specs.Entries.{Entry, Reads, Defines, Undefines, Contributes}
use Rattle.dc_int.specs.Store.{value_at, bounds_of}
use Rattle.dc_code.specs.Computation.{Computation, give, fail, read, define, undefine, contribute, ask, pause, sequence, Reached, done, bad, paused, Run, over, behind_entries}
use Rattle.dc_code.specs.Troubles.{Computing, Slots}
use Rattle.dc_code.proofs.Sequences.{sequence-then}
use Rattle.dc_meaning.specs.declared.stop.Stop.{Stop}
use Rattle.dc_meaning.specs.Acts.{State, Act, ◌>>=◌, just, wrong}
use Rattle.dc_meaning.specs.Values.{Callee}
use Rattle.dc_plain.specs.Views.{View, noted}
use Rattle.dc_meaning.specs.Walking.{seen_over, behind_view, state_in, Answers, Walks, Stays}

-- ---- first this, then that

abbrev pub then : {E T A B : Type 0} → View × Reached E T A → (A → Computation E T B) → View × Reached E T B
then (view, done a) next = seen_over view (next a)
then (view, bad trouble) next = (view, bad trouble)
then (view, paused event rest) next = (view, paused event (λ told. sequence (rest told) next))

pub seen-then : {E T A B : Type 0} (view : View) (c : Computation E T A) (next : A → Computation E T B) → seen_over view (sequence c next) ≡ then (seen_over view c) next
seen-then view (give a) next = refl
seen-then view (fail trouble) next = refl
seen-then view (read x line rest) next = seen-then (noted (Reads x line) view) (rest (value_at view.store x)) next
seen-then view (define x value line rest) next = seen-then (noted (Defines x value line) view) rest next
seen-then view (undefine x line rest) next = seen-then (noted (Undefines x line) view) rest next
seen-then view (contribute x op value rest) next = seen-then (noted (Contributes x op value) view) rest next
seen-then view (ask variable rest) next = seen-then view (rest (bounds_of view.store variable)) next
seen-then view (pause event rest) next = refl

-- what is seen is the run over the store
behind-noted : {E T A : Type 0} (view : View) (entry : Entry) (run : Run E T A) → behind_view (noted entry view) run ≡ behind_view view (behind_entries (entry ∷ []) run)
behind-noted view entry run = λ i. (record { store = run.store; entries = append_assoc view.entries (entry ∷ []) run.entries i }, run.reached)

pub seen-run : {E T A : Type 0} (view : View) (c : Computation E T A) → seen_over view c ≡ behind_view view (over view.store c)
seen-run view (give a) = λ i. (record { store = view.store; entries = sym (append-nil view.entries) i }, done a)
seen-run view (fail trouble) = λ i. (record { store = view.store; entries = sym (append-nil view.entries) i }, bad trouble)
seen-run view (read x line rest) =
    seen-run (noted (Reads x line) view) (rest (value_at view.store x)) ∙ behind-noted view (Reads x line) (over view.store (rest (value_at view.store x)))
seen-run view (define x value line rest) =
    let after = noted (Defines x value line) view in
    seen-run after rest ∙ behind-noted view (Defines x value line) (over after.store rest)
seen-run view (undefine x line rest) =
    let after = noted (Undefines x line) view in
    seen-run after rest ∙ behind-noted view (Undefines x line) (over after.store rest)
seen-run view (contribute x op value rest) =
    seen-run (noted (Contributes x op value) view) rest ∙ behind-noted view (Contributes x op value) (over view.store rest)
seen-run view (ask variable rest) = seen-run view (rest (bounds_of view.store variable))
seen-run view (pause event rest) = λ i. (record { store = view.store; entries = sym (append-nil view.entries) i }, paused event rest)

-- ---- what the walker answers

behind-done : {A B C : Type 0} (tell : A → B) (before between after : View) (c : Computing C) (a : C) (next : C → Computing (B × State)) (state : State) (r : Result A Stop)
    → seen_over before c ≡ (between, done a) → Answers tell between (next a) state after r → Answers tell before (sequence c next) state after r
behind-done tell before between after c a next state (Ok b) e walks = seen-then before c next ∙ ap (λ w. then w next) e ∙ walks
behind-done tell before between after c a next state (Err (Stop.Failed why line)) e walks = seen-then before c next ∙ ap (λ w. then w next) e ∙ walks
behind-done tell before between after c a next state (Err Stop.NoMemory) e walks = tt

behind-bad : {A B C D : Type 0} (told : C → D) (tell : A → B) (before after : View) (c : Computing (D × State)) (next : D × State → Computing (B × State)) (state : State) (e : Stop)
    → Answers told before c state after (Err e) → Answers tell before (sequence c next) state after (Err e)
behind-bad told tell before after c next state (Stop.Failed why line) walks = seen-then before c next ∙ ap (λ w. then w next) walks
behind-bad told tell before after c next state Stop.NoMemory walks = tt

-- an act behind another that ended well
pub walks-then : {A B C D : Type 0} {tell : A → B} {told : C → D} {state mid left : State} {before between after : View} {first : Callee → Act D} {a : C} {r : Result A Stop} (next : Callee → D → Act B)
    → Walks told state before first mid between (Ok a) → Walks tell mid between (λ call. next call (told a)) left after r
    → Walks tell state before (λ call. first call >>= next call) left after r
walks-then {tell = tell} {told = told} {state = state} {mid = mid} {left = left} {before = before} {between = between} {after = after} {first = first} {a = a} {r = r} next one more =
    record {
      answers = λ call.
          behind-done tell before between after (first call state) (told a, mid) (λ w. next call w.0 w.1) left r (one.answers call) (more.answers call);
    }

-- and behind one that ended badly
pub walks-bad : {A B C D : Type 0} {tell : A → B} {told : C → D} {state left : State} {before after : View} {first : Callee → Act D} {e : Stop} (next : Callee → D → Act B)
    → Walks told state before first left after (Err e) → Walks tell state before (λ call. first call >>= next call) left after (Err e)
walks-bad {tell = tell} {told = told} {state = state} {left = left} {before = before} {after = after} {first = first} {e = e} next one =
    record { answers = λ call. behind-bad told tell before after (first call state) (λ w. next call w.0 w.1) left e (one.answers call) }

-- an act that is another
pub walks-as : {A B : Type 0} {tell : A → B} {state left : State} {before after : View} {act other : Callee → Act B} {r : Result A Stop}
    → ((call : Callee) → act call ≡ other call) → Walks tell state before other left after r → Walks tell state before act left after r
walks-as {tell = tell} {state = state} {left = left} {before = before} {after = after} {r = r} same walks =
    record { answers = λ call. subst (λ c. Answers tell before (c state) left after r) (sym (same call)) (walks.answers call) }

-- ---- the same of acts that leave the block's entities

-- an act that gives its result
pub stays-just : {A B : Type 0} {tell : A → B} {own : Slots} {view : View} {act : Callee → Act B} (a : A) → ((call : Callee) → act call ≡ just (tell a))
    → Stays tell own view act view (Ok a)
stays-just {tell = tell} {own = own} {view = view} a is =
    record { each = λ turns. record { answers = λ call. ap (λ act. seen_over view (act (state_in own turns))) (is call) } }

-- one that is a fault
pub stays-wrong : {A B : Type 0} {tell : A → B} {own : Slots} {view : View} {act : Callee → Act B} (kind : FaultKind) (line : ℕ) → ((call : Callee) → act call ≡ wrong kind line)
    → Stays tell own view act view (Err (Stop.Failed (Why.Fault kind) line))
stays-wrong {own = own} {view = view} kind line is =
    record { each = λ turns. record { answers = λ call. ap (λ act. seen_over view (act (state_in own turns))) (is call) } }

pub stays-then : {A B C D : Type 0} {tell : A → B} {told : C → D} {own : Slots} {before between after : View} {first : Callee → Act D} {a : C} {r : Result A Stop} (next : Callee → D → Act B)
    → Stays told own before first between (Ok a) → Stays tell own between (λ call. next call (told a)) after r
    → Stays tell own before (λ call. first call >>= next call) after r
stays-then next one more = record { each = λ turns. walks-then next (one.each turns) (more.each turns) }

pub stays-bad : {A B C D : Type 0} {tell : A → B} {told : C → D} {own : Slots} {before after : View} {first : Callee → Act D} {e : Stop} (next : Callee → D → Act B)
    → Stays told own before first after (Err e) → Stays tell own before (λ call. first call >>= next call) after (Err e)
stays-bad next one = record { each = λ turns. walks-bad next (one.each turns) }

-- where memory was wanting
pub stays-none : {A B : Type 0} {tell : A → B} {own : Slots} {before after : View} {act : Callee → Act B} → Stays tell own before act after (Err Stop.NoMemory)
stays-none = record { each = λ turns. record { answers = λ call. tt } }

pub stays-as : {A B : Type 0} {tell : A → B} {own : Slots} {before after : View} {act other : Callee → Act B} {r : Result A Stop}
    → ((call : Callee) → act call ≡ other call) → Stays tell own before other after r → Stays tell own before act after r
stays-as same walks = record { each = λ turns. walks-as same (walks.each turns) }

-- what `?` hands on
pub handed : {A B : Type 0} {tell : A → B} {own : Slots} {before after : View} {act : Callee → Act B} (r : Result A Stop) (e : Stop) → IsErrAnd r (λ x. x ≡ e)
    → Stays tell own before act after (Err e) → Stays tell own before act after r
handed (Ok a) e h walks = absurd h
handed {tell = tell} {own = own} {before = before} {after = after} {act = act} (Err x) e h walks =
    subst (λ (y : Stop). Stays tell own before act after (Err y)) (sym h) walks

-- and of want of memory
pub wanting : {A B : Type 0} {tell : A → B} {own : Slots} {before after : View} {act : Callee → Act B} (r : Result A Stop) → IsErrAnd r (λ x. x ≡ Stop.NoMemory)
    → Stays tell own before act after r
wanting r h = handed r Stop.NoMemory h stays-none

-- ---- first this, then that, and then another

pub acts-then : {A B C : Type 0} (first : Act A) (second : A → Act B) (third : B → Act C) → ((first >>= second) >>= third) ≡ (first >>= (λ a. second a >>= third))
acts-then first second third = λ i state. sequence-then (first state) (λ w. second w.0 w.1) (λ w. third w.0 w.1) i
