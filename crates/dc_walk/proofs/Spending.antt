-- The laws of what the walker answers for acts that spend turns and tell how a block goes on.
use Rattle.std.proofs.Common.{◌≡◌, ℕ, refl, sym, ap, subst, ◌∙◌}
use Rattle.std.specs.Prelude.{Result, Ok, Err}
use Rattle.std.specs.Result.{IsErrAnd}
use Rattle.dc_code.specs.Computation.{done}
use Rattle.dc_code.specs.Troubles.{Slots}
use Rattle.dc_plain.specs.Views.{View}
use Rattle.dc_meaning.specs.declared.stop.Stop.{Stop}
use Rattle.dc_meaning.specs.Acts.{State, Act, ◌>>=◌, just}
use Rattle.dc_meaning.specs.Actions.{Flow, on}
use Rattle.dc_meaning.specs.Values.{Callee}
use Rattle.dc_meaning.specs.Walking.{state_in, Answers, Walks, Stays}
use Rattle.dc_meaning.proofs.Walking.{walks-then, walks-bad, walks-as}
use Rattle.dc_walk.specs.declared.flow.Flow as code
use Rattle.dc_walk.specs.Flows.{flow_of, Spends, Finishes}

-- ---- the same, told in another way

pub stays-told : {A B C : Type 0} {tell : A → B} {told : C → B} {own : Slots} {before after : View} {act : Callee → Act B} (a : A) (c : C) → tell a ≡ told c
    → Stays tell own before act after (Ok a) → Stays told own before act after (Ok c)
stays-told {own = own} {after = after} a c same one =
    record { each = λ turns. record { answers = λ call. (one.each turns).answers call ∙ ap (λ b. (after, done (b, state_in own turns))) same } }

failed-so : {A B C : Type 0} (tell : A → B) (told : C → B) (state mid left : State) (before after : View) (act : Callee → Act B) (e : Stop)
    → Walks tell state before act mid after (Err e) → Walks told state before act left after (Err e)
failed-so tell told state mid left before after act (Stop.Failed why line) one = record { answers = λ call. one.answers call }
failed-so tell told state mid left before after act Stop.NoMemory one = record { answers = λ call. tt }

-- an act that ends badly leaves no state that is told
failed : {A B C : Type 0} {tell : A → B} {told : C → B} {state mid left : State} {before after : View} {act : Callee → Act B} {e : Stop}
    → Walks tell state before act mid after (Err e) → Walks told state before act left after (Err e)
failed {tell = tell} {told = told} {state = state} {mid = mid} {left = left} {before = before} {after = after} {act = act} {e = e} one =
    failed-so tell told state mid left before after act e one

pub stays-failed : {A B C : Type 0} {tell : A → B} {told : C → B} {own : Slots} {before after : View} {act : Callee → Act B} {e : Stop}
    → Stays tell own before act after (Err e) → Stays told own before act after (Err e)
stays-failed one = record { each = λ turns. failed (one.each turns) }

-- ---- acts of a block

pub spends-stays : {own : Slots} {turns : ℕ} {before after : View} {act : Callee → Act Flow} {r : Result code.Flow Stop} → Stays flow_of own before act after r → Spends own turns before act turns after r
spends-stays {turns = turns} one = record { walks = one.each turns }

pub spends-as : {own : Slots} {turns left : ℕ} {before after : View} {act other : Callee → Act Flow} {r : Result code.Flow Stop}
    → ((call : Callee) → act call ≡ other call) → Spends own turns before other left after r → Spends own turns before act left after r
spends-as same spent = record { walks = walks-as same spent.walks }

-- an act that is another from this state
pub spends-at : {own : Slots} {turns left : ℕ} {before after : View} {act other : Callee → Act Flow} {r : Result code.Flow Stop}
    → ((call : Callee) → act call (state_in own turns) ≡ other call (state_in own turns)) → Spends own turns before other left after r → Spends own turns before act left after r
spends-at {own = own} {left = left} {before = before} {after = after} {r = r} same spent =
    record { walks = record { answers = λ call. subst (λ c. Answers flow_of before c (state_in own left) after r) (sym (same call)) (spent.walks.answers call) } }

-- behind an act that spends none
pub spends-behind : {C D : Type 0} {told : C → D} {own : Slots} {turns left : ℕ} {before between after : View} {first : Callee → Act D} {a : C} {r : Result code.Flow Stop} (next : Callee → D → Act Flow)
    → Stays told own before first between (Ok a) → Spends own turns between (λ call. next call (told a)) left after r → Spends own turns before (λ call. first call >>= next call) left after r
spends-behind {turns = turns} next one more = record { walks = walks-then next (one.each turns) more.walks }

pub spends-bad : {C D : Type 0} {told : C → D} {own : Slots} {turns left : ℕ} {before after : View} {first : Callee → Act D} {e : Stop} (next : Callee → D → Act Flow)
    → Stays told own before first after (Err e) → Spends own turns before (λ call. first call >>= next call) left after (Err e)
spends-bad {turns = turns} next one = record { walks = failed {tell = flow_of} (walks-bad next (one.each turns)) }

-- behind an act that spends some
pub spends-then : {own : Slots} {turns mid left : ℕ} {before between after : View} {first : Callee → Act Flow} {flow : code.Flow} {r : Result code.Flow Stop} (next : Callee → Flow → Act Flow)
    → Spends own turns before first mid between (Ok flow) → Spends own mid between (λ call. next call (flow_of flow)) left after r → Spends own turns before (λ call. first call >>= next call) left after r
spends-then next one more = record { walks = walks-then next one.walks more.walks }

pub spends-stopped : {own : Slots} {turns mid left : ℕ} {before after : View} {first : Callee → Act Flow} {e : Stop} (next : Callee → Flow → Act Flow)
    → Spends own turns before first mid after (Err e) → Spends own turns before (λ call. first call >>= next call) left after (Err e)
spends-stopped next one = record { walks = failed {tell = flow_of} (walks-bad next one.walks) }

-- behind a turn
pub spends-turn : {own : Slots} {turns mid left : ℕ} {before after : View} {first : Callee → Act (Unit {0})} {r : Result code.Flow Stop} (next : Callee → Act Flow)
    → Walks (λ (u : Unit {0}). u) (state_in own turns) before first (state_in own mid) before (Ok tt) → Spends own mid before next left after r
    → Spends own turns before (λ call. first call >>= (λ u. next call)) left after r
spends-turn next one more = record { walks = walks-then (λ call u. next call) one more.walks }

pub spends-none_left : {own : Slots} {turns mid left : ℕ} {before : View} {first : Callee → Act (Unit {0})} {e : Stop} (next : Callee → Act Flow)
    → Walks (λ (u : Unit {0}). u) (state_in own turns) before first (state_in own mid) before (Err e)
    → Spends own turns before (λ call. first call >>= (λ u. next call)) left before (Err e)
spends-none_left next one = record { walks = failed {tell = flow_of} (walks-bad (λ call u. next call) one) }

-- a block, wherever it goes on
pub finishes-well : {own : Slots} {turns left : ℕ} {before after : View} {act : Callee → Act Flow} (flow : code.Flow) → Spends own turns before act left after (Ok flow) → Finishes own turns before act after (Ok tt)
finishes-well {left = left} flow spent = record { flow = flow_of flow; left = left; walks = record { answers = λ call. spent.walks.answers call } }

pub finishes-badly : {own : Slots} {turns left : ℕ} {before after : View} {act : Callee → Act Flow} (r : Result (Unit {0}) Stop) (e : Stop) → IsErrAnd r (λ x. x ≡ e)
    → Spends own turns before act left after (Err e) → Finishes own turns before act after r
finishes-badly (Ok a) e h spent = absurd h
finishes-badly {own = own} {turns = turns} {left = left} {before = before} {after = after} {act = act} (Err x) e h spent =
    subst (λ (y : Stop). Finishes own turns before act after (Err y)) (sym h) (record { flow = on; left = left; walks = failed {told = λ done. on} spent.walks })

-- what gives its flow
pub spends-just : {own : Slots} {turns : ℕ} {view : View} {act : Callee → Act Flow} (flow : code.Flow) → ((call : Callee) → act call ≡ just (flow_of flow)) → Spends own turns view act turns view (Ok flow)
spends-just {own = own} {turns = turns} {view = view} flow is = spends-as is (record { walks = record { answers = λ call. refl } })

-- ---- what `?` hands on

pub spends-none : {own : Slots} {turns left : ℕ} {before after : View} {act : Callee → Act Flow} → Spends own turns before act left after (Err Stop.NoMemory)
spends-none = record { walks = record { answers = λ call. tt } }

pub spends-handed : {own : Slots} {turns left : ℕ} {before after : View} {act : Callee → Act Flow} (r : Result code.Flow Stop) (e : Stop) → IsErrAnd r (λ x. x ≡ e)
    → Spends own turns before act left after (Err e) → Spends own turns before act left after r
spends-handed (Ok a) e h spent = absurd h
spends-handed {own = own} {turns = turns} {left = left} {before = before} {after = after} {act = act} (Err x) e h spent =
    subst (λ (y : Stop). Spends own turns before act left after (Err y)) (sym h) spent
