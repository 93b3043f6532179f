-- The rounds of loops.
use Rattle.std.proofs.Common.{◌≡◌, ℕ, suc, ◌+◌, ◌-◌, ◌<◌, ◌≤◌, Bool, true, false, Option, Some, None, refl, sym, ap, ◌∙◌, arith}
use Rattle.std.specs.Prelude.{Result, Ok, Err, if◌then◌else◌}
use Rattle.dc_int.specs.Sorts.{whole}
use Rattle.dc_code.specs.declared.frame.Place.{Place}
use Rattle.dc_code.specs.Combinations.{Span, value_count}
use Rattle.dc_code.specs.Troubles.{Slots}
use Rattle.dc_plain.specs.Views.{View}
use Rattle.dc_tree.specs.Entities.{Entity, Scope}
use Rattle.dc_tree.specs.Statements.{Name, Ranging}
use Rattle.dc_tree.specs.Syntax.{Tree}
use Rattle.dc_meaning.specs.declared.stop.Stop.{Stop}
use Rattle.dc_meaning.specs.Acts.{Act, ◌>>=◌, just, spend, store}
use Rattle.dc_meaning.specs.Actions.{Flow, on, ◌>>◌}
use Rattle.dc_meaning.specs.Execution.{span_of, behind_round, stepped, counted_rounds, counted_do, while_rounds, while_do}
use Rattle.dc_meaning.specs.Values.{Callee}
use Rattle.dc_meaning.specs.Walking.{state_in, Walks, Stays}
use Rattle.dc_walk.specs.declared.counting.Scalar.{Scalar}
use Rattle.dc_walk.specs.declared.flow.Flow as code
use Rattle.dc_walk.specs.Arms.{tested}
use Rattle.dc_walk.specs.Counting.{scalar_entity, scalar_element}
use Rattle.dc_walk.specs.Flows.{flow_of, leaving, Spends}
use Rattle.dc_walk.specs.Rounds.{test_value}
use Rattle.dc_walk.proofs.Spending.{spends-as, spends-at, spends-behind, spends-bad, spends-then, spends-stopped, spends-turn, spends-none_left, spends-just}
use Rattle.dc_walk.proofs.Taking.{tested-then}

-- ---- one round: its turn, the block, and what follows

-- A turn was spent at a line.
pub record IsSpent (own : Slots) (turns mid line : ℕ) (view : View) (r : Result (Unit {0}) Stop) : Type 0 where
  pub walks : Walks (λ (done : Unit {0}). done) (state_in own turns) view (λ call. spend line) (state_in own mid) view r

module _ (line : ℕ) (label : Option Name) (body next : Callee → Act Flow) where
  abbrev behind-turn : Callee → Act Flow
  behind-turn call = body call >>= behind_round label (next call)

  abbrev pub round : Callee → Act Flow
  round call = spend line >> behind-turn call

  pub round-unspent : {own : Slots} {turns mid left : ℕ} {view : View} {e : Stop} → IsSpent own turns mid line view (Err e) → Spends own turns view round left view (Err e)
  round-unspent spent = spends-none_left behind-turn spent.walks

  module _ {own : Slots} {turns mid left : ℕ} {view after : View} where
    module _ (spent : IsSpent own turns mid line view (Ok tt)) where
      pub round-bad : {later : ℕ} {e : Stop} → Spends own mid view body later after (Err e) → Spends own turns view round left after (Err e)
      round-bad one = spends-turn behind-turn spent.walks (spends-stopped (λ call. behind_round label (next call)) one)

      -- the loop is left
      pub round-left : (flow : code.Flow) (found : Option code.Flow) (end : code.Flow) → ((other : Act Flow) → behind_round label other (flow_of flow) ≡ leaving other found) → found ≡ Some end
          → Spends own mid view body left after (Ok flow) → Spends own turns view round left after (Ok end)
      round-left flow found end behind is one =
          spends-turn behind-turn spent.walks
          (spends-then (λ call. behind_round label (next call)) one (spends-just end (λ call. behind (next call) ∙ ap (leaving (next call)) is)))

      -- the loop goes on
      pub round-on : {between : View} {later : ℕ} {r : Result code.Flow Stop} (flow : code.Flow) (found : Option code.Flow)
          → ((other : Act Flow) → behind_round label other (flow_of flow) ≡ leaving other found) → found ≡ None
          → Spends own mid view body later between (Ok flow) → Spends own later between next left after r → Spends own turns view round left after r
      round-on flow found behind is one rest =
          spends-turn behind-turn spent.walks
          (spends-then (λ call. behind_round label (next call)) one (spends-as (λ call. behind (next call) ∙ ap (leaving (next call)) is) rest))

-- ---- while a test holds

module _ (scope : Scope) (line : ℕ) (label : Option Name) (test : Option Tree) (body : Callee → Act Flow) where
  abbrev pub rounds : ℕ → Callee → Act Flow
  rounds most call = while_rounds most line label (test_value scope call line test) (body call)

  abbrev round-if : ℕ → Callee → Bool → Act Flow
  round-if most call holds = if holds then round line label body (rounds most) call else just on

  tested-rounds : (most : ℕ) (call : Callee) (given : Option Tree)
      → while_rounds (suc most) line label (test_value scope call line given) (body call)
      ≡ (tested scope call line given >>= (λ holds. if holds then (spend line >> (body call >>= behind_round label (while_rounds most line label (test_value scope call line given) (body call)))) else just on))
  tested-rounds most call None = refl
  tested-rounds most call (Some tree) =
      tested-then scope call line tree
      (λ holds. if holds then (spend line >> (body call >>= behind_round label (while_rounds most line label (test_value scope call line (Some tree)) (body call)))) else just on)

  next-round : (end counter : ℕ) → counter < end → (call : Callee) → rounds (end - counter) call ≡ (tested scope call line test >>= round-if (end - (counter + 1)) call)
  next-round end counter below call =
      let same : end - counter ≡ suc (end - (counter + 1)) = omega (arith, below) in
      ap (λ n. rounds n call) same ∙ tested-rounds (end - (counter + 1)) call test

  module _ (end counter : ℕ) (below : counter < end) {own : Slots} {turns : ℕ} {view : View} where
    pub while-bad : {left : ℕ} {after : View} {e : Stop} → Stays (λ is. is) own view (λ call. tested scope call line test) after (Err e) → Spends own turns view (rounds (end - counter)) left after (Err e)
    while-bad one = spends-as (next-round end counter below) (spends-bad (round-if (end - (counter + 1))) one)

    pub while-over : {between : View} (holds : Bool) → holds ≡ false → Stays (λ is. is) own view (λ call. tested scope call line test) between (Ok holds) → Spends own turns view (rounds (end - counter)) turns between (Ok code.Flow.On)
    while-over holds is one =
        spends-as (next-round end counter below) (spends-behind (round-if (end - (counter + 1))) one (spends-just code.Flow.On (λ call. ap (round-if (end - (counter + 1)) call) is)))

    pub while-on : {left : ℕ} {between after : View} {r : Result code.Flow Stop} (holds : Bool) → holds ≡ true → Stays (λ is. is) own view (λ call. tested scope call line test) between (Ok holds)
        → Spends own turns between (round line label body (rounds (end - (counter + 1)))) left after r → Spends own turns view (rounds (end - counter)) left after r
    while-on holds is one rest =
        spends-as (next-round end counter below) (spends-behind (round-if (end - (counter + 1))) one (spends-as (λ call. ap (round-if (end - (counter + 1)) call) is) rest))

  pub while-none : (end counter : ℕ) → end ≤ counter → {own : Slots} {turns : ℕ} {view : View} → Spends own turns view (rounds (end - counter)) turns view (Ok code.Flow.On)
  while-none end counter past =
      let none : end - counter ≡ 0 = omega (arith, past) in
      spends-just code.Flow.On (λ call. ap (λ n. rounds n call) none)

  -- There are no more rounds than turns, and the test may be once more.
  pub while-all : {own : Slots} {turns left : ℕ} {view after : View} {r : Result code.Flow Stop} (end : ℕ) → end ≡ suc turns
      → Spends own turns view (rounds (end - 0)) left after r → Spends own turns view (λ call. while_do line label (test_value scope call line test) (body call)) left after r
  while-all {own = own} {turns = turns} end is rest =
      let same : suc turns ≡ end - 0 = omega (arith, is) in
      spends-at (λ call. ap (λ n. rounds n call (state_in own turns)) same) rest

-- ---- for each value of a variable

module _ (line : ℕ) (label : Option Name) (step : Act (Unit {0})) (body : Callee → Act Flow) where
  abbrev pub counts : ℕ → Callee → Act Flow
  counts count call = counted_rounds line label step (body call) count

  abbrev pub behind-step : ℕ → Callee → Act Flow
  behind-step count call = step >> counts count call

  next-count : (end counter : ℕ) → counter < end → (call : Callee) → counts (end - counter) call ≡ round line label body (behind-step (end - (counter + 1))) call
  next-count end counter below call =
      let same : end - counter ≡ suc (end - (counter + 1)) = omega (arith, below) in
      ap (λ n. counts n call) same

  pub count-next : (end counter : ℕ) → counter < end → {own : Slots} {turns left : ℕ} {view after : View} {r : Result code.Flow Stop}
      → Spends own turns view (round line label body (behind-step (end - (counter + 1)))) left after r → Spends own turns view (counts (end - counter)) left after r
  count-next end counter below rest = spends-as (next-count end counter below) rest

  pub step-bad : (count : ℕ) {own : Slots} {turns left : ℕ} {view after : View} {e : Stop} → Stays (λ (done : Unit {0}). done) own view (λ call. step) after (Err e)
      → Spends own turns view (behind-step count) left after (Err e)
  step-bad count one = spends-bad (λ call done. counts count call) one

  pub step-on : (count : ℕ) {own : Slots} {turns left : ℕ} {view between after : View} {r : Result code.Flow Stop} → Stays (λ (done : Unit {0}). done) own view (λ call. step) between (Ok tt)
      → Spends own turns between (counts count) left after r → Spends own turns view (behind-step count) left after r
  step-on count one rest = spends-behind (λ call done. counts count call) one rest

  pub count-none : (end counter : ℕ) → end ≤ counter → {own : Slots} {turns : ℕ} {view : View} → Spends own turns view (counts (end - counter)) turns view (Ok code.Flow.On)
  count-none end counter past =
      let none : end - counter ≡ 0 = omega (arith, past) in
      spends-just code.Flow.On (λ call. ap (λ n. counts n call) none)

-- ---- a counted DO

module _ (scope : Scope) (line : ℕ) (label : Option Name) (ranging : Ranging) (scalar : Scalar) (body : Callee → Act Flow) where
  abbrev pub place : Place
  place = Place.Outer (scalar_element scalar)

  abbrev pub behind-first : Span → Callee → Act Flow
  behind-first span call = counted_rounds line label (stepped line place (whole scalar.kind) span.step) (body call) (value_count span)

  abbrev pub behind-limits : Callee → Span → Act Flow
  behind-limits call span = store line place span.first >> behind-first span call

  pub counted-is : (variable : Entity) → scalar_entity scalar ≡ variable → (call : Callee)
      → counted_do scope call line label ranging variable (body call) ≡ (span_of scope call line (whole scalar.kind) ranging >>= behind-limits call)
  counted-is variable is call = ap (λ e. counted_do scope call line label ranging e (body call)) (sym is)
