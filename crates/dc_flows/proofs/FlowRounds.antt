-- What follows a round of a loop, and rounds while a test holds.
use Rattle.std.proofs.Common.{◌≡◌, ◌<◌, ◌≤◌, ℕ, zero, suc, ◌+◌, Bool, true, false, cond, List, [], ◌∷◌, ◌++◌, length, Option, Some, None, refl, sym, ap, ◌∙◌, subst, arith}
use Rattle.std.proofs.lemmas.Option.{none-some, same_Some}
use Rattle.std.specs.Prelude.{ℤ, pos, option_map}
use Rattle.dc_int.specs.Reductions.{truth}
use Rattle.dc_code.specs.declared.frame.Item.{Item}
use Rattle.dc_code.specs.declared.instr.What.{What}
use Rattle.dc_code.specs.declared.plan.Group.{Group}
use Rattle.dc_code.specs.Codes.{CodeLists}
use Rattle.dc_code.specs.Computation.{sequence}
use Rattle.dc_code.specs.Frames.{Frame, pushed}
use Rattle.dc_code.specs.Instructions.{Going, spent}
use Rattle.dc_code.specs.Troubles.{Computing}
use Rattle.dc_code.proofs.Sequences.{sequence-then}
use Rattle.dc_tree.specs.Entities.{Scope}
use Rattle.dc_tree.specs.Statements.{Name}
use Rattle.dc_tree.specs.Syntax.{Tree}
use Rattle.dc_meaning.specs.Actions.{Flow, on, returns, cycles, exits, ◌>>◌}
use Rattle.dc_meaning.specs.Acts as acts
use Rattle.dc_meaning.specs.Acts.{State, Act, ◌>>=◌, just, spend}
use Rattle.dc_meaning.specs.Execution.{belongs, behind_round, while_rounds}
use Rattle.dc_meaning.specs.Values.{Callee, value}
use Rattle.dc_actions.specs.Expressions.{value_code, is_usable}
use Rattle.dc_actions.specs.Placed.{StandAt, HaveNames, Alike}
use Rattle.dc_actions.proofs.Kept.{same-alike, alike-then}
use Rattle.dc_actions.proofs.Placing.{stand-left, stand-right, stand-rest, stepped}
use Rattle.dc_flows.specs.Flows.{LoopAround, loop_named, test_code}
use Rattle.dc_flows.specs.FlowsLowered.{place_of, greatest_turns}
use Rattle.dc_flows.proofs.FlowGoing.{FlowsAs, flows-go, false-law}
use Rattle.dc_flows.proofs.FlowRuns.{turned, StandsAlways, Later, Behind, From, Runs, alike-from, stands-alike, test-law}

-- A turn is spent, and then the run goes on.
pub spent-law : {B : Type 0} (frames : List acts.Frame) (line turns : ℕ) (go : ℕ → Computing B) (meant : Act Flow) (K : Flow × State → Computing B)
    → ((left : ℕ) → turns ≡ suc left → go left ≡ sequence (meant (turned frames left)) K)
    → sequence (spent line turns) go ≡ sequence ((spend line >> meant) (turned frames turns)) K
spent-law frames line zero go meant K later = refl
spent-law frames line (suc left) go meant K later = later left refl

module _ (go : Going) (frames : List acts.Frame) (around : List LoopAround) (inner : LoopAround) (low free : ℕ) (less : low ≤ free) (frame : Frame) (turns : ℕ) (after : Act Flow) (K : Later)
    (goes-on : (left : Frame) (fewer : ℕ) → Alike free frame left → fewer ≤ turns → go inner.next left fewer ≡ sequence (after (turned frames fewer)) K)
    (behind : Behind go frames around inner.behind low frame turns K) where
  -- Behind a round the loop goes on or is left, or a loop around is.
  pub round-behind : Behind go frames (inner ∷ around) inner.next free frame turns (λ w. sequence (behind_round inner.label after w.0 w.1) K)
  round-behind on place left fewer is alike few = ap (λ p. go p left fewer) (sym (same_Some inner.next place is)) ∙ goes-on left fewer alike few
  round-behind returns place left fewer is alike few = absurd (none-some place is)
  round-behind (cycles given) place left fewer is alike few = by (belongs inner.label given) is
    where
      by : (b : Bool) → option_map (λ found. found.next) (cond b (Some inner) (loop_named around given)) ≡ Some place
          → go place left fewer ≡ sequence (cond b after (just (cycles given)) (turned frames fewer)) K
      by true same = ap (λ p. go p left fewer) (sym (same_Some inner.next place same)) ∙ goes-on left fewer alike few
      by false same = behind (cycles given) place left fewer same (alike-from less alike) few
  round-behind (exits given) place left fewer is alike few = by (belongs inner.label given) is
    where
      by : (b : Bool) → option_map (λ found. found.behind) (cond b (Some inner) (loop_named around given)) ≡ Some place
          → go place left fewer ≡ K (cond b on (exits given), turned frames fewer)
      by true same = ap (λ p. go p left fewer) (sym (same_Some inner.behind place same)) ∙ behind on inner.behind left fewer refl (alike-from less alike) few
      by false same = behind (exits given) place left fewer same (alike-from less alike) few

-- ---- rounds while a test holds

-- From the place of a test the run goes on at a place where it holds, and at another where it doesn't.
abbrev pub Tests : CodeLists → Going → Scope → List acts.Frame → (line : ℕ) → List What → Act ℤ → Type 0
Tests code go scope frames line test tests =
    (at start place : ℕ) (frame : Frame) (turns : ℕ) → HaveNames code scope frame (turned frames turns)
    → StandAt code line at (test_code test place) → start ≡ at + (length test + 1) → start ≤ place
    → (K : ℤ × State → Computing (Frame × ℕ))
    → ((z : ℤ) → cond (truth z) (go start frame turns) (go place frame turns) ≡ K (z, turned frames turns))
    → go at frame turns ≡ sequence (tests (turned frames turns)) K

pub value-tests : {code : CodeLists} {go : Going} (flows : FlowsAs code go) (scope : Scope) (call : Callee) (frames : List acts.Frame) (line : ℕ) (tree : Tree) → is_usable scope tree ≡ true
    → Tests code go scope frames line (value_code scope tree) (value scope call line tree)
value-tests flows scope call frames line tree usable at start place frame turns names stand begins ahead K chosen =
    test-law flows scope call frames line at start place tree frame turns names stand usable begins ahead K chosen

-- The test of a DO with nothing behind it holds.
pub true-tests : {code : CodeLists} {go : Going} (flows : FlowsAs code go) (scope : Scope) (frames : List acts.Frame) (line : ℕ) → Tests code go scope frames line (What.Truth true ∷ []) (just (pos 1))
true-tests {code} {go} flows scope frames line at start place frame turns names stand begins ahead K chosen =
    stepped (flows-go flows) at (What.Truth true) (What.JumpFalse place ∷ []) frame turns stand refl
    ∙ false-law flows (suc at) [] place frame turns (pos 1) (stand-rest at (What.Truth true) (What.JumpFalse place ∷ []) stand) before
    ∙ ap (λ next. go next frame turns) there ∙ chosen (pos 1)
  where
    before : suc at < place
    before = omega (arith, begins, ahead)

    there : suc at + 1 ≡ start
    there = omega (arith, begins)

-- A place where a test stands, and behind it the way to the beginning of a round, which spends a turn.
pub record RoundAt (code : CodeLists) (go : Going) (line : ℕ) (test : List What) (begins behind at : ℕ) : Type 0 where
  pub test_stands : StandAt code line at (test_code test behind)
  pub ahead : at + (length test + 1) ≤ behind
  pub turns : (frame : Frame) (turns : ℕ) → go (at + (length test + 1)) frame turns ≡ sequence (spent line turns) (λ left. go begins frame left)

module _ (code : CodeLists) (go : Going) (scope : Scope) (frames : List acts.Frame) (around : List LoopAround) (inner : LoopAround) (line begins free : ℕ) (groups : List Group) (test : List What) (tests : Act ℤ)
    (test_law : Tests code go scope frames line test tests) (body : Act Flow) (runs : Runs code go scope frames (inner ∷ around) begins inner.next free groups body)
    (again : RoundAt code go line test begins inner.behind inner.next) where
  abbrev rounds : ℕ → Act Flow
  rounds most = while_rounds most line inner.label tests body

  -- One test, and what follows it.
  one-law : (most at : ℕ) → RoundAt code go line test begins inner.behind at → (frame : Frame) (turns : ℕ) → StandsAlways code scope frames frame free groups → turns ≤ greatest_turns
      → (K : Later) → Behind go frames around inner.behind free frame turns K
      → ((left : ℕ) → turns ≡ suc left → (next : Frame) (fewer : ℕ) → Alike free frame next → fewer ≤ left → go inner.next next fewer ≡ sequence (rounds most (turned frames fewer)) K)
      → go at frame turns ≡ sequence (rounds (suc most) (turned frames turns)) K
  one-law most at here frame turns stands small K behind further =
      test_law at (at + (length test + 1)) inner.behind frame turns (stands turns).names here.test_stands refl here.ahead (λ w. sequence (cond (truth w.0) round (just on) w.1) K) (λ z. chosen (truth z))
      ∙ sym (sequence-then (tests (turned frames turns)) (λ w. cond (truth w.0) round (just on) w.1) K)
    where
      round : Act Flow
      round = spend line >> (body >>= behind_round inner.label (rounds most))

      one-round : (left : ℕ) → turns ≡ suc left → go begins frame left ≡ sequence ((body >>= behind_round inner.label (rounds most)) (turned frames left)) K
      one-round left is =
          runs frame left stands (omega (arith, is, small)) (λ w. sequence (behind_round inner.label (rounds most) w.0 w.1) K)
          (round-behind go frames around inner free free (omega arith) frame left (rounds most) K (further left is)
          (λ flow place other least goes same fewest. behind flow place other least goes same (omega (arith, is, fewest))))
          ∙ sym (sequence-then (body (turned frames left)) (λ w. behind_round inner.label (rounds most) w.0 w.1) K)

      chosen : (b : Bool) → cond b (go (at + (length test + 1)) frame turns) (go inner.behind frame turns) ≡ sequence (cond b round (just on) (turned frames turns)) K
      chosen true = here.turns frame turns ∙ spent-law frames line turns (λ left. go begins frame left) (body >>= behind_round inner.label (rounds most)) K one-round
      chosen false = behind on inner.behind frame turns refl (same-alike free frame) (omega arith)

  -- Each round spends a turn, so that they end before there are too many.
  pub while-law : (most at : ℕ) → RoundAt code go line test begins inner.behind at → (frame : Frame) (turns : ℕ) → StandsAlways code scope frames frame free groups → turns ≤ greatest_turns
      → turns < most → From go frames around at inner.behind free frame turns (rounds most)
  while-law zero at here frame turns stands small few K behind = absurd (none few)
    where
      none : turns < 0 → ⊥
      none less = omega (arith, less)
  while-law (suc most) at here frame turns stands small few K behind =
      one-law most at here frame turns stands small K behind
      (λ left is next fewer alike less. while-law most inner.next again next fewer (stands-alike alike stands) (omega (arith, is, less, small)) (omega (arith, is, less, few)) K
      (λ flow place other least goes same fewest. behind flow place other least goes (alike-then alike same) (omega (arith, is, less, fewest))))
