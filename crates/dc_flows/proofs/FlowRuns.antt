-- Runs of pieces of code, that go on behind them by how they are left.
use Rattle.std.proofs.Common.{◌≡◌, ◌<◌, ◌≤◌, ℕ, suc, ◌+◌, Bool, true, false, cond, List, [], ◌∷◌, ◌++◌, length, Some, refl, sym, ap, ◌∙◌, subst, arith}
use Rattle.std.proofs.lemmas.Option.{none-some, same_Some}
use Rattle.std.specs.Prelude.{ℤ}
use Rattle.dc_int.specs.Reductions.{truth}
use Rattle.dc_code.specs.declared.instr.What.{What}
use Rattle.dc_code.specs.declared.plan.Group.{Group}
use Rattle.dc_code.specs.Codes.{CodeLists}
use Rattle.dc_code.specs.Computation.{sequence}
use Rattle.dc_code.specs.Frames.{Frame}
use Rattle.dc_code.specs.Instructions.{Going}
use Rattle.dc_code.specs.Troubles.{Computing}
use Rattle.dc_code.proofs.Sequences.{sequence-then}
use Rattle.dc_tree.specs.Entities.{Scope}
use Rattle.dc_tree.specs.Syntax.{Tree}
use Rattle.dc_meaning.specs.Actions.{Flow, on, returns, cycles, exits}
use Rattle.dc_meaning.specs.Acts as acts
use Rattle.dc_meaning.specs.Acts.{State, Act, ◌>>=◌, just}
use Rattle.dc_meaning.specs.Execution.{behind_item}
use Rattle.dc_meaning.specs.Values.{Callee, value}
use Rattle.dc_actions.specs.Expressions.{value_code, is_usable}
use Rattle.dc_actions.specs.Placed.{StandAt, HaveNames, Alike}
use Rattle.dc_actions.proofs.DeedLaws.{Stands, kept-left, kept-right}
use Rattle.dc_actions.proofs.Expressions.{value-law}
use Rattle.dc_actions.proofs.Kept.{same-alike, alike-then, alike-names, alike-kept, alike-lineless}
use Rattle.dc_actions.proofs.Placing.{stand-left, stand-right}
use Rattle.dc_flows.specs.Flows.{LoopAround, test_code}
use Rattle.dc_flows.specs.FlowsLowered.{place_of, greatest_turns}
use Rattle.dc_flows.proofs.FlowGoing.{FlowsAs, flows-go, jump-law, false-law}

-- ---- frames and states

-- The state with these frames, and so many turns left.
abbrev pub turned : List acts.Frame → ℕ → State
turned frames turns = record { frames = frames; turns = turns }

pub turned-names : {code : CodeLists} {scope : Scope} {frame : Frame} {frames : List acts.Frame} (turns other : ℕ)
    → HaveNames code scope frame (turned frames turns) → HaveNames code scope frame (turned frames other)
turned-names turns other names = record {
  outer = names.outer;
  inner = λ text group sort bounds e. let g = names.inner text group sort bounds e in record { planned = g.planned; plan = g.plan; bounds = g.bounds; sorted = g.sorted; same = g.same; all = g.all };
  truths = names.truths;
}

-- What a piece needs of a frame, however many turns are left.
abbrev pub StandsAlways : CodeLists → Scope → List acts.Frame → Frame → ℕ → List Group → Type 0
StandsAlways code scope frames frame free groups = (turns : ℕ) → Stands code scope frame (turned frames turns) free groups

pub alike-from : {low high : ℕ} {one other : Frame} → low ≤ high → Alike high one other → Alike low one other
alike-from {low} {high} less alike = record {
  stack = alike.stack;
  line = alike.line;
  begun = alike.begun;
  plan = alike.plan;
  slots = λ group below. alike.slots group (omega (arith, less, below));
  sizes = alike.sizes;
}

pub stands-left : {code : CodeLists} {scope : Scope} {frame : Frame} {frames : List acts.Frame} {free : ℕ} (first second : List Group)
    → StandsAlways code scope frames frame free (first ++ second) → StandsAlways code scope frames frame free first
stands-left first second stands turns = let all = stands turns in record { names = all.names; kept = kept-left first second all.kept; start = all.start }

pub stands-right : {code : CodeLists} {scope : Scope} {frame : Frame} {frames : List acts.Frame} (free : ℕ) (first second : List Group)
    → StandsAlways code scope frames frame free (first ++ second) → StandsAlways code scope frames frame (free + length first) second
stands-right free first second stands turns = let all = stands turns in record { names = all.names; kept = kept-right free first second all.kept; start = all.start }

pub stands-alike : {code : CodeLists} {scope : Scope} {one other : Frame} {frames : List acts.Frame} {free : ℕ} {groups : List Group} → Alike free one other
    → StandsAlways code scope frames one free groups → StandsAlways code scope frames other free groups
stands-alike alike stands turns =
    let all = stands turns in record { names = alike-names alike all.kept.apart all.names; kept = alike-kept alike all.kept; start = alike-lineless alike all.start }

-- ---- pieces

-- What follows a piece.
abbrev pub Later : Type 0
Later = Flow × State → Computing (Frame × ℕ)

-- Behind a piece that ends at a place the run goes on where the flow goes, with a frame that may differ in the groups
-- from a number on, and with no more turns.
abbrev pub Behind : Going → List acts.Frame → List LoopAround → (end free : ℕ) → Frame → (most : ℕ) → Later → Type 0
Behind go frames around end free frame most K =
    (flow : Flow) (place : ℕ) (left : Frame) (turns : ℕ) → place_of end around flow ≡ Some place → Alike free frame left → turns ≤ most
    → go place left turns ≡ K (flow, turned frames turns)

-- From one place to another the run does what is meant, with this frame and so many turns.
abbrev pub From : Going → List acts.Frame → List LoopAround → (at end free : ℕ) → Frame → (turns : ℕ) → Act Flow → Type 0
From go frames around at end free frame turns meant =
    (K : Later) → Behind go frames around end free frame turns K → go at frame turns ≡ sequence (meant (turned frames turns)) K

-- The same with each frame that has these groups, from a number on.
abbrev pub Runs : CodeLists → Going → Scope → List acts.Frame → List LoopAround → (at end free : ℕ) → List Group → Act Flow → Type 0
Runs code go scope frames around at end free groups meant =
    (frame : Frame) (turns : ℕ) → StandsAlways code scope frames frame free groups → turns ≤ greatest_turns → From go frames around at end free frame turns meant

module _ (go : Going) (frames : List acts.Frame) (around : List LoopAround) where
  -- Nothing is done.
  pub from-none : (at free : ℕ) (frame : Frame) (turns : ℕ) → From go frames around at at free frame turns (just on)
  from-none at free frame turns K behind = behind on at frame turns refl (same-alike free frame) (omega arith)

  -- Frames may differ in more groups.
  pub from-lower : (at end low high : ℕ) (frame : Frame) (turns : ℕ) (meant : Act Flow) → low ≤ high
      → From go frames around at end high frame turns meant → From go frames around at end low frame turns meant
  from-lower at end low high frame turns meant less from K behind = from K (λ flow place left turns is alike fewer. behind flow place left turns is (alike-from less alike) fewer)

  -- Behind a piece stands a jump over what follows it.
  pub from-jumped : {code : CodeLists} {line : ℕ} (flows : FlowsAs code go) (at mid end free : ℕ) (frame : Frame) (turns : ℕ) (meant : Act Flow) (rest : List What)
      → From go frames around at mid free frame turns meant → StandAt code line mid (What.Jump end ∷ rest) → mid < end → From go frames around at end free frame turns meant
  from-jumped flows at mid end free frame turns meant rest from stand ahead K behind = from K between
    where
      between : Behind go frames around mid free frame turns K
      between on place left fewer is alike less =
          ap (λ p. go p left fewer) (sym (same_Some mid place is)) ∙ jump-law flows mid rest end left fewer stand ahead ∙ behind on end left fewer refl alike less
      between returns place left fewer is alike less = absurd (none-some place is)
      between (cycles given) place left fewer is alike less = behind (cycles given) place left fewer is alike less
      between (exits given) place left fewer is alike less = behind (exits given) place left fewer is alike less

module _ (code : CodeLists) (go : Going) (scope : Scope) (frames : List acts.Frame) (around : List LoopAround) where
  -- One piece behind another.
  pub runs-then : (at mid end free : ℕ) (first second : List Group) (one rest : Act Flow)
      → Runs code go scope frames around at mid free first one → Runs code go scope frames around mid end (free + length first) second rest
      → Runs code go scope frames around at end free (first ++ second) (one >>= behind_item rest)
  runs-then at mid end free first second one rest runs later frame turns stands small K behind =
      runs frame turns (stands-left first second stands) small (λ w. sequence (behind_item rest w.0 w.1) K) between
      ∙ sym (sequence-then (one (turned frames turns)) (λ w. behind_item rest w.0 w.1) K)
    where
      further : (left : Frame) (fewer : ℕ) → Alike free frame left → fewer ≤ turns → Behind go frames around end (free + length first) left fewer K
      further left fewer alike less flow place other least is same few =
          behind flow place other least is (alike-then alike (alike-from {low = free} {high = free + length first} (omega arith) same)) (omega (arith, less, few))

      between : Behind go frames around mid free frame turns (λ w. sequence (behind_item rest w.0 w.1) K)
      between on place left fewer is alike less =
          ap (λ p. go p left fewer) (sym (same_Some mid place is))
          ∙ later left fewer (stands-right free first second (stands-alike alike stands)) (omega (arith, less, small)) K (further left fewer alike less)
      between returns place left fewer is alike less = absurd (none-some place is)
      between (cycles given) place left fewer is alike less = behind (cycles given) place left fewer is alike less
      between (exits given) place left fewer is alike less = behind (exits given) place left fewer is alike less

  -- Of two pieces, of which one is passed over, the groups of one follow those of the other.
  pub runs-left : (at end free : ℕ) (meant : Act Flow) (first second : List Group)
      → Runs code go scope frames around at end free first meant → Runs code go scope frames around at end free (first ++ second) meant
  runs-left at end free meant first second runs frame turns stands small = runs frame turns (stands-left first second stands) small

  pub runs-right : (at end free : ℕ) (meant : Act Flow) (first second : List Group)
      → Runs code go scope frames around at end (free + length first) second meant → Runs code go scope frames around at end free (first ++ second) meant
  runs-right at end free meant first second runs frame turns stands small =
      from-lower go frames around at end free (free + length first) frame turns meant (omega arith) (runs frame turns (stands-right free first second stands) small)

-- ---- tests

module _ {code : CodeLists} {go : Going} (flows : FlowsAs code go) (scope : Scope) (call : Callee) (frames : List acts.Frame) (line : ℕ) where
  -- What follows a test where it holds, and where it doesn't.
  pub test-law : (at start place : ℕ) (tree : Tree) (frame : Frame) (turns : ℕ) → HaveNames code scope frame (turned frames turns)
      → StandAt code line at (test_code (value_code scope tree) place) → is_usable scope tree ≡ true → start ≡ at + (length (value_code scope tree) + 1) → start ≤ place
      → (K : ℤ × State → Computing (Frame × ℕ))
      → ((z : ℤ) → cond (truth z) (go start frame turns) (go place frame turns) ≡ K (z, turned frames turns))
      → go at frame turns ≡ sequence (value scope call line tree (turned frames turns)) K
  test-law at start place tree frame turns names stand usable begins ahead K chosen =
      value-law code go (flows-go flows) scope call line at frame (turned frames turns) tree names (stand-left test (What.JumpFalse place ∷ []) stand) usable K
      (λ z. false-law flows (at + length test) [] place frame turns z (stand-right at test (What.JumpFalse place ∷ []) stand) before
      ∙ ap (λ next. cond (truth z) (go next frame turns) (go place frame turns)) there ∙ chosen z)
    where
      test : List What
      test = value_code scope tree

      before : at + length test < place
      before = omega (arith, begins, ahead)

      there : at + length test + 1 ≡ start
      there = omega (arith, begins)

  pub from-tested : (around : List LoopAround) (at start place end free : ℕ) (tree : Tree) (frame : Frame) (turns : ℕ) (body further : Act Flow) → HaveNames code scope frame (turned frames turns)
      → StandAt code line at (test_code (value_code scope tree) place) → is_usable scope tree ≡ true → start ≡ at + (length (value_code scope tree) + 1) → start ≤ place
      → From go frames around start end free frame turns body → From go frames around place end free frame turns further
      → From go frames around at end free frame turns (value scope call line tree >>= (λ z. cond (truth z) body further))
  from-tested around at start place end free tree frame turns body further names stand usable begins ahead holds fails K behind =
      test-law at start place tree frame turns names stand usable begins ahead (λ w. sequence (cond (truth w.0) body further w.1) K) (λ z. chosen (truth z))
      ∙ sym (sequence-then (value scope call line tree (turned frames turns)) (λ w. cond (truth w.0) body further w.1) K)
    where
      chosen : (b : Bool) → cond b (go start frame turns) (go place frame turns) ≡ sequence (cond b body further (turned frames turns)) K
      chosen true = holds K behind
      chosen false = fails K behind
