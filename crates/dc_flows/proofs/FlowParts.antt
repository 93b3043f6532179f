-- The instructions of whole parts carry them out.
use Rattle.std.proofs.Common.{◌≡◌, ◌≤◌, ℕ, ◌+◌, Bool, true, false, cond, List, [], ◌∷◌, ◌++◌, length, map, Option, Some, None, refl, sym, ap, ◌∙◌, subst, arith}
use Rattle.std.proofs.lemmas.Option.{none-some, same_Some}
use Rattle.std.specs.Prelude.{option_map}
use Rattle.dc_code.specs.declared.instr.Instr.{Instr}
use Rattle.dc_code.specs.declared.instr.What.{What}
use Rattle.dc_code.specs.declared.plan.Group.{Group}
use Rattle.dc_code.specs.Codes.{CodeLists}
use Rattle.dc_code.specs.Computation.{give, sequence}
use Rattle.dc_code.specs.Frames.{Frame}
use Rattle.dc_code.specs.Instructions.{Going}
use Rattle.dc_code.specs.Machine.{machine}
use Rattle.dc_code.specs.Troubles.{Computing, Slots}
use Rattle.dc_code.proofs.Sequences.{sequence-then}
use Rattle.dc_tree.specs.Blocks.{Items}
use Rattle.dc_tree.specs.Entities.{Scope}
use Rattle.dc_tree.specs.Statements.{Name}
use Rattle.dc_meaning.specs.Actions.{Flow, on, returns, cycles, exits}
use Rattle.dc_meaning.specs.Acts as acts
use Rattle.dc_meaning.specs.Acts.{State}
use Rattle.dc_meaning.specs.Execution.{belongs, exec_all}
use Rattle.dc_meaning.specs.Values.{Callee}
use Rattle.dc_actions.specs.Deeds.{InstrsStand, lined}
use Rattle.dc_actions.specs.Carrying.{inside}
use Rattle.dc_actions.specs.Placed.{HaveNames, HaveKept, IsLineless}
use Rattle.dc_actions.specs.Printing.{TextsStand}
use Rattle.dc_actions.proofs.DeedLaws.{Stands}
use Rattle.dc_actions.proofs.Going.{blank_frame, leaving_turns, machine-step, turns_left}
use Rattle.dc_actions.proofs.Placing.{instrs-left, instrs-right, lined-stand, stand-first}
use Rattle.dc_flows.specs.Flows.{Before, LoopAround, labels_of, loop_named, block_size, texts_of_block, groups_of_block, block_code, part_code, around_part}
use Rattle.dc_flows.specs.FlowsCarried.{RunFlows}
use Rattle.dc_flows.specs.FlowsLowered.{place_of, EndBehind, block_is_lowered, greatest_turns}
use Rattle.dc_flows.proofs.FlowGoing.{FlowsAs, leaving-flows}
use Rattle.dc_flows.proofs.FlowLaws.{block-runs}
use Rattle.dc_flows.proofs.FlowRuns.{turned, turned-names, Later, Behind}
use Rattle.dc_flows.proofs.FlowSizes.{block-length}

-- The law of a block, from a state with its frames and turns.
pub block-law : (code : CodeLists) (go : Going) (flows : FlowsAs code go) (scope : Scope) (call : Callee) (before : Before) (around : List LoopAround) (main : Bool) (frame : Frame) (state : State) (block : Items)
    → Stands code scope frame state before.groups (groups_of_block scope block) → TextsStand code before.texts (texts_of_block block)
    → InstrsStand code before.at (block_code scope before around block) → block_is_lowered scope main (labels_of around) block ≡ true
    → (main ≡ true → (acts.innermost state).slots ≡ []) → EndBehind (before.at + block_size scope block) around → state.turns ≤ greatest_turns
    → (K : Later) → Behind go state.frames around (before.at + block_size scope block) before.groups frame state.turns K
    → go before.at frame state.turns ≡ sequence (exec_all scope call before.loops block state) K
block-law code go flows scope call before around main frame state block stands there stand so alone ends small K behind =
    block-runs code go flows scope call state.frames main alone before around block stand there so ends frame state.turns
    (λ turns. record { names = turned-names state.turns turns stands.names; kept = stands.kept; start = stands.start }) small K behind

-- ---- the loops around the block of a part

labels-part : (labels : List (Option Name)) (end : ℕ) → labels_of (around_part labels end) ≡ labels
labels-part [] end = refl
labels-part (label ∷ labels) end = ap (λ others. label ∷ others) (labels-part labels end)

ends-part : (labels : List (Option Name)) (end : ℕ) → EndBehind end (around_part labels end)
ends-part [] end = tt
ends-part (label ∷ labels) end = (omega arith, (omega arith, ends-part labels end))

-- All that leaves a loop around goes to the end.
named-part : (labels : List (Option Name)) (end place : ℕ) (of : LoopAround → ℕ) → ((label : Option Name) → of (record { label = label; next = end; behind = end }) ≡ end) → (given : Option Name)
    → option_map of (loop_named (around_part labels end) given) ≡ Some place → end ≡ place
named-part [] end place of there given is = absurd (none-some place is)
named-part (label ∷ labels) end place of there given is = by (belongs label given) is (named-part labels end place of there given)
  where
    by : (b : Bool) → option_map of (cond b (Some (record { label = label; next = end; behind = end })) (loop_named (around_part labels end) given)) ≡ Some place
        → (option_map of (loop_named (around_part labels end) given) ≡ Some place → end ≡ place) → end ≡ place
    by true same further = sym (there label) ∙ same_Some (of (record { label = label; next = end; behind = end })) place same
    by false same further = further same

to-end : (labels : List (Option Name)) (end place : ℕ) (flow : Flow) → place_of end (around_part labels end) flow ≡ Some place → end ≡ place
to-end labels end place on is = same_Some end place is
to-end labels end place returns is = absurd (none-some place is)
to-end labels end place (cycles given) is = named-part labels end place (λ found. found.next) (λ label. refl) given is
to-end labels end place (exits given) is = named-part labels end place (λ found. found.behind) (λ label. refl) given is

-- ---- parts

pub part-law : (code : CodeLists) (scope : Scope) (call : Callee) (before : Before) (main : Bool) (labels : List (Option Name)) (block : Items) (line : ℕ)
    → block_is_lowered scope main labels block ≡ true → TextsStand code before.texts (texts_of_block block)
    → RunFlows code scope main before.at before.groups (groups_of_block scope block) (part_code scope before (around_part labels (before.at + block_size scope block)) block line)
    (exec_all scope call before.loops block)
part-law code scope call before main labels block line so there frame own turns names kept start stand alone small =
    sym (sequence-then (machine code before.at frame turns) turns_left (λ w. give w.1))
    ∙ ap (λ c. sequence c (λ w. give w.1))
    (block-law code (leaving_turns code) (leaving-flows code) scope call before around main frame (inside own turns) block (record { names = names turns; kept = kept; start = start }) there
    (instrs-left whole ending stand) (subst (λ all. block_is_lowered scope main all block ≡ true) (sym (labels-part labels end)) so) alone (ends-part labels end) small turns_behind ended)
    ∙ sequence-then (exec_all scope call before.loops block (inside own turns)) turns_behind (λ w. give w.1)
  where
    end : ℕ
    end = before.at + block_size scope block

    around : List LoopAround
    around = around_part labels end

    whole : List Instr
    whole = block_code scope before around block

    ending : List Instr
    ending = lined line (What.End ∷ [])

    turns_behind : Flow × State → Computing (Frame × ℕ)
    turns_behind w = turns_left (blank_frame, (w.1).turns)

    end_stand : InstrsStand code end ending
    end_stand = subst (λ n. InstrsStand code (before.at + n) ending) (block-length scope before around block) (instrs-right before.at whole ending stand)

    ended : Behind (leaving_turns code) (inside own turns).frames around end before.groups frame turns turns_behind
    ended flow place left fewer is alike less =
        ap (λ p. leaving_turns code p left fewer) (sym (to-end labels end place flow is))
        ∙ ap (λ c. sequence c turns_left) (machine-step code end line What.End left fewer (stand-first end What.End [] (lined-stand line (What.End ∷ []) end_stand)))
