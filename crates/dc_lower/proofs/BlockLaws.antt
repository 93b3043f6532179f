-- The instructions of a block carry it out, statement by statement.
use Rattle.std.proofs.Common.{◌≡◌, ◌<◌, ℕ, suc, ◌+◌, Bool, true, List, [], ◌∷◌, ◌++◌, length, Some, refl, sym, ap, ◌∙◌, subst, arith}
use Rattle.std.proofs.lemmas.Bool.{false≢true}
use Rattle.std.specs.Prelude.{min}
use Rattle.dc_code.specs.declared.instr.Instr.{Instr}
use Rattle.dc_code.specs.declared.instr.What.{What}
use Rattle.dc_code.specs.declared.plan.Group.{Group}
use Rattle.dc_code.specs.Codes.{CodeLists}
use Rattle.dc_code.specs.Machine.{machine}
use Rattle.dc_code.specs.Reaching.{group_planned, group_slots}
use Rattle.dc_int.specs.Store.{elements_in}
use Rattle.dc_code.specs.Combinations.{natural}
use Rattle.dc_code.specs.Computation.{give, pause, sequence}
use Rattle.dc_code.specs.Instructions.{Going}
use Rattle.dc_code.specs.Frames.{Frame}
use Rattle.dc_code.specs.Troubles.{Computing, Slots, enter_loop}
use Rattle.dc_code.proofs.Sequences.{sequence-then}
use Rattle.dc_tree.specs.Blocks.{Line, Items, plain, branch, select, loop, none, and_then}
use Rattle.dc_tree.specs.Entities.{Scope}
use Rattle.dc_tree.specs.Statements.{call, Statement, program_line, use_line, implicit_none, declare, contains_line, procedure_line, end_line, if_then, else_if, else_line, end_if, if_action, select_case, case, case_default, end_select, do_line, do_while, end_do, concurrent, act}
use Rattle.dc_meaning.specs.Actions as actions
use Rattle.dc_meaning.specs.Actions.{Flow, on}
use Rattle.dc_meaning.specs.Acts as acts
use Rattle.dc_meaning.specs.Acts.{State}
use Rattle.dc_meaning.specs.Execution.{exec_all, behind_item, plain_line, is_concurrent, loops_in, loop_of}
use Rattle.dc_meaning.specs.Values.{Callee}
use Rattle.dc_actions.specs.Deeds.{lined, InstrsStand}
use Rattle.dc_lower.specs.Blocks.{says_code, texts_of_item, texts_of_block, groups_of_says, groups_of_block, block_code, says_is_lowered, block_is_lowered, part_code}
use Rattle.dc_actions.specs.Carrying.{inside}
use Rattle.dc_actions.specs.Placed.{StandAt, HaveNames, HaveKept, IsLineless, Alike}
use Rattle.dc_actions.specs.Printing.{TextsStand}
use Rattle.dc_actions.proofs.Kept.{same-alike, alike-names, alike-kept, alike-lineless}
use Rattle.dc_actions.proofs.Facts.{both-true}
use Rattle.dc_actions.proofs.OperatorLaws.{plus-one, plus-none}
use Rattle.dc_actions.proofs.Going.{GoesAs, blank_frame, leaving_turns, leaving-goes, machine-step, turns_left}
use Rattle.dc_actions.proofs.Placing.{get-left, get-right, stand-first, stepped, instrs-left, instrs-right, lined-stand}
use Rattle.dc_actions.proofs.OutputLaws.{texts-left, texts-right}
use Rattle.std.proofs.lemmas.List.{length-append}
use Rattle.dc_actions.proofs.DeedLaws.{enter-law, kept-left, kept-right, length-lined, Stands, deed-law}

-- ---- statements

says-law : (code : CodeLists) (go : Going) (goes : GoesAs code go) (scope : Scope) (call : Callee) (at next free : ℕ) (frame : Frame) (state : State) (line : Line)
    → Stands code scope frame state free (groups_of_says scope line.says)
    → TextsStand code next (texts_of_item (plain line)) → StandAt code line.line at (says_code scope next free line.says) → says_is_lowered scope line.says ≡ true
    → (K : Flow × State → Computing (Frame × ℕ))
    → ((left : Frame) → Alike free frame left → go (at + length (says_code scope next free line.says)) left state.turns ≡ K (on, state))
    → go at frame state.turns ≡ sequence (plain_line scope call line state) K
says-law code go goes scope called at next free frame state line stands there stand so K later = all line.says stands there stand so later
  where
    Goal : Statement → Type 0
    Goal says = Stands code scope frame state free (groups_of_says scope says)
        → TextsStand code next (texts_of_item (plain (record { line = line.line; says = says }))) → StandAt code line.line at (says_code scope next free says) → says_is_lowered scope says ≡ true
        → ((left : Frame) → Alike free frame left → go (at + length (says_code scope next free says)) left state.turns ≡ K (on, state))
        → go at frame state.turns ≡ sequence (plain_line scope called (record { line = line.line; says = says }) state) K

    all : (says : Statement) → Goal says
    all (act deed) stands there stand so later = deed-law code go goes scope called line.line at next free frame state deed stands there stand so K later
    all (program_line n) stands there stand so later = absurd (false≢true so)
    all (use_line f m o) stands there stand so later = absurd (false≢true so)
    all implicit_none stands there stand so later = absurd (false≢true so)
    all (declare f a c e) stands there stand so later = absurd (false≢true so)
    all contains_line stands there stand so later = absurd (false≢true so)
    all (procedure_line p f n b d r) stands there stand so later = absurd (false≢true so)
    all (end_line u n) stands there stand so later = absurd (false≢true so)
    all (if_then t) stands there stand so later = absurd (false≢true so)
    all (else_if t) stands there stand so later = absurd (false≢true so)
    all else_line stands there stand so later = absurd (false≢true so)
    all end_if stands there stand so later = absurd (false≢true so)
    all (if_action t d) stands there stand so later = absurd (false≢true so)
    all (select_case t) stands there stand so later = absurd (false≢true so)
    all (case r) stands there stand so later = absurd (false≢true so)
    all case_default stands there stand so later = absurd (false≢true so)
    all end_select stands there stand so later = absurd (false≢true so)
    all (do_line l r) stands there stand so later = absurd (false≢true so)
    all (do_while l t) stands there stand so later = absurd (false≢true so)
    all (end_do l) stands there stand so later = absurd (false≢true so)
    all (concurrent l s i m o) stands there stand so later = absurd (false≢true so)

-- ---- blocks inside these entities

-- What a block needs of a frame, however many turns are left.
record StandsAlways (code : CodeLists) (scope : Scope) (frame : Frame) (own : Slots) (free : ℕ) (groups : List Group) : Type 0 where
  names : (left : ℕ) → HaveNames code scope frame (inside own left)
  kept : HaveKept code scope frame free groups
  start : IsLineless frame

stands-first : {code : CodeLists} {scope : Scope} {frame : Frame} {own : Slots} {free : ℕ} (turns : ℕ) (first second : List Group)
    → StandsAlways code scope frame own free (first ++ second) → Stands code scope frame (inside own turns) free first
stands-first turns first second stands = record { names = stands.names turns; kept = kept-left first second stands.kept; start = stands.start }

-- Behind a statement the frame that it left serves as well.
stands-rest : {code : CodeLists} {scope : Scope} {frame left : Frame} {own : Slots} (free : ℕ) (first second : List Group)
    → Alike free frame left → StandsAlways code scope frame own free (first ++ second) → StandsAlways code scope left own (free + length first) second
stands-rest free first second alike stands = record {
  names = λ turns. alike-names alike stands.kept.apart (stands.names turns);
  kept = alike-kept alike (kept-right free first second stands.kept);
  start = alike-lineless alike stands.start;
}

-- A block from its first statement on. Where loops stand in it, nothing is around them.
block-law : (code : CodeLists) (go : Going) (goes : GoesAs code go) (scope : Scope) (called : Callee) (at next free number : ℕ) (frame : Frame) (own : Slots) (turns : ℕ) (loops : Bool) (block : Items)
    → StandsAlways code scope frame own free (groups_of_block scope block)
    → TextsStand code next (texts_of_block block) → InstrsStand code at (block_code scope next free number block) → block_is_lowered scope loops block ≡ true → (loops ≡ true → own ≡ [])
    → (K : Flow × State → Computing (Frame × ℕ))
    → ((behind : Frame) (left : ℕ) → go (at + length (block_code scope next free number block)) behind left ≡ K (on, inside own left))
    → go at frame turns ≡ sequence (exec_all scope called number block (inside own turns)) K
block-law code go goes scope called at next free number frame own turns loops none stands there stand so alone K later = ap (λ place. go place frame turns) (plus-none at) ∙ later frame turns
block-law code go goes scope called at next free number frame own turns loops (and_then (plain line) rest) stands there stand so alone K later =
    let first = lined line.line (says_code scope next free line.says) in
    let groups = groups_of_says scope line.says in
    let second = block_code scope (next + length (texts_of_item (plain line))) (free + length groups) (number + 0) rest in
    says-law code go goes scope called at next free frame (inside own turns) line (stands-first turns groups (groups_of_block scope rest) stands)
    (texts-left (texts_of_item (plain line)) (texts_of_block rest) there)
    (lined-stand line.line (says_code scope next free line.says) (instrs-left first second stand)) (both-true so).0
    (λ w. sequence (behind_item (exec_all scope called (number + 0) rest) w.0 w.1) K)
    (λ left alike. ap (λ n. go (at + n) left turns) (sym (length-lined line.line (says_code scope next free line.says)))
    ∙ block-law code go goes scope called (at + length first) (next + length (texts_of_item (plain line))) (free + length groups) (number + 0) left own turns loops rest
    (stands-rest free groups (groups_of_block scope rest) alike stands)
    (texts-right next (texts_of_item (plain line)) (texts_of_block rest) there) (instrs-right at first second stand) (both-true so).1 alone K
    (λ behind left. ap (λ place. go place behind left) (there-behind (length first) (length second) (length (first ++ second)) (length-append first second)) ∙ later behind left))
    ∙ sym (sequence-then (plain_line scope called line (inside own turns)) (λ w. behind_item (exec_all scope called (number + 0) rest) w.0 w.1) K)
  where
    there-behind : (l m n : ℕ) → n ≡ l + m → at + l + m ≡ at + n
    there-behind l m n e = omega (arith, e)
block-law code go goes scope called at next free number frame own turns loops (and_then (loop head body close) rest) stands there stand so alone K later =
    let first = lined head.line (What.Enter number ∷ []) in
    let second = block_code scope (next + 0) (free + 0) (number + loops_in (loop head body close)) rest in
    enter-law code go goes scope called at number frame own turns head (exec_all scope called number body) (alone (both-true (both-true so).0).0) (both-true (both-true so).0).1
    (lined-stand head.line (What.Enter number ∷ []) (instrs-left first second stand))
    (λ w. sequence (behind_item (exec_all scope called (number + loops_in (loop head body close)) rest) w.0 w.1) K)
    (λ left. block-law code go goes scope called (at + length first) (next + 0) (free + 0) (number + loops_in (loop head body close)) frame own left loops rest
    (stands-rest free [] (groups_of_block scope rest) (same-alike free frame) stands)
    (texts-right next [] (texts_of_block rest) there) (instrs-right at first second stand) (both-true so).1 alone K
    (λ behind left. ap (λ place. go place behind left) (there-behind (length second)) ∙ later behind left))
    ∙ sym (sequence-then (loop_of scope called number head (exec_all scope called number body) (inside own turns)) (λ w. behind_item (exec_all scope called (number + loops_in (loop head body close)) rest) w.0 w.1) K)
  where
    there-behind : (m : ℕ) → at + 1 + m ≡ at + suc m
    there-behind m = omega arith
block-law code go goes scope called at next free number frame own turns loops (and_then (branch arms close) rest) stands there stand so alone K later = absurd (false≢true so)
block-law code go goes scope called at next free number frame own turns loops (and_then (select head arms close) rest) stands there stand so alone K later = absurd (false≢true so)

-- A part of the code that is a block: where it begins, the machine does what the block means, and gives the turns left.
pub part-law : (code : CodeLists) (scope : Scope) (called : Callee) (at next free number : ℕ) (frame : Frame) (own : Slots) (turns : ℕ) (loops : Bool) (block : Items) (line : ℕ)
    → ((left : ℕ) → HaveNames code scope frame (inside own left)) → HaveKept code scope frame free (groups_of_block scope block) → IsLineless frame
    → TextsStand code next (texts_of_block block) → InstrsStand code at (part_code scope next free number block line) → block_is_lowered scope loops block ≡ true → (loops ≡ true → own ≡ [])
    → sequence (machine code at frame turns) (λ w. give w.1) ≡ sequence (exec_all scope called number block (inside own turns)) (λ w. give (w.1).turns)
part-law code scope called at next free number frame own turns loops block line names kept start there stand so alone =
    sym (sequence-then (machine code at frame turns) turns_left (λ w. give w.1))
    ∙ ap (λ c. sequence c (λ w. give w.1))
    (block-law code (leaving_turns code) (leaving-goes code) scope called at next free number frame own turns loops block (record { names = names; kept = kept; start = start }) there
    (instrs-left whole ending stand) so alone turns_behind
    (λ behind left. ap (λ c. sequence c turns_left) (machine-step code (at + length whole) line What.End behind left
    (stand-first (at + length whole) What.End [] (lined-stand line (What.End ∷ []) (instrs-right at whole ending stand))))))
    ∙ sequence-then (exec_all scope called number block (inside own turns)) turns_behind (λ w. give w.1)
  where
    whole : List Instr
    whole = block_code scope next free number block

    ending : List Instr
    ending = lined line (What.End ∷ [])

    turns_behind : Flow × State → Computing (Frame × ℕ)
    turns_behind w = turns_left (blank_frame, (w.1).turns)
