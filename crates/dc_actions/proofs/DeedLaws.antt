-- The instructions of a statement carry it out.
use Rattle.std.proofs.Common.{◌≡◌, ◌<◌, ℕ, suc, ◌+◌, true, List, [], ◌∷◌, ◌++◌, length, refl, ap, ◌∙◌, Some, sym, subst, arith}
use Rattle.std.proofs.lemmas.Bool.{false≢true}
use Rattle.std.specs.Prelude.{min}
use Rattle.dc_code.specs.declared.instr.What.{What}
use Rattle.dc_code.specs.declared.plan.Group.{Group}
use Rattle.dc_code.specs.Codes.{CodeLists}
use Rattle.dc_code.specs.Machine.{machine}
use Rattle.dc_code.specs.Computation.{sequence, pause}
use Rattle.dc_code.specs.Instructions.{Going}
use Rattle.dc_code.specs.Frames.{Frame}
use Rattle.dc_code.specs.Troubles.{Computing, Slots, enter_loop}
use Rattle.dc_tree.specs.Entities.{Scope, entity}
use Rattle.dc_tree.specs.Statements.{Deed, assign, fill, call, cycle, exit, return, continue, stop, error_stop, print, read, act, Statement, program_line, use_line, implicit_none, declare, contains_line, procedure_line, end_line, if_then, else_if, else_line, end_if, if_action, select_case, case, case_default, end_select, do_line, do_while, end_do, concurrent}
use Rattle.dc_meaning.specs.Actions as actions
use Rattle.dc_meaning.specs.Actions.{Flow, on}
use Rattle.dc_meaning.specs.Acts as acts
use Rattle.dc_meaning.specs.Acts.{State}
use Rattle.dc_meaning.specs.Values.{Callee, value}
use Rattle.dc_actions.specs.Deeds.{lined, deed_code, texts_of_deed, groups_of_deed, deed_is_lowered}
use Rattle.dc_actions.specs.Placed.{StandAt, HaveNames, HaveKept, IsLineless, Alike}
use Rattle.dc_actions.specs.Printing.{TextsStand}
use Rattle.dc_actions.proofs.AssignmentLaws.{assignment-law}
use Rattle.dc_actions.proofs.FillingLaws.{filling-law}
use Rattle.dc_actions.proofs.Kept.{same-alike}
use Rattle.dc_actions.proofs.Going.{GoesAs, machine-goes}
use Rattle.dc_actions.proofs.OutputLaws.{printing-law}
use Rattle.dc_tree.specs.Syntax.{Tree}
use Rattle.dc_actions.specs.Carrying.{LeaveValue, inside}
use Rattle.dc_actions.specs.Expressions.{value_code, is_usable}
use Rattle.dc_actions.proofs.Expressions.{value-law}
use Rattle.dc_code.specs.Reaching.{group_planned, group_slots}
use Rattle.dc_int.specs.Store.{elements_in}
use Rattle.dc_code.specs.Combinations.{natural}
use Rattle.dc_tree.specs.Blocks.{Line}
use Rattle.dc_meaning.specs.Execution.{is_concurrent, loop_of}
use Rattle.dc_actions.proofs.OperatorLaws.{plus-one}
use Rattle.dc_actions.proofs.Placing.{get-left, get-right, stepped}

pub length-lined : (line : ℕ) (whats : List What) → length (lined line whats) ≡ length whats
length-lined line [] = refl
length-lined line (what ∷ whats) = ap suc (length-lined line whats)

-- What a statement needs of a frame, and leaves of it: the names, the groups that are added for it, and no output line.
pub record Stands (code : CodeLists) (scope : Scope) (frame : Frame) (state : State) (free : ℕ) (groups : List Group) : Type 0 where
  pub names : HaveNames code scope frame state
  pub kept : HaveKept code scope frame free groups
  pub start : IsLineless frame

pub deed-law : (code : CodeLists) (go : Going) (goes : GoesAs code go) (scope : Scope) (call : Callee) (line at next free : ℕ) (frame : Frame) (state : State) (deed : Deed)
    → Stands code scope frame state free (groups_of_deed scope deed)
    → TextsStand code next (texts_of_deed deed) → StandAt code line at (deed_code scope next free deed) → deed_is_lowered scope deed ≡ true
    → (K : Flow × State → Computing (Frame × ℕ))
    → ((left : Frame) → Alike free frame left → go (at + length (deed_code scope next free deed)) left state.turns ≡ K (on, state))
    → go at frame state.turns ≡ sequence (actions.act scope call line deed state) K
deed-law code go goes scope called line at next free frame state (assign target tree) stands there stand so K later =
    assignment-law code go goes scope called line at frame state target tree (entity scope target.name) refl stands.names stand so K (later frame (same-alike free frame))
deed-law code go goes scope called line at next free frame state (print written trees) stands there stand so K later =
    printing-law code go goes scope called line at next frame state trees stands.names stands.start there stand so K (later frame (same-alike free frame))
deed-law code go goes scope called line at next free frame state (fill text trees) stands there stand so K later =
    filling-law code go goes scope called line at free frame state text trees (entity scope text) refl stands.names stands.kept stand so K later
deed-law code go goes scope called line at next free frame state (call n b t) stands there stand so K later = absurd (false≢true so)
deed-law code go goes scope called line at next free frame state (cycle l) stands there stand so K later = absurd (false≢true so)
deed-law code go goes scope called line at next free frame state (exit l) stands there stand so K later = absurd (false≢true so)
deed-law code go goes scope called line at next free frame state return stands there stand so K later = absurd (false≢true so)
deed-law code go goes scope called line at next free frame state continue stands there stand so K later = absurd (false≢true so)
deed-law code go goes scope called line at next free frame state stop stands there stand so K later = absurd (false≢true so)
deed-law code go goes scope called line at next free frame state error_stop stands there stand so K later = absurd (false≢true so)
deed-law code go goes scope called line at next free frame state (read b t) stands there stand so K later = absurd (false≢true so)

-- The instructions of an expression leave its value.
pub all-values-left : (code : CodeLists) (scope : Scope) (called : Callee) (line : ℕ) (tree : Tree)
    → is_usable scope tree ≡ true → LeaveValue code scope line (value_code scope tree) (value scope called line tree)
all-values-left code scope called line tree so at frame state names stand rest later = value-law code (machine code) (machine-goes code) scope called line at frame state tree names stand so rest later

-- ---- loops that are entered

pub enter-law : (code : CodeLists) (go : Going) (goes : GoesAs code go) (scope : Scope) (called : Callee) (at number : ℕ) (frame : Frame) (own : Slots) (turns : ℕ) (head : Line) (body : acts.Act Flow) → own ≡ [] → is_concurrent head.says ≡ true
    → StandAt code head.line at (What.Enter number ∷ [])
    → (K : Flow × State → Computing (Frame × ℕ))
    → ((left : ℕ) → go (at + 1) frame left ≡ K (on, inside own left))
    → go at frame turns ≡ sequence (loop_of scope called number head body (inside own turns)) K
enter-law code go goes scope called at number frame own turns head body alone so stand K later = by head.says so
  where
    by : (says : Statement) → is_concurrent says ≡ true → go at frame turns ≡ sequence (loop_of scope called number (record { line = head.line; says = says }) body (inside own turns)) K
    by (concurrent l s i m o) so =
        stepped goes at (What.Enter number) [] frame turns stand refl
        ∙ ap (λ slots. pause (enter_loop number turns slots) (λ told. go (suc at) frame (min (natural told) turns))) (sym alone)
        ∙ (λ i. pause (enter_loop number turns own) (λ told. (ap (λ place. go place frame (min (natural told) turns)) (plus-one at) ∙ later (min (natural told) turns)) i))
    by (program_line n) so = absurd (false≢true so)
    by (use_line f m o) so = absurd (false≢true so)
    by implicit_none so = absurd (false≢true so)
    by (declare f a c e) so = absurd (false≢true so)
    by contains_line so = absurd (false≢true so)
    by (procedure_line p f n b d r) so = absurd (false≢true so)
    by (end_line u n) so = absurd (false≢true so)
    by (if_then t) so = absurd (false≢true so)
    by (else_if t) so = absurd (false≢true so)
    by else_line so = absurd (false≢true so)
    by end_if so = absurd (false≢true so)
    by (if_action t d) so = absurd (false≢true so)
    by (select_case t) so = absurd (false≢true so)
    by (case r) so = absurd (false≢true so)
    by case_default so = absurd (false≢true so)
    by end_select so = absurd (false≢true so)
    by (do_line l r) so = absurd (false≢true so)
    by (do_while l t) so = absurd (false≢true so)
    by (end_do l) so = absurd (false≢true so)
    by (act d) so = absurd (false≢true so)

-- The groups of a part, of which the first are of its first statement.
pub kept-left : {code : CodeLists} {scope : Scope} {frame : Frame} {free : ℕ} (first second : List Group) → HaveKept code scope frame free (first ++ second) → HaveKept code scope frame free first
kept-left first second kept = record {
  planned = λ i group e. kept.planned i group (get-left first second i group e);
  sized = λ i group e. kept.sized i group (get-left first second i group e);
  apart = kept.apart;
}

pub kept-right : {code : CodeLists} {scope : Scope} {frame : Frame} (free : ℕ) (first second : List Group) → HaveKept code scope frame free (first ++ second)
    → HaveKept code scope frame (free + length first) second
kept-right {code} {scope} {frame} free first second kept = record {
  planned = λ i group e. subst (λ number. group_planned code frame number ≡ Some group) (behind i) (kept.planned (length first + i) group (get-right first second i ∙ e));
  sized = λ i group e. subst (λ number. length (group_slots frame number) ≡ elements_in group.bounds) (behind i) (kept.sized (length first + i) group (get-right first second i ∙ e));
  apart = λ text group sort bounds e. further group (kept.apart text group sort bounds e);
}
  where
    behind : (i : ℕ) → free + (length first + i) ≡ free + length first + i
    behind i = omega arith

    further : (group : ℕ) → group < free → group < free + length first
    further group below = omega (arith, below)
