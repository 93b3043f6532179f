-- The instructions of single statements are joined.
use Rattle.std.proofs.Common.{◌≡◌, ◌<◌, ◌≤◌, ℕ, ◌+◌, Bool, true, false, List, [], ◌∷◌, length, map, Option, Some, refl, sym, ap, subst, arith}
use Rattle.std.proofs.lemmas.Bool.{false≢true}
use Rattle.dc_int.specs.Sorts.{Sort, whole, logical}
use Rattle.dc_code.specs.declared.instr.What.{What}
use Rattle.dc_code.specs.StackSorts.{a_truth}
use Rattle.dc_tree.specs.Entities.{Scope, entity}
use Rattle.dc_tree.specs.Statements.{Name, Deed, assign, fill, call, cycle, exit, return, continue, stop, error_stop, print, read}
use Rattle.dc_tree.specs.Syntax.{Tree}
use Rattle.dc_tree.specs.Typing.{sort_of, sort_of_entity}
use Rattle.dc_actions.specs.Assigning.{assigned_code, filling_code, kept_group}
use Rattle.dc_actions.specs.Deeds.{texts_of_deed, groups_of_deed}
use Rattle.dc_actions.specs.Expressions.{value_code, is_usable}
use Rattle.dc_actions.specs.Typed.{item_of, item_is_typed, is_logical, deed_is_typed}
use Rattle.dc_actions.specs.Printing.{printing_code, texts_of_items, give_items}
use Rattle.std.specs.List.{list_all}
use Rattle.dc_actions.proofs.Facts.{both-true}
use Rattle.dc_actions.proofs.Straight.{Ground, Runs, runs-step, runs-to}
use Rattle.dc_actions.proofs.RunsOfStatements.{assigned-runs, filling-runs}
use Rattle.dc_actions.proofs.RunsOfValues.{value-runs}
use Rattle.dc_actions.proofs.RunsOfDeeds.{printing-runs}
use Rattle.dc_actions.proofs.Standing.{Stand, here-stands}
use Rattle.dc_flows.specs.Flows.{Before, LoopAround, loop_named, jump_code, action_code}
use Rattle.dc_flows.specs.FlowsLowered.{action_is_lowered, EndBehind}
use Rattle.dc_flows.specs.FlowsTyped.{is_typed_test, writes_nothing}
use Rattle.dc_flows.proofs.FlowActions.{ends-behind, length-jump}
use Rattle.dc_flows.proofs.StandGrounds.{Suits, can-main, Rooms, IsAround, found-around}
use Rattle.dc_flows.proofs.StandJoints.{AreJoined, joined-runs}
use Rattle.dc_flows.proofs.StandJumps.{jump-joined}

-- A test leaves a truth.
pub test-runs : (ground : Ground) (scope : Scope) (in_main : Bool) → Suits ground scope in_main → (tree : Tree) → is_usable scope tree ≡ true → is_typed_test scope tree ≡ true
    → Runs ground [] (value_code scope tree) (a_truth ∷ [])
test-runs ground scope in_main suits tree so typed =
    let both = both-true typed in
    runs-to ground [] (item_of (sort_of scope tree) ∷ []) (a_truth ∷ []) (value_code scope tree) (ap (λ item. item ∷ []) (truth-item (sort_of scope tree) both.1))
    (value-runs ground scope suits.fits tree [] so both.0)
  where
    truth-item : (sort : Sort) → is_logical sort ≡ true → item_of sort ≡ a_truth
    truth-item logical e = refl
    truth-item (whole its_kind) e = absurd (false≢true e)

module _ (ground : Ground) (scope : Scope) (in_main : Bool) (suits : Suits ground scope in_main) (around : List LoopAround) where
  -- The way to a place of a loop around.
  way-joined : (at : ℕ) (place : LoopAround → ℕ) (given : Option Name) → (found : LoopAround) → loop_named around given ≡ Some found → IsAround around (place found)
      → at + length (jump_code place (loop_named around given)) ≤ place found → AreJoined ground (IsAround around) at (jump_code place (loop_named around given))
  way-joined at place given found is there less =
      subst (λ loop. AreJoined ground (IsAround around) at (jump_code place loop)) (sym is)
      (jump-joined ground (IsAround around) at (place found) (ahead (place found) less) there)
    where
      ahead : (far : ℕ) → at + length (jump_code place (loop_named around given)) ≤ far → at < far
      ahead far less = omega (arith, less, length-jump place (loop_named around given))

  print-joined : (at next : ℕ) (trees : List Tree) → Stand ground.code.texts next (texts_of_items trees) → give_items scope trees ≡ true → list_all (item_is_typed scope) trees ≡ true
      → (in_main ≡ false → false ≡ true) → AreJoined ground (IsAround around) at (printing_code scope next trees)
  print-joined at next trees texts so typed silent = by in_main refl
    where
      by : (b : Bool) → in_main ≡ b → AreJoined ground (IsAround around) at (printing_code scope next trees)
      by true e = joined-runs ground (IsAround around) at (printing_code scope next trees) (printing-runs ground scope suits.fits (can-main ground scope in_main suits What.PutEnd refl e) next trees [] texts so typed)
      by false e = absurd (false≢true (silent e))

  pub action-joined : (at : ℕ) (before : Before) (deed : Deed) (loops : ℕ) → Rooms ground before.texts before.groups before.loops (texts_of_deed deed) (groups_of_deed scope deed) loops
      → action_is_lowered scope in_main (map (λ (loop : LoopAround). loop.label) around) deed ≡ true → deed_is_typed scope deed ≡ true → (in_main ≡ false → writes_nothing deed ≡ true)
      → EndBehind (at + length (action_code scope before around deed)) around → AreJoined ground (IsAround around) at (action_code scope before around deed)
  action-joined at before (assign target tree) loops rooms so typed silent ends =
      joined-runs ground (IsAround around) at (assigned_code scope (entity scope target.name) target.subscripts tree)
      (assigned-runs ground scope suits.fits suits.changeable target.name (entity scope target.name) target.subscripts tree [] refl so typed)
  action-joined at before (fill text trees) loops rooms so typed silent ends =
      joined-runs ground (IsAround around) at (filling_code scope before.groups trees (entity scope text))
      (filling-runs ground scope suits.fits suits.holds suits.changeable text (entity scope text) before.groups trees [] refl
      (here-stands ground.plan.groups before.groups (kept_group (sort_of_entity (entity scope text)) (length trees)) [] rooms.groups_stand) so typed)
  action-joined at before (print written trees) loops rooms so typed silent ends = print-joined at before.texts trees rooms.texts_stand so typed silent
  action-joined at before (cycle given) loops rooms so typed silent ends =
      let w = found-around around given so in
      way-joined at (λ found. found.next) given w.found w.is w.next
      (ends-behind (at + length (jump_code (λ found. found.next) (loop_named around given))) around given w.found ends w.is).0
  action-joined at before (exit given) loops rooms so typed silent ends =
      let w = found-around around given so in
      way-joined at (λ found. found.behind) given w.found w.is w.behind
      (ends-behind (at + length (jump_code (λ found. found.behind) (loop_named around given))) around given w.found ends w.is).1
  action-joined at before continue loops rooms so typed silent ends = joined-runs ground (IsAround around) at [] refl
  action-joined at before stop loops rooms so typed silent ends =
      joined-runs ground (IsAround around) at (What.Stop ∷ []) (runs-step ground [] [] [] What.Stop [] (can-main ground scope in_main suits What.Stop refl so) (λ last. refl) refl)
  action-joined at before error_stop loops rooms so typed silent ends =
      joined-runs ground (IsAround around) at (What.ErrorStop ∷ []) (runs-step ground [] [] [] What.ErrorStop [] (can-main ground scope in_main suits What.ErrorStop refl so) (λ last. refl) refl)
  action-joined at before (call n b t) loops rooms so typed silent ends = absurd (false≢true so)
  action-joined at before return loops rooms so typed silent ends = absurd (false≢true so)
  action-joined at before (read b t) loops rooms so typed silent ends = absurd (false≢true so)
