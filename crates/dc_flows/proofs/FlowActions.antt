-- The instructions of single statements, with the ways out of loops and of the program, carry them out.
use Rattle.std.proofs.Common.{◌≡◌, ◌<◌, ◌≤◌, ℕ, suc, ◌+◌, Bool, true, false, ◌&&◌, ◌||◌, cond, List, [], ◌∷◌, ◌++◌, length, map, Option, Some, None, refl, sym, ap, ◌∙◌, subst, arith}
use Rattle.std.proofs.lemmas.Bool.{false≢true}
use Rattle.std.proofs.lemmas.List.{length-append}
use Rattle.std.proofs.lemmas.Option.{none-some, same_Some}
use Rattle.std.specs.List.{list_any}
use Rattle.std.specs.Prelude.{option_map}
use Rattle.dc_int.specs.Reductions.{truth}
use Rattle.dc_code.specs.declared.instr.What.{What}
use Rattle.dc_code.specs.Codes.{CodeLists}
use Rattle.dc_code.specs.Computation.{pause}
use Rattle.dc_code.specs.Instructions.{Going}
use Rattle.dc_code.specs.Troubles as troubles
use Rattle.dc_tree.specs.Entities.{Scope}
use Rattle.dc_tree.specs.Statements.{Name, Deed, assign, fill, call, cycle, exit, return, continue, stop, error_stop, print, read}
use Rattle.dc_tree.specs.Syntax.{Tree}
use Rattle.dc_meaning.specs.Actions as actions
use Rattle.dc_meaning.specs.Actions.{Flow, on, cycles, exits}
use Rattle.dc_meaning.specs.Acts as acts
use Rattle.dc_meaning.specs.Acts.{just, ◌>>=◌}
use Rattle.dc_meaning.specs.Execution.{belongs}
use Rattle.dc_meaning.specs.Values.{Callee, value}
use Rattle.dc_actions.specs.Deeds.{deed_code, texts_of_deed, groups_of_deed, deed_is_lowered}
use Rattle.dc_actions.specs.Expressions.{value_code, is_usable}
use Rattle.dc_actions.specs.Placed.{StandAt}
use Rattle.dc_actions.specs.Printing.{TextsStand}
use Rattle.dc_actions.proofs.DeedLaws.{deed-law}
use Rattle.dc_actions.proofs.Facts.{both-true}
use Rattle.dc_actions.proofs.Kept.{same-alike}
use Rattle.dc_actions.proofs.OperatorLaws.{plus-one, plus-none}
use Rattle.dc_actions.proofs.Placing.{stand-left, stand-right, stand-first}
use Rattle.dc_flows.specs.Flows.{Before, LoopAround, labels_of, loop_named, jump_code, action_code, test_code, guarded_code}
use Rattle.dc_flows.specs.FlowsLowered.{belongs_to_some, action_is_lowered, place_of, EndBehind}
use Rattle.dc_flows.proofs.FlowGoing.{FlowsAs, flows-go, jump-law}
use Rattle.dc_flows.proofs.FlowRuns.{turned, Behind, From, Runs, from-none, from-tested, runs-left}

-- ---- the loop that is left

named-loop : (around : List LoopAround) (given : Option Name) → belongs_to_some (labels_of around) given ≡ true → (found : LoopAround) × (loop_named around given ≡ Some found)
named-loop [] given so = absurd (false≢true so)
named-loop (nearest ∷ others) given so = by (belongs nearest.label given) so (named-loop others given)
  where
    by : (b : Bool) → (b || belongs_to_some (labels_of others) given) ≡ true
        → (belongs_to_some (labels_of others) given ≡ true → (found : LoopAround) × (loop_named others given ≡ Some found))
        → (found : LoopAround) × (cond b (Some nearest) (loop_named others given) ≡ Some found)
    by true so further = (nearest, refl)
    by false so further = further so

-- Such a loop ends at that place or behind it.
pub ends-behind : (end : ℕ) (around : List LoopAround) (given : Option Name) (found : LoopAround) → EndBehind end around → loop_named around given ≡ Some found
    → (end ≤ found.next) × (end ≤ found.behind)
ends-behind end [] given found ends is = absurd (none-some found is)
ends-behind end (nearest ∷ others) given found ends is = by (belongs nearest.label given) is (ends-behind end others given found ends.1.1)
  where
    by : (b : Bool) → cond b (Some nearest) (loop_named others given) ≡ Some found → (loop_named others given ≡ Some found → (end ≤ found.next) × (end ≤ found.behind))
        → (end ≤ found.next) × (end ≤ found.behind)
    by true same further = subst (λ (l : LoopAround). (end ≤ l.next) × (end ≤ l.behind)) (same_Some nearest found same) (ends.0, ends.1.0)
    by false same further = further same

-- Loops that end behind a place end behind an earlier one.
pub ends-sooner : (at end : ℕ) (around : List LoopAround) → at ≤ end → EndBehind end around → EndBehind at around
ends-sooner at end [] less ends = tt
ends-sooner at end (nearest ∷ others) less ends =
    let next : end ≤ nearest.next = ends.0 in
    let behind : end ≤ nearest.behind = ends.1.0 in
    (omega (arith, less, next), (omega (arith, less, behind), ends-sooner at end others less ends.1.1))

pub length-jump : (place : LoopAround → ℕ) (found : Option LoopAround) → length (jump_code place found) ≡ 1
length-jump place None = refl
length-jump place (Some found) = refl

-- ---- statements

module _ (code : CodeLists) (go : Going) (flows : FlowsAs code go) (scope : Scope) (called : Callee) (frames : List acts.Frame) (main : Bool) (line : ℕ) (around : List LoopAround) where
  -- A deed that is carried out by its own instructions.
  deed-runs : (at next free : ℕ) (deed : Deed) → TextsStand code next (texts_of_deed deed) → StandAt code line at (deed_code scope next free deed) → deed_is_lowered scope deed ≡ true
      → Runs code go scope frames around at (at + length (deed_code scope next free deed)) free (groups_of_deed scope deed) (actions.act scope called line deed)
  deed-runs at next free deed there stand so frame turns stands small K behind =
      deed-law code go (flows-go flows) scope called line at next free frame (turned frames turns) deed (stands turns) there stand so K
      (λ left alike. behind on (at + length (deed_code scope next free deed)) left turns refl alike (omega arith))

  -- The way to a place of a loop around.
  way-out : (at free : ℕ) (place : LoopAround → ℕ) (given : Option Name) (flow : Flow) → belongs_to_some (labels_of around) given ≡ true
      → StandAt code line at (jump_code place (loop_named around given))
      → ((end : ℕ) (found : LoopAround) → loop_named around given ≡ Some found → place_of end around flow ≡ Some (place found))
      → ((found : LoopAround) → loop_named around given ≡ Some found → at + length (jump_code place (loop_named around given)) ≤ place found)
      → Runs code go scope frames around at (at + length (jump_code place (loop_named around given))) free [] (just flow)
  way-out at free place given flow so stand goes ends frame turns stands small K behind =
      let w = named-loop around given so in
      jump-law flows at [] (place w.0) frame turns (subst (λ found. StandAt code line at (jump_code place found)) w.1 stand) (ahead (place w.0) (ends w.0 w.1))
      ∙ behind flow (place w.0) frame turns (goes (at + length (jump_code place (loop_named around given))) w.0 w.1) (same-alike free frame) (omega arith)
    where
      ahead : (there : ℕ) → at + length (jump_code place (loop_named around given)) ≤ there → at < there
      ahead there less = omega (arith, less, length-jump place (loop_named around given))

  stopped : (at free : ℕ) → StandAt code line at (What.Stop ∷ []) → Runs code go scope frames around at (at + 1) free [] (actions.act scope called line stop)
  stopped at free stand frame turns stands small K behind =
      flows.each at line What.Stop frame turns (stand-first at What.Stop [] stand) refl
      ∙ (λ i. pause troubles.stop (λ told. (ap (λ place. go place frame turns) (plus-one at) ∙ behind on (at + 1) frame turns refl (same-alike free frame) (omega arith)) i))

  failed : (at free : ℕ) → StandAt code line at (What.ErrorStop ∷ []) → Runs code go scope frames around at (at + 1) free [] (actions.act scope called line error_stop)
  failed at free stand frame turns stands small K behind = flows.each at line What.ErrorStop frame turns (stand-first at What.ErrorStop [] stand) refl

  continued : (at free : ℕ) → Runs code go scope frames around at (at + 0) free [] (just on)
  continued at free frame turns stands small =
      subst (λ end. From go frames around at end free frame turns (just on)) (plus-none at) (from-none go frames around at free frame turns)

  pub action-runs : (at : ℕ) (before : Before) (deed : Deed) → TextsStand code before.texts (texts_of_deed deed) → StandAt code line at (action_code scope before around deed)
      → action_is_lowered scope main (labels_of around) deed ≡ true → EndBehind (at + length (action_code scope before around deed)) around
      → Runs code go scope frames around at (at + length (action_code scope before around deed)) before.groups (groups_of_deed scope deed) (actions.act scope called line deed)
  action-runs at before (assign target tree) there stand so ends = deed-runs at before.texts before.groups (assign target tree) there stand so
  action-runs at before (fill text trees) there stand so ends = deed-runs at before.texts before.groups (fill text trees) there stand so
  action-runs at before (print written trees) there stand so ends = deed-runs at before.texts before.groups (print written trees) there stand so
  action-runs at before (cycle given) there stand so ends =
      way-out at before.groups (λ found. found.next) given (cycles given) so stand (λ end found e. ap (option_map (λ found. found.next)) e)
      (λ found e. (ends-behind (at + length (jump_code (λ found. found.next) (loop_named around given))) around given found ends e).0)
  action-runs at before (exit given) there stand so ends =
      way-out at before.groups (λ found. found.behind) given (exits given) so stand (λ end found e. ap (option_map (λ found. found.behind)) e)
      (λ found e. (ends-behind (at + length (jump_code (λ found. found.behind) (loop_named around given))) around given found ends e).1)
  action-runs at before continue there stand so ends = continued at before.groups
  action-runs at before stop there stand so ends = stopped at before.groups stand
  action-runs at before error_stop there stand so ends = failed at before.groups stand
  action-runs at before (call n b t) there stand so ends = absurd (false≢true so)
  action-runs at before return there stand so ends = absurd (false≢true so)
  action-runs at before (read b t) there stand so ends = absurd (false≢true so)

  -- An action behind a test.
  pub guarded-runs : (before : Before) (tree : Tree) (deed : Deed) → TextsStand code before.texts (texts_of_deed deed)
      → StandAt code line before.at (guarded_code before.at (value_code scope tree) (action_code scope before around deed))
      → is_usable scope tree ≡ true → action_is_lowered scope main (labels_of around) deed ≡ true
      → EndBehind (before.at + length (guarded_code before.at (value_code scope tree) (action_code scope before around deed))) around
      → Runs code go scope frames around before.at (before.at + length (guarded_code before.at (value_code scope tree) (action_code scope before around deed))) before.groups
      (groups_of_deed scope deed) (value scope called line tree >>= (λ z. cond (truth z) (actions.act scope called line deed) (just on)))
  guarded-runs before tree deed there stand usable so ends frame turns stands small =
      subst (λ end. From go frames around before.at end before.groups frame turns (value scope called line tree >>= (λ z. cond (truth z) (actions.act scope called line deed) (just on)))) (sym long)
      (from-tested flows scope called frames line around before.at start end end before.groups tree frame turns (actions.act scope called line deed) (just on) (stands turns).names
      (stand-left (test_code test end) whats stand) usable refl (omega arith)
      (action-runs start before deed there (subst (λ at. StandAt code line at whats) begins (stand-right before.at (test_code test end) whats stand)) so
      (subst (λ at. EndBehind at around) long ends) frame turns stands small)
      (from-none go frames around end before.groups frame turns))
    where
      test : List What
      test = value_code scope tree

      whats : List What
      whats = action_code scope before around deed

      start : ℕ
      start = before.at + (length test + 1)

      end : ℕ
      end = start + length whats

      begins : before.at + length (test_code test end) ≡ start
      begins = omega (arith, length-append test (What.JumpFalse end ∷ []))

      long : before.at + length (test_code test end ++ whats) ≡ end
      long = omega (arith, length-append (test_code test end) whats, length-append test (What.JumpFalse end ∷ []))
