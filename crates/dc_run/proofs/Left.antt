-- What is known behind a loop.
use Rattle.std.proofs.Common.{◌≡◌, ℕ, List, sym, ap, subst, ◌∙◌, IsTrue}
use Rattle.std.specs.Prelude.{min, slice_get, Some}
use Rattle.dc_int.specs.Shapes.{store_fits}
use Rattle.dc_int.specs.Store.{Store}
use Rattle.dc_code.specs.declared.instr.What.{What}
use Rattle.dc_code.specs.declared.verdict.Verdict as answers
use Rattle.dc_code.specs.Codes.{CodeLists}
use Rattle.dc_code.specs.Inner.{Forms}
use Rattle.dc_code.specs.Loops.{Loop}
use Rattle.dc_code.specs.Verdicts.{seen}
use Rattle.dc_code.specs.Visits.{Visited}
use Rattle.dc_code.proofs.Stores.{shape-then}
use Rattle.dc_tree.specs.declared.symbols.Symbol.{Symbol}
use Rattle.dc_tree.specs.Blocks.{Line, Items}
use Rattle.dc_meaning.specs.Programs.{first_store}
use Rattle.dc_run.specs.declared.standing.Standing as standings
use Rattle.dc_run.specs.declared.standing.Step.{Step}
use Rattle.dc_run.specs.declared.variables.Variables.{Variables}
use Rattle.dc_run.specs.Resuming.{IsUsual, Attends, IsReachable, KeepsFitting}
use Rattle.dc_run.specs.Running.{stopped_by, step_behind, IsVisitWith, loop_in, looping_in}
use Rattle.dc_run.proofs.Attending.{loop-attended}
use Rattle.dc_run.proofs.NamedBounds.{bounds-known}
use Rattle.dc_run.proofs.Owned.{visit-own}
use Rattle.dc_run.proofs.Visited.{visit-store, left-shape}

left-fits : (code : CodeLists) (loop : Loop) → KeepsFitting code loop → (turns left : ℕ) (before after : Store) (said : answers.Verdict) → IsVisitWith loop turns left before after said → IsTrue (store_fits code.shapes before) → IsTrue (store_fits code.shapes after)
left-fits code loop keeps turns left before after said visit fits =
    subst (λ s. IsTrue (store_fits code.shapes s)) (ap (λ (found : Visited). found.store) visit.is ∙ visit-store (seen said) after left) (keeps.each turns before fits)

abbrev pub behind : standings.Standing → Variables → standings.Standing
behind before after = record { variables = after; frame = before.frame; output = before.output }

pub usual-behind : (symbols : List Symbol) (code : CodeLists) (loop : Loop) (number : ℕ) (head : Line) (block : Items) (given turns left : ℕ) (before : standings.Standing) (after : Variables) (said : answers.Verdict) → IsReachable loop symbols code given number head block
    → after.shapes ≡ before.variables.shapes → IsVisitWith loop turns left before.variables.ledger.store after.ledger.store said → IsUsual symbols code before → IsUsual symbols code (behind before after)
usual-behind symbols code loop number head block given turns left before after said reachable shapes visit usual =
    record {
      shape = shape-then (first_store symbols) before.variables.ledger.store after.ledger.store usual.shape (left-shape loop reachable.keeps turns left before.variables.ledger.store after.ledger.store said visit);
      ready = record { same = shapes ∙ usual.ready.same; fits = left-fits code loop reachable.fits turns left before.variables.ledger.store after.ledger.store said visit usual.ready.fits };
      room = usual.room;
    }

pub attended-behind : (forms : Forms) (symbols : List Symbol) (code : CodeLists) (number : ℕ) (head : Line) (block : Items) (given at turns left line : ℕ) (before : standings.Standing) (after : Variables) (said : answers.Verdict) (step : Step)
    → IsReachable (loop_in forms number) symbols code given number head block → IsUsual symbols code before → IsVisitWith (loop_in forms number) turns left before.variables.ledger.store after.ledger.store said
    → step ≡ step_behind at (min left turns) (stopped_by said) → slice_get code.instructions at ≡ Some (record { line = line; what = What.Enter number })
    → Attends (looping_in forms) symbols code at turns before (behind before after) step
attended-behind forms symbols code number head block given at turns left line before after said step reachable usual visit is found =
    subst (Attends (looping_in forms) symbols code at turns before (behind before after)) (sym is)
    (loop-attended forms symbols code at turns left line number before after said found visit
    (bounds-known symbols before.variables.ledger.store said usual.shape)
    (visit-own symbols (loop_in forms number) at turns left (min left turns) before.variables.ledger.store after.ledger.store said reachable.owns visit))
