-- A run's visits, its ending and the line of the log go together.
use Rattle.std.proofs.Common.{◌≡◌, ◌≢◌, ℕ, Bool, true, false, List, [], ◌∷◌, All, Some, None, Result, Ok, Err, refl, sym, ap, subst, ◌∙◌, inl, inr}
use Rattle.std.proofs.lemmas.List.Elements.{All-nil, All-cons}
use Rattle.std.proofs.lemmas.Option.{none-some}
use Rattle.std.specs.List.{list_all}
use Rattle.std.specs.Prelude.{◌⊎◌, ℤ, pos, nat_le, if◌then◌else◌}
use Rattle.dc_int.specs.declared.access.ElementId.{ElementId}
use Rattle.dc_int.specs.declared.fault.FaultKind.{FaultKind}
use Rattle.dc_int.specs.declared.fault.Why.{Why}
use Rattle.dc_int.specs.Sorts.{Sort}
use Rattle.dc_int.specs.Store.{Store, value_at, put_at, bounds_of}
use Rattle.dc_code.specs.declared.verdict.Verdict as answers
use Rattle.dc_code.specs.Computation.{give, fail, read, define, undefine, contribute, ask, pause}
use Rattle.dc_code.specs.EveryOrder.{SaysOfOrders, TellsHeader, TellsOrders}
use Rattle.dc_code.specs.Inner.{judging, nested_loop, greatest_depth}
use Rattle.dc_code.specs.Loops.{Loop}
use Rattle.dc_code.specs.Troubles.{Trouble, raced, inside, Computing, Slots, Event, write_line, take_value, take_elements, end_reading, enter_loop, stop}
use Rattle.dc_code.specs.Verdicts.{Verdict, go_on, at_header, in_iteration, race, side, trouble_in}
use Rattle.dc_code.specs.Visits.{Visited, visited}
use Rattle.dc_lists.specs.Input as input
use Rattle.dc_tree.specs.declared.symbols.Symbol.{Symbol}
use Rattle.dc_tree.specs.Blocks.{Source}
use Rattle.dc_form.specs.BuiltPrograms.{is_built}
use Rattle.dc_tree.specs.Symbols.{is_sound}
use Rattle.dc_meaning.specs.Programs.{first_store, main_computation, program_forms}
use Rattle.dc_walk.proofs.EveryOrder.{loop-says}
use Rattle.dc_run.specs.declared.ending.Ending as endings
use Rattle.dc_run.specs.declared.ending.RunOut.{RunOut}
use Rattle.dc_run.specs.Answered.{ending_of, IsRunOf}
use Rattle.dc_run.specs.Headline.{Reports}
use Rattle.dc_run.specs.Playing.{Visit, bounds_in, Outcome, Standing, Looping, greatest_output, ends_with, behind_output, behind_visit, fails_with, with_input, with_store, takes_one, takes_each, ends_reading, behind_loop, answered, played, looping_by, run}
use Rattle.dc_run.specs.ReportLine.{Ending, done, bad, stopped, outside_names}
use Rattle.dc_run.specs.ReportLine as lines
use Rattle.dc_run.specs.Visits.{loop_at, IsJudged, HoldsAt, in_header, in_orders, WentOn, EndsOutsideLoops, EndsBy}
use Rattle.dc_run.proofs.Stores.{stores-fit}

abbrev visit_by : ℕ → Slots → ℕ → Store → Visited → Visit
visit_by number slots turns store found = record { loop = number; inside = slots; turns = turns; opening = store; verdict = found.verdict; after = found.store }

module _ (names : List (List ℕ)) where
  -- one more loop that went on, before the others
  went-on : (visit : Visit) (visits : List Visit) (ending : Ending) → WentOn visit → EndsBy names visits ending → EndsBy names (visit ∷ visits) ending
  went-on visit visits ending on (inl all) = inl (record { each = All-cons WentOn visit visits on all.each; ends = all.ends })
  went-on visit visits ending on (inr ended) =
      inr
      (record {
        before = visit ∷ ended.before;
        last = ended.last;
        are = ap (λ (others : List Visit). visit ∷ others) ended.are;
        each = All-cons WentOn visit ended.before on ended.each;
        trouble = ended.trouble;
        met = ended.met;
        ends = ended.ends;
        told = ended.told;
      })

module _ (looping : Looping) (names : List (List ℕ)) (P : Visit → Type 0)
    (holds : (number : ℕ) (slots : Slots) (left : ℕ) (store : Store) → P (visit_by number slots left store (looping number slots left store))) where
  -- Each visit is as it should be, and the ending goes with them.
  pub record Good (outcome : Outcome) : Type 0 where
    pub each : All P outcome.visits
    pub ends : EndsBy names outcome.visits outcome.ending

  -- what follows a pause
  abbrev GoodThen : (Standing → ℤ → Outcome) → Type 0
  GoodThen rest = (then_at : Standing) (told : ℤ) → Good (rest then_at told)

  good-end : (ending : Ending) → EndsOutsideLoops ending → Good (ends_with ending)
  good-end ending outside = record { each = All-nil P; ends = inl (record { each = All-nil WentOn; ends = outside }) }

  good-fault : (kind : FaultKind) (line : ℕ) → Good (fails_with kind line)
  good-fault kind line = good-end (bad (record { why = Why.Fault kind; line = line })) tt

  good-line : (line : ℕ) (bytes : List ℕ) (next : Outcome) (fits : Bool) → Good next → Good (if fits then behind_output bytes next else fails_with FaultKind.OutputFull line)
  good-line line bytes next true good = record { each = good.each; ends = good.ends }
  good-line line bytes next false good = good-fault FaultKind.OutputFull line

  good-one : (at : Standing) (line : ℕ) (taken : Result (ℤ × List ℕ) FaultKind) (rest : Standing → ℤ → Outcome) → GoodThen rest → Good (takes_one at line taken rest)
  good-one at line (Ok (z, left)) rest good = good (with_input at left) z
  good-one at line (Err fault) rest good = good-fault fault line

  good-each : (line : ℕ) (sort : Sort) (elements : List ElementId) (at : Standing) (rest : Standing → ℤ → Outcome) → GoodThen rest → Good (takes_each line sort elements at rest)
  good-each line sort [] at rest good = good at _
  good-each line sort (x ∷ elements) at rest good =
      good-one at line (input.take_value sort at.input) (λ then_at z. takes_each line sort elements (record { store = put_at then_at.store x (Some z); input = then_at.input; used = then_at.used }) rest)
      (λ then_at z. good-each line sort elements (record { store = put_at then_at.store x (Some z); input = then_at.input; used = then_at.used }) rest good)

  good-reading : (at : Standing) (line : ℕ) (ended : Result (List ℕ) FaultKind) (rest : Standing → ℤ → Outcome) → GoodThen rest → Good (ends_reading at line ended rest)
  good-reading at line (Ok left) rest good = good (with_input at left) _
  good-reading at line (Err fault) rest good = good-fault fault line

  -- a loop that stops the run
  good-stop : (visit : Visit) (trouble : Trouble) → trouble_in visit.verdict ≡ Some trouble → P visit → Good (behind_visit visit (ends_with (stopped visit.verdict (bounds_in visit.opening visit.verdict))))
  good-stop visit trouble met here =
      record {
        each = All-cons P visit [] here (All-nil P);
        ends =
            inr
            (record {
              before = [];
              last = visit;
              are = refl;
              each = All-nil WentOn;
              trouble = trouble;
              met = met;
              ends = refl;
              told = ap (lines.told names (bounds_in visit.opening visit.verdict)) met;
            });
      }

  good-loop : (at : Standing) (number : ℕ) (slots : Slots) (turns : ℕ) (said : Verdict) (after : Store) (left : ℕ) (rest : Standing → ℤ → Outcome) → GoodThen rest
      → P (visit_by number slots turns at.store (record { verdict = said; store = after; turns = left }))
      → Good (behind_visit (visit_by number slots turns at.store (record { verdict = said; store = after; turns = left })) (behind_loop at (record { verdict = said; store = after; turns = left }) rest))
  good-loop at number slots turns go_on after left rest good here =
      let visit = visit_by number slots turns at.store (record { verdict = go_on; store = after; turns = left }) in
      let then_at : Standing = record { store = after; input = at.input; used = at.used } in
      let later = good then_at (pos left) in
      record {
        each = All-cons P visit (rest then_at (pos left)).visits here later.each;
        ends = went-on names visit (rest then_at (pos left)).visits (rest then_at (pos left)).ending refl later.ends;
      }
  good-loop at number slots turns (at_header trouble) after left rest good here =
      good-stop (visit_by number slots turns at.store (record { verdict = at_header trouble; store = after; turns = left })) trouble refl here
  good-loop at number slots turns (in_iteration trouble values) after left rest good here =
      good-stop (visit_by number slots turns at.store (record { verdict = in_iteration trouble values; store = after; turns = left })) (inside values trouble) refl here
  good-loop at number slots turns (race found first second) after left rest good here =
      good-stop (visit_by number slots turns at.store (record { verdict = race found first second; store = after; turns = left }))
      (raced found.element (side found.first first) (side found.second second) []) refl here

  good-pause : (at : Standing) (event : Event) (rest : Standing → ℤ → Outcome) → GoodThen rest → Good (answered looping at event rest)
  good-pause at (write_line line bytes) rest good =
      good-line line bytes (rest (record { store = at.store; input = at.input; used = _ }) _) (nat_le _ greatest_output) (good _ _)
  good-pause at (take_value line sort) rest good = good-one at line (input.take_value sort at.input) rest good
  good-pause at (take_elements line sort elements) rest good = good-each line sort elements at rest good
  good-pause at (end_reading line items) rest good = good-reading at line (input.end_reading items at.input) rest good
  good-pause at (enter_loop number turns slots) rest good =
      let found = looping number slots turns at.store in
      good-loop at number slots turns found.verdict found.store found.turns rest good (holds number slots turns at.store)
  good-pause at stop rest good = good-end done tt

  -- A main program that is run from where it stands.
  pub good-play : (at : Standing) (c : Computing Unit) → Good (played looping at c)
  good-play at (give end) = good-end done tt
  good-play at (fail failure) = good-end (bad failure) tt
  good-play at (read x line rest) = good-play at (rest (value_at at.store x))
  good-play at (define x z line rest) = good-play (with_store at (put_at at.store x (Some z))) rest
  good-play at (undefine x line rest) = good-play (with_store at (put_at at.store x None)) rest
  good-play at (contribute x op z rest) = good-play at rest
  good-play at (ask variable rest) = good-play at (rest (bounds_of at.store variable))
  good-play at (pause event rest) = good-pause at event (λ then_at told. played looping then_at (rest told)) (λ then_at told. good-play then_at (rest told))

-- ---- a program

abbrev Holds : List Symbol → Source → ℕ → Visit → Type 0
Holds symbols source turns visit = HoldsAt (loop_at symbols source turns visit) visit

-- what is said of a loop, at its visit
said-at : (loop : Loop) (number : ℕ) (slots : Slots) (turns : ℕ) (store : Store) → SaysOfOrders loop turns store → HoldsAt loop (visit_by number slots turns store (visited judging loop turns store))
said-at loop number slots turns store says = by says.says
  where
    by : TellsHeader loop turns store ⊎ TellsOrders loop turns store → HoldsAt loop (visit_by number slots turns store (visited judging loop turns store))
    by (inl header) = in_header header.trouble header.met header.is
    by (inr orders) = in_orders orders.given orders.opens orders.holds

run-reports : (symbols : List Symbol) (source : Source) (turns : ℕ) (given : List ℕ) → list_all is_sound symbols ≡ true → is_built symbols source ≡ true
    → Reports symbols source turns given (run judging symbols source turns given).output (run judging symbols source turns given).ending
run-reports symbols source turns given sound built =
    let looping = looping_by judging symbols source turns in
    let names = outside_names symbols in
    let at : Standing = record { store = first_store symbols; input = given; used = 0 } in
    let judged = good-play looping names (IsJudged symbols source turns) (λ number slots left store. record { said = refl; left = refl }) at (main_computation symbols source turns) in
    let says = good-play looping names (Holds symbols source turns)
    (λ number slots left store. said-at (nested_loop judging (program_forms symbols source turns) greatest_depth number slots) number slots left store (loop-says symbols source built turns number slots left store)) at (main_computation symbols source turns) in
    record { visits = (run judging symbols source turns given).visits; is = refl; ends = judged.ends; judged = judged.each; orders = says.each; fits = stores-fit symbols source turns given sound built }

-- What the code answers, where it is what the run of the definition writes and how that ends.
pub reports : (symbols : List Symbol) (source : Source) (turns : ℕ) (given : List ℕ) (out : RunOut) → list_all is_sound symbols ≡ true → is_built symbols source ≡ true → IsRunOf symbols source turns given out
    → Reports symbols source turns given out.output (ending_of symbols out.ending)
reports symbols source turns given out sound built is =
    subst (λ (ending : Ending). Reports symbols source turns given out.output ending) (sym is.ending)
    (subst (λ (output : List ℕ). Reports symbols source turns given output (run judging symbols source turns given).ending) (sym is.output) (run-reports symbols source turns given sound built))

-- ---- a run that is stopped

abbrev verdict_in : Ending → Verdict
verdict_in done = go_on
verdict_in (bad failure) = go_on
verdict_in (stopped verdict bounds) = verdict

-- A loop that goes on doesn't stop the run.
pub never-goes_on : (symbols : List Symbol) (ending : endings.Ending) (visits : List Visit) → EndsBy (outside_names symbols) visits (ending_of symbols ending) → ending ≢ endings.Ending.Stopped answers.Verdict.GoOn
never-goes_on symbols ending visits (inl all) = λ same. subst EndsOutsideLoops (ap (ending_of symbols) same) all.ends
never-goes_on symbols ending visits (inr ended) =
    λ same. absurd (none-some ended.trouble (ap (λ (e : Ending). trouble_in (verdict_in e)) (sym (ap (ending_of symbols) same) ∙ ended.ends) ∙ ended.met))
