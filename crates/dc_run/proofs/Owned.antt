-- The accesses of a loop, and the element that a race of a visit names, are of elements that are there.
use Rattle.std.proofs.Common.{◌≡◌, ℕ, true, List, [], ◌∷◌, Option, Some, None, refl, sym, ap, subst, ◌∙◌}
use Rattle.std.specs.Prelude.{ℤ}
use Rattle.dc_int.specs.declared.access.Access.{Access}
use Rattle.dc_int.specs.Entries.{Entry}
use Rattle.dc_int.specs.Store.{Store}
use Rattle.dc_code.specs.declared.verdict.Race.{Race}
use Rattle.dc_code.specs.declared.verdict.Verdict as answers
use Rattle.dc_code.specs.Computation.{Reached, done, bad, paused, over}
use Rattle.dc_code.specs.Laws.{Made}
use Rattle.dc_code.specs.Loops.{Loop, HeaderResult, header_of}
use Rattle.dc_code.specs.Troubles.{Trouble}
use Rattle.dc_code.specs.Verdicts.{Verdict, go_on, at_header, in_iteration, race, verdict, visited_by, judged_by}
use Rattle.dc_code.specs.Visits.{Visited}
use Rattle.dc_code.proofs.Orders.{race-in_order}
use Rattle.dc_tree.specs.declared.symbols.Symbol.{Symbol}
use Rattle.dc_tree.specs.Blocks.{Source}
use Rattle.dc_form.specs.BuiltPrograms.{are_built_symbols, is_built}
use Rattle.dc_meaning.specs.Programs.{program_forms}
use Rattle.dc_walk.proofs.EveryOrder.{accesses-may}
use Rattle.dc_meaning.proofs.ProgramLoops.{built-source}
use Rattle.dc_run.proofs.Elements.{to_elements, names-own, element-there}
use Rattle.dc_run.specs.declared.ending.Ending as endings
use Rattle.dc_run.specs.Answered.{IsElement, NamesOwn, NamesThere}
use Rattle.dc_run.specs.Running.{loop_in, AccessesOwn, StepsOwn, IsVisitWith, stopped_by, step_behind}

-- An element of a variable is there.
pub names-there : (symbols : List Symbol) → are_built_symbols symbols ≡ true → (ending : endings.Ending) → NamesOwn symbols ending → NamesThere symbols ending
names-there symbols built endings.Ending.Done own = tt
names-there symbols built (endings.Ending.Bad why line) own = tt
names-there symbols built (endings.Ending.Stopped answers.Verdict.GoOn) own = tt
names-there symbols built (endings.Ending.Stopped (answers.Verdict.HeaderFault why line mask)) own = tt
names-there symbols built (endings.Ending.Stopped (answers.Verdict.IterFault why line at)) own = tt
names-there symbols built (endings.Ending.Stopped (answers.Verdict.IterSpent line at)) own = tt
names-there symbols built (endings.Ending.Stopped (answers.Verdict.Race found first second)) own = element-there symbols built found.element own

-- The accesses of a loop of the program.
pub accesses-own : (symbols : List Symbol) (source : Source) (turns number : ℕ) → is_built symbols source ≡ true → AccessesOwn symbols (loop_in (program_forms symbols source turns) number)
unfolding loop_in
accesses-own symbols source turns number built =
    let own = names-own symbols (built-source symbols source built).names in
    record { each = λ store at access made. accesses-may symbols source built turns number [] (to_elements symbols) own store at made.place access made.is }

-- ---- a race of a visit

said-kept : (loop : Loop) (store : Store) (opening : HeaderResult) (said : Verdict) → (visited_by loop store opening said).verdict ≡ said
said-kept loop store opening go_on = refl
said-kept loop store opening (at_header trouble) = refl
said-kept loop store opening (in_iteration trouble at) = refl
said-kept loop store opening (race found first second) = refl

same-first : (one other : List Entry) (rest more : List (List Entry)) → one ∷ rest ≡ other ∷ more → one ≡ other
same-first one other rest more e = cc

race-own : (symbols : List Symbol) (loop : Loop) (store : Store) (iterations : List (List ℤ)) (found : Race) (first second : List ℤ) → AccessesOwn symbols loop
    → verdict loop store iterations ≡ race found first second → IsElement symbols found.element
race-own symbols loop store iterations found first second own told =
    let begins = race-in_order loop store iterations found first second told [] in
    let access : Access = record { action = found.first.action; element = found.element; line = found.first.line } in
    let same : begins.one ≡ (loop.block store [] first).entries = sym (same-first _ begins.one _ _ begins.runs) in
    own.each store first access (subst (Made access) same begins.real.first_does)

-- However the header ended.
judged-own : (symbols : List Symbol) (loop : Loop) (store : Store) (reached : Reached ⊥ Trouble HeaderResult) (found : Race) (first second : List ℤ) → AccessesOwn symbols loop
    → (judged_by loop store reached).verdict ≡ race found first second → IsElement symbols found.element
judged-own symbols loop store (bad trouble) found first second own told = cc
judged-own symbols loop store (done given) found first second own told =
    race-own symbols loop store given.iterations found first second own (sym (said-kept loop store given (verdict loop store given.iterations)) ∙ told)
judged-own symbols loop store (paused event rest) found first second own told = absurd event

-- Where the run ends here by a race, its element is there.
abbrev MeetsOwn : List Symbol → Option endings.Ending → Type 0
MeetsOwn symbols None = Unit {0}
MeetsOwn symbols (Some ending) = NamesOwn symbols ending

own-of : (symbols : List Symbol) (loop : Loop) (turns left : ℕ) (before after : Store) (said : answers.Verdict) → AccessesOwn symbols loop → IsVisitWith loop turns left before after said → MeetsOwn symbols (stopped_by said)
own-of symbols loop turns left before after answers.Verdict.GoOn own visit = tt
own-of symbols loop turns left before after (answers.Verdict.HeaderFault why line mask) own visit = tt
own-of symbols loop turns left before after (answers.Verdict.IterFault why line at) own visit = tt
own-of symbols loop turns left before after (answers.Verdict.IterSpent line at) own visit = tt
own-of symbols loop turns left before after (answers.Verdict.Race found first second) own visit =
    judged-own symbols loop before (over before (header_of loop.form turns)).reached found first second own (ap (λ (v : Visited). v.verdict) visit.is)

own-behind : (symbols : List Symbol) (at left : ℕ) (met : Option endings.Ending) → MeetsOwn symbols met → StepsOwn symbols (step_behind at left met)
own-behind symbols at left None own = tt
own-behind symbols at left (Some ending) own = own

pub visit-own : (symbols : List Symbol) (loop : Loop) (at turns left rest : ℕ) (before after : Store) (said : answers.Verdict) → AccessesOwn symbols loop → IsVisitWith loop turns left before after said
    → StepsOwn symbols (step_behind at rest (stopped_by said))
visit-own symbols loop at turns left rest before after said own visit = own-behind symbols at rest (stopped_by said) (own-of symbols loop turns left before after said own visit)
