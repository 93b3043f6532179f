-- A loop of the main program that the plain judge visits: what is asked of the loop, and what is left of the
-- store. This project's own.
use Rattle.std.specs.Prelude.{◌≡◌, ℕ, List, [], ◌∷◌, map, if◌then◌else◌, pos, IsTrue}
use Rattle.dc_int.specs.declared.fault.FaultKind.{FaultKind}
use Rattle.dc_int.specs.declared.fault.Why.{Why}
use Rattle.dc_int.specs.Store.{Store}
use Rattle.dc_code.specs.declared.verdict.Verdict as answers
use Rattle.dc_code.specs.Combinations.{Span, values_of}
use Rattle.dc_code.specs.Computation.{Reached, Run, over, done, bad}
use Rattle.dc_code.specs.Inner.{judging, nested_loop, greatest_depth}
use Rattle.dc_code.specs.Loops.{Loop, HeaderResult, header_of, are_too_many}
use Rattle.dc_code.specs.Troubles.{Event, Failure, Trouble, ended, in_statement}
use Rattle.dc_code.specs.Verdicts.{Verdict, go_on, seen, judged_by}
use Rattle.dc_code.specs.Visits.{Visited}
use Rattle.dc_tree.specs.declared.symbols.Symbol.{Symbol}
use Rattle.dc_tree.specs.Blocks.{Items, Source}
use Rattle.dc_form.specs.BuiltPrograms.{are_built_symbols, is_built_loop}
use Rattle.dc_tree.specs.Entities.{main_scope}
use Rattle.dc_tree.specs.Statements.{Statement}
use Rattle.dc_walk.specs.declared.header.Limits.{Limits}
use Rattle.dc_meaning.specs.Looping.{index_name}
use Rattle.dc_walk.specs.Judging.{IsRunBy, IsPlainly, combination}
use Rattle.dc_meaning.specs.Programs.{program_forms}
use Rattle.dc_meaning.specs.WalkScope.{index_scope}

-- ---- the header of a loop with one index

abbrev pub span_with : Limits → Span
span_with limits = record { first = limits.first; last = limits.last; step = pos 1 }

-- What a header comes to with these limits.
abbrev pub opened : ℕ → Span → ℕ → Reached ⊥ Trouble HeaderResult
opened line span turns =
    if are_too_many (span ∷ []) then bad (ended (Why.Fault FaultKind.TooManyIterations) line [])
    else done (record { iterations = map combination (values_of span); turns = turns })

-- What the computation of the limits comes to tells what the whole header then comes to: with the values of one
-- index, which steps by 1, to their iterations or to being too many, and with a failure to its trouble. To nothing
-- else does it come.
abbrev pub ComesTo : ℕ → Reached Event Failure (List Span × ℕ) → Reached ⊥ Trouble HeaderResult → Type 0
ComesTo line (done (span ∷ [], left)) reached = (span.step ≡ pos 1) × (reached ≡ opened line span left)
ComesTo line (bad failure) reached = reached ≡ bad (in_statement failure)
ComesTo line other reached = ⊥

-- A run of that computation changes no element.
pub record HeadsSo (line : ℕ) (store : Store) (run : Run Event Failure (List Span × ℕ)) (reached : Reached ⊥ Trouble HeaderResult) : Type 0 where
  pub stays : run.store ≡ store
  pub comes : ComesTo line run.reached reached

-- ---- what is asked of a loop

-- A loop that is run today: its header gives the values of its index or comes to a fault, its variables have
-- unspecified locality, and what the walker does for its block, given so many turns, is an iteration.
pub record IsVisitable (parts : Loop) (symbols : List Symbol) (turns line : ℕ) (head : Statement) (block : Items) : Type 0 where
  pub names : IsTrue (are_built_symbols symbols)
  pub built : IsTrue (is_built_loop (main_scope symbols) head block)
  pub run : IsRunBy parts turns (index_scope symbols (index_name head)) block
  pub heads : (store : Store) (left : ℕ) → HeadsSo line store (over store (parts.form.header left)) (over store (header_of parts.form left)).reached
  pub plainly : IsPlainly parts

-- The loop of a number in a program, as the main program reaches it.
abbrev pub loop_parts : List Symbol → Source → ℕ → ℕ → Loop
loop_parts symbols source turns place = nested_loop judging (program_forms symbols source turns) greatest_depth place []

-- ---- what is left

abbrev pub visit_of : Verdict → Store → ℕ → Visited
visit_of go_on store turns = record { verdict = go_on; store = store; turns = turns }
visit_of verdict store turns = record { verdict = verdict; store = store; turns = 0 }

-- What is said of the iterations that a header comes to with these limits, and the store behind the loop: the
-- closing store where it goes on, and the same store where it doesn't.
pub record IsVisitBetween (parts : Loop) (line : ℕ) (span : Span) (before after : Store) (said : answers.Verdict) : Type 0 where
  pub is : (turns : ℕ) → judged_by parts before (opened line span turns) ≡ visit_of (seen said) after turns
