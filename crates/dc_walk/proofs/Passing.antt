-- From what the walker answers for a block to the passage of an iteration.
use Rattle.std.proofs.Common.{◌≡◌, ℕ, suc, Bool, true, false, List, [], ◌∷◌, ◌++◌, map, Option, Some, None, refl, sym, ap, subst, ◌∙◌, append_assoc, append-nil}
use Rattle.std.specs.Prelude.{Result, Ok, Err, IfOk, ℤ}
use Rattle.std.proofs.lemmas.Bool.{false≢true}
use Rattle.std.proofs.lemmas.Option.{none-some, same_Some}
use Rattle.dc_int.specs.Entries.{Reads, Defines, Undefines, Contributes, accesses_of, last_states, contributions_of}
use Rattle.dc_int.specs.Store.{Store, value_at, bounds_of}
use Rattle.dc_code.specs.Computation.{give, fail, read, define, undefine, contribute, ask, pause, Reached, done, bad, paused}
use Rattle.dc_code.specs.Inner.{judging, nested_loop, inner}
use Rattle.dc_code.specs.Loops.{Orders, Form}
use Rattle.dc_code.specs.Passages.{Entering, through}
use Rattle.dc_code.specs.Troubles.{Failure, Trouble, in_statement, Computing, Event, Slots}
use Rattle.dc_plain.specs.Views.{View, noted, store_with}
use Rattle.dc_tree.specs.declared.program.Program.{Program}
use Rattle.dc_tree.specs.declared.symbols.Symbol.{Symbol}
use Rattle.dc_tree.specs.Blocks.{Line, Items, Source, source_of}
use Rattle.dc_form.specs.BuiltPrograms.{is_built}
use Rattle.dc_tree.specs.Entities.{main_scope}
use Rattle.dc_walk.specs.declared.alone_out.AloneOut.{AloneOut}
use Rattle.dc_meaning.specs.declared.stop.Stop.{Stop}
use Rattle.dc_meaning.specs.Acts.{Act}
use Rattle.dc_meaning.specs.Actions.{Flow}
use Rattle.dc_walk.specs.Alone.{trouble_of, Tells, block_alone, iteration_alone, Ends}
use Rattle.dc_meaning.specs.Looping.{nth_loop, index_name}
use Rattle.dc_meaning.specs.Execution.{exec_all}
use Rattle.dc_meaning.specs.Headers.{inside_frame}
use Rattle.dc_meaning.specs.Programs.{surroundings, program_forms}
use Rattle.dc_walk.specs.Flows.{Finishes}
use Rattle.dc_walk.specs.Telling.{IsTold}
use Rattle.dc_meaning.specs.Values.{Callee}
use Rattle.dc_meaning.specs.Walking.{seen_over, state_in}
use Rattle.dc_meaning.specs.WalkScope.{index_scope}
use Rattle.dc_meaning.proofs.Looping.{concurrent-with, block-form}
use Rattle.dc_meaning.proofs.ProgramLoops.{form-is, loop-at, none-at, no-copies}
use Rattle.dc_meaning.proofs.Walking.{then, seen-then}

-- ---- a block without loops passes as it runs

abbrev Outcome : Type 0
Outcome = View × Reached Event Failure ℕ

is_done : Outcome → Bool
is_done (view, done n) = true
is_done (view, bad failure) = false
is_done (view, paused event rest) = false

is_bad : Outcome → Bool
is_bad (view, done n) = false
is_bad (view, bad failure) = true
is_bad (view, paused event rest) = false

failure_in : Failure → Outcome → Failure
failure_in other (view, done n) = other
failure_in other (view, bad failure) = failure
failure_in other (view, paused event rest) = other

-- the trouble of a passage, and its entries behind those of a view
abbrev pub Passes : Entering → Orders → View → Computing ℕ → View → Option Trouble → Type 0
Passes enter orders before c after trouble =
    ((through enter before.store orders c).trouble ≡ trouble) × (before.entries ++ (through enter before.store orders c).entries ≡ after.entries)

pub passes-well : (enter : Entering) (orders : Orders) (before after : View) (c : Computing ℕ) (n : ℕ) → seen_over before c ≡ (after, done n) → Passes enter orders before c after None
unfolding is_done
passes-well enter orders before after (give m) n e = (refl, append-nil before.entries ∙ ap (λ w. w.0.entries) e)
passes-well enter orders before after (fail failure) n e = absurd (false≢true (ap is_done e))
passes-well enter orders before after (read x line rest) n e =
    let later = passes-well enter orders (noted (Reads x line) before) after (rest (value_at before.store x)) n e in
    (later.0, sym (append_assoc before.entries (Reads x line ∷ []) (through enter before.store orders (rest (value_at before.store x))).entries) ∙ later.1)
passes-well enter orders before after (define x value line rest) n e =
    let next = noted (Defines x value line) before in
    let later = passes-well enter orders next after rest n e in
    (later.0, sym (append_assoc before.entries (Defines x value line ∷ []) (through enter next.store orders rest).entries) ∙ later.1)
passes-well enter orders before after (undefine x line rest) n e =
    let next = noted (Undefines x line) before in
    let later = passes-well enter orders next after rest n e in
    (later.0, sym (append_assoc before.entries (Undefines x line ∷ []) (through enter next.store orders rest).entries) ∙ later.1)
passes-well enter orders before after (contribute x op value rest) n e =
    let next = noted (Contributes x op value) before in
    let later = passes-well enter orders next after rest n e in
    (later.0, sym (append_assoc before.entries (Contributes x op value ∷ []) (through enter next.store orders rest).entries) ∙ later.1)
passes-well enter orders before after (ask variable rest) n e = passes-well enter orders before after (rest (bounds_of before.store variable)) n e
passes-well enter orders before after (pause event rest) n e = absurd (false≢true (ap is_done e))

pub passes-badly : (enter : Entering) (orders : Orders) (before after : View) (c : Computing ℕ) (failure : Failure) → seen_over before c ≡ (after, bad failure)
    → Passes enter orders before c after (Some (in_statement failure))
unfolding is_bad failure_in
passes-badly enter orders before after (give m) failure e = absurd (false≢true (ap is_bad e))
passes-badly enter orders before after (fail other) failure e =
    (ap (λ w. Some (in_statement (failure_in other w))) e, append-nil before.entries ∙ ap (λ w. w.0.entries) e)
passes-badly enter orders before after (read x line rest) failure e =
    let later = passes-badly enter orders (noted (Reads x line) before) after (rest (value_at before.store x)) failure e in
    (later.0, sym (append_assoc before.entries (Reads x line ∷ []) (through enter before.store orders (rest (value_at before.store x))).entries) ∙ later.1)
passes-badly enter orders before after (define x value line rest) failure e =
    let next = noted (Defines x value line) before in
    let later = passes-badly enter orders next after rest failure e in
    (later.0, sym (append_assoc before.entries (Defines x value line ∷ []) (through enter next.store orders rest).entries) ∙ later.1)
passes-badly enter orders before after (undefine x line rest) failure e =
    let next = noted (Undefines x line) before in
    let later = passes-badly enter orders next after rest failure e in
    (later.0, sym (append_assoc before.entries (Undefines x line ∷ []) (through enter next.store orders rest).entries) ∙ later.1)
passes-badly enter orders before after (contribute x op value rest) failure e =
    let next = noted (Contributes x op value) before in
    let later = passes-badly enter orders next after rest failure e in
    (later.0, sym (append_assoc before.entries (Contributes x op value ∷ []) (through enter next.store orders rest).entries) ∙ later.1)
passes-badly enter orders before after (ask variable rest) failure e = passes-badly enter orders before after (rest (bounds_of before.store variable)) failure e
passes-badly enter orders before after (pause event rest) failure e = absurd (false≢true (ap is_bad e))

-- ---- what the walker tells

tells : (enter : Entering) (store : Store) (c : Computing ℕ) (after : View) (trouble : Option Trouble) (out : AloneOut) → Passes enter [] (record { store = store; entries = [] }) c after trouble
    → trouble ≡ trouble_of out.ending → out.accesses ≡ accesses_of after.entries → out.touches ≡ last_states after.entries → out.contributions ≡ contributions_of after.entries
    → Tells (through enter store [] c) out
tells enter store c after trouble out passes ends accesses touches contributions = record {
  ending = passes.0 ∙ ends;
  accesses = accesses ∙ ap accesses_of (sym passes.1);
  touches = touches ∙ ap last_states (sym passes.1);
  contributions = contributions ∙ ap contributions_of (sym passes.1);
}

pub told-tells : (enter : Entering) (store : Store) (c : Computing ℕ) (after : View) (result : Result (Unit {0}) Stop) (out : AloneOut)
    → Ends (record { store = store; entries = [] }) c after result → IsTold after.entries result out → Tells (through enter store [] c) out
told-tells enter store c after (Ok well) out ends told =
    tells enter store c after None out (passes-well enter [] (record { store = store; entries = [] }) after c (ends.answers).0 (ends.answers).1)
    (ap trouble_of (same_Some _ _ told.ending)) told.accesses told.touches told.contributions
told-tells enter store c after (Err (Stop.Failed why line)) out ends told =
    let failure : Failure = record { why = why; line = line } in
    tells enter store c after (Some (in_statement failure)) out (passes-badly enter [] (record { store = store; entries = [] }) after c failure ends.answers)
    (ap trouble_of (same_Some _ _ told.ending)) told.accesses told.touches told.contributions
told-tells enter store c after (Err Stop.NoMemory) out ends told = absurd (none-some _ told.ending)

pub if-ok : {A E : Type 0} (P Q : A → Type 0) (r : Result A E) → ((a : A) → P a → Q a) → IfOk r P → IfOk r Q
if-ok P Q (Ok a) leads holds = leads a holds
if-ok P Q (Err e) leads holds = tt

-- ---- the block of an iteration

ends-finishes : {own : Slots} {before after : View} {act : Callee → Act Flow} (call : Callee) (turns : ℕ) (r : Result (Unit {0}) Stop) → Finishes own turns before act after r
    → Ends before (inside_frame own turns (act call) (λ flow left. left)) after r
ends-finishes {own = own} {before = before} {act = act} call turns (Ok well) finishes =
    record { answers = (finishes.left, seen-then before (act call (state_in own turns)) (λ w. give (w.1).turns) ∙ ap (λ w. then w (λ w. give (w.1).turns)) (finishes.walks.answers call)) }
ends-finishes {own = own} {before = before} {act = act} call turns (Err (Stop.Failed why line)) finishes =
    record { answers = seen-then before (act call (state_in own turns)) (λ w. give (w.1).turns) ∙ ap (λ w. then w (λ w. give (w.1).turns)) (finishes.walks.answers call) }
ends-finishes call turns (Err Stop.NoMemory) finishes = record { answers = tt }

ends-as : {before after : View} {c other : Computing ℕ} {r : Result (Unit {0}) Stop} → c ≡ other → Ends before other after r → Ends before c after r
ends-as {before = before} {after = after} {r = r} same ends = subst (λ d. Ends before d after r) (sym same) ends

module _ (symbols : List Symbol) (source : Source) (form : is_built symbols source ≡ true) (number : ℕ) where
  pub loop-ends : {before after : View} {r : Result (Unit {0}) Stop} (head : Line) (body : Items) (z : ℤ) (turns : ℕ) → Some (head, body) ≡ nth_loop number source.body
      → ((counted : ℕ) → Finishes ((Some z ∷ []) ∷ []) turns before (λ call. exec_all (index_scope symbols (index_name head.says)) call counted body) after r)
      → Ends before (block_alone symbols source number (z ∷ []) turns) after r
  loop-ends {r = r} head body z turns is finishes =
      let at = loop-at symbols source form number turns head body is in
      let within = surroundings symbols source turns in
      ends-as
      (ap (λ (f : Form). f.block [] (z ∷ [])) (form-is symbols source turns number [] (Some (concurrent-with (main_scope symbols) at.counted head body at.built.ranging)) at.at)
      ∙ block-form within symbols at.counted head body at.built z)
      (ends-finishes within.call within.turns r (finishes (suc at.counted)))

  pub none-ends : {view : View} (z : ℤ) (turns : ℕ) → None ≡ nth_loop number source.body → Ends view (block_alone symbols source number (z ∷ []) turns) view (Ok tt)
  none-ends z turns is =
      ends-as (ap (λ (f : Form). f.block [] (z ∷ [])) (form-is symbols source turns number [] None (none-at symbols source form number turns is))) (record { answers = (0, refl) })

-- ---- an iteration alone

pub alone-tells : (program : Program) (symbols : List Symbol) (number : ℕ) (combination : List ℤ) (opening : List (Option ℤ)) (turns : ℕ) (cells after : View) (z : ℤ) (result : Result (Unit {0}) Stop) (out : AloneOut)
    → is_built symbols (source_of program) ≡ true → cells ≡ record { store = store_with symbols opening; entries = [] } → combination ≡ z ∷ []
    → Ends cells (block_alone symbols (source_of program) number (z ∷ []) turns) after result → IsTold after.entries result out
    → Tells (iteration_alone program symbols number combination opening turns) out
alone-tells program symbols number combination opening turns cells after z result out form cells-is given ends told =
    let source = source_of program in
    let forms = program_forms symbols source turns in
    let loop = forms number [] in
    let store = store_with symbols opening in
    told-tells (λ inside left around here orders. inner judging (nested_loop judging forms 63 inside around) left here orders) store (loop.block (map (value_at store) loop.copied) combination) after result out
    (ends-as (λ i. loop.block (map (value_at store) (no-copies symbols source form number turns i)) (given i))
    (subst (λ v. Ends v (loop.block [] (z ∷ [])) after result) cells-is ends))
    told
