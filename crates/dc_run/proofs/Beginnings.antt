-- Where a run begins, and what it comes to.
use Rattle.std.proofs.Common.{◌≡◌, ◌+◌, ◌<◌, ℕ, suc, true, cond, None, List, [], ◌∷◌, map, length, refl, sym, ap, subst, ◌∙◌, arith}
use Rattle.std.proofs.lemmas.Bool.{and_parts, false≢true}
use Rattle.std.specs.List.{list_all}
use Rattle.std.specs.Prelude.{nat_le, ◌&&◌}
use Rattle.dc_code.specs.declared.instr.Instr.{Instr}
use Rattle.dc_code.specs.Codes.{CodeLists}
use Rattle.dc_code.specs.Inner.{Forms, judging}
use Rattle.dc_code.specs.Machine.{new_frame}
use Rattle.dc_tree.specs.declared.symbols.Symbol.{Symbol}
use Rattle.dc_tree.specs.declared.program.Node.{Node}
use Rattle.dc_tree.specs.Blocks.{Item, Items, Source, plain, branch, select, loop, item, items_from}
use Rattle.dc_form.specs.BuiltPrograms.{is_built, is_built_item, is_built_loop, is_built_block, is_built_index, all_spare, is_built_symbol, are_built_items, are_built_symbols, elements_of_all, greatest_elements, greatest_names}
use Rattle.dc_tree.specs.Entities.{Scope, main_scope, symbols_in}
use Rattle.dc_tree.specs.Symbols.{is_sound}
use Rattle.dc_tree.specs.Statements.{Statement, concurrent}
use Rattle.dc_entities.specs.Numbering.{numbers_of}
use Rattle.dc_meaning.specs.Execution.{is_concurrent, loops_in, loops_in_all}
use Rattle.dc_meaning.specs.Programs.{first_store, main_computation, program_forms, program_loops, surroundings}
use Rattle.dc_meaning.proofs.ProgramLoops.{built-source}
use Rattle.dc_walk.proofs.Visitable.{visitable}
use Rattle.dc_lower.specs.Lowerable.{IsLowerable}
use Rattle.dc_lower.specs.Lowered.{lowered}
use Rattle.dc_lower.specs.Today.{is_of_today}
use Rattle.dc_lower.proofs.LoopForms.{there, has-header}
use Rattle.dc_lower.proofs.MainPrograms.{main-law}
use Rattle.dc_lower.proofs.SimpleLoops.{all-counted, none-entered}
use Rattle.dc_lower.proofs.TodaysCodes.{code-enters-its-loops}
use Rattle.dc_run.specs.declared.ending.Ending as endings
use Rattle.dc_run.specs.declared.standing.Standing.{Standing}
use Rattle.dc_run.specs.declared.standing.Task.{Task}
use Rattle.dc_run.specs.Answered.{IsRunOf}
use Rattle.dc_run.specs.LoopPlaces.{loop_places}
use Rattle.dc_run.specs.Playing.{played, run}
use Rattle.dc_run.specs.Resuming.{told_from, rest_from, IsUsual, KeepsFitting, AreReachable}
use Rattle.dc_run.specs.Running.{Told, told_behind, loop_in, looping_in}
use Rattle.dc_run.specs.Stores.{declared_shapes, Fits}
use Rattle.dc_run.specs.Tasks.{IsTask, EndsSo, beginning}
use Rattle.dc_run.proofs.FirstFits.{first-fits}
use Rattle.dc_run.proofs.Fitting.{shapes-sorted}
use Rattle.dc_run.proofs.Owned.{accesses-own}
use Rattle.dc_run.proofs.Shaped.{shapes-alike}
use Rattle.dc_walk.proofs.EveryOrder.{visit-fits}
use Rattle.dc_run.proofs.Visited.{same-shape, loop-keeps}

-- ---- the loops

keeps-fitting : (symbols : List Symbol) (source : Source) (turns number : ℕ) → is_built symbols source ≡ true → KeepsFitting (lowered symbols source) (loop_in (program_forms symbols source turns) number)
unfolding loop_in
keeps-fitting symbols source turns number built =
    record {
      each = λ left store fits.
          let there : Fits symbols store = sym (shapes-alike (symbols_in 0 symbols) 0 store) ∙ fits in
          shapes-alike (symbols_in 0 symbols) 0 _ ∙ visit-fits symbols source built turns number [] (declared_shapes symbols) (shapes-sorted symbols) left store there;
    }

pub are-reachable : (symbols : List Symbol) (source : Source) (turns : ℕ) → IsLowerable symbols source → AreReachable (program_forms symbols source turns) symbols (lowered symbols source) turns source.body
unfolding loop_in
are-reachable symbols source turns able =
    record {
      each = λ number head block at.
          record {
            visitable = visitable symbols source turns number head block able.built at;
            headed = has-header symbols source able turns number _ (there symbols source able turns number head block (sym at)).at;
            owns = accesses-own symbols source turns number able.built;
            keeps = loop-keeps (program_forms symbols source turns) number;
            fits = keeps-fitting symbols source turns number able.built;
          };
    }

one-loop : (scope : Scope) (says : Statement) (inside : Items) → is_built_loop scope says inside ≡ true → cond (is_concurrent says) 1 0 + loops_in_all inside ≡ 1
one-loop scope (concurrent label None (ranging ∷ []) None []) inside built =
    let rest = is_built_block inside && all_spare ranging.name inside in
    let block = and_parts (is_built_block inside) (all_spare ranging.name inside) (and_parts (is_built_index scope ranging) rest built).1 in
    ap (λ n. 1 + n) (none-entered inside block.0)
one-loop scope other inside built = absurd (false≢true built)

places-counted : (scope : Scope) (before : ℕ) (all : List Item) → are_built_items scope (items_from all) ≡ true → length (loop_places before all) ≡ loops_in_all (items_from all)
places-counted scope before [] built = refl
places-counted scope before (plain line ∷ rest) built = places-counted scope (suc before) rest (and_parts (is_built_item scope (plain line)) (are_built_items scope (items_from rest)) built).1 ∙ omega arith
places-counted scope before (branch arms close ∷ rest) built = cc
places-counted scope before (select head arms close ∷ rest) built = cc
places-counted scope before (loop head body close ∷ rest) built =
    let both = and_parts (is_built_item scope (loop head body close)) (are_built_items scope (items_from rest)) built in
    let one : loops_in (loop head body close) ≡ 1 = one-loop scope head.says body both.0 in
    let later : length (loop_places (suc before) rest) ≡ loops_in_all (items_from rest) = places-counted scope (suc before) rest both.1 in
    omega (arith, later, one)

-- The places are as many as the loops.
pub loops-counted : (symbols : List Symbol) (source : Source) (nodes : List Node) → is_built symbols source ≡ true → source.body ≡ items_from (map item nodes) → length (loop_places 0 (map item nodes)) ≡ length (program_loops symbols source 0)
loops-counted symbols source nodes built is =
    let body : are_built_items (main_scope symbols) source.body ≡ true = (built-source symbols source built).body in
    places-counted (main_scope symbols) 0 (map item nodes) (ap (are_built_items (main_scope symbols)) (sym is) ∙ body)
    ∙ ap loops_in_all (sym is)
    ∙ all-counted (surroundings symbols source 0) (main_scope symbols) 0 source.body body

-- ---- the beginning

all-built : (symbols : List Symbol) → are_built_symbols symbols ≡ true → list_all is_built_symbol symbols ≡ true
all-built symbols built =
    let few = nat_le (elements_of_all symbols) greatest_elements in
    let parts = and_parts (nat_le (length symbols) greatest_names) (list_all is_built_symbol symbols && few) built in
    (and_parts (list_all is_built_symbol symbols) few parts.1).0

pub begins : (symbols : List Symbol) (source : Source) → list_all is_sound symbols ≡ true → is_built symbols source ≡ true → IsUsual symbols (lowered symbols source) (beginning symbols (lowered symbols source))
begins symbols source sound built =
    let fits = first-fits symbols (all-built symbols (built-source symbols source built).names) sound in
    record {
      shape = same-shape (first_store symbols);
      ready = record { same = refl; fits = shapes-alike (symbols_in 0 symbols) 0 (first_store symbols) ∙ fits };
      room = omega arith;
    }

pub comes-to : (symbols : List Symbol) (source : Source) (turns : ℕ) (given : List ℕ) (after : Standing) (ending : endings.Ending)
    → main_computation symbols source turns ≡ rest_from (lowered symbols source) 0 (new_frame (lowered symbols source) 0) turns
    → EndsSo (looping_in (program_forms symbols source turns)) symbols (lowered symbols source) turns (beginning symbols (lowered symbols source)) after ending
    → IsRunOf symbols source turns given (record { output = after.output; ending = ending })
comes-to symbols source turns given after ending by_code ends =
    let start : told_from given (looping_in (program_forms symbols source turns)) (lowered symbols source) 0 turns (beginning symbols (lowered symbols source)) ≡ told_behind [] (run judging symbols source turns given)
    = ap (λ c. told_behind [] (played (looping_in (program_forms symbols source turns)) (record { store = first_store symbols; input = given; used = 0 }) c)) (sym by_code) in
    let same = sym (ends.is given) ∙ start in
    record { output = ap (λ (t : Told). t.output) same; ending = ap (λ (t : Told). t.ending) same }

-- ---- what is run

reachable-as : (forms : Forms) (symbols names : List Symbol) (turns : ℕ) (code other : CodeLists) (body items : Items) → names ≡ symbols → other ≡ code → items ≡ body
    → AreReachable forms symbols code turns body → AreReachable forms names other turns items
reachable-as forms symbols names turns code other body items same coded stands reachable =
    subst (λ s. AreReachable forms s other turns items) (sym same)
    (subst (λ c. AreReachable forms symbols c turns items) (sym coded) (subst (λ i. AreReachable forms symbols code turns i) (sym stands) reachable))

today-as : (many loops : ℕ) (code other : CodeLists) → loops ≡ many → other ≡ code → list_all (λ (instr : Instr). is_of_today many instr.what) code.instructions ≡ true
    → list_all (λ (instr : Instr). is_of_today loops instr.what) other.instructions ≡ true
today-as many loops code other same coded today = (λ i. list_all (λ (instr : Instr). is_of_today (same i) instr.what) (coded i).instructions) ∙ today

pub task-is : (symbols : List Symbol) (source : Source) (turns : ℕ) (task : Task) → IsLowerable symbols source → source.body ≡ items_from (map item task.nodes.now) → task.symbols.now ≡ symbols
    → task.code.now ≡ lowered symbols source → task.numbering.now ≡ numbers_of symbols → task.loops.now ≡ loop_places 0 (map item task.nodes.now) → length task.code.now.instructions < 4294967296 → task.turns ≡ turns
    → IsTask (program_forms symbols source turns) task
task-is symbols source turns task able body names code numbers places few given =
    let many : length task.loops.now ≡ length (program_loops symbols source 0) = ap length places ∙ loops-counted symbols source task.nodes.now able.built body in
    record {
      names = ap are_built_symbols names ∙ (built-source symbols source able.built).names;
      numbers = numbers ∙ ap numbers_of (sym names);
      places = places;
      reachable =
          subst (λ (t : ℕ). AreReachable (program_forms symbols source turns) task.symbols.now task.code.now t (items_from (map item task.nodes.now))) (sym given)
          (reachable-as (program_forms symbols source turns) symbols task.symbols.now turns (lowered symbols source) task.code.now source.body (items_from (map item task.nodes.now)) names code (sym body)
          (are-reachable symbols source turns able));
      few = few;
      today = today-as (length (program_loops symbols source 0)) (length task.loops.now) (lowered symbols source) task.code.now many code (code-enters-its-loops symbols source able);
    }

pub begins-with : (symbols names : List Symbol) (source : Source) (code : CodeLists) (start : Standing) → IsLowerable symbols source → names ≡ symbols → code ≡ lowered symbols source → start ≡ beginning names code → IsUsual names code start
begins-with symbols names source code start able same coded is =
    subst (λ s. IsUsual names code s) (sym is)
    (subst (λ c. IsUsual names c (beginning names c)) (sym coded)
    (subst (λ n. IsUsual n (lowered symbols source) (beginning n (lowered symbols source))) (sym same) (begins symbols source able.sound able.built)))

-- What a run by the code of a program comes to is the run of the program.
pub comes-by : (symbols : List Symbol) (source : Source) (turns : ℕ) (given : List ℕ) (code : CodeLists) (start after : Standing) (ending : endings.Ending) → IsLowerable symbols source → code ≡ lowered symbols source
    → start ≡ beginning symbols code → EndsSo (looping_in (program_forms symbols source turns)) symbols code turns start after ending
    → IsRunOf symbols source turns given (record { output = after.output; ending = ending })
comes-by symbols source turns given code start after ending able coded is ends =
    let looping = looping_in (program_forms symbols source turns) in
    comes-to symbols source turns given after ending (main-law symbols source able turns)
    (subst (λ c. EndsSo looping symbols c turns (beginning symbols c) after ending) coded
    (subst (λ s. EndsSo looping symbols code turns s after ending) is ends))
