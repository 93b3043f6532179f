-- A loop of a program that can be run is one that the plain judge visits.
use Rattle.std.proofs.Common.{◌≡◌, ℕ, suc, Bool, true, false, List, [], ◌∷◌, map, Option, Some, None, refl, sym, ap, subst, ◌∙◌}
use Rattle.std.specs.Prelude.{Result, Ok, Err, ℤ, slice_get, if◌then◌else◌, bytes_eq}
use Rattle.dc_int.specs.Entries.{store_after}
use Rattle.dc_int.specs.Sorts.{Sort, whole}
use Rattle.dc_int.specs.Store.{Store, value_at}
use Rattle.dc_code.specs.Computation.{over}
use Rattle.dc_code.specs.Inner.{judging, nested_loop, inner}
use Rattle.dc_code.specs.Laws.{NeverPauses}
use Rattle.dc_code.specs.Loops.{Form, Passage, header_of}
use Rattle.dc_code.specs.Passages.{Entering, through}
use Rattle.dc_code.specs.Troubles.{Failure, Computing}
use Rattle.dc_code.proofs.Passages.{through-over}
use Rattle.dc_code.proofs.Runs.{replayed}
use Rattle.dc_plain.specs.Views.{View}
use Rattle.dc_tree.specs.declared.symbols.Role as roles
use Rattle.dc_tree.specs.declared.symbols.Symbol.{Symbol}
use Rattle.dc_tree.specs.Blocks.{Line, Items, Source}
use Rattle.dc_form.specs.BuiltPrograms.{are_built_symbols, is_built}
use Rattle.dc_tree.specs.Entities.{Entity, slots, Scope, entity, entity_in, result_in, procedure_entity, symbols_in, outer_names, main_scope}
use Rattle.dc_tree.specs.Statements.{Name}
use Rattle.dc_meaning.specs.declared.stop.Stop.{Stop}
use Rattle.dc_meaning.specs.Looping.{nth_loop, index_name}
use Rattle.dc_walk.specs.Alone.{block_alone, Ends}
use Rattle.dc_meaning.specs.Concurrent.{Outside, Concurrent, Surroundings, is_reduction}
use Rattle.dc_meaning.specs.Execution.{exec_all}
use Rattle.dc_meaning.specs.Headers.{localities_of, form_of}
use Rattle.dc_walk.specs.Judging.{IsDoneBy, fresh, IsRunBy, IsPlainly}
use Rattle.dc_meaning.specs.Programs.{surroundings, program_forms}
use Rattle.dc_walk.specs.Visiting.{HeadsSo, IsVisitable, loop_parts}
use Rattle.dc_meaning.specs.WalkScope.{kind_of_index, index_scope}
use Rattle.dc_meaning.proofs.Doing.{May, Any, Only, only-quiet}
use Rattle.dc_walk.proofs.Heading.{heads-so}
use Rattle.dc_meaning.proofs.Looping.{concurrent-with, LoopAt, block-form}
use Rattle.dc_meaning.proofs.Own.{OwnEntity, OwnTarget, target-read, frame-only}
use Rattle.dc_meaning.proofs.OwnBlocks.{block-own}
use Rattle.dc_meaning.proofs.OwnScopes.{anything, anything-own, inner-good}
use Rattle.dc_meaning.proofs.ProgramLoops.{all-plain, form-is, loops-in, loop-at, loop-built, no-copies, built-source}
use Rattle.dc_walk.proofs.Passing.{loop-ends, passes-well, passes-badly}
use Rattle.dc_meaning.proofs.Walking.{seen-run}

-- ---- an iteration

-- what the walker leaves of a block without pauses is its passage
done-by : (enter : Entering) (store : Store) (c : Computing ℕ) → NeverPauses c → (after : View) (result : Result (Unit {0}) Stop) → Ends (fresh store) c after result → IsDoneBy (through enter store [] c) after result
done-by enter store c quiet after (Ok well) ends =
    let passes = passes-well enter [] (fresh store) after c (ends.answers).0 (ends.answers).1 in
    let is = through-over enter store [] c quiet in
    record {
      entries = sym passes.1;
      store = ap (λ w. w.0.store) (sym (ends.answers).1 ∙ seen-run (fresh store) c) ∙ ap (λ (p : Passage). p.store) (sym is);
      orders = ap (λ (p : Passage). p.orders) is;
      trouble = passes.0;
    }
done-by enter store c quiet after (Err (Stop.Failed why line)) ends =
    let failure : Failure = record { why = why; line = line } in
    let passes = passes-badly enter [] (fresh store) after c failure ends.answers in
    let is = through-over enter store [] c quiet in
    record {
      entries = sym passes.1;
      store = ap (λ w. w.0.store) (sym ends.answers ∙ seen-run (fresh store) c) ∙ ap (λ (p : Passage). p.store) (sym is);
      orders = ap (λ (p : Passage). p.orders) is;
      trouble = passes.0;
    }
done-by enter store c quiet after (Err Stop.NoMemory) ends = tt

-- ---- the entities of a main program

either : (b : Bool) (one other : Entity) → is_reduction one ≡ false → is_reduction other ≡ false → is_reduction (if b then one else other) ≡ false
either true one other first second = first
either false one other first second = second

of-procedure : (number : ℕ) (symbols : List Symbol) (found : Option Sort) → result_in symbols ≡ found → is_reduction (procedure_entity number symbols) ≡ false
of-procedure number symbols (Some sort) is = rw is refl
of-procedure number symbols None is = rw is refl

none-reduced : (all : List Symbol) (number : ℕ) (symbols : List Symbol) (name : Name) → is_reduction (entity_in (outer_names all number symbols) name) ≡ false
none-reduced all number [] name = refl
none-reduced all number (symbol ∷ rest) name = by symbol.role refl (none-reduced all (suc number) rest name) (none-reduced all number rest name)
  where
    by : (role : roles.Role) → symbol.role ≡ role → is_reduction (entity_in (outer_names all (suc number) rest) name) ≡ false → is_reduction (entity_in (outer_names all number rest) name) ≡ false
        → is_reduction (entity_in (outer_names all number (symbol ∷ rest)) name) ≡ false
    by (roles.Role.Variable logical kind bounds initial) is behind others = rw is (either (bytes_eq symbol.name name) _ _ refl behind)
    by (roles.Role.Constant logical kind value) is behind others = rw is (either (bytes_eq symbol.name name) _ _ refl others)
    by (roles.Role.Function procedure) is behind others =
        rw is (either (bytes_eq symbol.name name) _ _ (of-procedure procedure (symbols_in procedure all) (result_in (symbols_in procedure all)) refl) others)
    by (roles.Role.Subroutine procedure) is behind others =
        rw is (either (bytes_eq symbol.name name) _ _ (of-procedure procedure (symbols_in procedure all) (result_in (symbols_in procedure all)) refl) others)
    by (roles.Role.Dummy place logical kind intent) is behind others = rw is others
    by (roles.Role.Result logical kind) is behind others = rw is others

-- No variable of such a loop is passed on.
module _ (within : Surroundings) (symbols : List Symbol) (loop : Concurrent) (none : loop.locality ≡ []) (around : loop.around ≡ main_scope symbols) where
  none-passed : (number : ℕ) (found : Option Outside) → slice_get within.outsides number ≡ found → (localities_of within loop).passed number ≡ false
  none-passed number None is = rw is refl
  none-passed number (Some variable) is = rw (is, around) (none-reduced symbols 0 (symbols_in 0 symbols) variable.name)

-- ---- what a name of the block stands for

-- Where each name of a program may be assigned to, those of a block may, whose index is an entity of the iteration.
pub block-names : (may : May) (symbols : List Symbol) (index : Name) → ((text : Name) → OwnTarget may (entity (main_scope symbols) text))
    → (text : Name) → OwnTarget may (entity (index_scope symbols index) text)
block-names may symbols index own text =
    inner-good (OwnTarget may) ((index, slots 0 (whole (kind_of_index symbols index)) []) ∷ []) 1 (main_scope symbols) (tt, tt) own text

-- ---- a loop of the main program

module _ (symbols : List Symbol) (source : Source) (turns number : ℕ) (head : Line) (block : Items) (form : is_built symbols source ≡ true)
    (is : Some (head, block) ≡ nth_loop number source.body) where
  abbrev pub within : Surroundings
  within = surroundings symbols source turns

  pub at : LoopAt (main_scope symbols) (loops-in symbols source turns) number head block
  at = loop-at symbols source form number turns head block is

  abbrev pub found : Concurrent
  found = concurrent-with (main_scope symbols) at.counted head block at.built.ranging

  pub form-here : program_forms symbols source turns number [] ≡ form_of within found []
  form-here = form-is symbols source turns number [] (Some found) at.at

  abbrev pub scope-here : Scope
  scope-here = index_scope symbols (index_name head.says)

  pub names-here : are_built_symbols symbols ≡ true
  names-here = (built-source symbols source form).names

  -- What the block may do, an iteration may.
  pub alone-only : (may : May) → ((text : Name) → OwnTarget may (entity scope-here text)) → (z : ℤ) → Only may Any (block_alone symbols source number (z ∷ []) turns)
  alone-only may own z =
      subst (λ (c : Computing ℕ). Only may Any c)
      (sym (ap (λ (f : Form). f.block [] (z ∷ [])) form-here ∙ block-form within symbols at.counted head block at.built z))
      (frame-only may ((Some z ∷ []) ∷ []) within.turns (exec_all scope-here within.call (suc at.counted) block) (λ flow left. left)
      (block-own may scope-here own within.call (suc at.counted) block at.built.block))

  pub block-plain : (z : ℤ) → NeverPauses (block_alone symbols source number (z ∷ []) turns)
  block-plain z =
      only-quiet anything Any (block_alone symbols source number (z ∷ []) turns) (λ event no. no)
      (alone-only anything (block-names anything symbols (index_name head.says) (anything-own symbols names-here)) z)

  abbrev pub entering : Entering
  entering inside left around here orders = inner judging (nested_loop judging (program_forms symbols source turns) 63 inside around) left here orders

  pub passage-is : (store : Store) (z : ℤ) → (loop_parts symbols source turns number).block store [] (z ∷ []) ≡ through entering store [] (block_alone symbols source number (z ∷ []) turns)
  passage-is store z = λ i. through entering store [] ((program_forms symbols source turns number []).block (map (value_at store) (no-copies symbols source form number turns i)) (z ∷ []))

  runs-by : IsRunBy (loop_parts symbols source turns number) turns scope-here block
  runs-by = record {
    runs = λ z store after result finishes.
        subst (λ (p : Passage). IsDoneBy p after result) (sym (passage-is store z))
        (done-by entering store (block_alone symbols source number (z ∷ []) turns) (block-plain z) after result (loop-ends symbols source form number head block z turns is finishes));
  }

  plainly-by : IsPlainly (loop_parts symbols source turns number)
  plainly-by = record {
    locality = ap (λ (f : Form). f.localities.locality) form-here ∙ (λ i place. all-plain within found refl place (slice_get within.outsides place) refl i);
    passed = ap (λ (f : Form). f.localities.passed) form-here ∙ (λ i place. none-passed within symbols found refl refl place (slice_get within.outsides place) refl i);
    orders = λ store z. ap (λ (p : Passage). p.orders) (passage-is store z ∙ through-over entering store [] (block_alone symbols source number (z ∷ []) turns) (block-plain z));
    replays = λ store z.
        let run = passage-is store z ∙ through-over entering store [] (block_alone symbols source number (z ∷ []) turns) (block-plain z) in
        ap (λ (p : Passage). p.store) run ∙ replayed store (block_alone symbols source number (z ∷ []) turns) ∙ ap (λ (p : Passage). store_after p.entries store) (sym run);
  }

  reads-own : (text : Name) → OwnEntity Any (entity (main_scope symbols) text)
  reads-own text = target-read anything (entity (main_scope symbols) text) (anything-own symbols names-here text)

  heads-at : (store : Store) (left : ℕ)
      → HeadsSo head.line store (over store ((loop_parts symbols source turns number).form.header left)) (over store (header_of (loop_parts symbols source turns number).form left)).reached
  heads-at store left =
      subst (λ (f : Form). HeadsSo head.line store (over store (f.header left)) (over store (header_of f left)).reached) (sym form-here)
      (heads-so within symbols at.counted head block at.built reads-own store left)

-- A loop of the program at its number.
pub visitable : (symbols : List Symbol) (source : Source) (turns number : ℕ) (head : Line) (block : Items) → is_built symbols source ≡ true → nth_loop number source.body ≡ Some (head, block)
    → IsVisitable (loop_parts symbols source turns number) symbols turns head.line head.says block
visitable symbols source turns number head block form is = record {
  names = names-here symbols source turns number head block form (sym is);
  built = loop-built symbols source form number head block (sym is);
  run = runs-by symbols source turns number head block form (sym is);
  heads = heads-at symbols source turns number head block form (sym is);
  plainly = plainly-by symbols source turns number head block form (sym is);
}
