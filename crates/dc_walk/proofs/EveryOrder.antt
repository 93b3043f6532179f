-- What is said of a loop holds in every order of its iterations, wherever the loop is reached.
use Rattle.std.proofs.Common.{◌≡◌, ℕ, suc, true, List, [], map, All, Option, Some, None, refl, sym, ap, ◌∙◌, subst}
use Rattle.std.specs.Prelude.{ℤ, slice_get}
use Rattle.std.specs.List.{list_any}
use Rattle.dc_int.specs.declared.access.Access.{Access}
use Rattle.dc_int.specs.declared.variable.Locality.{Locality}
use Rattle.dc_int.specs.declared.variable.Shape.{Shape}
use Rattle.dc_int.specs.Entries.{accesses_of}
use Rattle.dc_int.specs.Shapes.{store_fits}
use Rattle.dc_int.specs.Store.{Store, value_at, same_element}
use Rattle.dc_code.specs.Computation.{over}
use Rattle.dc_code.specs.EveryOrder.{SaysOfOrders}
use Rattle.dc_code.specs.Inner.{judging, nested_loop, inner, loop_with, greatest_depth}
use Rattle.dc_code.specs.Laws.{HasPlainBlocks, KeepsLocality, IsCombinable, MatchesShapes, KeepsFitting, may_touch}
use Rattle.dc_code.specs.Loops.{Form, Copies, Passage, header_of, iterations_of}
use Rattle.dc_code.specs.Passages.{Entering}
use Rattle.dc_code.specs.Troubles.{Slots, Computing}
use Rattle.dc_code.specs.Visits.{visited}
use Rattle.dc_code.proofs.EveryOrder.{says-of-orders}
use Rattle.dc_code.proofs.Fitting.{plain-fits, visited-fits}
use Rattle.dc_code.proofs.Keeping.{all-keep}
use Rattle.dc_code.proofs.Passages.{plain-framed, plain-differs, through-over}
use Rattle.dc_code.proofs.Reduced.{HoldsCombinable}
use Rattle.dc_plain.specs.Plainly.{plain}
use Rattle.dc_tree.specs.declared.symbols.Symbol.{Symbol}
use Rattle.dc_tree.specs.Blocks.{Line, Items, Source}
use Rattle.dc_form.specs.BuiltPrograms.{is_built}
use Rattle.dc_tree.specs.Entities.{Scope, entity, main_scope}
use Rattle.dc_tree.specs.Statements.{Name}
use Rattle.dc_meaning.specs.Looping.{index_name, nth_loop}
use Rattle.dc_meaning.specs.Concurrent.{Concurrent, Surroundings, block_scope}
use Rattle.dc_meaning.specs.Execution.{exec_all}
use Rattle.dc_meaning.specs.Programs.{surroundings, program_forms}
use Rattle.dc_meaning.proofs.Doing.{May, Any, Only, only-made, only-quiet, only-contributes, only-defines}
use Rattle.dc_meaning.proofs.Looping.{concurrent-with, IsLoop, LoopAt, scope-is, copies-form}
use Rattle.dc_meaning.proofs.Own.{OwnTarget, frame-only}
use Rattle.dc_meaning.proofs.OwnBlocks.{block-own}
use Rattle.dc_meaning.proofs.OwnScopes.{anything, anything-own}
use Rattle.dc_meaning.proofs.OwnShapes.{fitting, AreSorted, fitting-own}
use Rattle.dc_meaning.proofs.ProgramLoops.{all-plain, form-is, loops-in, found-at, built-source}
use Rattle.dc_walk.proofs.Visitable.{block-names}

-- A loop whose variables have unspecified locality, and whose blocks do only what they may.
record IsPlain (may : May) (form : Form) : Type 0 where
  only : (copies : Copies) (at : List ℤ) → Only may Any (form.block copies at)
  locality : form.localities.locality ≡ plain
  copied : form.copied ≡ []

module _ (symbols : List Symbol) (source : Source) (built : is_built symbols source ≡ true) (turns number : ℕ) (around : Slots) where
  abbrev within : Surroundings
  within = surroundings symbols source turns

  module _ (may : May) (own : (text : Name) → OwnTarget may (entity (main_scope symbols) text)) where
    found-plain : (head : Line) (body : Items) → LoopAt (main_scope symbols) (loops-in symbols source turns) number head body
        → IsPlain may (program_forms symbols source turns number around)
    found-plain head body at =
        let found : Concurrent = concurrent-with (main_scope symbols) at.counted head body at.built.ranging in
        let scope : Scope = block_scope within found in
        let names : (text : Name) → OwnTarget may (entity scope text) =
        subst (λ (s : Scope). (text : Name) → OwnTarget may (entity s text)) (sym (scope-is within symbols at.counted head body at.built)) (block-names may symbols (index_name head.says) own) in
        subst (IsPlain may) (sym (form-is symbols source turns number around (Some found) at.at)) (record {
          only = λ copies values.
              frame-only may _ within.turns (exec_all scope within.call (suc at.counted) body) (λ flow left. left)
              (block-own may scope names within.call (suc at.counted) body at.built.block);
          locality = λ i place. all-plain within found refl place (slice_get within.outsides place) refl i;
          copied = copies-form within symbols at.counted head body at.built around;
        })

    no-plain : slice_get (loops-in symbols source turns) number ≡ None → IsPlain may (program_forms symbols source turns number around)
    no-plain none =
        subst (IsPlain may) (sym (form-is symbols source turns number around None none)) (record { only = λ copies values. tt; locality = refl; copied = refl })

    form-may : IsPlain may (program_forms symbols source turns number around)
    form-may = by (nth_loop number source.body) (found-at symbols source built number turns)
      where
        by : (found : Option (Line × Items)) → IsLoop (main_scope symbols) (loops-in symbols source turns) number found → IsPlain may (program_forms symbols source turns number around)
        by None at = no-plain at
        by (Some found) at = found-plain found.0 found.1 at

  abbrev form : Form
  form = program_forms symbols source turns number around

  form-plain : IsPlain anything form
  form-plain = form-may anything (anything-own symbols (built-source symbols source built).names)

  never-pauses : HasPlainBlocks form
  never-pauses copies at = only-quiet anything Any (form.block copies at) (λ event no. no) (form-plain.only copies at)

  abbrev enter : Entering
  enter inside left slots store orders = inner judging (nested_loop judging (program_forms symbols source turns) 63 inside slots) left store orders

  keeps-locality : (store : Store) (at : List ℤ) → KeepsLocality (loop_with enter form) store at
  keeps-locality store at = record {
    allowed = λ x touched. ap (λ (locality : ℕ → Locality). may_touch (locality x.variable)) form-plain.locality;
    apart = λ x touched. ap (list_any (same_element x)) form-plain.copied;
    contributed =
        let block : Computing ℕ = form.block (map (value_at store) form.copied) at in
        subst (λ (passage : Passage). All (IsCombinable form.localities) passage.entries)
        (sym (through-over enter store [] block (never-pauses (map (value_at store) form.copied) at)))
        (only-contributes anything Any form.localities store block (form-plain.only (map (value_at store) form.copied) at));
  }

  -- The accesses of an iteration alone are of elements that may be accessed, where the names of the program are so.
  pub accesses-may : (may : May) → ((text : Name) → OwnTarget may (entity (main_scope symbols) text)) → (store : Store) (at : List ℤ) (k : ℕ) (access : Access)
      → slice_get (accesses_of ((nested_loop judging (program_forms symbols source turns) greatest_depth number around).block store [] at).entries) k ≡ Some access → may.access access.element
  accesses-may may own store at k access e =
      let copies = map (value_at store) form.copied in
      let block : Computing ℕ = form.block copies at in
      only-made may Any store block ((form-may may own).only copies at) k access
      (ap (λ (passage : Passage). slice_get (accesses_of passage.entries) k) (sym (through-over enter store [] block (never-pauses copies at))) ∙ e)

  holds-combinable : (store : Store) → HoldsCombinable form.localities store
  holds-combinable store = λ x op value reduces has.
      let plainly : form.localities.locality x.variable ≡ Locality.Plain = ap (λ (locality : ℕ → Locality). locality x.variable) form-plain.locality in
      absurd (let no : Locality.Plain ≡ Locality.Reduce op = sym plainly ∙ reduces in cc)

  loop-fits : (shapes : List Shape) → AreSorted shapes symbols → KeepsFitting shapes (loop_with enter form)
  loop-fits shapes sorted =
      let own = fitting-own shapes symbols (built-source symbols source built).names sorted in
      plain-fits shapes enter form never-pauses
      (λ copies at. only-defines (fitting shapes) Any shapes (form.block copies at) (λ x value fits. fits) ((form-may (fitting shapes) own).only copies at))

  no-reduction : (shapes : List Shape) → MatchesShapes form.localities shapes
  no-reduction shapes = record {
    reduces = λ variable op shape reduces declared.
        let plainly : form.localities.locality variable ≡ Locality.Plain = ap (λ (locality : ℕ → Locality). locality variable) form-plain.locality in
        absurd (let no : Locality.Plain ≡ Locality.Reduce op = sym plainly ∙ reduces in cc);
  }

  -- A visit leaves a store that fits the variables.
  pub visit-fits : (shapes : List Shape) → AreSorted shapes symbols → (left : ℕ) (store : Store) → store_fits shapes store ≡ true
      → store_fits shapes (visited judging (nested_loop judging (program_forms symbols source turns) greatest_depth number around) left store).store ≡ true
  visit-fits shapes sorted left store fits = visited-fits shapes (loop_with enter form) (no-reduction shapes) (loop-fits shapes sorted) judging left store fits

  pub loop-says : (left : ℕ) (store : Store) → SaysOfOrders (nested_loop judging (program_forms symbols source turns) greatest_depth number around) left store
  loop-says left store =
      says-of-orders (loop_with enter form) store (plain-framed enter form never-pauses) (plain-differs enter form never-pauses) (holds-combinable store) left
      (all-keep (KeepsLocality (loop_with enter form) store) (iterations_of (over store (header_of form left)).reached) (keeps-locality store))
