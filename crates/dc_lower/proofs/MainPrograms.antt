-- The code of a program does what its main program does.
use Rattle.std.proofs.Common.{◌≡◌, ℕ, ◌+◌, true, List, [], length, Option, Some, None, refl, sym, ap, ◌∙◌, subst, arith}
use Rattle.std.proofs.lemmas.Bool.{and_parts}
use Rattle.std.proofs.lemmas.List.{length-replicate}
use Rattle.std.proofs.lemmas.Option.{slice_get-map}
use Rattle.std.specs.Prelude.{ℤ, ◌&&◌, nat_le, map, option_map, slice_get}
use Rattle.std.specs.List.{list_all}
use Rattle.dc_int.specs.Sorts.{Sort}
use Rattle.dc_int.specs.Store.{Bounds, elements_in}
use Rattle.dc_code.specs.declared.plan.Group.{Group}
use Rattle.dc_code.specs.Codes.{CodeLists, blank}
use Rattle.dc_code.specs.Computation.{give, sequence}
use Rattle.dc_code.specs.Frames.{Frame}
use Rattle.dc_code.specs.Machine.{machine, new_frame}
use Rattle.dc_code.specs.Reaching.{group_slots}
use Rattle.dc_code.proofs.Sequences.{sequence-then}
use Rattle.dc_tree.specs.declared.symbols.Symbol.{Symbol}
use Rattle.dc_tree.specs.Blocks.{Source}
use Rattle.dc_form.specs.BuiltPrograms.{greatest_names, greatest_elements, is_built_symbol, elements_of_all}
use Rattle.dc_tree.specs.Entities.{entity, symbols_in, main_scope}
use Rattle.dc_tree.specs.Statements.{Name}
use Rattle.dc_meaning.specs.Acts.{State}
use Rattle.dc_meaning.specs.Execution.{exec_all}
use Rattle.dc_meaning.specs.Programs.{outsides_from, surroundings, main_computation}
use Rattle.dc_meaning.proofs.ProgramLoops.{built-source}
use Rattle.dc_actions.specs.Deeds.{InstrsStand}
use Rattle.dc_lower.specs.Blocks.{groups_of_block}
use Rattle.dc_actions.specs.Carrying.{inside}
use Rattle.dc_lower.specs.Lowerable.{IsLowerable}
use Rattle.dc_lower.specs.Lowered.{main_code, lowered}
use Rattle.dc_actions.specs.Placed.{HaveNames, HaveKept}
use Rattle.dc_lower.proofs.MainNames.{Named, HasOutsides, named-names, main-named}
use Rattle.dc_lower.proofs.PartLaws.{all-blocks-run}
use Rattle.dc_actions.proofs.Placing.{get-left}

-- ---- groups of slots that are undefined

pub blank-at : (groups : List Group) (i : ℕ) (group : Group) → slice_get groups i ≡ Some group → slice_get (map blank groups) i ≡ Some (blank group)
blank-at groups i group at = slice_get-map blank groups i ∙ ap (option_map blank) at

abbrev pub no_inner : ℕ → Sort → Bounds → Type 0
no_inner group sort bounds = ⊥

-- ---- the names of a main program that is run

pub symbols-built : (symbols : List Symbol) (source : Source) → IsLowerable symbols source → list_all is_built_symbol symbols ≡ true
symbols-built symbols source is =
    let names = (built-source symbols source is.built).names in
    let parts = and_parts (nat_le (length symbols) greatest_names) (list_all is_built_symbol symbols && nat_le (elements_of_all symbols) greatest_elements) names in
    (and_parts (list_all is_built_symbol symbols) (nat_le (elements_of_all symbols) greatest_elements) parts.1).0

pub lowered-outsides : (symbols : List Symbol) (source : Source) → HasOutsides (lowered symbols source) (outsides_from 0 (symbols_in 0 symbols))
lowered-outsides symbols source = record { shapes = refl; bounds = refl }

pub scope-named : (symbols : List Symbol) (source : Source) → IsLowerable symbols source → (Inner : ℕ → Sort → Bounds → Type 0) (text : Name)
    → Named (lowered symbols source) Inner (entity (main_scope symbols) text)
scope-named symbols source is Inner text = main-named (lowered symbols source) Inner symbols (lowered-outsides symbols source) (symbols-built symbols source is) is.sound text

-- ---- the main program

module _ (symbols : List Symbol) (source : Source) (is : IsLowerable symbols source) where
  abbrev code : CodeLists
  code = lowered symbols source

  abbrev start : Frame
  start = new_frame code 0

  pub main-names : (frame : Frame) (state : State) → HaveNames code (main_scope symbols) frame state
  main-names frame state = named-names code no_inner (main_scope symbols) frame state (scope-named symbols source is no_inner) (λ group sort bounds no. absurd no)

  main-kept : HaveKept code (main_scope symbols) start 0 (groups_of_block (main_scope symbols) source.body)
  main-kept = record {
    planned = λ i group at. ap (slice_get (groups_of_block (main_scope symbols) source.body)) (none-before i) ∙ at;
    sized = λ i group at. sized i group at;
    apart = λ text group sort bounds e. absurd (subst (Named code no_inner) e (scope-named symbols source is no_inner text));
  }
    where
      none-before : (i : ℕ) → 0 + i ≡ i
      none-before i = omega arith

      cells-of : Option (List (Option ℤ)) → List (Option ℤ)
      cells-of (Some cells) = cells
      cells-of None = []

      sized : (i : ℕ) (group : Group) → slice_get (groups_of_block (main_scope symbols) source.body) i ≡ Some group → length (group_slots start (0 + i)) ≡ elements_in group.bounds
      sized i group at =
          rw (none-before i, blank-at (groups_of_block (main_scope symbols) source.body) i group at) (length-replicate (elements_in group.bounds) None)

  main-stand : InstrsStand code 0 (main_code symbols source)
  main-stand = record { each = λ i instr at. ap (slice_get code.instructions) (none-before i) ∙ get-left (main_code symbols source) _ i instr at }
    where
      none-before : (i : ℕ) → 0 + i ≡ i
      none-before i = omega arith

pub main-law : (symbols : List Symbol) (source : Source) → IsLowerable symbols source → (turns : ℕ)
    → main_computation symbols source turns ≡ sequence (machine (lowered symbols source) 0 (new_frame (lowered symbols source) 0) turns) (λ w. give tt)
main-law symbols source is turns =
    let code = lowered symbols source in
    let scope = main_scope symbols in
    let call = (surroundings symbols source turns).call in
    let meant = exec_all scope call 0 source.body (inside [] turns) in
    let run = machine code 0 (new_frame code 0) turns in
    sym (sequence-then meant (λ w. give (w.1).turns) (λ left. give tt))
    ∙ ap (λ c. sequence c (λ (left : ℕ). give tt))
    (sym (all-blocks-run code scope call 0 0 0 source.close.line true source.body is.lowered (record { each = λ i text at. ap (slice_get code.texts) (none-before i) ∙ at })
    0 (new_frame code 0) [] turns (λ left. main-names symbols source is (new_frame code 0) (inside [] left)) (main-kept symbols source is) (record { empty = refl; begun = refl })
    (main-stand symbols source is) (λ e. refl)))
    ∙ sequence-then run (λ w. give w.1) (λ left. give tt)
  where
    none-before : (i : ℕ) → 0 + i ≡ i
    none-before i = omega arith
