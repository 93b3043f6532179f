-- The loops of a code are the loops of its program.
use Rattle.std.proofs.Common.{◌≡◌, ℕ, zero, suc, ◌+◌, List, [], ◌∷◌, length, Option, Some, None, refl, sym, ap, ◌∙◌, subst}
use Rattle.std.proofs.lemmas.Option.{none-some, same_Some}
use Rattle.std.specs.Prelude.{ℤ, slice_get}
use Rattle.dc_int.specs.declared.variable.Locality.{Locality}
use Rattle.dc_code.specs.declared.plan.ConstructCode.{ConstructCode}
use Rattle.dc_code.specs.Codes.{CodeLists}
use Rattle.dc_code.specs.CodeForms.{frame_with, locality_in, is_copied, is_combined, form_in, body_run, no_form, code_forms}
use Rattle.dc_code.specs.Computation.{give, sequence}
use Rattle.dc_code.specs.Loops.{Copies}
use Rattle.dc_code.specs.Machine.{machine, new_frame}
use Rattle.dc_tree.specs.declared.symbols.Symbol.{Symbol}
use Rattle.dc_tree.specs.Blocks.{Line, Items, Source}
use Rattle.dc_tree.specs.Entities.{entity, main_scope}
use Rattle.dc_meaning.specs.Looping.{nth_loop, index_name}
use Rattle.dc_meaning.specs.Concurrent.{Concurrent, Surroundings, block_scope, fresh_locals}
use Rattle.dc_meaning.specs.Execution.{exec_all}
use Rattle.dc_meaning.specs.Headers.{inside_frame, form_of}
use Rattle.dc_meaning.specs.Numbering.{no_loop}
use Rattle.dc_meaning.specs.Programs.{surroundings, program_loops, program_forms}
use Rattle.dc_meaning.specs.WalkScope.{index_scope}
use Rattle.dc_meaning.proofs.Looping.{concurrent-with, LoopAt, IsLoop, scope-is, copies-form, combines-form}
use Rattle.dc_meaning.proofs.ProgramLoops as loops
use Rattle.dc_meaning.proofs.ProgramLoops.{loops-in, loop-at, found-at, form-is}
use Rattle.dc_lower.specs.Agreeing.{SameForm, HasNoIteration}
use Rattle.dc_lower.specs.Heading.{HasHeader}
use Rattle.dc_lower.specs.Lowerable.{IsLowerable}
use Rattle.dc_lower.specs.Lowered.{loop_code, constructs_from, main_code, lowered}
use Rattle.dc_lower.proofs.HeaderCodes.{left_on, found-again}
use Rattle.dc_lower.proofs.LoopCodes.{construct, construct-at, here, scope, limits-here, iteration-law}
use Rattle.dc_lower.proofs.LoopShapes.{all-plain, no-elements, no-slots, no-locals, same-kind, none-passed, one-index}
use Rattle.dc_lower.proofs.MainNames.{named-whole}
use Rattle.dc_lower.proofs.MainPrograms.{no_inner, scope-named, lowered-outsides}

module _ (symbols : List Symbol) (source : Source) (is : IsLowerable symbols source) (turns number : ℕ) (head : Line) (body : Items) (nth : Some (head, body) ≡ nth_loop number source.body) where
  abbrev code : CodeLists
  code = lowered symbols source

  abbrev within : Surroundings
  within = surroundings symbols source turns

  abbrev planned : ConstructCode
  planned = construct symbols source is number head body nth

  -- The loop as the program has it.
  pub there : LoopAt (main_scope symbols) (loops-in symbols source turns) number head body
  there = loop-at symbols source is.built number turns head body nth

  abbrev pub loop : Concurrent
  loop = concurrent-with (main_scope symbols) there.counted head body there.built.ranging

  plain-here : (variable : ℕ) → locality_in planned variable ≡ Locality.Plain
  plain-here = all-plain planned within.outsides refl

  block-same : (copies : Copies) (z : ℤ) → body_run code planned turns copies (z ∷ []) ≡ (form_of within loop []).block copies (z ∷ [])
  block-same copies z =
      ap (λ given. sequence (machine code planned.body (frame_with code planned.body ((Some z ∷ []) ∷ given)) turns) (λ w. give w.1)) (no-slots copies code planned plain-here)
      ∙ iteration-law symbols source is number head body nth within.call (suc there.counted) turns z
      ∙ ap (λ s. inside_frame ((Some z ∷ []) ∷ []) turns (exec_all s within.call (suc there.counted) body) (λ flow left. left)) (sym scope-there)
      ∙ ap (λ locals. inside_frame ((Some z ∷ []) ∷ fresh_locals (main_scope symbols) [] copies locals) turns (exec_all (block_scope within loop) within.call (suc there.counted) body) (λ flow left. left))
      (sym (no-locals within.outsides))
    where
      scope-there : block_scope within loop ≡ scope symbols source is number head body nth
      scope-there = scope-is within symbols there.counted head body there.built ∙ ap (λ s. index_scope symbols (index_name s)) (here symbols source is number head body nth).built.is

  block-same-at : (copies : Copies) (at : List ℤ) → length at ≡ 1 → body_run code planned turns copies at ≡ (form_of within loop []).block copies at
  block-same-at copies [] one = cc
  block-same-at copies (z ∷ []) one = block-same copies z
  block-same-at copies (z ∷ y ∷ rest) one = cc

  header-left : (left : ℕ) → machine code planned.header (new_frame code planned.header) left ≡ sequence ((form_of within loop []).header left) (left_on (new_frame code planned.header))
  header-left left =
      let first = (here symbols source is number head body nth).built in
      limits-here symbols source is number head body nth within.call left there.built.ranging (one-index head.says first.ranging there.built.ranging first.is there.built.is)

  pub header-here : HasHeader code number (form_of within loop [])
  header-here = record { construct = planned; there = construct-at symbols source is number head body nth; leaves = header-left }

  pub form-same : SameForm 1 (form_in code turns planned) (form_of within loop [])
  form-same = record {
    line = refl;
    locality = λ variable. plain-here variable ∙ sym (loops.all-plain within loop refl variable (slice_get within.outsides variable) refl);
    kind = same-kind code within loop (lowered-outsides symbols source);
    passed = λ variable. sym (none-passed within loop (λ text. named-whole code no_inner (entity (main_scope symbols) text) (scope-named symbols source is no_inner text)) variable);
    copied = no-elements is_copied refl code planned plain-here ∙ sym (copies-form within symbols there.counted head body there.built []);
    combines = no-elements is_combined refl code planned plain-here ∙ sym (combines-form within symbols there.counted head body there.built []);
    header = λ left. found-again (new_frame code planned.header) ((form_of within loop []).header left) (machine code planned.header (new_frame code planned.header) left) (header-left left);
    mask = λ at one. refl;
    block = block-same-at;
  }

-- ---- by their numbers

-- The place of a loop in the text of its program.
record Place (source : Source) (number : ℕ) : Type 0 where
  pub head : Line
  pub body : Items
  pub nth : Some (head, body) ≡ nth_loop number source.body

module _ (symbols : List Symbol) (source : Source) (is : IsLowerable symbols source) (turns number : ℕ) (asked : Concurrent) (e : slice_get (program_loops symbols source turns) number ≡ Some asked) where
  placed : (found : Option (Line × Items)) → found ≡ nth_loop number source.body → Place source number
  placed None nth = absurd (none-some asked (sym (subst (IsLoop (main_scope symbols) (loops-in symbols source turns) number) (sym nth) (found-at symbols source is.built number turns)) ∙ e))
  placed (Some (head, body)) nth = record { head = head; body = body; nth = nth }

  abbrev place : Place source number
  place = placed (nth_loop number source.body) refl

  abbrev found : Concurrent
  found = loop symbols source is turns number place.head place.body place.nth

  abbrev planned_here : ConstructCode
  planned_here = construct symbols source is number place.head place.body place.nth

  found-there : slice_get (program_loops symbols source turns) number ≡ Some found
  found-there = (there symbols source is turns number place.head place.body place.nth).at

  program-form : form_of (surroundings symbols source turns) found [] ≡ program_forms symbols source turns number []
  program-form = sym (form-is symbols source turns number [] (Some found) found-there)

  code-form : form_in (lowered symbols source) turns planned_here ≡ code_forms (lowered symbols source) turns number []
  code-form = rw (construct-at symbols source is number place.head place.body place.nth) refl

  -- The header of each loop leaves what it means.
  pub has-header : HasHeader (lowered symbols source) number (program_forms symbols source turns number [])
  has-header = subst (HasHeader (lowered symbols source) number) program-form (header-here symbols source is turns number place.head place.body place.nth)

  -- Each loop of the program is that of the code.
  pub forms-law : SameForm (length asked.indexes) (code_forms (lowered symbols source) turns number []) (program_forms symbols source turns number [])
  forms-law =
      let one : 1 ≡ length asked.indexes = ap (λ (l : Concurrent). length l.indexes) (same_Some found asked (sym found-there ∙ e)) in
      subst (λ width. SameForm width (code_forms (lowered symbols source) turns number []) (program_forms symbols source turns number [])) one
      (subst (λ form. SameForm 1 form (program_forms symbols source turns number [])) code-form
      (subst (λ form. SameForm 1 (form_in (lowered symbols source) turns planned_here) form) program-form (form-same symbols source is turns number place.head place.body place.nth)))

-- ---- where there is no loop

none-constructed : (around : Surroundings) (at : ℕ) (loops : List Concurrent) (number : ℕ) → slice_get loops number ≡ None → slice_get (constructs_from around at loops) number ≡ None
none-constructed around at [] zero e = refl
none-constructed around at [] (suc number) e = refl
none-constructed around at (first ∷ rest) zero e = absurd (none-some first (sym e))
none-constructed around at (first ∷ rest) (suc number) e = none-constructed around (at + length (loop_code around first)) rest number e

no-form-none : HasNoIteration no_form
no-form-none = record { header = λ turns. refl }

no-loop-none : HasNoIteration no_loop
no-loop-none = record { header = λ turns. refl }

pub none-law : (symbols : List Symbol) (source : Source) → IsLowerable symbols source → (turns number : ℕ) → slice_get (program_loops symbols source turns) number ≡ None
    → HasNoIteration (code_forms (lowered symbols source) turns number []) × HasNoIteration (program_forms symbols source turns number [])
none-law symbols source is turns number e = by (nth_loop number source.body) refl
  where
    constructed : slice_get (loops-in symbols source 0) number ≡ None → slice_get (lowered symbols source).constructs number ≡ None
    constructed none = none-constructed (surroundings symbols source 0) (length (main_code symbols source)) (loops-in symbols source 0) number none

    by : (found : Option (Line × Items)) → found ≡ nth_loop number source.body
        → HasNoIteration (code_forms (lowered symbols source) turns number []) × HasNoIteration (program_forms symbols source turns number [])
    by None nth =
        let none = subst (IsLoop (main_scope symbols) (loops-in symbols source 0) number) (sym nth) (found-at symbols source is.built number 0) in
        (rw (constructed none) no-form-none, subst HasNoIteration (sym (form-is symbols source turns number [] None e)) no-loop-none)
    by (Some (head, body)) nth = absurd (none-some _ (sym e ∙ (there symbols source is turns number head body nth).at))
