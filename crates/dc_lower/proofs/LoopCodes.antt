-- A loop of a program and its code are of the same form.
use Rattle.std.proofs.Common.{◌≡◌, ◌<◌, ℕ, zero, suc, ◌+◌, true, false, List, [], ◌∷◌, ◌++◌, map, length, Some, None, refl, sym, ap, ◌∙◌, subst, arith}
use Rattle.std.proofs.lemmas.Bool.{and_parts, false≢true}
use Rattle.std.proofs.lemmas.List.{length-replicate}
use Rattle.std.proofs.lemmas.Option.{none-some}
use Rattle.std.specs.Prelude.{ℤ, ◌&&◌, drop, slice_get}
use Rattle.std.specs.List.{list_all}
use Rattle.dc_int.specs.declared.kind.Kind.{Kind}
use Rattle.dc_int.specs.Sorts.{Sort, whole, kind_of}
use Rattle.dc_int.specs.Store.{Bounds, elements_in}
use Rattle.dc_code.specs.declared.instr.What.{What}
use Rattle.dc_code.specs.declared.plan.ConstructCode.{ConstructCode}
use Rattle.dc_code.specs.declared.plan.Group.{Group}
use Rattle.dc_code.specs.declared.plan.Plan.{Plan}
use Rattle.dc_code.specs.Codes.{CodeLists, blank, blank_slots, plan_or_none, plan_numbered, plan_at}
use Rattle.dc_code.specs.CodeForms.{frame_with}
use Rattle.dc_code.specs.Combinations.{Span}
use Rattle.dc_code.specs.Computation.{give, sequence}
use Rattle.dc_code.specs.Frames.{Frame}
use Rattle.dc_code.specs.Machine.{machine, new_frame}
use Rattle.dc_code.specs.Reaching.{group_slots}
use Rattle.dc_code.specs.Troubles.{Computing, Slots}
use Rattle.dc_tree.specs.declared.symbols.Symbol.{Symbol}
use Rattle.dc_tree.specs.Blocks.{Line, Items, Source}
use Rattle.dc_tree.specs.Entities.{slots, Scope, entity, main_scope}
use Rattle.dc_tree.specs.Statements.{Name, Ranging}
use Rattle.dc_tree.specs.Typing.{sort_of_entity}
use Rattle.dc_meaning.specs.Looping.{nth_loop, index_name}
use Rattle.dc_meaning.specs.Concurrent.{Concurrent, Surroundings, block_scope, index_sort}
use Rattle.dc_meaning.specs.Acts.{for_each}
use Rattle.dc_meaning.specs.Execution.{span_of, exec_all}
use Rattle.dc_meaning.specs.Headers.{inside_frame}
use Rattle.dc_meaning.specs.Programs.{surroundings}
use Rattle.dc_meaning.specs.Values.{Callee}
use Rattle.dc_meaning.specs.WalkScope.{index_scope}
use Rattle.dc_meaning.proofs.Looping.{concurrent-with, LoopAt, whole-sort, scope-is}
use Rattle.dc_meaning.proofs.OwnScopes.{inner-good}
use Rattle.dc_meaning.proofs.ProgramLoops.{loops-in, loop-at}
use Rattle.dc_actions.specs.Deeds.{InstrsStand, lined}
use Rattle.dc_lower.specs.Blocks.{texts_of_block, groups_of_block, block_is_lowered, part_code, block_is_typed}
use Rattle.dc_actions.specs.Carrying.{inside}
use Rattle.dc_lower.specs.Lowerable.{IsLowerable, loop_is_lowered}
use Rattle.dc_actions.specs.Limits.{limits_are_lowered, step_is_usable, limits_code}
use Rattle.dc_lower.specs.Lowered.{index_group, header_code, body_code, loop_code, loops_code, construct_at, main_code, lowered}
use Rattle.dc_actions.specs.Placed.{HaveNames, HaveKept, IsGroup}
use Rattle.dc_actions.specs.Typed.{limits_are_typed}
use Rattle.dc_actions.specs.Expressions.{is_usable}
use Rattle.dc_lower.proofs.HeaderCodes.{left_on, header-law}
use Rattle.dc_lower.proofs.LoopShapes.{all-at, no-texts, numbered}
use Rattle.dc_lower.proofs.MainNames.{Named, named-names}
use Rattle.dc_lower.proofs.MainPrograms.{blank-at, scope-named, main-names}
use Rattle.dc_lower.proofs.PartLaws.{all-blocks-run}
use Rattle.dc_lower.proofs.PartPlaces.{LoopPlaced, header-some, loop-placed, found-behind}
use Rattle.dc_actions.proofs.Placing.{get-right, instrs-left, instrs-right, lined-stand}

module _ (symbols : List Symbol) (source : Source) (is : IsLowerable symbols source) (number : ℕ) (head : Line) (body : Items) (nth : Some (head, body) ≡ nth_loop number source.body) where
  abbrev pub code : CodeLists
  code = lowered symbols source

  abbrev pub within : Surroundings
  within = surroundings symbols source 0

  -- The loop as the code has it.
  pub here : LoopAt (main_scope symbols) (loops-in symbols source 0) number head body
  here = loop-at symbols source is.built number 0 head body nth

  abbrev pub ranging : Ranging
  ranging = here.built.ranging

  abbrev pub loop : Concurrent
  loop = concurrent-with (main_scope symbols) here.counted head body ranging

  abbrev size : ℕ
  size = length (main_code symbols source)

  pub placed : LoopPlaced within size (loops-in symbols source 0) number loop
  placed = loop-placed within size (loops-in symbols source 0) number loop here.at

  abbrev its_kind : Kind
  its_kind = kind_of (sort_of_entity (entity (main_scope symbols) ranging.name))

  -- The scope of its block.
  abbrev pub scope : Scope
  scope = index_scope symbols ranging.name

  pub scope-here : block_scope within loop ≡ scope
  scope-here = scope-is within symbols here.counted head body here.built ∙ ap (λ s. index_scope symbols (index_name s)) here.built.is

  loop-lowered : loop_is_lowered within loop ≡ true
  loop-lowered = all-at (loop_is_lowered within) (loops-in symbols source 0) number loop is.loops here.at

  abbrev pub construct : ConstructCode
  construct = construct_at within (size + placed.before) loop

  pub construct-at : slice_get code.constructs number ≡ Some construct
  construct-at = placed.constructed

  loop-stand : InstrsStand code (size + placed.before) (loop_code within loop)
  loop-stand =
      record { each = λ i instr e. ap (slice_get code.instructions) (behind i) ∙ get-right (main_code symbols source) (loops_code within (loops-in symbols source 0)) (placed.before + i) ∙ placed.placed i instr e }
    where
      behind : (i : ℕ) → size + placed.before + i ≡ size + (placed.before + i)
      behind i = omega arith

  header-stand : InstrsStand code construct.header (header_code loop)
  header-stand = instrs-left (header_code loop) (body_code within loop) loop-stand

  body-stand : InstrsStand code construct.body (body_code within loop)
  body-stand = instrs-right (size + placed.before) (header_code loop) (body_code within loop) loop-stand

  -- ---- the plan of the block

  abbrev groups : List Group
  groups = groups_of_block scope body

  plan-number : plan_at code construct.body ≡ suc (suc (number + number))
  plan-number = found-behind 0 construct.body (suc (number + number)) _ header-there placed.bodied
    where
      header-there : 0 < construct.body
      header-there = let some = header-some within loop in omega (arith, some)

  plan-is : plan_numbered code (plan_at code construct.body) ≡ record { dummies = []; groups = index_group its_kind ∷ groups }
  plan-is =
      ap (plan_numbered code) plan-number ∙ ap plan_or_none placed.block_plan
      ∙ ap (λ (s : Scope). record { dummies = []; groups = index_group its_kind ∷ groups_of_block s body }) scope-here

  -- ---- the frame of an iteration

  abbrev pub own : ℤ → Slots
  own z = (Some z ∷ []) ∷ []

  abbrev pub start : ℤ → Frame
  start z = frame_with code construct.body (own z)

  slots-behind : drop 1 (blank_slots (plan_numbered code (plan_at code construct.body))) ≡ map blank groups
  slots-behind = ap (λ (plan : Plan). drop 1 (blank_slots plan)) plan-is

  index-group : (z : ℤ) (left : ℕ) → IsGroup code (start z) (inside (own z) left) 0 (whole its_kind) []
  index-group z left = record {
    planned = index_group its_kind;
    plan = ap (λ (plan : Plan). slice_get plan.groups 0) plan-is;
    bounds = refl;
    sorted = refl;
    same = λ position. refl;
    all = refl;
  }

  abbrev Inner : ℕ → Sort → Bounds → Type 0
  Inner group sort bounds = (group ≡ 0) × ((sort ≡ whole its_kind) × (bounds ≡ []))

  block-named : (text : Name) → Named code Inner (entity scope text)
  block-named text =
      inner-good (Named code Inner) ((ranging.name, slots 0 (whole its_kind) []) ∷ []) 1 (main_scope symbols) ((refl, (refl, refl)), tt) (scope-named symbols source is Inner) text

  block-names : (z : ℤ) (left : ℕ) → HaveNames code scope (start z) (inside (own z) left)
  block-names z left = named-names code Inner scope (start z) (inside (own z) left) block-named (λ group sort bounds same. rw (same.0, (same.1).0, (same.1).1) (index-group z left))

  block-kept : (z : ℤ) → HaveKept code scope (start z) 1 groups
  block-kept z = record {
    planned = λ i group at. ap (λ (plan : Plan). slice_get plan.groups (1 + i)) plan-is ∙ ap (slice_get (index_group its_kind ∷ groups)) (one-more i) ∙ at;
    sized = λ i group at. sized i group at;
    apart = λ text group sort bounds e. let same = subst (Named code Inner) e (block-named text) in first-below group same.0;
  }
    where
      one-more : (i : ℕ) → 1 + i ≡ suc i
      one-more i = omega arith

      first-below : (group : ℕ) → group ≡ 0 → group < 1
      first-below group same = omega (arith, same)

      sized : (i : ℕ) (group : Group) → slice_get groups i ≡ Some group → length (group_slots (start z) (1 + i)) ≡ elements_in group.bounds
      sized i group at =
          let found : slice_get (drop 1 (blank_slots (plan_numbered code (plan_at code construct.body)))) i ≡ Some (blank group) =
          ap (λ (all : Slots). slice_get all i) slots-behind ∙ blank-at groups i group at in
          ap (λ n. length (group_slots (start z) n)) (one-more i) ∙ rw found (length-replicate (elements_in group.bounds) None)

  -- ---- the block

  part-here : (counted : ℕ) → body_code within loop ≡ part_code scope 0 1 counted body head.line
  part-here counted =
      ap (λ (s : Scope). part_code s 0 s.groups 0 body head.line) scope-here
      ∙ ap (λ instrs. instrs ++ lined head.line (What.End ∷ [])) (numbered scope 0 1 0 counted body here.built.block)

  block-lowered : block_is_lowered scope false body ≡ true
  block-lowered =
      let limits = list_all (limits_are_lowered (main_scope symbols)) (ranging ∷ []) in
      let lowered_block = block_is_lowered (block_scope within loop) false body in
      let typed_block = block_is_typed (block_scope within loop) body in
      ap (λ s. block_is_lowered s false body) (sym scope-here) ∙ (and_parts lowered_block typed_block (and_parts limits (lowered_block && typed_block) loop-lowered).1).0

  no-text : (i : ℕ) (text : List ℕ) → slice_get (texts_of_block body) i ≡ Some text → slice_get code.texts (0 + i) ≡ Some text
  no-text i text e = absurd (none-some text (sym (none-there i) ∙ ap (λ texts. slice_get texts i) (sym (no-texts body here.built.block)) ∙ e))
    where
      none-there : (i : ℕ) → slice_get {X = List ℕ} [] i ≡ None
      none-there zero = refl
      none-there (suc i) = refl

  pub iteration-law : (call : Callee) (counted turns : ℕ) (z : ℤ)
      → sequence (machine code construct.body (start z) turns) (λ w. give w.1) ≡ sequence (exec_all scope call counted body (inside (own z) turns)) (λ w. give (w.1).turns)
  iteration-law call counted turns z =
      all-blocks-run code scope call 0 1 counted head.line false body block-lowered (record { each = no-text })
      construct.body (start z) (own z) turns (block-names z) (block-kept z) (record { empty = refl; begun = refl })
      (subst (InstrsStand code construct.body) (part-here counted) body-stand) (λ e. absurd (false≢true e))

  -- ---- the header

  limits-lowered : limits_are_lowered (main_scope symbols) ranging ≡ true
  limits-lowered =
      let limits = list_all (limits_are_lowered (main_scope symbols)) (ranging ∷ []) in
      let lowered_block = block_is_lowered (block_scope within loop) false body in
      let typed_block = block_is_typed (block_scope within loop) body in
      (and_parts (limits_are_lowered (main_scope symbols) ranging) true (and_parts limits (lowered_block && typed_block) loop-lowered).0).0

  first-usable : is_usable (main_scope symbols) ranging.first ≡ true
  first-usable =
      let last = is_usable (main_scope symbols) ranging.last in
      let step = step_is_usable (main_scope symbols) ranging.step in
      (and_parts (is_usable (main_scope symbols) ranging.first) (last && (step && limits_are_typed (main_scope symbols) ranging)) limits-lowered).0

  last-usable : is_usable (main_scope symbols) ranging.last ≡ true
  last-usable =
      let last = is_usable (main_scope symbols) ranging.last in
      let step = step_is_usable (main_scope symbols) ranging.step in
      let behind = step && limits_are_typed (main_scope symbols) ranging in
      (and_parts last behind (and_parts (is_usable (main_scope symbols) ranging.first) (last && behind) limits-lowered).1).0

  abbrev meant : Callee → Ranging → ℕ → Computing (List Span × ℕ)
  meant call index turns =
      inside_frame [] turns (for_each (λ index. span_of (main_scope symbols) call head.line (index_sort (main_scope symbols) None index) index) (index ∷ [])) (λ spans left. (spans, left))

  pub limits-here : (call : Callee) (turns : ℕ) (index : Ranging) → ranging ≡ index
      → machine code construct.header (new_frame code construct.header) turns ≡ sequence (meant call index turns) (left_on (new_frame code construct.header))
  limits-here call turns index same =
      header-law (main_scope symbols) call head.line its_kind ranging here.built.step code (main-names symbols source is) first-usable last-usable
      (new_frame code construct.header) (inside [] turns) construct.header (sort_of_entity (entity (main_scope symbols) ranging.name))
      (whole-sort (entity (main_scope symbols) ranging.name) here.built.index) refl
      (lined-stand head.line ((limits_code (main_scope symbols) its_kind ranging ++ []) ++ What.End ∷ []) header-stand)
      ∙ ap (λ r. sequence (meant call r turns) (left_on (new_frame code construct.header))) same
