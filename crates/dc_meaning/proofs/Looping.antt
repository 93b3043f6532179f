-- The loops of a main program that can be run.
use Rattle.std.proofs.Common.{◌≡◌, ℕ, zero, suc, ◌+◌, Bool, true, ◌&&◌, List, [], ◌∷◌, ◌++◌, map, length, Option, Some, None, refl, sym, ap, subst, ◌∙◌}
use Rattle.std.specs.Prelude.{ℤ, filter_map, slice_get, flat_map, is_none, not}
use Rattle.std.proofs.lemmas.Bool.{and_parts}
use Rattle.dc_int.specs.Sorts.{Sort, whole, logical, kind_of}
use Rattle.dc_code.specs.Troubles.{Slots}
use Rattle.dc_tree.specs.declared.program.Block.{Block, out-Block, fold_out-Block}
use Rattle.dc_tree.specs.declared.program.Node.{Node}
use Rattle.dc_tree.specs.declared.symbols.Symbol.{Symbol}
use Rattle.dc_tree.specs.Blocks as blocks
use Rattle.dc_tree.specs.Blocks.{Line, Item, Items, none, and_then, plain, branch, select, item, items, items_from, item_step, items_step, part_step}
use Rattle.dc_form.specs.BuiltPrograms.{is_held, mentions, is_whole_scalar, is_built_limit, is_built_index, is_built_inside, is_built_block, all_spare, is_built_line, is_built_loop, are_built_items}
use Rattle.dc_tree.specs.Entities.{Entity, outside, slots, dummy, constant, function, subroutine, reduction, nothing, Scope, entity, main_scope, with_names}
use Rattle.dc_tree.specs.Typing.{sort_of_entity}
use Rattle.dc_tree.specs.Statements as statements
use Rattle.dc_tree.specs.Statements.{Name, Ranging, Statement, concurrent}
use Rattle.dc_tree.specs.Syntax.{Tree}
use Rattle.dc_meaning.specs.Looping.{index_name, nth_loop}
use Rattle.dc_meaning.specs.Concurrent.{Outside, Concurrent, Surroundings, scalars_from, variables_from, local_of, reduction_of, block_scope, copied_by, combined_by, fresh_locals}
use Rattle.dc_meaning.specs.Execution.{exec_all}
use Rattle.dc_meaning.specs.Headers.{inside_frame, form_of}
use Rattle.dc_meaning.specs.Numbering.{concurrent_at, loop_and_inside, loops_of, loops_of_all}
use Rattle.dc_meaning.specs.WalkScope.{index_scope}

-- ---- a block as the code has it

pub block-items : (body : Block) (nodes : List Node) → nodes ≡ (out-Block body).nodes → items body ≡ items_from (map item nodes)
block-items body nodes same = fold_out-Block Item Items (Line × Items) item_step items_step part_step body ∙ ap (λ ns. items_from (map item ns)) (sym same)

-- ---- a loop that can be run

-- Its index is INTEGER.
pub whole-sort : (e : Entity) → is_whole_scalar e ≡ true → sort_of_entity e ≡ whole (kind_of (sort_of_entity e))
whole-sort (outside variable (whole kind) bounds) e = refl
whole-sort (outside variable logical bounds) e = cc
whole-sort (slots group sort bounds) e = cc
whole-sort (dummy place sort) e = cc
whole-sort (constant sort z) e = cc
whole-sort (function procedure sort) e = cc
whole-sort (subroutine procedure intents) e = cc
whole-sort (reduction variable op sort bounds) e = cc
whole-sort nothing e = cc

none-is : (step : Option Tree) → is_none step ≡ true → step ≡ None
none-is None e = refl
none-is (Some tree) e = cc

-- What such a loop is: one index without a step, and a block of plain lines that define other names.
pub record BuiltLoop (scope : Scope) (says : Statement) (body : Items) : Type 0 where
  pub label : Option Name
  pub ranging : Ranging
  pub is : says ≡ concurrent label None (ranging ∷ []) None []
  pub step : ranging.step ≡ None
  pub first : is_held ranging.first ≡ true
  pub last : is_held ranging.last ≡ true
  pub index : is_whole_scalar (entity scope ranging.name) ≡ true
  pub block : is_built_block body ≡ true
  pub spared : all_spare ranging.name body ≡ true

pub built-loop : (scope : Scope) (says : Statement) (body : Items) → is_built_loop scope says body ≡ true → BuiltLoop scope says body
built-loop scope (concurrent label None (ranging ∷ []) None []) body e =
    let limits = is_built_limit ranging.name ranging.first && is_built_limit ranging.name ranging.last in
    let parts = and_parts (is_built_index scope ranging) (is_built_block body && all_spare ranging.name body) e in
    let header = and_parts (is_none ranging.step) (is_whole_scalar (entity scope ranging.name) && limits) parts.0 in
    let index = and_parts (is_whole_scalar (entity scope ranging.name)) limits header.1 in
    let both = and_parts (is_built_limit ranging.name ranging.first) (is_built_limit ranging.name ranging.last) index.1 in
    let inside = and_parts (is_built_block body) (all_spare ranging.name body) parts.1 in
    record {
      label = label;
      ranging = ranging;
      is = refl;
      step = none-is ranging.step header.0;
      first = (and_parts (is_held ranging.first) (not (mentions ranging.name ranging.first)) both.0).0;
      last = (and_parts (is_held ranging.last) (not (mentions ranging.name ranging.last)) both.1).0;
      index = index.0;
      block = inside.0;
      spared = inside.1;
    }
built-loop scope (concurrent label (Some spec) indexes mask locality) body e = cc
built-loop scope (concurrent label None [] mask locality) body e = cc
built-loop scope (concurrent label None (first ∷ second ∷ rest) mask locality) body e = cc
built-loop scope (concurrent label None (ranging ∷ []) (Some mask) locality) body e = cc
built-loop scope (concurrent label None (ranging ∷ []) None (first ∷ rest)) body e = cc
built-loop scope (statements.program_line name) body e = cc
built-loop scope (statements.use_line form source names) body e = cc
built-loop scope (statements.implicit_none) body e = cc
built-loop scope (statements.declare form attributes colons names) body e = cc
built-loop scope (statements.contains_line) body e = cc
built-loop scope (statements.procedure_line prefix with_result text brackets dummies result) body e = cc
built-loop scope (statements.end_line unit text) body e = cc
built-loop scope (statements.if_then test) body e = cc
built-loop scope (statements.else_if test) body e = cc
built-loop scope (statements.else_line) body e = cc
built-loop scope (statements.end_if) body e = cc
built-loop scope (statements.if_action test deed) body e = cc
built-loop scope (statements.select_case tree) body e = cc
built-loop scope (statements.case ranges) body e = cc
built-loop scope (statements.case_default) body e = cc
built-loop scope (statements.end_select) body e = cc
built-loop scope (statements.do_line label ranging) body e = cc
built-loop scope (statements.do_while label test) body e = cc
built-loop scope (statements.end_do label) body e = cc
built-loop scope (statements.act deed) body e = cc

-- Its block has no loops.
no-inner : (within : Surroundings) (scope : Scope) (number : ℕ) (body : Items) → is_built_block body ≡ true → loops_of_all within scope number body ≡ []
no-inner within scope number none e = refl
no-inner within scope number (and_then (plain line) rest) e = no-inner within scope (number + 0) rest (and_parts (is_built_inside line.says) (is_built_block rest) e).1
no-inner within scope number (and_then (branch arms close) rest) e = cc
no-inner within scope number (and_then (select head arms close) rest) e = cc
no-inner within scope number (and_then (blocks.loop head body close) rest) e = cc

-- ---- the loops of a program

abbrev pub concurrent-with : Scope → ℕ → Line → Items → Ranging → Concurrent
concurrent-with scope number head body ranging =
    record { number = number; line = head.line; around = scope; spec = None; indexes = ranging ∷ []; mask = None; locality = []; body = body }

pub one-loop : (within : Surroundings) (scope : Scope) (number : ℕ) (head : Line) (body : Items) (close : Line) (built : BuiltLoop scope head.says body)
    → loops_of within scope number (blocks.loop head body close) ≡ concurrent-with scope number head body built.ranging ∷ []
one-loop within scope number head body close built =
    let found = concurrent-with scope number head body built.ranging in
    ap (λ s. loop_and_inside within scope number (concurrent_at scope number (record { line = head.line; says = s }) body) (λ inner from. loops_of_all within inner from body)) built.is
    ∙ ap (λ inside. found ∷ inside) (no-inner within (block_scope within found) (suc number) body built.block)

-- What stands at a number among the loops.
pub record LoopAt (scope : Scope) (loops : List Concurrent) (number : ℕ) (head : Line) (body : Items) : Type 0 where
  pub whole : is_built_loop scope head.says body ≡ true
  pub built : BuiltLoop scope head.says body
  pub counted : ℕ
  pub at : slice_get loops number ≡ Some (concurrent-with scope counted head body built.ranging)

abbrev pub IsLoop : Scope → List Concurrent → ℕ → Option (Line × Items) → Type 0
IsLoop scope loops number None = slice_get loops number ≡ None
IsLoop scope loops number (Some found) = LoopAt scope loops number found.0 found.1

skip : (scope : Scope) (first : Concurrent) (loops : List Concurrent) (number : ℕ) (found : Option (Line × Items)) → IsLoop scope loops number found → IsLoop scope (first ∷ loops) (suc number) found
skip scope first loops number None at = at
skip scope first loops number (Some found) at = record { whole = at.whole; built = at.built; counted = at.counted; at = at.at }

pub loop-found : (within : Surroundings) (scope : Scope) (from number : ℕ) (body : Items) → are_built_items scope body ≡ true → IsLoop scope (loops_of_all within scope from body) number (nth_loop number body)
loop-found within scope from zero none e = refl
loop-found within scope from (suc number) none e = refl
loop-found within scope from zero (and_then (plain line) rest) e =
    loop-found within scope (from + 0) zero rest (and_parts (is_built_line line.says) (are_built_items scope rest) e).1
loop-found within scope from (suc number) (and_then (plain line) rest) e =
    loop-found within scope (from + 0) (suc number) rest (and_parts (is_built_line line.says) (are_built_items scope rest) e).1
loop-found within scope from number (and_then (branch arms close) rest) e = cc
loop-found within scope from number (and_then (select head arms close) rest) e = cc
loop-found within scope from zero (and_then (blocks.loop head body close) rest) e =
    let whole = (and_parts (is_built_loop scope head.says body) (are_built_items scope rest) e).0 in
    let built = built-loop scope head.says body whole in
    record {
      whole = whole;
      built = built;
      counted = from;
      at = ap (λ here. slice_get (here ++ loops_of_all within scope (from + length here) rest) 0) (one-loop within scope from head body close built);
    }
loop-found within scope from (suc number) (and_then (blocks.loop head body close) rest) e =
    let both = and_parts (is_built_loop scope head.says body) (are_built_items scope rest) e in
    let built = built-loop scope head.says body both.0 in
    let found = concurrent-with scope from head body built.ranging in
    subst (λ here. IsLoop scope (here ++ loops_of_all within scope (from + length here) rest) (suc number) (nth_loop number rest)) (sym (one-loop within scope from head body close built))
    (skip scope found (loops_of_all within scope (from + 1) rest) number (nth_loop number rest) (loop-found within scope (from + 1) number rest both.1))

-- ---- the form of a loop without localities

no-locals : (outsides : List Outside) → filter_map (local_of []) outsides ≡ []
no-locals [] = refl
no-locals (first ∷ rest) = no-locals rest

no-reductions : (outsides : List Outside) → filter_map (reduction_of []) outsides ≡ []
no-reductions [] = refl
no-reductions (first ∷ rest) = no-reductions rest

no-combines : (loop : Concurrent) → loop.locality ≡ [] → (outsides : List Outside) → flat_map (combined_by loop) outsides ≡ []
no-combines loop is [] = refl
no-combines loop is (first ∷ rest) = rw is (no-combines loop is rest)

module _ (within : Surroundings) (symbols : List Symbol) (number : ℕ) (head : Line) (body : Items) (built : BuiltLoop (main_scope symbols) head.says body) where
  abbrev found-loop : Concurrent
  found-loop = concurrent-with (main_scope symbols) number head body built.ranging

  abbrev scope-with : List (Outside × Bool) → List (Name × Entity) → Sort → Scope
  scope-with locals reductions sort =
      with_names (scalars_from 0 ((built.ranging.name, sort) ∷ []) ++ (variables_from 1 (map (λ w. w.0) locals) ++ reductions)) (0 + (1 + length locals)) (main_scope symbols)

  pub scope-is : block_scope within found-loop ≡ index_scope symbols (index_name head.says)
  scope-is =
      (λ i. scope-with (no-locals within.outsides i) (no-reductions within.outsides i) (whole-sort (entity (main_scope symbols) built.ranging.name) built.index i))
      ∙ ap (λ s. index_scope symbols (index_name s)) (sym built.is)

  pub block-form : (z : ℤ) → (form_of within found-loop []).block [] (z ∷ [])
      ≡ inside_frame ((Some z ∷ []) ∷ []) within.turns (exec_all (index_scope symbols (index_name head.says)) within.call (suc number) body) (λ flow left. left)
  block-form z =
      ap (λ locals. inside_frame ((Some z ∷ []) ∷ fresh_locals (main_scope symbols) [] [] locals) within.turns (exec_all (block_scope within found-loop) within.call (suc number) body) (λ flow left. left))
      (no-locals within.outsides)
      ∙ ap (λ s. inside_frame ((Some z ∷ []) ∷ []) within.turns (exec_all s within.call (suc number) body) (λ flow left. left)) scope-is

  pub copies-form : (around : Slots) → (form_of within found-loop around).copied ≡ []
  copies-form around = ap (flat_map (copied_by found-loop)) (no-locals within.outsides)

  pub combines-form : (around : Slots) → (form_of within found-loop around).combines ≡ []
  combines-form around = no-combines found-loop refl within.outsides
