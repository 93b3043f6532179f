-- Each loop of a program that breaks no rule has instructions, for its limits and for its block.
use Rattle.std.proofs.Common.{◌≡◌, ℕ, suc, ◌+◌, true, false, ◌&&◌, List, [], ◌∷◌, ◌++◌, length, Option, Some, None, is_none, refl, sym, ap, ◌∙◌, subst}
use Rattle.std.proofs.lemmas.Bool.{and_parts, and_from, false≢true}
use Rattle.std.specs.List.{list_all}
use Rattle.dc_int.specs.declared.kind.Kind.{Kind}
use Rattle.dc_int.specs.Sorts.{Sort, whole, logical}
use Rattle.dc_tree.specs.declared.symbols.Symbol.{Symbol}
use Rattle.dc_tree.specs.Blocks.{Line, Items, plain, branch, select, none, and_then}
use Rattle.dc_tree.specs.Blocks as blocks
use Rattle.dc_form.specs.BuiltPrograms.{is_built_line, is_built_block, is_whole_scalar, is_built_limit, is_built_loop, are_built_items, is_built_symbol}
use Rattle.dc_tree.specs.Entities.{slots, Scope, entity, with_names, main_scope}
use Rattle.dc_tree.specs.Findings.{finding_if}
use Rattle.dc_tree.specs.Statements.{Name, Ranging, Statement}
use Rattle.dc_tree.specs.Statements as statements
use Rattle.dc_tree.specs.Syntax.{Tree}
use Rattle.dc_tree.specs.Typing.{sort_of, sort_of_entity}
use Rattle.dc_sorts.specs.declared.form.Form.{Form}
use Rattle.dc_sorts.specs.declared.meaning.Meaning.{Meaning}
use Rattle.dc_sorts.specs.Forms.{form_of_sort}
use Rattle.dc_sorts.specs.Meanings.{declared_meaning}
use Rattle.dc_sorts.specs.Standing.{Standing, scope_at}
use Rattle.dc_operands.specs.Arguments as arguments
use Rattle.dc_uses.specs.Uses.{use_findings}
use Rattle.dc_scope.specs.Deeds.{optional_findings}
use Rattle.dc_scope.specs.Headers as headers
use Rattle.dc_scope.specs.Scope as scopes
use Rattle.dc_types.specs.Actions.{form_at, expression_findings, limit_findings}
use Rattle.dc_types.specs.Loops as loops
use Rattle.dc_types.specs.Types as types
use Rattle.dc_meaning.specs.Concurrent.{Concurrent, Surroundings, block_scope}
use Rattle.dc_meaning.specs.Numbering.{loops_of, loops_of_all}
use Rattle.dc_lower.specs.Blocks.{block_is_lowered, block_is_typed}
use Rattle.dc_actions.specs.Expressions.{is_usable, is_number}
use Rattle.dc_actions.specs.Limits.{step_is_usable, limits_are_lowered}
use Rattle.dc_lower.specs.Lowerable.{loop_is_lowered}
use Rattle.dc_actions.specs.Typed.{is_typed, is_typed_number, step_is_typed, limits_are_typed}
use Rattle.dc_lower.proofs.Blocking.{block-passes, loop-built, IsScalar, scalar-is}
use Rattle.dc_actions.proofs.Deeds.{tree-passes}
use Rattle.dc_actions.proofs.Places.{main_standing, loop_standing, block-knows, limits-know, index-means}
use Rattle.dc_actions.proofs.Things.{Knows, form-known}
use Rattle.dc_actions.proofs.Unbroken.{both-none, not-found}
use Rattle.dc_lower.proofs.LoopShapes.{no-locals}
use Rattle.dc_lower.proofs.KnownNames.{no-reductions}
use Rattle.dc_lower.proofs.SimpleLoops.{no-loops}
use Rattle.dc_lower.proofs.FittingLists.{all-both}

-- ---- the scope of a block

abbrev pub loop_with : ℕ → ℕ → Scope → Ranging → Items → Concurrent
loop_with number line around ranging body =
    record { number = number; line = line; around = around; spec = None; indexes = ranging ∷ []; mask = None; locality = []; body = body }

-- A block sees the index before the names of the main program.
abbrev block_with : Scope → Name → Sort → Scope
block_with around text sort = with_names ((text, slots around.groups sort []) ∷ []) (around.groups + 1) around

block-scope : (within : Surroundings) (number line : ℕ) (around : Scope) (ranging : Ranging) (body : Items)
    → block_scope within (loop_with number line around ranging body) ≡ block_with around ranging.name (sort_of_entity (entity around ranging.name))
block-scope within number line around ranging body = simp (no-locals within.outsides, no-reductions within.outsides)

-- ---- limits

not-logical : (sort : Sort) → arguments.is_logical (form_of_sort sort) ≡ false → is_number sort ≡ true
not-logical (whole its_kind) h = refl
not-logical logical h = absurd (false≢true (sym h))

record LimitPasses (scope : Scope) (tree : Tree) : Type 0 where
  usable : is_usable scope tree ≡ true
  typed : is_typed_number scope tree ≡ true

module _ (standing : Standing) (scope : Scope) (knows : Knows standing scope) (line : ℕ) where
  limit-passes : (tree : Tree) → use_findings standing line tree ≡ [] → limit_findings standing line tree ≡ [] → LimitPasses scope tree
  limit-passes tree s t =
      let parts = both-none (expression_findings standing line tree) (finding_if (arguments.is_logical (form_at standing tree)) 28 line) t in
      let passes = tree-passes standing scope knows line tree s parts.0 in
      let number : is_number (sort_of scope tree) ≡ true =
      not-logical (sort_of scope tree)
      (sym (ap arguments.is_logical (form-known standing scope knows tree)) ∙ not-found (arguments.is_logical (form_at standing tree)) 28 line parts.1) in
      record { usable = passes.usable; typed = and_from (is_typed scope tree) (is_number (sort_of scope tree)) passes.typed number }

  -- Both limits, where there is no step.
  pub limits-pass : (ranging : Ranging) → ranging.step ≡ None → headers.limit_findings standing line ranging ≡ [] → loops.ranging_findings standing line ranging ≡ []
      → limits_are_lowered scope ranging ≡ true
  limits-pass ranging step s t =
      let found = both-none (use_findings standing line ranging.first) (use_findings standing line ranging.last ++ optional_findings standing line ranging.step) s in
      let others = both-none (use_findings standing line ranging.last) (optional_findings standing line ranging.step) found.1 in
      let given = both-none (limit_findings standing line ranging.first) (limit_findings standing line ranging.last ++ loops.step_findings standing line ranging.step) t in
      let more = both-none (limit_findings standing line ranging.last) (loops.step_findings standing line ranging.step) given.1 in
      let first = limit-passes ranging.first found.0 given.0 in
      let last = limit-passes ranging.last others.0 more.0 in
      let usable : step_is_usable scope ranging.step ≡ true = ap (step_is_usable scope) step in
      let typed : step_is_typed scope ranging.step ≡ true = ap (step_is_typed scope) step in
      and_from (is_usable scope ranging.first) (is_usable scope ranging.last && (step_is_usable scope ranging.step && limits_are_typed scope ranging)) first.usable
      (and_from (is_usable scope ranging.last) (step_is_usable scope ranging.step && limits_are_typed scope ranging) last.usable
      (and_from (step_is_usable scope ranging.step) (limits_are_typed scope ranging) usable
      (and_from (is_typed_number scope ranging.first) (is_typed_number scope ranging.last && step_is_typed scope ranging.step) first.typed
      (and_from (is_typed_number scope ranging.last) (step_is_typed scope ranging.step) last.typed typed))))

none-there : (step : Option Tree) → is_none step ≡ true → step ≡ None
none-there None h = refl
none-there (Some tree) h = absurd (false≢true h)

-- ---- one loop

-- no loop stands in the block of one
module _ (symbols : List Symbol) (built : list_all is_built_symbol symbols ≡ true) (within : Surroundings) where
  module _ (ranging : Ranging) (scalar : IsScalar (entity (main_scope symbols) ranging.name)) where
    means : (rank : ℕ) × (declared_meaning symbols 0 ranging.name ≡ Meaning.Variable (Form.Whole scalar.its_kind) rank)
    means = index-means symbols built ranging.name scalar.number scalar.its_kind scalar.is

    untyped-is : (m : Meaning) (rank : ℕ) → declared_meaning symbols 0 ranging.name ≡ m → m ≡ Meaning.Variable (Form.Whole scalar.its_kind) rank
        → headers.untyped_kind (main_standing symbols) ranging.name ≡ scalar.its_kind
    untyped-is m rank is same = rw (is ∙ same) refl

    -- where the rules of names and those of types see the limits and the block
    inside-named : headers.inside (main_standing symbols) None (ranging ∷ []) ≡ loop_standing symbols ranging.name scalar.its_kind
    inside-named =
        ap (λ (its_kind : Kind). loop_standing symbols ranging.name its_kind)
        (untyped-is (declared_meaning symbols 0 ranging.name) means.0 refl means.1)

    inside-typed : loops.in_concurrent (main_standing symbols) None (ranging ∷ []) [] ≡ loop_standing symbols ranging.name scalar.its_kind
    inside-typed = ap (λ (its_kind : Kind). loop_standing symbols ranging.name its_kind) (ap loops.kind_of_meaning means.1)

    inside-scope : (number line : ℕ) (body : Items) → block_scope within (loop_with number line (main_scope symbols) ranging body) ≡ scope_at (loop_standing symbols ranging.name scalar.its_kind)
    inside-scope number line body =
        block-scope within number line (main_scope symbols) ranging body
        ∙ ap (λ (sort : Sort). block_with (main_scope symbols) ranging.name sort) (ap sort_of_entity scalar.is)

    pub loop-passes : (number line : ℕ) (body : Items) → ranging.step ≡ None → is_built_block body ≡ true
        → headers.limit_findings (headers.inside (main_standing symbols) None (ranging ∷ [])) line ranging ≡ []
        → loops.ranging_findings (loops.in_concurrent (main_standing symbols) None (ranging ∷ []) []) line ranging ≡ []
        → scopes.block_findings (headers.inside (main_standing symbols) None (ranging ∷ [])) body ≡ []
        → types.items_findings (loops.in_concurrent (main_standing symbols) None (ranging ∷ []) []) body ≡ []
        → loop_is_lowered within (loop_with number line (main_scope symbols) ranging body) ≡ true
    loop-passes number line body step block s t u v =
        let place = loop_standing symbols ranging.name scalar.its_kind in
        let scope = block_scope within (loop_with number line (main_scope symbols) ranging body) in
        let limits =
        limits-pass place (main_scope symbols) (limits-know symbols built ranging.name scalar.number scalar.its_kind scalar.is) line ranging step
        (subst (λ (standing : Standing). headers.limit_findings standing line ranging ≡ []) inside-named s)
        (subst (λ (standing : Standing). loops.ranging_findings standing line ranging ≡ []) inside-typed t) in
        let its =
        block-passes place (scope_at place) (block-knows symbols built ranging.name scalar.number scalar.its_kind scalar.is) body block
        (subst (λ (standing : Standing). scopes.block_findings standing body ≡ []) inside-named u)
        (subst (λ (standing : Standing). types.items_findings standing body ≡ []) inside-typed v) in
        let same = sym (inside-scope number line body) in
        and_from (list_all (limits_are_lowered (main_scope symbols)) (ranging ∷ [])) (block_is_lowered scope false body && block_is_typed scope body)
        (and_from (limits_are_lowered (main_scope symbols) ranging) true limits refl)
        (and_from (block_is_lowered scope false body) (block_is_typed scope body)
        (subst (λ (inner : Scope). block_is_lowered inner false body ≡ true) same its.lowered)
        (subst (λ (inner : Scope). block_is_typed inner body ≡ true) same its.typed))

  -- ---- all loops

  only-loop : (number : ℕ) (head : Line) (body : Items) (close : Line) (label : Option Name) (ranging : Ranging)
      → head.says ≡ statements.concurrent label None (ranging ∷ []) None [] → is_built_block body ≡ true
      → loops_of within (main_scope symbols) number (blocks.loop head body close) ≡ loop_with number head.line (main_scope symbols) ranging body ∷ []
  only-loop number head body close label ranging header block =
      let found = loop_with number head.line (main_scope symbols) ranging body in
      rw header (ap (λ (others : List Concurrent). found ∷ others) (no-loops within (block_scope within found) (suc number) body block))

  with-header : (number : ℕ) (head : Line) (body : Items) (close : Line) (label : Option Name) (ranging : Ranging)
      → head.says ≡ statements.concurrent label None (ranging ∷ []) None [] → IsScalar (entity (main_scope symbols) ranging.name) → ranging.step ≡ None
      → is_built_block body ≡ true
      → scopes.one_findings (main_standing symbols) (blocks.loop head body close) ≡ [] → types.item_findings (main_standing symbols) (blocks.loop head body close) ≡ []
      → list_all (loop_is_lowered within) (loops_of within (main_scope symbols) number (blocks.loop head body close)) ≡ true
  with-header number head body close label ranging header scalar step block s t =
      let says = statements.concurrent label None (ranging ∷ []) None [] in
      let place = main_standing symbols in
      let inner = headers.inside place None (ranging ∷ []) in
      let within_types = loops.in_concurrent place None (ranging ∷ []) [] in
      let named = subst (λ (given : Statement). scopes.findings_at place head.line given ++ scopes.block_findings (scopes.within place given) body ≡ []) header s in
      let typed = subst (λ (given : Statement). types.statement_findings place head.line given ++ types.items_findings (loops.inside place given) body ≡ []) header t in
      let names = both-none (scopes.findings_at place head.line says) (scopes.block_findings inner body) named in
      let sorts = both-none (types.statement_findings place head.line says) (types.items_findings within_types body) typed in
      let outer = both-none (headers.outer_findings place head.line None (ranging ∷ [])) (headers.inner_findings inner head.line (ranging ∷ []) None []) names.0 in
      let limits = both-none (headers.limit_findings inner head.line ranging ++ []) [] outer.1 in
      let own = both-none (headers.limit_findings inner head.line ranging) [] limits.0 in
      let ranges = both-none (loops.ranging_findings within_types head.line ranging ++ []) [] sorts.0 in
      let kinds = both-none (loops.ranging_findings within_types head.line ranging) [] ranges.0 in
      let found = loop_with number head.line (main_scope symbols) ranging body in
      let passes = loop-passes ranging scalar number head.line body step block own.0 kinds.0 names.1 sorts.1 in
      let all : list_all (loop_is_lowered within) (found ∷ []) ≡ true = and_from (loop_is_lowered within found) true passes refl in
      subst (λ (here : List Concurrent). list_all (loop_is_lowered within) here ≡ true) (sym (only-loop number head body close label ranging header block)) all

  one-loop : (number : ℕ) (head : Line) (body : Items) (close : Line) → is_built_loop (main_scope symbols) head.says body ≡ true
      → scopes.one_findings (main_standing symbols) (blocks.loop head body close) ≡ [] → types.item_findings (main_standing symbols) (blocks.loop head body close) ≡ []
      → list_all (loop_is_lowered within) (loops_of within (main_scope symbols) number (blocks.loop head body close)) ≡ true
  one-loop number head body close is s t =
      let its = loop-built (main_scope symbols) head.says body is in
      let one = and_parts (is_none its.ranging.step)
      (is_whole_scalar (entity (main_scope symbols) its.ranging.name) && (is_built_limit its.ranging.name its.ranging.first && is_built_limit its.ranging.name its.ranging.last)) its.index in
      let two = and_parts (is_whole_scalar (entity (main_scope symbols) its.ranging.name))
      (is_built_limit its.ranging.name its.ranging.first && is_built_limit its.ranging.name its.ranging.last) one.1 in
      with-header number head body close its.label its.ranging its.header (scalar-is (entity (main_scope symbols) its.ranging.name) two.0)
      (none-there its.ranging.step one.0) its.block s t

  pub loops-pass : (number : ℕ) (block : Items) → are_built_items (main_scope symbols) block ≡ true → scopes.block_findings (main_standing symbols) block ≡ []
      → types.items_findings (main_standing symbols) block ≡ [] → list_all (loop_is_lowered within) (loops_of_all within (main_scope symbols) number block) ≡ true
  loops-pass number none each s t = refl
  loops-pass number (and_then (plain line) rest) each s t =
      let parts = and_parts (is_built_line line.says) (are_built_items (main_scope symbols) rest) each in
      let found = both-none (scopes.one_findings (main_standing symbols) (plain line)) (scopes.block_findings (main_standing symbols) rest) s in
      let sorted = both-none (types.item_findings (main_standing symbols) (plain line)) (types.items_findings (main_standing symbols) rest) t in
      loops-pass (number + 0) rest parts.1 found.1 sorted.1
  loops-pass number (and_then (blocks.loop head body close) rest) each s t =
      let here = loops_of within (main_scope symbols) number (blocks.loop head body close) in
      let parts = and_parts (is_built_loop (main_scope symbols) head.says body) (are_built_items (main_scope symbols) rest) each in
      let found = both-none (scopes.one_findings (main_standing symbols) (blocks.loop head body close)) (scopes.block_findings (main_standing symbols) rest) s in
      let sorted = both-none (types.item_findings (main_standing symbols) (blocks.loop head body close)) (types.items_findings (main_standing symbols) rest) t in
      all-both (loop_is_lowered within) here (loops_of_all within (main_scope symbols) (number + length here) rest) (one-loop number head body close parts.0 found.0 sorted.0)
      (loops-pass (number + length here) rest parts.1 found.1 sorted.1)
  loops-pass number (and_then (branch arms close) rest) each s t = absurd (false≢true each)
  loops-pass number (and_then (select head arms close) rest) each s t = absurd (false≢true each)
