-- The code of a program is well formed.
use Rattle.std.proofs.Common.{◌≡◌, ◌≤◌, ℕ, zero, suc, ◌+◌, true, false, List, [], ◌∷◌, length, Option, Some, refl, sym, ap, subst, arith}
use Rattle.std.specs.Prelude.{take, drop, slice_get, IsTrue}
use Rattle.std.specs.List.{list_all}
use Rattle.std.proofs.lemmas.Bool.{false≢true, leb-true, eq-eqb}
use Rattle.std.proofs.lemmas.Option.{none-some}
use Rattle.dc_int.specs.declared.kind.Kind.{Kind}
use Rattle.dc_int.specs.Kinds.{bits_of}
use Rattle.dc_code.specs.declared.plan.Group.{Group}
use Rattle.dc_code.specs.declared.plan.Plan.{Plan}
use Rattle.dc_code.specs.Codes.{CodeLists, is_small, has_small_groups}
use Rattle.dc_code.specs.StackSorts as items
use Rattle.dc_code.specs.WellFormed.{IsWellFormed}
use Rattle.dc_tree.specs.declared.symbols.Symbol.{Symbol}
use Rattle.dc_tree.specs.Blocks.{Line, Items, Subprogram, Source}
use Rattle.dc_form.specs.BuiltPrograms.{is_whole_scalar, is_built_block, is_built, is_built_symbol, are_built_items, elements_of_all}
use Rattle.dc_tree.specs.Entities.{Scope, entity, symbols_in, main_scope}
use Rattle.dc_tree.specs.Statements.{Name, Ranging}
use Rattle.dc_meaning.specs.Concurrent.{Concurrent, Surroundings, block_scope}
use Rattle.dc_meaning.specs.Execution.{loops_in_all}
use Rattle.dc_meaning.specs.Programs.{surroundings, program_loops}
use Rattle.dc_lower.specs.Blocks.{groups_of_block}
use Rattle.dc_lower.specs.Lowerable.{loop_is_lowered, IsLowerable, are_held_symbols}
use Rattle.dc_actions.specs.Limits.{limits_code}
use Rattle.dc_lower.specs.Lowered.{kind_of_index, loop_code, no_slots, index_group, body_plan, plans_of_loops, main_code, main_plan, lowered}
use Rattle.dc_actions.proofs.Facts.{both-hold, both-true}
use Rattle.dc_actions.proofs.Straight.{runs-both}
use Rattle.dc_lower.proofs.StraightCodes.{ground_of, IsStraight, AreStraight, straight-code-is-well-formed}
use Rattle.dc_actions.proofs.RunsOfStatements.{HoldsNames}
use Rattle.dc_lower.proofs.RunsOfBlocks.{block-runs}
use Rattle.dc_actions.proofs.RunsOfDeeds.{limits-runs}
use Rattle.dc_actions.proofs.Standing.{Stand, all-stand, behind-stand}
use Rattle.dc_lower.proofs.KnownNames.{KnownIn, fits-known, holds-known, all-in-main, main-known, simple_loop, indexed_scope, scope-of-block, block-known}
use Rattle.dc_lower.proofs.LoopShapes.{no-texts}
use Rattle.dc_lower.proofs.SimpleLoops.{AreSimple, none-entered, all-simple, all-counted}
use Rattle.dc_lower.proofs.LaidCodes.{header_segment, body_segment, segments_from, main_segment, all_segments, all-whats, all-starts, all-parts}
use Rattle.dc_lower.proofs.FittingLists.{bounds-fit, bounds-small, groups-small, body-changes, no-local-groups, as-many-plans, as-many-loops, constructs-fit}

-- ---- a loop

empty-stand : {A : Type 0} (whole : List A) (from : ℕ) → Stand whole from []
empty-stand whole from = record { each = λ i item e. absurd (nothing-there i item e) }
  where
    nothing-there : {A : Type 0} (i : ℕ) (item : A) → slice_get [] i ≡ Some item → ⊥
    nothing-there zero item e = none-some item e
    nothing-there (suc i) item e = none-some item e

take-none : {A : Type 0} (items : List A) → take 0 items ≡ []
take-none [] = refl
take-none (item ∷ items) = refl

-- The names of the main program are known in a code, for any plan.
abbrev KnownMain : List Symbol → CodeLists → Type 0
KnownMain symbols code = (plan : Plan) (text : Name) → KnownIn code plan (entity (main_scope symbols) text)

abbrev simple_of : List Symbol → ℕ → ℕ → Ranging → Items → Concurrent
simple_of symbols number line ranging inside = simple_loop (main_scope symbols) number line ranging inside

simple-header : (symbols : List Symbol) (code : CodeLists) (within : Surroundings) (at number line : ℕ) (ranging : Ranging) (inside : Items) → KnownMain symbols code
    → loop_is_lowered within (simple_of symbols number line ranging inside) ≡ true → IsStraight code (header_segment within at (simple_of symbols number line ranging inside))
simple-header symbols code within at number line ranging inside known so = record {
  fits = refl;
  ends = refl;
  runs = runs-both (ground_of code (header_segment within at found)) [] three three (limits_code (main_scope symbols) k ranging) []
      (limits-runs (ground_of code (header_segment within at found)) (main_scope symbols) (fits-known code no_slots (main_scope symbols) (known no_slots)) k ranging [] (both-true (both-true so).0).0)
      refl;
}
  where
    found : Concurrent
    found = simple_of symbols number line ranging inside

    k : Kind
    k = kind_of_index found ranging

    three : items.Sorts
    three = items.number k ∷ items.number k ∷ items.number k ∷ []

simple-body : (symbols : List Symbol) (code : CodeLists) (within : Surroundings) (at number line : ℕ) (ranging : Ranging) (inside : Items) → KnownMain symbols code
    → is_whole_scalar (entity (main_scope symbols) ranging.name) ≡ true → is_built_block inside ≡ true → loop_is_lowered within (simple_of symbols number line ranging inside) ≡ true
    → IsStraight code (body_segment within at (simple_of symbols number line ranging inside))
simple-body symbols code within at number line ranging inside known scalar built so = record {
  fits = (
    refl,
    (
      both-hold (both-hold (eq-eqb (bits_of k) (bits_of k) refl) refl) refl,
      subst (λ (locals : List Group). take (length locals) (drop 1 plan.groups) ≡ locals) (sym (no-local-groups within.outsides code.shapes code.bounds)) (take-none (drop 1 plan.groups)),
    ),
  );
  ends = refl;
  runs = block-runs (ground_of code (body_segment within at found)) scope (fits-known code plan scope known_block) (holds-known code plan scope known_block)
      (body-changes within at found refl) false (λ e. absurd (false≢true e)) 0 scope.groups 0 inside []
      (subst (λ texts. Stand code.texts 0 texts) (sym (no-texts inside built)) (empty-stand code.texts 0))
      (subst (λ n. Stand plan.groups n (groups_of_block scope inside)) (sym (ap (λ (names : Scope). names.groups) scope_is)) (behind-stand (index_group k ∷ []) (groups_of_block scope inside)))
      (omega (arith, none-entered inside built)) (both-true (both-true so).1).0 (both-true (both-true so).1).1 built;
}
  where
    found : Concurrent
    found = simple_of symbols number line ranging inside

    k : Kind
    k = kind_of_index found ranging

    plan : Plan
    plan = body_plan within found

    scope : Scope
    scope = block_scope within found

    scope_is : block_scope within found ≡ indexed_scope (main_scope symbols) ranging
    scope_is = scope-of-block within symbols number line ranging inside

    known_block : (text : Name) → KnownIn code plan (entity scope text)
    known_block = subst (λ (names : Scope). (text : Name) → KnownIn code plan (entity names text)) (sym scope_is) (block-known symbols code plan ranging (known plan) scalar refl)

-- The block of a loop has the names that are known.
holds-block : (symbols : List Symbol) (code : CodeLists) (within : Surroundings) (number line : ℕ) (ranging : Ranging) (inside : Items) → KnownMain symbols code
    → is_whole_scalar (entity (main_scope symbols) ranging.name) ≡ true → HoldsNames (block_scope within (simple_of symbols number line ranging inside))
holds-block symbols code within number line ranging inside known scalar =
    let found = simple_of symbols number line ranging inside in
    let plan = body_plan within found in
    subst HoldsNames (sym (scope-of-block within symbols number line ranging inside))
    (holds-known code plan (indexed_scope (main_scope symbols) ranging) (block-known symbols code plan ranging (known plan) scalar refl))

loops-straight : (symbols : List Symbol) (code : CodeLists) (within : Surroundings) (at : ℕ) (loops : List Concurrent) → KnownMain symbols code → AreSimple (main_scope symbols) loops
    → list_all (loop_is_lowered within) loops ≡ true → AreStraight code (segments_from within at loops)
loops-straight symbols code within at [] known are so = tt
loops-straight symbols code within at (loop ∷ loops) known are so =
    let is = are.0 in
    let both = subst (λ found. loop_is_lowered within found ≡ true → IsStraight code (header_segment within at found) × IsStraight code (body_segment within at found)) is.same
    (λ lowered. (
      simple-header symbols code within at is.number is.line is.ranging is.inside known lowered,
      simple-body symbols code within at is.number is.line is.ranging is.inside known is.scalar is.built lowered,
    )) (both-true so).0 in
    (both.0, (both.1, loops-straight symbols code within (at + length (loop_code within loop)) loops known are.1 (both-true so).1))

-- ---- sizes

plans-small : (symbols : List Symbol) (code : CodeLists) (within : Surroundings) (loops : List Concurrent) → KnownMain symbols code → AreSimple (main_scope symbols) loops
    → list_all (loop_is_lowered within) loops ≡ true → list_all has_small_groups (plans_of_loops within loops) ≡ true
plans-small symbols code within [] known are so = refl
plans-small symbols code within (loop ∷ loops) known are so =
    let is = are.0 in
    both-hold
    (subst (λ found. loop_is_lowered within found ≡ true → has_small_groups (body_plan within found) ≡ true) is.same
    (λ lowered. groups-small (block_scope within (simple_of symbols is.number is.line is.ranging is.inside))
    (holds-block symbols code within is.number is.line is.ranging is.inside known is.scalar) false is.inside (both-true (both-true lowered).1).0) (both-true so).0)
    (plans-small symbols code within loops known are.1 (both-true so).1)

-- ---- programs

-- What is built.
pub record IsBuilt (symbols : List Symbol) (body : Items) : Type 0 where
  pub names : list_all is_built_symbol symbols ≡ true
  pub few : elements_of_all symbols ≤ 4194304
  pub items : are_built_items (main_scope symbols) body ≡ true

built-without : (symbols : List Symbol) (head : Line) (front : List Line) (body : Items) (contains : Option ℕ) (procedures : List Subprogram) (close : Line)
    → is_built symbols (record { head = head; front = front; body = body; contains = contains; procedures = procedures; close = close }) ≡ true → IsBuilt symbols body
built-without symbols head front body contains [] close built =
    let parts = both-true (both-true built).1 in
    let lists = both-true (both-true parts.0).1 in
    record { names = lists.0; few = leb-true (elements_of_all symbols) 4194304 lists.1; items = parts.1 }
built-without symbols head front body contains (first ∷ rest) close built = absurd (false≢true built)

pub is-built : (symbols : List Symbol) (source : Source) → is_built symbols source ≡ true → IsBuilt symbols source.body
is-built symbols source built = built-without symbols source.head source.front source.body source.contains source.procedures source.close built

pub code-is-well-formed : (symbols : List Symbol) (source : Source) → IsLowerable symbols source → IsTrue (are_held_symbols symbols) → IsWellFormed (lowered symbols source)
code-is-well-formed symbols source able held =
    straight-code-is-well-formed code (all_segments symbols source within loops) (record {
      instructions = all-whats symbols source within loops;
      parts = all-parts symbols source within loops;
      starts = all-starts symbols source within loops;
      straight = (main_straight, loops-straight symbols code within at loops known simple able.loops);
    })
    (bounds-fit within.outsides)
    (both-hold bounds_small (both-hold (groups-small (main_scope symbols) (holds-known code (main_plan symbols source) (main_scope symbols) (known (main_plan symbols source))) true source.body able.lowered)
    (plans-small symbols code within loops known simple able.loops)))
    (ap suc (as-many-plans within at loops))
    (constructs-fit within (main_scope symbols) at loops simple)
  where
    code : CodeLists
    code = lowered symbols source

    within : Surroundings
    within = surroundings symbols source 0

    loops : List Concurrent
    loops = program_loops symbols source 0

    at : ℕ
    at = length (main_code symbols source)

    built : IsBuilt symbols source.body
    built = is-built symbols source able.built

    simple : AreSimple (main_scope symbols) loops
    simple = all-simple within (main_scope symbols) 0 source.body built.items

    known : KnownMain symbols code
    known plan text = main-known symbols code plan refl refl built.names able.sound held built.few text

    bounds_small : list_all is_small code.bounds ≡ true
    bounds_small = bounds-small (symbols_in 0 symbols) (subst (λ given. elements_of_all given ≤ 4194304) (sym (all-in-main symbols built.names)) built.few) 0

    few : 0 + loops_in_all source.body ≤ length code.constructs
    few =
        let entered : loops_in_all source.body ≡ length loops = all-counted within (main_scope symbols) 0 source.body built.items in
        let made : length code.constructs ≡ length loops = as-many-loops symbols source able 0 in
        omega (arith, entered, made)

    main_straight : IsStraight code (main_segment symbols source)
    main_straight = record {
      fits = refl;
      ends = refl;
      runs = block-runs (ground_of code (main_segment symbols source)) (main_scope symbols) (fits-known code (main_plan symbols source) (main_scope symbols) (known (main_plan symbols source)))
          (holds-known code (main_plan symbols source) (main_scope symbols) (known (main_plan symbols source))) (λ variable. refl) true (λ e. (refl, λ number. refl)) 0 0 0 source.body []
          (all-stand code.texts) (all-stand (main_plan symbols source).groups) few able.lowered able.typed refl;
    }
