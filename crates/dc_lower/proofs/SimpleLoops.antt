-- The loops of a program that is built: each has one index, and assignments alone.
use Rattle.std.proofs.Common.{◌≡◌, ℕ, suc, ◌+◌, true, cond, List, [], ◌∷◌, ◌++◌, length, None, refl, sym, ap, ◌∙◌, subst, arith}
use Rattle.std.proofs.lemmas.Bool.{false≢true}
use Rattle.dc_tree.specs.Blocks as trees
use Rattle.dc_tree.specs.Blocks.{Line, Items, plain, none, and_then}
use Rattle.dc_form.specs.BuiltPrograms.{is_whole_scalar, is_built_block, is_built_loop, are_built_items}
use Rattle.dc_tree.specs.Entities.{Scope, entity}
use Rattle.dc_tree.specs.Statements as statements
use Rattle.dc_tree.specs.Statements.{Ranging, Statement}
use Rattle.dc_meaning.specs.Concurrent.{Concurrent, Surroundings, block_scope}
use Rattle.dc_meaning.specs.Execution.{is_concurrent, loops_in_all}
use Rattle.dc_meaning.specs.Numbering.{concurrent_at, loop_and_inside, loops_of_all}
use Rattle.dc_actions.proofs.Facts.{both-true}
use Rattle.dc_lower.proofs.KnownNames.{simple_loop}
use Rattle.std.proofs.lemmas.List.{length-append}

pub record IsSimple (scope : Scope) (found : Concurrent) : Type 0 where
  pub number : ℕ
  pub line : ℕ
  pub ranging : Ranging
  pub inside : Items
  pub same : simple_loop scope number line ranging inside ≡ found
  pub scalar : is_whole_scalar (entity scope ranging.name) ≡ true
  pub built : is_built_block inside ≡ true

abbrev pub AreSimple : Scope → List Concurrent → Type 0
AreSimple scope [] = Unit {0}
AreSimple scope (first ∷ rest) = IsSimple scope first × AreSimple scope rest

simple-both : (scope : Scope) (first second : List Concurrent) → AreSimple scope first → AreSimple scope second → AreSimple scope (first ++ second)
simple-both scope [] second are others = others
simple-both scope (found ∷ first) second are others = (are.0, simple-both scope first second are.1 others)

-- ---- blocks of assignments

pub no-loops : (within : Surroundings) (scope : Scope) (number : ℕ) (block : Items) → is_built_block block ≡ true → loops_of_all within scope number block ≡ []
no-loops within scope number none built = refl
no-loops within scope number (and_then (plain line) rest) built = no-loops within scope (number + 0) rest (both-true built).1
no-loops within scope number (and_then other rest) built = absurd (false≢true built)

pub none-entered : (block : Items) → is_built_block block ≡ true → loops_in_all block ≡ 0
none-entered none built = refl
none-entered (and_then (plain line) rest) built = ap (λ n. 0 + n) (none-entered rest (both-true built).1)
none-entered (and_then other rest) built = absurd (false≢true built)

-- ---- loops

-- The loops that a loop of the main program is, and that are inside it.
abbrev loops_at : Surroundings → Scope → ℕ → Line → Items → List Concurrent
loops_at within scope number head inside = loop_and_inside within scope number (concurrent_at scope number head inside) (λ inner from. loops_of_all within inner from inside)

simple-here : (within : Surroundings) (scope : Scope) (number line : ℕ) (says : Statement) (inside : Items) → is_built_loop scope says inside ≡ true
    → AreSimple scope (loops_at within scope number (record { line = line; says = says }) inside)
simple-here within scope number line (statements.concurrent label None (ranging ∷ []) None []) inside built =
    let block = (both-true (both-true built).1).0 in
    let index = both-true (both-true built).0 in
    let one = simple_loop scope number line ranging inside in (
      record { number = number; line = line; ranging = ranging; inside = inside; same = refl; scalar = (both-true index.1).0; built = block },
      subst (AreSimple scope) (sym (no-loops within (block_scope within one) (suc number) inside block)) tt,
    )
simple-here within scope number line says inside built = absurd (false≢true built)

pub all-simple : (within : Surroundings) (scope : Scope) (number : ℕ) (block : Items) → are_built_items scope block ≡ true → AreSimple scope (loops_of_all within scope number block)
all-simple within scope number none built = tt
all-simple within scope number (and_then (plain line) rest) built = all-simple within scope (number + 0) rest (both-true built).1
all-simple within scope number (and_then (trees.loop head inside close) rest) built =
    let here = loops_at within scope number head inside in
    simple-both scope here (loops_of_all within scope (number + length here) rest) (simple-here within scope number head.line head.says inside (both-true built).0)
    (all-simple within scope (number + length here) rest (both-true built).1)
all-simple within scope number (and_then other rest) built = absurd (false≢true built)

-- ---- how many there are

count-here : (within : Surroundings) (scope : Scope) (number line : ℕ) (says : Statement) (inside : Items) → is_built_loop scope says inside ≡ true
    → cond (is_concurrent says) 1 0 + loops_in_all inside ≡ length (loops_at within scope number (record { line = line; says = says }) inside)
count-here within scope number line (statements.concurrent label None (ranging ∷ []) None []) inside built =
    let block = (both-true (both-true built).1).0 in
    let one = simple_loop scope number line ranging inside in
    ap (λ n. 1 + n) (none-entered inside block) ∙ sym (ap (λ (others : List Concurrent). suc (length others)) (no-loops within (block_scope within one) (suc number) inside block))
count-here within scope number line says inside built = absurd (false≢true built)

pub all-counted : (within : Surroundings) (scope : Scope) (number : ℕ) (block : Items) → are_built_items scope block ≡ true
    → loops_in_all block ≡ length (loops_of_all within scope number block)
all-counted within scope number none built = refl
all-counted within scope number (and_then (plain line) rest) built = omega arith ∙ all-counted within scope (number + 0) rest (both-true built).1
all-counted within scope number (and_then (trees.loop head inside close) rest) built =
    let here = loops_at within scope number head inside in
    ap (λ n. n + loops_in_all rest) (count-here within scope number head.line head.says inside (both-true built).0)
    ∙ ap (λ n. length here + n) (all-counted within scope (number + length here) rest (both-true built).1)
    ∙ sym (length-append here (loops_of_all within scope (number + length here) rest))
all-counted within scope number (and_then other rest) built = absurd (false≢true built)
