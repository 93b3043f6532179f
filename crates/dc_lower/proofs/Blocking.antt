-- A block that breaks no rule has instructions, and so has each loop in the main program.
use Rattle.std.proofs.Common.{◌≡◌, ℕ, Bool, true, false, ◌&&◌, List, [], ◌∷◌, Option, None, refl, ap}
use Rattle.std.proofs.lemmas.Bool.{and_parts, and_from, false≢true}
use Rattle.std.specs.List.{list_all}
use Rattle.dc_int.specs.declared.kind.Kind.{Kind}
use Rattle.dc_int.specs.Sorts.{whole}
use Rattle.dc_tree.specs.declared.symbols.Symbol.{Symbol}
use Rattle.dc_tree.specs.Blocks.{Items, plain, branch, select, none, and_then}
use Rattle.dc_tree.specs.Blocks as blocks
use Rattle.dc_form.specs.BuiltPrograms.{is_built_deed, is_built_assignment, is_built_inside, is_built_line, is_built_block, is_whole_scalar, is_built_index, is_built_loop, all_spare, are_built_items, is_built_symbol}
use Rattle.dc_tree.specs.Entities.{Entity, outside, Scope, main_scope}
use Rattle.dc_tree.specs.Statements.{Name, Ranging, Deed, assign, fill, print, Statement, act}
use Rattle.dc_tree.specs.Statements as statements
use Rattle.dc_sorts.specs.Standing.{Standing}
use Rattle.dc_scope.specs.Scope as scopes
use Rattle.dc_types.specs.Types as types
use Rattle.dc_meaning.specs.Execution.{is_concurrent}
use Rattle.dc_lower.specs.Blocks.{says_is_lowered, block_is_lowered, says_is_typed, block_is_typed}
use Rattle.dc_actions.proofs.Deeds.{deed-passes}
use Rattle.dc_actions.proofs.Places.{main_standing, main-knows}
use Rattle.dc_actions.proofs.Things.{Knows}
use Rattle.dc_actions.proofs.Unbroken.{both-none}

-- ---- statements

pub record BlockPasses (scope : Scope) (loops : Bool) (block : Items) : Type 0 where
  pub lowered : block_is_lowered scope loops block ≡ true
  pub typed : block_is_typed scope block ≡ true

pub record SaysPasses (scope : Scope) (says : Statement) : Type 0 where
  pub lowered : says_is_lowered scope says ≡ true
  pub typed : says_is_typed scope says ≡ true

deed-built : (deed : Deed) → is_built_assignment deed ≡ true → is_built_deed deed ≡ true
deed-built (print written items) built = absurd (false≢true built)
deed-built (assign target tree) built = built
deed-built (fill text trees) built = built
deed-built other built = absurd (false≢true built)

pub line-built : (says : Statement) → is_built_inside says ≡ true → is_built_line says ≡ true
line-built (act deed) built = deed-built deed built
line-built other built = absurd (false≢true built)

module _ (standing : Standing) (scope : Scope) (knows : Knows standing scope) where
  pub says-passes : (line : ℕ) (says : Statement) → is_built_line says ≡ true → scopes.findings_at standing line says ≡ [] → types.statement_findings standing line says ≡ []
      → SaysPasses scope says
  says-passes line (act deed) built s t =
      let its = deed-passes standing scope knows line deed built s t in
      record { lowered = its.lowered; typed = its.typed }
  says-passes line other built s t = absurd (false≢true built)

  -- The block of a loop.
  pub block-passes : (block : Items) → is_built_block block ≡ true → scopes.block_findings standing block ≡ [] → types.items_findings standing block ≡ []
      → BlockPasses scope false block
  block-passes none built s t = record { lowered = refl; typed = refl }
  block-passes (and_then (plain line) rest) built s t =
      let parts = and_parts (is_built_inside line.says) (is_built_block rest) built in
      let found = both-none (scopes.one_findings standing (plain line)) (scopes.block_findings standing rest) s in
      let sorted = both-none (types.item_findings standing (plain line)) (types.items_findings standing rest) t in
      let one = says-passes line.line line.says (line-built line.says parts.0) found.0 sorted.0 in
      let others = block-passes rest parts.1 found.1 sorted.1 in
      record {
        lowered = and_from (says_is_lowered scope line.says) (block_is_lowered scope false rest) one.lowered others.lowered;
        typed = and_from (says_is_typed scope line.says) (block_is_typed scope rest) one.typed others.typed;
      }
  block-passes (and_then (branch arms close) rest) built s t = absurd (false≢true built)
  block-passes (and_then (select head arms close) rest) built s t = absurd (false≢true built)
  block-passes (and_then (blocks.loop head body close) rest) built s t = absurd (false≢true built)

-- ---- the header of a loop that is built

pub record IsLoop (scope : Scope) (says : Statement) (body : Items) : Type 0 where
  pub label : Option Name
  pub ranging : Ranging
  pub header : says ≡ statements.concurrent label None (ranging ∷ []) None []
  pub index : is_built_index scope ranging ≡ true
  pub block : is_built_block body ≡ true

pub loop-built : (scope : Scope) (says : Statement) (body : Items) → is_built_loop scope says body ≡ true → IsLoop scope says body
loop-built scope (statements.concurrent label None (ranging ∷ []) None []) body built =
    let one = and_parts (is_built_index scope ranging) (is_built_block body && all_spare ranging.name body) built in
    let two = and_parts (is_built_block body) (all_spare ranging.name body) one.1 in
    record { label = label; ranging = ranging; header = refl; index = one.0; block = two.0 }
loop-built scope other body built = absurd (false≢true built)

-- An INTEGER scalar by its number.
pub record IsScalar (its : Entity) : Type 0 where
  pub number : ℕ
  pub its_kind : Kind
  pub is : its ≡ outside number (whole its_kind) []

pub scalar-is : (its : Entity) → is_whole_scalar its ≡ true → IsScalar its
scalar-is (outside number (whole its_kind) []) h = record { number = number; its_kind = its_kind; is = refl }
scalar-is other h = absurd (false≢true h)

loop-concurrent : (scope : Scope) (says : Statement) (body : Items) → IsLoop scope says body → is_concurrent says ≡ true
loop-concurrent scope says body its = ap is_concurrent its.header

-- ---- the main program

module _ (symbols : List Symbol) (built : list_all is_built_symbol symbols ≡ true) where
  pub main-passes : (block : Items) → are_built_items (main_scope symbols) block ≡ true → scopes.block_findings (main_standing symbols) block ≡ []
      → types.items_findings (main_standing symbols) block ≡ [] → BlockPasses (main_scope symbols) true block
  main-passes none each s t = record { lowered = refl; typed = refl }
  main-passes (and_then (plain line) rest) each s t =
      let parts = and_parts (is_built_line line.says) (are_built_items (main_scope symbols) rest) each in
      let found = both-none (scopes.one_findings (main_standing symbols) (plain line)) (scopes.block_findings (main_standing symbols) rest) s in
      let sorted = both-none (types.item_findings (main_standing symbols) (plain line)) (types.items_findings (main_standing symbols) rest) t in
      let one = says-passes (main_standing symbols) (main_scope symbols) (main-knows symbols built) line.line line.says parts.0 found.0 sorted.0 in
      let others = main-passes rest parts.1 found.1 sorted.1 in
      record {
        lowered = and_from (says_is_lowered (main_scope symbols) line.says) (block_is_lowered (main_scope symbols) true rest) one.lowered others.lowered;
        typed = and_from (says_is_typed (main_scope symbols) line.says) (block_is_typed (main_scope symbols) rest) one.typed others.typed;
      }
  main-passes (and_then (blocks.loop head body close) rest) each s t =
      let parts = and_parts (is_built_loop (main_scope symbols) head.says body) (are_built_items (main_scope symbols) rest) each in
      let found = both-none (scopes.one_findings (main_standing symbols) (blocks.loop head body close)) (scopes.block_findings (main_standing symbols) rest) s in
      let sorted = both-none (types.item_findings (main_standing symbols) (blocks.loop head body close)) (types.items_findings (main_standing symbols) rest) t in
      let others = main-passes rest parts.1 found.1 sorted.1 in
      record {
        lowered =
            and_from (is_concurrent head.says) (block_is_lowered (main_scope symbols) true rest)
            (loop-concurrent (main_scope symbols) head.says body (loop-built (main_scope symbols) head.says body parts.0)) others.lowered;
        typed = others.typed;
      }
  main-passes (and_then (branch arms close) rest) each s t = absurd (false≢true each)
  main-passes (and_then (select head arms close) rest) each s t = absurd (false≢true each)
