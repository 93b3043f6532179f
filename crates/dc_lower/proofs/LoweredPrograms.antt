-- The blocks of a program have instructions, and its lists are its code.
use Rattle.std.proofs.Common.{◌≡◌, ℕ, ◌+◌, true, false, ◌&&◌, List, [], ◌∷◌, ◌++◌, length, Option, refl, sym, ap, ap₂, subst, ◌∙◌}
use Rattle.std.specs.Prelude.{nat_eq, is_none}
use Rattle.std.specs.List.{list_all}
use Rattle.std.proofs.lemmas.Bool.{and_parts, false≢true}
use Rattle.dc_code.specs.declared.instr.Instr.{Instr}
use Rattle.dc_code.specs.declared.plan.ConstructCode.{ConstructCode}
use Rattle.dc_code.specs.declared.plan.Plan.{Plan}
use Rattle.dc_tree.specs.declared.symbols.Symbol.{Symbol}
use Rattle.dc_tree.specs.Blocks as blocks
use Rattle.dc_tree.specs.Blocks.{Line, Items, Subprogram, Source, plain, branch, select, none, and_then}
use Rattle.dc_form.specs.BuiltPrograms.{is_built, are_built_symbols, is_built_deed, is_built_inside, is_built_line, is_built_block, is_built_loop, are_built_items}
use Rattle.dc_tree.specs.Entities.{Scope, entity, main_scope}
use Rattle.dc_tree.specs.Statements.{Deed, assign, fill, print, Statement, act}
use Rattle.dc_meaning.specs.Looping.{index_name}
use Rattle.dc_meaning.specs.Concurrent.{Concurrent, Surroundings, block_scope}
use Rattle.dc_meaning.specs.Execution.{loops_in}
use Rattle.dc_meaning.specs.Numbering.{loops_of_all}
use Rattle.dc_meaning.specs.Programs.{surroundings}
use Rattle.dc_meaning.specs.WalkScope.{index_scope}
use Rattle.dc_meaning.proofs.Looping.{BuiltLoop, built-loop, concurrent-with, one-loop, scope-is}
use Rattle.dc_lower.specs.declared.program.Lists.{Lists}
use Rattle.dc_actions.specs.Assigning.{takes_list, all_usable}
use Rattle.dc_actions.specs.Deeds.{deed_is_lowered, deed_has_code}
use Rattle.dc_lower.specs.Blocks.{says_is_lowered, item_is_lowered, block_is_lowered, block_is_typed}
use Rattle.dc_lower.specs.Held.{says_has_code, item_has_code, block_has_code}
use Rattle.dc_actions.specs.Limits.{limits_are_lowered}
use Rattle.dc_lower.specs.Lowerable.{loop_is_lowered}
use Rattle.dc_lower.specs.Lowered.{main_code, main_plan, loops_code, plans_of_loops, constructs_from, lowered_with, lowered}
use Rattle.dc_lower.specs.Wholes.{lists_code, within_of, loops_behind, AddsLoops, IsBegun, insides_have_code}
use Rattle.dc_lower.proofs.SimpleLoops.{none-entered}
use Rattle.dc_lower.proofs.Blocking.{line-built}

-- ---- blocks

deed-code : (scope : Scope) (deed : Deed) → is_built_deed deed ≡ true → deed_is_lowered scope deed ≡ true → deed_has_code scope deed ≡ true
deed-code scope (assign target tree) built lowers = built
deed-code scope (fill text trees) built lowers =
    ap₂ (λ a b. a && b) built (and_parts (all_usable scope trees) (takes_list (entity scope text) (length trees)) lowers).1
deed-code scope (print written trees) built lowers = built
deed-code scope other built lowers = absurd (false≢true lowers)

says-code : (scope : Scope) (says : Statement) → is_built_line says ≡ true → says_is_lowered scope says ≡ true → says_has_code scope says ≡ true
says-code scope (act deed) built lowers = deed-code scope deed built lowers
says-code scope other built lowers = absurd (false≢true built)

one-inside : (scope : Scope) (head : Line) (body : Items) (close : Line) → BuiltLoop scope head.says body → loops_in (blocks.loop head body close) ≡ 1
one-inside scope head body close built =
    ap (λ (says : Statement). loops_in (blocks.loop (record { line = head.line; says = says }) body close)) built.is ∙ ap (λ n. 1 + n) (none-entered body built.block)

-- A block of the main program.
pub main-block-code : (scope : Scope) (block : Items) → are_built_items scope block ≡ true → block_is_lowered scope true block ≡ true → block_has_code scope block ≡ true
main-block-code scope none built lowers = refl
main-block-code scope (and_then (plain line) rest) built lowers =
    let one = and_parts (is_built_line line.says) (are_built_items scope rest) built in
    let two = and_parts (says_is_lowered scope line.says) (block_is_lowered scope true rest) lowers in
    ap₂ (λ a b. a && b) (says-code scope line.says one.0 two.0) (main-block-code scope rest one.1 two.1)
main-block-code scope (and_then (blocks.loop head body close) rest) built lowers =
    let one = and_parts (is_built_loop scope head.says body) (are_built_items scope rest) built in
    let two = and_parts (item_is_lowered scope true (blocks.loop head body close)) (block_is_lowered scope true rest) lowers in
    let counted : item_has_code scope (blocks.loop head body close) ≡ true =
    ap (λ n. nat_eq n 1) (one-inside scope head body close (built-loop scope head.says body one.0)) in
    ap₂ (λ a b. a && b) counted (main-block-code scope rest one.1 two.1)
main-block-code scope (and_then (branch arms close) rest) built lowers = absurd (false≢true built)
main-block-code scope (and_then (select head arms close) rest) built lowers = absurd (false≢true built)

-- The block of a loop.
inner-block-code : (scope : Scope) (block : Items) → is_built_block block ≡ true → block_is_lowered scope false block ≡ true → block_has_code scope block ≡ true
inner-block-code scope none built lowers = refl
inner-block-code scope (and_then (plain line) rest) built lowers =
    let one = and_parts (is_built_inside line.says) (is_built_block rest) built in
    let two = and_parts (says_is_lowered scope line.says) (block_is_lowered scope false rest) lowers in
    ap₂ (λ a b. a && b) (says-code scope line.says (line-built line.says one.0) two.0) (inner-block-code scope rest one.1 two.1)
inner-block-code scope (and_then other rest) built lowers = absurd (false≢true built)

module _ (within : Surroundings) (symbols : List Symbol) where
  abbrev one_of : (number : ℕ) (head : Line) (body : Items) → BuiltLoop (main_scope symbols) head.says body → Concurrent
  one_of number head body built = concurrent-with (main_scope symbols) number head body built.ranging

  inside-code : (number : ℕ) (head : Line) (body : Items) (built : BuiltLoop (main_scope symbols) head.says body) → loop_is_lowered within (one_of number head body built) ≡ true
      → block_has_code (index_scope symbols (index_name head.says)) body ≡ true
  inside-code number head body built lowers =
      let this = one_of number head body built in
      let parts = and_parts (list_all (limits_are_lowered this.around) this.indexes) (block_is_lowered (block_scope within this) false body && block_is_typed (block_scope within this) body) lowers in
      let both = and_parts (block_is_lowered (block_scope within this) false body) (block_is_typed (block_scope within this) body) parts.1 in
      let there : block_is_lowered (index_scope symbols (index_name head.says)) false body ≡ true =
      subst (λ (s : Scope). block_is_lowered s false body ≡ true) (scope-is within symbols number head body built) both.0 in
      inner-block-code (index_scope symbols (index_name head.says)) body built.block there

  -- The blocks of all loops.
  pub insides-code : (number : ℕ) (block : Items) → are_built_items (main_scope symbols) block ≡ true
      → list_all (loop_is_lowered within) (loops_of_all within (main_scope symbols) number block) ≡ true → insides_have_code symbols block ≡ true
  insides-code number none built lowers = refl
  insides-code number (and_then (plain line) rest) built lowers =
      insides-code (number + 0) rest (and_parts (is_built_line line.says) (are_built_items (main_scope symbols) rest) built).1 lowers
  insides-code number (and_then (blocks.loop head body close) rest) built lowers =
      let scope = main_scope symbols in
      let one = and_parts (is_built_loop scope head.says body) (are_built_items scope rest) built in
      let whole = built-loop scope head.says body one.0 in
      let this = one_of number head body whole in
      let first : list_all (loop_is_lowered within) (this ∷ loops_of_all within scope (number + 1) rest) ≡ true =
      subst (λ (here : List Concurrent). list_all (loop_is_lowered within) (here ++ loops_of_all within scope (number + length here) rest) ≡ true) (one-loop within scope number head body close whole) lowers in
      let two = and_parts (loop_is_lowered within this) (list_all (loop_is_lowered within) (loops_of_all within scope (number + 1) rest)) first in
      ap₂ (λ a b. a && b) (inside-code number head body whole two.0) (insides-code (number + 1) rest one.1 two.1)
  insides-code number (and_then (branch arms close) rest) built lowers = absurd (false≢true built)
  insides-code number (and_then (select head arms close) rest) built lowers = absurd (false≢true built)

-- ---- programs

-- What is known of a program that is built.
pub record BuiltProgram (symbols : List Symbol) (source : Source) : Type 0 where
  pub names : are_built_symbols symbols ≡ true
  pub items : are_built_items (main_scope symbols) source.body ≡ true
  pub within : surroundings symbols source 0 ≡ within_of symbols

built-alone : (symbols : List Symbol) (head : Line) (front : List Line) (body : Items) (contains : Option ℕ) (procedures : List Subprogram) (close : Line)
    → is_built symbols (record { head = head; front = front; body = body; contains = contains; procedures = procedures; close = close }) ≡ true
    → BuiltProgram symbols (record { head = head; front = front; body = body; contains = contains; procedures = procedures; close = close })
built-alone symbols head front body contains [] close built =
    let parts = and_parts (is_none contains) (are_built_symbols symbols && are_built_items (main_scope symbols) body) built in
    let both = and_parts (are_built_symbols symbols) (are_built_items (main_scope symbols) body) parts.1 in
    record { names = both.0; items = both.1; within = refl }
built-alone symbols head front body contains (first ∷ rest) close built = absurd (false≢true built)

pub built-program : (symbols : List Symbol) (source : Source) → is_built symbols source ≡ true → BuiltProgram symbols source
built-program symbols source built = built-alone symbols source.head source.front source.body source.contains source.procedures source.close built

-- The lists of a program are its code.
pub lists-are-lowered : (symbols : List Symbol) (source : Source) (begun whole : Lists) → is_built symbols source ≡ true → IsBegun symbols source begun
    → AddsLoops symbols begun whole (loops_behind symbols (length begun.constructs) source.body) → lists_code whole ≡ lowered symbols source
lists-are-lowered symbols source begun whole built begins adds =
    let within = within_of symbols in
    let count : length begun.constructs ≡ 0 = ap (λ (l : List ConstructCode). length l) begins.constructs in
    let loops = loops_behind symbols 0 source.body in
    let here : AddsLoops symbols begun whole loops = subst (λ n. AddsLoops symbols begun whole (loops_behind symbols n source.body)) count adds in
    let instructions : whole.instructions ≡ main_code symbols source ++ loops_code within loops =
    here.instructions ∙ ap (λ (l : List Instr). l ++ loops_code within loops) begins.instructions in
    let plans : whole.plans ≡ main_plan symbols source ∷ plans_of_loops within loops = here.plans ∙ ap (λ (l : List Plan). l ++ plans_of_loops within loops) begins.plans in
    let constructs : whole.constructs ≡ constructs_from within (length (main_code symbols source)) loops =
    here.constructs ∙ ap₂ (λ (l : List ConstructCode) (i : List Instr). l ++ constructs_from within (length i) loops) begins.constructs begins.instructions in
    let texts = here.texts ∙ begins.texts in
    let shapes = here.shapes ∙ begins.shapes in
    let bounds = here.bounds ∙ begins.bounds in
    let entries = here.entries ∙ begins.entries in
    let lists : lists_code whole ≡ lowered_with symbols source within loops =
    (λ i. record { instructions = instructions i; texts = texts i; shapes = shapes i; bounds = bounds i; plans = plans i; entries = entries i; constructs = constructs i }) in
    lists ∙ ap (λ (w : Surroundings). lowered_with symbols source w (loops_of_all w (main_scope symbols) 0 source.body)) (sym (built-program symbols source built).within)
