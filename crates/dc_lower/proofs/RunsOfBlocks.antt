-- The instructions of blocks.
use Rattle.std.proofs.Common.{◌≡◌, ◌≤◌, ◌<◌, ℕ, ◌+◌, Bool, true, false, cond, List, [], ◌∷◌, ◌++◌, length, map, refl, sym, subst, arith}
use Rattle.std.proofs.lemmas.List.{map-append}
use Rattle.std.specs.Prelude.{slice_get}
use Rattle.std.proofs.lemmas.Bool.{false≢true}
use Rattle.dc_code.specs.declared.instr.Instr.{Instr}
use Rattle.dc_code.specs.declared.instr.What.{What}
use Rattle.dc_code.specs.StackSorts as items
use Rattle.dc_code.specs.StackSorts.{Sorts}
use Rattle.dc_tree.specs.Blocks.{Line, Items, plain, loop, none, and_then}
use Rattle.dc_form.specs.BuiltPrograms.{is_built_inside, is_built_block}
use Rattle.dc_tree.specs.Entities.{Scope}
use Rattle.dc_tree.specs.Statements.{Deed, Statement, act}
use Rattle.dc_meaning.specs.Execution.{is_concurrent, loops_in, loops_in_all}
use Rattle.dc_lower.specs.Blocks.{says_code, item_code, block_code, texts_of_item, texts_of_block, groups_of_item, groups_of_says, groups_of_block, says_is_lowered, block_is_lowered, says_is_typed, block_is_typed}
use Rattle.dc_actions.specs.Printing as printing
use Rattle.dc_actions.proofs.Facts.{both-true}
use Rattle.dc_actions.proofs.Straight.{Ground, Runs, runs-step, runs-both}
use Rattle.dc_actions.proofs.RunsOfNames.{Fits}
use Rattle.dc_actions.proofs.RunsOfStatements.{Changes, HoldsNames}
use Rattle.dc_actions.proofs.Standing.{Stand, first-stand, second-stand, found-within}
use Rattle.dc_actions.proofs.RunsOfDeeds.{whats_of, there-runs, may_do, IsOpen, deed-runs, whats-lined}

-- ---- statements

abbrev pub may_say : (main : Bool) → Statement → Bool
may_say true says = true
may_say false says = is_built_inside says

abbrev pub may_have : (main : Bool) → Items → Bool
may_have true block = true
may_have false block = is_built_block block

may-do : (main : Bool) (deed : Deed) → may_say main (act deed) ≡ true → may_do main deed ≡ true
may-do true deed may = refl
may-do false deed may = may

says-runs : (ground : Ground) (scope : Scope) → Fits ground scope → HoldsNames scope → Changes ground → (main : Bool) → IsOpen ground main → (next free line : ℕ) (says : Statement) (below : Sorts)
    → Stand ground.code.texts next (texts_of_item (plain (record { line = line; says = says }))) → Stand ground.plan.groups free (groups_of_says scope says) → says_is_lowered scope says ≡ true
    → says_is_typed scope says ≡ true → may_say main says ≡ true → Runs ground below (says_code scope next free says) below
says-runs ground scope fits holds changeable main free_to next free line (act deed) below texts groups so typed may =
    deed-runs ground scope fits holds changeable main free_to next free deed below texts groups so typed (may-do main deed may)
says-runs ground scope fits holds changeable main free_to next free line says below texts groups so typed may = absurd (false≢true so)

-- ---- blocks

typed-first : (scope : Scope) (line : Line) (rest : Items) → block_is_typed scope (and_then (plain line) rest) ≡ true → (says_is_typed scope line.says ≡ true) × (block_is_typed scope rest ≡ true)
typed-first scope line rest typed = both-true typed

may-first : (main : Bool) (line : Line) (rest : Items) → may_have main (and_then (plain line) rest) ≡ true → (may_say main line.says ≡ true) × (may_have main rest ≡ true)
may-first true line rest may = (refl, refl)
may-first false line rest may = both-true may

pub one-of : (found : Bool) (inside number all : ℕ) → found ≡ true → number + (cond found 1 0 + inside) ≤ all → number < all
one-of true inside number all so few = omega (arith, few)
one-of false inside number all so few = absurd (false≢true so)

pub block-runs : (ground : Ground) (scope : Scope) → Fits ground scope → HoldsNames scope → Changes ground → (main : Bool) → IsOpen ground main → (next free number : ℕ) (block : Items) (below : Sorts)
    → Stand ground.code.texts next (texts_of_block block) → Stand ground.plan.groups free (groups_of_block scope block) → number + loops_in_all block ≤ length ground.code.constructs
    → block_is_lowered scope main block ≡ true → block_is_typed scope block ≡ true → may_have main block ≡ true
    → Runs ground below (whats_of (block_code scope next free number block)) below
block-runs ground scope fits holds changeable main free_to next free number none below texts groups few so typed may = refl
block-runs ground scope fits holds changeable main free_to next free number (and_then (plain line) rest) below texts groups few so typed may =
    let first = item_code scope next free number (plain line) in
    let others = block_code scope (next + length (texts_of_item (plain line))) (free + length (groups_of_item scope (plain line))) (number + 0) rest in
    subst (λ whats. Runs ground below whats below) (sym (map-append (λ (instr : Instr). instr.what) first others))
    (runs-both ground below below below (whats_of first) (whats_of others)
    (subst (λ whats. Runs ground below whats below) (sym (whats-lined line.line (says_code scope next free line.says)))
    (says-runs ground scope fits holds changeable main free_to next free line.line line.says below (first-stand ground.code.texts next (texts_of_item (plain line)) (texts_of_block rest) texts)
    (first-stand ground.plan.groups free (groups_of_item scope (plain line)) (groups_of_block scope rest) groups) (both-true so).0 (typed-first scope line rest typed).0 (may-first main line rest may).0))
    (block-runs ground scope fits holds changeable main free_to (next + length (texts_of_item (plain line))) (free + length (groups_of_item scope (plain line))) (number + 0) rest below
    (second-stand ground.code.texts next (texts_of_item (plain line)) (texts_of_block rest) texts)
    (second-stand ground.plan.groups free (groups_of_item scope (plain line)) (groups_of_block scope rest) groups) (omega (arith, few)) (both-true so).1 (typed-first scope line rest typed).1
    (may-first main line rest may).1))
block-runs ground scope fits holds changeable true free_to next free number (and_then (loop head inside close) rest) below texts groups few so typed may =
    let count = loops_in (loop head inside close) in
    let there = found-within ground.code.constructs number
    (one-of (is_concurrent head.says) (loops_in_all inside + loops_in_all rest) number (length ground.code.constructs) (both-true so).0 (omega (arith, few))) in
    runs-step ground below below below (What.Enter number) (whats_of (block_code scope (next + 0) (free + 0) (number + count) rest)) ((free_to refl).1 number)
    (λ last. there-runs (slice_get ground.code.constructs number) there.0 below there.1)
    (block-runs ground scope fits holds changeable true free_to (next + 0) (free + 0) (number + count) rest below (second-stand ground.code.texts next [] (texts_of_block rest) texts)
    (second-stand ground.plan.groups free [] (groups_of_block scope rest) groups) (omega (arith, few)) (both-true so).1 typed refl)
block-runs ground scope fits holds changeable false free_to next free number (and_then (loop head inside close) rest) below texts groups few so typed may = absurd (false≢true so)
block-runs ground scope fits holds changeable main free_to next free number (and_then other rest) below texts groups few so typed may = absurd (false≢true so)
