-- Blocks of loops, statement by statement, and the headers of loops.
use Rattle.std.proofs.Common.{◌≡◌, ◌&&◌, List, [], ◌∷◌, Option, None, refl}
use Rattle.dc_tree.specs.declared.stmt.Local.{Local}
use Rattle.dc_tree.specs.Blocks.{Item, Items, plain, branch, select, loop, and_then}
use Rattle.dc_form.specs.BuiltPrograms.{is_built_block, is_built_loop}
use Rattle.dc_tree.specs.Entities.{Scope}
use Rattle.dc_tree.specs.Statements.{Name, Ranging, concurrent}
use Rattle.dc_form.specs.Parts.{is_built_inner, is_plain_loop}

pub block_first : (first : Item) (rest : Items) → is_built_block (and_then first rest) ≡ (is_built_inner first && is_built_block rest)
block_first (plain line) rest = refl
block_first (branch arms close) rest = refl
block_first (select head arms close) rest = refl
block_first (loop head body close) rest = refl

pub loop_of : (scope : Scope) (label : Option Name) (indexes : List Ranging) (locality : List Local) (body : Items)
    → is_built_loop scope (concurrent label None indexes None locality) body ≡ is_plain_loop scope indexes locality body
loop_of scope label [] locality body = refl
loop_of scope label (index ∷ []) [] body = refl
loop_of scope label (index ∷ []) (one ∷ more) body = refl
loop_of scope label (index ∷ second ∷ rest) locality body = refl
