-- The laws of parts on which those of whole programs rest, in the form in which they are used there.
use Rattle.std.specs.Prelude.{◌≡◌, ℕ, Bool, true}
use Rattle.dc_code.specs.Codes.{CodeLists}
use Rattle.dc_tree.specs.Blocks.{Items}
use Rattle.dc_tree.specs.Entities.{Scope}
use Rattle.dc_meaning.specs.Execution.{exec_all}
use Rattle.dc_meaning.specs.Values.{Callee}
use Rattle.dc_lower.specs.Blocks.{part_code, block_is_lowered, texts_of_block, groups_of_block}
use Rattle.dc_lower.specs.Carrying.{RunPart}
use Rattle.dc_actions.specs.Printing.{TextsStand}
use Rattle.dc_lower.proofs.BlockLaws.{part-law}

-- The instructions of a part that is a block carry it out.
pub all-blocks-run : (code : CodeLists) (scope : Scope) (call : Callee) (next free number line : ℕ) (loops : Bool) (block : Items)
    → block_is_lowered scope loops block ≡ true → TextsStand code next (texts_of_block block)
    → RunPart code scope loops free (groups_of_block scope block) (part_code scope next free number block line) (exec_all scope call number block)
all-blocks-run code scope call next free number line loops block so there at frame own turns names kept start stand alone =
    part-law code scope call at next free number frame own turns loops block line names kept start there stand so alone
