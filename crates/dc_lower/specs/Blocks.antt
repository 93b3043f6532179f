-- The instructions of blocks of assignments and output, and of the loops of a main program. This project's own.
use Rattle.std.specs.Prelude.{◌≡◌, ℕ, ◌+◌, Bool, true, false, ◌&&◌, List, [], ◌∷◌, ◌++◌, length, ◌||◌, if◌then◌else◌}
use Rattle.dc_code.specs.declared.instr.Instr.{Instr}
use Rattle.dc_code.specs.declared.instr.What.{What}
use Rattle.dc_code.specs.declared.plan.Group.{Group}
use Rattle.dc_tree.specs.Blocks.{Item, Items, plain, loop, none, and_then}
use Rattle.dc_tree.specs.Entities.{Scope}
use Rattle.dc_tree.specs.Statements.{Statement, act}
use Rattle.dc_meaning.specs.Execution.{is_concurrent, loops_in}
use Rattle.dc_actions.specs.Deeds.{lined, deed_code, texts_of_deed, groups_of_deed, deed_is_lowered}
use Rattle.dc_actions.specs.Typed.{deed_is_typed}

-- ---- blocks. Before an item there are so many texts, so many groups are taken, and there are so many loops.

abbrev pub says_code : Scope → (next free : ℕ) → Statement → List What
says_code scope next free (act deed) = deed_code scope next free deed
says_code scope next free other = []

abbrev pub texts_of_item : Item → List (List ℕ)
texts_of_item (plain line) = by line.says
  where
    by : Statement → List (List ℕ)
    by (act deed) = texts_of_deed deed
    by other = []
texts_of_item other = []

abbrev pub texts_of_block : Items → List (List ℕ)
texts_of_block none = []
texts_of_block (and_then first rest) = texts_of_item first ++ texts_of_block rest

abbrev pub groups_of_says : Scope → Statement → List Group
groups_of_says scope (act deed) = groups_of_deed scope deed
groups_of_says scope other = []

abbrev pub groups_of_item : Scope → Item → List Group
groups_of_item scope (plain line) = groups_of_says scope line.says
groups_of_item scope other = []

abbrev pub groups_of_block : Scope → Items → List Group
groups_of_block scope none = []
groups_of_block scope (and_then first rest) = groups_of_item scope first ++ groups_of_block scope rest

-- A loop of the main program is entered by its number.
abbrev pub item_code : Scope → (next free number : ℕ) → Item → List Instr
item_code scope next free number (plain line) = lined line.line (says_code scope next free line.says)
item_code scope next free number (loop head body close) = lined head.line (What.Enter number ∷ [])
item_code scope next free number other = []

abbrev pub block_code : Scope → (next free number : ℕ) → Items → List Instr
block_code scope next free number none = []
block_code scope next free number (and_then first rest) =
    item_code scope next free number first
    ++ block_code scope (next + length (texts_of_item first)) (free + length (groups_of_item scope first)) (number + loops_in first) rest

abbrev pub says_is_lowered : Scope → Statement → Bool
says_is_lowered scope (act deed) = deed_is_lowered scope deed
says_is_lowered scope other = false

-- Assignments and output, and DO CONCURRENT loops where these may stand.
abbrev pub item_is_lowered : Scope → (loops : Bool) → Item → Bool
item_is_lowered scope loops (plain line) = says_is_lowered scope line.says
item_is_lowered scope loops (loop head body close) = loops && is_concurrent head.says
item_is_lowered scope loops other = false

abbrev pub block_is_lowered : Scope → (loops : Bool) → Items → Bool
block_is_lowered scope loops none = true
block_is_lowered scope loops (and_then first rest) = item_is_lowered scope loops first && block_is_lowered scope loops rest

-- A block with what ends it, at the line of its end.
abbrev pub part_code : Scope → (next free number : ℕ) → Items → (line : ℕ) → List Instr
part_code scope next free number block line = block_code scope next free number block ++ lined line (What.End ∷ [])

abbrev pub says_is_typed : Scope → Statement → Bool
says_is_typed scope (act deed) = deed_is_typed scope deed
says_is_typed scope other = true

-- Loops are looked at by themselves.
abbrev pub block_is_typed : Scope → Items → Bool
block_is_typed scope none = true
block_is_typed scope (and_then (plain line) rest) = says_is_typed scope line.says && block_is_typed scope rest
block_is_typed scope (and_then other rest) = block_is_typed scope rest
