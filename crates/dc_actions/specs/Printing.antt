-- The instructions for output. This project's own.
use Rattle.std.specs.Prelude.{◌≡◌, ℕ, ◌+◌, Bool, true, false, ◌&&◌, List, [], ◌∷◌, ◌++◌, length, slice_get, Some, if◌then◌else◌}
use Rattle.dc_int.specs.Sorts.{Sort, whole, logical}
use Rattle.dc_code.specs.declared.instr.What.{What}
use Rattle.dc_code.specs.Codes.{CodeLists}
use Rattle.dc_tree.specs.Entities.{Entity, outside, Scope, entity}
use Rattle.dc_tree.specs.Syntax.{Tree, chars, name}
use Rattle.dc_tree.specs.Typing.{sort_of, sort_of_entity}
use Rattle.dc_meaning.specs.Actions.{is_array}
use Rattle.dc_actions.specs.Expressions.{value_code, is_usable}

abbrev pub put_code : Sort → What
put_code (whole kind) = What.PutNumber
put_code logical = What.PutTruth

abbrev pub whole_code : Entity → List What
whole_code (outside variable sort bounds) = What.PutAll variable ∷ []
whole_code other = []

-- A literal, by its number among the texts of the code; all elements of an array; or a value.
abbrev pub item_code : Scope → ℕ → Tree → List What
item_code scope next (chars text) = What.PutChars next ∷ []
item_code scope next (name text) =
    if is_array (entity scope text) then whole_code (entity scope text) else (value_code scope (name text) ++ put_code (sort_of_entity (entity scope text)) ∷ [])
item_code scope next tree = value_code scope tree ++ put_code (sort_of scope tree) ∷ []

-- the literals of items
abbrev pub texts_of_item : Tree → List (List ℕ)
texts_of_item (chars text) = text ∷ []
texts_of_item tree = []

abbrev pub texts_of_items : List Tree → List (List ℕ)
texts_of_items [] = []
texts_of_items (tree ∷ trees) = texts_of_item tree ++ texts_of_items trees

abbrev pub items_code : Scope → ℕ → List Tree → List What
items_code scope next [] = []
items_code scope next (tree ∷ trees) = item_code scope next tree ++ items_code scope (next + length (texts_of_item tree)) trees

abbrev pub printing_code : Scope → ℕ → List Tree → List What
printing_code scope next trees = items_code scope next trees ++ What.PutEnd ∷ []

-- These texts stand in a code from a number on.
pub record TextsStand (code : CodeLists) (next : ℕ) (texts : List (List ℕ)) : Type 0 where
  pub each : (i : ℕ) (text : List ℕ) → slice_get texts i ≡ Some text → slice_get code.texts (next + i) ≡ Some text

abbrev pub is_outside : Entity → Bool
is_outside (outside variable sort bounds) = true
is_outside other = false

-- An item of output is a literal, an array of the main program, or gives a value.
abbrev pub gives_item : Scope → Tree → Bool
gives_item scope (chars text) = true
gives_item scope (name text) = if is_array (entity scope text) then is_outside (entity scope text) else is_usable scope (name text)
gives_item scope tree = is_usable scope tree

abbrev pub give_items : Scope → List Tree → Bool
give_items scope [] = true
give_items scope (tree ∷ trees) = gives_item scope tree && give_items scope trees
