-- What the statements that are still to be read begin with: a node, a block, arms, the front of a unit, a unit, or procedures,
-- and what is left behind it.
use Rattle.std.specs.Prelude.{◌≡◌, Bool, true, false, List, [], ◌∷◌, ◌++◌, All, Option, None, Some, flat_map}
use Rattle.dc_tree.specs.Blocks.{Line, Item, Items, Arms, arms_from, Subprogram, Source}
use Rattle.dc_tree.specs.Listing.{item_lines, lines_of, arm_lines, subprogram_lines, listed}
use Rattle.dc_nest.specs.declared.form.Form.{Form}
use Rattle.dc_nest.specs.Nested.{form_of, Is, IsNestedItem, AreNested, AreArms, IsNestedSubprogram, IsNested}

-- the form of the next statement
abbrev pub next_form : List Line → Option Form
next_form [] = None
next_form (line ∷ rest) = Some (form_of line.says)

-- the form of a node's first statement
abbrev pub begins_node : Form → Bool
begins_node Form.Acts = true
begins_node Form.BeginsIf = true
begins_node Form.BeginsSelect = true
begins_node Form.BeginsLoop = true
begins_node _ = false

abbrev pub is_node_next : List Line → Bool
is_node_next [] = false
is_node_next (line ∷ rest) = begins_node (form_of line.says)

-- ---- what was read of the statements `before`, where those `after` it are left

pub record ReadsItem (item : Item) (before after : List Line) : Type 0 where
  pub nested : IsNestedItem item
  pub lines : item_lines item ++ after ≡ before

-- A block goes as far as nodes go.
pub record ReadsBlock (body : Items) (before after : List Line) : Type 0 where
  pub nested : AreNested body
  pub ends : is_node_next after ≡ false
  pub lines : lines_of body ++ after ≡ before

-- an arm, or a loop without its end
pub record ReadsPart (part : Line × Items) (before after : List Line) : Type 0 where
  pub nested : AreNested part.1
  pub ends : is_node_next after ≡ false
  pub lines : part.0 ∷ (lines_of part.1 ++ after) ≡ before

-- Arms of one kind go as far as there are such arms.
pub record ReadsArms (wanted : Form) (arms : Arms) (before after : List Line) : Type 0 where
  pub nested : AreArms wanted arms
  pub ends : is_node_next after ≡ false
  pub other : next_form after ≡ Some wanted → ⊥
  pub lines : arm_lines arms ++ after ≡ before

-- such arms behind others
pub record AddsArms (wanted : Form) (arms made : List (Line × Items)) (before after : List Line) : Type 0 where
  pub added : List (Line × Items)
  pub is : made ≡ arms ++ added
  pub reads : ReadsArms wanted (arms_from added) before after

pub record ReadsFront (front before after : List Line) : Type 0 where
  pub all : All (Is Form.InFront) front
  pub other : next_form after ≡ Some Form.InFront → ⊥
  pub lines : front ++ after ≡ before

-- a unit in front of its CONTAINS or END
pub record ReadsUnit (head : Line) (front : List Line) (body : Items) (before after : List Line) : Type 0 where
  pub all : All (Is Form.InFront) front
  pub nested : AreNested body
  pub ends : is_node_next after ≡ false
  pub other : next_form after ≡ Some Form.InFront → ⊥
  pub lines : head ∷ (front ++ (lines_of body ++ after)) ≡ before

pub record ReadsProcedure (procedure : Subprogram) (before after : List Line) : Type 0 where
  pub nested : IsNestedSubprogram procedure
  pub lines : subprogram_lines procedure ++ after ≡ before

-- procedures up to the end of the program
pub record ReadsProcedures (procedures : List Subprogram) (before after : List Line) : Type 0 where
  pub all : All IsNestedSubprogram procedures
  pub close : Line
  pub closes : Is Form.EndsUnit close
  pub ends : after ≡ close ∷ []
  pub lines : flat_map subprogram_lines procedures ++ after ≡ before

-- ---- what can be read

pub record ItemAhead (before : List Line) : Type 0 where
  pub item : Item
  pub after : List Line
  pub reads : ReadsItem item before after

pub record BlockAhead (before : List Line) : Type 0 where
  pub body : Items
  pub after : List Line
  pub reads : ReadsBlock body before after

pub record PartAhead (before : List Line) : Type 0 where
  pub part : Line × Items
  pub after : List Line
  pub reads : ReadsPart part before after

pub record ArmsAhead (wanted : Form) (before : List Line) : Type 0 where
  pub apart : begins_node wanted ≡ false
  pub arms : Arms
  pub after : List Line
  pub reads : ReadsArms wanted arms before after

pub record UnitAhead (before : List Line) : Type 0 where
  pub head : Line
  pub front : List Line
  pub body : Items
  pub after : List Line
  pub reads : ReadsUnit head front body before after

pub record ProcedureAhead (before : List Line) : Type 0 where
  pub procedure : Subprogram
  pub after : List Line
  pub reads : ReadsProcedure procedure before after

pub record ProceduresAhead (before : List Line) : Type 0 where
  pub procedures : List Subprogram
  pub after : List Line
  pub reads : ReadsProcedures procedures before after

-- a whole program, and nothing behind it
pub record ReadsProgram (source : Source) (before : List Line) : Type 0 where
  pub nested : IsNested source
  pub lines : listed source ≡ before

pub record ProgramAhead (before : List Line) : Type 0 where
  pub source : Source
  pub reads : ReadsProgram source before
