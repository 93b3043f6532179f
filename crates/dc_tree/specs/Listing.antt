-- The statements of a program in the order of its text, each with its line: the list from which its
-- blocks are nested. After ISO/IEC 1539-1:2023, clauses 5.1 and 5.3.2.
use Rattle.std.specs.Prelude.{ℕ, List, [], ◌∷◌, ◌++◌, flat_map, Option, None, Some}
use Rattle.dc_tree.specs.Statements.{contains_line}
use Rattle.dc_tree.specs.Blocks.{Line, Item, Items, Arms, plain, branch, select, loop, none, and_then, no_arms, arm, Subprogram, Source}

-- An IF construct begins with its first arm, and the other constructs with a line of their own.
abbrev mutual
  pub item_lines : Item → List Line
  item_lines (plain line) = line ∷ []
  item_lines (branch arms close) = arm_lines arms ++ close ∷ []
  item_lines (select head arms close) = head ∷ (arm_lines arms ++ close ∷ [])
  item_lines (loop head body close) = head ∷ (lines_of body ++ close ∷ [])

  pub lines_of : Items → List Line
  lines_of none = []
  lines_of (and_then first rest) = item_lines first ++ lines_of rest

  pub arm_lines : Arms → List Line
  arm_lines no_arms = []
  arm_lines (arm head body rest) = head ∷ (lines_of body ++ arm_lines rest)

-- the statement CONTAINS, where a program has it
abbrev pub contains_lines : Option ℕ → List Line
contains_lines None = []
contains_lines (Some line) = record { line = line; says = contains_line } ∷ []

abbrev pub subprogram_lines : Subprogram → List Line
subprogram_lines subprogram = subprogram.head ∷ (subprogram.front ++ (lines_of subprogram.body ++ subprogram.close ∷ []))

-- The statement list of a whole program.
abbrev pub listed : Source → List Line
listed source =
    let inside = contains_lines source.contains ++ flat_map subprogram_lines source.procedures in
    source.head ∷ (source.front ++ (lines_of source.body ++ (inside ++ source.close ∷ [])))
