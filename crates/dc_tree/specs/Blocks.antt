-- Blocks and programs for definitions: plain data, and the views that take the code's to it.
use Rattle.std.specs.Prelude.{ℕ, List, [], ◌∷◌, map, Option}
use Rattle.dc_tree.specs.declared.program.Lined as lines
use Rattle.dc_tree.specs.declared.program.Block.{Block, Block-F, fold-Block}
use Rattle.dc_tree.specs.declared.program.Node.{Node, Node-F, fold-Node}
use Rattle.dc_tree.specs.declared.program.Part.{Part, Part-F, fold-Part}
use Rattle.dc_tree.specs.declared.program.Procedure as procedures
use Rattle.dc_tree.specs.declared.program.Program as programs
use Rattle.dc_tree.specs.Statements.{Statement, statement}

-- A statement with its line.
pub record Line : Type 0 where
  pub line : ℕ
  pub says : Statement

abbrev pub line_of : lines.Lined → Line
line_of lined = record { line = lined.line; says = statement lined.stmt }

-- A statement, or a construct with the statements that it holds. An arm is a line, such as
-- that of ELSE, and the statements behind it.
mutual
  pub data Item : Type 0 where
    plain : Line → Item
    branch : Arms → Line → Item
    select : Line → Arms → Line → Item
    loop : Line → Items → Line → Item

  pub data Items : Type 0 where
    none : Items
    and_then : Item → Items → Items

  pub data Arms : Type 0 where
    no_arms : Arms
    arm : Line → Items → Arms → Arms

abbrev pub items_from : List Item → Items
items_from [] = none
items_from (first ∷ rest) = and_then first (items_from rest)

abbrev pub arms_from : List (Line × Items) → Arms
arms_from [] = no_arms
arms_from (first ∷ rest) = arm first.0 first.1 (arms_from rest)

abbrev pub item_step : Node-F Item Items (Line × Items) → Item
item_step (Node-F.Plain lined) = plain (line_of lined)
item_step (Node-F.If arms close) = branch (arms_from arms) (line_of close)
item_step (Node-F.Select head arms close) = select (line_of head) (arms_from arms) (line_of close)
item_step (Node-F.Loop head body close) = loop (line_of head) body (line_of close)

abbrev pub items_step : Block-F Item Items (Line × Items) → Items
items_step block = items_from block.nodes

abbrev pub part_step : Part-F Item Items (Line × Items) → Line × Items
part_step part = (line_of part.head, part.body)

-- The statements of a block of the code, of one of its nodes, and of an arm.
abbrev pub items : Block → Items
items = fold-Block Item Items (Line × Items) item_step items_step part_step

abbrev pub item : Node → Item
item = fold-Node Item Items (Line × Items) item_step items_step part_step

abbrev pub part_items : Part → Line × Items
part_items = fold-Part Item Items (Line × Items) item_step items_step part_step

-- A function or subroutine, and a whole program, with the line of its CONTAINS.
pub record Subprogram : Type 0 where
  pub head : Line
  pub front : List Line
  pub body : Items
  pub close : Line

pub record Source : Type 0 where
  pub head : Line
  pub front : List Line
  pub body : Items
  pub contains : Option ℕ
  pub procedures : List Subprogram
  pub close : Line

abbrev pub subprogram_of : procedures.Procedure → Subprogram
subprogram_of procedure =
    record { head = line_of procedure.head; front = map line_of procedure.front; body = items procedure.body; close = line_of procedure.close }

abbrev pub source_of : programs.Program → Source
source_of program = record {
  head = line_of program.head;
  front = map line_of program.front;
  body = items program.body;
  contains = program.contains;
  procedures = map subprogram_of program.procedures;
  close = line_of program.close;
}
