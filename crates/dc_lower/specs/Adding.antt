-- What statements add to a part of a code. This project's own.
use Rattle.std.specs.Prelude.{◌≡◌, ◌+◌, List, ◌++◌, length}
use Rattle.dc_code.specs.declared.instr.What.{What}
use Rattle.dc_tree.specs.Blocks.{Item, Items}
use Rattle.dc_tree.specs.Entities.{Scope}
use Rattle.dc_tree.specs.Statements.{Deed}
use Rattle.dc_meaning.specs.Execution.{loops_in}
use Rattle.dc_lower.specs.declared.blocks.Lowering.{Lowering}
use Rattle.dc_actions.specs.Deeds.{deed_code, texts_of_deed, groups_of_deed}
use Rattle.dc_lower.specs.Blocks.{item_code, block_code, texts_of_item, texts_of_block, groups_of_item, groups_of_block}

-- A statement adds literals and groups, and has these instructions.
pub record AddsDeed (scope : Scope) (before after : Lowering) (whats : List What) (deed : Deed) : Type 0 where
  pub code : whats ≡ deed_code scope (length before.texts) (length before.groups) deed
  pub texts : after.texts ≡ before.texts ++ texts_of_deed deed
  pub groups : after.groups ≡ before.groups ++ groups_of_deed scope deed
  pub instructions : after.instructions ≡ before.instructions
  pub loops : after.loops ≡ before.loops

pub record AddsItem (scope : Scope) (before after : Lowering) (item : Item) : Type 0 where
  pub instructions : after.instructions ≡ before.instructions ++ item_code scope (length before.texts) (length before.groups) before.loops item
  pub texts : after.texts ≡ before.texts ++ texts_of_item item
  pub groups : after.groups ≡ before.groups ++ groups_of_item scope item
  pub loops : after.loops ≡ before.loops + loops_in item

pub record AddsBlock (scope : Scope) (before after : Lowering) (block : Items) : Type 0 where
  pub instructions : after.instructions ≡ before.instructions ++ block_code scope (length before.texts) (length before.groups) before.loops block
  pub texts : after.texts ≡ before.texts ++ texts_of_block block
  pub groups : after.groups ≡ before.groups ++ groups_of_block scope block
