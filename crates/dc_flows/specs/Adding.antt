-- What statements and blocks add to a part of a code. This project's own.
use Rattle.std.specs.Prelude.{◌≡◌, ℕ, ◌+◌, Bool, true, false, ◌&&◌, List, ◌++◌, length}
use Rattle.dc_code.specs.declared.instr.Instr.{Instr}
use Rattle.dc_code.specs.declared.instr.What.{What}
use Rattle.dc_code.specs.declared.plan.Group.{Group}
use Rattle.dc_flows.specs.declared.lowering.Lowering.{Lowering}
use Rattle.dc_flows.specs.Flows.{Before}

-- What stands before what is added next.
abbrev pub before_of : Lowering → Before
before_of part = record { at = part.base + length part.instructions; texts = length part.texts; groups = length part.groups; loops = part.loops }

-- A statement has these instructions, and adds these literals and groups.
pub record AddsWhats (before after : Lowering) (whats made : List What) (texts : List (List ℕ)) (groups : List Group) : Type 0 where
  pub code : whats ≡ made
  pub texts_are : after.texts ≡ before.texts ++ texts
  pub groups_are : after.groups ≡ before.groups ++ groups
  pub instructions : after.instructions ≡ before.instructions
  pub loops : after.loops ≡ before.loops
  pub base : after.base ≡ before.base

-- These instructions, literals and groups are added, and so many DO CONCURRENT loops.
pub record Adds (before after : Lowering) (instrs : List Instr) (texts : List (List ℕ)) (groups : List Group) (count : ℕ) : Type 0 where
  pub instructions : after.instructions ≡ before.instructions ++ instrs
  pub texts_are : after.texts ≡ before.texts ++ texts
  pub groups_are : after.groups ≡ before.groups ++ groups
  pub loops : after.loops ≡ before.loops + count
  pub base : after.base ≡ before.base
