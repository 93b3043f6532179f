-- Where instructions stand in a code, and what a frame has of the names of a scope. This project's own.
use Rattle.std.specs.Prelude.{◌≡◌, false, [], ℕ, ◌+◌, ◌-◌, ◌<◌, List, map, length, slice_get, Some, ℤ}
use Rattle.std.specs.List.{range_with_len}
use Rattle.dc_int.specs.declared.variable.Shape.{Shape}
use Rattle.dc_int.specs.Reductions.{truth, number_of_truth}
use Rattle.dc_int.specs.Sorts.{Sort, logical, sort_with}
use Rattle.dc_int.specs.Store.{Bounds, elements_in}
use Rattle.dc_code.specs.declared.instr.What.{What}
use Rattle.dc_code.specs.declared.plan.Group.{Group}
use Rattle.dc_code.specs.Codes.{CodeLists}
use Rattle.dc_code.specs.Frames.{Frame, innermost, level, slot_of}
use Rattle.dc_code.specs.Reaching.{group_planned, group_slots}
use Rattle.dc_tree.specs.Entities.{outside, slots, constant, Scope, entity}
use Rattle.dc_tree.specs.Statements.{Name}
use Rattle.dc_meaning.specs.Acts as acts
use Rattle.dc_meaning.specs.Acts.{State}

-- These instructions, of one line, stand in a code from a place on.
pub record StandAt (code : CodeLists) (line at : ℕ) (whats : List What) : Type 0 where
  pub each : (i : ℕ) (what : What) → slice_get whats i ≡ Some what → slice_get code.instructions (at + i) ≡ Some (record { line = line; what = what })

-- An outside variable is in the code as it is declared.
pub record IsOutside (code : CodeLists) (variable : ℕ) (sort : Sort) (declared : Bounds) : Type 0 where
  pub bounds : slice_get code.bounds variable ≡ Some declared
  pub shape : Shape
  pub shaped : slice_get code.shapes variable ≡ Some shape
  pub elements : shape.elements ≡ elements_in declared
  pub sorted : sort_with shape.logical shape.kind ≡ sort

-- A group of the innermost unit is planned as it is declared, and holds what it holds in the state.
pub record IsGroup (code : CodeLists) (frame : Frame) (state : State) (group : ℕ) (sort : Sort) (declared : Bounds) : Type 0 where
  pub planned : Group
  pub plan : group_planned code frame group ≡ Some planned
  pub bounds : planned.bounds ≡ declared
  pub sorted : sort_with planned.logical planned.kind ≡ sort
  pub same : (position : ℕ) → slot_of frame.units (level frame) group position ≡ acts.slot_of state.frames (length state.frames - 1) group position
  pub all : group_slots frame group ≡ map (λ position. slot_of frame.units (level frame) group position) (range_with_len 0 (elements_in declared))

-- A code and a frame have what the names of a scope stand for, and a named truth is 1 or 0.
pub record HaveNames (code : CodeLists) (scope : Scope) (frame : Frame) (state : State) : Type 0 where
  pub outer : (text : Name) (variable : ℕ) (sort : Sort) (bounds : Bounds) → entity scope text ≡ outside variable sort bounds → IsOutside code variable sort bounds
  pub inner : (text : Name) (group : ℕ) (sort : Sort) (bounds : Bounds) → entity scope text ≡ slots group sort bounds → IsGroup code frame state group sort bounds
  pub truths : (text : Name) (z : ℤ) → entity scope text ≡ constant logical z → number_of_truth (truth z) ≡ z

-- A frame has the groups that are added for the statements of a part, from a number on, behind those of its names.
pub record HaveKept (code : CodeLists) (scope : Scope) (frame : Frame) (free : ℕ) (groups : List Group) : Type 0 where
  pub planned : (i : ℕ) (group : Group) → slice_get groups i ≡ Some group → group_planned code frame (free + i) ≡ Some group
  pub sized : (i : ℕ) (group : Group) → slice_get groups i ≡ Some group → length (group_slots frame (free + i)) ≡ elements_in group.bounds
  pub apart : (text : Name) (group : ℕ) (sort : Sort) (bounds : Bounds) → entity scope text ≡ slots group sort bounds → group < free

-- What two frames have in common that differ in the slots of groups from a number on alone, of which the one has as
-- many as the other.
pub record Alike (free : ℕ) (one other : Frame) : Type 0 where
  pub stack : other.stack ≡ one.stack
  pub line : other.line ≡ one.line
  pub begun : other.begun ≡ one.begun
  pub plan : (innermost other).plan ≡ (innermost one).plan
  pub slots : (group : ℕ) → group < free → slice_get (innermost other).slots group ≡ slice_get (innermost one).slots group
  pub sizes : (group : ℕ) → length (group_slots other group) ≡ length (group_slots one group)

-- A frame between two output lines.
pub record IsLineless (frame : Frame) : Type 0 where
  pub empty : frame.line ≡ []
  pub begun : frame.begun ≡ false
