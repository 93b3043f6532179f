-- What the reader holds, as it is seen.
use Rattle.std.specs.Prelude.{List, map, slice_get, Option, Some, None, option_map, option_and_then}
use Rattle.dc_tree.specs.declared.token.Mark.{Mark}
use Rattle.dc_tree.specs.Syntax.{tree, arg_tree}
use Rattle.dc_tree.specs.Reader.{Frame, State, in_bracket, in_reference, behind_sign, behind_left, failed, start, called, named, whole}
use Rattle.dc_expr.specs.declared.measured.Args.{Args}
use Rattle.dc_expr.specs.declared.measured.Measured.{Measured}
use Rattle.dc_expr.specs.declared.stack.Pending.{Pending}
use Rattle.dc_expr.specs.declared.steps.Progress.{Progress}
use Rattle.dc_expr.specs.Limited.{Kept, KeptArgs, Frames}

abbrev pub kept : Option Measured → Kept
kept = option_map (λ value. (tree value.tree, value.depth))

abbrev pub kept_args : Option Args → KeptArgs
kept_args = option_map (λ args. (map arg_tree args.list, args.depth))

abbrev pub frame_of : Pending → Frame Kept KeptArgs
frame_of Pending.Bracket = in_bracket
frame_of (Pending.Reference name args keyed) = in_reference name (kept_args args) keyed
frame_of (Pending.Sign mark) = behind_sign mark
frame_of (Pending.Left mark left) = behind_left mark (kept left)

abbrev pub frames_of : List Pending → Frames
frames_of stack = map frame_of stack

abbrev pub state_of : Progress → List Pending → State Kept KeptArgs
state_of Progress.Failed stack = failed
state_of Progress.Start stack = start (frames_of stack)
state_of (Progress.Called text) stack = called (frames_of stack) text
state_of (Progress.Named text) stack = named (frames_of stack) text
state_of (Progress.Whole value) stack = whole (frames_of stack) (kept value)

-- The operator that waits at the innermost part, if it is one.
abbrev pub operator_of : Pending → Option Mark
operator_of Pending.Bracket = None
operator_of (Pending.Reference name args keyed) = None
operator_of (Pending.Sign mark) = Some mark
operator_of (Pending.Left mark left) = Some mark

abbrev pub waiting : List Pending → Option Mark
waiting stack = option_and_then operator_of (slice_get stack 0)
