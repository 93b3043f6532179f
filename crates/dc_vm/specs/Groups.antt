-- What instructions work on, and the work of those behind which the next place comes. This project's own.
use Rattle.std.specs.Prelude.{ℕ, slice_get}
use Rattle.dc_int.specs.declared.kind.Kind.{Kind}
use Rattle.dc_int.specs.Kinds.{wrapped}
use Rattle.dc_int.specs.Reductions.{number_of_truth, conjunction, disjunction, equivalence, non_equivalence}
use Rattle.dc_int.specs.Sorts.{whole, logical}
use Rattle.dc_code.specs.declared.instr.What.{What}
use Rattle.dc_code.specs.Codes.{CodeLists}
use Rattle.dc_code.specs.Frames.{Frame}
use Rattle.dc_code.specs.Instructions.{arithmetic, of_one, of_two, merged, counted, folding_pushed, slot_folding_pushed, contributed, result_pushed, value_put, text_put, all_put}
use Rattle.dc_code.specs.Operands.{stuck}
use Rattle.dc_code.specs.Reaching.{positioned, group_planned, group_bounds, outer_place, slot_place, loaded, stored, forgotten, place_pushed, dummy, dummy_place, dummy_loaded, dummy_stored, filled, slots_filled}
use Rattle.dc_code.specs.Troubles.{Computing}
use Rattle.dc_steps.specs.Working.{value_pushed, dropped, truth_compared, truth_turned}
use Rattle.dc_vm.specs.declared.work.Work.{Work}

-- Values of the stack alone, what else the frame holds, cells, what the caller has to do, or where to go on.
abbrev pub work_of : What → Work
work_of (What.Const kind n) = Work.Values
work_of (What.Truth n) = Work.Values
work_of What.Drop = Work.Values
work_of (What.Arith op kind) = Work.Values
work_of (What.Wrap kind) = Work.Values
work_of (What.Compare r) = Work.Values
work_of What.And = Work.Values
work_of What.Or = Work.Values
work_of What.Eqv = Work.Values
work_of What.Neqv = Work.Values
work_of What.Not = Work.Values
work_of What.Merge = Work.Values
work_of (What.Count kind) = Work.Values
work_of What.PutNumber = Work.Values
work_of What.PutTruth = Work.Values
work_of (What.Subscript v) = Work.Frame
work_of (What.SubscriptSlot s) = Work.Frame
work_of (What.PlaceOf v) = Work.Frame
work_of (What.PlaceOfSlot s) = Work.Frame
work_of (What.PlaceOfDummy d) = Work.Frame
work_of (What.FillSlot s) = Work.Frame
work_of (What.FoldSlot f s) = Work.Frame
work_of What.LoadResult = Work.Frame
work_of (What.PutChars x) = Work.Frame
work_of (What.Load v) = Work.Cells
work_of (What.LoadSlot s) = Work.Cells
work_of (What.Store v) = Work.Cells
work_of (What.StoreSlot s) = Work.Cells
work_of (What.Forget v) = Work.Cells
work_of (What.ForgetSlot s) = Work.Cells
work_of (What.LoadDummy d) = Work.Cells
work_of (What.StoreDummy d) = Work.Cells
work_of (What.Fill v) = Work.Cells
work_of (What.Fold f v) = Work.Cells
work_of (What.Contribute op v) = Work.Cells
work_of (What.PutAll v) = Work.Cells
work_of (What.TakeNumber kind) = Work.Callers
work_of What.TakeTruth = Work.Callers
work_of (What.TakeAll v) = Work.Callers
work_of (What.TakeEnd n) = Work.Callers
work_of (What.Enter c) = Work.Callers
work_of What.Stop = Work.Callers
work_of what = Work.Control

-- ---- the work of each group, and stuck for other instructions

abbrev pub values_made : ℕ → What → Frame → Computing Frame
values_made line (What.Const kind n) frame = value_pushed n frame
values_made line (What.Truth n) frame = value_pushed (number_of_truth n) frame
values_made line What.Drop frame = dropped line frame
values_made line (What.Arith op kind) frame = arithmetic line op kind frame
values_made line (What.Wrap kind) frame = of_one line (wrapped kind) frame
values_made line (What.Compare r) frame = of_two line (truth_compared r) frame
values_made line What.And frame = of_two line conjunction frame
values_made line What.Or frame = of_two line disjunction frame
values_made line What.Eqv frame = of_two line equivalence frame
values_made line What.Neqv frame = of_two line non_equivalence frame
values_made line What.Not frame = of_one line truth_turned frame
values_made line What.Merge frame = merged line frame
values_made line (What.Count kind) frame = counted line frame
values_made line What.PutNumber frame = value_put line (whole Kind.K8) frame
values_made line What.PutTruth frame = value_put line logical frame
values_made line what frame = stuck line

abbrev pub frame_asked : CodeLists → ℕ → What → Frame → Computing Frame
frame_asked code line (What.Subscript v) frame = positioned line (slice_get code.bounds v) frame
frame_asked code line (What.SubscriptSlot s) frame = positioned line (group_bounds (group_planned code frame s)) frame
frame_asked code line (What.PlaceOf v) frame = place_pushed (outer_place line v frame)
frame_asked code line (What.PlaceOfSlot s) frame = place_pushed (slot_place line s frame)
frame_asked code line (What.PlaceOfDummy d) frame = place_pushed (dummy_place line frame (dummy frame d))
frame_asked code line (What.FillSlot s) frame = slots_filled code line s frame
frame_asked code line (What.FoldSlot f s) frame = slot_folding_pushed line f s (group_planned code frame s) frame
frame_asked code line What.LoadResult frame = result_pushed line frame
frame_asked code line (What.PutChars x) frame = text_put line (slice_get code.texts x) frame
frame_asked code line what frame = stuck line

abbrev pub cells_asked : CodeLists → ℕ → What → Frame → Computing Frame
cells_asked code line (What.Load v) frame = loaded code line (outer_place line v frame)
cells_asked code line (What.LoadSlot s) frame = loaded code line (slot_place line s frame)
cells_asked code line (What.Store v) frame = stored code line (outer_place line v frame)
cells_asked code line (What.StoreSlot s) frame = stored code line (slot_place line s frame)
cells_asked code line (What.Forget v) frame = forgotten code line (outer_place line v frame)
cells_asked code line (What.ForgetSlot s) frame = forgotten code line (slot_place line s frame)
cells_asked code line (What.LoadDummy d) frame = dummy_loaded code line frame (dummy frame d)
cells_asked code line (What.StoreDummy d) frame = dummy_stored code line d frame (dummy frame d)
cells_asked code line (What.Fill v) frame = filled code line v frame
cells_asked code line (What.Fold f v) frame = folding_pushed code line f v (slice_get code.shapes v) frame
cells_asked code line (What.Contribute op v) frame = contributed code line op v frame
cells_asked code line (What.PutAll v) frame = all_put code line v (slice_get code.shapes v) frame
cells_asked code line what frame = stuck line
