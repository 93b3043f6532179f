-- What an instruction takes from the top of the stack, and how it ends badly. This project's own.
use Rattle.std.specs.Prelude.{ℕ, zero, suc, List, [], ◌∷◌, ◌++◌, Option, Some, None, ℤ}
use Rattle.dc_int.specs.declared.fault.FaultKind.{FaultKind}
use Rattle.dc_int.specs.declared.fault.Why.{Why}
use Rattle.dc_code.specs.declared.frame.Item.{Item}
use Rattle.dc_code.specs.Computation.{give, fail, ◌>>=◌}
use Rattle.dc_code.specs.Frames.{Frame, with_stack}
use Rattle.dc_code.specs.Troubles.{Computing}

-- ---- how an instruction ends badly

abbrev pub faulty : {A : Type 0} → FaultKind → ℕ → Computing A
faulty kind line = fail (record { why = Why.Fault kind; line = line })

-- An operand is missing, or isn't what the instruction asks for. No well-formed code comes here.
abbrev pub stuck : {A : Type 0} → ℕ → Computing A
stuck line = faulty FaultKind.Undefined line

-- A number that has to be there.
abbrev pub required : ℕ → Option ℤ → Computing ℤ
required line (Some z) = give z
required line None = faulty FaultKind.Undefined line

-- ---- operands: what is taken from the top of the stack, with what is left

abbrev pub top_off : ℕ → Frame → List Item → Computing (Item × Frame)
top_off line frame (item ∷ rest) = give (item, with_stack rest frame)
top_off line frame [] = stuck line

abbrev pub item_off : ℕ → Frame → Computing (Item × Frame)
item_off line frame = top_off line frame frame.stack

abbrev pub as_value : ℕ → Item × Frame → Computing (ℤ × Frame)
as_value line (Item.Value z, left) = give (z, left)
as_value line (other, left) = stuck line

abbrev pub value_off : ℕ → Frame → Computing (ℤ × Frame)
value_off line frame = item_off line frame >>= as_value line

abbrev pub as_position : ℕ → Item × Frame → Computing (ℕ × Frame)
as_position line (Item.Position at, left) = give (at, left)
as_position line (other, left) = stuck line

abbrev pub position_off : ℕ → Frame → Computing (ℕ × Frame)
position_off line frame = item_off line frame >>= as_position line

-- So many items, in the order in which they were pushed.
abbrev pub items_off : ℕ → ℕ → Frame → Computing (List Item × Frame)
items_off line zero frame = give ([], frame)
items_off line (suc count) frame = do
  (last, left) ← item_off line frame
  (items, rest) ← items_off line count left
  give (items ++ last ∷ [], rest)

abbrev pub values_off : ℕ → ℕ → Frame → Computing (List ℤ × Frame)
values_off line zero frame = give ([], frame)
values_off line (suc count) frame = do
  (last, left) ← value_off line frame
  (zs, rest) ← values_off line count left
  give (zs ++ last ∷ [], rest)
