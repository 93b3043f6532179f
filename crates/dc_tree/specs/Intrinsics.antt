-- The functions of the language, by their names. After ISO/IEC 1539-1:2023, clause 16.9.
use Rattle.std.specs.Prelude.{List, [], ◌∷◌, bytes_eq, codes, Option, Some, None, if◌then◌else◌}
use Rattle.dc_int.specs.declared.operation.Op.{Op}
use Rattle.dc_tree.specs.Statements.{Name}

-- What a function does with its arguments: an operation of one or two numbers; MIN or MAX of two or more;
-- MERGE; INT; an inquiry about the kind of its argument; an inquiry about an array; or a reduction of one.
pub data Intrinsic : Type 0 where
  operation : Op → Intrinsic
  chosen : Op → Intrinsic
  merge : Intrinsic
  converted : Intrinsic
  huge : Intrinsic
  bit_size : Intrinsic
  kind : Intrinsic
  size : Intrinsic
  lower_bound : Intrinsic
  upper_bound : Intrinsic
  total : Intrinsic
  count : Intrinsic
  any : Intrinsic
  all : Intrinsic

abbrev pub operation_names : List (Name × Intrinsic)
operation_names =
    (codes "abs", operation Op.Abs) ∷ (codes "not", operation Op.Not) ∷ (codes "mod", operation Op.Mod) ∷ (codes "modulo", operation Op.Modulo)
    ∷ (codes "sign", operation Op.Sign) ∷ (codes "dim", operation Op.Dim) ∷ (codes "iand", operation Op.Iand) ∷ (codes "ior", operation Op.Ior)
    ∷ (codes "ieor", operation Op.Ieor) ∷ (codes "ishft", operation Op.Ishft) ∷ (codes "shiftl", operation Op.Shiftl)
    ∷ (codes "shiftr", operation Op.Shiftr) ∷ (codes "shifta", operation Op.Shifta) ∷ (codes "ibset", operation Op.Ibset)
    ∷ (codes "ibclr", operation Op.Ibclr) ∷ (codes "popcnt", operation Op.Popcnt) ∷ []

abbrev pub other_names : List (Name × Intrinsic)
other_names =
    (codes "min", chosen Op.Min) ∷ (codes "max", chosen Op.Max) ∷ (codes "merge", merge) ∷ (codes "int", converted) ∷ (codes "huge", huge)
    ∷ (codes "bit_size", bit_size) ∷ (codes "kind", kind) ∷ (codes "size", size) ∷ (codes "lbound", lower_bound) ∷ (codes "ubound", upper_bound)
    ∷ (codes "sum", total) ∷ (codes "count", count) ∷ (codes "any", any) ∷ (codes "all", all) ∷ []

abbrev pub named_in : List (Name × Intrinsic) → Name → Option Intrinsic
named_in [] name = None
named_in ((first, intrinsic) ∷ rest) name = if bytes_eq first name then Some intrinsic else named_in rest name

abbrev pub or_named : Option Intrinsic → Option Intrinsic → Option Intrinsic
or_named (Some intrinsic) other = Some intrinsic
or_named None other = other

-- The function of the language with this name. A declared name hides it.
abbrev pub intrinsic : Name → Option Intrinsic
intrinsic name = or_named (named_in operation_names name) (named_in other_names name)
