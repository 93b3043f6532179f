-- What the operators and the functions of the language make of values. A value is a number, and a truth is
-- 1 or 0. After ISO/IEC 1539-1:2023, clauses 10.1.5 and 16.9; the wrapping is this project's own.
use Rattle.std.specs.Prelude.{Bool, not, ◌&&◌, List, [], ◌∷◌, Option, Some, None, Ok, Err, if◌then◌else◌, ℤ, pos, int_le}
use Rattle.dc_int.specs.declared.kind.Kind.{Kind}
use Rattle.dc_int.specs.declared.operation.Op.{Op}
use Rattle.dc_int.specs.declared.operation.ReduceOp.{ReduceOp}
use Rattle.dc_int.specs.Kinds.{bits_of, greatest_of}
use Rattle.dc_int.specs.Operations.{Outcome, applied}
use Rattle.dc_int.specs.Reductions.{truth, number_of_truth, combined}
use Rattle.dc_int.specs.Sorts.{Sort, kind_of}
use Rattle.dc_tree.specs.declared.token.Mark.{Mark}
use Rattle.dc_tree.specs.Intrinsics.{Intrinsic, operation, chosen, merge, huge, bit_size, kind}
use Rattle.dc_tree.specs.Literals.{kind_number}

abbrev pub is_equal : ℤ → ℤ → Bool
is_equal a b = int_le a b && int_le b a

-- Two operands of one sort, to which the narrower was brought, joined by a mark. Relations compare the
-- numbers, and `.and.`, `.or.`, `.eqv.` and `.neqv.` join truths.
abbrev pub joined_by : Mark → Sort → ℤ → ℤ → Outcome
joined_by Mark.Plus sort a b = applied Op.Add (kind_of sort) a b
joined_by Mark.Minus sort a b = applied Op.Sub (kind_of sort) a b
joined_by Mark.Times sort a b = applied Op.Mul (kind_of sort) a b
joined_by Mark.Slash sort a b = applied Op.Div (kind_of sort) a b
joined_by Mark.Power sort a b = applied Op.Pow (kind_of sort) a b
joined_by Mark.Eq sort a b = Ok (number_of_truth (is_equal a b))
joined_by Mark.Ne sort a b = Ok (number_of_truth (not (is_equal a b)))
joined_by Mark.Lt sort a b = Ok (number_of_truth (not (int_le b a)))
joined_by Mark.Le sort a b = Ok (number_of_truth (int_le a b))
joined_by Mark.Gt sort a b = Ok (number_of_truth (not (int_le a b)))
joined_by Mark.Ge sort a b = Ok (number_of_truth (int_le b a))
joined_by Mark.And sort a b = Ok (combined ReduceOp.And Kind.K4 a b)
joined_by Mark.Or sort a b = Ok (combined ReduceOp.Or Kind.K4 a b)
joined_by Mark.Eqv sort a b = Ok (combined ReduceOp.Eqv Kind.K4 a b)
joined_by Mark.Neqv sort a b = Ok (combined ReduceOp.Neqv Kind.K4 a b)
joined_by mark sort a b = Ok a

-- A mark in front of one operand.
abbrev pub led_by : Mark → Sort → ℤ → Outcome
led_by Mark.Minus sort a = applied Op.Neg (kind_of sort) a (pos 0)
led_by Mark.Not sort a = Ok (number_of_truth (not (truth a)))
led_by mark sort a = Ok a

-- MIN or MAX of the first value and the others, from the left.
abbrev pub chosen_from : Op → Sort → ℤ → List ℤ → Outcome
chosen_from op sort a [] = Ok a
chosen_from op sort a (b ∷ rest) = by (applied op (kind_of sort) a b) (λ z. chosen_from op sort z rest)
  where
    by : Outcome → (ℤ → Outcome) → Outcome
    by (Ok z) next = next z
    by (Err fault) next = Err fault

-- A function of the language at the values of its arguments, where the first has this sort. The functions
-- that ask about an array or a kind aren't called so.
abbrev pub called : Intrinsic → Sort → List ℤ → Outcome
called (operation op) sort (a ∷ []) = applied op (kind_of sort) a (pos 0)
called (operation op) sort (a ∷ b ∷ []) = applied op (kind_of sort) a b
called (chosen op) sort (a ∷ rest) = chosen_from op sort a rest
called merge sort (a ∷ b ∷ mask ∷ []) = Ok (if truth mask then a else b)
called other sort values = Ok (pos 0)

-- HUGE, BIT_SIZE and KIND of an argument of this sort, which isn't evaluated.
abbrev pub about_kind : Intrinsic → Sort → Option ℤ
about_kind huge sort = Some (greatest_of (kind_of sort))
about_kind bit_size sort = Some (pos (bits_of (kind_of sort)))
about_kind kind sort = Some (kind_number (kind_of sort))
about_kind other sort = None
