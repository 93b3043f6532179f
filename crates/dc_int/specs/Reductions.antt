-- The operations on LOGICAL, and those of the REDUCE locality, with their identities.
-- After ISO/IEC 1539-1:2023, clauses 10.1.5.4 and 11.1.7; that a LOGICAL is 0 or 1 is this project's own.
use Rattle.std.specs.Prelude.{Bool, true, false, not, ◌&&◌, ◌||◌, ◌==◌, ℤ, pos, negsuc, unsigned_abs, Ok, Err}
use Rattle.dc_int.specs.declared.kind.Kind.{Kind}
use Rattle.dc_int.specs.declared.operation.Op.{Op}
use Rattle.dc_int.specs.declared.operation.ReduceOp.{ReduceOp}
use Rattle.dc_int.specs.Kinds.{least_of, greatest_of, value_fits}
use Rattle.dc_int.specs.Operations.{Outcome, applied}

-- The truth that a number stands for, and the number of a truth. This project's own.
abbrev pub truth : ℤ → Bool
truth z = not (unsigned_abs z == 0)

abbrev pub number_of_truth : Bool → ℤ
number_of_truth true = pos 1
number_of_truth false = pos 0

abbrev pub same_truth : Bool → Bool → Bool
same_truth true b = b
same_truth false b = not b

-- The operations on LOGICAL, of clause 10.1.5.4.
abbrev pub conjunction : ℤ → ℤ → ℤ
conjunction a b = number_of_truth (truth a && truth b)

abbrev pub disjunction : ℤ → ℤ → ℤ
disjunction a b = number_of_truth (truth a || truth b)

abbrev pub equivalence : ℤ → ℤ → ℤ
equivalence a b = number_of_truth (same_truth (truth a) (truth b))

abbrev pub non_equivalence : ℤ → ℤ → ℤ
non_equivalence a b = number_of_truth (not (same_truth (truth a) (truth b)))

-- What an element of a reduction begins with in an iteration: combined with it, no value changes.
-- After clause 11.1.7.
abbrev pub identity_of : ReduceOp → Kind → ℤ
identity_of ReduceOp.Add kind = pos 0
identity_of ReduceOp.Mul kind = pos 1
identity_of ReduceOp.And kind = pos 1
identity_of ReduceOp.Or kind = pos 0
identity_of ReduceOp.Eqv kind = pos 1
identity_of ReduceOp.Neqv kind = pos 0
identity_of ReduceOp.Max kind = least_of kind
identity_of ReduceOp.Min kind = greatest_of kind
identity_of ReduceOp.Iand kind = negsuc 0
identity_of ReduceOp.Ior kind = pos 0
identity_of ReduceOp.Ieor kind = pos 0

-- The reductions of LOGICAL variables. After clause 11.1.7.
abbrev pub is_logical : ReduceOp → Bool
is_logical ReduceOp.And = true
is_logical ReduceOp.Or = true
is_logical ReduceOp.Eqv = true
is_logical ReduceOp.Neqv = true
is_logical op = false

-- The values that a reduction combines: numbers of the kind, and 0 or 1 for a logical operation.
-- This project's own.
abbrev pub can_combine : ReduceOp → Kind → ℤ → Bool
can_combine op kind z = value_fits kind (is_logical op) z

-- The value of an operation that meets no fault, as those of reductions.
abbrev pub faultless_value : Outcome → ℤ
faultless_value (Ok z) = z
faultless_value (Err fault) = pos 0

-- Two values combined: each reduction is the operation of its name, on INTEGER or on LOGICAL. After
-- clause 11.1.7.
abbrev pub combined : ReduceOp → Kind → ℤ → ℤ → ℤ
combined ReduceOp.Add kind a b = faultless_value (applied Op.Add kind a b)
combined ReduceOp.Mul kind a b = faultless_value (applied Op.Mul kind a b)
combined ReduceOp.And kind a b = conjunction a b
combined ReduceOp.Or kind a b = disjunction a b
combined ReduceOp.Eqv kind a b = equivalence a b
combined ReduceOp.Neqv kind a b = non_equivalence a b
combined ReduceOp.Max kind a b = faultless_value (applied Op.Max kind a b)
combined ReduceOp.Min kind a b = faultless_value (applied Op.Min kind a b)
combined ReduceOp.Iand kind a b = faultless_value (applied Op.Iand kind a b)
combined ReduceOp.Ior kind a b = faultless_value (applied Op.Ior kind a b)
combined ReduceOp.Ieor kind a b = faultless_value (applied Op.Ieor kind a b)
