-- What the values of a variable or an expression are: the numbers of a kind, or truths. After ISO/IEC
-- 1539-1:2023, clause 7.4; that a LOGICAL is 0 or 1 is this project's own.
use Rattle.std.specs.Prelude.{Bool, true, false, ℤ}
use Rattle.dc_int.specs.declared.kind.Kind.{Kind}
use Rattle.dc_int.specs.Kinds.{wrapped}
use Rattle.dc_int.specs.Reductions.{truth, number_of_truth}

pub data Sort : Type 0 where
  whole : Kind → Sort
  logical : Sort

abbrev pub kind_of : Sort → Kind
kind_of (whole kind) = kind
kind_of logical = Kind.K4

abbrev pub sort_with : Bool → Kind → Sort
sort_with true kind = logical
sort_with false kind = whole kind

-- A value as an assignment to a variable of this sort takes it: a number is wrapped to the kind, and a truth
-- is 0 or 1. After clause 10.2.1.3; the wrapping is this project's own.
abbrev pub fitted : Sort → ℤ → ℤ
fitted (whole kind) z = wrapped kind z
fitted logical z = number_of_truth (truth z)
