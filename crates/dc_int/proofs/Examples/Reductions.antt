-- Reductions of two values, each computed by the definitions.
use Rattle.std.proofs.Common.{◌≡◌, true, false, List, [], ◌∷◌, refl}
use Rattle.std.specs.Prelude.{ℤ, pos, neg_ℤ, map}
use Rattle.std.specs.Int.{int_wrap}
use Rattle.dc_int.specs.declared.kind.Kind.{Kind}
use Rattle.dc_int.specs.declared.operation.ReduceOp.{ReduceOp}
use Rattle.dc_int.specs.Reductions.{identity_of, can_combine, combined}

-- a reduction of LOGICAL of all pairs of truths: 0 and 0, 0 and 1, 1 and 0, 1 and 1
abbrev of_truths : ReduceOp → List ℤ
of_truths op =
    combined op Kind.K4 (pos 0) (pos 0) ∷ combined op Kind.K4 (pos 0) (pos 1) ∷ combined op Kind.K4 (pos 1) (pos 0) ∷ combined op Kind.K4 (pos 1) (pos 1) ∷ []

pub true_where_both_are : of_truths ReduceOp.And ≡ pos 0 ∷ pos 0 ∷ pos 0 ∷ pos 1 ∷ []
true_where_both_are = refl

pub true_where_one_is : of_truths ReduceOp.Or ≡ pos 0 ∷ pos 1 ∷ pos 1 ∷ pos 1 ∷ []
true_where_one_is = refl

pub true_where_alike : of_truths ReduceOp.Eqv ≡ pos 1 ∷ pos 0 ∷ pos 0 ∷ pos 1 ∷ []
true_where_alike = refl

pub true_where_different : of_truths ReduceOp.Neqv ≡ pos 0 ∷ pos 1 ∷ pos 1 ∷ pos 0 ∷ []
true_where_different = refl

-- 6 and 5 give another number by each reduction of INTEGER
abbrev numeric : List ReduceOp
numeric = ReduceOp.Add ∷ ReduceOp.Mul ∷ ReduceOp.Max ∷ ReduceOp.Min ∷ ReduceOp.Iand ∷ ReduceOp.Ior ∷ ReduceOp.Ieor ∷ []

pub six_and_five : map (λ op. combined op Kind.K4 (pos 6) (pos 5)) numeric ≡ pos 11 ∷ pos 30 ∷ pos 6 ∷ pos 5 ∷ pos 4 ∷ pos 7 ∷ pos 3 ∷ []
unfolding int_wrap
six_and_five = refl

-- sums of kind 1 wrap: 100 and twice 50
pub sum_wraps : combined ReduceOp.Add Kind.K1 (combined ReduceOp.Add Kind.K1 (pos 100) (pos 50)) (pos 50) ≡ neg_ℤ (pos 56)
unfolding int_wrap
sum_wraps = refl

pub reduced_max : combined ReduceOp.Max Kind.K1 (identity_of ReduceOp.Max Kind.K1) (neg_ℤ (pos 128)) ≡ neg_ℤ (pos 128)
unfolding int_wrap
reduced_max = refl

pub reduced_iand : combined ReduceOp.Iand Kind.K8 (identity_of ReduceOp.Iand Kind.K8) (neg_ℤ (pos 7)) ≡ neg_ℤ (pos 7)
unfolding int_wrap
reduced_iand = refl

-- a LOGICAL is 0 or 1, and a number is in the range of its kind
pub truths_only : map (can_combine ReduceOp.And Kind.K4) (neg_ℤ (pos 1) ∷ pos 0 ∷ pos 1 ∷ pos 2 ∷ []) ≡ false ∷ true ∷ true ∷ false ∷ []
truths_only = refl

pub numbers_of_the_kind : map (can_combine ReduceOp.Add Kind.K1) (neg_ℤ (pos 129) ∷ neg_ℤ (pos 128) ∷ pos 127 ∷ pos 128 ∷ []) ≡ false ∷ true ∷ true ∷ false ∷ []
numbers_of_the_kind = refl
