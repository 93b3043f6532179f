-- The bounds of arrays. After ISO/IEC 1539-1:2023, clause 8.5.8.2; the greatest rank is this project's own.
use Rattle.std.specs.Prelude.{ℕ, nat_lt, Bool, true, false, List, [], ◌∷◌, ◌++◌, map, length, take, Option, Some, None, is_none, ℤ, pos}
use Rattle.dc_int.specs.Store.{Bounds}
use Rattle.dc_tree.specs.declared.fail.Refusal.{Refusal}
use Rattle.dc_tree.specs.Findings.{finding_if}
use Rattle.dc_tree.specs.Statements.{Dimension}
use Rattle.dc_tree.specs.Syntax.{Tree}
use Rattle.dc_sorts.specs.Standing.{Standing}
use Rattle.dc_uses.specs.Constants.{whole_constant}
use Rattle.dc_uses.specs.Uses.{use_findings}

-- the number, or another where there is none
abbrev pub told : Option ℤ → ℤ → ℤ
told None other = other
told (Some z) other = z

-- A bound that isn't written, or that can't be told, is 1 as a low one. A high one that can't be told is 0.
abbrev pub low_of : Standing → Option Tree → ℤ
low_of standing None = pos 1
low_of standing (Some tree) = told (whole_constant standing tree) (pos 1)

abbrev pub high_of : Standing → Tree → ℤ
high_of standing tree = told (whole_constant standing tree) (pos 0)

abbrev pub bounds_of : Standing → Dimension → ℤ × ℤ
bounds_of standing dimension = (low_of standing dimension.low, high_of standing dimension.high)

abbrev pub all_bounds : Standing → List Dimension → Bounds
all_bounds standing dimensions = map (bounds_of standing) dimensions

-- K20 to K22 of the names in a bound. K23: it is no constant expression of type INTEGER.
abbrev pub bound_findings : Standing → ℕ → Tree → List Refusal
bound_findings standing line tree = use_findings standing line tree ++ finding_if (is_none (whole_constant standing tree)) 23 line

abbrev pub low_findings : Standing → ℕ → Option Tree → List Refusal
low_findings standing line None = []
low_findings standing line (Some tree) = bound_findings standing line tree

abbrev pub each_dimension : Standing → ℕ → List Dimension → List Refusal
each_dimension standing line [] = []
each_dimension standing line (dimension ∷ rest) =
    low_findings standing line dimension.low ++ (bound_findings standing line dimension.high ++ each_dimension standing line rest)

-- K24: the rank is over 7.
abbrev pub rank_findings : ℕ → List Dimension → List Refusal
rank_findings line dimensions = finding_if (nat_lt 7 (length dimensions)) 24 line

abbrev pub all_dimensions : Standing → ℕ → List Dimension → List Refusal
all_dimensions standing line dimensions = each_dimension standing line dimensions ++ rank_findings line dimensions

-- A scalar has no bounds.
abbrev pub is_array : Bounds → Bool
is_array [] = false
is_array (first ∷ rest) = true

-- The bounds of an attribute for one of many names. Of a rank over 7, which is refused, 15 dimensions are kept, the
-- most that the standard has.
abbrev pub shared : Bounds → Bounds
shared bounds = take 15 bounds
