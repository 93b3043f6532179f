-- The rules that the CASE statements of a construct break. After ISO/IEC 1539-1:2023, clause 11.1.9.
use Rattle.std.specs.Prelude.{ℕ, Bool, true, false, not, ◌&&◌, ◌||◌, is_none, List, [], ◌∷◌, ◌++◌, Option, Some, None, ℤ, int_le}
use Rattle.std.specs.List.{list_any}
use Rattle.dc_int.specs.declared.kind.Kind.{Kind}
use Rattle.dc_int.specs.Kinds.{least_of, greatest_of}
use Rattle.dc_tree.specs.declared.fail.Refusal.{Refusal}
use Rattle.dc_tree.specs.Findings.{finding_if}
use Rattle.dc_tree.specs.Statements.{Statement, CaseRange, only, from, up_to, between, case, case_default}
use Rattle.dc_tree.specs.Syntax.{Tree}
use Rattle.dc_sorts.specs.declared.form.Form.{Form}
use Rattle.dc_sorts.specs.Standing.{Standing}
use Rattle.dc_uses.specs.declared.constant.Constant.{Constant}
use Rattle.dc_uses.specs.Constants.{constant_of}
use Rattle.dc_uses.specs.Uses.{use_findings}
use Rattle.dc_scope.specs.declared.interval.Interval.{Interval}

-- ---- values

abbrev pub is_logical : Constant → Bool
is_logical constant = by constant.form
  where
    by : Form → Bool
    by Form.Logical = true
    by (Form.Whole kind) = false

abbrev pub is_logical_value : Option Constant → Bool
is_logical_value None = false
is_logical_value (Some constant) = is_logical constant

abbrev pub interval : Bool → ℤ → ℤ → Interval
interval logical low high = record { logical = logical; low = low; high = high }

-- The values of a range, where its ends are known. No number is past those of kind 8.
abbrev pub single : Option Constant → Option Interval
single None = None
single (Some value) = Some (interval (is_logical value) value.value value.value)

abbrev pub upward : Option Constant → Option Interval
upward None = None
upward (Some low) = Some (interval (is_logical low) low.value (greatest_of Kind.K8))

abbrev pub downward : Option Constant → Option Interval
downward None = None
downward (Some high) = Some (interval (is_logical high) (least_of Kind.K8) high.value)

abbrev pub spanned : Option Constant → Option Constant → Option Interval
spanned (Some low) (Some high) = Some (interval (is_logical low) low.value high.value)
spanned low high = None

abbrev pub interval_of : Standing → CaseRange → Option Interval
interval_of standing (only value) = single (constant_of standing value)
interval_of standing (from low) = upward (constant_of standing low)
interval_of standing (up_to high) = downward (constant_of standing high)
interval_of standing (between low high) = spanned (constant_of standing low) (constant_of standing high)

-- ---- meeting

abbrev pub same : Bool → Bool → Bool
same true b = b
same false b = not b

-- They are of one sort, neither is empty, and some value is in both.
abbrev pub meet : Interval → Interval → Bool
meet a b = same a.logical b.logical && ((int_le a.low a.high && int_le b.low b.high) && (int_le a.low b.high && int_le b.low a.high))

abbrev pub meets_any : List Interval → Option Interval → Bool
meets_any before None = false
meets_any before (Some next) = list_any (meet next) before

abbrev pub with_interval : List Interval → Option Interval → List Interval
with_interval before None = before
with_interval before (Some next) = before ++ next ∷ []

-- ---- one range

-- K23: a case value is no constant expression with a value.
abbrev pub value_findings : Standing → ℕ → Tree → List Refusal
value_findings standing line tree = use_findings standing line tree ++ finding_if (is_none (constant_of standing tree)) 23 line

-- K27: a range is of LOGICAL.
abbrev pub ends_findings : Standing → ℕ → CaseRange → List Refusal
ends_findings standing line (only value) = value_findings standing line value
ends_findings standing line (from low) = value_findings standing line low ++ finding_if (is_logical_value (constant_of standing low)) 27 line
ends_findings standing line (up_to high) = value_findings standing line high ++ finding_if (is_logical_value (constant_of standing high)) 27 line
ends_findings standing line (between low high) =
    value_findings standing line low
    ++ (value_findings standing line high ++ finding_if (is_logical_value (constant_of standing low) || is_logical_value (constant_of standing high)) 27 line)

-- K27: it meets an earlier one.
abbrev pub range_findings : Standing → ℕ → List Interval → CaseRange → List Refusal
range_findings standing line before range = ends_findings standing line range ++ finding_if (meets_any before (interval_of standing range)) 27 line

-- ---- the ranges of a CASE, and the CASE statements of a construct

abbrev pub ranges_in : Standing → ℕ → List Interval → List CaseRange → List Refusal
ranges_in standing line before [] = []
ranges_in standing line before (first ∷ rest) =
    range_findings standing line before first ++ ranges_in standing line (with_interval before (interval_of standing first)) rest

abbrev pub intervals_behind : Standing → List Interval → List CaseRange → List Interval
intervals_behind standing before [] = before
intervals_behind standing before (first ∷ rest) = intervals_behind standing (with_interval before (interval_of standing first)) rest

-- What the CASE statements of a construct name so far.
pub record Cases : Type 0 where
  pub intervals : List Interval
  pub has_default : Bool

abbrev pub no_cases : Cases
no_cases = record { intervals = []; has_default = false }

-- What a CASE breaks behind others. K27: it is a second CASE DEFAULT.
abbrev pub case_findings : Standing → ℕ → Cases → Statement → List Refusal
case_findings standing line cases (case ranges) = ranges_in standing line cases.intervals ranges
case_findings standing line cases case_default = finding_if cases.has_default 27 line
case_findings standing line cases other = []

abbrev pub cases_behind : Standing → Cases → Statement → Cases
cases_behind standing cases (case ranges) = record { intervals = intervals_behind standing cases.intervals ranges; has_default = cases.has_default }
cases_behind standing cases case_default = record { intervals = cases.intervals; has_default = true }
cases_behind standing cases other = cases
