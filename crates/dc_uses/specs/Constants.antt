-- Constant expressions whose value can be told, and the kinds that they name. After ISO/IEC 1539-1:2023, clauses
-- 7.4.3.1 and 10.1.12; which kinds there are is this project's own.
use Rattle.std.specs.Prelude.{ℕ, Bool, not, ◌||◌, is_none, List, [], ◌∷◌, Option, Some, None, option_map, option_and_then, if◌then◌else◌, ℤ, pos}
use Rattle.dc_tree.specs.declared.fail.Refusal.{Refusal}
use Rattle.dc_tree.specs.Findings.{finding, finding_if, least_of}
use Rattle.dc_tree.specs.Operating.{is_equal}
use Rattle.dc_tree.specs.Syntax.{Tree}
use Rattle.dc_sorts.specs.declared.form.Form.{Form}
use Rattle.dc_sorts.specs.declared.known.Known.{Known}
use Rattle.dc_sorts.specs.Standing.{Standing}
use Rattle.dc_operands.specs.Operands.{known_at, operand_findings}
use Rattle.dc_uses.specs.declared.constant.Constant.{Constant}

-- No operand or argument in it is wrong.
abbrev pub is_well_typed : Standing → Tree → Bool
is_well_typed standing tree = is_none (least_of (operand_findings standing 0 tree))

abbrev pub constant_with : Form → ℤ → Constant
constant_with form value = record { form = form; value = value }

-- what is known of an expression, as the value of a constant expression
abbrev pub constant_known : Known → Option Constant
constant_known known = if known.constant then option_map (constant_with known.form) known.value else None

-- The value of a well-typed constant expression, where its evaluation meets no fault and no number out of its kind.
abbrev pub constant_of : Standing → Tree → Option Constant
constant_of standing tree = if is_well_typed standing tree then constant_known (known_at standing tree) else None

abbrev pub whole_value : Constant → Option ℤ
whole_value constant = by constant.form
  where
    by : Form → Option ℤ
    by (Form.Whole kind) = Some constant.value
    by Form.Logical = None

-- The value of such an expression of type INTEGER.
abbrev pub whole_constant : Standing → Tree → Option ℤ
whole_constant standing tree = option_and_then whole_value (constant_of standing tree)

-- ---- kinds

abbrev pub is_kind : ℤ → Bool
is_kind z = (is_equal z (pos 1) || is_equal z (pos 2)) || (is_equal z (pos 4) || is_equal z (pos 8))

-- K22: the number is no kind. K23: there is no number.
abbrev pub kind_value_findings : ℕ → Option ℤ → List Refusal
kind_value_findings line None = finding 23 line ∷ []
kind_value_findings line (Some value) = finding_if (not (is_kind value)) 22 line

abbrev pub kind_findings : Standing → ℕ → Tree → List Refusal
kind_findings standing line tree = kind_value_findings line (whole_constant standing tree)
