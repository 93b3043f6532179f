-- The rules that an expression breaks by the names in it. After ISO/IEC 1539-1:2023, clauses 9.5.3, 15.5.1, 16.9
-- and 19.
use Rattle.std.specs.Prelude.{ℕ, suc, Bool, true, false, not, ◌&&◌, ◌||◌, ◌==◌, is_some, List, [], ◌∷◌, ◌++◌, Option, Some, None, if◌then◌else◌, ℤ, pos, int_le}
use Rattle.dc_tree.specs.declared.fail.Refusal.{Refusal}
use Rattle.dc_tree.specs.declared.token.Suffix.{Suffix}
use Rattle.dc_tree.specs.Findings.{finding, finding_if}
use Rattle.dc_tree.specs.Intrinsics as functions
use Rattle.dc_tree.specs.Intrinsics.{intrinsic}
use Rattle.dc_tree.specs.Literals.{number_of}
use Rattle.dc_tree.specs.Statements.{Name}
use Rattle.dc_tree.specs.Syntax.{Tree, Args, number, name, refer, paren, unary, binary, no_args, arg}
use Rattle.dc_sorts.specs.declared.meaning.Meaning.{Meaning}
use Rattle.dc_sorts.specs.Standing.{Standing, meaning}
use Rattle.dc_uses.specs.declared.reading.Reading.{Reading}
use Rattle.dc_uses.specs.Constants.{whole_constant, kind_value_findings, kind_findings}

-- ---- names alone

-- K20: the name isn't declared, and is no function of the language. K21: it is one, and stands alone.
abbrev pub undeclared_findings : ℕ → Name → List Refusal
undeclared_findings line text = finding (if is_some (intrinsic text) then 21 else 20) line ∷ []

abbrev pub is_scalar : ℕ → Bool
is_scalar rank = rank == 0

-- A name where a scalar is asked. K21: an array or a procedure.
abbrev pub name_findings : Standing → ℕ → Name → List Refusal
name_findings standing line text = by (meaning standing text)
  where
    by : Meaning → List Refusal
    by Meaning.Nothing = undeclared_findings line text
    by (Meaning.Variable form rank) = finding_if (not (is_scalar rank)) 21 line
    by (Meaning.Procedure function procedure result) = finding 21 line ∷ []
    by other = []

-- A name where an array is asked. K21: anything else.
abbrev pub array_findings : Standing → ℕ → Name → List Refusal
array_findings standing line text = by (meaning standing text)
  where
    by : Meaning → List Refusal
    by Meaning.Nothing = undeclared_findings line text
    by (Meaning.Variable form rank) = finding_if (is_scalar rank) 21 line
    by other = finding 21 line ∷ []

-- The kind behind a number is digits, or a named constant.
abbrev pub suffix_findings : Standing → ℕ → Suffix → List Refusal
suffix_findings standing line Suffix.Absent = []
suffix_findings standing line (Suffix.Digits digits) = kind_value_findings line (Some (pos (number_of digits)))
suffix_findings standing line (Suffix.Named text) = name_findings standing line text ++ kind_findings standing line (name text)

-- ---- references

abbrev pub count_of : Args → ℕ
count_of no_args = 0
count_of (arg keyed value rest) = suc (count_of rest)

-- a variable of this rank in front of so many
abbrev pub misfits : ℕ → ℕ → Bool
misfits rank count = is_scalar rank || not (count == rank)

-- A name in front of so many arguments or subscripts. K20: it isn't declared, and is no function of the language.
-- K21: it has another rank, or is neither an array nor a function.
abbrev pub head_findings : Standing → ℕ → Name → ℕ → List Refusal
head_findings standing line text count = by (meaning standing text)
  where
    by : Meaning → List Refusal
    by Meaning.Nothing = finding_if (not (is_some (intrinsic text))) 20 line
    by (Meaning.Variable form rank) = finding_if (misfits rank count) 21 line
    by (Meaning.Procedure true procedure result) = []
    by other = finding 21 line ∷ []

abbrev pub reading_by : functions.Intrinsic → Reading
reading_by functions.size = Reading.Asked
reading_by functions.lower_bound = Reading.Asked
reading_by functions.upper_bound = Reading.Asked
reading_by functions.total = Reading.Array
reading_by functions.count = Reading.Array
reading_by functions.any = Reading.Array
reading_by functions.all = Reading.Array
reading_by functions.converted = Reading.Converted
reading_by other = Reading.Value

abbrev pub reading_undeclared : Option functions.Intrinsic → Reading
reading_undeclared (Some function) = reading_by function
reading_undeclared None = Reading.Value

-- How the first argument behind a name is read. What is declared hides the functions of the language.
abbrev pub reading_of : Standing → Name → Reading
reading_of standing text = by (meaning standing text)
  where
    by : Meaning → Reading
    by Meaning.Nothing = reading_undeclared (intrinsic text)
    by other = Reading.Value

abbrev pub rank_of : Standing → Tree → Option ℕ
rank_of standing (name text) = by (meaning standing text)
  where
    by : Meaning → Option ℕ
    by (Meaning.Variable form (suc rank)) = Some (suc rank)
    by other = None
rank_of standing other = None

-- How the argument behind this one is read.
abbrev pub reading_behind : Standing → Reading → Tree → Reading
reading_behind standing Reading.Asked value = Reading.Dimension (rank_of standing value)
reading_behind standing Reading.Converted value = Reading.Kind
reading_behind standing other value = Reading.Value

abbrev pub is_dimension : Option ℕ → ℤ → Bool
is_dimension None z = true
is_dimension (Some rank) z = int_le (pos 1) z && int_le z (pos rank)

-- K23: there is no such dimension of the array.
abbrev pub dimension_findings : ℕ → Option ℕ → Option ℤ → List Refusal
dimension_findings line rank None = finding 23 line ∷ []
dimension_findings line rank (Some z) = finding_if (not (is_dimension rank z)) 23 line

-- What an argument breaks by what is asked of it, beside the names in it.
abbrev pub asked_findings : Standing → ℕ → Reading → Tree → List Refusal
asked_findings standing line (Reading.Dimension rank) value = dimension_findings line rank (whole_constant standing value)
asked_findings standing line Reading.Kind value = kind_findings standing line value
asked_findings standing line other value = []

-- An array is asked for, which a name alone can be.
abbrev pub asks_array : Reading → Bool
asks_array Reading.Asked = true
asks_array Reading.Array = true
asks_array other = false

abbrev pub array_named : Reading → Tree → Option Name
array_named reading (name text) = if asks_array reading then Some text else None
array_named reading other = None

-- what an argument breaks where it is that array, and else what the names in it do
abbrev pub value_findings : Standing → ℕ → Option Name → List Refusal → List Refusal
value_findings standing line (Some text) uses = array_findings standing line text
value_findings standing line None uses = uses

-- ---- expressions

-- K20 and K21, and K22 and K23 of the kinds and dimensions that are named in it.
abbrev mutual
  pub use_findings : Standing → ℕ → Tree → List Refusal
  use_findings standing line (number digits suffix) = suffix_findings standing line suffix
  use_findings standing line (name text) = name_findings standing line text
  use_findings standing line (refer text args) =
      head_findings standing line text (count_of args) ++ argument_findings standing line (reading_of standing text) args
  use_findings standing line (paren inside) = use_findings standing line inside
  use_findings standing line (unary mark right) = use_findings standing line right
  use_findings standing line (binary mark left right) = use_findings standing line left ++ use_findings standing line right
  use_findings standing line other = []

  pub argument_findings : Standing → ℕ → Reading → Args → List Refusal
  argument_findings standing line reading no_args = []
  argument_findings standing line reading (arg keyed value rest) =
      value_findings standing line (array_named reading value) (use_findings standing line value)
      ++ (asked_findings standing line reading value ++ argument_findings standing line (reading_behind standing reading value) rest)
