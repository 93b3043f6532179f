-- The values that declarations give. After ISO/IEC 1539-1:2023, clauses 8.4 and 8.5.13; the wrapping is this
-- project's own.
use Rattle.std.specs.Prelude.{ℕ, Bool, true, false, not, ◌&&◌, ◌==◌, List, [], ◌∷◌, ◌++◌, map, length, replicate, Option, Some, None, is_none, if◌then◌else◌, ℤ, pos}
use Rattle.dc_int.specs.Kinds.{wrapped}
use Rattle.dc_int.specs.Reductions.{truth, number_of_truth}
use Rattle.dc_tree.specs.declared.fail.Refusal.{Refusal}
use Rattle.dc_tree.specs.Findings.{finding_if}
use Rattle.dc_tree.specs.Statements.{Initial, absent, scalar, listed}
use Rattle.dc_tree.specs.Syntax.{Tree}
use Rattle.dc_sorts.specs.declared.form.Form.{Form}
use Rattle.dc_sorts.specs.Standing.{Standing}
use Rattle.dc_uses.specs.declared.constant.Constant.{Constant}
use Rattle.dc_uses.specs.Constants.{constant_of}
use Rattle.dc_uses.specs.Uses.{use_findings}
use Rattle.dc_declare.specs.declared.types.ElementType.{ElementType}
use Rattle.dc_declare.specs.Bounds.{told}

-- A value as something of this type takes it: a number is wrapped to the kind, and a truth is 1 or 0.
abbrev pub stored : ElementType → ℤ → ℤ
stored type z = if type.logical then number_of_truth (truth z) else wrapped type.kind z

abbrev pub suits : ElementType → Form → Bool
suits type (Form.Whole kind) = not type.logical
suits type Form.Logical = type.logical

-- A constant of the right type, as it is taken.
abbrev pub taken_as : ElementType → Option Constant → Option ℤ
taken_as type None = None
taken_as type (Some constant) = if suits type constant.form then Some (stored type constant.value) else None

abbrev pub value_in : Standing → ElementType → Tree → Option ℤ
value_in standing type tree = taken_as type (constant_of standing tree)

-- A value that can't be told counts as 0.
abbrev pub worth : Standing → ElementType → Tree → ℤ
worth standing type tree = told (value_in standing type tree) (pos 0)

-- K20 to K22 of the names in a value. K23: it is no constant expression of the type.
abbrev pub value_findings : Standing → ℕ → ElementType → Tree → List Refusal
value_findings standing line type tree = use_findings standing line tree ++ finding_if (is_none (value_in standing type tree)) 23 line

abbrev pub each_value : Standing → ℕ → ElementType → List Tree → List Refusal
each_value standing line type [] = []
each_value standing line type (tree ∷ rest) = value_findings standing line type tree ++ each_value standing line type rest

abbrev pub trees_in : Initial → List Tree
trees_in absent = []
trees_in (scalar tree) = tree ∷ []
trees_in (listed trees) = trees

abbrev pub values_in : Standing → ElementType → Initial → List ℤ
values_in standing type initial = map (worth standing type) (trees_in initial)

abbrev pub initial_findings : Standing → ℕ → ElementType → Initial → List Refusal
initial_findings standing line type initial = each_value standing line type (trees_in initial)

-- ---- lists

-- A list has one value for each element of an array.
abbrev pub is_filling : Bool → ℕ → ℕ → Bool
is_filling array size count = array && count == size

-- K25: a list has more or fewer, or stands for a scalar.
abbrev pub list_findings : ℕ → Bool → ℕ → Initial → List Refusal
list_findings line array size (listed trees) = finding_if (not (is_filling array size (length trees))) 25 line
list_findings line array size other = []

abbrev pub first_value : List ℤ → ℤ
first_value [] = pos 0
first_value (z ∷ rest) = z

-- The initial values of the elements, by the values that stand there and how many elements there are. One value
-- is that of each element. There are none where the elements are too many.
abbrev pub filled : Bool → Bool → ℕ → Initial → List ℤ → List ℤ
filled over array size absent values = []
filled over array size (scalar tree) values = if over then [] else replicate size (first_value values)
filled over array size (listed trees) values = if is_filling array size (length values) then values else []

abbrev pub is_valued : Initial → Bool
is_valued absent = false
is_valued other = true
