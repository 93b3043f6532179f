-- The rules that a single action breaks by what its expressions are, and by what it defines. After ISO/IEC
-- 1539-1:2023, clauses 8.5.10, 9.5.3, 10.2.1.2, 11.1.7.2 and 15.5.2.
use Rattle.std.specs.Prelude.{ℕ, Bool, not, List, [], ◌∷◌, ◌++◌, Option, Some, None, if◌then◌else◌}
use Rattle.std.specs.List.{list_all}
use Rattle.dc_tree.specs.declared.fail.Refusal.{Refusal}
use Rattle.dc_tree.specs.Findings.{finding_if}
use Rattle.dc_tree.specs.Statements.{Name, Target, Deed, assign, fill, call, print, read}
use Rattle.dc_tree.specs.Syntax.{Tree, name}
use Rattle.dc_sorts.specs.declared.form.Form.{Form}
use Rattle.dc_sorts.specs.declared.meaning.Meaning.{Meaning}
use Rattle.dc_sorts.specs.Standing.{Standing, meaning, is_fixed}
use Rattle.dc_operands.specs.declared.argument.Argument.{Argument}
use Rattle.dc_operands.specs.Arguments.{is_whole, is_logical, form_in}
use Rattle.dc_operands.specs.Operands.{known_at, number_findings, operand_findings, each_number_findings, each_operand_findings, plain_arguments, subscript_findings, call_findings, dummies_of}

-- ---- expressions

abbrev pub form_at : Standing → Tree → Form
form_at standing tree = (known_at standing tree).form

-- What an expression breaks by itself: by its numbers, and then by its operands and arguments.
abbrev pub expression_findings : Standing → ℕ → Tree → List Refusal
expression_findings standing line tree = number_findings standing line tree ++ operand_findings standing line tree

abbrev pub each_findings : Standing → ℕ → List Tree → List Refusal
each_findings standing line trees = each_number_findings standing line trees ++ each_operand_findings standing line trees

-- Both are INTEGERs, whose kinds may differ, or both are LOGICAL.
abbrev pub same_type : Form → Form → Bool
same_type a b = if is_whole a then is_whole b else is_logical b

-- K28: what is asked to be LOGICAL isn't.
abbrev pub test_findings : Standing → ℕ → Tree → List Refusal
test_findings standing line tree = expression_findings standing line tree ++ finding_if (is_whole (form_at standing tree)) 28 line

-- K28: what is asked to be an INTEGER isn't.
abbrev pub limit_findings : Standing → ℕ → Tree → List Refusal
limit_findings standing line tree = expression_findings standing line tree ++ finding_if (is_logical (form_at standing tree)) 28 line

-- K28: what is asked to be of the type of this form isn't.
abbrev pub value_findings : Standing → ℕ → Form → Tree → List Refusal
value_findings standing line form tree = expression_findings standing line tree ++ finding_if (not (same_type form (form_at standing tree))) 28 line

-- ---- what is defined

-- K31: the name may not be defined here.
abbrev pub defined_findings : Standing → ℕ → Name → List Refusal
defined_findings standing line text = finding_if (is_fixed standing text) 31 line

-- K28: a subscript of what is defined is no INTEGER.
abbrev pub place_findings : Standing → ℕ → Option (List Tree) → List Refusal
place_findings standing line None = []
place_findings standing line (Some trees) = each_findings standing line trees ++ subscript_findings line (plain_arguments standing trees)

abbrev pub target_findings : Standing → ℕ → Target → List Refusal
target_findings standing line target = place_findings standing line target.subscripts ++ defined_findings standing line target.name

abbrev pub each_target_findings : Standing → ℕ → List Target → List Refusal
each_target_findings standing line [] = []
each_target_findings standing line (target ∷ rest) = target_findings standing line target ++ each_target_findings standing line rest

-- ---- actions

-- K28: the value isn't of the variable's type. K31: the variable may not be defined.
abbrev pub assign_findings : Standing → ℕ → Target → Tree → List Refusal
assign_findings standing line target value =
    target_findings standing line target ++ value_findings standing line (form_at standing (name target.name)) value

abbrev pub all_of_type : Form → List Argument → Bool
all_of_type form arguments = list_all (λ argument. same_type form (form_in argument)) arguments

-- K28: an item isn't of the array's type. K31: the array may not be defined.
abbrev pub fill_findings : Standing → ℕ → Name → List Tree → List Refusal
fill_findings standing line text items =
    each_findings standing line items
    ++ (finding_if (not (all_of_type (form_at standing (name text)) (plain_arguments standing items))) 28 line ++ defined_findings standing line text)

-- K30 and K31: the subroutine doesn't take the arguments, or defines what may not be defined.
abbrev pub called_findings : Standing → ℕ → Meaning → List Argument → List Refusal
called_findings standing line (Meaning.Procedure function place result) arguments = call_findings line (dummies_of standing place) arguments
called_findings standing line other arguments = []

abbrev pub subroutine_findings : Standing → ℕ → Name → List Tree → List Refusal
subroutine_findings standing line text args =
    each_findings standing line args ++ called_findings standing line (meaning standing text) (plain_arguments standing args)

abbrev pub deed_findings : Standing → ℕ → Deed → List Refusal
deed_findings standing line (assign target value) = assign_findings standing line target value
deed_findings standing line (fill text items) = fill_findings standing line text items
deed_findings standing line (call text brackets args) = subroutine_findings standing line text args
deed_findings standing line (print written items) = each_findings standing line items
deed_findings standing line (read bracketed targets) = each_target_findings standing line targets
deed_findings standing line other = []
