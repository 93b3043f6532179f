-- The rules that an expression breaks by what its numbers, operands and arguments are. After ISO/IEC 1539-1:2023,
-- clauses 7.4.3.1, 10.1.5, 15.5.2 and 16.9.
use Rattle.std.specs.Prelude.{ℕ, suc, ◌-◌, Bool, true, false, not, ◌&&◌, ◌==◌, List, [], ◌∷◌, ◌++◌, map, slice_get, is_none, Option, Some, None, if◌then◌else◌}
use Rattle.std.specs.List.{list_all}
use Rattle.dc_tree.specs.declared.fail.Refusal.{Refusal}
use Rattle.dc_tree.specs.declared.token.Mark.{Mark}
use Rattle.dc_tree.specs.Findings.{finding_if}
use Rattle.dc_tree.specs.Intrinsics as functions
use Rattle.dc_tree.specs.Intrinsics.{intrinsic}
use Rattle.dc_tree.specs.Statements.{Name}
use Rattle.dc_tree.specs.Syntax.{Tree, Args, number, name, refer, paren, unary, binary, no_args, arg}
use Rattle.dc_sorts.specs.declared.form.Form.{Form}
use Rattle.dc_sorts.specs.declared.known.Known.{Known}
use Rattle.dc_sorts.specs.declared.meaning.Meaning.{Meaning}
use Rattle.dc_sorts.specs.Knowing.{known_of}
use Rattle.dc_sorts.specs.Standing.{Standing, meaning, is_fixed, scope_at}
use Rattle.dc_operands.specs.declared.argument.Argument.{Argument}
use Rattle.dc_operands.specs.Arguments.{is_whole, is_logical, form_in, none_keyed, takes, fit_all, some_breaks_fixed}

-- What is known of an expression where it stands.
abbrev pub known_at : Standing → Tree → Known
known_at standing tree = known_of (scope_at standing) tree

-- ---- numbers

-- A number has no value where it isn't in the range of its kind.
abbrev pub is_out_of_kind : Known → Bool
is_out_of_kind known = known.constant && is_none known.value

-- K29: a number isn't in the range of its kind.
abbrev mutual
  pub number_findings : Standing → ℕ → Tree → List Refusal
  number_findings standing line (number digits suffix) = finding_if (is_out_of_kind (known_at standing (number digits suffix))) 29 line
  number_findings standing line (refer text args) = number_findings_in standing line args
  number_findings standing line (paren inside) = number_findings standing line inside
  number_findings standing line (unary mark right) = number_findings standing line right
  number_findings standing line (binary mark left right) = number_findings standing line left ++ number_findings standing line right
  number_findings standing line other = []

  pub number_findings_in : Standing → ℕ → Args → List Refusal
  number_findings_in standing line no_args = []
  number_findings_in standing line (arg keyed value rest) = number_findings standing line value ++ number_findings_in standing line rest

-- ---- operands

-- .NOT. takes a LOGICAL, and a sign an INTEGER.
abbrev pub takes_one : Mark → Form → Bool
takes_one Mark.Not form = is_logical form
takes_one mark form = is_whole form

abbrev pub joins_truths : Mark → Bool
joins_truths Mark.And = true
joins_truths Mark.Or = true
joins_truths Mark.Eqv = true
joins_truths Mark.Neqv = true
joins_truths mark = false

abbrev pub joins_numbers : Mark → Bool
joins_numbers Mark.Plus = true
joins_numbers Mark.Minus = true
joins_numbers Mark.Times = true
joins_numbers Mark.Slash = true
joins_numbers Mark.Power = true
joins_numbers Mark.Eq = true
joins_numbers Mark.Ne = true
joins_numbers Mark.Lt = true
joins_numbers Mark.Le = true
joins_numbers Mark.Gt = true
joins_numbers Mark.Ge = true
joins_numbers mark = false

-- Logical operators join LOGICALs. Arithmetic and relations join INTEGERs, whose kinds may differ. No other mark
-- joins operands, and none is read between them.
abbrev pub takes_two : Mark → Form → Form → Bool
takes_two mark a b = if joins_truths mark then is_logical a && is_logical b else joins_numbers mark && (is_whole a && is_whole b)

-- ---- arguments

-- The name stands for a variable.
abbrev pub is_variable : Meaning → Bool
is_variable (Meaning.Index kind) = true
is_variable (Meaning.Variable form rank) = true
is_variable (Meaning.Result form) = true
is_variable (Meaning.Dummy form intent) = true
is_variable other = false

abbrev pub is_array : Meaning → Bool
is_array (Meaning.Variable form (suc rank)) = true
is_array other = false

-- a name alone as an argument of this form, and a name with arguments or subscripts
abbrev pub named_argument : Standing → Bool → Form → Name → Argument
named_argument standing keyed form text =
    record { keyed = keyed; form = form; is_name = true; is_variable = is_variable (meaning standing text); is_fixed = is_fixed standing text }

abbrev pub element_argument : Standing → Bool → Form → Name → Argument
element_argument standing keyed form text =
    record { keyed = keyed; form = form; is_name = false; is_variable = is_array (meaning standing text); is_fixed = is_fixed standing text }

-- An argument of this form as the rules see it. A variable is a name or an element of an array.
abbrev pub argument_with : Standing → Bool → Form → Tree → Argument
argument_with standing keyed form (name text) = named_argument standing keyed form text
argument_with standing keyed form (refer text args) = element_argument standing keyed form text
argument_with standing keyed form other = record { keyed = keyed; form = form; is_name = false; is_variable = false; is_fixed = false }

abbrev pub argument_of : Standing → Bool → Tree → Argument
argument_of standing keyed tree = argument_with standing keyed (known_at standing tree).form tree

abbrev pub arguments_of : Standing → Args → List Argument
arguments_of standing no_args = []
arguments_of standing (arg keyed value rest) = argument_of standing keyed value ∷ arguments_of standing rest

abbrev pub or_none : Option (List Meaning) → List Meaning
or_none (Some dummies) = dummies
or_none None = []

-- The dummies of a procedure by its number, from 1.
abbrev pub dummies_of : Standing → ℕ → List Meaning
dummies_of standing place = if place == 0 then [] else or_none (slice_get standing.callees (place - 1))

abbrev pub all_whole : List Argument → Bool
all_whole arguments = list_all (λ argument. is_whole (form_in argument)) arguments

-- K28: a subscript is no INTEGER. K30: `kind =` stands in front of one.
abbrev pub subscript_findings : ℕ → List Argument → List Refusal
subscript_findings line arguments = finding_if (not (all_whole arguments)) 28 line ++ finding_if (not (none_keyed arguments)) 30 line

-- K30: an argument doesn't fit its dummy. K31: what may not be defined can be defined through one.
abbrev pub call_findings : ℕ → List Meaning → List Argument → List Refusal
call_findings line dummies arguments = finding_if (not (fit_all dummies arguments)) 30 line ++ finding_if (some_breaks_fixed dummies arguments) 31 line

-- K30: the function doesn't take the arguments.
abbrev pub function_findings : ℕ → Option functions.Intrinsic → List Argument → List Refusal
function_findings line None arguments = []
function_findings line (Some function) arguments = finding_if (not (takes function arguments)) 30 line

-- What a reference breaks by its arguments, by what its name stands for. That a name is used as what it isn't is
-- another rule's.
abbrev pub reference_findings : Standing → ℕ → Name → List Argument → List Refusal
reference_findings standing line text arguments = by (meaning standing text)
  where
    by : Meaning → List Refusal
    by (Meaning.Variable form rank) = subscript_findings line arguments
    by (Meaning.Procedure function procedure result) = call_findings line (dummies_of standing procedure) arguments
    by Meaning.Nothing = function_findings line (intrinsic text) arguments
    by other = []

-- ---- expressions

-- K28: an operand or a subscript has the wrong type. K30 and K31: by arguments.
abbrev mutual
  pub operand_findings : Standing → ℕ → Tree → List Refusal
  operand_findings standing line (refer text args) = operand_findings_in standing line args ++ reference_findings standing line text (arguments_of standing args)
  operand_findings standing line (paren inside) = operand_findings standing line inside
  operand_findings standing line (unary mark right) =
      operand_findings standing line right ++ finding_if (not (takes_one mark (known_at standing right).form)) 28 line
  operand_findings standing line (binary mark left right) =
      operand_findings standing line left ++ (operand_findings standing line right ++ finding_if (not (takes_two mark (known_at standing left).form (known_at standing right).form)) 28 line)
  operand_findings standing line other = []

  pub operand_findings_in : Standing → ℕ → Args → List Refusal
  operand_findings_in standing line no_args = []
  operand_findings_in standing line (arg keyed value rest) = operand_findings standing line value ++ operand_findings_in standing line rest

-- ---- lists of expressions in a statement

abbrev pub each_number_findings : Standing → ℕ → List Tree → List Refusal
each_number_findings standing line [] = []
each_number_findings standing line (tree ∷ rest) = number_findings standing line tree ++ each_number_findings standing line rest

abbrev pub each_operand_findings : Standing → ℕ → List Tree → List Refusal
each_operand_findings standing line [] = []
each_operand_findings standing line (tree ∷ rest) = operand_findings standing line tree ++ each_operand_findings standing line rest

-- Expressions as arguments of CALL, in front of which no `kind =` can stand.
abbrev pub plain_arguments : Standing → List Tree → List Argument
plain_arguments standing trees = map (argument_of standing false) trees
