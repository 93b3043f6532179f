-- Which arguments a reference takes. After ISO/IEC 1539-1:2023, clauses 15.5.2 and 16.9; that the numbers which
-- a function takes together have one kind is this project's own where the standard lets kinds differ.
use Rattle.std.specs.Prelude.{Bool, true, false, not, ◌&&◌, ◌||◌, List, [], ◌∷◌, map}
use Rattle.std.specs.List.{list_all, list_any}
use Rattle.dc_int.specs.declared.operation.Op.{Op}
use Rattle.dc_int.specs.Kinds.{bits_of}
use Rattle.std.specs.Prelude.{nat_eq}
use Rattle.dc_tree.specs.declared.stmt.Intent.{Intent}
use Rattle.dc_tree.specs.Intrinsics as functions
use Rattle.dc_sorts.specs.declared.form.Form.{Form}
use Rattle.dc_sorts.specs.declared.meaning.Meaning.{Meaning}
use Rattle.dc_operands.specs.declared.argument.Argument.{Argument}

-- ---- forms

abbrev pub is_whole : Form → Bool
is_whole (Form.Whole kind) = true
is_whole Form.Logical = false

abbrev pub is_logical : Form → Bool
is_logical form = not (is_whole form)

abbrev pub same_form : Form → Form → Bool
same_form (Form.Whole a) (Form.Whole b) = nat_eq (bits_of a) (bits_of b)
same_form Form.Logical Form.Logical = true
same_form a b = false

-- ---- the functions of the language

abbrev pub is_of_one : Op → Bool
is_of_one Op.Abs = true
is_of_one Op.Not = true
is_of_one Op.Popcnt = true
is_of_one op = false

-- The second operand is a number of places, or the position of a bit, and of any kind.
abbrev pub counts_places : Op → Bool
counts_places Op.Ishft = true
counts_places Op.Shiftl = true
counts_places Op.Shiftr = true
counts_places Op.Shifta = true
counts_places Op.Ibset = true
counts_places Op.Ibclr = true
counts_places op = false

-- The forms of two operands that an operation takes.
abbrev pub takes_pair : Op → Form → Form → Bool
takes_pair op a b = not (is_of_one op) && (is_whole a && (is_whole b && (counts_places op || same_form a b)))

-- The forms of the arguments that a function takes. That the arguments of an inquiry about an array are an array
-- and a dimension is said elsewhere.
abbrev pub takes_forms : functions.Intrinsic → List Form → Bool
takes_forms (functions.operation op) (a ∷ []) = is_of_one op && is_whole a
takes_forms (functions.operation op) (a ∷ b ∷ []) = takes_pair op a b
takes_forms (functions.chosen op) (a ∷ b ∷ rest) = is_whole a && list_all (same_form a) (a ∷ b ∷ rest)
takes_forms functions.merge (a ∷ b ∷ mask ∷ []) = same_form a b && is_logical mask
takes_forms functions.converted (a ∷ []) = is_whole a
takes_forms functions.converted (a ∷ kind ∷ []) = is_whole a
takes_forms functions.huge (a ∷ []) = is_whole a
takes_forms functions.bit_size (a ∷ []) = is_whole a
takes_forms functions.kind (a ∷ []) = true
takes_forms functions.size (array ∷ []) = true
takes_forms functions.size (array ∷ dimension ∷ []) = true
takes_forms functions.lower_bound (array ∷ dimension ∷ []) = true
takes_forms functions.upper_bound (array ∷ dimension ∷ []) = true
takes_forms functions.total (array ∷ []) = is_whole array
takes_forms functions.count (array ∷ []) = is_logical array
takes_forms functions.any (array ∷ []) = is_logical array
takes_forms functions.all (array ∷ []) = is_logical array
takes_forms function forms = false

abbrev pub is_about_array : functions.Intrinsic → Bool
is_about_array functions.size = true
is_about_array functions.lower_bound = true
is_about_array functions.upper_bound = true
is_about_array functions.total = true
is_about_array functions.count = true
is_about_array functions.any = true
is_about_array functions.all = true
is_about_array function = false

abbrev pub form_in : Argument → Form
form_in argument = argument.form

abbrev pub is_keyed : Argument → Bool
is_keyed argument = argument.keyed

abbrev pub none_keyed : List Argument → Bool
none_keyed arguments = not (list_any is_keyed arguments)

-- `kind =` stands in front of the second argument of INT, and nowhere else.
abbrev pub takes_keys : functions.Intrinsic → List Argument → Bool
takes_keys functions.converted (first ∷ rest) = not first.keyed
takes_keys function arguments = none_keyed arguments

-- A function that asks about an array is asked by the array's name.
abbrev pub takes_first : functions.Intrinsic → List Argument → Bool
takes_first function [] = true
takes_first function (first ∷ rest) = not (is_about_array function) || first.is_name

abbrev pub takes : functions.Intrinsic → List Argument → Bool
takes function arguments = takes_keys function arguments && (takes_first function arguments && takes_forms function (map form_in arguments))

-- ---- procedures

abbrev pub is_into : Intent → Bool
is_into Intent.Into = true
is_into intent = false

-- An argument is of the type and kind of its dummy, and is a variable where the dummy isn't INTENT(IN).
abbrev pub fits : Meaning → Argument → Bool
fits (Meaning.Dummy form intent) argument = not argument.keyed && (same_form form argument.form && (is_into intent || argument.is_variable))
fits other argument = false

-- There are as many arguments as dummies, and each fits.
abbrev pub fit_all : List Meaning → List Argument → Bool
fit_all [] [] = true
fit_all (dummy ∷ dummies) (argument ∷ arguments) = fits dummy argument && fit_all dummies arguments
fit_all dummies arguments = false

-- Through the dummy a variable may be defined that may not be defined here.
abbrev pub breaks_fixed : Meaning → Argument → Bool
breaks_fixed (Meaning.Dummy form intent) argument = not (is_into intent) && argument.is_fixed
breaks_fixed other argument = false

abbrev pub some_breaks_fixed : List Meaning → List Argument → Bool
some_breaks_fixed (dummy ∷ dummies) (argument ∷ arguments) = breaks_fixed dummy argument || some_breaks_fixed dummies arguments
some_breaks_fixed dummies arguments = false
