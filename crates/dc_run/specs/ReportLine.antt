-- How a run ends, and the line of the log that tells of it, byte by byte. This project's own.
use Rattle.std.specs.Prelude.{ℕ, ◌/◌, ◌%◌, Bool, true, false, ◌&&◌, nat_eq, List, [], ◌∷◌, ◌++◌, map, filter, slice_get, Option, Some, None, unwrap_or, codes, decimal, ℤ, pos, ◌+ℤ◌}
use Rattle.std.specs.Fmt.{signed_decimal}
use Rattle.std.specs.List.{concat}
use Rattle.dc_int.specs.declared.access.Action.{Action}
use Rattle.dc_int.specs.declared.access.ElementId.{ElementId}
use Rattle.dc_int.specs.declared.fault.FaultKind.{FaultKind}
use Rattle.dc_int.specs.declared.fault.Why.{Why}
use Rattle.dc_int.specs.Store.{Bounds, extent}
use Rattle.dc_code.specs.Troubles.{Failure, Path, Side, Trouble, ended, masked, raced, in_statement}
use Rattle.dc_code.specs.Verdicts.{Verdict, trouble_in}
use Rattle.dc_tree.specs.declared.symbols.Role.{Role}
use Rattle.dc_tree.specs.declared.symbols.Symbol.{Symbol}

-- A run comes to its end, fails in a statement outside loops, or is stopped by the verdict on a loop. With
-- a race go the bounds that the named variable has at that loop: none of a scalar, or without a race.
pub data Ending : Type 0 where
  done : Ending
  bad : Failure → Ending
  stopped : Verdict → Bounds → Ending

-- ---- names and subscripts

-- Declared as a variable, and not as a constant, a dummy, a result or a procedure.
abbrev pub is_variable : Role → Bool
is_variable (Role.Variable logical kind bounds initial) = true
is_variable role = false

-- A variable of the main program.
abbrev pub is_outside : Symbol → Bool
is_outside symbol = nat_eq symbol.scope 0 && is_variable symbol.role

-- The names of the main program's variables in declared order, as the table of symbols has them.
abbrev pub outside_names : List Symbol → List (List ℕ)
outside_names symbols = map (λ symbol. symbol.name) (filter is_outside symbols)

-- The subscripts of the element at a position, in the array element order of ISO/IEC 1539-1:2023,
-- clause 9.5.3: the first varies fastest.
abbrev pub subscripts_at : Bounds → ℕ → List ℤ
subscripts_at [] position = []
subscripts_at ((low, high) ∷ bounds) position =
    (low +ℤ pos (position % extent (low, high))) ∷ subscripts_at bounds (position / extent (low, high))

-- ---- index lists

-- the numbers behind the first, each behind a comma, and the closing bracket
abbrev pub rest_of_index_list : List ℤ → List ℕ
rest_of_index_list [] = codes ")"
rest_of_index_list (z ∷ others) = codes "," ++ (signed_decimal z ++ rest_of_index_list others)

-- Numbers in brackets, with commas and no blanks.
abbrev pub index_list : List ℤ → List ℕ
index_list [] = codes "()"
index_list (z ∷ others) = codes "(" ++ (signed_decimal z ++ rest_of_index_list others)

-- the index lists of the levels further in, each behind a slash
abbrev pub rest_of_levels : Path → List ℕ
rest_of_levels [] = []
rest_of_levels (at ∷ path) = concat (codes "/" ∷ index_list at ∷ rest_of_levels path ∷ [])

-- The index lists of the levels, from the outermost loop on.
abbrev pub levels : Path → List ℕ
levels [] = []
levels (at ∷ path) = index_list at ++ rest_of_levels path

abbrev pub iteration : Path → List ℕ
iteration path = codes "iteration " ++ levels path

-- in front of what belongs to an iteration; nothing, where it belongs to none
abbrev pub within : Path → List ℕ
within [] = []
within (at ∷ path) = iteration (at ∷ path) ++ codes ": "

-- the subscripts in brackets; nothing for a scalar
abbrev pub subscripts : Bounds → ℕ → List ℕ
subscripts [] position = []
subscripts (dimension ∷ bounds) position = index_list (subscripts_at (dimension ∷ bounds) position)

-- An element by its variable's name, and in an array by its subscripts.
abbrev pub element : List (List ℕ) → Bounds → ElementId → List ℕ
element names bounds x = unwrap_or (slice_get names x.variable) [] ++ subscripts bounds x.position

-- ---- words

-- What an iteration does to the element.
abbrev pub action_word : Action → List ℕ
action_word Action.Reads = codes "reads"
action_word Action.Defines = codes "defines"
action_word Action.Undefines = codes "undefines"

-- A fault by the name of its kind.
abbrev pub fault_name : FaultKind → List ℕ
fault_name FaultKind.Undefined = codes "Undefined"
fault_name FaultKind.Subscript = codes "Subscript"
fault_name FaultKind.DivideByZero = codes "DivideByZero"
fault_name FaultKind.ShiftRange = codes "ShiftRange"
fault_name FaultKind.StepZero = codes "StepZero"
fault_name FaultKind.TooManyIterations = codes "TooManyIterations"
fault_name FaultKind.TooDeep = codes "TooDeep"
fault_name FaultKind.OutputFull = codes "OutputFull"
fault_name FaultKind.EndOfInput = codes "EndOfInput"
fault_name FaultKind.BadInput = codes "BadInput"
fault_name FaultKind.ErrorStop = codes "ErrorStop"

-- Why a run ended, in front of where it did.
abbrev pub cause : Why → List ℕ
cause (Why.Fault kind) = concat (codes "fault: " ∷ fault_name kind ∷ codes ": " ∷ [])
cause Why.Spent = codes "spent: "

abbrev pub line_text : ℕ → List ℕ
line_text line = codes "line " ++ decimal line

-- ---- the line

-- one side of a race, inside the iterations of a path
abbrev pub side_text : Path → Side → List ℕ
side_text path side = concat (iteration (path ++ side.at ∷ []) ∷ codes " " ∷ action_word side.action ∷ codes " at " ∷ line_text side.line ∷ [])

-- The trouble without its line feed: what went wrong, then where, from the outermost loop inward.
abbrev pub trouble_text : List (List ℕ) → Bounds → Trouble → List ℕ
trouble_text names bounds (ended why line path) = concat (cause why ∷ within path ∷ line_text line ∷ [])
trouble_text names bounds (masked why line path mask) =
    concat (cause why ∷ within path ∷ codes "mask " ∷ index_list mask ∷ codes ": " ∷ line_text line ∷ [])
trouble_text names bounds (raced x first second path) =
    concat (codes "race: " ∷ element names bounds x ∷ codes ": " ∷ side_text path first ∷ codes ", " ∷ side_text path second ∷ [])

abbrev pub told : List (List ℕ) → Bounds → Option Trouble → List ℕ
told names bounds None = []
told names bounds (Some trouble) = trouble_text names bounds trouble ++ 10 ∷ []

-- The line of the log with its line feed, by the names of the main program's variables; no bytes, where the
-- run came to its end.
abbrev pub report_line : List (List ℕ) → Ending → List ℕ
report_line names done = []
report_line names (bad failure) = told names [] (Some (in_statement failure))
report_line names (stopped verdict bounds) = told names bounds (trouble_in verdict)
