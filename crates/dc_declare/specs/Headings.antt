-- The first lines of procedures. After ISO/IEC 1539-1:2023, clauses 15.6.2.1 to 15.6.2.3.
use Rattle.std.specs.Prelude.{ℕ, Bool, true, false, not, List, [], ◌∷◌, ◌++◌, Option, Some, None}
use Rattle.dc_tree.specs.declared.fail.Refusal.{Refusal}
use Rattle.dc_tree.specs.declared.symbols.Role as roles
use Rattle.dc_tree.specs.declared.symbols.Symbol.{Symbol}
use Rattle.dc_tree.specs.Findings.{finding_if}
use Rattle.dc_tree.specs.Statements.{Name, Prefixed, typed, Statement, procedure_line}
use Rattle.dc_sorts.specs.Standing.{Standing}
use Rattle.dc_declare.specs.declared.heading.Heading.{Heading}
use Rattle.dc_declare.specs.declared.types.ElementType.{ElementType}
use Rattle.dc_declare.specs.Names.{holds, each_once, twice_findings}
use Rattle.dc_declare.specs.Tables.{declaring, is_taken, symbol_with, with_symbol, taken_findings}
use Rattle.dc_declare.specs.Types.{type_of, type_findings}

-- The result of a function has the name of RESULT, or else that of the function.
abbrev pub result_name : Bool → Name → Option Name → Option Name
result_name false name result = None
result_name true name None = Some name
result_name true name (Some given) = Some given

-- A unit without dummies and result, as the main program is one.
abbrev pub bare_heading : ℕ → Heading
bare_heading unit = record { unit = unit; dummies = []; result = None }

-- what the first line of a unit says of the names declared in it
abbrev pub heading_of : ℕ → Statement → Heading
heading_of unit (procedure_line prefixes function name brackets dummies result) =
    record { unit = unit; dummies = each_once [] dummies; result = result_name function name result }
heading_of unit other = bare_heading unit

-- The type in front of FUNCTION, if there is one.
abbrev pub type_after : Standing → Option ElementType → Prefixed → Option ElementType
type_after standing type (typed form) = Some (type_of standing form)
type_after standing type other = type

abbrev pub type_behind : Standing → Option ElementType → List Prefixed → Option ElementType
type_behind standing type [] = type
type_behind standing type (prefix ∷ rest) = type_behind standing (type_after standing type prefix) rest

abbrev pub prefix_findings : Standing → ℕ → Prefixed → List Refusal
prefix_findings standing line (typed form) = type_findings standing line form
prefix_findings standing line other = []

abbrev pub each_prefix : Standing → ℕ → List Prefixed → List Refusal
each_prefix standing line [] = []
each_prefix standing line (prefix ∷ rest) = prefix_findings standing line prefix ++ each_prefix standing line rest

abbrev pub procedure_role : Bool → ℕ → roles.Role
procedure_role true number = roles.Role.Function number
procedure_role false number = roles.Role.Subroutine number

-- The symbols with that of a procedure, which is a name of the main program.
abbrev pub with_procedure : ℕ → List Symbol → Bool → Name → List Symbol
with_procedure number symbols function name = with_symbol symbols (symbol_with 0 name (procedure_role function number))

-- The symbols with that of a function's result, where its type stands in front of FUNCTION.
abbrev pub with_result : ℕ → List Symbol → Option Name → Option ElementType → List Symbol
with_result number symbols (Some name) (Some type) = with_symbol symbols (symbol_with number name (roles.Role.Result type.logical type.kind))
with_result number symbols name type = symbols

-- The symbols behind the first line of a procedure.
abbrev pub with_heading : ℕ → List Symbol → Statement → List Symbol
with_heading number symbols (procedure_line prefixes function name brackets dummies result) =
    let named = with_procedure number symbols function name in
    with_result number named (result_name function name result) (type_behind (declaring named number) None prefixes)
with_heading number symbols other = symbols

-- K19: the result has the name of a dummy.
abbrev pub result_findings : ℕ → List Name → Option Name → List Refusal
result_findings line dummies None = []
result_findings line dummies (Some name) = finding_if (holds dummies name) 19 line

-- K19, and K20 to K23 of the kind in front of FUNCTION.
abbrev pub heading_findings : ℕ → List Symbol → ℕ → Statement → List Refusal
heading_findings number symbols line (procedure_line prefixes function name brackets dummies result) =
    let named = with_procedure number symbols function name in
    taken_findings line symbols 0 name
    ++ (twice_findings line [] dummies
    ++ (result_findings line (each_once [] dummies) (result_name function name result) ++ each_prefix (declaring named number) line prefixes))
heading_findings number symbols line other = []

-- ---- what the first line asks of the declarations behind it

-- K26: a dummy isn't declared.
abbrev pub dummy_findings : ℕ → List Symbol → ℕ → List Name → List Refusal
dummy_findings number symbols line [] = []
dummy_findings number symbols line (name ∷ rest) = finding_if (not (is_taken symbols number name)) 26 line ++ dummy_findings number symbols line rest

-- K20: a function's result has no type.
abbrev pub untyped_findings : ℕ → List Symbol → ℕ → Option Name → List Refusal
untyped_findings number symbols line None = []
untyped_findings number symbols line (Some name) = finding_if (not (is_taken symbols number name)) 20 line

abbrev pub asked_findings : ℕ → List Symbol → ℕ → Statement → List Refusal
asked_findings number symbols line (procedure_line prefixes function name brackets dummies result) =
    dummy_findings number symbols line dummies ++ untyped_findings number symbols line (result_name function name result)
asked_findings number symbols line other = []
