-- The tokens of each statement. After ISO/IEC 1539-1:2023, clauses 8, 10.2, 11, 12.6, 14 and 15; a word
-- such as `enddo` is the two words `end do`, of clause 6.3.2.2.
use Prim.Native.String.{String}
use Rattle.std.specs.Prelude.{Bool, true, false, List, [], ◌∷◌, ◌++◌, flat_map, codes, Option, None, Some}
use Rattle.dc_int.specs.declared.operation.ReduceOp.{ReduceOp}
use Rattle.dc_tree.specs.declared.token.Mark.{Mark}
use Rattle.dc_tree.specs.declared.token.Token.{Token}
use Rattle.dc_tree.specs.declared.stmt.Intent.{Intent}
use Rattle.dc_tree.specs.declared.stmt.Local.{Local}
use Rattle.dc_tree.specs.declared.stmt.UseForm.{UseForm}
use Rattle.dc_tree.specs.declared.stmt.Unit as units
use Rattle.dc_tree.specs.Syntax.{Tree}
use Rattle.dc_tree.specs.Grammar.{key, spell}
use Rattle.dc_tree.specs.Statements.{Name, TypeForm, Dimension, Attribute, Initial, Declared, Ranging, CaseRange, Prefixed, Target, Deed, Statement}
use Rattle.dc_tree.specs.Statements.{logical, integer, parameter, dimension, intent, absent, scalar, listed, pure, recursive, typed}
use Rattle.dc_tree.specs.Statements.{only, from, up_to, between}
use Rattle.dc_tree.specs.Statements.{assign, fill, call, cycle, exit, return, continue, stop, error_stop, print, read}
use Rattle.dc_tree.specs.Statements.{program_line, use_line, implicit_none, declare, contains_line, procedure_line, end_line}
use Rattle.dc_tree.specs.Statements.{if_then, else_if, else_line, end_if, if_action, select_case, case, case_default, end_select}
use Rattle.dc_tree.specs.Statements.{do_line, do_while, concurrent, end_do, act}

-- ---- tokens, and parts of many statements

abbrev pub word : String → Token
word text = Token.Word (codes text)

abbrev pub comma : Token
comma = Token.Mark Mark.Comma

abbrev pub colon : Token
colon = Token.Mark Mark.Colon

abbrev pub colons : Token
colons = Token.Mark Mark.Colons

abbrev pub equals : Token
equals = Token.Mark Mark.Equals

-- `*`, which stands for the usual unit and format
abbrev pub star : Token
star = Token.Mark Mark.Times

-- between round brackets, and between square ones
abbrev pub bracketed : List Token → List Token
bracketed inside = Token.Mark Mark.Open ∷ (inside ++ Token.Mark Mark.Close ∷ [])

abbrev pub enclosed : List Token → List Token
enclosed inside = Token.Mark Mark.OpenList ∷ (inside ++ Token.Mark Mark.CloseList ∷ [])

-- items behind another one, each with its comma
abbrev pub followed : {A : Type 0} → (A → List Token) → List A → List Token
followed spelling [] = []
followed spelling (first ∷ rest) = comma ∷ (spelling first ++ followed spelling rest)

-- items with commas between them
abbrev pub separated : {A : Type 0} → (A → List Token) → List A → List Token
separated spelling [] = []
separated spelling (first ∷ rest) = spelling first ++ followed spelling rest

-- a part that may be absent
abbrev pub optional : {A : Type 0} → (A → List Token) → Option A → List Token
optional spelling None = []
optional spelling (Some part) = spelling part

-- brackets that may be absent, which hold any number of items
abbrev pub arguments : {A : Type 0} → (A → List Token) → Bool → List A → List Token
arguments spelling false items = []
arguments spelling true items = bracketed (separated spelling items)

abbrev pub named : Name → List Token
named text = Token.Word text ∷ []

-- the name of a construct in front of it
abbrev pub labelled : Name → List Token
labelled text = Token.Word text ∷ colon ∷ []

-- expressions with commas between them
abbrev pub trees : List Tree → List Token
trees values = separated spell values

-- ---- declarations

abbrev pub spell_type : TypeForm → List Token
spell_type logical = word "logical" ∷ []
spell_type (integer keyed None) = word "integer" ∷ []
spell_type (integer keyed (Some kind)) = word "integer" ∷ bracketed (key keyed ++ spell kind)

abbrev pub spell_dimension : Dimension → List Token
spell_dimension bounds = optional (λ low. spell low ++ colon ∷ []) bounds.low ++ spell bounds.high

abbrev pub dimensions : List Dimension → List Token
dimensions bounds = bracketed (separated spell_dimension bounds)

abbrev pub spell_intent : Intent → List Token
spell_intent Intent.Into = word "in" ∷ []
spell_intent Intent.Out = word "out" ∷ []
spell_intent Intent.InOut = word "inout" ∷ []
spell_intent Intent.InOutApart = word "in" ∷ word "out" ∷ []

abbrev pub spell_attribute : Attribute → List Token
spell_attribute parameter = word "parameter" ∷ []
spell_attribute (dimension bounds) = word "dimension" ∷ dimensions bounds
spell_attribute (intent given) = word "intent" ∷ bracketed (spell_intent given)

abbrev pub spell_initial : Initial → List Token
spell_initial absent = []
spell_initial (scalar value) = equals ∷ spell value
spell_initial (listed values) = equals ∷ enclosed (trees values)

abbrev pub spell_declared : Declared → List Token
spell_declared entity = Token.Word entity.name ∷ (optional dimensions entity.bounds ++ spell_initial entity.initial)

-- whether `::` stands between a type and its entities
abbrev pub spell_colons : Bool → List Token
spell_colons false = []
spell_colons true = colons ∷ []

-- ---- heads and ends of program units

-- what stands between USE and the name
abbrev pub spell_form : UseForm → List Token
spell_form UseForm.Plain = []
spell_form UseForm.Colons = colons ∷ []
spell_form UseForm.Intrinsic = comma ∷ word "intrinsic" ∷ colons ∷ []

abbrev pub spell_prefix : Prefixed → List Token
spell_prefix pure = word "pure" ∷ []
spell_prefix recursive = word "recursive" ∷ []
spell_prefix (typed form) = spell_type form

-- the word of a procedure, by whether it is a function
abbrev pub procedure_word : Bool → Token
procedure_word true = word "function"
procedure_word false = word "subroutine"

abbrev pub spell_result : Name → List Token
spell_result text = word "result" ∷ bracketed (named text)

abbrev pub spell_unit : units.Unit → List Token
spell_unit units.Unit.Program = word "program" ∷ []
spell_unit units.Unit.Function = procedure_word true ∷ []
spell_unit units.Unit.Subroutine = procedure_word false ∷ []

-- ---- constructs

-- a name with its limits, with this mark between them
abbrev pub spell_ranging : Token → Ranging → List Token
spell_ranging mark range =
    Token.Word range.name ∷ equals ∷ (spell range.first ++ (mark ∷ (spell range.last ++ optional (λ step. mark ∷ spell step) range.step)))

abbrev pub spell_case : CaseRange → List Token
spell_case (only value) = spell value
spell_case (from low) = spell low ++ colon ∷ []
spell_case (up_to high) = colon ∷ spell high
spell_case (between low high) = spell low ++ (colon ∷ spell high)

-- the operation of a REDUCE: an operator, or the name of a function
abbrev pub reduce_token : ReduceOp → Token
reduce_token ReduceOp.Add = Token.Mark Mark.Plus
reduce_token ReduceOp.Mul = Token.Mark Mark.Times
reduce_token ReduceOp.And = Token.Mark Mark.And
reduce_token ReduceOp.Or = Token.Mark Mark.Or
reduce_token ReduceOp.Eqv = Token.Mark Mark.Eqv
reduce_token ReduceOp.Neqv = Token.Mark Mark.Neqv
reduce_token ReduceOp.Max = word "max"
reduce_token ReduceOp.Min = word "min"
reduce_token ReduceOp.Iand = word "iand"
reduce_token ReduceOp.Ior = word "ior"
reduce_token ReduceOp.Ieor = word "ieor"

abbrev pub spell_local : Local → List Token
spell_local (Local.Locals names) = word "local" ∷ bracketed (separated named names)
spell_local (Local.Inits names) = word "local_init" ∷ bracketed (separated named names)
spell_local (Local.Shared names) = word "shared" ∷ bracketed (separated named names)
spell_local (Local.Reduce operation names) = word "reduce" ∷ bracketed (reduce_token operation ∷ colon ∷ separated named names)
spell_local Local.DefaultNone = word "default" ∷ bracketed (word "none" ∷ [])

-- what stands in the brackets of a DO CONCURRENT: a type, its indexes, and a mask
abbrev pub spell_header : Option TypeForm → List Ranging → Option Tree → List Token
spell_header form indexes mask =
    optional (λ given. spell_type given ++ colons ∷ []) form
    ++ (separated (spell_ranging colon) indexes ++ optional (λ test. comma ∷ spell test) mask)

-- ---- statements

-- what is assigned or read
abbrev pub spell_target : Target → List Token
spell_target target = Token.Word target.name ∷ optional (λ subscripts. bracketed (trees subscripts)) target.subscripts

-- the unit and the format of a READ or WRITE
abbrev pub stars : List Token
stars = bracketed (star ∷ comma ∷ star ∷ [])

-- the tokens of an action
abbrev pub spell_deed : Deed → List Token
spell_deed (assign target value) = spell_target target ++ (equals ∷ spell value)
spell_deed (fill array values) = Token.Word array ∷ equals ∷ enclosed (trees values)
spell_deed (call callee brackets values) = word "call" ∷ Token.Word callee ∷ arguments spell brackets values
spell_deed (cycle label) = word "cycle" ∷ optional named label
spell_deed (exit label) = word "exit" ∷ optional named label
spell_deed return = word "return" ∷ []
spell_deed continue = word "continue" ∷ []
spell_deed stop = word "stop" ∷ []
spell_deed error_stop = word "error" ∷ word "stop" ∷ []
spell_deed (print false items) = word "print" ∷ star ∷ followed spell items
spell_deed (print true items) = word "write" ∷ (stars ++ trees items)
spell_deed (read false targets) = word "read" ∷ star ∷ followed spell_target targets
spell_deed (read true targets) = word "read" ∷ (stars ++ separated spell_target targets)

-- The tokens of a statement.
abbrev pub spell_statement : Statement → List Token
spell_statement (program_line text) = word "program" ∷ named text
spell_statement (use_line form text names) =
    word "use" ∷ (spell_form form ++ (Token.Word text ∷ comma ∷ word "only" ∷ colon ∷ separated named names))
spell_statement implicit_none = word "implicit" ∷ word "none" ∷ []
spell_statement (declare form attributes with_colons entities) =
    spell_type form ++ (followed spell_attribute attributes ++ (spell_colons with_colons ++ separated spell_declared entities))
spell_statement contains_line = word "contains" ∷ []
spell_statement (procedure_line prefixes function text brackets dummies result) =
    flat_map spell_prefix prefixes
    ++ (procedure_word function ∷ Token.Word text ∷ (arguments named brackets dummies ++ optional spell_result result))
spell_statement (end_line unit text) = word "end" ∷ (optional spell_unit unit ++ optional named text)
spell_statement (if_then test) = word "if" ∷ (bracketed (spell test) ++ word "then" ∷ [])
spell_statement (else_if test) = word "else" ∷ word "if" ∷ (bracketed (spell test) ++ word "then" ∷ [])
spell_statement else_line = word "else" ∷ []
spell_statement end_if = word "end" ∷ word "if" ∷ []
spell_statement (if_action test action) = word "if" ∷ (bracketed (spell test) ++ spell_deed action)
spell_statement (select_case selector) = word "select" ∷ word "case" ∷ bracketed (spell selector)
spell_statement (case ranges) = word "case" ∷ bracketed (separated spell_case ranges)
spell_statement case_default = word "case" ∷ word "default" ∷ []
spell_statement end_select = word "end" ∷ word "select" ∷ []
spell_statement (do_line label counted) = optional labelled label ++ (word "do" ∷ optional (spell_ranging comma) counted)
spell_statement (do_while label test) = optional labelled label ++ (word "do" ∷ word "while" ∷ bracketed (spell test))
spell_statement (concurrent label form indexes mask locality) =
    optional labelled label ++ (word "do" ∷ word "concurrent" ∷ (bracketed (spell_header form indexes mask) ++ flat_map spell_local locality))
spell_statement (end_do label) = word "end" ∷ word "do" ∷ optional named label
spell_statement (act action) = spell_deed action
