-- The reading of parts of statements, each from a slice that is the part. Repeats the code; the answers
-- don't speak of it.
use Rattle.std.specs.Prelude.{Bool, true, false, if◌then◌else◌, List, [], ◌∷◌, Option, None, Some}
use Rattle.dc_int.specs.declared.operation.ReduceOp.{ReduceOp}
use Rattle.dc_tree.specs.declared.token.Mark.{Mark}
use Rattle.dc_tree.specs.declared.token.Token.{Token}
use Rattle.dc_tree.specs.declared.stmt.Intent.{Intent}
use Rattle.dc_tree.specs.declared.stmt.Local.{Local}
use Rattle.dc_tree.specs.Names.{is_name}
use Rattle.dc_tree.specs.Syntax.{Tree, chars}
use Rattle.dc_tree.specs.Statements.{Name, TypeForm, Dimension, Attribute, Initial, Declared, Ranging, CaseRange, Target}
use Rattle.dc_tree.specs.Statements.{logical, integer, parameter, dimension, intent, absent, scalar, listed}
use Rattle.dc_tree.specs.Statements.{only, from, up_to, between}
use Rattle.dc_slices.specs.declared.keyword.Keyword.{Keyword}
use Rattle.dc_slices.specs.declared.cutting.Stop.{Stop}
use Rattle.dc_slices.specs.Words.{keyword, is}
use Rattle.dc_slices.specs.Cutting.{before, pieces, bracket, in_brackets, in_list}
use Rattle.dc_slices.specs.Cutting as cutting
use Rattle.dc_slices.specs.Finding.{Found, plainly, mapped, both, given, expr, name, list}

-- ---- types

abbrev pub is_keyed : List Token → Bool
is_keyed (word ∷ Token.Mark Mark.Equals ∷ tokens) = is Keyword.Kind word
is_keyed tokens = false

abbrev pub past_two : List Token → List Token
past_two (first ∷ second ∷ tokens) = tokens
past_two tokens = []

abbrev pub kind : List Token → Found (Bool × Tree)
kind tokens = if is_keyed tokens then mapped (λ e. (true, e)) (expr (past_two tokens)) else mapped (λ e. (false, e)) (expr tokens)

abbrev pub with_kind : Bool × Tree → TypeForm
with_kind kind = integer kind.0 (Some kind.1)

abbrev pub integer_with : List Token → Found TypeForm
integer_with [] = plainly (integer false None)
integer_with (token ∷ tokens) = given (in_brackets (token ∷ tokens)) (λ inside. mapped with_kind (kind inside))

abbrev pub type_named : Option Keyword → List Token → Found TypeForm
type_named (Some Keyword.Logical) [] = plainly logical
type_named (Some Keyword.Integer) tokens = integer_with tokens
type_named word tokens = None

abbrev pub type_form : List Token → Found TypeForm
type_form (Token.Word text ∷ tokens) = type_named (keyword text) tokens
type_form tokens = None

-- the type of a loop's indexes
abbrev pub index_named : Option Keyword → List Token → Found TypeForm
index_named (Some Keyword.Integer) tokens = integer_with tokens
index_named word tokens = None

abbrev pub index_type : List Token → Found TypeForm
index_type (Token.Word text ∷ tokens) = index_named (keyword text) tokens
index_type tokens = None

-- ---- declarations

abbrev pub dimension_from : Option Tree × Tree → Dimension
dimension_from ends = record { low = ends.0; high = ends.1 }

abbrev pub to_dimension : Tree → Dimension
to_dimension high = dimension_from (None, high)

abbrev pub dimension_pieces : List (List Token) → Found Dimension
dimension_pieces (high ∷ []) = mapped to_dimension (expr high)
dimension_pieces (low ∷ high ∷ []) = mapped dimension_from (both (mapped (λ e. Some e) (expr low)) (expr high))
dimension_pieces slices = None

abbrev pub one_dimension : List Token → Found Dimension
one_dimension tokens = dimension_pieces (pieces Stop.Colon tokens)

abbrev pub bounds : List Token → Found (List Dimension)
bounds tokens = given (in_brackets tokens) (list one_dimension)

abbrev pub intent_named : Option Keyword → List Token → Found Intent
intent_named (Some Keyword.Into) [] = plainly Intent.Into
intent_named (Some Keyword.Into) (word ∷ []) = if is Keyword.Out word then plainly Intent.InOutApart else None
intent_named (Some Keyword.Out) [] = plainly Intent.Out
intent_named (Some Keyword.InOut) [] = plainly Intent.InOut
intent_named word tokens = None

abbrev pub intent_of : List Token → Found Intent
intent_of (Token.Word text ∷ tokens) = intent_named (keyword text) tokens
intent_of tokens = None

abbrev pub attribute_named : Option Keyword → List Token → Found Attribute
attribute_named (Some Keyword.Parameter) [] = plainly parameter
attribute_named (Some Keyword.Dimension) tokens = mapped (λ given. dimension given) (bounds tokens)
attribute_named (Some Keyword.Intent) tokens = mapped (λ given. intent given) (given (in_brackets tokens) intent_of)
attribute_named word tokens = None

abbrev pub one_attribute : List Token → Found Attribute
one_attribute (Token.Word text ∷ tokens) = attribute_named (keyword text) tokens
one_attribute tokens = None

abbrev pub scalar_value : List Token → Found Initial
scalar_value tokens = mapped (λ e. scalar e) (expr tokens)

abbrev pub listed_value : List Token → Found Initial
listed_value tokens = mapped (λ values. listed values) (given (in_list tokens) (list expr))

-- what stands from the `=` on
abbrev pub value_of : List Token → Found Initial
value_of (Token.Mark Mark.OpenList ∷ tokens) = listed_value (Token.Mark Mark.OpenList ∷ tokens)
value_of tokens = scalar_value tokens

abbrev pub initial_of : List Token → Found Initial
initial_of [] = plainly absent
initial_of (mark ∷ tokens) = value_of tokens

-- bounds that may be absent
abbrev pub shape : List Token → Found (Option (List Dimension))
shape [] = plainly None
shape (token ∷ tokens) = mapped (λ given. Some given) (bounds (token ∷ tokens))

abbrev pub declared_from : Name → Option (List Dimension) × Initial → Declared
declared_from text parts = record { name = text; bounds = parts.0; initial = parts.1 }

abbrev pub entity_from : Name → List Token → Found Declared
entity_from text tokens = mapped (declared_from text) (both (shape (before Stop.Equals 0 tokens)) (initial_of (cutting.from Stop.Equals 0 tokens)))

abbrev pub entity : List Token → Found Declared
entity (Token.Word text ∷ tokens) = if is_name text then entity_from text tokens else None
entity tokens = None

-- an entity without a value
abbrev pub bare_from : Name → Option (List Dimension) → Declared
bare_from text given = record { name = text; bounds = given; initial = absent }

abbrev pub bare_entity : List Token → Found Declared
bare_entity (Token.Word text ∷ tokens) = if is_name text then mapped (bare_from text) (shape tokens) else None
bare_entity tokens = None

-- ---- a name with its limits

abbrev pub step_of : List (List Token) → Found (Option Tree)
step_of [] = plainly None
step_of (step ∷ []) = mapped (λ e. Some e) (expr step)
step_of slices = None

abbrev pub ranging_from : Name → Tree × (Tree × Option Tree) → Ranging
ranging_from text limits = record { name = text; first = limits.0; last = limits.1.0; step = limits.1.1 }

abbrev pub limits : List (List Token) → Found (Tree × (Tree × Option Tree))
limits (first ∷ last ∷ slices) = both (expr first) (both (expr last) (step_of slices))
limits slices = None

abbrev pub ranging_of : Stop → Name → List Token → Found Ranging
ranging_of stop text tokens = mapped (ranging_from text) (limits (pieces stop tokens))

abbrev pub ranging : Stop → List Token → Found Ranging
ranging stop (Token.Word text ∷ Token.Mark Mark.Equals ∷ tokens) = if is_name text then ranging_of stop text tokens else None
ranging stop tokens = None

-- ---- ranges of a CASE

abbrev pub two_ends : List Token → List Token → Found CaseRange
two_ends [] high = mapped (λ e. up_to e) (expr high)
two_ends (token ∷ low) [] = mapped (λ e. from e) (expr (token ∷ low))
two_ends (token ∷ low) (mark ∷ high) = mapped (λ ends. between ends.0 ends.1) (both (expr (token ∷ low)) (expr (mark ∷ high)))

abbrev pub case_pieces : List (List Token) → Found CaseRange
case_pieces (value ∷ []) = mapped (λ e. only e) (expr value)
case_pieces (low ∷ high ∷ []) = two_ends low high
case_pieces slices = None

abbrev pub one_case : List Token → Found CaseRange
one_case tokens = case_pieces (pieces Stop.Colon tokens)

-- ---- localities

abbrev pub reduction_named : Option Keyword → Option ReduceOp
reduction_named (Some Keyword.Max) = Some ReduceOp.Max
reduction_named (Some Keyword.Min) = Some ReduceOp.Min
reduction_named (Some Keyword.Iand) = Some ReduceOp.Iand
reduction_named (Some Keyword.Ior) = Some ReduceOp.Ior
reduction_named (Some Keyword.Ieor) = Some ReduceOp.Ieor
reduction_named word = None

abbrev pub reduction_marked : Mark → Option ReduceOp
reduction_marked Mark.Plus = Some ReduceOp.Add
reduction_marked Mark.Times = Some ReduceOp.Mul
reduction_marked Mark.And = Some ReduceOp.And
reduction_marked Mark.Or = Some ReduceOp.Or
reduction_marked Mark.Eqv = Some ReduceOp.Eqv
reduction_marked Mark.Neqv = Some ReduceOp.Neqv
reduction_marked mark = None

abbrev pub reduction : Token → Option ReduceOp
reduction (Token.Word text) = reduction_named (keyword text)
reduction (Token.Mark mark) = reduction_marked mark
reduction token = None

abbrev pub reduced_by : ReduceOp → List Token → Found Local
reduced_by operation tokens = mapped (λ names. Local.Reduce operation names) (list name tokens)

abbrev pub reduced : List Token → Found Local
reduced (token ∷ Token.Mark Mark.Colon ∷ tokens) =
    given (reduction token) (λ operation. reduced_by operation tokens)
reduced tokens = None

abbrev pub by_default : List Token → Found Local
by_default (word ∷ []) = if is Keyword.Nothing word then plainly Local.DefaultNone else None
by_default tokens = None

abbrev pub local_named : Option Keyword → List Token → Found Local
local_named (Some Keyword.Local) tokens = mapped (λ names. Local.Locals names) (list name tokens)
local_named (Some Keyword.LocalInit) tokens = mapped (λ names. Local.Inits names) (list name tokens)
local_named (Some Keyword.Shared) tokens = mapped (λ names. Local.Shared names) (list name tokens)
local_named (Some Keyword.Reduce) tokens = reduced tokens
local_named (Some Keyword.Default) tokens = by_default tokens
local_named word tokens = None

abbrev pub locality : List Token → Found Local
locality (Token.Word text ∷ tokens) = given (in_brackets tokens) (local_named (keyword text))
locality tokens = None

-- ---- what is assigned, read or written

abbrev pub subscripts : List Token → Found (Option (List Tree))
subscripts [] = plainly None
subscripts (token ∷ tokens) = mapped (λ given. Some given) (given (in_brackets (token ∷ tokens)) (list expr))

abbrev pub target_from : Name → Option (List Tree) → Target
target_from text given = record { name = text; subscripts = given }

abbrev pub target : List Token → Found Target
target (Token.Word text ∷ tokens) = if is_name text then mapped (target_from text) (subscripts tokens) else None
target tokens = None

abbrev pub item : List Token → Found Tree
item (Token.Chars text ∷ []) = Some (chars text, 1)
item tokens = expr tokens
