-- The reading of declarations and of the first lines of procedures, by what follows the type. Repeats
-- the code; the answers don't speak of it.
use Rattle.std.specs.Prelude.{ℕ, suc, Bool, true, false, not, ◌&&◌, ◌||◌, if◌then◌else◌, List, [], ◌∷◌, map, Option, None, Some, is_none}
use Rattle.std.specs.List.{list_any}
use Rattle.dc_tree.specs.declared.token.Token.{Token}
use Rattle.dc_tree.specs.Names.{is_name}
use Rattle.dc_tree.specs.Statements.{Name, TypeForm, Attribute, Declared, Prefixed, Statement, pure, recursive, typed, declare, procedure_line}
use Rattle.dc_tree.specs.Ranking.{is_empty}
use Rattle.dc_slices.specs.declared.keyword.Keyword.{Keyword}
use Rattle.dc_slices.specs.declared.cutting.Stop.{Stop}
use Rattle.dc_slices.specs.Words.{keyword, is}
use Rattle.dc_slices.specs.Cutting.{before, from, cuts, in_brackets, led, past_first}
use Rattle.dc_slices.specs.Finding.{Found, plainly, mapped, both, given, name, items, list, followed_list, arguments}
use Rattle.dc_parts.specs.Parts.{type_form, one_attribute, entity, bare_entity}
use Rattle.dc_stmt.specs.declared.headings.Shape.{Shape}

-- ---- declarations

abbrev pub declare_from : Bool → TypeForm × (List Attribute × List Declared) → Statement
declare_from colons parts = declare parts.0 parts.1.0 colons parts.1.1

-- a type with what stands in front of `::`, and from there on
abbrev pub declaring : List Token → List Token → List Token → Found Statement
declaring form names [] = mapped (declare_from false) (both (type_form form) (both (plainly []) (list bare_entity names)))
declaring form attributes (mark ∷ names) = mapped (declare_from true) (both (type_form form) (both (followed_list one_attribute attributes) (list entity names)))

abbrev pub declaration : List Token → List Token → Found Statement
declaration form rest = declaring form (before Stop.Colons 0 rest) (from Stop.Colons 0 rest)

-- ---- headings

-- the part behind the brackets of the dummies
abbrev pub result_behind : List Token → Found (Option Name)
result_behind tokens = mapped (λ text. Some text) (given (in_brackets tokens) name)

abbrev pub result_in : List Token → Found (Option Name)
result_in (word ∷ tokens) = if is Keyword.Result word then result_behind tokens else None
result_in [] = None

abbrev pub result_of : List (List Token) → Found (Option Name)
result_of [] = plainly None
result_of (slice ∷ []) = result_in slice
result_of slices = None

abbrev pub Heading : Type 0
Heading = Name × ((Bool × List Name) × Option Name)

-- A function has brackets, and a subroutine no result.
abbrev pub fits_parts : Bool → List Token → List (List Token) → Bool
fits_parts true tokens slices = not (is_empty tokens)
fits_parts false tokens slices = is_empty slices

abbrev pub heading_from : Name → List Token → List (List Token) → Found Heading
heading_from text tokens slices = mapped (λ parts. (text, parts)) (both (arguments name tokens) (result_of slices))

abbrev pub heading_first : Bool → List Token → List (List Token) → Found Heading
heading_first function (Token.Word text ∷ tokens) slices = if is_name text && fits_parts function tokens slices then heading_from text tokens slices else None
heading_first function slice slices = None

abbrev pub heading_of : Bool → List (List Token) → Found Heading
heading_of function [] = None
heading_of function (slice ∷ slices) = heading_first function slice slices

-- the word of a procedure, by itself
abbrev pub procedure_named : Option Keyword → List Token → Option Bool
procedure_named (Some Keyword.Function) [] = Some true
procedure_named (Some Keyword.Subroutine) [] = Some false
procedure_named word tokens = None

abbrev pub procedure_kind : List Token → Option Bool
procedure_kind (Token.Word text ∷ tokens) = procedure_named (keyword text) tokens
procedure_kind tokens = None

abbrev pub prefix_named : Option Keyword → List Token → List Token → Found Prefixed
prefix_named (Some Keyword.Pure) [] slice = plainly pure
prefix_named (Some Keyword.Recursive) [] slice = plainly recursive
prefix_named word tokens slice = mapped (λ form. typed form) (type_form slice)

abbrev pub one_prefix : List Token → Found Prefixed
one_prefix (Token.Word text ∷ tokens) = prefix_named (keyword text) tokens (Token.Word text ∷ tokens)
one_prefix tokens = None

-- what a prefix is, by its first word
abbrev pub shape_named : Option Keyword → Shape
shape_named (Some Keyword.Pure) = Shape.Pure
shape_named (Some Keyword.Recursive) = Shape.Recursive
shape_named word = Shape.Typed

abbrev pub slice_shape : List Token → Shape
slice_shape (Token.Word text ∷ tokens) = shape_named (keyword text)
slice_shape tokens = Shape.Typed

abbrev pub same_shape : Shape → Shape → Bool
same_shape Shape.Pure Shape.Pure = true
same_shape Shape.Recursive Shape.Recursive = true
same_shape Shape.Typed Shape.Typed = true
same_shape one other = false

abbrev pub once_only : List Shape → Bool
once_only [] = true
once_only (first ∷ rest) = not (list_any (same_shape first) rest) && once_only rest

-- Each stands once at most, and a type in front of FUNCTION alone.
abbrev pub fits_shapes : Bool → List Shape → Bool
fits_shapes function shapes = once_only shapes && (function || not (list_any (same_shape Shape.Typed) shapes))

-- the slices in front of the word of the procedure, and from it on
abbrev pub in_front : List (List Token) → List (List Token)
in_front [] = []
in_front (slice ∷ slices) = if is_none (procedure_kind slice) then slice ∷ in_front slices else []

abbrev pub from_word : List (List Token) → List (List Token)
from_word [] = []
from_word (slice ∷ slices) = if is_none (procedure_kind slice) then from_word slices else slice ∷ slices

-- how many slices stand in front of it
abbrev pub count_in_front : List (List Token) → ℕ
count_in_front [] = 0
count_in_front (slice ∷ slices) = if is_none (procedure_kind slice) then suc (count_in_front slices) else 0

abbrev pub procedure_from : Bool → List Prefixed × Heading → Statement
procedure_from function parts = procedure_line parts.0 function parts.1.0 parts.1.1.0.0 parts.1.1.0.1 parts.1.1.1

abbrev pub procedure_by : List (List Token) → List (List Token) → Bool → Found Statement
procedure_by prefixes slices function =
    if fits_shapes function (map slice_shape prefixes) then mapped (procedure_from function) (both (items one_prefix prefixes) (heading_of function slices)) else None

abbrev pub procedure_parts : List (List Token) → List (List Token) → Found Statement
procedure_parts prefixes [] = None
procedure_parts prefixes (slice ∷ slices) = given (procedure_kind slice) (procedure_by prefixes slices)

abbrev pub heading_slices : List (List Token) → Found Statement
heading_slices slices = procedure_parts (in_front slices) (from_word slices)

abbrev pub heading : List Token → Found Statement
heading tokens = heading_slices (cuts Stop.Word 0 tokens)

-- ---- either, behind a type

abbrev pub two_words : List Token → Bool
two_words (Token.Word one ∷ Token.Word other ∷ tokens) = true
two_words tokens = false

abbrev pub typed_line : List Token → List Token → List Token → Found Statement
typed_line form rest tokens = if two_words rest then heading tokens else declaration form rest

abbrev pub typed_whole : List Token → Found Statement
typed_whole tokens = typed_line (led Stop.Part tokens) (from Stop.Part 0 (past_first tokens)) tokens

-- the first word, and what follows it
abbrev pub typed_from : Token → List Token → Found Statement
typed_from word tokens = typed_whole (word ∷ tokens)
