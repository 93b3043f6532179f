-- The reading of a statement, by its first words. Repeats the code; the answers don't speak of it.
use Rattle.std.specs.Prelude.{ℕ, suc, Bool, true, false, if◌then◌else◌, List, [], ◌∷◌, Option, None, Some}
use Rattle.dc_tree.specs.declared.token.Mark.{Mark}
use Rattle.dc_tree.specs.declared.token.Token.{Token}
use Rattle.dc_tree.specs.declared.stmt.UseForm.{UseForm}
use Rattle.dc_tree.specs.declared.stmt.Local.{Local}
use Rattle.dc_tree.specs.declared.stmt.Unit as units
use Rattle.dc_tree.specs.Names.{is_name}
use Rattle.dc_tree.specs.Syntax.{Tree}
use Rattle.dc_tree.specs.Statements.{Name, TypeForm, Ranging, Statement}
use Rattle.dc_tree.specs.Statements.{program_line, use_line, implicit_none, contains_line, end_line}
use Rattle.dc_tree.specs.Statements.{if_then, else_if, else_line, end_if, if_action, select_case, case, case_default, end_select}
use Rattle.dc_tree.specs.Statements.{do_line, do_while, concurrent, end_do, act}
use Rattle.dc_tree.specs.Ranking.{is_empty}
use Rattle.dc_slices.specs.declared.keyword.Keyword.{Keyword}
use Rattle.dc_slices.specs.declared.cutting.Stop.{Stop}
use Rattle.dc_slices.specs.Words.{keyword, is}
use Rattle.dc_slices.specs.Cutting.{before, from, cuts, pieces, bracket, in_brackets}
use Rattle.dc_slices.specs.Finding.{Found, plainly, mapped, both, given, expr, name, label, items, list}
use Rattle.dc_parts.specs.Parts.{index_type, one_case, step_of, ranging, locality}
use Rattle.dc_parts.specs.Deeds.{action}
use Rattle.dc_stmt.specs.Headings.{heading, typed_whole}

-- ---- one word, and USE

abbrev pub sole : Statement → List Token → Found Statement
sole line [] = plainly line
sole line tokens = None

abbrev pub implicit : List Token → Found Statement
implicit (word ∷ []) = if is Keyword.Nothing word then plainly implicit_none else None
implicit tokens = None

-- behind the name and its comma
abbrev pub used_only : UseForm → Name → List Token → Found Statement
used_only form text (word ∷ Token.Mark Mark.Colon ∷ tokens) = if is Keyword.Only word then mapped (λ names. use_line form text names) (list name tokens) else None
used_only form text tokens = None

abbrev pub used_from : UseForm → Name → List Token → Found Statement
used_from form text (Token.Mark Mark.Comma ∷ tokens) = used_only form text tokens
used_from form text tokens = None

abbrev pub used_names : UseForm → List Token → Found Statement
used_names form (Token.Word text ∷ tokens) = if is_name text then used_from form text tokens else None
used_names form tokens = None

-- behind the first comma
abbrev pub used_intrinsic : List Token → Found Statement
used_intrinsic (word ∷ Token.Mark Mark.Colons ∷ tokens) = if is Keyword.Intrinsic word then used_names UseForm.Intrinsic tokens else None
used_intrinsic tokens = None

abbrev pub used : List Token → Found Statement
used (Token.Mark Mark.Colons ∷ tokens) = used_names UseForm.Colons tokens
used (Token.Mark Mark.Comma ∷ tokens) = used_intrinsic tokens
used tokens = used_names UseForm.Plain tokens

-- ---- ends

abbrev pub ended_named : Option Keyword → List Token → Found Statement
ended_named (Some Keyword.If) tokens = sole end_if tokens
ended_named (Some Keyword.Select) tokens = sole end_select tokens
ended_named (Some Keyword.Do) tokens = mapped (λ text. end_do text) (label tokens)
ended_named (Some Keyword.Program) tokens = mapped (λ text. end_line (Some units.Unit.Program) text) (label tokens)
ended_named (Some Keyword.Function) tokens = mapped (λ text. end_line (Some units.Unit.Function) text) (label tokens)
ended_named (Some Keyword.Subroutine) tokens = mapped (λ text. end_line (Some units.Unit.Subroutine) text) (label tokens)
ended_named word tokens = None

abbrev pub ended_by : List Token → Found Statement
ended_by (Token.Word text ∷ tokens) = ended_named (keyword text) tokens
ended_by tokens = None

abbrev pub ended : List Token → Found Statement
ended [] = plainly (end_line None None)
ended (token ∷ tokens) = ended_by (token ∷ tokens)

-- ---- IF and SELECT

abbrev pub is_then : List Token → Bool
is_then (word ∷ []) = is Keyword.Then word
is_then tokens = false

abbrev pub tested_by : List Token × List Token → Found Statement
tested_by parts =
    if is_then parts.1 then mapped (λ e. if_then e) (expr parts.0) else mapped (λ both. if_action both.0 both.1) (both (expr parts.0) (action parts.1))

abbrev pub branched : List Token → Found Statement
branched tokens = given (bracket tokens) tested_by

abbrev pub else_tested : List Token × List Token → Found Statement
else_tested parts = if is_then parts.1 then mapped (λ e. else_if e) (expr parts.0) else None

abbrev pub else_branched : List Token → Found Statement
else_branched tokens = given (bracket tokens) else_tested

abbrev pub otherwise : List Token → Found Statement
otherwise [] = plainly else_line
otherwise (word ∷ tokens) = if is Keyword.If word then else_branched tokens else None

abbrev pub select_inside : List Token → Found Statement
select_inside tokens = mapped (λ e. select_case e) (given (in_brackets tokens) expr)

abbrev pub selected : List Token → Found Statement
selected (word ∷ tokens) = if is Keyword.Case word then select_inside tokens else None
selected [] = None

abbrev pub case_word : List Token → Found Statement
case_word (word ∷ []) = if is Keyword.Default word then plainly case_default else None
case_word tokens = None

abbrev pub case_inside : List Token → Found Statement
case_inside tokens = mapped (λ ranges. case ranges) (given (in_brackets tokens) (list one_case))

abbrev pub cased : List Token → Found Statement
cased (Token.Mark Mark.Open ∷ tokens) = case_inside (Token.Mark Mark.Open ∷ tokens)
cased tokens = case_word tokens

-- ---- DO

abbrev pub is_index : List Token → Bool
is_index (Token.Word text ∷ Token.Mark Mark.Equals ∷ tokens) = true
is_index tokens = false

-- how many slices in front are indexes
abbrev pub count_indexes : List (List Token) → ℕ
count_indexes [] = 0
count_indexes (slice ∷ slices) = if is_index slice then suc (count_indexes slices) else 0

-- the last piece of a header is its mask, unless it is an index
abbrev pub mask_of : List (List Token) → Found (Option Tree)
mask_of slices = step_of slices

abbrev pub more_index : Ranging × (List Ranging × Option Tree) → List Ranging × Option Tree
more_index parts = (parts.0 ∷ parts.1.0, parts.1.1)

abbrev pub indexes : List (List Token) → Found (List Ranging × Option Tree)
indexes [] = plainly ([], None)
indexes (piece ∷ rest) =
    if is_index piece then mapped more_index (both (ranging Stop.Colon piece) (indexes rest)) else mapped (λ mask. ([], mask)) (mask_of (piece ∷ rest))

-- the first of them is an index
abbrev pub ranges_of : List (List Token) → Found (List Ranging × Option Tree)
ranges_of [] = None
ranges_of (piece ∷ rest) = if is_index piece then mapped more_index (both (ranging Stop.Colon piece) (indexes rest)) else None

abbrev pub ranges : List Token → Found (List Ranging × Option Tree)
ranges tokens = ranges_of (pieces Stop.Comma tokens)

abbrev pub Header : Type 0
Header = Option TypeForm × (List Ranging × Option Tree)

-- what stands in front of `::`, and from there on
abbrev pub header_from : List Token → List Token → Found Header
header_from tokens [] = both (plainly None) (ranges tokens)
header_from form (mark ∷ tokens) = both (mapped (λ given. Some given) (index_type form)) (ranges tokens)

abbrev pub header : List Token → Found Header
header tokens = header_from (before Stop.Colons 0 tokens) (from Stop.Colons 0 tokens)

-- localities, each beginning with its word
abbrev pub localities : List Token → Found (List Local)
localities tokens = if is_empty (before Stop.Word 0 tokens) then items locality (cuts Stop.Word 0 tokens) else None

abbrev pub concurrent_from : Option Name → Header × List Local → Statement
concurrent_from text parts = concurrent text parts.0.0 parts.0.1.0 parts.0.1.1 parts.1

abbrev pub concurrent_parts : Option Name → List Token × List Token → Found Statement
concurrent_parts text parts = mapped (concurrent_from text) (both (header parts.0) (localities parts.1))

abbrev pub looped_named : Option Keyword → Option Name → List Token → Found Statement
looped_named (Some Keyword.While) text tokens = mapped (λ e. do_while text e) (given (in_brackets tokens) expr)
looped_named (Some Keyword.Concurrent) text tokens = given (bracket tokens) (concurrent_parts text)
looped_named word text tokens = None

-- what stands behind DO: a word and `=`, or a word and a bracket
abbrev pub looped_word : Option Name → List Token → List Token → Found Statement
looped_word text slice (Token.Word second ∷ Token.Mark Mark.Equals ∷ tokens) = mapped (λ counted. do_line text (Some counted)) (ranging Stop.Comma slice)
looped_word text slice (Token.Word second ∷ tokens) = looped_named (keyword second) text tokens
looped_word text slice tokens = None

abbrev pub looped : Option Name → List Token → Found Statement
looped text [] = plainly (do_line text None)
looped text (token ∷ tokens) = looped_word text (token ∷ tokens) (token ∷ tokens)

-- ---- statements that begin with a name

abbrev pub labelled_do : Name → Token → List Token → Found Statement
labelled_do text word tokens = if is Keyword.Do word then looped (Some text) tokens else None

abbrev pub labelled : Name → List Token → Found Statement
labelled text (word ∷ tokens) = if is_name text then labelled_do text word tokens else None
labelled text [] = None

-- what follows the name, and all tokens
abbrev pub named_by : Name → List Token → List Token → Found Statement
named_by text (Token.Mark Mark.Colon ∷ tokens) whole = labelled text tokens
named_by text tokens whole = mapped (λ deed. act deed) (action whole)

abbrev pub named_line : Name → List Token → Found Statement
named_line text tokens = named_by text tokens (Token.Word text ∷ tokens)

abbrev pub recursive_by : Name → List Token → List Token → Found Statement
recursive_by text (Token.Word second ∷ tokens) whole = heading whole
recursive_by text tokens whole = named_by text tokens whole

abbrev pub recursive_line : Name → List Token → Found Statement
recursive_line text tokens = recursive_by text tokens (Token.Word text ∷ tokens)

-- ---- statements

abbrev pub statement_by : Option Keyword → Name → List Token → List Token → Found Statement
statement_by (Some Keyword.Program) text tokens whole = mapped (λ name. program_line name) (name tokens)
statement_by (Some Keyword.Use) text tokens whole = used tokens
statement_by (Some Keyword.Implicit) text tokens whole = implicit tokens
statement_by (Some Keyword.Integer) text tokens whole = typed_whole whole
statement_by (Some Keyword.Logical) text tokens whole = typed_whole whole
statement_by (Some Keyword.Contains) text tokens whole = sole contains_line tokens
statement_by (Some Keyword.Function) text tokens whole = heading whole
statement_by (Some Keyword.Subroutine) text tokens whole = heading whole
statement_by (Some Keyword.Pure) text tokens whole = heading whole
statement_by (Some Keyword.Recursive) text tokens whole = recursive_by text tokens whole
statement_by (Some Keyword.End) text tokens whole = ended tokens
statement_by (Some Keyword.If) text tokens whole = branched tokens
statement_by (Some Keyword.Else) text tokens whole = otherwise tokens
statement_by (Some Keyword.Select) text tokens whole = selected tokens
statement_by (Some Keyword.Case) text tokens whole = cased tokens
statement_by (Some Keyword.Do) text tokens whole = looped None tokens
statement_by word text tokens whole = named_by text tokens whole

abbrev pub statement_named : Option Keyword → Name → List Token → Found Statement
statement_named word text tokens = statement_by word text tokens (Token.Word text ∷ tokens)

-- The statement that these tokens spell, with the depth of its expressions, if there is one.
abbrev pub statement_reading : List Token → Found Statement
statement_reading (Token.Word text ∷ tokens) = statement_named (keyword text) text tokens
statement_reading tokens = None
