-- The reading of actions, by their first word. Repeats the code; the answers don't speak of it.
use Rattle.std.specs.Prelude.{true, false, if◌then◌else◌, List, [], ◌∷◌, Option, None, Some}
use Rattle.dc_tree.specs.declared.token.Mark.{Mark}
use Rattle.dc_tree.specs.declared.token.Token.{Token}
use Rattle.dc_tree.specs.Names.{is_name}
use Rattle.dc_tree.specs.Statements.{Name, Deed, assign, fill, call, cycle, exit, return, continue, stop, error_stop, print, read}
use Rattle.dc_slices.specs.declared.keyword.Keyword.{Keyword}
use Rattle.dc_slices.specs.declared.cutting.Stop.{Stop}
use Rattle.dc_slices.specs.Words.{keyword, is}
use Rattle.dc_slices.specs.Cutting.{before, from, in_list}
use Rattle.dc_slices.specs.Finding.{Found, plainly, mapped, both, given, expr, label, list, any_list, followed_list, arguments}
use Rattle.dc_parts.specs.Parts.{target, item}

-- an action that is one word
abbrev pub bare : Deed → List Token → Found Deed
bare deed [] = plainly deed
bare deed tokens = None

abbrev pub called : List Token → Found Deed
called (Token.Word text ∷ tokens) = if is_name text then mapped (λ args. call text args.0 args.1) (arguments expr tokens) else None
called tokens = None

abbrev pub errs : List Token → Found Deed
errs (word ∷ []) = if is Keyword.Stop word then plainly error_stop else None
errs tokens = None

abbrev pub printed : List Token → Found Deed
printed (Token.Mark Mark.Times ∷ tokens) = mapped (λ values. print false values) (followed_list item tokens)
printed tokens = None

-- what stands behind `(*, *)`
abbrev pub past_closing : List Token → Option (List Token)
past_closing (Token.Mark Mark.Close ∷ tokens) = Some tokens
past_closing tokens = None

abbrev pub past_comma : List Token → Option (List Token)
past_comma (Token.Mark Mark.Comma ∷ Token.Mark Mark.Times ∷ tokens) = past_closing tokens
past_comma tokens = None

abbrev pub past_stars : List Token → Option (List Token)
past_stars (Token.Mark Mark.Open ∷ Token.Mark Mark.Times ∷ tokens) = past_comma tokens
past_stars tokens = None

abbrev pub written : List Token → Found Deed
written tokens = mapped (λ values. print true values) (given (past_stars tokens) (any_list item))

abbrev pub taken_behind : List Token → Found Deed
taken_behind tokens = mapped (λ places. read true places) (given (past_stars tokens) (any_list target))

abbrev pub taken : List Token → Found Deed
taken (Token.Mark Mark.Times ∷ tokens) = mapped (λ places. read false places) (followed_list target tokens)
taken tokens = taken_behind tokens

-- ---- assignments

abbrev pub filled : Name → List Token → Found Deed
filled text tokens = mapped (λ values. fill text values) (given (in_list tokens) (list expr))

abbrev pub assign_parts : List Token → List Token → Found Deed
assign_parts left right = mapped (λ parts. assign parts.0 parts.1) (both (target left) (expr right))

abbrev pub assigned_from : List Token → List Token → Found Deed
assigned_from left (mark ∷ right) = assign_parts left right
assigned_from left [] = None

abbrev pub assigned : List Token → Found Deed
assigned tokens = assigned_from (before Stop.Equals 0 tokens) (from Stop.Equals 0 tokens)

abbrev pub fill_named : Name → List Token → Found Deed
fill_named text tokens = if is_name text then filled text tokens else None

-- an assignment, of a list or of one value; `whole` are all its tokens
abbrev pub defined_by : Name → List Token → List Token → Found Deed
defined_by text (Token.Mark Mark.Equals ∷ Token.Mark Mark.OpenList ∷ tokens) whole = fill_named text (Token.Mark Mark.OpenList ∷ tokens)
defined_by text tokens whole = assigned whole

abbrev pub defined : Name → List Token → Found Deed
defined text tokens = defined_by text tokens (Token.Word text ∷ tokens)

-- ---- actions

abbrev pub deed_by : Option Keyword → Name → List Token → List Token → Found Deed
deed_by (Some Keyword.Call) text tokens whole = called tokens
deed_by (Some Keyword.Cycle) text tokens whole = mapped (λ name. cycle name) (label tokens)
deed_by (Some Keyword.Exit) text tokens whole = mapped (λ name. exit name) (label tokens)
deed_by (Some Keyword.Return) text tokens whole = bare return tokens
deed_by (Some Keyword.Continue) text tokens whole = bare continue tokens
deed_by (Some Keyword.Stop) text tokens whole = bare stop tokens
deed_by (Some Keyword.Error) text tokens whole = errs tokens
deed_by (Some Keyword.Print) text tokens whole = printed tokens
deed_by (Some Keyword.Write) text tokens whole = written tokens
deed_by (Some Keyword.Read) text tokens whole = taken tokens
deed_by word text tokens whole = defined_by text tokens whole

abbrev pub deed_named : Option Keyword → Name → List Token → Found Deed
deed_named word text tokens = deed_by word text tokens (Token.Word text ∷ tokens)

abbrev pub action : List Token → Found Deed
action (Token.Word text ∷ tokens) = deed_named (keyword text) text tokens
action tokens = None
