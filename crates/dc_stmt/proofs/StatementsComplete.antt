-- Each ranked statement is found in its spelling. So tokens spell one statement at most.
use Rattle.std.proofs.Common.{◌≡◌, ℕ, Bool, true, false, List, [], ◌∷◌, ◌++◌, map, Option, Some, None, refl, sym, ap, ◌∙◌, append_assoc, append-nil}
use Rattle.std.specs.Prelude.{max, codes, flat_map, IfSome, IsTrue}
use Rattle.std.proofs.Math.Nat.{max-zero}
use Rattle.std.proofs.lemmas.Bool.{false≢true, true≢false}
use Rattle.dc_tree.specs.declared.token.Mark.{Mark}
use Rattle.dc_tree.specs.declared.token.Token.{Token}
use Rattle.dc_tree.specs.declared.stmt.Local.{Local}
use Rattle.dc_tree.specs.declared.stmt.UseForm.{UseForm}
use Rattle.dc_tree.specs.declared.stmt.Unit as units
use Rattle.dc_tree.specs.Syntax.{Tree}
use Rattle.dc_tree.specs.Grammar.{Ranked, spell, depth}
use Rattle.dc_tree.specs.Statements.{Name, TypeForm, Ranging, CaseRange, Prefixed, Deed, Statement, logical, integer, pure, recursive, typed}
use Rattle.dc_tree.specs.Statements.{assign, fill, call, cycle, exit, return, continue, stop, error_stop, print, read}
use Rattle.dc_tree.specs.Statements.{program_line, use_line, implicit_none, declare, contains_line, procedure_line, end_line}
use Rattle.dc_tree.specs.Statements.{if_then, else_if, else_line, end_if, if_action, select_case, case, case_default, end_select}
use Rattle.dc_tree.specs.Statements.{do_line, do_while, concurrent, end_do, act}
use Rattle.dc_tree.specs.Spelling.{word, comma, colon, colons, equals, bracketed, separated, followed, optional, named, labelled, spell_type, spell_ranging, spell_case, spell_local, spell_header, spell_prefix, procedure_word, spell_deed, spell_statement}
use Rattle.dc_tree.specs.Ranking.{Each, OneOrMore, IsName, RankedType, RankedRanging, RankedCase, RankedIndexType, RankedLocal, RankedDeed, RankedEnd, RankedStatement, RankedPrefix, each_once}
use Rattle.dc_slices.specs.declared.keyword.Keyword.{Keyword}
use Rattle.dc_slices.specs.declared.cutting.Class.{Class}
use Rattle.dc_slices.specs.declared.cutting.Stop.{Stop}
use Rattle.dc_slices.specs.Words.{letters, keyword, is_reserved}
use Rattle.dc_slices.specs.Cutting.{before, from, cuts, pieces, bracket, in_brackets}
use Rattle.dc_slices.specs.Finding.{mapped, given, expr, items}
use Rattle.dc_parts.specs.Parts.{locality, one_case}
use Rattle.dc_parts.specs.Deeds.{action}
use Rattle.dc_stmt.specs.Headings.{heading}
use Rattle.dc_stmt.specs.Reading.{used, cased, is_index, mask_of, indexes, ranges, ranges_of, header, header_from, Header, localities, looped, looped_named, named_line, statement_named, statement_reading}
use Rattle.dc_stmt.specs.Reading as readings
use Rattle.dc_stmt.specs.Depth.{depth_within, type_depth, ranging_depth, case_depth, header_depth, statement_depth}
use Rattle.dc_stmt.proofs.Clear.{Passes, append-passes, nothing-passes, token-passes, bracket-passes, tree-passes, before-stop, from-stop, before-end, from-end, one-piece, next-piece, bracket-is, in_brackets-is}
use Rattle.dc_stmt.proofs.WordLaws.{keyword-is}
use Rattle.dc_stmt.proofs.Found.{IsComplete, IsPassed, expr-is, nothing-deep, items-are, list-is, separated-passes, each-of, expr-no-equals}
use Rattle.dc_stmt.proofs.PartsComplete.{index-type-is, inner-calm, type-passes, ranging-is, index-passes, case-is, case-passes, names-are, names-pass, reduced-passes, local-is, comma-tree, word-passes}
use Rattle.dc_stmt.proofs.DeedsComplete.{IsFree, free-name, action-is, label-read}
use Rattle.dc_stmt.proofs.HeadingsComplete.{type_word, type_rest, behind_type, declare-is, group-cut, procedure-is, typed-heading}

not-free : (word : Keyword) → is_reserved word ≡ true → IsFree (Some word) → ⊥
not-free word reserved free = true≢false (sym reserved ∙ free word refl)

-- ---- statements that begin with a name

name-line : (found : Option Keyword) (text : Name) (mark : Mark) (tokens : List Token) → IsFree found → statement_named found text (Token.Mark mark ∷ tokens) ≡ named_line text (Token.Mark mark ∷ tokens)
name-line (Some Keyword.Program) text mark tokens free = absurd (not-free Keyword.Program refl free)
name-line (Some Keyword.Use) text mark tokens free = absurd (not-free Keyword.Use refl free)
name-line (Some Keyword.Implicit) text mark tokens free = absurd (not-free Keyword.Implicit refl free)
name-line (Some Keyword.Integer) text mark tokens free = absurd (not-free Keyword.Integer refl free)
name-line (Some Keyword.Logical) text mark tokens free = absurd (not-free Keyword.Logical refl free)
name-line (Some Keyword.Contains) text mark tokens free = absurd (not-free Keyword.Contains refl free)
name-line (Some Keyword.Function) text mark tokens free = absurd (not-free Keyword.Function refl free)
name-line (Some Keyword.Subroutine) text mark tokens free = absurd (not-free Keyword.Subroutine refl free)
name-line (Some Keyword.Pure) text mark tokens free = absurd (not-free Keyword.Pure refl free)
name-line (Some Keyword.Recursive) text mark tokens free = refl
name-line (Some Keyword.End) text mark tokens free = absurd (not-free Keyword.End refl free)
name-line (Some Keyword.If) text mark tokens free = absurd (not-free Keyword.If refl free)
name-line (Some Keyword.Else) text mark tokens free = absurd (not-free Keyword.Else refl free)
name-line (Some Keyword.Select) text mark tokens free = absurd (not-free Keyword.Select refl free)
name-line (Some Keyword.Case) text mark tokens free = absurd (not-free Keyword.Case refl free)
name-line (Some Keyword.Do) text mark tokens free = absurd (not-free Keyword.Do refl free)
name-line found text mark tokens free = refl

-- a statement by its first word
by-word : (word : Keyword) (tokens : List Token) → statement_reading (Token.Word (letters word) ∷ tokens) ≡ statement_named (Some word) (letters word) tokens
by-word word tokens = ap (λ (found : Option Keyword). statement_named found (letters word) tokens) (keyword-is word)

act-line : (deed : Deed) → RankedDeed deed → statement_reading (spell_deed deed) ≡ mapped (λ deed. act deed) (action (spell_deed deed))
act-line (assign target value) ranked = start target.subscripts
  where
    start : (given : Option (List Tree)) → statement_named (keyword target.name) target.name (optional (λ given. bracketed (Rattle.dc_tree.specs.Spelling.trees given)) given ++ equals ∷ spell value)
        ≡ mapped (λ deed. act deed) (action (Token.Word target.name ∷ (optional (λ given. bracketed (Rattle.dc_tree.specs.Spelling.trees given)) given ++ equals ∷ spell value)))
    start None = name-line (keyword target.name) target.name Mark.Equals (spell value) (free-name target.name ranked.0.0)
    start (Some given) = name-line (keyword target.name) target.name Mark.Open _ (free-name target.name ranked.0.0)
act-line (fill array values) ranked = name-line (keyword array) array Mark.Equals _ (free-name array ranked.0)
act-line (call callee brackets values) ranked = by-word Keyword.Call _
act-line (cycle None) ranked = by-word Keyword.Cycle _
act-line (cycle (Some label)) ranked = by-word Keyword.Cycle _
act-line (exit None) ranked = by-word Keyword.Exit _
act-line (exit (Some label)) ranked = by-word Keyword.Exit _
act-line return ranked = by-word Keyword.Return _
act-line continue ranked = by-word Keyword.Continue _
act-line stop ranked = by-word Keyword.Stop _
act-line error_stop ranked = by-word Keyword.Error _
act-line (print false items) ranked = by-word Keyword.Print _
act-line (print true items) ranked = by-word Keyword.Write _
act-line (read false targets) ranked = by-word Keyword.Read _
act-line (read true targets) ranked = by-word Keyword.Read _

-- ---- a statement in brackets

abbrev closing : List Token
closing = Token.Mark Mark.Close ∷ []

tree-inside : (e : Tree) → Ranked e → in_brackets (Token.Mark Mark.Open ∷ (spell e ++ closing)) ≡ Some (spell e)
tree-inside e ranked = in_brackets-is (spell e) (tree-passes e Stop.Closing 0 ranked refl)

tree-bracket : (e : Tree) (after : List Token) → Ranked e → bracket (Token.Mark Mark.Open ∷ ((spell e ++ closing) ++ after)) ≡ Some (spell e, after)
tree-bracket e after ranked = ap (λ (tokens : List Token). bracket (Token.Mark Mark.Open ∷ tokens)) (append_assoc (spell e) closing after) ∙ bracket-is (spell e) after (tree-passes e Stop.Closing 0 ranked refl)

-- ---- headers of DO CONCURRENT

unindexed : (tokens : List Token) (e : Tree) (n : ℕ) → expr tokens ≡ Some (e, n) → is_index tokens ≡ false
unindexed (Token.Word text ∷ Token.Mark Mark.Equals ∷ tokens) e n found = let none : expr (Token.Word text ∷ Token.Mark Mark.Equals ∷ tokens) ≡ None = expr-no-equals text tokens in absurd (cc)
unindexed tokens e n found = refl

abbrev mask_tokens : Option Tree → List Token
mask_tokens mask = optional (λ test. comma ∷ spell test) mask

abbrev mask_slices : Option Tree → List (List Token)
mask_slices None = []
mask_slices (Some test) = spell test ∷ []

comma-index : IsPassed Stop.Comma RankedRanging (spell_ranging colon)
comma-index range ranked = index-passes Stop.Comma 0 range ranked refl refl refl

index-pieces : (first : Ranging) (rest : List Ranging) (mask : Option Tree) → RankedRanging first → Each RankedRanging rest → IfSome mask Ranked
    → pieces Stop.Comma (spell_ranging colon first ++ (followed (spell_ranging colon) rest ++ mask_tokens mask)) ≡ spell_ranging colon first ∷ (map (spell_ranging colon) rest ++ mask_slices mask)
index-pieces first [] None ranked more mask_ranked =
    ap (pieces Stop.Comma) (append-nil (spell_ranging colon first)) ∙ one-piece Stop.Comma (spell_ranging colon first) (comma-index first ranked)
index-pieces first [] (Some test) ranked more mask_ranked =
    next-piece Stop.Comma (spell_ranging colon first) comma (spell test) (comma-index first ranked) refl
    ∙ ap (λ (slices : List (List Token)). spell_ranging colon first ∷ slices) (one-piece Stop.Comma (spell test) (comma-tree test mask_ranked))
index-pieces first (second ∷ rest) mask ranked more mask_ranked =
    ap (λ (tokens : List Token). pieces Stop.Comma (spell_ranging colon first ++ comma ∷ tokens)) (append_assoc (spell_ranging colon second) (followed (spell_ranging colon) rest) (mask_tokens mask))
    ∙ next-piece Stop.Comma (spell_ranging colon first) comma (spell_ranging colon second ++ (followed (spell_ranging colon) rest ++ mask_tokens mask)) (comma-index first ranked) refl
    ∙ ap (λ (slices : List (List Token)). spell_ranging colon first ∷ slices) (index-pieces second rest mask more.0 more.1 mask_ranked)

indexes-are : (given : List Ranging) (mask : Option Tree) → Each RankedRanging given → IfSome mask Ranked
    → indexes (map (spell_ranging colon) given ++ mask_slices mask) ≡ Some ((given, mask), header_depth given mask)
indexes-are [] None ranked mask_ranked = refl
indexes-are [] (Some test) ranked mask_ranked = rw (unindexed (spell test) test (depth test) (expr-is test mask_ranked)) (rw (expr-is test mask_ranked) refl)
indexes-are (first ∷ rest) mask ranked mask_ranked =
    rw (ranging-is Stop.Colon Mark.Colon refl refl first ranked.0) (rw (indexes-are rest mask ranked.1 mask_ranked) refl)

abbrev range_tokens : List Ranging → Option Tree → List Token
range_tokens given mask = separated (spell_ranging colon) given ++ mask_tokens mask

ranges-are : (given : List Ranging) (mask : Option Tree) → OneOrMore RankedRanging given → IfSome mask Ranked → ranges (range_tokens given mask) ≡ Some ((given, mask), header_depth given mask)
ranges-are [] mask ranked mask_ranked = absurd ranked
ranges-are (first ∷ rest) mask ranked mask_ranked =
    ap ranges_of
    (ap (pieces Stop.Comma) (append_assoc (spell_ranging colon first) (followed (spell_ranging colon) rest) (mask_tokens mask)) ∙ index-pieces first rest mask ranked.0 ranked.1 mask_ranked)
    ∙ rw (ranging-is Stop.Colon Mark.Colon refl refl first ranked.0) (rw (indexes-are rest mask ranked.1 mask_ranked) refl)

-- a cut that stops at brackets alone, or at `::`
abbrev IsOpen : Stop → ℕ → Type 0
IsOpen cut depth =
    (Rattle.dc_slices.specs.Cutting.halts cut depth Class.Comma ≡ false) × (Rattle.dc_slices.specs.Cutting.halts cut depth Class.Colon ≡ false)
    × (Rattle.dc_slices.specs.Cutting.halts cut depth Class.Equals ≡ false) × (Rattle.dc_slices.specs.Cutting.halts cut depth Class.Word ≡ false)

mask-passes : (cut : Stop) (depth : ℕ) (mask : Option Tree) → IsOpen cut depth → IfSome mask Ranked → Passes cut depth (mask_tokens mask)
mask-passes cut depth None on ranked = nothing-passes cut depth
mask-passes cut depth (Some test) on ranked = append-passes cut depth (comma ∷ []) (spell test) (token-passes cut depth comma on.0 refl) (tree-passes test cut depth ranked on.3)

ranges-pass : (cut : Stop) (depth : ℕ) (given : List Ranging) (mask : Option Tree) → IsOpen cut depth → OneOrMore RankedRanging given → IfSome mask Ranked → Passes cut depth (range_tokens given mask)
ranges-pass cut depth given mask on ranked mask_ranked =
    append-passes cut depth (separated (spell_ranging colon) given) (mask_tokens mask)
    (separated-passes RankedRanging (spell_ranging colon) cut depth on.0 (λ one fits. index-passes cut depth one fits on.1 on.2 on.3) given (each-of RankedRanging given ranked))
    (mask-passes cut depth mask on mask_ranked)

index-type : (form : TypeForm) → RankedIndexType form → RankedType form
index-type logical ranked = absurd ranked
index-type (integer keyed kind) ranked = ranked

header-is : (form : Option TypeForm) (given : List Ranging) (mask : Option Tree) → IfSome form RankedIndexType → OneOrMore RankedRanging given → IfSome mask Ranked
    → header (spell_header form given mask) ≡ Some ((form, (given, mask)), max (depth_within type_depth form) (header_depth given mask))
header-is None given mask form_ranked ranked mask_ranked =
    let pass = ranges-pass Stop.Colons 0 given mask (refl, refl, refl, refl) ranked mask_ranked in
    rw (before-end Stop.Colons (range_tokens given mask) pass) (rw (from-end Stop.Colons (range_tokens given mask) pass) (rw (ranges-are given mask ranked mask_ranked) refl))
header-is (Some form) given mask form_ranked ranked mask_ranked =
    let pass = type-passes Stop.Colons 0 form (index-type form form_ranked) refl in
    ap header (append_assoc (spell_type form) (colons ∷ []) (range_tokens given mask))
    ∙ rw (before-stop Stop.Colons (spell_type form) colons (range_tokens given mask) pass refl)
    (rw (from-stop Stop.Colons (spell_type form) colons (range_tokens given mask) pass refl)
    (rw (index-type-is form form_ranked) (rw (ranges-are given mask ranked mask_ranked) refl)))

header-passes : (form : Option TypeForm) (given : List Ranging) (mask : Option Tree) → IfSome form RankedIndexType → OneOrMore RankedRanging given → IfSome mask Ranked → Passes Stop.Closing 0 (spell_header form given mask)
header-passes None given mask form_ranked ranked mask_ranked = ranges-pass Stop.Closing 0 given mask (refl, refl, refl, refl) ranked mask_ranked
header-passes (Some form) given mask form_ranked ranked mask_ranked =
    append-passes Stop.Closing 0 (spell_type form ++ colons ∷ []) (range_tokens given mask)
    (append-passes Stop.Closing 0 (spell_type form) (colons ∷ []) (type-passes Stop.Closing 0 form (index-type form form_ranked) refl) (token-passes Stop.Closing 0 colons refl refl))
    (ranges-pass Stop.Closing 0 given mask (refl, refl, refl, refl) ranked mask_ranked)

-- ---- localities

local-group : (local : Local) (rest : List Token) → before Stop.Word 0 rest ≡ [] → cuts Stop.Word 0 (spell_local local ++ rest) ≡ spell_local local ∷ cuts Stop.Word 0 rest
local-group (Local.Locals names) rest first = group-cut (codes "local") (bracketed (separated named names)) rest (bracket-passes Stop.Word 0 _ (names-pass Stop.Word 1 names (inner-calm Stop.Word 0))) first
local-group (Local.Inits names) rest first = group-cut (codes "local_init") (bracketed (separated named names)) rest (bracket-passes Stop.Word 0 _ (names-pass Stop.Word 1 names (inner-calm Stop.Word 0))) first
local-group (Local.Shared names) rest first = group-cut (codes "shared") (bracketed (separated named names)) rest (bracket-passes Stop.Word 0 _ (names-pass Stop.Word 1 names (inner-calm Stop.Word 0))) first
local-group (Local.Reduce operation names) rest first =
    group-cut (codes "reduce") (bracketed (Rattle.dc_tree.specs.Spelling.reduce_token operation ∷ colon ∷ separated named names)) rest (bracket-passes Stop.Word 0 _ (reduced-passes Stop.Word 1 operation names (inner-calm Stop.Word 0))) first
local-group Local.DefaultNone rest first = group-cut (codes "default") (bracketed (word "none" ∷ [])) rest (bracket-passes Stop.Word 0 _ (word-passes Stop.Word 1 (codes "none") refl)) first

local-first : (locality : List Local) → before Stop.Word 0 (flat_map spell_local locality) ≡ []
local-first [] = refl
local-first (Local.Locals names ∷ rest) = refl
local-first (Local.Inits names ∷ rest) = refl
local-first (Local.Shared names ∷ rest) = refl
local-first (Local.Reduce operation names ∷ rest) = refl
local-first (Local.DefaultNone ∷ rest) = refl

local-cuts : (locality : List Local) → cuts Stop.Word 0 (flat_map spell_local locality) ≡ map spell_local locality
local-cuts [] = refl
local-cuts (first ∷ rest) = local-group first (flat_map spell_local rest) (local-first rest) ∙ ap (λ (slices : List (List Token)). spell_local first ∷ slices) (local-cuts rest)

localities-are : (given : List Local) → Each RankedLocal given → localities (flat_map spell_local given) ≡ Some (given, 0)
localities-are given ranked =
    rw (local-first given) (rw (local-cuts given) (items-are RankedLocal spell_local (λ (local : Local). 0) locality local-is given ranked ∙ ap (λ (n : ℕ). Some (given, n)) (nothing-deep given)))

-- ---- DO

counted-is : (label : Option Name) (range : Ranging) → RankedRanging range → looped label (spell_ranging comma range) ≡ Some (do_line label (Some range), ranging_depth range)
counted-is label range ranked = rw (ranging-is Stop.Comma Mark.Comma refl refl range ranked) refl

do-is : (label : Option Name) (counted : Option Ranging) → IfSome counted RankedRanging → looped label (optional (spell_ranging comma) counted) ≡ Some (do_line label counted, depth_within ranging_depth counted)
do-is label None ranked = refl
do-is label (Some range) ranked = counted-is label range ranked

while-is : (label : Option Name) (test : Tree) → Ranked test → looped label (word "while" ∷ bracketed (spell test)) ≡ Some (do_while label test, depth test)
while-is label test ranked = rw (keyword-is Keyword.While) (rw (tree-inside test ranked) (rw (expr-is test ranked) refl))

concurrent-is : (label : Option Name) (form : Option TypeForm) (given : List Ranging) (mask : Option Tree) (locality : List Local)
    → IfSome form RankedIndexType → OneOrMore RankedRanging given → IfSome mask Ranked → Each RankedLocal locality
    → looped label (word "concurrent" ∷ (bracketed (spell_header form given mask) ++ flat_map spell_local locality))
    ≡ Some (concurrent label form given mask locality, max (depth_within type_depth form) (header_depth given mask))
concurrent-is label form given mask locality form_ranked ranked mask_ranked local_ranked =
    let whole : bracket (bracketed (spell_header form given mask) ++ flat_map spell_local locality) ≡ Some (spell_header form given mask, flat_map spell_local locality)
    = ap (λ (tokens : List Token). bracket (Token.Mark Mark.Open ∷ tokens)) (append_assoc (spell_header form given mask) closing (flat_map spell_local locality))
    ∙ bracket-is (spell_header form given mask) (flat_map spell_local locality) (header-passes form given mask form_ranked ranked mask_ranked) in
    rw (keyword-is Keyword.Concurrent)
    (rw whole (rw (header-is form given mask form_ranked ranked mask_ranked) (rw (localities-are locality local_ranked)
    (ap (λ (n : ℕ). Some (concurrent label form given mask locality, n)) (max-zero (max (depth_within type_depth form) (header_depth given mask)))))))

-- DO with its label
labelled-do : (label : Option Name) (tokens : List Token) → IfSome label IsName → statement_reading (optional labelled label ++ word "do" ∷ tokens) ≡ looped label tokens
labelled-do None tokens fits = rw (keyword-is Keyword.Do) refl
labelled-do (Some text) tokens fits = name-line (keyword text) text Mark.Colon (word "do" ∷ tokens) (free-name text fits) ∙ rw fits refl

-- ---- heads and ends of program units

used-is : (form : UseForm) (text : Name) (names : List Name) → IsName text → OneOrMore IsName names
    → used (Rattle.dc_tree.specs.Spelling.spell_form form ++ (Token.Word text ∷ comma ∷ word "only" ∷ colon ∷ separated named names)) ≡ Some (use_line form text names, 0)
used-is UseForm.Plain text names fits ranked = rw fits (rw (names-are names ranked) refl)
used-is UseForm.Colons text names fits ranked = rw fits (rw (names-are names ranked) refl)
used-is UseForm.Intrinsic text names fits ranked = rw fits (rw (names-are names ranked) refl)

end-is : (unit : Option units.Unit) (text : Option Name) → RankedEnd unit text → statement_reading (spell_statement (end_line unit text)) ≡ Some (end_line unit text, 0)
end-is None None fits = rw (keyword-is Keyword.End) refl
end-is None (Some text) fits = absurd (false≢true fits)
end-is (Some units.Unit.Program) text fits = rw (keyword-is Keyword.End) (rw (keyword-is Keyword.Program) (rw (label-read text fits) refl))
end-is (Some units.Unit.Function) text fits = rw (keyword-is Keyword.End) (rw (keyword-is Keyword.Function) (rw (label-read text fits) refl))
end-is (Some units.Unit.Subroutine) text fits = rw (keyword-is Keyword.End) (rw (keyword-is Keyword.Subroutine) (rw (label-read text fits) refl))

type-line : (form : TypeForm) (rest : List Token) → statement_reading (spell_type form ++ rest) ≡ Rattle.dc_stmt.specs.Headings.typed_from (Token.Word (type_word form)) (type_rest form ++ rest)
type-line logical rest = by-word Keyword.Logical _
type-line (integer keyed None) rest = by-word Keyword.Integer _
type-line (integer keyed (Some e)) rest = by-word Keyword.Integer _

recursive-line : (prefixes : List Prefixed) (function : Bool) (tokens : List Token)
    → statement_reading (word "recursive" ∷ (flat_map spell_prefix prefixes ++ procedure_word function ∷ tokens)) ≡ heading (word "recursive" ∷ (flat_map spell_prefix prefixes ++ procedure_word function ∷ tokens))
recursive-line [] true tokens = by-word Keyword.Recursive _
recursive-line [] false tokens = by-word Keyword.Recursive _
recursive-line (pure ∷ rest) function tokens = by-word Keyword.Recursive _
recursive-line (recursive ∷ rest) function tokens = by-word Keyword.Recursive _
recursive-line (typed logical ∷ rest) function tokens = by-word Keyword.Recursive _
recursive-line (typed (integer keyed None) ∷ rest) function tokens = by-word Keyword.Recursive _
recursive-line (typed (integer keyed (Some e)) ∷ rest) function tokens = by-word Keyword.Recursive _

heading-line : (prefixes : List Prefixed) (function : Bool) (text : Name) (tokens : List Token) → Each RankedPrefix prefixes → IsTrue (each_once prefixes)
    → statement_reading (flat_map spell_prefix prefixes ++ procedure_word function ∷ Token.Word text ∷ tokens) ≡ heading (flat_map spell_prefix prefixes ++ procedure_word function ∷ Token.Word text ∷ tokens)
heading-line [] true text tokens ranked once = by-word Keyword.Function _
heading-line [] false text tokens ranked once = by-word Keyword.Subroutine _
heading-line (pure ∷ rest) function text tokens ranked once = by-word Keyword.Pure _
heading-line (recursive ∷ rest) function text tokens ranked once = recursive-line rest function (Token.Word text ∷ tokens)
heading-line (typed form ∷ rest) function text tokens ranked once =
    ap statement_reading (append_assoc (spell_type form) (flat_map spell_prefix rest) (procedure_word function ∷ Token.Word text ∷ tokens))
    ∙ type-line form (flat_map spell_prefix rest ++ procedure_word function ∷ Token.Word text ∷ tokens)
    ∙ typed-heading form rest function text tokens ranked.0 once
    ∙ ap heading (sym (append_assoc (spell_type form) (flat_map spell_prefix rest) (procedure_word function ∷ Token.Word text ∷ tokens)))

-- ---- statements

comma-case : IsPassed Stop.Comma RankedCase spell_case
comma-case range ranked = case-passes Stop.Comma 0 range ranked refl refl

cases-inside : (ranges : List CaseRange) → OneOrMore RankedCase ranges → in_brackets (bracketed (separated spell_case ranges)) ≡ Some (separated spell_case ranges)
cases-inside given ranked =
    in_brackets-is (separated spell_case given)
    (separated-passes RankedCase spell_case Stop.Closing 0 refl (λ one fits. case-passes Stop.Closing 0 one fits refl refl) given (each-of RankedCase given ranked))

action-then : (deed : Deed) → RankedDeed deed → readings.is_then (spell_deed deed) ≡ false
action-then (assign target value) ranked = start target.subscripts
  where
    start : (given : Option (List Tree)) → readings.is_then (Token.Word target.name ∷ (optional (λ given. bracketed (Rattle.dc_tree.specs.Spelling.trees given)) given ++ equals ∷ spell value)) ≡ false
    start None = refl
    start (Some given) = refl
action-then (cycle None) ranked = refl
action-then (cycle (Some label)) ranked = refl
action-then (exit None) ranked = refl
action-then (exit (Some label)) ranked = refl
action-then (print false items) ranked = refl
action-then (print true items) ranked = refl
action-then (read false items) ranked = refl
action-then (read true items) ranked = refl
action-then deed ranked = refl

-- Each ranked statement is found in its spelling, with the depth of its expressions.
pub statement-is : IsComplete RankedStatement spell_statement statement_depth statement_reading
statement-is (program_line text) ranked = rw (keyword-is Keyword.Program) (rw ranked refl)
statement-is (use_line form text names) ranked = rw (keyword-is Keyword.Use) (used-is form text names ranked.0 ranked.1)
statement-is implicit_none ranked = rw (keyword-is Keyword.Implicit) refl
statement-is (declare form attributes with_colons entities) ranked =
    type-line form (behind_type attributes with_colons entities) ∙ declare-is form attributes with_colons entities ranked.0 ranked.1 ranked.2 ranked.3
statement-is contains_line ranked = rw (keyword-is Keyword.Contains) refl
statement-is (procedure_line prefixes function text brackets dummies result) ranked =
    heading-line prefixes function text _ ranked.0 ranked.1 ∙ procedure-is prefixes function text brackets dummies result ranked.0 ranked.1 ranked.2 ranked.3 ranked.4 ranked.5
statement-is (end_line unit text) ranked = end-is unit text ranked
statement-is (if_then test) ranked = rw (keyword-is Keyword.If) (rw (tree-bracket test (word "then" ∷ []) ranked) (rw (expr-is test ranked) refl))
statement-is (else_if test) ranked = rw (keyword-is Keyword.Else) (rw (tree-bracket test (word "then" ∷ []) ranked) (rw (expr-is test ranked) refl))
statement-is else_line ranked = rw (keyword-is Keyword.Else) refl
statement-is end_if ranked = rw (keyword-is Keyword.End) (rw (keyword-is Keyword.If) refl)
statement-is (if_action test deed) ranked =
    rw (keyword-is Keyword.If) (rw (tree-bracket test (spell_deed deed) ranked.0) (rw (action-then deed ranked.1) (rw (expr-is test ranked.0) (rw (action-is deed ranked.1) refl))))
statement-is (select_case selector) ranked = rw (keyword-is Keyword.Select) (rw (tree-inside selector ranked) (rw (expr-is selector ranked) refl))
statement-is (case ranges) ranked =
    rw (keyword-is Keyword.Case) (rw (cases-inside ranges ranked) (rw (list-is RankedCase spell_case case_depth one_case case-is comma-case ranges ranked) refl))
statement-is case_default ranked = rw (keyword-is Keyword.Case) refl
statement-is end_select ranked = rw (keyword-is Keyword.End) (rw (keyword-is Keyword.Select) refl)
statement-is (do_line label counted) ranked = labelled-do label (optional (spell_ranging comma) counted) ranked.0 ∙ do-is label counted ranked.1
statement-is (do_while label test) ranked = labelled-do label (word "while" ∷ bracketed (spell test)) ranked.0 ∙ while-is label test ranked.1
statement-is (concurrent label form given mask locality) ranked =
    labelled-do label (word "concurrent" ∷ (bracketed (spell_header form given mask) ++ flat_map spell_local locality)) ranked.0
    ∙ concurrent-is label form given mask locality ranked.1 ranked.2 ranked.3 ranked.4
statement-is (end_do label) ranked = rw (keyword-is Keyword.End) (rw (keyword-is Keyword.Do) (rw (label-read label ranked) refl))
statement-is (act deed) ranked = act-line deed ranked ∙ rw (action-is deed ranked) refl

-- Two ranked statements of one spelling are one.
pub spelled-once : (one other : Statement) → RankedStatement one → RankedStatement other → spell_statement one ≡ spell_statement other → one ≡ other
spelled-once one other ranked other_ranked same =
    let found : Some (one, statement_depth one) ≡ Some (other, statement_depth other) = sym (statement-is one ranked) ∙ ap statement_reading same ∙ statement-is other other_ranked in
    let pair : (one, statement_depth one) ≡ (other, statement_depth other) = cc in
    ap (λ (p : Statement × ℕ). p.0) pair
