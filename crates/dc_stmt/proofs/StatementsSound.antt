-- What is found as a statement is ranked, and spells the tokens.
use Rattle.std.proofs.Common.{◌≡◌, true, List, [], ◌∷◌, ◌++◌, map, Option, Some, None, refl, sym, ap, subst, ◌∙◌, append_assoc, append-nil}
use Rattle.std.specs.Prelude.{max, codes, flat_map, IfSome, IsTrue, if◌then◌else◌}
use Rattle.std.proofs.lemmas.Bool.{false≢true}
use Rattle.dc_tree.specs.declared.token.Mark.{Mark}
use Rattle.dc_tree.specs.declared.token.Token.{Token}
use Rattle.dc_tree.specs.declared.stmt.Local.{Local}
use Rattle.dc_tree.specs.declared.stmt.UseForm.{UseForm}
use Rattle.dc_tree.specs.declared.stmt.Unit as units
use Rattle.dc_tree.specs.Names.{is_name}
use Rattle.dc_tree.specs.Syntax.{Tree}
use Rattle.dc_tree.specs.Grammar.{Ranked, spell}
use Rattle.dc_tree.specs.Statements.{Name, TypeForm, Ranging, CaseRange, Deed, Statement}
use Rattle.dc_tree.specs.Statements.{program_line, use_line, implicit_none, end_line}
use Rattle.dc_tree.specs.Statements.{if_then, else_if, if_action, select_case, case, case_default}
use Rattle.dc_tree.specs.Statements.{do_line, do_while, end_do, act}
use Rattle.dc_tree.specs.Spelling.{word, comma, colon, colons, equals, bracketed, separated, followed, optional, named, spell_type, spell_form, spell_ranging, spell_case, spell_local, spell_header, spell_deed, spell_statement}
use Rattle.dc_tree.specs.Spelling as spellings
use Rattle.dc_tree.specs.Ranking.{is_empty, Each, OneOrMore, IsName, RankedRanging, RankedCase, RankedIndexType, RankedLocal, RankedDeed, RankedStatement}
use Rattle.dc_slices.specs.declared.keyword.Keyword.{Keyword}
use Rattle.dc_slices.specs.declared.cutting.Stop.{Stop}
use Rattle.dc_slices.specs.Words.{keyword, is, letters}
use Rattle.dc_slices.specs.Cutting.{before, from, cuts, bracket, in_brackets}
use Rattle.dc_slices.specs.Finding.{plainly, mapped, both, given, expr, name, label, items, list}
use Rattle.dc_parts.specs.Parts.{index_type, one_case, ranging, locality}
use Rattle.dc_parts.specs.Deeds.{action}
use Rattle.dc_stmt.specs.Reading.{implicit, used_only, used_from, used_names, used_intrinsic, used, ended_named, ended, is_then, tested_by, branched, else_tested, otherwise, selected, case_word, cased, is_index, mask_of, more_index, indexes, ranges_of, ranges, Header, header_from, header, localities, concurrent_from, concurrent_parts, looped_named, looped, labelled, named_line, recursive_line, statement_named, statement_reading}
use Rattle.dc_stmt.proofs.CutLaws.{marked, joined, flat, cuts-flat, before-from, split-at, split-none, colons-stops, colon-stops, comma-stops, bracket-found}
use Rattle.dc_stmt.proofs.WordLaws.{word-found}
use Rattle.dc_stmt.proofs.Found.{Holds, Spelled, IsSound, mapped-holds, both-hold, given-holds, if-holds, either-holds, holds-more, empty-is, expr-found, name-found, items-found, list-found}
use Rattle.dc_stmt.proofs.PartsSound.{by-keyword, in-brackets, by-pieces, index-type-found, ranging-found, case-found, names-found, local-found}
use Rattle.dc_stmt.proofs.DeedsSound.{action-found, LabelSpelled, label-spelled}
use Rattle.dc_stmt.proofs.HeadingsSound.{LineIn, heading-line, typed-found}

-- ---- one word, and USE

program-found : (tokens : List Token) → Holds (LineIn (word "program" ∷ tokens)) (mapped (λ name. program_line name) (name tokens))
program-found tokens =
    mapped-holds (Spelled IsName named tokens) (LineIn (word "program" ∷ tokens)) (λ (text : Name). program_line text) (name tokens) (name-found tokens) (λ text holds. (holds.0, ap (λ (more : List Token). word "program" ∷ more) holds.1))

implicit-found : (tokens : List Token) → Holds (LineIn (word "implicit" ∷ tokens)) (implicit tokens)
implicit-found (first ∷ []) =
    if-holds (LineIn (word "implicit" ∷ first ∷ [])) (is Keyword.Nothing first) (plainly implicit_none) (λ same. (tt, ap (λ (t : Token). word "implicit" ∷ t ∷ []) (sym (word-found Keyword.Nothing first same))))
implicit-found tokens = tt

used-only : (form : UseForm) (text : Name) → IsName text → (tokens : List Token) → Holds (LineIn (word "use" ∷ (spell_form form ++ Token.Word text ∷ comma ∷ tokens))) (used_only form text tokens)
used-only form text fits (first ∷ Token.Mark Mark.Colon ∷ tokens) =
    let Q = LineIn (word "use" ∷ (spell_form form ++ Token.Word text ∷ comma ∷ first ∷ colon ∷ tokens)) in
    if-holds Q (is Keyword.Only first) (mapped (λ names. use_line form text names) (list name tokens))
    (λ same.
    mapped-holds (Spelled (OneOrMore IsName) (separated named) tokens) Q (λ (names : List Name). use_line form text names) (list name tokens) (names-found tokens)
    (λ names holds. (
      (fits, holds.0),
      ap (λ (t : Token). word "use" ∷ (spell_form form ++ Token.Word text ∷ comma ∷ t ∷ colon ∷ separated named names)) (sym (word-found Keyword.Only first same))
          ∙ ap (λ (more : List Token). word "use" ∷ (spell_form form ++ Token.Word text ∷ comma ∷ first ∷ colon ∷ more)) holds.1,
    )))
used-only form text fits tokens = tt

used-from : (form : UseForm) (text : Name) → IsName text → (tokens : List Token) → Holds (LineIn (word "use" ∷ (spell_form form ++ Token.Word text ∷ tokens))) (used_from form text tokens)
used-from form text fits (Token.Mark Mark.Comma ∷ tokens) = used-only form text fits tokens
used-from form text fits tokens = tt

used-names : (form : UseForm) (tokens : List Token) → Holds (LineIn (word "use" ∷ (spell_form form ++ tokens))) (used_names form tokens)
used-names form (Token.Word text ∷ tokens) =
    if-holds (LineIn (word "use" ∷ (spell_form form ++ Token.Word text ∷ tokens))) (is_name text) (used_from form text tokens) (λ fits. used-from form text fits tokens)
used-names form tokens = tt

used-intrinsic : (tokens : List Token) → Holds (LineIn (word "use" ∷ comma ∷ tokens)) (used_intrinsic tokens)
used-intrinsic (first ∷ Token.Mark Mark.Colons ∷ tokens) =
    if-holds (LineIn (word "use" ∷ comma ∷ first ∷ colons ∷ tokens)) (is Keyword.Intrinsic first) (used_names UseForm.Intrinsic tokens)
    (λ same.
    subst (λ (t : Token). Holds (LineIn (word "use" ∷ comma ∷ t ∷ colons ∷ tokens)) (used_names UseForm.Intrinsic tokens)) (sym (word-found Keyword.Intrinsic first same)) (used-names UseForm.Intrinsic tokens))
used-intrinsic tokens = tt

used-found : (tokens : List Token) → Holds (LineIn (word "use" ∷ tokens)) (used tokens)
used-found (Token.Mark Mark.Colons ∷ tokens) = used-names UseForm.Colons tokens
used-found (Token.Mark Mark.Comma ∷ tokens) = used-intrinsic tokens
used-found tokens = used-names UseForm.Plain tokens

-- ---- ends

ended-label : (front : List Token) (line : Option Name → Statement) → ((text : Option Name) → Rattle.std.specs.Prelude.IfSome text IsName → RankedStatement (line text)) → ((text : Option Name) → spell_statement (line text) ≡ front ++ optional named text)
    → (tokens : List Token) → Holds (LineIn (front ++ tokens)) (mapped line (label tokens))
ended-label front line ranks spells tokens =
    mapped-holds (LabelSpelled tokens) (LineIn (front ++ tokens)) line (label tokens) (label-spelled tokens)
    (λ text holds. (ranks text holds.0, spells text ∙ ap (λ (more : List Token). front ++ more) holds.1))

ended-word : (first : Keyword) (tokens : List Token) → Holds (LineIn (word "end" ∷ Token.Word (letters first) ∷ tokens)) (ended_named (Some first) tokens)
ended-word Keyword.If [] = (tt, refl)
ended-word Keyword.Select [] = (tt, refl)
ended-word Keyword.Do tokens = ended-label (word "end" ∷ word "do" ∷ []) (λ text. end_do text) (λ text fits. fits) (λ text. refl) tokens
ended-word Keyword.Program tokens = ended-label (word "end" ∷ word "program" ∷ []) (λ text. end_line (Some units.Unit.Program) text) (λ text fits. fits) (λ text. refl) tokens
ended-word Keyword.Function tokens = ended-label (word "end" ∷ word "function" ∷ []) (λ text. end_line (Some units.Unit.Function) text) (λ text fits. fits) (λ text. refl) tokens
ended-word Keyword.Subroutine tokens = ended-label (word "end" ∷ word "subroutine" ∷ []) (λ text. end_line (Some units.Unit.Subroutine) text) (λ text fits. fits) (λ text. refl) tokens
ended-word first tokens = tt

abbrev EndIn : List Token → Statement → Type 0
EndIn tokens = LineIn (word "end" ∷ tokens)

ended-found : (tokens : List Token) → Holds (EndIn tokens) (ended tokens)
ended-found [] = (refl, refl)
ended-found (Token.Word text ∷ tokens) = by-keyword EndIn (λ text found. ended_named found tokens) text tokens (λ first. ended-word first tokens) tt
ended-found tokens = tt

-- ---- IF and SELECT

then-found : (tokens : List Token) → is_then tokens ≡ true → tokens ≡ word "then" ∷ []
then-found (first ∷ []) is = ap (λ (t : Token). t ∷ []) (word-found Keyword.Then first is)
then-found tokens is = absurd (false≢true is)

-- `( e )` with what follows it
bracket-joined : (tokens inside after back : List Token) (e : Tree) → bracket tokens ≡ Some (inside, after) → spell e ≡ inside → back ≡ after → bracketed (spell e) ++ back ≡ tokens
bracket-joined tokens inside after back e is p q =
    ap (λ (more : List Token). Token.Mark Mark.Open ∷ more) (append_assoc (spell e) (Token.Mark Mark.Close ∷ []) back)
    ∙ ap (λ (front : List Token). Token.Mark Mark.Open ∷ (front ++ Token.Mark Mark.Close ∷ back)) p ∙ ap (λ (rest : List Token). Token.Mark Mark.Open ∷ (inside ++ Token.Mark Mark.Close ∷ rest)) q
    ∙ sym (bracket-found tokens inside after is)

branched-found : (tokens : List Token) → Holds (LineIn (word "if" ∷ tokens)) (branched tokens)
branched-found tokens =
    let Q = LineIn (word "if" ∷ tokens) in
    given-holds Q (bracket tokens) tested_by
    (λ parts found.
    either-holds Q (is_then parts.1) (mapped (λ e. if_then e) (expr parts.0)) (mapped (λ both. if_action both.0 both.1) (both (expr parts.0) (action parts.1)))
    (λ is.
    mapped-holds (Spelled Ranked spell parts.0) Q (λ (e : Tree). if_then e) (expr parts.0) (expr-found parts.0)
    (λ e holds. (holds.0, ap (λ (more : List Token). word "if" ∷ more) (bracket-joined tokens parts.0 parts.1 (word "then" ∷ []) e found holds.1 (sym (then-found parts.1 is))))))
    (λ not.
    mapped-holds (λ (found : Tree × Deed). Spelled Ranked spell parts.0 found.0 × Spelled RankedDeed spell_deed parts.1 found.1) Q (λ (found : Tree × Deed). if_action found.0 found.1) (both (expr parts.0) (action parts.1))
    (both-hold (Spelled Ranked spell parts.0) (Spelled RankedDeed spell_deed parts.1) (expr parts.0) (action parts.1) (expr-found parts.0) (action-found parts.1))
    (λ both holds. ((holds.0.0, holds.1.0), ap (λ (more : List Token). word "if" ∷ more) (bracket-joined tokens parts.0 parts.1 (spell_deed both.1) both.0 found holds.0.1 holds.1.1)))))

otherwise-found : (tokens : List Token) → Holds (LineIn (word "else" ∷ tokens)) (otherwise tokens)
otherwise-found [] = (tt, refl)
otherwise-found (first ∷ tokens) =
    let Q = LineIn (word "else" ∷ first ∷ tokens) in
    if-holds Q (is Keyword.If first) (given (bracket tokens) else_tested)
    (λ same.
    given-holds Q (bracket tokens) else_tested
    (λ parts found.
    if-holds Q (is_then parts.1) (mapped (λ e. else_if e) (expr parts.0))
    (λ is.
    mapped-holds (Spelled Ranked spell parts.0) Q (λ (e : Tree). else_if e) (expr parts.0) (expr-found parts.0)
    (λ e holds. (
      holds.0,
      ap (λ (t : Token). word "else" ∷ t ∷ (bracketed (spell e) ++ word "then" ∷ [])) (sym (word-found Keyword.If first same))
          ∙ ap (λ (more : List Token). word "else" ∷ first ∷ more) (bracket-joined tokens parts.0 parts.1 (word "then" ∷ []) e found holds.1 (sym (then-found parts.1 is))),
    )))))

in-tree : (tokens : List Token) → Holds (Spelled Ranked (λ (e : Tree). bracketed (spell e)) tokens) (given (in_brackets tokens) expr)
in-tree tokens = in-brackets Ranked spell expr expr-found tokens

selected-found : (tokens : List Token) → Holds (LineIn (word "select" ∷ tokens)) (selected tokens)
selected-found [] = tt
selected-found (first ∷ tokens) =
    let Q = LineIn (word "select" ∷ first ∷ tokens) in
    if-holds Q (is Keyword.Case first) (mapped (λ e. select_case e) (given (in_brackets tokens) expr))
    (λ same.
    mapped-holds (Spelled Ranked (λ (e : Tree). bracketed (spell e)) tokens) Q (λ (e : Tree). select_case e) (given (in_brackets tokens) expr) (in-tree tokens)
    (λ e holds. (
      holds.0,
      ap (λ (t : Token). word "select" ∷ t ∷ bracketed (spell e)) (sym (word-found Keyword.Case first same)) ∙ ap (λ (more : List Token). word "select" ∷ first ∷ more) holds.1,
    )))

default-word : (tokens : List Token) → Holds (LineIn (word "case" ∷ tokens)) (case_word tokens)
default-word (first ∷ []) =
    if-holds (LineIn (word "case" ∷ first ∷ [])) (is Keyword.Default first) (plainly case_default) (λ same. (tt, ap (λ (t : Token). word "case" ∷ t ∷ []) (sym (word-found Keyword.Default first same))))
default-word tokens = tt

cased-found : (tokens : List Token) → Holds (LineIn (word "case" ∷ tokens)) (cased tokens)
cased-found (Token.Mark Mark.Open ∷ tokens) =
    mapped-holds (Spelled (OneOrMore RankedCase) (λ (ranges : List CaseRange). bracketed (separated spell_case ranges)) (Token.Mark Mark.Open ∷ tokens)) (LineIn (word "case" ∷ Token.Mark Mark.Open ∷ tokens)) (λ (ranges : List CaseRange). case ranges)
    (given (in_brackets (Token.Mark Mark.Open ∷ tokens)) (list one_case))
    (in-brackets (OneOrMore RankedCase) (separated spell_case) (list one_case) (list-found RankedCase spell_case one_case case-found) (Token.Mark Mark.Open ∷ tokens))
    (λ ranges holds. (holds.0, ap (λ (more : List Token). word "case" ∷ more) holds.1))
cased-found tokens = default-word tokens

-- ---- headers

abbrev Ranges : Type 0
Ranges = List Ranging × Option Tree

abbrev mask_marked : Option Tree → List Token
mask_marked mask = optional (λ test. comma ∷ spell test) mask

abbrev RangesMarked : List (List Token) → Ranges → Type 0
RangesMarked slices found = (Each RankedRanging found.0 × Rattle.std.specs.Prelude.IfSome found.1 Ranked) × (followed (spell_ranging colon) found.0 ++ mask_marked found.1 ≡ marked Mark.Comma slices)

abbrev MaskMarked : List (List Token) → Option Tree → Type 0
MaskMarked slices mask = Rattle.std.specs.Prelude.IfSome mask Ranked × (mask_marked mask ≡ marked Mark.Comma slices)

mask-found : (slices : List (List Token)) → Holds (MaskMarked slices) (mask_of slices)
mask-found [] = (tt, refl)
mask-found (mask ∷ []) =
    mapped-holds (Spelled Ranked spell mask) (MaskMarked (mask ∷ [])) (λ (e : Tree). Some e) (expr mask) (expr-found mask) (λ e holds. (holds.0, ap (λ (more : List Token). comma ∷ more) (holds.1 ∙ sym (append-nil mask))))
mask-found slices = tt

index-found : IsSound RankedRanging (spell_ranging colon) (ranging Stop.Colon)
index-found tokens = ranging-found Stop.Colon Mark.Colon colon-stops tokens

indexes-found : (slices : List (List Token)) → Holds (RangesMarked slices) (indexes slices)
indexes-found [] = ((tt, tt), refl)
indexes-found (piece ∷ rest) =
    either-holds (RangesMarked (piece ∷ rest)) (is_index piece) (mapped more_index (both (ranging Stop.Colon piece) (indexes rest))) (mapped (λ mask. ([], mask)) (mask_of (piece ∷ rest)))
    (λ is.
    mapped-holds (λ (parts : Ranging × Ranges). Spelled RankedRanging (spell_ranging colon) piece parts.0 × RangesMarked rest parts.1) (RangesMarked (piece ∷ rest)) more_index (both (ranging Stop.Colon piece) (indexes rest))
    (both-hold (Spelled RankedRanging (spell_ranging colon) piece) (RangesMarked rest) (ranging Stop.Colon piece) (indexes rest) (index-found piece) (indexes-found rest))
    (λ parts holds. (
      ((holds.0.0, holds.1.0.0), holds.1.0.1),
      ap (λ (more : List Token). comma ∷ more)
          (append_assoc (spell_ranging colon parts.0) (followed (spell_ranging colon) parts.1.0) (mask_marked parts.1.1)
          ∙ ap (λ (front : List Token). front ++ (followed (spell_ranging colon) parts.1.0 ++ mask_marked parts.1.1)) holds.0.1 ∙ ap (λ (back : List Token). piece ++ back) holds.1.1),
    )))
    (λ not.
    mapped-holds (MaskMarked (piece ∷ rest)) (RangesMarked (piece ∷ rest)) (λ (mask : Option Tree). ([], mask)) (mask_of (piece ∷ rest)) (mask-found (piece ∷ rest)) (λ mask holds. ((tt, holds.0), holds.1)))

abbrev RangesSpelled : List Token → Ranges → Type 0
RangesSpelled tokens found = (OneOrMore RankedRanging found.0 × Rattle.std.specs.Prelude.IfSome found.1 Ranked) × (separated (spell_ranging colon) found.0 ++ mask_marked found.1 ≡ tokens)

slices-found : (slices : List (List Token)) → Holds (RangesSpelled (joined Mark.Comma slices)) (ranges_of slices)
slices-found [] = tt
slices-found (piece ∷ rest) =
    let Q = RangesSpelled (joined Mark.Comma (piece ∷ rest)) in
    if-holds Q (is_index piece) (mapped more_index (both (ranging Stop.Colon piece) (indexes rest)))
    (λ is.
    mapped-holds (λ (parts : Ranging × Ranges). Spelled RankedRanging (spell_ranging colon) piece parts.0 × RangesMarked rest parts.1) Q more_index (both (ranging Stop.Colon piece) (indexes rest))
    (both-hold (Spelled RankedRanging (spell_ranging colon) piece) (RangesMarked rest) (ranging Stop.Colon piece) (indexes rest) (index-found piece) (indexes-found rest))
    (λ parts holds. (
      ((holds.0.0, holds.1.0.0), holds.1.0.1),
      append_assoc (spell_ranging colon parts.0) (followed (spell_ranging colon) parts.1.0) (mask_marked parts.1.1)
          ∙ ap (λ (front : List Token). front ++ (followed (spell_ranging colon) parts.1.0 ++ mask_marked parts.1.1)) holds.0.1 ∙ ap (λ (back : List Token). piece ++ back) holds.1.1,
    )))

ranges-found : (tokens : List Token) → Holds (RangesSpelled tokens) (ranges tokens)
ranges-found tokens = by-pieces RangesSpelled ranges_of Stop.Comma Mark.Comma comma-stops slices-found tokens

abbrev HeaderSpelled : List Token → Header → Type 0
HeaderSpelled tokens h =
    (Rattle.std.specs.Prelude.IfSome h.0 RankedIndexType × OneOrMore RankedRanging h.1.0 × Rattle.std.specs.Prelude.IfSome h.1.1 Ranked) × (spell_header h.0 h.1.0 h.1.1 ≡ tokens)

abbrev FormSpelled : List Token → Option TypeForm → Type 0
FormSpelled tokens form = Rattle.std.specs.Prelude.IfSome form RankedIndexType × (optional (λ given. spell_type given ++ colons ∷ []) form ≡ tokens ++ colons ∷ [])

form-found : (tokens : List Token) → Holds (FormSpelled tokens) (mapped (λ given. Some given) (index_type tokens))
form-found tokens =
    mapped-holds (Spelled RankedIndexType spell_type tokens) (FormSpelled tokens) (λ (form : TypeForm). Some form) (index_type tokens) (index-type-found tokens)
    (λ form holds. (holds.0, ap (λ (front : List Token). front ++ colons ∷ []) holds.1))

header-parts : (tokens rest : List Token) → from Stop.Colons 0 tokens ≡ rest → Holds (HeaderSpelled tokens) (header_from (before Stop.Colons 0 tokens) rest)
header-parts tokens [] is =
    let front : List Token = before Stop.Colons 0 tokens in
    holds-more (λ (h : Header). (h.0 ≡ None) × RangesSpelled front h.1) (HeaderSpelled tokens) (both (plainly None) (ranges front))
    (both-hold (λ (form : Option TypeForm). form ≡ None) (RangesSpelled front) (plainly None) (ranges front) refl (ranges-found front))
    (λ h holds.
    subst (λ (form : Option TypeForm). HeaderSpelled tokens (form, h.1)) (sym holds.0)
    ((tt, holds.1.0.0, holds.1.0.1), holds.1.1 ∙ split-none Stop.Colons tokens is))
header-parts tokens (mark ∷ rest) is =
    let front : List Token = before Stop.Colons 0 tokens in
    holds-more (λ (h : Header). FormSpelled front h.0 × RangesSpelled rest h.1) (HeaderSpelled tokens) (both (mapped (λ given. Some given) (index_type front)) (ranges rest))
    (both-hold (FormSpelled front) (RangesSpelled rest) (mapped (λ given. Some given) (index_type front)) (ranges rest) (form-found front) (ranges-found rest))
    (λ h holds. (
      (holds.0.0, holds.1.0.0, holds.1.0.1),
      ap (λ (start : List Token). start ++ (separated (spell_ranging colon) h.1.0 ++ mask_marked h.1.1)) holds.0.1
          ∙ ap (λ (back : List Token). (front ++ colons ∷ []) ++ back) holds.1.1
          ∙ append_assoc front (colons ∷ []) rest ∙ split-at Stop.Colons Mark.Colons colons-stops tokens mark rest is,
    ))

header-found : (tokens : List Token) → Holds (HeaderSpelled tokens) (header tokens)
header-found tokens = header-parts tokens (from Stop.Colons 0 tokens) refl

-- ---- localities

flat-mapped : (locals : List Local) → flat_map spell_local locals ≡ flat (map spell_local locals)
flat-mapped [] = refl
flat-mapped (first ∷ rest) = ap (λ (more : List Token). spell_local first ++ more) (flat-mapped rest)

localities-found : IsSound (Each RankedLocal) (flat_map spell_local) localities
localities-found tokens =
    if-holds (Spelled (Each RankedLocal) (flat_map spell_local) tokens) (is_empty (before Stop.Word 0 tokens)) (items locality (cuts Stop.Word 0 tokens))
    (λ none.
    holds-more (λ (locals : List Local). Each RankedLocal locals × (map spell_local locals ≡ cuts Stop.Word 0 tokens)) (Spelled (Each RankedLocal) (flat_map spell_local) tokens) (items locality (cuts Stop.Word 0 tokens))
    (items-found RankedLocal spell_local locality local-found (cuts Stop.Word 0 tokens))
    (λ locals holds. (
      holds.0,
      flat-mapped locals ∙ ap flat holds.1 ∙ cuts-flat Stop.Word 0 tokens
          ∙ ap (λ (front : List Token). front ++ from Stop.Word 0 tokens) (sym (empty-is (before Stop.Word 0 tokens) none)) ∙ before-from Stop.Word 0 tokens,
    )))

-- ---- DO

abbrev FitsLine : Option Name → Type 0
FitsLine text = Rattle.std.specs.Prelude.IfSome text IsName

-- what stands in front of DO, and DO
abbrev opening : Option Name → List Token
opening text = optional spellings.labelled text

abbrev LoopIn : Option Name → List Token → Statement → Type 0
LoopIn text tokens = LineIn (opening text ++ word "do" ∷ tokens)

counted-found : (text : Option Name) → FitsLine text → (tokens : List Token) → Holds (LoopIn text tokens) (mapped (λ counted. do_line text (Some counted)) (ranging Stop.Comma tokens))
counted-found text fits tokens =
    mapped-holds (Spelled RankedRanging (spell_ranging comma) tokens) (LoopIn text tokens) (λ (counted : Ranging). do_line text (Some counted)) (ranging Stop.Comma tokens) (ranging-found Stop.Comma Mark.Comma comma-stops tokens)
    (λ range holds. ((fits, holds.0), ap (λ (more : List Token). opening text ++ word "do" ∷ more) holds.1))

while-found : (text : Option Name) → FitsLine text → (tokens : List Token) → Holds (LoopIn text (word "while" ∷ tokens)) (mapped (λ e. do_while text e) (given (in_brackets tokens) expr))
while-found text fits tokens =
    mapped-holds (Spelled Ranked (λ (e : Tree). bracketed (spell e)) tokens) (LoopIn text (word "while" ∷ tokens)) (λ (e : Tree). do_while text e) (given (in_brackets tokens) expr) (in-tree tokens)
    (λ e holds. ((fits, holds.0), ap (λ (more : List Token). opening text ++ word "do" ∷ word "while" ∷ more) holds.1))

concurrent-found : (text : Option Name) → FitsLine text → (tokens : List Token) → Holds (LoopIn text (word "concurrent" ∷ tokens)) (given (bracket tokens) (concurrent_parts text))
concurrent-found text fits tokens =
    let Q = LoopIn text (word "concurrent" ∷ tokens) in
    given-holds Q (bracket tokens) (concurrent_parts text)
    (λ parts found.
    mapped-holds (λ (made : Header × List Local). HeaderSpelled parts.0 made.0 × Spelled (Each RankedLocal) (flat_map spell_local) parts.1 made.1) Q (concurrent_from text) (both (header parts.0) (localities parts.1))
    (both-hold (HeaderSpelled parts.0) (Spelled (Each RankedLocal) (flat_map spell_local) parts.1) (header parts.0) (localities parts.1) (header-found parts.0) (localities-found parts.1))
    (λ made holds. (
      (fits, holds.0.0.0, holds.0.0.1, holds.0.0.2, holds.1.0),
      ap (λ (more : List Token). opening text ++ word "do" ∷ word "concurrent" ∷ more)
          (ap (λ (rest : List Token). Token.Mark Mark.Open ∷ rest) (append_assoc (spell_header made.0.0 made.0.1.0 made.0.1.1) (Token.Mark Mark.Close ∷ []) (flat_map spell_local made.1))
          ∙ ap (λ (front : List Token). Token.Mark Mark.Open ∷ (front ++ Token.Mark Mark.Close ∷ flat_map spell_local made.1)) holds.0.1
          ∙ ap (λ (back : List Token). Token.Mark Mark.Open ∷ (parts.0 ++ Token.Mark Mark.Close ∷ back)) holds.1.1
          ∙ sym (bracket-found tokens parts.0 parts.1 found)),
    )))

looped-named : (text : Option Name) → FitsLine text → (first : Keyword) (tokens : List Token) → Holds (LoopIn text (Token.Word (letters first) ∷ tokens)) (looped_named (Some first) text tokens)
looped-named text fits Keyword.While tokens = while-found text fits tokens
looped-named text fits Keyword.Concurrent tokens = concurrent-found text fits tokens
looped-named text fits first tokens = tt

by-word : (text : Option Name) → FitsLine text → (second : Name) (tokens : List Token) → Holds (LoopIn text (Token.Word second ∷ tokens)) (looped_named (keyword second) text tokens)
by-word text fits second tokens = by-keyword (LoopIn text) (λ second found. looped_named found text tokens) second tokens (λ first. looped-named text fits first tokens) tt

looped-found : (text : Option Name) → FitsLine text → (tokens : List Token) → Holds (LoopIn text tokens) (looped text tokens)
looped-found text fits [] = ((fits, tt), refl)
looped-found text fits (Token.Word second ∷ Token.Mark Mark.Equals ∷ tokens) = counted-found text fits (Token.Word second ∷ equals ∷ tokens)
looped-found text fits (Token.Word second ∷ tokens) = by-word text fits second tokens
looped-found text fits tokens = tt

-- ---- statements that begin with a name

labelled-found : (text : Name) (tokens : List Token) → Holds (LineIn (Token.Word text ∷ colon ∷ tokens)) (labelled text tokens)
labelled-found text [] = tt
labelled-found text (first ∷ tokens) =
    let Q = LineIn (Token.Word text ∷ colon ∷ first ∷ tokens) in
    if-holds Q (is_name text) (if is Keyword.Do first then looped (Some text) tokens else None)
    (λ fits.
    if-holds Q (is Keyword.Do first) (looped (Some text) tokens)
    (λ same. subst (λ (t : Token). Holds (LineIn (Token.Word text ∷ colon ∷ t ∷ tokens)) (looped (Some text) tokens)) (sym (word-found Keyword.Do first same)) (looped-found (Some text) fits tokens)))

acted-found : (tokens : List Token) → Holds (LineIn tokens) (mapped (λ deed. act deed) (action tokens))
acted-found tokens = mapped-holds (Spelled RankedDeed spell_deed tokens) (LineIn tokens) (λ (deed : Deed). act deed) (action tokens) (action-found tokens) (λ deed holds. holds)

named-found : (text : Name) (tokens : List Token) → Holds (LineIn (Token.Word text ∷ tokens)) (named_line text tokens)
named-found text (Token.Mark Mark.Colon ∷ tokens) = labelled-found text tokens
named-found text tokens = acted-found (Token.Word text ∷ tokens)

recursive-found : (text : Name) (tokens : List Token) → Holds (LineIn (Token.Word text ∷ tokens)) (recursive_line text tokens)
recursive-found text (Token.Word second ∷ tokens) = heading-line text (Token.Word second ∷ tokens)
recursive-found text tokens = named-found text tokens

-- ---- statements

statement-word : (first : Keyword) (tokens : List Token) → Holds (LineIn (Token.Word (letters first) ∷ tokens)) (statement_named (Some first) (letters first) tokens)
statement-word Keyword.Program tokens = program-found tokens
statement-word Keyword.Use tokens = used-found tokens
statement-word Keyword.Implicit tokens = implicit-found tokens
statement-word Keyword.Integer tokens = typed-found (codes "integer") tokens
statement-word Keyword.Logical tokens = typed-found (codes "logical") tokens
statement-word Keyword.Contains [] = (tt, refl)
statement-word Keyword.Contains (token ∷ tokens) = tt
statement-word Keyword.Function tokens = heading-line (codes "function") tokens
statement-word Keyword.Subroutine tokens = heading-line (codes "subroutine") tokens
statement-word Keyword.Pure tokens = heading-line (codes "pure") tokens
statement-word Keyword.Recursive tokens = recursive-found (codes "recursive") tokens
statement-word Keyword.End tokens = ended-found tokens
statement-word Keyword.If tokens = branched-found tokens
statement-word Keyword.Else tokens = otherwise-found tokens
statement-word Keyword.Select tokens = selected-found tokens
statement-word Keyword.Case tokens = cased-found tokens
statement-word Keyword.Do tokens = looped-found None tt tokens
statement-word first tokens = named-found (letters first) tokens

-- What is found is ranked, and spells the tokens.
pub statement-found : IsSound RankedStatement spell_statement statement_reading
statement-found (Token.Word text ∷ tokens) = by-keyword LineIn (λ text found. statement_named found text tokens) text tokens (λ first. statement-word first tokens) (named-found text tokens)
statement-found tokens = tt
