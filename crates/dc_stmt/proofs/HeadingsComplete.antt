-- Declarations and headings are found in their spelling.
use Rattle.std.proofs.Common.{◌≡◌, ℕ, Bool, true, false, List, [], ◌∷◌, ◌++◌, map, Option, Some, None, refl, sym, ap, ◌∙◌, append_assoc, append-nil}
use Rattle.std.specs.Prelude.{max, codes, flat_map, IfSome, IsTrue, not, ◌&&◌, ◌||◌, is_none}
use Rattle.std.specs.List.{list_any}
use Rattle.std.proofs.lemmas.Bool.{false≢true, true≢false}
use Rattle.std.proofs.Math.Nat.{max-zero}
use Rattle.std.specs.List.{list_any}
use Rattle.dc_tree.specs.declared.token.Token.{Token}
use Rattle.dc_tree.specs.Grammar.{spell, key}
use Rattle.dc_tree.specs.Statements.{Name, TypeForm, Dimension, Attribute, Initial, Declared, Prefixed, logical, integer, absent, scalar, listed, pure, recursive, typed, declare, procedure_line}
use Rattle.dc_tree.specs.Spelling.{colons, bracketed, separated, followed, optional, arguments, named, spell_type, dimensions, spell_initial, spell_attribute, spell_declared, spell_colons, spell_prefix, procedure_word, spell_result}
use Rattle.dc_tree.specs.Ranking.{is_empty, Each, OneOrMore, IsName, RankedType, RankedAttribute, RankedDeclared, has_initial, needs_colons, RankedPrefix, is_typed, same_prefix, each_once, fits_heading}
use Rattle.dc_slices.specs.declared.keyword.Keyword.{Keyword}
use Rattle.dc_slices.specs.declared.cutting.Stop.{Stop}
use Rattle.dc_slices.specs.Words.{is}
use Rattle.dc_slices.specs.Cutting.{before, from, cuts}
use Rattle.dc_slices.specs.Finding.{mapped, given, name, list}
use Rattle.dc_parts.specs.Parts.{type_form, one_attribute, entity, bare_entity}
use Rattle.dc_slices.specs.Finding as finding
use Rattle.dc_stmt.specs.declared.headings.Shape.{Shape}
use Rattle.dc_stmt.specs.Headings.{declaration, result_of, heading_of, fits_parts, procedure_kind, one_prefix, slice_shape, same_shape, once_only, fits_shapes, in_front, from_word, heading_slices, heading, two_words, typed_line, typed_from}
use Rattle.dc_stmt.specs.Depth.{deepest_of, type_depth, attribute_depth, declared_depth, prefix_depth, statement_depth}
use Rattle.dc_stmt.proofs.Clear.{Passes, nothing-passes, bracket-passes, before-stop, from-stop, before-end, from-end, in_brackets-is}
use Rattle.dc_stmt.proofs.WordLaws.{keyword-is}
use Rattle.dc_stmt.proofs.Found.{items-are, IsComplete, IsPassed, name-is, nothing-deep, list-is, any_list-is, followed_list-is, separated-passes, followed-passes, each-of}
use Rattle.dc_stmt.proofs.PartsComplete.{IsBare, bare-is, type-is, word-passes, names-pass, closing-calm, inner-calm, kind-passes, attribute-is, attribute-passes, entity-is, entity-passes}

-- ---- a type's word, and what belongs to it

abbrev pub type_word : TypeForm → Name
type_word logical = codes "logical"
type_word (integer keyed kind) = codes "integer"

abbrev pub type_rest : TypeForm → List Token
type_rest logical = []
type_rest (integer keyed None) = []
type_rest (integer keyed (Some e)) = bracketed (key keyed ++ spell e)

pub type-parts : (form : TypeForm) → spell_type form ≡ Token.Word (type_word form) ∷ type_rest form
type-parts logical = refl
type-parts (integer keyed None) = refl
type-parts (integer keyed (Some e)) = refl

rest-passes : (stop : Stop) (form : TypeForm) → RankedType form → Passes stop 0 (type_rest form)
rest-passes stop logical ranked = nothing-passes stop 0
rest-passes stop (integer keyed None) ranked = nothing-passes stop 0
rest-passes stop (integer keyed (Some e)) ranked = bracket-passes stop 0 (key keyed ++ spell e) (kind-passes stop 1 keyed e ranked (inner-calm stop 0))

-- a cut stops at once
abbrev pub StopsFirst : Stop → List Token → Type 0
StopsFirst stop tokens = (before stop 0 tokens ≡ []) × (from stop 0 tokens ≡ tokens)

typed-cut : (form : TypeForm) (rest : List Token) → RankedType form → StopsFirst Stop.Part rest
    → typed_from (Token.Word (type_word form)) (type_rest form ++ rest) ≡ typed_line (spell_type form) rest (spell_type form ++ rest)
typed-cut form rest ranked first =
    let pass = rest-passes Stop.Part form ranked in
    let front : before Stop.Part 0 (type_rest form ++ rest) ≡ type_rest form
    = pass.before rest ∙ ap (λ (more : List Token). type_rest form ++ more) first.0 ∙ append-nil (type_rest form) in
    let back : from Stop.Part 0 (type_rest form ++ rest) ≡ rest = pass.from rest ∙ first.1 in
    rw front (rw back (rw (type-parts form) refl))

-- ---- declarations

named-two : (text : Name) (bounds : Option (List Dimension)) (value : Initial) (entities : List Declared)
    → two_words (Token.Word text ∷ ((optional dimensions bounds ++ spell_initial value) ++ followed spell_declared entities)) ≡ false
named-two text (Some bounds) value entities = refl
named-two text None (scalar e) entities = refl
named-two text None (listed values) entities = refl
named-two text None absent [] = refl
named-two text None absent (first ∷ rest) = refl

abbrev pub behind_type : List Attribute → Bool → List Declared → List Token
behind_type attributes with_colons entities = followed spell_attribute attributes ++ (spell_colons with_colons ++ separated spell_declared entities)

no-two : (attributes : List Attribute) (with_colons : Bool) (entities : List Declared) → OneOrMore RankedDeclared entities → two_words (behind_type attributes with_colons entities) ≡ false
no-two (first ∷ rest) with_colons entities ranked = refl
no-two [] true entities ranked = refl
no-two [] false [] ranked = absurd ranked
no-two [] false (first ∷ rest) ranked = named-two first.name first.bounds first.initial rest

stops-part : (attributes : List Attribute) (with_colons : Bool) (entities : List Declared) → OneOrMore RankedDeclared entities → StopsFirst Stop.Part (behind_type attributes with_colons entities)
stops-part (first ∷ rest) with_colons entities ranked = (refl, refl)
stops-part [] true entities ranked = (refl, refl)
stops-part [] false [] ranked = absurd ranked
stops-part [] false (first ∷ rest) ranked = (refl, refl)

comma-entity : IsPassed Stop.Comma RankedDeclared spell_declared
comma-entity given ranked = entity-passes Stop.Comma given ranked refl refl

comma-attribute : IsPassed Stop.Comma RankedAttribute spell_attribute
comma-attribute given ranked = attribute-passes Stop.Comma given ranked refl

entities-are : (entities : List Declared) → OneOrMore RankedDeclared entities → list entity (separated spell_declared entities) ≡ Some (entities, deepest_of declared_depth entities)
entities-are entities ranked = list-is RankedDeclared spell_declared declared_depth entity entity-is comma-entity entities ranked

entities-pass : (entities : List Declared) → OneOrMore RankedDeclared entities → Passes Stop.Colons 0 (separated spell_declared entities)
entities-pass entities ranked =
    separated-passes RankedDeclared spell_declared Stop.Colons 0 refl (λ one fits. entity-passes Stop.Colons one fits refl refl) entities (each-of RankedDeclared entities ranked)

-- entities without values
none-first : (a b : Bool) → (a || b) ≡ false → (a ≡ false) × (b ≡ false)
none-first false b is = (refl, is)
none-first true b is = absurd (true≢false is)

not-true : (b : Bool) → not b ≡ true → b ≡ false
not-true false is = refl
not-true true is = absurd (false≢true is)

each-bare : (entities : List Declared) → Each RankedDeclared entities → list_any has_initial entities ≡ false → Each IsBare entities
each-bare [] ranked none = tt
each-bare (first ∷ rest) ranked none =
    let parts = none-first (has_initial first) (list_any has_initial rest) none in ((ranked.0, parts.0), each-bare rest ranked.1 parts.1)

all-bare : (entities : List Declared) → OneOrMore RankedDeclared entities → list_any has_initial entities ≡ false → OneOrMore IsBare entities
all-bare [] ranked none = absurd ranked
all-bare (first ∷ rest) ranked none = each-bare (first ∷ rest) ranked none

comma-bare : IsPassed Stop.Comma IsBare spell_declared
comma-bare given bare = comma-entity given bare.0

bare-entities : (entities : List Declared) → OneOrMore RankedDeclared entities → list_any has_initial entities ≡ false → list bare_entity (separated spell_declared entities) ≡ Some (entities, deepest_of declared_depth entities)
bare-entities entities ranked none = list-is IsBare spell_declared declared_depth bare_entity bare-is comma-bare entities (all-bare entities ranked none)

declaration-is : (form : TypeForm) (attributes : List Attribute) (with_colons : Bool) (entities : List Declared)
    → RankedType form → Each RankedAttribute attributes → OneOrMore RankedDeclared entities → IsTrue (with_colons || not (needs_colons attributes entities))
    → declaration (spell_type form) (behind_type attributes with_colons entities)
    ≡ Some (declare form attributes with_colons entities, max (type_depth form) (max (deepest_of attribute_depth attributes) (deepest_of declared_depth entities)))
declaration-is form attributes true entities ranked attrs_ranked ents_ranked fits =
    let pass : Passes Stop.Colons 0 (followed spell_attribute attributes)
    = followed-passes RankedAttribute spell_attribute Stop.Colons 0 refl (λ one fits. attribute-passes Stop.Colons one fits refl) attributes attrs_ranked in
    rw (before-stop Stop.Colons (followed spell_attribute attributes) colons (separated spell_declared entities) pass refl)
    (rw (from-stop Stop.Colons (followed spell_attribute attributes) colons (separated spell_declared entities) pass refl)
    (rw (type-is form ranked) (rw (followed_list-is RankedAttribute spell_attribute attribute_depth one_attribute attribute-is comma-attribute attributes attrs_ranked)
    (rw (entities-are entities ents_ranked) refl))))
declaration-is form [] false entities ranked attrs_ranked ents_ranked fits =
    rw (before-end Stop.Colons (separated spell_declared entities) (entities-pass entities ents_ranked))
    (rw (from-end Stop.Colons (separated spell_declared entities) (entities-pass entities ents_ranked))
    (rw (type-is form ranked) (rw (bare-entities entities ents_ranked (not-true (list_any has_initial entities) fits)) refl)))
declaration-is form (first ∷ rest) false entities ranked attrs_ranked ents_ranked fits = absurd (false≢true fits)

pub declare-is : (form : TypeForm) (attributes : List Attribute) (with_colons : Bool) (entities : List Declared)
    → RankedType form → Each RankedAttribute attributes → OneOrMore RankedDeclared entities → IsTrue (with_colons || not (needs_colons attributes entities))
    → typed_from (Token.Word (type_word form)) (type_rest form ++ behind_type attributes with_colons entities)
    ≡ Some (declare form attributes with_colons entities, statement_depth (declare form attributes with_colons entities))
declare-is form attributes with_colons entities ranked attrs_ranked ents_ranked fits =
    typed-cut form (behind_type attributes with_colons entities) ranked (stops-part attributes with_colons entities ents_ranked)
    ∙ rw (no-two attributes with_colons entities ents_ranked) (declaration-is form attributes with_colons entities ranked attrs_ranked ents_ranked fits)

-- ---- headings

-- a word with what belongs to it, in front of another word or of the end
pub group-cut : (text : Name) (tokens rest : List Token) → Passes Stop.Word 0 tokens → before Stop.Word 0 rest ≡ [] → cuts Stop.Word 0 (Token.Word text ∷ (tokens ++ rest)) ≡ (Token.Word text ∷ tokens) ∷ cuts Stop.Word 0 rest
group-cut text tokens rest pass first =
    rw (pass.before rest) (rw first (rw (pass.cuts rest) (rw (append-nil tokens) refl)))

abbrev result_slices : Option Name → List (List Token)
result_slices None = []
result_slices (Some text) = spell_result text ∷ []

abbrev pub arguments_of : Bool → List Name → List Token
arguments_of brackets dummies = arguments named brackets dummies

abbrev pub heading_tokens : Bool → Name → Bool → List Name → Option Name → List Token
heading_tokens function text brackets dummies result = procedure_word function ∷ Token.Word text ∷ (arguments_of brackets dummies ++ optional spell_result result)

arguments-pass : (brackets : Bool) (dummies : List Name) → Passes Stop.Word 0 (arguments_of brackets dummies)
arguments-pass false dummies = nothing-passes Stop.Word 0
arguments-pass true dummies = bracket-passes Stop.Word 0 (separated named dummies) (names-pass Stop.Word 1 dummies (inner-calm Stop.Word 0))

result-first : (result : Option Name) → before Stop.Word 0 (optional spell_result result) ≡ []
result-first None = refl
result-first (Some text) = refl

result-cut : (result : Option Name) → cuts Stop.Word 0 (optional spell_result result) ≡ result_slices result
result-cut None = refl
result-cut (Some text) = refl

procedure-first : (function : Bool) (tokens : List Token) → cuts Stop.Word 0 (procedure_word function ∷ tokens) ≡ (procedure_word function ∷ before Stop.Word 0 tokens) ∷ cuts Stop.Word 0 tokens
procedure-first true tokens = refl
procedure-first false tokens = refl

heading-cut : (function : Bool) (text : Name) (brackets : Bool) (dummies : List Name) (result : Option Name)
    → cuts Stop.Word 0 (heading_tokens function text brackets dummies result) ≡ (procedure_word function ∷ []) ∷ ((Token.Word text ∷ arguments_of brackets dummies) ∷ result_slices result)
heading-cut function text brackets dummies result =
    procedure-first function (Token.Word text ∷ (arguments_of brackets dummies ++ optional spell_result result))
    ∙ ap (λ (slices : List (List Token)). (procedure_word function ∷ []) ∷ slices)
    (group-cut text (arguments_of brackets dummies) (optional spell_result result) (arguments-pass brackets dummies) (result-first result)
    ∙ ap (λ (slices : List (List Token)). (Token.Word text ∷ arguments_of brackets dummies) ∷ slices) (result-cut result))

-- prefixes begin with a word
prefix-first : (prefixes : List Prefixed) (function : Bool) (tokens : List Token) → before Stop.Word 0 (flat_map spell_prefix prefixes ++ procedure_word function ∷ tokens) ≡ []
prefix-first [] true tokens = refl
prefix-first [] false tokens = refl
prefix-first (pure ∷ rest) function tokens = refl
prefix-first (recursive ∷ rest) function tokens = refl
prefix-first (typed logical ∷ rest) function tokens = refl
prefix-first (typed (integer keyed None) ∷ rest) function tokens = refl
prefix-first (typed (integer keyed (Some e)) ∷ rest) function tokens = refl

prefix-group : (one : Prefixed) (rest : List Token) → RankedPrefix one → before Stop.Word 0 rest ≡ [] → cuts Stop.Word 0 (spell_prefix one ++ rest) ≡ spell_prefix one ∷ cuts Stop.Word 0 rest
prefix-group pure rest ranked first = group-cut (codes "pure") [] rest (nothing-passes Stop.Word 0) first
prefix-group recursive rest ranked first = group-cut (codes "recursive") [] rest (nothing-passes Stop.Word 0) first
prefix-group (typed form) rest ranked first =
    ap (λ (front : List Token). cuts Stop.Word 0 (front ++ rest)) (type-parts form)
    ∙ group-cut (type_word form) (type_rest form) rest (rest-passes Stop.Word form ranked) first
    ∙ ap (λ (front : List Token). front ∷ cuts Stop.Word 0 rest) (sym (type-parts form))

prefix-cut : (prefixes : List Prefixed) (function : Bool) (tokens : List Token) → Each RankedPrefix prefixes
    → cuts Stop.Word 0 (flat_map spell_prefix prefixes ++ procedure_word function ∷ tokens) ≡ map spell_prefix prefixes ++ cuts Stop.Word 0 (procedure_word function ∷ tokens)
prefix-cut [] function tokens ranked = refl
prefix-cut (one ∷ rest) function tokens ranked =
    ap (cuts Stop.Word 0) (append_assoc (spell_prefix one) (flat_map spell_prefix rest) (procedure_word function ∷ tokens))
    ∙ prefix-group one (flat_map spell_prefix rest ++ procedure_word function ∷ tokens) ranked.0 (prefix-first rest function tokens)
    ∙ ap (λ (slices : List (List Token)). spell_prefix one ∷ slices) (prefix-cut rest function tokens ranked.1)

prefix-kind : (one : Prefixed) → procedure_kind (spell_prefix one) ≡ None
prefix-kind pure = rw (keyword-is Keyword.Pure) refl
prefix-kind recursive = rw (keyword-is Keyword.Recursive) refl
prefix-kind (typed logical) = rw (keyword-is Keyword.Logical) refl
prefix-kind (typed (integer keyed None)) = rw (keyword-is Keyword.Integer) refl
prefix-kind (typed (integer keyed (Some e))) = rw (keyword-is Keyword.Integer) refl

typed-prefix : (form : TypeForm) → one_prefix (spell_type form) ≡ mapped (λ form. typed form) (type_form (spell_type form))
typed-prefix logical = rw (keyword-is Keyword.Logical) (rw (keyword-is Keyword.Logical) refl)
typed-prefix (integer keyed None) = rw (keyword-is Keyword.Integer) (rw (keyword-is Keyword.Integer) refl)
typed-prefix (integer keyed (Some e)) = rw (keyword-is Keyword.Integer) (rw (keyword-is Keyword.Integer) refl)

prefix-is : IsComplete RankedPrefix spell_prefix prefix_depth one_prefix
prefix-is pure ranked = rw (keyword-is Keyword.Pure) refl
prefix-is recursive ranked = rw (keyword-is Keyword.Recursive) refl
prefix-is (typed form) ranked = typed-prefix form ∙ rw (type-is form ranked) refl

procedure-kind : (function : Bool) → procedure_kind (procedure_word function ∷ []) ≡ Some function
procedure-kind true = rw (keyword-is Keyword.Function) refl
procedure-kind false = rw (keyword-is Keyword.Subroutine) refl

comma-name : IsPassed Stop.Comma IsName named
comma-name text fits = word-passes Stop.Comma 0 text refl

arguments-are : (brackets : Bool) (dummies : List Name) → IsTrue (brackets || is_empty dummies) → Each IsName dummies → finding.arguments name (arguments_of brackets dummies) ≡ Some ((brackets, dummies), 0)
arguments-are true dummies fits ranked =
    rw (in_brackets-is (separated named dummies) (names-pass Stop.Closing 0 dummies closing-calm))
    (rw (any_list-is IsName named (λ (text : Name). 0) name name-is comma-name refl dummies ranked) (rw (nothing-deep dummies) refl))
arguments-are false [] fits ranked = refl
arguments-are false (first ∷ rest) fits ranked = absurd (false≢true fits)

result-is : (result : Option Name) → IfSome result IsName → result_of (result_slices result) ≡ Some (result, 0)
result-is None fits = refl
result-is (Some text) fits = rw fits refl

heading-is : (function : Bool) (text : Name) (brackets : Bool) (dummies : List Name) (result : Option Name) → IsName text → IsTrue (brackets || is_empty dummies) → Each IsName dummies → IfSome result IsName
    → fits_parts function (arguments_of brackets dummies) (result_slices result) ≡ true
    → heading_of function ((Token.Word text ∷ arguments_of brackets dummies) ∷ result_slices result) ≡ Some ((text, ((brackets, dummies), result)), 0)
heading-is function text brackets dummies result named fits ranked result_ranked parts =
    rw named (rw parts (rw (arguments-are brackets dummies fits ranked) (rw (result-is result result_ranked) refl)))

-- what a heading of a function or subroutine has in brackets
and-parts : (a b : Bool) → (a && b) ≡ true → (a ≡ true) × (b ≡ true)
and-parts true b is = (refl, is)
and-parts false b is = absurd (false≢true is)

brackets-fit : (function : Bool) (prefixes : List Prefixed) (brackets : Bool) (dummies : List Name) (result : Option Name) → IsTrue (fits_heading function prefixes brackets dummies result) → IsTrue (brackets || is_empty dummies)
brackets-fit true prefixes true dummies result fits = refl
brackets-fit true prefixes false dummies result fits = absurd (false≢true fits)
brackets-fit false prefixes brackets dummies result fits =
    (and-parts (not (list_any is_typed prefixes)) (brackets || is_empty dummies) (and-parts (not (list_any is_typed prefixes) && (brackets || is_empty dummies)) (is_none result) fits).0).1

parts-fit : (function : Bool) (prefixes : List Prefixed) (brackets : Bool) (dummies : List Name) (result : Option Name) → IsTrue (fits_heading function prefixes brackets dummies result)
    → fits_parts function (arguments_of brackets dummies) (result_slices result) ≡ true
parts-fit true prefixes true dummies result fits = refl
parts-fit true prefixes false dummies result fits = absurd (false≢true fits)
parts-fit false prefixes brackets dummies None fits = refl
parts-fit false prefixes brackets dummies (Some text) fits =
    absurd (false≢true (and-parts (not (list_any is_typed prefixes) && (brackets || is_empty dummies)) false fits).1)

-- ---- prefixes by their shapes

abbrev pub shape_of : Prefixed → Shape
shape_of pure = Shape.Pure
shape_of recursive = Shape.Recursive
shape_of (typed form) = Shape.Typed

prefix-shape : (one : Prefixed) → slice_shape (spell_prefix one) ≡ shape_of one
prefix-shape pure = rw (keyword-is Keyword.Pure) refl
prefix-shape recursive = rw (keyword-is Keyword.Recursive) refl
prefix-shape (typed logical) = rw (keyword-is Keyword.Logical) refl
prefix-shape (typed (integer keyed None)) = rw (keyword-is Keyword.Integer) refl
prefix-shape (typed (integer keyed (Some e))) = rw (keyword-is Keyword.Integer) refl

pub prefix-shapes : (prefixes : List Prefixed) → map slice_shape (map spell_prefix prefixes) ≡ map shape_of prefixes
prefix-shapes [] = refl
prefix-shapes (one ∷ rest) = rw (prefix-shape one) (rw (prefix-shapes rest) refl)

same-prefix : (one other : Prefixed) → same_shape (shape_of one) (shape_of other) ≡ same_prefix one other
same-prefix pure pure = refl
same-prefix pure recursive = refl
same-prefix pure (typed form) = refl
same-prefix recursive pure = refl
same-prefix recursive recursive = refl
same-prefix recursive (typed form) = refl
same-prefix (typed form) pure = refl
same-prefix (typed form) recursive = refl
same-prefix (typed form) (typed other) = refl

any-same : (one : Prefixed) (prefixes : List Prefixed) → list_any (same_shape (shape_of one)) (map shape_of prefixes) ≡ list_any (same_prefix one) prefixes
any-same one [] = refl
any-same one (first ∷ rest) = rw (same-prefix one first) (rw (any-same one rest) refl)

pub once-shapes : (prefixes : List Prefixed) → once_only (map shape_of prefixes) ≡ each_once prefixes
once-shapes [] = refl
once-shapes (first ∷ rest) = rw (any-same first rest) (rw (once-shapes rest) refl)

typed-shape : (one : Prefixed) → same_shape Shape.Typed (shape_of one) ≡ is_typed one
typed-shape pure = refl
typed-shape recursive = refl
typed-shape (typed form) = refl

pub any-typed : (prefixes : List Prefixed) → list_any (same_shape Shape.Typed) (map shape_of prefixes) ≡ list_any is_typed prefixes
any-typed [] = refl
any-typed (first ∷ rest) = rw (typed-shape first) (rw (any-typed rest) refl)

untyped : (function : Bool) (prefixes : List Prefixed) (brackets : Bool) (dummies : List Name) (result : Option Name) → IsTrue (fits_heading function prefixes brackets dummies result) → (function || not (list_any is_typed prefixes)) ≡ true
untyped true prefixes brackets dummies result fits = refl
untyped false prefixes brackets dummies result fits =
    (and-parts (not (list_any is_typed prefixes)) (brackets || is_empty dummies) (and-parts (not (list_any is_typed prefixes) && (brackets || is_empty dummies)) (is_none result) fits).0).0

shapes-fit : (function : Bool) (prefixes : List Prefixed) → each_once prefixes ≡ true → (function || not (list_any is_typed prefixes)) ≡ true → fits_shapes function (map slice_shape (map spell_prefix prefixes)) ≡ true
shapes-fit function prefixes once none =
    ap (fits_shapes function) (prefix-shapes prefixes) ∙ rw (once-shapes prefixes) (rw (any-typed prefixes) (rw once none))

front-is : (prefixes : List Prefixed) (function : Bool) (slices : List (List Token)) → in_front (map spell_prefix prefixes ++ (procedure_word function ∷ []) ∷ slices) ≡ map spell_prefix prefixes
front-is [] function slices = rw (procedure-kind function) refl
front-is (one ∷ rest) function slices = rw (prefix-kind one) (ap (λ (more : List (List Token)). spell_prefix one ∷ more) (front-is rest function slices))

word-is : (prefixes : List Prefixed) (function : Bool) (slices : List (List Token)) → from_word (map spell_prefix prefixes ++ (procedure_word function ∷ []) ∷ slices) ≡ (procedure_word function ∷ []) ∷ slices
word-is [] function slices = rw (procedure-kind function) refl
word-is (one ∷ rest) function slices = rw (prefix-kind one) (word-is rest function slices)

abbrev pub procedure_tokens : List Prefixed → Bool → Name → Bool → List Name → Option Name → List Token
procedure_tokens prefixes function text brackets dummies result = flat_map spell_prefix prefixes ++ heading_tokens function text brackets dummies result

pub procedure-is : (prefixes : List Prefixed) (function : Bool) (text : Name) (brackets : Bool) (dummies : List Name) (result : Option Name)
    → Each RankedPrefix prefixes → IsTrue (each_once prefixes) → IsName text → Each IsName dummies → IfSome result IsName → IsTrue (fits_heading function prefixes brackets dummies result)
    → heading (procedure_tokens prefixes function text brackets dummies result) ≡ Some (procedure_line prefixes function text brackets dummies result, deepest_of prefix_depth prefixes)
procedure-is prefixes function text brackets dummies result ranked once named dummies_ranked result_ranked fits =
    let slices : List (List Token) = (Token.Word text ∷ arguments_of brackets dummies) ∷ result_slices result in
    let cut = prefix-cut prefixes function (Token.Word text ∷ (arguments_of brackets dummies ++ optional spell_result result)) ranked
    ∙ ap (λ (slices : List (List Token)). map spell_prefix prefixes ++ slices) (heading-cut function text brackets dummies result) in
    ap heading_slices cut
    ∙ rw (front-is prefixes function slices) (rw (word-is prefixes function slices) (rw (procedure-kind function)
    (rw (shapes-fit function prefixes once (untyped function prefixes brackets dummies result fits))
    (rw (items-are RankedPrefix spell_prefix prefix_depth one_prefix prefix-is prefixes ranked)
    (rw (heading-is function text brackets dummies result named (brackets-fit function prefixes brackets dummies result fits) dummies_ranked result_ranked (parts-fit function prefixes brackets dummies result fits))
    (ap (λ (n : ℕ). Some (procedure_line prefixes function text brackets dummies result, n)) (max-zero (deepest_of prefix_depth prefixes))))))))

-- ---- headings that begin with a type

word-second : (prefixes : List Prefixed) (function : Bool) (text : Name) (tokens : List Token) (first : Name) → two_words (Token.Word first ∷ (flat_map spell_prefix prefixes ++ procedure_word function ∷ Token.Word text ∷ tokens)) ≡ true
word-second [] true text tokens first = refl
word-second [] false text tokens first = refl
word-second (pure ∷ rest) function text tokens first = refl
word-second (recursive ∷ rest) function text tokens first = refl
word-second (typed logical ∷ rest) function text tokens first = refl
word-second (typed (integer keyed None) ∷ rest) function text tokens first = refl
word-second (typed (integer keyed (Some e)) ∷ rest) function text tokens first = refl

pub two-first : (form : TypeForm) (prefixes : List Prefixed) (function : Bool) (text : Name) (tokens : List Token) → IsTrue (each_once (typed form ∷ prefixes))
    → two_words (flat_map spell_prefix prefixes ++ procedure_word function ∷ Token.Word text ∷ tokens) ≡ true
two-first form [] true text tokens once = refl
two-first form [] false text tokens once = refl
two-first form (pure ∷ rest) function text tokens once = word-second rest function text tokens (codes "pure")
two-first form (recursive ∷ rest) function text tokens once = word-second rest function text tokens (codes "recursive")
two-first form (typed other ∷ rest) function text tokens once = absurd (false≢true once)

prefixes-stop : (prefixes : List Prefixed) (function : Bool) (tokens : List Token) → StopsFirst Stop.Part (flat_map spell_prefix prefixes ++ procedure_word function ∷ tokens)
prefixes-stop [] true tokens = (refl, refl)
prefixes-stop [] false tokens = (refl, refl)
prefixes-stop (pure ∷ rest) function tokens = (refl, refl)
prefixes-stop (recursive ∷ rest) function tokens = (refl, refl)
prefixes-stop (typed logical ∷ rest) function tokens = (refl, refl)
prefixes-stop (typed (integer keyed None) ∷ rest) function tokens = (refl, refl)
prefixes-stop (typed (integer keyed (Some e)) ∷ rest) function tokens = (refl, refl)

pub typed-heading : (form : TypeForm) (prefixes : List Prefixed) (function : Bool) (text : Name) (tokens : List Token) → RankedType form → IsTrue (each_once (typed form ∷ prefixes))
    → typed_from (Token.Word (type_word form)) (type_rest form ++ (flat_map spell_prefix prefixes ++ procedure_word function ∷ Token.Word text ∷ tokens))
    ≡ heading (spell_type form ++ (flat_map spell_prefix prefixes ++ procedure_word function ∷ Token.Word text ∷ tokens))
typed-heading form prefixes function text tokens ranked once =
    typed-cut form (flat_map spell_prefix prefixes ++ procedure_word function ∷ Token.Word text ∷ tokens) ranked (prefixes-stop prefixes function (Token.Word text ∷ tokens))
    ∙ rw (two-first form prefixes function text tokens once) refl
