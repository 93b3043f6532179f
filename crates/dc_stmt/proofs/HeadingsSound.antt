-- What is found as a declaration or a heading is ranked, and spells the tokens.
use Rattle.std.proofs.Common.{◌≡◌, Bool, true, false, List, [], ◌∷◌, ◌++◌, map, Option, Some, None, refl, sym, ap, subst, ◌∙◌, inl, inr, append_assoc, append-nil}
use Rattle.std.specs.Prelude.{flat_map, IfSome, IsTrue, not, ◌&&◌, ◌||◌, is_none}
use Rattle.std.proofs.lemmas.Bool.{cases_Bool, false≢true}
use Rattle.std.specs.List.{list_any}
use Rattle.dc_tree.specs.declared.token.Mark.{Mark}
use Rattle.dc_tree.specs.declared.token.Token.{Token}
use Rattle.dc_tree.specs.Names.{is_name}
use Rattle.dc_tree.specs.Statements.{Name, TypeForm, Attribute, Declared, Prefixed, Statement, typed, declare}
use Rattle.dc_tree.specs.Spelling.{word, colons, equals, bracketed, separated, followed, optional, named, spell_type, spell_attribute, spell_declared, spell_colons, spell_prefix, procedure_word, spell_result, spell_statement}
use Rattle.dc_tree.specs.Spelling as spellings
use Rattle.dc_tree.specs.Ranking.{is_empty, Each, OneOrMore, IsName, RankedType, RankedAttribute, RankedDeclared, has_initial, needs_colons, RankedPrefix, is_typed, each_once, fits_heading, RankedStatement}
use Rattle.dc_slices.specs.declared.keyword.Keyword.{Keyword}
use Rattle.dc_slices.specs.declared.cutting.Stop.{Stop}
use Rattle.dc_slices.specs.Words.{keyword, is, letters}
use Rattle.dc_slices.specs.Cutting.{before, from, cuts, in_brackets}
use Rattle.dc_slices.specs.Finding.{plainly, mapped, both, given, name, items, list, followed_list, arguments}
use Rattle.dc_parts.specs.Parts.{type_form, one_attribute, entity, bare_entity}
use Rattle.dc_stmt.specs.declared.headings.Shape.{Shape}
use Rattle.dc_stmt.specs.Headings.{declare_from, declaring, declaration, result_of, fits_parts, Heading, heading_of, procedure_named, procedure_kind, prefix_named, one_prefix, slice_shape, same_shape, once_only, fits_shapes, in_front, from_word, procedure_from, procedure_by, procedure_parts, heading_slices, heading, two_words, typed_from}
use Rattle.dc_stmt.proofs.CutLaws.{flat, cuts-flat, before-from, split-at, split-none, colons-stops}
use Rattle.dc_stmt.proofs.WordLaws.{keyword-found, word-found}
use Rattle.dc_stmt.proofs.Found.{Holds, Spelled, IsSound, mapped-holds, both-hold, given-holds, if-holds, either-holds, name-found, items-found, list-found, followed_list-found}
use Rattle.dc_stmt.proofs.PartsSound.{by-keyword, in-brackets, type-found, attribute-found, entity-found, bare-found}
use Rattle.dc_stmt.proofs.PartsComplete.{IsBare}
use Rattle.dc_stmt.proofs.HeadingsComplete.{shape_of, prefix-shapes, once-shapes, any-typed}
use Rattle.dc_stmt.proofs.DeedsSound.{ArgumentsSpelled, arguments-found}

abbrev pub LineIn : List Token → Statement → Type 0
LineIn tokens = Spelled RankedStatement spell_statement tokens

-- ---- declarations

abbrev DeclareParts : List Token → List Token → List Token → TypeForm × (List Attribute × List Declared) → Type 0
DeclareParts form attributes names parts =
    Spelled RankedType spell_type form parts.0 × (Spelled (Each RankedAttribute) (followed spell_attribute) attributes parts.1.0 × Spelled (OneOrMore RankedDeclared) (separated spell_declared) names parts.1.1)

entities-found : (tokens : List Token) → Holds (Spelled (OneOrMore RankedDeclared) (separated spell_declared) tokens) (list entity tokens)
entities-found tokens = list-found RankedDeclared spell_declared entity entity-found tokens

-- entities without values need no `::`
bare-needs : (entities : List Declared) → Each IsBare entities → list_any has_initial entities ≡ false
bare-needs [] bare = refl
bare-needs (first ∷ rest) bare = rw bare.0.1 (bare-needs rest bare.1)

bare-ranked : (entities : List Declared) → Each IsBare entities → Each RankedDeclared entities
bare-ranked [] bare = tt
bare-ranked (first ∷ rest) bare = (bare.0.0, bare-ranked rest bare.1)

some-ranked : (entities : List Declared) → OneOrMore IsBare entities → OneOrMore RankedDeclared entities
some-ranked [] bare = absurd bare
some-ranked (first ∷ rest) bare = bare-ranked (first ∷ rest) bare

some-needs : (entities : List Declared) → OneOrMore IsBare entities → IsTrue (false || not (needs_colons [] entities))
some-needs [] bare = absurd bare
some-needs (first ∷ rest) bare = rw (bare-needs (first ∷ rest) bare) refl

abbrev BareParts : List Token → List Token → TypeForm × (List Attribute × List Declared) → Type 0
BareParts form names parts = Spelled RankedType spell_type form parts.0 × ((parts.1.0 ≡ []) × Spelled (OneOrMore IsBare) (separated spell_declared) names parts.1.1)

declaring-found : (form rest tail : List Token) → from Stop.Colons 0 rest ≡ tail → Holds (LineIn (form ++ rest)) (declaring form (before Stop.Colons 0 rest) tail)
declaring-found form rest [] is =
    let names : List Token = before Stop.Colons 0 rest in
    mapped-holds (BareParts form names) (LineIn (form ++ rest)) (declare_from false) (both (type_form form) (both (plainly []) (list bare_entity names)))
    (both-hold (Spelled RankedType spell_type form) (λ (more : List Attribute × List Declared). (more.0 ≡ []) × Spelled (OneOrMore IsBare) (separated spell_declared) names more.1)
    (type_form form) (both (plainly []) (list bare_entity names)) (type-found form)
    (both-hold (λ (attributes : List Attribute). attributes ≡ []) (Spelled (OneOrMore IsBare) (separated spell_declared) names) (plainly []) (list bare_entity names) refl
    (list-found IsBare spell_declared bare_entity bare-found names)))
    (λ parts holds.
    subst (λ (attributes : List Attribute). LineIn (form ++ rest) (declare parts.0 attributes false parts.1.1)) (sym holds.1.0) (
      (holds.0.0, tt, some-ranked parts.1.1 holds.1.1.0, some-needs parts.1.1 holds.1.1.0),
      ap (λ (front : List Token). front ++ separated spell_declared parts.1.1) holds.0.1
          ∙ ap (λ (back : List Token). form ++ back) (holds.1.1.1 ∙ split-none Stop.Colons rest is),
    ))
declaring-found form rest (mark ∷ names) is =
    let front : List Token = before Stop.Colons 0 rest in
    mapped-holds (DeclareParts form front names) (LineIn (form ++ rest)) (declare_from true) (both (type_form form) (both (followed_list one_attribute front) (list entity names)))
    (both-hold (Spelled RankedType spell_type form) (λ (more : List Attribute × List Declared). Spelled (Each RankedAttribute) (followed spell_attribute) front more.0 × Spelled (OneOrMore RankedDeclared) (separated spell_declared) names more.1)
    (type_form form) (both (followed_list one_attribute front) (list entity names)) (type-found form)
    (both-hold (Spelled (Each RankedAttribute) (followed spell_attribute) front) (Spelled (OneOrMore RankedDeclared) (separated spell_declared) names) (followed_list one_attribute front) (list entity names)
    (followed_list-found RankedAttribute spell_attribute one_attribute attribute-found front) (entities-found names)))
    (λ parts holds. (
      (holds.0.0, holds.1.0.0, holds.1.1.0, refl),
      ap (λ (start : List Token). start ++ (followed spell_attribute parts.1.0 ++ colons ∷ separated spell_declared parts.1.1)) holds.0.1
          ∙ ap (λ (middle : List Token). form ++ (middle ++ colons ∷ separated spell_declared parts.1.1)) holds.1.0.1
          ∙ ap (λ (back : List Token). form ++ (front ++ colons ∷ back)) holds.1.1.1
          ∙ ap (λ (back : List Token). form ++ back) (split-at Stop.Colons Mark.Colons colons-stops rest mark names is),
    ))

declaration-found : (form rest : List Token) → Holds (LineIn (form ++ rest)) (declaration form rest)
declaration-found form rest = declaring-found form rest (from Stop.Colons 0 rest) refl

-- ---- headings

abbrev ResultSpelled : List (List Token) → Option Name → Type 0
ResultSpelled slices result = IfSome result IsName × (optional spell_result result ≡ flat slices)

result-found : (slices : List (List Token)) → Holds (ResultSpelled slices) (result_of slices)
result-found [] = (tt, refl)
result-found ((first ∷ tokens) ∷ []) =
    if-holds (ResultSpelled ((first ∷ tokens) ∷ [])) (is Keyword.Result first) (mapped (λ text. Some text) (given (in_brackets tokens) name))
    (λ same.
    mapped-holds (Spelled IsName (λ (text : Name). bracketed (named text)) tokens) (ResultSpelled ((first ∷ tokens) ∷ [])) (λ (text : Name). Some text) (given (in_brackets tokens) name) (in-brackets IsName named name name-found tokens)
    (λ text holds. (
      holds.0,
      ap (λ (t : Token). t ∷ bracketed (named text)) (sym (word-found Keyword.Result first same)) ∙ ap (λ (more : List Token). first ∷ more) holds.1 ∙ sym (append-nil (first ∷ tokens)),
    )))
result-found ([] ∷ []) = tt
result-found (slice ∷ second ∷ slices) = tt

both-true : (a b : Bool) → (a && b) ≡ true → (a ≡ true) × (b ≡ true)
both-true true b is = (refl, is)
both-true false b is = absurd (false≢true is)

abbrev heading_tokens : Heading → List Token
heading_tokens h = Token.Word h.0 ∷ (spellings.arguments named h.1.0.0 h.1.0.1 ++ optional spell_result h.1.1)

-- what a function, at true, or a subroutine has behind its name
abbrev FitsKind : Bool → Bool → Option Name → Type 0
FitsKind true brackets result = brackets ≡ true
FitsKind false brackets result = result ≡ None

abbrev HeadingSpelled : Bool → List (List Token) → Heading → Type 0
HeadingSpelled function slices h =
    (IsName h.0 × IsTrue (h.1.0.0 || is_empty h.1.0.1) × Each IsName h.1.0.1 × IfSome h.1.1 IsName) × FitsKind function h.1.0.0 h.1.1 × (heading_tokens h ≡ flat slices)

has-brackets : (brackets : Bool) (dummies : List Name) (tokens : List Token) → not (is_empty tokens) ≡ true → spellings.arguments named brackets dummies ≡ tokens → brackets ≡ true
has-brackets true dummies tokens some spelled = refl
has-brackets false dummies [] some spelled = absurd (false≢true some)
has-brackets false dummies (token ∷ tokens) some spelled = absurd (cc)

no-result : (result : Option Name) (slices : List (List Token)) → is_empty slices ≡ true → optional spell_result result ≡ flat slices → result ≡ None
no-result None slices empty spelled = refl
no-result (Some text) [] empty spelled = absurd (cc)
no-result (Some text) (slice ∷ slices) empty spelled = absurd (false≢true empty)

fits-kind : (function : Bool) (tokens : List Token) (slices : List (List Token)) (args : Bool × List Name) (result : Option Name) → fits_parts function tokens slices ≡ true → spellings.arguments named args.0 args.1 ≡ tokens → optional spell_result result ≡ flat slices
    → FitsKind function args.0 result
fits-kind true tokens slices args result fits spelled ends = has-brackets args.0 args.1 tokens fits spelled
fits-kind false tokens slices args result fits spelled ends = no-result result slices fits ends

heading-found : (function : Bool) (slices : List (List Token)) → Holds (HeadingSpelled function slices) (heading_of function slices)
heading-found function ((Token.Word text ∷ tokens) ∷ slices) =
    if-holds (HeadingSpelled function ((Token.Word text ∷ tokens) ∷ slices)) (is_name text && fits_parts function tokens slices) (mapped (λ parts. (text, parts)) (both (arguments name tokens) (result_of slices)))
    (λ is.
    let fits = both-true (is_name text) (fits_parts function tokens slices) is in
    mapped-holds (λ (parts : (Bool × List Name) × Option Name). ArgumentsSpelled IsName named tokens parts.0 × ResultSpelled slices parts.1) (HeadingSpelled function ((Token.Word text ∷ tokens) ∷ slices)) (λ (parts : (Bool × List Name) × Option Name). (text, parts))
    (both (arguments name tokens) (result_of slices))
    (both-hold (ArgumentsSpelled IsName named tokens) (ResultSpelled slices) (arguments name tokens) (result_of slices) (arguments-found IsName named name name-found tokens) (result-found slices))
    (λ parts holds. (
      (fits.0, holds.0.0, holds.0.1, holds.1.0),
      fits-kind function tokens slices parts.0 parts.1 fits.1 holds.0.2 holds.1.1,
      ap (λ (front : List Token). Token.Word text ∷ (front ++ optional spell_result parts.1)) holds.0.2 ∙ ap (λ (back : List Token). Token.Word text ∷ (tokens ++ back)) holds.1.1,
    )))
heading-found function slices = tt

kind-word : (first : Keyword) (tokens : List Token) (function : Bool) → procedure_named (Some first) tokens ≡ Some function → procedure_word function ∷ [] ≡ Token.Word (letters first) ∷ tokens
kind-word Keyword.Function [] function found = let one : true ≡ function = cc in ap (λ (b : Bool). procedure_word b ∷ []) (sym one)
kind-word Keyword.Subroutine [] function found = let one : false ≡ function = cc in ap (λ (b : Bool). procedure_word b ∷ []) (sym one)
kind-word first tokens function found = absurd (cc)

kind-named : (text : Name) (first : Option Keyword) (tokens : List Token) (function : Bool) → keyword text ≡ first → procedure_named first tokens ≡ Some function → procedure_word function ∷ [] ≡ Token.Word text ∷ tokens
kind-named text None tokens function is found = absurd (cc)
kind-named text (Some first) tokens function is found = kind-word first tokens function found ∙ ap (λ (t : Name). Token.Word t ∷ tokens) (sym (keyword-found text first is))

kind-found : (slice : List Token) (function : Bool) → procedure_kind slice ≡ Some function → procedure_word function ∷ [] ≡ slice
kind-found (Token.Word text ∷ tokens) function found = kind-named text (keyword text) tokens function refl found
kind-found slice function found = absurd (cc)

abbrev PrefixIn : List Token → Prefixed → Type 0
PrefixIn tokens = Spelled RankedPrefix spell_prefix tokens

type-prefix : (slice : List Token) → Holds (PrefixIn slice) (mapped (λ form. typed form) (type_form slice))
type-prefix slice = mapped-holds (Spelled RankedType spell_type slice) (PrefixIn slice) (λ (form : TypeForm). typed form) (type_form slice) (type-found slice) (λ form holds. holds)

prefix-word : (first : Keyword) (tokens : List Token) → Holds (PrefixIn (Token.Word (letters first) ∷ tokens)) (prefix_named (Some first) tokens (Token.Word (letters first) ∷ tokens))
prefix-word Keyword.Pure [] = (tt, refl)
prefix-word Keyword.Recursive [] = (tt, refl)
prefix-word first tokens = type-prefix (Token.Word (letters first) ∷ tokens)

prefix-found : IsSound RankedPrefix spell_prefix one_prefix
prefix-found (Token.Word text ∷ tokens) =
    by-keyword PrefixIn (λ text found. prefix_named found tokens (Token.Word text ∷ tokens)) text tokens (λ first. prefix-word first tokens) (type-prefix (Token.Word text ∷ tokens))
prefix-found tokens = tt

front-word : (slices : List (List Token)) → flat (in_front slices) ++ flat (from_word slices) ≡ flat slices
front-word [] = refl
front-word (slice ∷ slices) =
    elim (cases_Bool (is_none (procedure_kind slice))) [
      | inl none ↦ rw none (append_assoc slice (flat (in_front slices)) (flat (from_word slices)) ∙ ap (λ (more : List Token). slice ++ more) (front-word slices))
      | inr some ↦ rw some refl
    ]

prefixes-flat : (prefixes : List Prefixed) → flat_map spell_prefix prefixes ≡ flat (map spell_prefix prefixes)
prefixes-flat [] = refl
prefixes-flat (first ∷ rest) = ap (λ (more : List Token). spell_prefix first ++ more) (prefixes-flat rest)

-- the conditions on prefixes, from their shapes
shapes-rank : (function : Bool) (prefixes : List Prefixed) → fits_shapes function (map slice_shape (map spell_prefix prefixes)) ≡ true → (each_once prefixes ≡ true) × ((function || not (list_any is_typed prefixes)) ≡ true)
shapes-rank function prefixes fits =
    let parts = both-true (once_only (map shape_of prefixes)) (function || not (list_any (same_shape Shape.Typed) (map shape_of prefixes))) (sym (ap (fits_shapes function) (prefix-shapes prefixes)) ∙ fits) in
    (sym (once-shapes prefixes) ∙ parts.0, sym (ap (λ (any : Bool). function || not any) (any-typed prefixes)) ∙ parts.1)

kind-fits : (function : Bool) (prefixes : List Prefixed) (brackets : Bool) (dummies : List Name) (result : Option Name) → (function || not (list_any is_typed prefixes)) ≡ true → (brackets || is_empty dummies) ≡ true → FitsKind function brackets result
    → IsTrue (fits_heading function prefixes brackets dummies result)
kind-fits true prefixes brackets dummies result none some fits = fits
kind-fits false prefixes brackets dummies result none some fits = rw none (rw some (rw fits refl))

procedure-found : (prefixes slices : List (List Token)) (slice : List Token) (function : Bool) → procedure_kind slice ≡ Some function → Holds (LineIn (flat prefixes ++ flat (slice ∷ slices))) (procedure_by prefixes slices function)
procedure-found prefixes slices slice function is =
    let Q = LineIn (flat prefixes ++ flat (slice ∷ slices)) in
    if-holds Q (fits_shapes function (map slice_shape prefixes)) (mapped (procedure_from function) (both (items one_prefix prefixes) (heading_of function slices)))
    (λ fits.
    mapped-holds (λ (parts : List Prefixed × Heading). (Each RankedPrefix parts.0 × (map spell_prefix parts.0 ≡ prefixes)) × HeadingSpelled function slices parts.1) Q (procedure_from function) (both (items one_prefix prefixes) (heading_of function slices))
    (both-hold (λ (found : List Prefixed). Each RankedPrefix found × (map spell_prefix found ≡ prefixes)) (HeadingSpelled function slices) (items one_prefix prefixes) (heading_of function slices)
    (items-found RankedPrefix spell_prefix one_prefix prefix-found prefixes) (heading-found function slices))
    (λ parts holds.
    let ranks = shapes-rank function parts.0 (ap (λ (front : List (List Token)). fits_shapes function (map slice_shape front)) holds.0.1 ∙ fits) in (
      (holds.0.0, ranks.0, holds.1.0.0, holds.1.0.2, holds.1.0.3, kind-fits function parts.0 parts.1.1.0.0 parts.1.1.0.1 parts.1.1.1 ranks.1 holds.1.0.1 holds.1.1),
      ap (λ (front : List Token). front ++ procedure_word function ∷ heading_tokens parts.1) (prefixes-flat parts.0 ∙ ap flat holds.0.1)
          ∙ ap (λ (back : List Token). flat prefixes ++ procedure_word function ∷ back) holds.1.2
          ∙ ap (λ (front : List Token). flat prefixes ++ (front ++ flat slices)) (kind-found slice function is),
    )))

parts-found : (prefixes slices : List (List Token)) → Holds (LineIn (flat prefixes ++ flat slices)) (procedure_parts prefixes slices)
parts-found prefixes [] = tt
parts-found prefixes (slice ∷ slices) =
    given-holds (LineIn (flat prefixes ++ flat (slice ∷ slices))) (procedure_kind slice) (procedure_by prefixes slices) (λ function is. procedure-found prefixes slices slice function is)

pub heading-line : (text : Name) (tokens : List Token) → Holds (LineIn (Token.Word text ∷ tokens)) (heading (Token.Word text ∷ tokens))
heading-line text tokens =
    let slices : List (List Token) = cuts Stop.Word 0 (Token.Word text ∷ tokens) in
    subst (λ (all : List Token). Holds (LineIn all) (heading_slices slices)) (front-word slices ∙ cuts-flat Stop.Word 0 (Token.Word text ∷ tokens)) (parts-found (in_front slices) (from_word slices))

-- ---- either, behind a type

pub typed-found : (text : Name) (tokens : List Token) → Holds (LineIn (Token.Word text ∷ tokens)) (typed_from (Token.Word text) tokens)
typed-found text tokens =
    let form : List Token = Token.Word text ∷ before Stop.Part 0 tokens in
    let rest : List Token = from Stop.Part 0 tokens in
    either-holds (LineIn (Token.Word text ∷ tokens)) (two_words rest) (heading (Token.Word text ∷ tokens)) (declaration form rest)
    (λ is. heading-line text tokens)
    (λ not.
    subst (λ (all : List Token). Holds (LineIn all) (declaration form rest)) (ap (λ (more : List Token). Token.Word text ∷ more) (before-from Stop.Part 0 tokens)) (declaration-found form rest))
