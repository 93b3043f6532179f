-- What is found as a part of a statement is ranked, and spells the tokens.
use Rattle.std.proofs.Common.{◌≡◌, Bool, true, false, List, [], ◌∷◌, ◌++◌, Option, Some, None, refl, sym, ap, subst, ◌∙◌, append_assoc, append-nil}
use Rattle.std.specs.Prelude.{codes, IfSome}
use Rattle.std.proofs.lemmas.Bool.{false≢true}
use Rattle.dc_int.specs.declared.operation.ReduceOp.{ReduceOp}
use Rattle.dc_tree.specs.declared.token.Mark.{Mark}
use Rattle.dc_tree.specs.declared.token.Token.{Token}
use Rattle.dc_tree.specs.declared.stmt.Intent.{Intent}
use Rattle.dc_tree.specs.declared.stmt.Local.{Local}
use Rattle.dc_tree.specs.Names.{is_name}
use Rattle.dc_tree.specs.Syntax.{Tree, chars}
use Rattle.dc_tree.specs.Grammar.{Ranked, spell, key}
use Rattle.dc_tree.specs.Statements.{Name, TypeForm, Dimension, Initial}
use Rattle.dc_tree.specs.Statements.{logical, integer, dimension, intent, scalar, listed}
use Rattle.dc_tree.specs.Statements.{only, from, up_to, between}
use Rattle.dc_tree.specs.Spelling.{word, colon, equals, bracketed, enclosed, separated, optional, named, trees, spell_type, spell_dimension, dimensions, spell_intent, spell_attribute, spell_initial, spell_declared, spell_ranging, spell_case, reduce_token, spell_local, spell_target}
use Rattle.dc_tree.specs.Ranking.{OneOrMore, IsName, RankedType, RankedDimension, RankedAttribute, RankedInitial, RankedDeclared, RankedIndexType, RankedRanging, RankedCase, RankedLocal, RankedTarget, RankedItem}
use Rattle.dc_slices.specs.declared.keyword.Keyword.{Keyword}
use Rattle.dc_slices.specs.declared.cutting.Stop.{Stop}
use Rattle.dc_slices.specs.Words.{keyword, is, letters}
use Rattle.dc_slices.specs.Cutting.{before, pieces, in_brackets, in_list}
use Rattle.dc_slices.specs.Cutting as cutting
use Rattle.dc_slices.specs.Finding.{Found, plainly, mapped, both, given, expr, name, list}
use Rattle.dc_parts.specs.Parts.{is_keyed, past_two, kind, with_kind, integer_with, type_named, type_form, index_named, index_type, dimension_pieces, dimension_from, to_dimension, one_dimension, bounds, intent_named, intent_of, attribute_named, one_attribute, value_of, initial_of, shape, declared_from, entity, bare_from, bare_entity, step_of, limits, ranging_from, ranging, two_ends, case_pieces, one_case, reduction_named, reduction_marked, reduction, reduced, by_default, local_named, locality, subscripts, target_from, target, item}
use Rattle.dc_stmt.proofs.CutLaws.{joined, StopsAt, pieces-joined, colon-stops, equals-stops, before-from, split-at, split-none, from-stops, in_brackets-found, in_list-found}
use Rattle.dc_stmt.proofs.WordLaws.{keyword-found, word-found}
use Rattle.dc_stmt.proofs.PartsComplete.{IsBare}
use Rattle.dc_stmt.proofs.Found.{Holds, Spelled, IsSound, mapped-holds, both-hold, given-holds, if-holds, either-holds, holds-more, expr-found, name-found, list-found}

-- ---- by the first word

pub by-keyword : {A : Type 0} (P : List Token → A → Type 0) (read : Name → Option Keyword → Found A) (text : Name) (tokens : List Token)
    → ((word : Keyword) → Holds (P (Token.Word (letters word) ∷ tokens)) (read (letters word) (Some word))) → Holds (P (Token.Word text ∷ tokens)) (read text None)
    → Holds (P (Token.Word text ∷ tokens)) (read text (keyword text))
by-keyword P read text tokens words none = go (keyword text) refl
  where
    go : (found : Option Keyword) → keyword text ≡ found → Holds (P (Token.Word text ∷ tokens)) (read text found)
    go None is = none
    go (Some word) is = subst (λ (t : Name). Holds (P (Token.Word t ∷ tokens)) (read t (Some word))) (sym (keyword-found text word is)) (words word)

-- ---- in brackets

pub in-brackets : {A : Type 0} (Fits : A → Type 0) (spelling : A → List Token) (read : List Token → Found A) → IsSound Fits spelling read
    → IsSound Fits (λ (a : A). bracketed (spelling a)) (λ (tokens : List Token). given (in_brackets tokens) read)
in-brackets {A = A} Fits spelling read sound tokens =
    given-holds (Spelled Fits (λ (a : A). bracketed (spelling a)) tokens) (in_brackets tokens) read
    (λ inside is.
    holds-more (Spelled Fits spelling inside) (Spelled Fits (λ (a : A). bracketed (spelling a)) tokens) (read inside) (sound inside)
    (λ a holds. (holds.0, ap bracketed holds.1 ∙ sym (in_brackets-found tokens inside is))))

pub in-square : {A : Type 0} (Fits : A → Type 0) (spelling : A → List Token) (read : List Token → Found A) → IsSound Fits spelling read
    → IsSound Fits (λ (a : A). enclosed (spelling a)) (λ (tokens : List Token). given (in_list tokens) read)
in-square {A = A} Fits spelling read sound tokens =
    given-holds (Spelled Fits (λ (a : A). enclosed (spelling a)) tokens) (in_list tokens) read
    (λ inside is.
    holds-more (Spelled Fits spelling inside) (Spelled Fits (λ (a : A). enclosed (spelling a)) tokens) (read inside) (sound inside)
    (λ a holds. (holds.0, ap enclosed holds.1 ∙ sym (in_list-found tokens inside is))))

-- ---- types

keyed-found : (tokens : List Token) → is_keyed tokens ≡ true → tokens ≡ key true ++ past_two tokens
keyed-found (word ∷ Token.Mark Mark.Equals ∷ tokens) is = ap (λ (t : Token). t ∷ Token.Mark Mark.Equals ∷ tokens) (word-found Keyword.Kind word is)
keyed-found tokens is = absurd (false≢true is)

abbrev KindSpelled : List Token → Bool × Tree → Type 0
KindSpelled tokens given = Ranked given.1 × (key given.0 ++ spell given.1 ≡ tokens)

kind-found : (tokens : List Token) → Holds (KindSpelled tokens) (kind tokens)
kind-found tokens =
    either-holds (KindSpelled tokens) (is_keyed tokens) (mapped (λ e. (true, e)) (expr (past_two tokens))) (mapped (λ e. (false, e)) (expr tokens))
    (λ is.
    mapped-holds (Spelled Ranked spell (past_two tokens)) (KindSpelled tokens) (λ (e : Tree). (true, e)) (expr (past_two tokens)) (expr-found (past_two tokens))
    (λ e holds. (holds.0, ap (λ (more : List Token). key true ++ more) holds.1 ∙ sym (keyed-found tokens is))))
    (λ not. mapped-holds (Spelled Ranked spell tokens) (KindSpelled tokens) (λ (e : Tree). (false, e)) (expr tokens) (expr-found tokens) (λ e holds. holds))

integer-index : (tokens : List Token) → Holds (Spelled RankedIndexType spell_type (word "integer" ∷ tokens)) (integer_with tokens)
integer-index [] = (refl, refl)
integer-index (token ∷ tokens) =
    given-holds (Spelled RankedIndexType spell_type (word "integer" ∷ token ∷ tokens)) (in_brackets (token ∷ tokens)) (λ inside. mapped with_kind (kind inside))
    (λ inside is.
    mapped-holds (KindSpelled inside) (Spelled RankedIndexType spell_type (word "integer" ∷ token ∷ tokens)) with_kind (kind inside) (kind-found inside)
    (λ e holds. (holds.0, ap (λ (more : List Token). word "integer" ∷ more) (ap bracketed holds.1 ∙ sym (in_brackets-found (token ∷ tokens) inside is)))))

index-ranked : (form : TypeForm) → RankedIndexType form → RankedType form
index-ranked logical ranked = absurd ranked
index-ranked (integer keyed given) ranked = ranked

integer-found : (tokens : List Token) → Holds (Spelled RankedType spell_type (word "integer" ∷ tokens)) (integer_with tokens)
integer-found tokens =
    holds-more (Spelled RankedIndexType spell_type (word "integer" ∷ tokens)) (Spelled RankedType spell_type (word "integer" ∷ tokens)) (integer_with tokens) (integer-index tokens) (λ form holds. (index-ranked form holds.0, holds.1))

index-word : (first : Keyword) (tokens : List Token) → Holds (Spelled RankedIndexType spell_type (Token.Word (letters first) ∷ tokens)) (index_named (Some first) tokens)
index-word Keyword.Integer tokens = integer-index tokens
index-word first tokens = tt

pub index-type-found : IsSound RankedIndexType spell_type index_type
index-type-found (Token.Word text ∷ tokens) = by-keyword (Spelled RankedIndexType spell_type) (λ text found. index_named found tokens) text tokens (λ first. index-word first tokens) tt
index-type-found tokens = tt

type-word : (first : Keyword) (tokens : List Token) → Holds (Spelled RankedType spell_type (Token.Word (letters first) ∷ tokens)) (type_named (Some first) tokens)
type-word Keyword.Logical [] = (tt, refl)
type-word Keyword.Integer tokens = integer-found tokens
type-word first tokens = tt

pub type-found : IsSound RankedType spell_type type_form
type-found (Token.Word text ∷ tokens) = by-keyword (Spelled RankedType spell_type) (λ text found. type_named found tokens) text tokens (λ first. type-word first tokens) tt
type-found tokens = tt

-- ---- declarations

two-joined : (mark : Mark) (one other first second : List Token) → one ≡ first → other ≡ second → (one ++ Token.Mark mark ∷ []) ++ other ≡ joined mark (first ∷ second ∷ [])
two-joined mark one other first second p q =
    append_assoc one (Token.Mark mark ∷ []) other ∙ ap (λ (more : List Token). one ++ Token.Mark mark ∷ more) (q ∙ sym (append-nil second)) ∙ ap (λ (front : List Token). front ++ Token.Mark mark ∷ (second ++ [])) p

one-joined : (mark : Mark) (one first : List Token) → one ≡ first → one ≡ joined mark (first ∷ [])
one-joined mark one first p = p ∙ sym (append-nil first)

some-tree : (tokens : List Token) → Holds (λ (low : Option Tree). IfSome low Ranked × (optional (λ low. spell low ++ colon ∷ []) low ≡ tokens ++ colon ∷ [])) (mapped (λ e. Some e) (expr tokens))
some-tree tokens =
    mapped-holds (Spelled Ranked spell tokens) (λ (low : Option Tree). IfSome low Ranked × (optional (λ low. spell low ++ colon ∷ []) low ≡ tokens ++ colon ∷ [])) (λ (e : Tree). Some e) (expr tokens) (expr-found tokens)
    (λ e holds. (holds.0, ap (λ (front : List Token). front ++ colon ∷ []) holds.1))

dimension-slices : (slices : List (List Token)) → Holds (Spelled RankedDimension spell_dimension (joined Mark.Colon slices)) (dimension_pieces slices)
dimension-slices (high ∷ []) =
    mapped-holds (Spelled Ranked spell high) (Spelled RankedDimension spell_dimension (joined Mark.Colon (high ∷ []))) to_dimension (expr high) (expr-found high)
    (λ e holds. ((tt, holds.0), one-joined Mark.Colon (spell e) high holds.1))
dimension-slices (low ∷ high ∷ []) =
    mapped-holds (λ (ends : Option Tree × Tree). (IfSome ends.0 Ranked × (optional (λ low. spell low ++ colon ∷ []) ends.0 ≡ low ++ colon ∷ [])) × Spelled Ranked spell high ends.1)
    (Spelled RankedDimension spell_dimension (joined Mark.Colon (low ∷ high ∷ []))) dimension_from (both (mapped (λ e. Some e) (expr low)) (expr high))
    (both-hold (λ (low' : Option Tree). IfSome low' Ranked × (optional (λ low. spell low ++ colon ∷ []) low' ≡ low ++ colon ∷ [])) (Spelled Ranked spell high) (mapped (λ e. Some e) (expr low)) (expr high) (some-tree low) (expr-found high))
    (λ ends holds. (
      (holds.0.0, holds.1.0),
      ap (λ (front : List Token). front ++ spell ends.1) holds.0.1 ∙ two-joined Mark.Colon low (spell ends.1) low high refl holds.1.1,
    ))
dimension-slices slices = tt

pub by-pieces : {A : Type 0} (P : List Token → A → Type 0) (read : List (List Token) → Found A) (stop : Stop) (mark : Mark) → StopsAt stop mark
    → ((slices : List (List Token)) → Holds (P (joined mark slices)) (read slices)) → (tokens : List Token) → Holds (P tokens) (read (pieces stop tokens))
by-pieces P read stop mark stops sound tokens = subst (λ (t : List Token). Holds (P t) (read (pieces stop tokens))) (pieces-joined stop mark stops tokens) (sound (pieces stop tokens))

dimension-found : IsSound RankedDimension spell_dimension one_dimension
dimension-found tokens = by-pieces (Spelled RankedDimension spell_dimension) dimension_pieces Stop.Colon Mark.Colon colon-stops dimension-slices tokens

pub bounds-found : IsSound (OneOrMore RankedDimension) dimensions bounds
bounds-found tokens = in-brackets (OneOrMore RankedDimension) (separated spell_dimension) (list one_dimension) (list-found RankedDimension spell_dimension one_dimension dimension-found) tokens

abbrev AnyIntent : Intent → Type 0
AnyIntent given = Unit {0}

intent-word : (first : Keyword) (tokens : List Token) → Holds (Spelled AnyIntent spell_intent (Token.Word (letters first) ∷ tokens)) (intent_named (Some first) tokens)
intent-word Keyword.Into [] = (tt, refl)
intent-word Keyword.Into (second ∷ []) =
    if-holds (Spelled AnyIntent spell_intent (word "in" ∷ second ∷ [])) (is Keyword.Out second) (plainly Intent.InOutApart)
    (λ same. (tt, ap (λ (t : Token). word "in" ∷ t ∷ []) (sym (word-found Keyword.Out second same))))
intent-word Keyword.Out [] = (tt, refl)
intent-word Keyword.InOut [] = (tt, refl)
intent-word first tokens = tt

intent-found : IsSound AnyIntent spell_intent intent_of
intent-found (Token.Word text ∷ tokens) = by-keyword (Spelled AnyIntent spell_intent) (λ text found. intent_named found tokens) text tokens (λ first. intent-word first tokens) tt
intent-found tokens = tt

attribute-word : (first : Keyword) (tokens : List Token) → Holds (Spelled RankedAttribute spell_attribute (Token.Word (letters first) ∷ tokens)) (attribute_named (Some first) tokens)
attribute-word Keyword.Parameter [] = (tt, refl)
attribute-word Keyword.Dimension tokens =
    mapped-holds (Spelled (OneOrMore RankedDimension) dimensions tokens) (Spelled RankedAttribute spell_attribute (word "dimension" ∷ tokens)) (λ (found : List Dimension). dimension found) (bounds tokens) (bounds-found tokens)
    (λ found holds. (holds.0, ap (λ (more : List Token). word "dimension" ∷ more) holds.1))
attribute-word Keyword.Intent tokens =
    mapped-holds (Spelled AnyIntent (λ (i : Intent). bracketed (spell_intent i)) tokens) (Spelled RankedAttribute spell_attribute (word "intent" ∷ tokens)) (λ (found : Intent). intent found) (given (in_brackets tokens) intent_of)
    (in-brackets AnyIntent spell_intent intent_of intent-found tokens) (λ found holds. (tt, ap (λ (more : List Token). word "intent" ∷ more) holds.1))
attribute-word first tokens = tt

pub attribute-found : IsSound RankedAttribute spell_attribute one_attribute
attribute-found (Token.Word text ∷ tokens) = by-keyword (Spelled RankedAttribute spell_attribute) (λ text found. attribute_named found tokens) text tokens (λ first. attribute-word first tokens) tt
attribute-found tokens = tt

pub trees-found : IsSound (OneOrMore Ranked) trees (list expr)
trees-found = list-found Ranked spell expr expr-found

abbrev ValueSpelled : List Token → Initial → Type 0
ValueSpelled tokens value = RankedInitial value × (spell_initial value ≡ equals ∷ tokens)

scalar-found : (tokens : List Token) → Holds (ValueSpelled tokens) (mapped (λ e. scalar e) (expr tokens))
scalar-found tokens =
    mapped-holds (Spelled Ranked spell tokens) (ValueSpelled tokens) (λ (e : Tree). scalar e) (expr tokens) (expr-found tokens) (λ e holds. (holds.0, ap (λ (more : List Token). equals ∷ more) holds.1))

value-found : (tokens : List Token) → Holds (ValueSpelled tokens) (value_of tokens)
value-found (Token.Mark Mark.OpenList ∷ tokens) =
    mapped-holds (Spelled (OneOrMore Ranked) (λ (values : List Tree). enclosed (trees values)) (Token.Mark Mark.OpenList ∷ tokens)) (ValueSpelled (Token.Mark Mark.OpenList ∷ tokens)) (λ (values : List Tree). listed values)
    (given (in_list (Token.Mark Mark.OpenList ∷ tokens)) (list expr)) (in-square (OneOrMore Ranked) trees (list expr) trees-found (Token.Mark Mark.OpenList ∷ tokens))
    (λ values holds. (holds.0, ap (λ (more : List Token). equals ∷ more) holds.1))
value-found tokens = scalar-found tokens

-- what is found from the `=` on
initial-found : (tokens rest : List Token) → cutting.from Stop.Equals 0 tokens ≡ rest → Holds (λ (value : Initial). RankedInitial value × (spell_initial value ≡ rest)) (initial_of rest)
initial-found tokens [] is = (tt, refl)
initial-found tokens (mark ∷ rest) is =
    let one : mark ≡ equals = from-stops Stop.Equals Mark.Equals equals-stops 0 tokens mark rest is in
    holds-more (ValueSpelled rest) (λ (value : Initial). RankedInitial value × (spell_initial value ≡ mark ∷ rest)) (value_of rest) (value-found rest)
    (λ value holds. (holds.0, holds.1 ∙ ap (λ (t : Token). t ∷ rest) (sym one)))

abbrev ShapeSpelled : List Token → Option (List Dimension) → Type 0
ShapeSpelled tokens found = IfSome found (OneOrMore RankedDimension) × (optional dimensions found ≡ tokens)

shape-found : (tokens : List Token) → Holds (ShapeSpelled tokens) (shape tokens)
shape-found [] = (tt, refl)
shape-found (token ∷ tokens) =
    mapped-holds (Spelled (OneOrMore RankedDimension) dimensions (token ∷ tokens)) (ShapeSpelled (token ∷ tokens)) (λ (found : List Dimension). Some found) (bounds (token ∷ tokens)) (bounds-found (token ∷ tokens)) (λ found holds. holds)

pub entity-found : IsSound RankedDeclared spell_declared entity
entity-found (Token.Word text ∷ tokens) =
    if-holds (Spelled RankedDeclared spell_declared (Token.Word text ∷ tokens)) (is_name text) (mapped (declared_from text) (both (shape (before Stop.Equals 0 tokens)) (initial_of (cutting.from Stop.Equals 0 tokens))))
    (λ named.
    mapped-holds (λ (parts : Option (List Dimension) × Initial). ShapeSpelled (before Stop.Equals 0 tokens) parts.0 × (RankedInitial parts.1 × (spell_initial parts.1 ≡ cutting.from Stop.Equals 0 tokens)))
    (Spelled RankedDeclared spell_declared (Token.Word text ∷ tokens)) (declared_from text) (both (shape (before Stop.Equals 0 tokens)) (initial_of (cutting.from Stop.Equals 0 tokens)))
    (both-hold (ShapeSpelled (before Stop.Equals 0 tokens)) (λ (value : Initial). RankedInitial value × (spell_initial value ≡ cutting.from Stop.Equals 0 tokens)) (shape (before Stop.Equals 0 tokens)) (initial_of (cutting.from Stop.Equals 0 tokens))
    (shape-found (before Stop.Equals 0 tokens)) (initial-found tokens (cutting.from Stop.Equals 0 tokens) refl))
    (λ parts holds. (
      (named, holds.0.0, holds.1.0),
      ap (λ (more : List Token). Token.Word text ∷ more)
          (ap (λ (front : List Token). front ++ spell_initial parts.1) holds.0.1 ∙ ap (λ (back : List Token). before Stop.Equals 0 tokens ++ back) holds.1.1 ∙ before-from Stop.Equals 0 tokens),
    )))
entity-found tokens = tt

pub bare-found : IsSound IsBare spell_declared bare_entity
bare-found (Token.Word text ∷ tokens) =
    if-holds (Spelled IsBare spell_declared (Token.Word text ∷ tokens)) (is_name text) (mapped (bare_from text) (shape tokens))
    (λ named.
    mapped-holds (ShapeSpelled tokens) (Spelled IsBare spell_declared (Token.Word text ∷ tokens)) (bare_from text) (shape tokens) (shape-found tokens)
    (λ found holds. (((named, holds.0, tt), refl), ap (λ (more : List Token). Token.Word text ∷ more) (append-nil (optional dimensions found) ∙ holds.1))))
bare-found tokens = tt

-- ---- a name with its limits

abbrev StepSpelled : Mark → List (List Token) → Option Tree → Type 0
StepSpelled mark slices step = IfSome step Ranked × (optional (λ step. Token.Mark mark ∷ spell step) step ≡ Rattle.dc_stmt.proofs.CutLaws.marked mark slices)

step-found : (mark : Mark) (slices : List (List Token)) → Holds (StepSpelled mark slices) (step_of slices)
step-found mark [] = (tt, refl)
step-found mark (step ∷ []) =
    mapped-holds (Spelled Ranked spell step) (StepSpelled mark (step ∷ [])) (λ (e : Tree). Some e) (expr step) (expr-found step)
    (λ e holds. (holds.0, ap (λ (more : List Token). Token.Mark mark ∷ more) (one-joined mark (spell e) step holds.1)))
step-found mark slices = tt

abbrev Limits : Type 0
Limits = Tree × (Tree × Option Tree)

abbrev LimitsSpelled : Mark → List Token → Limits → Type 0
LimitsSpelled mark tokens limits =
    (Ranked limits.0 × Ranked limits.1.0 × IfSome limits.1.1 Ranked)
    × (spell limits.0 ++ (Token.Mark mark ∷ (spell limits.1.0 ++ optional (λ step. Token.Mark mark ∷ spell step) limits.1.1)) ≡ tokens)

limits-slices : (mark : Mark) (slices : List (List Token)) → Holds (LimitsSpelled mark (joined mark slices)) (limits slices)
limits-slices mark (first ∷ last ∷ slices) =
    holds-more (λ (found : Limits). Spelled Ranked spell first found.0 × (Spelled Ranked spell last found.1.0 × StepSpelled mark slices found.1.1)) (LimitsSpelled mark (joined mark (first ∷ last ∷ slices)))
    (both (expr first) (both (expr last) (step_of slices)))
    (both-hold (Spelled Ranked spell first) (λ (more : Tree × Option Tree). Spelled Ranked spell last more.0 × StepSpelled mark slices more.1) (expr first) (both (expr last) (step_of slices)) (expr-found first)
    (both-hold (Spelled Ranked spell last) (StepSpelled mark slices) (expr last) (step_of slices) (expr-found last) (step-found mark slices)))
    (λ found holds. (
      (holds.0.0, holds.1.0.0, holds.1.1.0),
      ap (λ (front : List Token). front ++ (Token.Mark mark ∷ (spell found.1.0 ++ optional (λ step. Token.Mark mark ∷ spell step) found.1.1))) holds.0.1
          ∙ ap (λ (middle : List Token). first ++ (Token.Mark mark ∷ (middle ++ optional (λ step. Token.Mark mark ∷ spell step) found.1.1))) holds.1.0.1
          ∙ ap (λ (back : List Token). first ++ (Token.Mark mark ∷ (last ++ back))) holds.1.1.1,
    ))
limits-slices mark slices = tt

pub ranging-found : (stop : Stop) (mark : Mark) → StopsAt stop mark → IsSound RankedRanging (spell_ranging (Token.Mark mark)) (ranging stop)
ranging-found stop mark stops (Token.Word text ∷ Token.Mark Mark.Equals ∷ tokens) =
    if-holds (Spelled RankedRanging (spell_ranging (Token.Mark mark)) (Token.Word text ∷ equals ∷ tokens)) (is_name text) (mapped (ranging_from text) (limits (pieces stop tokens)))
    (λ named.
    mapped-holds (LimitsSpelled mark tokens) (Spelled RankedRanging (spell_ranging (Token.Mark mark)) (Token.Word text ∷ equals ∷ tokens)) (ranging_from text) (limits (pieces stop tokens))
    (by-pieces (LimitsSpelled mark) limits stop mark stops (limits-slices mark) tokens)
    (λ found holds. ((named, holds.0.0, holds.0.1, holds.0.2), ap (λ (more : List Token). Token.Word text ∷ equals ∷ more) holds.1)))
ranging-found stop mark stops tokens = tt

-- ---- ranges of a CASE

ends-found : (low high : List Token) → Holds (Spelled RankedCase spell_case (joined Mark.Colon (low ∷ high ∷ []))) (two_ends low high)
ends-found [] high =
    mapped-holds (Spelled Ranked spell high) (Spelled RankedCase spell_case (joined Mark.Colon ([] ∷ high ∷ []))) (λ (e : Tree). up_to e) (expr high) (expr-found high)
    (λ e holds. (holds.0, ap (λ (more : List Token). colon ∷ more) (one-joined Mark.Colon (spell e) high holds.1)))
ends-found (token ∷ low) [] =
    mapped-holds (Spelled Ranked spell (token ∷ low)) (Spelled RankedCase spell_case (joined Mark.Colon ((token ∷ low) ∷ [] ∷ []))) (λ (e : Tree). from e) (expr (token ∷ low)) (expr-found (token ∷ low))
    (λ e holds. (holds.0, ap (λ (front : List Token). front ++ colon ∷ []) holds.1))
ends-found (token ∷ low) (mark ∷ high) =
    mapped-holds (λ (ends : Tree × Tree). Spelled Ranked spell (token ∷ low) ends.0 × Spelled Ranked spell (mark ∷ high) ends.1) (Spelled RankedCase spell_case (joined Mark.Colon ((token ∷ low) ∷ (mark ∷ high) ∷ [])))
    (λ (ends : Tree × Tree). between ends.0 ends.1) (both (expr (token ∷ low)) (expr (mark ∷ high)))
    (both-hold (Spelled Ranked spell (token ∷ low)) (Spelled Ranked spell (mark ∷ high)) (expr (token ∷ low)) (expr (mark ∷ high)) (expr-found (token ∷ low)) (expr-found (mark ∷ high)))
    (λ ends holds. (
      (holds.0.0, holds.1.0),
      sym (append_assoc (spell ends.0) (colon ∷ []) (spell ends.1)) ∙ two-joined Mark.Colon (spell ends.0) (spell ends.1) (token ∷ low) (mark ∷ high) holds.0.1 holds.1.1,
    ))

case-slices : (slices : List (List Token)) → Holds (Spelled RankedCase spell_case (joined Mark.Colon slices)) (case_pieces slices)
case-slices (value ∷ []) =
    mapped-holds (Spelled Ranked spell value) (Spelled RankedCase spell_case (joined Mark.Colon (value ∷ []))) (λ (e : Tree). only e) (expr value) (expr-found value)
    (λ e holds. (holds.0, one-joined Mark.Colon (spell e) value holds.1))
case-slices (low ∷ high ∷ []) = ends-found low high
case-slices slices = tt

pub case-found : IsSound RankedCase spell_case one_case
case-found tokens = by-pieces (Spelled RankedCase spell_case) case_pieces Stop.Colon Mark.Colon colon-stops case-slices tokens

-- ---- localities

pub names-found : IsSound (OneOrMore IsName) (separated named) (list name)
names-found = list-found IsName named name name-found

marked-found : (mark : Mark) (operation : ReduceOp) → reduction_marked mark ≡ Some operation → reduce_token operation ≡ Token.Mark mark
marked-found Mark.Plus operation found = let one : ReduceOp.Add ≡ operation = cc in ap reduce_token (sym one)
marked-found Mark.Times operation found = let one : ReduceOp.Mul ≡ operation = cc in ap reduce_token (sym one)
marked-found Mark.And operation found = let one : ReduceOp.And ≡ operation = cc in ap reduce_token (sym one)
marked-found Mark.Or operation found = let one : ReduceOp.Or ≡ operation = cc in ap reduce_token (sym one)
marked-found Mark.Eqv operation found = let one : ReduceOp.Eqv ≡ operation = cc in ap reduce_token (sym one)
marked-found Mark.Neqv operation found = let one : ReduceOp.Neqv ≡ operation = cc in ap reduce_token (sym one)
marked-found mark operation found = absurd (cc)

word-reduces : (first : Keyword) (operation : ReduceOp) → reduction_named (Some first) ≡ Some operation → reduce_token operation ≡ Token.Word (letters first)
word-reduces Keyword.Max operation found = let one : ReduceOp.Max ≡ operation = cc in ap reduce_token (sym one)
word-reduces Keyword.Min operation found = let one : ReduceOp.Min ≡ operation = cc in ap reduce_token (sym one)
word-reduces Keyword.Iand operation found = let one : ReduceOp.Iand ≡ operation = cc in ap reduce_token (sym one)
word-reduces Keyword.Ior operation found = let one : ReduceOp.Ior ≡ operation = cc in ap reduce_token (sym one)
word-reduces Keyword.Ieor operation found = let one : ReduceOp.Ieor ≡ operation = cc in ap reduce_token (sym one)
word-reduces first operation found = absurd (cc)

named-reduces : (text : Name) (found : Option Keyword) (operation : ReduceOp) → keyword text ≡ found → reduction_named found ≡ Some operation → reduce_token operation ≡ Token.Word text
named-reduces text None operation is reduces = absurd (cc)
named-reduces text (Some first) operation is reduces = word-reduces first operation reduces ∙ ap (λ (t : Name). Token.Word t) (sym (keyword-found text first is))

reduction-found : (token : Token) (operation : ReduceOp) → reduction token ≡ Some operation → reduce_token operation ≡ token
reduction-found (Token.Word text) operation found = named-reduces text (keyword text) operation refl found
reduction-found (Token.Mark mark) operation found = marked-found mark operation found
reduction-found token operation found = absurd (cc)

abbrev LocalSpelled : Name → List Token → Local → Type 0
LocalSpelled first inside local = RankedLocal local × (spell_local local ≡ Token.Word first ∷ bracketed inside)

reduced-found : (inside : List Token) → Holds (LocalSpelled (codes "reduce") inside) (reduced inside)
reduced-found (token ∷ Token.Mark Mark.Colon ∷ tokens) =
    given-holds (LocalSpelled (codes "reduce") (token ∷ colon ∷ tokens)) (reduction token) (λ operation. mapped (λ names. Local.Reduce operation names) (list name tokens))
    (λ operation is.
    mapped-holds (Spelled (OneOrMore IsName) (separated named) tokens) (LocalSpelled (codes "reduce") (token ∷ colon ∷ tokens)) (λ (names : List Name). Local.Reduce operation names) (list name tokens) (names-found tokens)
    (λ names holds. (
      holds.0,
      ap (λ (t : Token). word "reduce" ∷ bracketed (t ∷ colon ∷ separated named names)) (reduction-found token operation is)
          ∙ ap (λ (more : List Token). word "reduce" ∷ bracketed (token ∷ colon ∷ more)) holds.1,
    )))
reduced-found inside = tt

default-found : (inside : List Token) → Holds (LocalSpelled (codes "default") inside) (by_default inside)
default-found (first ∷ []) =
    if-holds (LocalSpelled (codes "default") (first ∷ [])) (is Keyword.Nothing first) (plainly Local.DefaultNone) (λ same. (tt, ap (λ (t : Token). word "default" ∷ bracketed (t ∷ [])) (sym (word-found Keyword.Nothing first same))))
default-found inside = tt

local-word : (first : Keyword) (inside : List Token) → Holds (LocalSpelled (letters first) inside) (local_named (Some first) inside)
local-word Keyword.Local inside =
    mapped-holds (Spelled (OneOrMore IsName) (separated named) inside) (LocalSpelled (codes "local") inside) (λ (names : List Name). Local.Locals names) (list name inside) (names-found inside)
    (λ names holds. (holds.0, ap (λ (more : List Token). word "local" ∷ bracketed more) holds.1))
local-word Keyword.LocalInit inside =
    mapped-holds (Spelled (OneOrMore IsName) (separated named) inside) (LocalSpelled (codes "local_init") inside) (λ (names : List Name). Local.Inits names) (list name inside) (names-found inside)
    (λ names holds. (holds.0, ap (λ (more : List Token). word "local_init" ∷ bracketed more) holds.1))
local-word Keyword.Shared inside =
    mapped-holds (Spelled (OneOrMore IsName) (separated named) inside) (LocalSpelled (codes "shared") inside) (λ (names : List Name). Local.Shared names) (list name inside) (names-found inside)
    (λ names holds. (holds.0, ap (λ (more : List Token). word "shared" ∷ bracketed more) holds.1))
local-word Keyword.Reduce inside = reduced-found inside
local-word Keyword.Default inside = default-found inside
local-word first inside = tt

local-named : (text : Name) (inside : List Token) → Holds (LocalSpelled text inside) (local_named (keyword text) inside)
local-named text inside = go (keyword text) refl
  where
    go : (found : Option Keyword) → keyword text ≡ found → Holds (LocalSpelled text inside) (local_named found inside)
    go None is = tt
    go (Some first) is = subst (λ (t : Name). Holds (LocalSpelled t inside) (local_named (Some first) inside)) (sym (keyword-found text first is)) (local-word first inside)

pub local-found : IsSound RankedLocal spell_local locality
local-found (Token.Word text ∷ tokens) =
    given-holds (Spelled RankedLocal spell_local (Token.Word text ∷ tokens)) (in_brackets tokens) (local_named (keyword text))
    (λ inside is.
    holds-more (LocalSpelled text inside) (Spelled RankedLocal spell_local (Token.Word text ∷ tokens)) (local_named (keyword text) inside) (local-named text inside)
    (λ local holds. (holds.0, holds.1 ∙ ap (λ (more : List Token). Token.Word text ∷ more) (sym (in_brackets-found tokens inside is)))))
local-found tokens = tt

-- ---- what is assigned, read or written

abbrev SubscriptsSpelled : List Token → Option (List Tree) → Type 0
SubscriptsSpelled tokens found = IfSome found (OneOrMore Ranked) × (optional (λ subscripts. bracketed (trees subscripts)) found ≡ tokens)

subscripts-found : (tokens : List Token) → Holds (SubscriptsSpelled tokens) (subscripts tokens)
subscripts-found [] = (tt, refl)
subscripts-found (token ∷ tokens) =
    mapped-holds (Spelled (OneOrMore Ranked) (λ (values : List Tree). bracketed (trees values)) (token ∷ tokens)) (SubscriptsSpelled (token ∷ tokens)) (λ (values : List Tree). Some values) (given (in_brackets (token ∷ tokens)) (list expr))
    (in-brackets (OneOrMore Ranked) trees (list expr) trees-found (token ∷ tokens)) (λ values holds. holds)

pub target-found : IsSound RankedTarget spell_target target
target-found (Token.Word text ∷ tokens) =
    if-holds (Spelled RankedTarget spell_target (Token.Word text ∷ tokens)) (is_name text) (mapped (target_from text) (subscripts tokens))
    (λ named.
    mapped-holds (SubscriptsSpelled tokens) (Spelled RankedTarget spell_target (Token.Word text ∷ tokens)) (target_from text) (subscripts tokens) (subscripts-found tokens)
    (λ found holds. ((named, holds.0), ap (λ (more : List Token). Token.Word text ∷ more) holds.1)))
target-found tokens = tt

item-ranked : (e : Tree) → Ranked e → RankedItem e
item-ranked (chars text) ranked = tt
item-ranked e ranked = ranked

expr-item : (tokens : List Token) → Holds (Spelled RankedItem spell tokens) (expr tokens)
expr-item tokens = holds-more (Spelled Ranked spell tokens) (Spelled RankedItem spell tokens) (expr tokens) (expr-found tokens) (λ e holds. (item-ranked e holds.0, holds.1))

pub item-found : IsSound RankedItem spell item
item-found (Token.Chars text ∷ []) = (tt, refl)
item-found tokens = expr-item tokens
