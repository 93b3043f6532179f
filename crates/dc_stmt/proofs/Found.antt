-- What is found in tokens, from the parts that it is found by.
use Rattle.std.proofs.Common.{◌≡◌, ℕ, Bool, true, false, List, [], ◌∷◌, ◌++◌, map, Option, Some, None, refl, ap, ◌∙◌, inl, inr, append-nil}
use Rattle.std.specs.Prelude.{if◌then◌else◌}
use Rattle.std.proofs.lemmas.Bool.{cases_Bool, false≢true}
use Rattle.dc_tree.specs.declared.token.Mark.{Mark}
use Rattle.dc_tree.specs.declared.token.Token.{Token}
use Rattle.dc_tree.specs.Names.{is_name}
use Rattle.dc_tree.specs.Syntax.{Tree}
use Rattle.dc_tree.specs.Grammar.{Ranked, spell, depth}
use Rattle.dc_tree.specs.Reader.{State, failed, finish, run, trees, Listed, reading}
use Rattle.dc_tree.specs.Statements.{Name}
use Rattle.dc_tree.specs.Spelling.{comma, separated, followed, named, optional}
use Rattle.dc_tree.specs.Ranking.{is_empty, Each, OneOrMore, IsName}
use Rattle.dc_tree.proofs.ReadingComplete.{complete}
use Rattle.dc_tree.proofs.ReadingSound.{sound}
use Rattle.dc_slices.specs.declared.cutting.Class.{Class}
use Rattle.dc_slices.specs.declared.cutting.Stop.{Stop}
use Rattle.dc_slices.specs.Cutting.{before, later, pieces, halts}
use Rattle.dc_slices.specs.Finding.{Found, plainly, mapped, both, given, measured, expr, name, label, items, list, any_list, followed_list}
use Rattle.dc_stmt.specs.Depth.{deepest_of}
use Rattle.dc_stmt.proofs.CutLaws.{marked, joined, pieces-joined, later-joined, comma-stops}
use Rattle.dc_stmt.proofs.Clear.{Passes, append-passes, nothing-passes, token-passes, one-piece, next-piece}

-- What is found, if anything is, has a property.
abbrev pub Holds : {A : Type 0} → (A → Type 0) → Found A → Type 0
Holds P None = Unit {0}
Holds P (Some found) = P found.0

-- It fits, and its spelling is the tokens.
abbrev pub Spelled : {A : Type 0} → (A → Type 0) → (A → List Token) → List Token → A → Type 0
Spelled Fits spelling tokens a = Fits a × (spelling a ≡ tokens)

-- All that fits is found in its spelling, with its depth.
abbrev pub IsComplete : {A : Type 0} → (A → Type 0) → (A → List Token) → (A → ℕ) → (List Token → Found A) → Type 0
IsComplete {A = A} Fits spelling depth_of read = (a : A) → Fits a → read (spelling a) ≡ Some (a, depth_of a)

-- All that is found fits, and is spelled by the tokens.
abbrev pub IsSound : {A : Type 0} → (A → Type 0) → (A → List Token) → (List Token → Found A) → Type 0
IsSound Fits spelling read = (tokens : List Token) → Holds (Spelled Fits spelling tokens) (read tokens)

-- ---- properties of what is found

pub mapped-holds : {A B : Type 0} (P : A → Type 0) (Q : B → Type 0) (f : A → B) (found : Found A) → Holds P found → ((a : A) → P a → Q (f a)) → Holds Q (mapped f found)
mapped-holds P Q f None holds next = tt
mapped-holds P Q f (Some found) holds next = next found.0 holds

pub both-hold : {A B : Type 0} (P : A → Type 0) (Q : B → Type 0) (one : Found A) (other : Found B) → Holds P one → Holds Q other → Holds (λ (pair : A × B). P pair.0 × Q pair.1) (both one other)
both-hold P Q (Some one) (Some other) first second = (first, second)
both-hold P Q (Some one) None first second = tt
both-hold P Q None other first second = tt

pub given-holds : {A B : Type 0} (Q : B → Type 0) (part : Option A) (next : A → Found B) → ((a : A) → part ≡ Some a → Holds Q (next a)) → Holds Q (given part next)
given-holds Q None next holds = tt
given-holds Q (Some part) next holds = holds part refl

pub if-holds : {A : Type 0} (Q : A → Type 0) (test : Bool) (found : Found A) → (test ≡ true → Holds Q found) → Holds Q (if test then found else None)
if-holds Q true found holds = holds refl
if-holds Q false found holds = tt

pub either-holds : {A : Type 0} (Q : A → Type 0) (test : Bool) (one other : Found A) → (test ≡ true → Holds Q one) → (test ≡ false → Holds Q other) → Holds Q (if test then one else other)
either-holds Q true one other first second = first refl
either-holds Q false one other first second = second refl

-- ---- expressions and names

pub expr-is : IsComplete Ranked spell depth expr
unfolding expr
expr-is e ranked = rw (complete e ranked) refl

measured-holds : (tokens : List Token) (found : Option Tree) → reading tokens ≡ found → Holds (Spelled Ranked spell tokens) (measured found)
measured-holds tokens None is = tt
measured-holds tokens (Some e) is = sound tokens e is

pub expr-found : IsSound Ranked spell expr
unfolding expr
expr-found tokens = measured-holds tokens (reading tokens) refl

pub name-is : (text : Name) → IsName text → name (Token.Word text ∷ []) ≡ Some (text, 0)
name-is text is = rw is refl

pub name-found : IsSound IsName named name
name-found (Token.Word text ∷ []) = if-holds (Spelled IsName named (Token.Word text ∷ [])) (is_name text) (plainly text) (λ is. (is, refl))
name-found tokens = tt

abbrev pub FitsLabel : Option Name → Type 0
FitsLabel None = Unit {0}
FitsLabel (Some text) = IsName text

pub label-is : (text : Option Name) → FitsLabel text → label (optional named text) ≡ Some (text, 0)
label-is None fits = refl
label-is (Some text) fits = rw fits refl

pub label-found : IsSound FitsLabel (λ (text : Option Name). optional named text) label
label-found [] = (tt, refl)
label-found (token ∷ tokens) =
    mapped-holds (Spelled IsName named (token ∷ tokens)) (Spelled FitsLabel (λ (text : Option Name). optional named text) (token ∷ tokens)) (λ (text : Name). Some text) (name (token ∷ tokens)) (name-found (token ∷ tokens)) (λ text is. is)

-- ---- lists

pub nothing-deep : {A : Type 0} (values : List A) → deepest_of (λ (a : A). 0) values ≡ 0
nothing-deep [] = refl
nothing-deep (first ∷ rest) = rw (nothing-deep rest) refl

pub items-are : {A : Type 0} (Fits : A → Type 0) (spelling : A → List Token) (depth_of : A → ℕ) (read : List Token → Found A) → IsComplete Fits spelling depth_of read
    → (values : List A) → Each Fits values → items read (map spelling values) ≡ Some (values, deepest_of depth_of values)
items-are Fits spelling depth_of read complete [] fits = refl
items-are Fits spelling depth_of read complete (first ∷ rest) fits =
    rw (complete first fits.0) (rw (items-are Fits spelling depth_of read complete rest fits.1) refl)

pub items-found : {A : Type 0} (Fits : A → Type 0) (spelling : A → List Token) (read : List Token → Found A) → IsSound Fits spelling read
    → (slices : List (List Token)) → Holds (λ (values : List A). Each Fits values × (map spelling values ≡ slices)) (items read slices)
items-found Fits spelling read sound [] = (tt, refl)
items-found {A = A} Fits spelling read sound (slice ∷ slices) =
    mapped-holds
    (λ (parts : A × List A). Spelled Fits spelling slice parts.0 × (Each Fits parts.1 × (map spelling parts.1 ≡ slices)))
    (λ (values : List A). Each Fits values × (map spelling values ≡ slice ∷ slices))
    (λ (parts : A × List A). parts.0 ∷ parts.1) (both (read slice) (items read slices))
    (both-hold (Spelled Fits spelling slice) (λ (values : List A). Each Fits values × (map spelling values ≡ slices)) (read slice) (items read slices) (sound slice) (items-found Fits spelling read sound slices))
    (λ parts holds. ((holds.0.0, holds.1.0), (let first : spelling parts.0 ≡ slice = holds.0.1 in let more : map spelling parts.1 ≡ slices = holds.1.1 in cc)))

-- what is spelled passes the cuts at commas
abbrev pub IsPassed : {A : Type 0} → Stop → (A → Type 0) → (A → List Token) → Type 0
IsPassed {A = A} stop Fits spelling = (a : A) → Fits a → Passes stop 0 (spelling a)

pub separated-pieces : {A : Type 0} (Fits : A → Type 0) (spelling : A → List Token) → IsPassed Stop.Comma Fits spelling → (first : A) (rest : List A) → Fits first → Each Fits rest
    → pieces Stop.Comma (spelling first ++ followed spelling rest) ≡ spelling first ∷ map spelling rest
separated-pieces Fits spelling passed first [] fits more =
    ap (pieces Stop.Comma) (append-nil (spelling first)) ∙ one-piece Stop.Comma (spelling first) (passed first fits)
separated-pieces Fits spelling passed first (second ∷ rest) fits more =
    next-piece Stop.Comma (spelling first) (Token.Mark Mark.Comma) (spelling second ++ followed spelling rest) (passed first fits) refl
    ∙ ap (λ (slices : List (List Token)). spelling first ∷ slices) (separated-pieces Fits spelling passed second rest more.0 more.1)

pub list-is : {A : Type 0} (Fits : A → Type 0) (spelling : A → List Token) (depth_of : A → ℕ) (read : List Token → Found A) → IsComplete Fits spelling depth_of read → IsPassed Stop.Comma Fits spelling
    → (values : List A) → OneOrMore Fits values → list read (separated spelling values) ≡ Some (values, deepest_of depth_of values)
list-is Fits spelling depth_of read complete passed [] fits = absurd fits
list-is Fits spelling depth_of read complete passed (first ∷ rest) fits =
    ap (items read) (separated-pieces Fits spelling passed first rest fits.0 fits.1) ∙ items-are Fits spelling depth_of read complete (first ∷ rest) fits

any-is : {A : Type 0} (read : List Token → Found A) (tokens : List Token) (found : List A × ℕ) → read [] ≡ None → list read tokens ≡ Some found → any_list read tokens ≡ Some found
any-is read [] found none is = let nothing : list read [] ≡ None = rw none refl in absurd (cc)
any-is read (token ∷ tokens) found none is = is

pub any_list-is : {A : Type 0} (Fits : A → Type 0) (spelling : A → List Token) (depth_of : A → ℕ) (read : List Token → Found A) → IsComplete Fits spelling depth_of read → IsPassed Stop.Comma Fits spelling → read [] ≡ None
    → (values : List A) → Each Fits values → any_list read (separated spelling values) ≡ Some (values, deepest_of depth_of values)
any_list-is Fits spelling depth_of read complete passed none [] fits = refl
any_list-is Fits spelling depth_of read complete passed none (first ∷ rest) fits =
    any-is read (spelling first ++ followed spelling rest) (first ∷ rest, deepest_of depth_of (first ∷ rest)) none (list-is Fits spelling depth_of read complete passed (first ∷ rest) fits)

followed-later : {A : Type 0} (Fits : A → Type 0) (spelling : A → List Token) → IsPassed Stop.Comma Fits spelling → (values : List A) → Each Fits values
    → later Stop.Comma (followed spelling values) ≡ map spelling values
followed-later Fits spelling passed [] fits = refl
followed-later Fits spelling passed (first ∷ rest) fits = separated-pieces Fits spelling passed first rest fits.0 fits.1

nothing-before : {A : Type 0} (spelling : A → List Token) (values : List A) → before Stop.Comma 0 (followed spelling values) ≡ []
nothing-before spelling [] = refl
nothing-before spelling (first ∷ rest) = refl

pub followed_list-is : {A : Type 0} (Fits : A → Type 0) (spelling : A → List Token) (depth_of : A → ℕ) (read : List Token → Found A) → IsComplete Fits spelling depth_of read → IsPassed Stop.Comma Fits spelling
    → (values : List A) → Each Fits values → followed_list read (followed spelling values) ≡ Some (values, deepest_of depth_of values)
followed_list-is Fits spelling depth_of read complete passed values fits =
    rw (nothing-before spelling values) (rw (followed-later Fits spelling passed values fits) (items-are Fits spelling depth_of read complete values fits))

followed-marked : {A : Type 0} (spelling : A → List Token) (values : List A) → followed spelling values ≡ marked Mark.Comma (map spelling values)
followed-marked spelling [] = refl
followed-marked spelling (first ∷ rest) = ap (λ (more : List Token). comma ∷ (spelling first ++ more)) (followed-marked spelling rest)

separated-joined : {A : Type 0} (spelling : A → List Token) (values : List A) → separated spelling values ≡ joined Mark.Comma (map spelling values)
separated-joined spelling [] = refl
separated-joined spelling (first ∷ rest) = ap (λ (more : List Token). spelling first ++ more) (followed-marked spelling rest)

pub holds-more : {A : Type 0} (P Q : A → Type 0) (found : Found A) → Holds P found → ((a : A) → P a → Q a) → Holds Q found
holds-more P Q None holds next = tt
holds-more P Q (Some found) holds next = next found.0 holds

one-or-more : {A : Type 0} (Fits : A → Type 0) (spelling : A → List Token) (values : List A) (slice : List Token) (slices : List (List Token)) → Each Fits values → map spelling values ≡ slice ∷ slices → OneOrMore Fits values
one-or-more Fits spelling [] slice slices fits is = absurd (cc)
one-or-more Fits spelling (first ∷ rest) slice slices fits is = fits

pub list-found : {A : Type 0} (Fits : A → Type 0) (spelling : A → List Token) (read : List Token → Found A) → IsSound Fits spelling read
    → IsSound (OneOrMore Fits) (separated spelling) (list read)
list-found {A = A} Fits spelling read sound tokens =
    holds-more (λ (values : List A). Each Fits values × (map spelling values ≡ pieces Stop.Comma tokens)) (Spelled (OneOrMore Fits) (separated spelling) tokens)
    (list read tokens) (items-found Fits spelling read sound (pieces Stop.Comma tokens))
    (λ values holds. (
      one-or-more Fits spelling values _ _ holds.0 holds.1,
      separated-joined spelling values ∙ ap (joined Mark.Comma) holds.1 ∙ pieces-joined Stop.Comma Mark.Comma comma-stops tokens,
    ))

pub any_list-found : {A : Type 0} (Fits : A → Type 0) (spelling : A → List Token) (read : List Token → Found A) → IsSound Fits spelling read
    → IsSound (Each Fits) (separated spelling) (any_list read)
any_list-found Fits spelling read sound [] = (tt, refl)
any_list-found {A = A} Fits spelling read sound (token ∷ tokens) =
    holds-more (Spelled (OneOrMore Fits) (separated spelling) (token ∷ tokens)) (Spelled (Each Fits) (separated spelling) (token ∷ tokens))
    (list read (token ∷ tokens)) (list-found Fits spelling read sound (token ∷ tokens)) (λ values holds. (each values holds.0, holds.1))
  where
    each : (values : List A) → OneOrMore Fits values → Each Fits values
    each [] fits = tt
    each (first ∷ rest) fits = fits

pub empty-is : (tokens : List Token) → is_empty tokens ≡ true → tokens ≡ []
empty-is [] is = refl
empty-is (token ∷ tokens) is = absurd (false≢true is)

pub followed_list-found : {A : Type 0} (Fits : A → Type 0) (spelling : A → List Token) (read : List Token → Found A) → IsSound Fits spelling read
    → IsSound (Each Fits) (followed spelling) (followed_list read)
followed_list-found {A = A} Fits spelling read sound tokens =
    if-holds (Spelled (Each Fits) (followed spelling) tokens) (is_empty (before Stop.Comma 0 tokens)) (items read (later Stop.Comma tokens))
    (λ none.
    holds-more (λ (values : List A). Each Fits values × (map spelling values ≡ later Stop.Comma tokens)) (Spelled (Each Fits) (followed spelling) tokens)
    (items read (later Stop.Comma tokens)) (items-found Fits spelling read sound (later Stop.Comma tokens))
    (λ values holds.
    (holds.0, followed-marked spelling values ∙ ap (marked Mark.Comma) holds.1 ∙ later-joined Stop.Comma Mark.Comma comma-stops tokens (empty-is (before Stop.Comma 0 tokens) none))))

-- items with commas, where commas are no stops
pub followed-passes : {A : Type 0} (Fits : A → Type 0) (spelling : A → List Token) (stop : Stop) (depth : ℕ) → halts stop depth Class.Comma ≡ false → ((a : A) → Fits a → Passes stop depth (spelling a))
    → (values : List A) → Each Fits values → Passes stop depth (followed spelling values)
followed-passes Fits spelling stop depth on passed [] fits = nothing-passes stop depth
followed-passes Fits spelling stop depth on passed (first ∷ rest) fits =
    append-passes stop depth (comma ∷ []) (spelling first ++ followed spelling rest) (token-passes stop depth comma on refl)
    (append-passes stop depth (spelling first) (followed spelling rest) (passed first fits.0) (followed-passes Fits spelling stop depth on passed rest fits.1))

pub separated-passes : {A : Type 0} (Fits : A → Type 0) (spelling : A → List Token) (stop : Stop) (depth : ℕ) → halts stop depth Class.Comma ≡ false → ((a : A) → Fits a → Passes stop depth (spelling a))
    → (values : List A) → Each Fits values → Passes stop depth (separated spelling values)
separated-passes Fits spelling stop depth on passed [] fits = nothing-passes stop depth
separated-passes Fits spelling stop depth on passed (first ∷ rest) fits =
    append-passes stop depth (spelling first) (followed spelling rest) (passed first fits.0) (followed-passes Fits spelling stop depth on passed rest fits.1)

pub each-of : {A : Type 0} (Fits : A → Type 0) (values : List A) → OneOrMore Fits values → Each Fits values
each-of Fits [] fits = tt
each-of Fits (first ∷ rest) fits = fits

-- ---- the first tokens of an expression

run-failed : (tokens : List Token) → run trees tokens failed ≡ failed
run-failed [] = refl
run-failed (token ∷ tokens) = run-failed tokens

-- no expression has `=` behind a name
no-equals : (text : Name) (tokens : List Token) → reading (Token.Word text ∷ Token.Mark Mark.Equals ∷ tokens) ≡ None
no-equals text tokens =
    elim (cases_Bool (is_name text)) [ inl is ↦ rw is (ap (finish trees) (run-failed tokens)) | inr is ↦ rw is (ap (finish trees) (run-failed tokens)) ]

pub expr-no-equals : (text : Name) (tokens : List Token) → expr (Token.Word text ∷ Token.Mark Mark.Equals ∷ tokens) ≡ None
unfolding expr
expr-no-equals text tokens = rw (no-equals text tokens) refl

pub expr-no-list : (tokens : List Token) → expr (Token.Mark Mark.OpenList ∷ tokens) ≡ None
unfolding expr
expr-no-list tokens = ap (λ (s : State Tree Listed). measured (finish trees s)) (run-failed tokens)

pub expr-no-chars : (text : List ℕ) → expr (Token.Chars text ∷ []) ≡ None
unfolding expr
expr-no-chars text = refl

pub expr-no-empty : expr [] ≡ None
unfolding expr
expr-no-empty = refl
