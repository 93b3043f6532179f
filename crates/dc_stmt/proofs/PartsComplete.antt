-- Parts of statements are found in their spelling, and cuts pass them.
use Rattle.std.proofs.Common.{◌≡◌, ℕ, suc, Bool, true, false, List, [], ◌∷◌, ◌++◌, Option, Some, None, refl, sym, ap, subst, ◌∙◌, append_assoc, append-nil}
use Rattle.std.specs.Prelude.{max, codes, IfSome}
use Rattle.std.proofs.Math.Nat.{max-zero, zero-max}
use Rattle.std.proofs.lemmas.Bool.{false≢true}
use Rattle.dc_int.specs.declared.operation.ReduceOp.{ReduceOp}
use Rattle.dc_tree.specs.declared.token.Mark.{Mark}
use Rattle.dc_tree.specs.declared.token.Token.{Token}
use Rattle.dc_tree.specs.declared.stmt.Intent.{Intent}
use Rattle.dc_tree.specs.declared.stmt.Local.{Local}
use Rattle.dc_tree.specs.Syntax.{Tree, chars}
use Rattle.dc_tree.specs.Grammar.{Ranked, spell, depth, key}
use Rattle.dc_tree.specs.Statements.{Name, TypeForm, Dimension, Attribute, Initial, Declared, Ranging, CaseRange, Target}
use Rattle.dc_tree.specs.Statements.{logical, integer, parameter, dimension, intent, absent, scalar, listed}
use Rattle.dc_tree.specs.Statements.{only, from, up_to, between}
use Rattle.dc_tree.specs.Spelling.{word, colon, equals, bracketed, enclosed, separated, optional, named, trees, spell_type, spell_dimension, dimensions, spell_intent, spell_attribute, spell_initial, spell_declared, spell_ranging, spell_case, reduce_token, spell_local, spell_target}
use Rattle.dc_tree.specs.Ranking.{Each, OneOrMore, IsName, RankedType, RankedDimension, RankedAttribute, RankedInitial, RankedDeclared, has_initial, RankedRanging, RankedIndexType, RankedCase, RankedLocal, RankedTarget, RankedItem}
use Rattle.dc_slices.specs.declared.keyword.Keyword.{Keyword}
use Rattle.dc_slices.specs.declared.cutting.Class.{Class}
use Rattle.dc_slices.specs.declared.cutting.Stop.{Stop}
use Rattle.dc_slices.specs.Cutting.{before, pieces, halts, stops, class, in_brackets, in_list}
use Rattle.dc_slices.specs.Cutting as cutting
use Rattle.dc_slices.specs.Finding.{Found, mapped, given, expr, name, list}
use Rattle.dc_parts.specs.Parts.{is_keyed, kind, type_form, index_type, bare_entity, declared_from, dimension_pieces, dimension_from, one_dimension, bounds, intent_of, one_attribute, value_of, initial_of, shape, entity, limits, ranging_from, ranging, two_ends, case_pieces, one_case, reduction, reduced, locality, subscripts, target, item}
use Rattle.dc_stmt.specs.Depth.{deepest_of, depth_within, type_depth, dimension_depth, attribute_depth, initial_depth, declared_depth, ranging_depth, case_depth, target_depth}
use Rattle.dc_stmt.proofs.Clear.{Passes, Quiet, append-passes, nothing-passes, token-passes, enclosed-passes, bracket-passes, tree-passes, never-other, before-stop, from-stop, before-end, from-end, one-piece, next-piece, in_brackets-is, in_list-is}
use Rattle.dc_stmt.proofs.WordLaws.{keyword-is}
use Rattle.dc_stmt.proofs.Found.{IsComplete, IsPassed, expr-is, name-is, nothing-deep, list-is, separated-passes, each-of, expr-no-equals, expr-no-list, expr-no-chars, expr-no-empty}

-- ---- what a cut passes

-- Only closing brackets are stops there, if any.
pub record Calm (stop : Stop) (depth : ℕ) : Type 0 where
  pub words : halts stop depth Class.Word ≡ false
  pub commas : halts stop depth Class.Comma ≡ false
  pub colon : halts stop depth Class.Colon ≡ false
  pub colons : halts stop depth Class.Colons ≡ false
  pub equals : halts stop depth Class.Equals ≡ false

pub closing-calm : Calm Stop.Closing 0
closing-calm = record { words = refl; commas = refl; colon = refl; colons = refl; equals = refl }

pub inner-calm : (stop : Stop) (depth : ℕ) → Calm stop (suc depth)
inner-calm stop depth = record { words = refl; commas = refl; colon = refl; colons = refl; equals = refl }

pub word-passes : (stop : Stop) (depth : ℕ) (text : Name) → Quiet stop depth → Passes stop depth (Token.Word text ∷ [])
word-passes stop depth text quiet = token-passes stop depth (Token.Word text) quiet refl

pub names-pass : (stop : Stop) (depth : ℕ) (names : List Name) → Calm stop depth → Passes stop depth (separated named names)
names-pass stop depth names calm =
    separated-passes (λ (text : Name). Unit {0}) named stop depth calm.commas (λ text fits. word-passes stop depth text calm.words) names (all names)
  where
    all : (names : List Name) → Each (λ (text : Name). Unit {0}) names
    all [] = tt
    all (first ∷ rest) = (tt, all rest)

pub trees-pass : (stop : Stop) (depth : ℕ) (values : List Tree) → Each Ranked values → Calm stop depth → Passes stop depth (trees values)
trees-pass stop depth values ranked calm = separated-passes Ranked spell stop depth calm.commas (λ e fits. tree-passes e stop depth fits calm.words) values ranked

pub kind-passes : (stop : Stop) (depth : ℕ) (keyed : Bool) (e : Tree) → Ranked e → Calm stop depth → Passes stop depth (key keyed ++ spell e)
kind-passes stop depth true e ranked calm =
    append-passes stop depth (key true) (spell e) (append-passes stop depth (Token.Word _ ∷ []) (Token.Mark Mark.Equals ∷ []) (token-passes stop depth (Token.Word _) calm.words refl) (token-passes stop depth (Token.Mark Mark.Equals) calm.equals refl))
    (tree-passes e stop depth ranked calm.words)
kind-passes stop depth false e ranked calm = tree-passes e stop depth ranked calm.words

-- a type, which may stand where its word is no stop
pub type-passes : (stop : Stop) (depth : ℕ) (form : TypeForm) → RankedType form → Quiet stop depth → Passes stop depth (spell_type form)
type-passes stop depth logical ranked quiet = word-passes stop depth (codes "logical") quiet
type-passes stop depth (integer keyed None) ranked quiet = word-passes stop depth (codes "integer") quiet
type-passes stop depth (integer keyed (Some e)) ranked quiet =
    append-passes stop depth (word "integer" ∷ []) (bracketed (key keyed ++ spell e)) (word-passes stop depth (codes "integer") quiet)
    (bracket-passes stop depth (key keyed ++ spell e) (kind-passes stop (suc depth) keyed e ranked (inner-calm stop depth)))

dimension-passes : (stop : Stop) (depth : ℕ) (bounds : Dimension) → RankedDimension bounds → Calm stop depth → Passes stop depth (spell_dimension bounds)
dimension-passes stop depth bounds ranked calm = either bounds.low ranked.0
  where
    either : (low : Option Tree) → IfSome low Ranked → Passes stop depth (optional (λ low. spell low ++ colon ∷ []) low ++ spell bounds.high)
    either None fits = tree-passes bounds.high stop depth ranked.1 calm.words
    either (Some low) fits =
        append-passes stop depth (spell low ++ colon ∷ []) (spell bounds.high)
        (append-passes stop depth (spell low) (colon ∷ []) (tree-passes low stop depth fits calm.words) (token-passes stop depth colon calm.colon refl))
        (tree-passes bounds.high stop depth ranked.1 calm.words)

dimensions-inside : (stop : Stop) (depth : ℕ) (given : List Dimension) → OneOrMore RankedDimension given → Calm stop depth → Passes stop depth (separated spell_dimension given)
dimensions-inside stop depth given ranked calm =
    separated-passes RankedDimension spell_dimension stop depth calm.commas (λ one fits. dimension-passes stop depth one fits calm) given (each-of RankedDimension given ranked)

pub dimensions-pass : (stop : Stop) (depth : ℕ) (given : List Dimension) → OneOrMore RankedDimension given → Passes stop depth (dimensions given)
dimensions-pass stop depth given ranked = bracket-passes stop depth (separated spell_dimension given) (dimensions-inside stop (suc depth) given ranked (inner-calm stop depth))

-- ---- types

unkeyed : (tokens : List Token) (e : Tree) (n : ℕ) → expr tokens ≡ Some (e, n) → is_keyed tokens ≡ false
unkeyed (Token.Word text ∷ Token.Mark Mark.Equals ∷ tokens) e n found = let none : expr (Token.Word text ∷ Token.Mark Mark.Equals ∷ tokens) ≡ None = expr-no-equals text tokens in absurd (cc)
unkeyed (first ∷ Token.Mark Mark.Equals ∷ tokens) e n found = refl
unkeyed tokens e n found = refl

kind-is : (keyed : Bool) (e : Tree) → Ranked e → kind (key keyed ++ spell e) ≡ Some ((keyed, e), depth e)
kind-is true e ranked = rw (expr-is e ranked) refl
kind-is false e ranked = rw (unkeyed (spell e) e (depth e) (expr-is e ranked)) (rw (expr-is e ranked) refl)

pub type-is : IsComplete RankedType spell_type type_depth type_form
type-is logical ranked = rw (keyword-is Keyword.Logical) refl
type-is (integer false None) ranked = rw (keyword-is Keyword.Integer) refl
type-is (integer true None) ranked = absurd (false≢true (sym ranked))
type-is (integer keyed (Some e)) ranked =
    rw (keyword-is Keyword.Integer) (rw (in_brackets-is (key keyed ++ spell e) (kind-passes Stop.Closing 0 keyed e ranked closing-calm)) (rw (kind-is keyed e ranked) refl))

index-same : (keyed : Bool) (given : Option Tree) → index_type (spell_type (integer keyed given)) ≡ type_form (spell_type (integer keyed given))
index-same keyed None = rw (keyword-is Keyword.Integer) refl
index-same keyed (Some e) = rw (keyword-is Keyword.Integer) refl

pub index-type-is : IsComplete RankedIndexType spell_type type_depth index_type
index-type-is logical ranked = absurd ranked
index-type-is (integer keyed given) ranked = index-same keyed given ∙ type-is (integer keyed given) ranked

-- ---- declarations

dimension-is : IsComplete RankedDimension spell_dimension dimension_depth one_dimension
dimension-is bounds ranked = either bounds.low ranked.0
  where
    either : (low : Option Tree) → IfSome low Ranked → one_dimension (optional (λ low. spell low ++ colon ∷ []) low ++ spell bounds.high) ≡ Some (dimension_from (low, bounds.high), max (depth_within depth low) (depth bounds.high))
    either None fits =
        ap dimension_pieces (one-piece Stop.Colon (spell bounds.high) (tree-passes bounds.high Stop.Colon 0 ranked.1 refl))
        ∙ rw (expr-is bounds.high ranked.1) (ap (λ (n : ℕ). Some (dimension_from (None, bounds.high), n)) (sym (zero-max (depth bounds.high))))
    either (Some low) fits =
        ap one_dimension (append_assoc (spell low) (colon ∷ []) (spell bounds.high))
        ∙ ap dimension_pieces
        (next-piece Stop.Colon (spell low) colon (spell bounds.high) (tree-passes low Stop.Colon 0 fits refl) refl
        ∙ ap (λ (more : List (List Token)). spell low ∷ more) (one-piece Stop.Colon (spell bounds.high) (tree-passes bounds.high Stop.Colon 0 ranked.1 refl)))
        ∙ rw (expr-is low fits) (rw (expr-is bounds.high ranked.1) refl)

-- a cut at commas passes what a cut that stops at words and commas would
comma-dimension : IsPassed Stop.Comma RankedDimension spell_dimension
comma-dimension bounds ranked = either bounds.low ranked.0
  where
    either : (low : Option Tree) → IfSome low Ranked → Passes Stop.Comma 0 (optional (λ low. spell low ++ colon ∷ []) low ++ spell bounds.high)
    either None fits = tree-passes bounds.high Stop.Comma 0 ranked.1 refl
    either (Some low) fits =
        append-passes Stop.Comma 0 (spell low ++ colon ∷ []) (spell bounds.high)
        (append-passes Stop.Comma 0 (spell low) (colon ∷ []) (tree-passes low Stop.Comma 0 fits refl) (token-passes Stop.Comma 0 colon refl refl))
        (tree-passes bounds.high Stop.Comma 0 ranked.1 refl)

pub bounds-are : (given : List Dimension) → OneOrMore RankedDimension given → bounds (dimensions given) ≡ Some (given, deepest_of dimension_depth given)
bounds-are dims ranked =
    rw (in_brackets-is (separated spell_dimension dims) (dimensions-inside Stop.Closing 0 dims ranked closing-calm))
    (list-is RankedDimension spell_dimension dimension_depth one_dimension dimension-is comma-dimension dims ranked)

intent-passes : (given : Intent) → Passes Stop.Closing 0 (spell_intent given)
intent-passes Intent.Into = word-passes Stop.Closing 0 (codes "in") refl
intent-passes Intent.Out = word-passes Stop.Closing 0 (codes "out") refl
intent-passes Intent.InOut = word-passes Stop.Closing 0 (codes "inout") refl
intent-passes Intent.InOutApart = append-passes Stop.Closing 0 (word "in" ∷ []) (word "out" ∷ []) (word-passes Stop.Closing 0 (codes "in") refl) (word-passes Stop.Closing 0 (codes "out") refl)

intent-is : (given : Intent) → intent_of (spell_intent given) ≡ Some (given, 0)
intent-is Intent.Into = rw (keyword-is Keyword.Into) refl
intent-is Intent.Out = rw (keyword-is Keyword.Out) refl
intent-is Intent.InOut = rw (keyword-is Keyword.InOut) refl
intent-is Intent.InOutApart = rw (keyword-is Keyword.Into) refl

pub attribute-is : IsComplete RankedAttribute spell_attribute attribute_depth one_attribute
attribute-is parameter ranked = rw (keyword-is Keyword.Parameter) refl
attribute-is (dimension given) ranked = rw (keyword-is Keyword.Dimension) (rw (bounds-are given ranked) refl)
attribute-is (intent given) ranked = rw (keyword-is Keyword.Intent) (rw (in_brackets-is (spell_intent given) (intent-passes given)) (rw (intent-is given) refl))

intent-within : (stop : Stop) (given : Intent) → Passes stop 1 (spell_intent given)
intent-within stop Intent.Into = word-passes stop 1 (codes "in") refl
intent-within stop Intent.Out = word-passes stop 1 (codes "out") refl
intent-within stop Intent.InOut = word-passes stop 1 (codes "inout") refl
intent-within stop Intent.InOutApart = append-passes stop 1 (word "in" ∷ []) (word "out" ∷ []) (word-passes stop 1 (codes "in") refl) (word-passes stop 1 (codes "out") refl)

pub attribute-passes : (stop : Stop) (given : Attribute) → RankedAttribute given → Quiet stop 0 → Passes stop 0 (spell_attribute given)
attribute-passes stop parameter ranked quiet = word-passes stop 0 (codes "parameter") quiet
attribute-passes stop (dimension given) ranked quiet =
    append-passes stop 0 (word "dimension" ∷ []) (dimensions given) (word-passes stop 0 (codes "dimension") quiet) (dimensions-pass stop 0 given ranked)
attribute-passes stop (intent given) ranked quiet =
    append-passes stop 0 (word "intent" ∷ []) (bracketed (spell_intent given)) (word-passes stop 0 (codes "intent") quiet) (bracket-passes stop 0 (spell_intent given) (intent-within stop given))

-- a value in a declaration or an assignment is no list
scalar-value : (tokens : List Token) (e : Tree) (n : ℕ) → expr tokens ≡ Some (e, n) → value_of tokens ≡ Some (scalar e, n)
scalar-value (Token.Mark Mark.OpenList ∷ tokens) e n found = let none : expr (Token.Mark Mark.OpenList ∷ tokens) ≡ None = expr-no-list tokens in absurd (cc)
scalar-value tokens e n found = rw found refl

pub comma-tree : IsPassed Stop.Comma Ranked spell
comma-tree e ranked = tree-passes e Stop.Comma 0 ranked refl

pub trees-are : (values : List Tree) → OneOrMore Ranked values → list expr (trees values) ≡ Some (values, deepest_of depth values)
trees-are values ranked = list-is Ranked spell depth expr expr-is comma-tree values ranked

pub trees-in-list : (values : List Tree) → OneOrMore Ranked values → in_list (enclosed (trees values)) ≡ Some (trees values)
trees-in-list values ranked = in_list-is (trees values) (trees-pass Stop.Closing 0 values (each-of Ranked values ranked) closing-calm)

initial-is : (value : Initial) → RankedInitial value → initial_of (spell_initial value) ≡ Some (value, initial_depth value)
initial-is absent ranked = refl
initial-is (scalar e) ranked = scalar-value (spell e) e (depth e) (expr-is e ranked)
initial-is (listed values) ranked = rw (trees-in-list values ranked) (rw (trees-are values ranked) refl)

shape-is : (given : Option (List Dimension)) → IfSome given (OneOrMore RankedDimension) → shape (optional dimensions given) ≡ Some (given, depth_within (deepest_of dimension_depth) given)
shape-is None ranked = refl
shape-is (Some given) ranked = rw (bounds-are given ranked) refl

shape-passes : (stop : Stop) (given : Option (List Dimension)) → IfSome given (OneOrMore RankedDimension) → Passes stop 0 (optional dimensions given)
shape-passes stop None ranked = nothing-passes stop 0
shape-passes stop (Some given) ranked = dimensions-pass stop 0 given ranked

entity-cut : (given : Option (List Dimension)) (value : Initial) → IfSome given (OneOrMore RankedDimension)
    → (before Stop.Equals 0 (optional dimensions given ++ spell_initial value) ≡ optional dimensions given) × (cutting.from Stop.Equals 0 (optional dimensions given ++ spell_initial value) ≡ spell_initial value)
entity-cut given absent ranked =
    let pass = shape-passes Stop.Equals given ranked in (
      ap (before Stop.Equals 0) (append-nil (optional dimensions given)) ∙ before-end Stop.Equals (optional dimensions given) pass,
      ap (cutting.from Stop.Equals 0) (append-nil (optional dimensions given)) ∙ from-end Stop.Equals (optional dimensions given) pass,
    )
entity-cut given (scalar e) ranked =
    let pass = shape-passes Stop.Equals given ranked in
    (before-stop Stop.Equals (optional dimensions given) equals (spell e) pass refl, from-stop Stop.Equals (optional dimensions given) equals (spell e) pass refl)
entity-cut given (listed values) ranked =
    let pass = shape-passes Stop.Equals given ranked in
    (before-stop Stop.Equals (optional dimensions given) equals (enclosed (trees values)) pass refl, from-stop Stop.Equals (optional dimensions given) equals (enclosed (trees values)) pass refl)

pub entity-is : IsComplete RankedDeclared spell_declared declared_depth entity
entity-is given ranked =
    let cut = entity-cut given.bounds given.initial ranked.1 in
    rw ranked.0 (rw cut.0 (rw cut.1 (rw (shape-is given.bounds ranked.1) (rw (initial-is given.initial ranked.2) refl))))

-- an entity without a value
abbrev pub IsBare : Declared → Type 0
IsBare given = RankedDeclared given × (has_initial given ≡ false)

absent-is : (value : Initial) → has_initial (record { name = []; bounds = None; initial = value }) ≡ false → absent ≡ value
absent-is absent is = refl
absent-is (scalar e) is = absurd (false≢true (sym is))
absent-is (listed values) is = absurd (false≢true (sym is))

pub bare-is : IsComplete IsBare spell_declared declared_depth bare_entity
bare-is given bare = subst (λ (value : Initial). bare_entity (Token.Word given.name ∷ (optional dimensions given.bounds ++ spell_initial value))
    ≡ Some (declared_from given.name (given.bounds, value), max (depth_within (deepest_of dimension_depth) given.bounds) (initial_depth value)))
    (absent-is given.initial bare.1)
    (rw bare.0.0 (rw (append-nil (optional dimensions given.bounds)) (rw (shape-is given.bounds bare.0.1)
    (ap (λ (n : ℕ). Some (declared_from given.name (given.bounds, absent), n)) (sym (max-zero (depth_within (deepest_of dimension_depth) given.bounds)))))))

initial-passes : (stop : Stop) (value : Initial) → RankedInitial value → Quiet stop 0 → halts stop 0 Class.Equals ≡ false → Passes stop 0 (spell_initial value)
initial-passes stop absent ranked quiet on = nothing-passes stop 0
initial-passes stop (scalar e) ranked quiet on = append-passes stop 0 (equals ∷ []) (spell e) (token-passes stop 0 equals on refl) (tree-passes e stop 0 ranked quiet)
initial-passes stop (listed values) ranked quiet on =
    append-passes stop 0 (equals ∷ []) (enclosed (trees values)) (token-passes stop 0 equals on refl)
    (enclosed-passes stop 0 (Token.Mark Mark.OpenList) (Token.Mark Mark.CloseList) (trees values) refl refl (trees-pass stop 1 values (each-of Ranked values ranked) (inner-calm stop 0)))

pub entity-passes : (stop : Stop) (given : Declared) → RankedDeclared given → Quiet stop 0 → halts stop 0 Class.Equals ≡ false → Passes stop 0 (spell_declared given)
entity-passes stop given ranked quiet on =
    append-passes stop 0 (Token.Word given.name ∷ []) (optional dimensions given.bounds ++ spell_initial given.initial) (word-passes stop 0 given.name quiet)
    (append-passes stop 0 (optional dimensions given.bounds) (spell_initial given.initial) (shape-passes stop given.bounds ranked.1) (initial-passes stop given.initial ranked.2 quiet on))

-- ---- a name with its limits

limits-are : (stop : Stop) (mark : Mark) (first last : Tree) (step : Option Tree) → stops stop (class (Token.Mark mark)) ≡ true → Quiet stop 0 → Ranked first → Ranked last → IfSome step Ranked
    → limits (pieces stop (spell first ++ (Token.Mark mark ∷ (spell last ++ optional (λ step. Token.Mark mark ∷ spell step) step))))
    ≡ Some ((first, (last, step)), max (depth first) (max (depth last) (depth_within depth step)))
limits-are stop mark first last None halt quiet first_ranked last_ranked step_ranked =
    ap limits
    (next-piece stop (spell first) (Token.Mark mark) (spell last ++ []) (tree-passes first stop 0 first_ranked quiet) halt
    ∙ ap (λ (more : List (List Token)). spell first ∷ more) (ap (pieces stop) (append-nil (spell last)) ∙ one-piece stop (spell last) (tree-passes last stop 0 last_ranked quiet)))
    ∙ rw (expr-is first first_ranked) (rw (expr-is last last_ranked) refl)
limits-are stop mark first last (Some step) halt quiet first_ranked last_ranked step_ranked =
    ap limits
    (next-piece stop (spell first) (Token.Mark mark) (spell last ++ Token.Mark mark ∷ spell step) (tree-passes first stop 0 first_ranked quiet) halt
    ∙ ap (λ (more : List (List Token)). spell first ∷ more)
    (next-piece stop (spell last) (Token.Mark mark) (spell step) (tree-passes last stop 0 last_ranked quiet) halt
    ∙ ap (λ (more : List (List Token)). spell last ∷ more) (one-piece stop (spell step) (tree-passes step stop 0 step_ranked quiet))))
    ∙ rw (expr-is first first_ranked) (rw (expr-is last last_ranked) (rw (expr-is step step_ranked) refl))

pub ranging-is : (stop : Stop) (mark : Mark) → stops stop (class (Token.Mark mark)) ≡ true → Quiet stop 0 → IsComplete RankedRanging (spell_ranging (Token.Mark mark)) ranging_depth (ranging stop)
ranging-is stop mark halt quiet range ranked =
    rw ranked.0 (ap (λ (found : Found (Tree × (Tree × Option Tree))). mapped (ranging_from range.name) found) (limits-are stop mark range.first range.last range.step halt quiet ranked.1 ranked.2 ranked.3))

pub index-passes : (stop : Stop) (depth : ℕ) (range : Ranging) → RankedRanging range → halts stop depth Class.Colon ≡ false → halts stop depth Class.Equals ≡ false → Quiet stop depth → Passes stop depth (spell_ranging colon range)
index-passes stop depth range ranked on assigns quiet =
    append-passes stop depth (Token.Word range.name ∷ []) _ (word-passes stop depth range.name quiet)
    (append-passes stop depth (equals ∷ []) _ (token-passes stop depth equals assigns refl)
    (append-passes stop depth (spell range.first) _ (tree-passes range.first stop depth ranked.1 quiet)
    (append-passes stop depth (colon ∷ []) _ (token-passes stop depth colon on refl)
    (append-passes stop depth (spell range.last) _ (tree-passes range.last stop depth ranked.2 quiet) (step-passes range.step ranked.3)))))
  where
    step-passes : (step : Option Tree) → IfSome step Ranked → Passes stop depth (optional (λ step. colon ∷ spell step) step)
    step-passes None fits = nothing-passes stop depth
    step-passes (Some step) fits = append-passes stop depth (colon ∷ []) (spell step) (token-passes stop depth colon on refl) (tree-passes step stop depth fits quiet)

-- ---- ranges of a CASE

two-from : (tokens : List Token) (e : Tree) (n : ℕ) → expr tokens ≡ Some (e, n) → two_ends tokens [] ≡ Some (from e, n)
two-from [] e n found = let none : expr [] ≡ None = expr-no-empty in absurd (cc)
two-from (token ∷ tokens) e n found = rw found refl

two-both : (low high : List Token) (e f : Tree) (n m : ℕ) → expr low ≡ Some (e, n) → expr high ≡ Some (f, m) → two_ends low high ≡ Some (between e f, max n m)
two-both [] high e f n m found more = let none : expr [] ≡ None = expr-no-empty in absurd (cc)
two-both (token ∷ low) [] e f n m found more = let none : expr [] ≡ None = expr-no-empty in absurd (cc)
two-both (token ∷ low) (mark ∷ high) e f n m found more = rw found (rw more refl)

pub case-is : IsComplete RankedCase spell_case case_depth one_case
case-is (only e) ranked = ap case_pieces (one-piece Stop.Colon (spell e) (tree-passes e Stop.Colon 0 ranked refl)) ∙ rw (expr-is e ranked) refl
case-is (from low) ranked =
    ap case_pieces (next-piece Stop.Colon (spell low) colon [] (tree-passes low Stop.Colon 0 ranked refl) refl) ∙ two-from (spell low) low (depth low) (expr-is low ranked)
case-is (up_to high) ranked =
    ap case_pieces (ap (λ (more : List (List Token)). [] ∷ more) (one-piece Stop.Colon (spell high) (tree-passes high Stop.Colon 0 ranked refl))) ∙ rw (expr-is high ranked) refl
case-is (between low high) ranked =
    ap case_pieces
    (next-piece Stop.Colon (spell low) colon (spell high) (tree-passes low Stop.Colon 0 ranked.0 refl) refl
    ∙ ap (λ (more : List (List Token)). spell low ∷ more) (one-piece Stop.Colon (spell high) (tree-passes high Stop.Colon 0 ranked.1 refl)))
    ∙ two-both (spell low) (spell high) low high (depth low) (depth high) (expr-is low ranked.0) (expr-is high ranked.1)

pub case-passes : (stop : Stop) (depth : ℕ) (range : CaseRange) → RankedCase range → Quiet stop depth → halts stop depth Class.Colon ≡ false → Passes stop depth (spell_case range)
case-passes stop depth (only e) ranked quiet on = tree-passes e stop depth ranked quiet
case-passes stop depth (from low) ranked quiet on = append-passes stop depth (spell low) (colon ∷ []) (tree-passes low stop depth ranked quiet) (token-passes stop depth colon on refl)
case-passes stop depth (up_to high) ranked quiet on = append-passes stop depth (colon ∷ []) (spell high) (token-passes stop depth colon on refl) (tree-passes high stop depth ranked quiet)
case-passes stop depth (between low high) ranked quiet on =
    append-passes stop depth (spell low) (colon ∷ spell high) (tree-passes low stop depth ranked.0 quiet)
    (append-passes stop depth (colon ∷ []) (spell high) (token-passes stop depth colon on refl) (tree-passes high stop depth ranked.1 quiet))

-- ---- localities

pub comma-name : IsPassed Stop.Comma IsName named
comma-name text fits = word-passes Stop.Comma 0 text refl

pub names-are : (names : List Name) → OneOrMore IsName names → list name (separated named names) ≡ Some (names, 0)
names-are names fits = list-is IsName named (λ (text : Name). 0) name name-is comma-name names fits ∙ ap (λ (n : ℕ). Some (names, n)) (nothing-deep names)

reduction-is : (operation : ReduceOp) → reduction (reduce_token operation) ≡ Some operation
reduction-is ReduceOp.Max = rw (keyword-is Keyword.Max) refl
reduction-is ReduceOp.Min = rw (keyword-is Keyword.Min) refl
reduction-is ReduceOp.Iand = rw (keyword-is Keyword.Iand) refl
reduction-is ReduceOp.Ior = rw (keyword-is Keyword.Ior) refl
reduction-is ReduceOp.Ieor = rw (keyword-is Keyword.Ieor) refl
reduction-is operation = refl

reduction-passes : (stop : Stop) (depth : ℕ) (operation : ReduceOp) → Quiet stop depth → Passes stop depth (reduce_token operation ∷ [])
reduction-passes stop depth ReduceOp.Max quiet = word-passes stop depth (codes "max") quiet
reduction-passes stop depth ReduceOp.Min quiet = word-passes stop depth (codes "min") quiet
reduction-passes stop depth ReduceOp.Iand quiet = word-passes stop depth (codes "iand") quiet
reduction-passes stop depth ReduceOp.Ior quiet = word-passes stop depth (codes "ior") quiet
reduction-passes stop depth ReduceOp.Ieor quiet = word-passes stop depth (codes "ieor") quiet
reduction-passes stop depth operation quiet = token-passes stop depth (reduce_token operation) (never-other stop depth) refl

pub reduced-passes : (stop : Stop) (depth : ℕ) (operation : ReduceOp) (names : List Name) → Calm stop depth → Passes stop depth (reduce_token operation ∷ colon ∷ separated named names)
reduced-passes stop depth operation names calm =
    append-passes stop depth (reduce_token operation ∷ []) (colon ∷ separated named names) (reduction-passes stop depth operation calm.words)
    (append-passes stop depth (colon ∷ []) (separated named names) (token-passes stop depth colon calm.colon refl) (names-pass stop depth names calm))

reduced-is : (operation : ReduceOp) (names : List Name) → OneOrMore IsName names → reduced (reduce_token operation ∷ colon ∷ separated named names) ≡ Some (Local.Reduce operation names, 0)
reduced-is operation names fits = rw (reduction-is operation) (rw (names-are names fits) refl)

pub local-is : IsComplete RankedLocal spell_local (λ (local : Local). 0) locality
local-is (Local.Locals names) fits =
    rw (in_brackets-is (separated named names) (names-pass Stop.Closing 0 names closing-calm)) (rw (keyword-is Keyword.Local) (rw (names-are names fits) refl))
local-is (Local.Inits names) fits =
    rw (in_brackets-is (separated named names) (names-pass Stop.Closing 0 names closing-calm)) (rw (keyword-is Keyword.LocalInit) (rw (names-are names fits) refl))
local-is (Local.Shared names) fits =
    rw (in_brackets-is (separated named names) (names-pass Stop.Closing 0 names closing-calm)) (rw (keyword-is Keyword.Shared) (rw (names-are names fits) refl))
local-is (Local.Reduce operation names) fits =
    rw (in_brackets-is (reduce_token operation ∷ colon ∷ separated named names) (reduced-passes Stop.Closing 0 operation names closing-calm))
    (rw (keyword-is Keyword.Reduce) (reduced-is operation names fits))
local-is Local.DefaultNone fits = rw (keyword-is Keyword.Default) refl

-- ---- what is assigned, read or written

given-subscripts : (given : Option (List Tree)) → IfSome given (OneOrMore Ranked) → subscripts (optional (λ given. bracketed (trees given)) given) ≡ Some (given, depth_within (deepest_of depth) given)
given-subscripts None ranked = refl
given-subscripts (Some values) ranked =
    rw (in_brackets-is (trees values) (trees-pass Stop.Closing 0 values (each-of Ranked values ranked) closing-calm)) (rw (trees-are values ranked) refl)

pub target-is : IsComplete RankedTarget spell_target target_depth target
target-is target ranked = rw ranked.0 (rw (given-subscripts target.subscripts ranked.1) refl)

pub target-passes : (stop : Stop) (target : Target) → RankedTarget target → Quiet stop 0 → Passes stop 0 (spell_target target)
target-passes stop target ranked quiet = append-passes stop 0 (Token.Word target.name ∷ []) _ (word-passes stop 0 target.name quiet) (brackets target.subscripts ranked.1)
  where
    brackets : (given : Option (List Tree)) → IfSome given (OneOrMore Ranked) → Passes stop 0 (optional (λ given. bracketed (trees given)) given)
    brackets None fits = nothing-passes stop 0
    brackets (Some values) fits = bracket-passes stop 0 (trees values) (trees-pass stop 1 values (each-of Ranked values fits) (inner-calm stop 0))

item-value : (tokens : List Token) (e : Tree) (n : ℕ) → expr tokens ≡ Some (e, n) → item tokens ≡ Some (e, n)
item-value (Token.Chars text ∷ []) e n found = let none : expr (Token.Chars text ∷ []) ≡ None = expr-no-chars text in absurd (cc)
item-value tokens e n found = found

pub item-is : IsComplete RankedItem spell depth item
item-is (chars text) ranked = refl
item-is e ranked = item-value (spell e) e (depth e) (expr-is e ranked)

pub item-passes : IsPassed Stop.Comma RankedItem spell
item-passes (chars text) ranked = token-passes Stop.Comma 0 (Token.Chars text) refl refl
item-passes e ranked = tree-passes e Stop.Comma 0 ranked refl
