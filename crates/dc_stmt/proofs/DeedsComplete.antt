-- Actions are found in their spelling.
use Rattle.std.proofs.Common.{◌≡◌, ℕ, Bool, true, false, List, [], ◌∷◌, ◌++◌, Option, Some, None, refl, sym, ◌∙◌}
use Rattle.std.specs.Prelude.{max, IfSome, IsTrue, ◌||◌}
use Rattle.std.proofs.lemmas.Bool.{false≢true, true≢false}
use Rattle.dc_tree.specs.declared.token.Mark.{Mark}
use Rattle.dc_tree.specs.declared.token.Token.{Token}
use Rattle.dc_tree.specs.Names.{is_name}
use Rattle.dc_tree.specs.Syntax.{Tree}
use Rattle.dc_tree.specs.Grammar.{Ranked, spell, depth}
use Rattle.dc_tree.specs.Statements.{Name, Target, assign, fill, call, cycle, exit, return, continue, stop, error_stop, print, read}
use Rattle.dc_tree.specs.Spelling.{word, equals, bracketed, optional, arguments, named, trees, spell_target, spell_deed}
use Rattle.dc_tree.specs.Ranking.{is_empty, Each, IsName, RankedTarget, RankedItem, RankedDeed}
use Rattle.dc_slices.specs.declared.keyword.Keyword.{Keyword}
use Rattle.dc_slices.specs.declared.cutting.Stop.{Stop}
use Rattle.dc_slices.specs.Words.{keyword, is_reserved}
use Rattle.dc_slices.specs.Finding.{Found, plainly, mapped, both, given, expr, list, any_list, followed_list}
use Rattle.dc_parts.specs.Parts.{target, item}
use Rattle.dc_parts.specs.Deeds.{assigned, defined, deed_named, action}
use Rattle.dc_slices.specs.Finding as finding
use Rattle.dc_stmt.specs.Depth.{deepest_of, target_depth, deed_depth}
use Rattle.dc_stmt.proofs.Clear.{before-stop, from-stop, in_brackets-is}
use Rattle.dc_stmt.proofs.WordLaws.{keyword-is, name-free}
use Rattle.dc_stmt.proofs.Found.{IsComplete, IsPassed, FitsLabel, expr-is, label-is, any_list-is, followed_list-is, expr-no-list, expr-no-empty}
use Rattle.dc_stmt.proofs.PartsComplete.{comma-tree, trees-are, trees-in-list, trees-pass, closing-calm, target-is, target-passes, item-is, item-passes}

-- no reserved word
abbrev pub IsFree : Option Keyword → Type 0
IsFree found = (word : Keyword) → found ≡ Some word → is_reserved word ≡ false

pub free-name : (text : Name) → is_name text ≡ true → IsFree (keyword text)
free-name text named word found = name-free text word named found

not-free : (word : Keyword) → is_reserved word ≡ true → IsFree (Some word) → ⊥
not-free word reserved free = true≢false (sym reserved ∙ free word refl)

deed-defined : (found : Option Keyword) (text : Name) (tokens : List Token) → IsFree found → deed_named found text tokens ≡ defined text tokens
deed-defined (Some Keyword.Call) text tokens free = absurd (not-free Keyword.Call refl free)
deed-defined (Some Keyword.Cycle) text tokens free = absurd (not-free Keyword.Cycle refl free)
deed-defined (Some Keyword.Exit) text tokens free = absurd (not-free Keyword.Exit refl free)
deed-defined (Some Keyword.Return) text tokens free = absurd (not-free Keyword.Return refl free)
deed-defined (Some Keyword.Continue) text tokens free = absurd (not-free Keyword.Continue refl free)
deed-defined (Some Keyword.Stop) text tokens free = absurd (not-free Keyword.Stop refl free)
deed-defined (Some Keyword.Error) text tokens free = absurd (not-free Keyword.Error refl free)
deed-defined (Some Keyword.Print) text tokens free = absurd (not-free Keyword.Print refl free)
deed-defined (Some Keyword.Write) text tokens free = absurd (not-free Keyword.Write refl free)
deed-defined (Some Keyword.Read) text tokens free = absurd (not-free Keyword.Read refl free)
deed-defined found text tokens free = refl

scalar-defined : (text : Name) (tokens : List Token) (e : Tree) (n : ℕ) → expr tokens ≡ Some (e, n) → defined text (equals ∷ tokens) ≡ assigned (Token.Word text ∷ equals ∷ tokens)
scalar-defined text (Token.Mark Mark.OpenList ∷ tokens) e n found = let none : expr (Token.Mark Mark.OpenList ∷ tokens) ≡ None = expr-no-list tokens in absurd (cc)
scalar-defined text tokens e n found = refl

assigned-is : (target : Target) (value : Tree) → RankedTarget target → Ranked value → assigned (spell_target target ++ equals ∷ spell value) ≡ Some (assign target value, max (target_depth target) (depth value))
assigned-is place value ranked value_ranked =
    let pass = target-passes Stop.Equals place ranked refl in
    rw (before-stop Stop.Equals (spell_target place) equals (spell value) pass refl)
    (rw (from-stop Stop.Equals (spell_target place) equals (spell value) pass refl) (rw (target-is place ranked) (rw (expr-is value value_ranked) refl)))

target-defined : (text : Name) (subscripts : Option (List Tree)) (value : Tree) → Ranked value
    → defined text (optional (λ subscripts. bracketed (trees subscripts)) subscripts ++ equals ∷ spell value) ≡ assigned (Token.Word text ∷ (optional (λ subscripts. bracketed (trees subscripts)) subscripts ++ equals ∷ spell value))
target-defined text None value ranked = scalar-defined text (spell value) value (depth value) (expr-is value ranked)
target-defined text (Some given) value ranked = refl

any-trees : (values : List Tree) → Each Ranked values → any_list expr (trees values) ≡ Some (values, deepest_of depth values)
any-trees values ranked = any_list-is Ranked spell depth expr expr-is comma-tree expr-no-empty values ranked

arguments-are : (brackets : Bool) (values : List Tree) → IsTrue (brackets || is_empty values) → Each Ranked values → finding.arguments expr (arguments spell brackets values) ≡ Some ((brackets, values), deepest_of depth values)
arguments-are true values fits ranked = rw (in_brackets-is (trees values) (trees-pass Stop.Closing 0 values ranked closing-calm)) (rw (any-trees values ranked) refl)
arguments-are false [] fits ranked = refl
arguments-are false (first ∷ rest) fits ranked = absurd (false≢true fits)

comma-target : IsPassed Stop.Comma RankedTarget spell_target
comma-target place ranked = target-passes Stop.Comma place ranked refl

fits-label : (label : Option Name) → IfSome label IsName → FitsLabel label
fits-label None fits = tt
fits-label (Some text) fits = fits

pub label-read : (label : Option Name) → IfSome label IsName → Rattle.dc_slices.specs.Finding.label (optional named label) ≡ Some (label, 0)
label-read text fits = label-is text (fits-label text fits)

pub action-is : IsComplete RankedDeed spell_deed deed_depth action
action-is (assign target value) ranked =
    let n : is_name target.name ≡ true = ranked.0.0 in
    deed-defined (keyword target.name) target.name _ (free-name target.name n) ∙ target-defined target.name target.subscripts value ranked.1 ∙ assigned-is target value ranked.0 ranked.1
action-is (fill array values) ranked =
    deed-defined (keyword array) array _ (free-name array ranked.0)
    ∙ rw ranked.0 (rw (trees-in-list values ranked.1) (rw (trees-are values ranked.1) refl))
action-is (call callee brackets values) ranked = rw (keyword-is Keyword.Call) (rw ranked.0 (rw (arguments-are brackets values ranked.1 ranked.2) refl))
action-is (cycle label) ranked = rw (keyword-is Keyword.Cycle) (rw (label-read label ranked) refl)
action-is (exit label) ranked = rw (keyword-is Keyword.Exit) (rw (label-read label ranked) refl)
action-is return ranked = rw (keyword-is Keyword.Return) refl
action-is continue ranked = rw (keyword-is Keyword.Continue) refl
action-is stop ranked = rw (keyword-is Keyword.Stop) refl
action-is error_stop ranked = rw (keyword-is Keyword.Error) refl
action-is (print false items) ranked = rw (keyword-is Keyword.Print) (rw (followed_list-is RankedItem spell depth item item-is item-passes items ranked) refl)
action-is (print true items) ranked = rw (keyword-is Keyword.Write) (rw (any_list-is RankedItem spell depth item item-is item-passes expr-no-empty items ranked) refl)
action-is (read false targets) ranked = rw (keyword-is Keyword.Read) (rw (followed_list-is RankedTarget spell_target target_depth target target-is comma-target targets ranked) refl)
action-is (read true targets) ranked = rw (keyword-is Keyword.Read) (rw (any_list-is RankedTarget spell_target target_depth target target-is comma-target refl targets ranked) refl)
