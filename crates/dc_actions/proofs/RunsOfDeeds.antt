-- The instructions of output, of single statements and of limits.
use Rattle.std.proofs.Common.{◌≡◌, ◌≤◌, ◌<◌, ℕ, ◌+◌, Bool, true, false, cond, List, [], ◌∷◌, ◌++◌, length, map, Option, Some, None, refl, ap, subst}
use Rattle.std.specs.Prelude.{pos, slice_get}
use Rattle.std.specs.List.{list_all}
use Rattle.std.proofs.lemmas.Bool.{false≢true}
use Rattle.dc_int.specs.declared.kind.Kind.{Kind}
use Rattle.dc_int.specs.Kinds.{is_of_kind}
use Rattle.dc_int.specs.Sorts.{Sort, whole, logical}
use Rattle.dc_code.specs.declared.instr.Instr.{Instr}
use Rattle.dc_code.specs.declared.instr.What.{What}
use Rattle.dc_code.specs.StackSorts as items
use Rattle.dc_code.specs.StackSorts.{Sorts, if_there}
use Rattle.dc_form.specs.BuiltPrograms.{is_built_assignment}
use Rattle.dc_tree.specs.Entities.{Entity, outside, Scope, entity}
use Rattle.dc_tree.specs.Statements.{Name, Ranging, Deed, assign, fill, print}
use Rattle.dc_tree.specs.Syntax.{Tree, chars, name}
use Rattle.dc_tree.specs.Typing.{sort_of, sort_of_entity}
use Rattle.dc_meaning.specs.Actions.{is_array}
use Rattle.dc_actions.specs.Assigning.{kept_group}
use Rattle.dc_actions.specs.Deeds.{lined, deed_code, texts_of_deed, groups_of_deed, deed_is_lowered}
use Rattle.dc_actions.specs.Expressions.{value_code, is_usable, is_number}
use Rattle.dc_actions.specs.Limits.{step_is_usable, limits_are_lowered, step_code, limits_code}
use Rattle.dc_actions.specs.Printing as printing
use Rattle.dc_actions.specs.Printing.{put_code, whole_code, items_code, printing_code, texts_of_items, is_outside, gives_item, give_items}
use Rattle.dc_actions.specs.Typed.{item_of, item_is_typed, is_typed, is_typed_number, step_is_typed, deed_is_typed}
use Rattle.dc_actions.proofs.Facts.{both-true}
use Rattle.dc_actions.proofs.Straight.{can_stand, Ground, Runs, runs-step, runs-one, runs-both}
use Rattle.dc_actions.proofs.RunsOfNames.{Fits, const-runs, wrap-runs}
use Rattle.dc_actions.proofs.RunsOfValues.{value-runs}
use Rattle.dc_actions.proofs.RunsOfStatements.{Changes, HoldsNames, assigned-runs, filling-runs}
use Rattle.dc_actions.proofs.Standing.{Stand, first-stand, second-stand, here-stands}

pub there-runs : {A : Type 0} (found : Option A) (item : A) (sorts : Sorts) → found ≡ Some item → if_there found sorts ≡ Some sorts
there-runs found item sorts e = ap (λ given. if_there given sorts) e

pub put-runs : (ground : Ground) (sort : Sort) (below : Sorts) → Runs ground (item_of sort ∷ below) (put_code sort ∷ []) below
put-runs ground (whole kind) below = runs-one ground (items.number kind ∷ below) below What.PutNumber refl (λ last. refl)
put-runs ground logical below = runs-one ground (items.a_truth ∷ below) below What.PutTruth refl (λ last. refl)

pub single-runs : (ground : Ground) (scope : Scope) → Fits ground scope → (tree : Tree) (below : Sorts) → is_usable scope tree ≡ true → is_typed scope tree ≡ true
    → Runs ground below (value_code scope tree ++ put_code (sort_of scope tree) ∷ []) below
single-runs ground scope fits tree below so typed =
    runs-both ground below (item_of (sort_of scope tree) ∷ below) below (value_code scope tree) (put_code (sort_of scope tree) ∷ [])
    (value-runs ground scope fits tree below so typed) (put-runs ground (sort_of scope tree) below)

pub whole-runs : (ground : Ground) (scope : Scope) → Fits ground scope → (text : Name) (found : Entity) (below : Sorts) → entity scope text ≡ found → is_outside found ≡ true
    → Runs ground below (whole_code found) below
whole-runs ground scope fits text (outside variable sort bounds) below e so =
    let found = fits.outer text variable sort bounds e in
    runs-one ground below below (What.PutAll variable) refl (λ last. there-runs (slice_get ground.code.shapes variable) found.0 below (found.1).0)
whole-runs ground scope fits text found below e so = absurd (false≢true so)

pub named-runs : (ground : Ground) (scope : Scope) → Fits ground scope → (text : Name) (below : Sorts) (array : Bool)
    → cond array (is_outside (entity scope text)) (is_usable scope (name text)) ≡ true
    → Runs ground below (cond array (whole_code (entity scope text)) (value_code scope (name text) ++ put_code (sort_of_entity (entity scope text)) ∷ [])) below
named-runs ground scope fits text below true so = whole-runs ground scope fits text (entity scope text) below refl so
named-runs ground scope fits text below false so = single-runs ground scope fits (name text) below so refl

pub item-runs : (ground : Ground) (scope : Scope) → Fits ground scope → (next : ℕ) (tree : Tree) (below : Sorts) → Stand ground.code.texts next (printing.texts_of_item tree)
    → gives_item scope tree ≡ true → item_is_typed scope tree ≡ true → Runs ground below (printing.item_code scope next tree) below
item-runs ground scope fits next (chars text) below stand so typed =
    runs-one ground below below (What.PutChars next) refl (λ last. there-runs (slice_get ground.code.texts next) text below (here-stands ground.code.texts next text [] stand))
item-runs ground scope fits next (name text) below stand so typed = named-runs ground scope fits text below (is_array (entity scope text)) so
item-runs ground scope fits next tree below stand so typed = single-runs ground scope fits tree below so typed

pub items-runs : (ground : Ground) (scope : Scope) → Fits ground scope → (next : ℕ) (trees : List Tree) (below : Sorts) → Stand ground.code.texts next (texts_of_items trees)
    → give_items scope trees ≡ true → list_all (item_is_typed scope) trees ≡ true → Runs ground below (items_code scope next trees) below
items-runs ground scope fits next [] below stand so typed = refl
items-runs ground scope fits next (tree ∷ trees) below stand so typed =
    runs-both ground below below below (printing.item_code scope next tree) (items_code scope (next + length (printing.texts_of_item tree)) trees)
    (item-runs ground scope fits next tree below (first-stand ground.code.texts next (printing.texts_of_item tree) (texts_of_items trees) stand) (both-true so).0 (both-true typed).0)
    (items-runs ground scope fits (next + length (printing.texts_of_item tree)) trees below (second-stand ground.code.texts next (printing.texts_of_item tree) (texts_of_items trees) stand)
    (both-true so).1 (both-true typed).1)

pub printing-runs : (ground : Ground) (scope : Scope) → Fits ground scope → can_stand ground.kind What.PutEnd ≡ true → (next : ℕ) (trees : List Tree) (below : Sorts)
    → Stand ground.code.texts next (texts_of_items trees) → give_items scope trees ≡ true → list_all (item_is_typed scope) trees ≡ true → Runs ground below (printing_code scope next trees) below
printing-runs ground scope fits can next trees below stand so typed =
    runs-both ground below below below (items_code scope next trees) (What.PutEnd ∷ []) (items-runs ground scope fits next trees below stand so typed)
    (runs-step ground below below below What.PutEnd [] can (λ last. refl) refl)

-- In the main program all, and in a loop assignments alone.
abbrev pub may_do : (main : Bool) → Deed → Bool
may_do true deed = true
may_do false deed = is_built_assignment deed

-- The main program writes lines and enters loops.
abbrev pub IsOpen : Ground → Bool → Type 0
IsOpen ground main = main ≡ true → (can_stand ground.kind What.PutEnd ≡ true) × ((number : ℕ) → can_stand ground.kind (What.Enter number) ≡ true)

pub deed-runs : (ground : Ground) (scope : Scope) → Fits ground scope → HoldsNames scope → Changes ground → (main : Bool) → IsOpen ground main → (next free : ℕ) (deed : Deed) (below : Sorts)
    → Stand ground.code.texts next (texts_of_deed deed) → Stand ground.plan.groups free (groups_of_deed scope deed) → deed_is_lowered scope deed ≡ true → deed_is_typed scope deed ≡ true
    → may_do main deed ≡ true → Runs ground below (deed_code scope next free deed) below
deed-runs ground scope fits holds changeable main free_to next free (assign target tree) below texts groups so typed may =
    assigned-runs ground scope fits changeable target.name (entity scope target.name) target.subscripts tree below refl so typed
deed-runs ground scope fits holds changeable main free_to next free (fill text trees) below texts groups so typed may =
    filling-runs ground scope fits holds changeable text (entity scope text) free trees below refl
    (here-stands ground.plan.groups free (kept_group (sort_of_entity (entity scope text)) (length trees)) [] groups) so typed
deed-runs ground scope fits holds changeable true free_to next free (print written trees) below texts groups so typed may =
    printing-runs ground scope fits (free_to refl).0 next trees below texts so typed
deed-runs ground scope fits holds changeable false free_to next free (print written trees) below texts groups so typed may = absurd (false≢true may)
deed-runs ground scope fits holds changeable main free_to next free deed below texts groups so typed may = absurd (false≢true so)

abbrev pub whats_of : List Instr → List What
whats_of instrs = map (λ (instr : Instr). instr.what) instrs

pub whats-lined : (line : ℕ) (whats : List What) → whats_of (lined line whats) ≡ whats
whats-lined line [] = refl
whats-lined line (what ∷ whats) = ap (λ rest. what ∷ rest) (whats-lined line whats)

pub wrapped-runs : (ground : Ground) (scope : Scope) → Fits ground scope → (kind : Kind) (tree : Tree) (below : Sorts) → is_usable scope tree ≡ true → is_typed_number scope tree ≡ true
    → Runs ground below (value_code scope tree ++ What.Wrap kind ∷ []) (items.number kind ∷ below)
wrapped-runs ground scope fits kind tree below so typed =
    runs-both ground below (item_of (sort_of scope tree) ∷ below) (items.number kind ∷ below) (value_code scope tree) (What.Wrap kind ∷ [])
    (value-runs ground scope fits tree below so (both-true typed).0) (number-wrapped (sort_of scope tree) (both-true typed).1)
  where
    number-wrapped : (sort : Sort) → is_number sort ≡ true → Runs ground (item_of sort ∷ below) (What.Wrap kind ∷ []) (items.number kind ∷ below)
    number-wrapped (whole other) e = wrap-runs ground below kind other
    number-wrapped logical e = absurd (false≢true e)

pub one-fits : (kind : Kind) → is_of_kind kind (pos 1) ≡ true
one-fits Kind.K1 = refl
one-fits kind = refl

pub step-runs : (ground : Ground) (scope : Scope) → Fits ground scope → (kind : Kind) (step : Option Tree) (below : Sorts) → step_is_usable scope step ≡ true → step_is_typed scope step ≡ true
    → Runs ground below (step_code scope kind step) (items.number kind ∷ below)
step-runs ground scope fits kind None below so typed = const-runs ground below kind (pos 1) (one-fits kind)
step-runs ground scope fits kind (Some tree) below so typed = wrapped-runs ground scope fits kind tree below so typed

pub wrapped-first : (tree_code : List What) (kind : Kind) (others : List What) → (tree_code ++ What.Wrap kind ∷ []) ++ others ≡ tree_code ++ (What.Wrap kind ∷ others)
wrapped-first [] kind others = refl
wrapped-first (x ∷ tree_code) kind others = ap (λ rest. x ∷ rest) (wrapped-first tree_code kind others)

pub limits-runs : (ground : Ground) (scope : Scope) → Fits ground scope → (kind : Kind) (ranging : Ranging) (below : Sorts) → limits_are_lowered scope ranging ≡ true
    → Runs ground below (limits_code scope kind ranging) (items.number kind ∷ items.number kind ∷ items.number kind ∷ below)
limits-runs ground scope fits kind ranging below so =
    let usable_last = both-true (both-true so).1 in
    let usable_step = both-true usable_last.1 in
    let typed = both-true usable_step.1 in
    let typed_last = both-true typed.1 in
    let a = items.number kind ∷ below in
    let b = items.number kind ∷ items.number kind ∷ below in
    let c = items.number kind ∷ items.number kind ∷ items.number kind ∷ below in
    let step = step_code scope kind ranging.step in
    let second = value_code scope ranging.last ++ (What.Wrap kind ∷ step) in
    subst (λ whats. Runs ground below whats c) (wrapped-first (value_code scope ranging.first) kind second)
    (runs-both ground below a c (value_code scope ranging.first ++ What.Wrap kind ∷ []) second
    (wrapped-runs ground scope fits kind ranging.first below (both-true so).0 typed.0)
    (subst (λ whats. Runs ground a whats c) (wrapped-first (value_code scope ranging.last) kind step)
    (runs-both ground a b c (value_code scope ranging.last ++ What.Wrap kind ∷ []) step
    (wrapped-runs ground scope fits kind ranging.last a usable_last.0 typed_last.0)
    (step-runs ground scope fits kind ranging.step b usable_step.0 typed_last.1))))
