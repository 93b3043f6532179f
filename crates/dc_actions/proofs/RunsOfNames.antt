-- The sorts that the instructions of names and operators leave.
use Rattle.std.proofs.Common.{◌≡◌, ℕ, suc, ◌+◌, Bool, true, false, ◌||◌, List, [], ◌∷◌, length, Option, Some, None, refl, sym, ap, ◌∙◌, subst, arith}
use Rattle.std.specs.Prelude.{ℤ, nat_eq, nat_le, option_map, option_and_then}
use Rattle.std.specs.List.{list_all}
use Rattle.std.proofs.lemmas.Bool.{false≢true, cond-true, eqb-true, eq-eqb}
use Rattle.dc_int.specs.declared.kind.Kind.{Kind}
use Rattle.dc_int.specs.declared.operation.Op.{Op}
use Rattle.dc_int.specs.declared.variable.Shape.{Shape}
use Rattle.dc_int.specs.Kinds.{bits_of, is_of_kind}
use Rattle.dc_int.specs.Operations.{takes_place}
use Rattle.dc_int.specs.Reductions.{truth}
use Rattle.dc_int.specs.Sorts.{Sort, whole, logical, sort_with}
use Rattle.dc_int.specs.Store.{Bounds}
use Rattle.dc_code.specs.declared.instr.Folding.{Folding}
use Rattle.dc_code.specs.declared.instr.Relation.{Relation}
use Rattle.dc_code.specs.declared.instr.What.{What}
use Rattle.dc_code.specs.declared.plan.Group.{Group}
use Rattle.dc_code.specs.Instructions.{takes_one}
use Rattle.dc_code.specs.StackSorts as items
use Rattle.dc_code.specs.StackSorts.{ItemSort, a_truth, in_variable, in_group, Sorts, value_sort, variable_sort, group_sort, rank, group_rank, serves, without_sort, without_numbers, with_top, exchanged, positioned_sorts, of_numbers, folding_sort}
use Rattle.dc_tree.specs.declared.token.Mark.{Mark}
use Rattle.dc_tree.specs.Entities.{Entity, outside, slots, constant, Scope, entity}
use Rattle.dc_tree.specs.Statements.{Name}
use Rattle.dc_tree.specs.Typing.{wider, joined, sort_joined_by, sort_led_by, sort_of_entity}
use Rattle.dc_actions.specs.Expressions.{constant_code, entity_code, folding_code, led_code, joined_code, gives_value, is_whole_variable, is_number}
use Rattle.dc_actions.specs.Typed.{item_of, leads, joins, fits_sort, FitNames}
use Rattle.dc_actions.proofs.Straight.{Ground, Runs, runs-one, runs-both}

-- ---- names in a code

abbrev pub Fits : Ground → Scope → Type 0
Fits ground scope = FitNames ground.code ground.plan scope

-- Values on the stack, the last on top.
abbrev pub stacked : List Sort → Sorts → Sorts
stacked [] sorts = sorts
stacked (first ∷ rest) sorts = stacked rest (item_of first ∷ sorts)

pub item-of-value : (kind : Kind) (flag : Bool) → value_sort kind flag ≡ item_of (sort_with flag kind)
item-of-value kind true = refl
item-of-value kind false = refl

pub variable-sort : (ground : Ground) (scope : Scope) → Fits ground scope → (text : Name) (variable : ℕ) (sort : Sort) (bounds : Bounds) → entity scope text ≡ outside variable sort bounds
    → variable_sort ground.code variable ≡ Some (item_of sort)
variable-sort ground scope fits text variable sort bounds e =
    let found = fits.outer text variable sort bounds e in
    ap (option_map (λ (shape : Shape). value_sort shape.kind shape.logical)) (found.1).0
    ∙ ap (λ (s : ItemSort). Some s) (item-of-value (found.0).kind (found.0).logical ∙ ap item_of ((found.1).1).0)

pub variable-rank : (ground : Ground) (scope : Scope) → Fits ground scope → (text : Name) (variable : ℕ) (sort : Sort) (bounds : Bounds) → entity scope text ≡ outside variable sort bounds
    → rank ground.code variable ≡ Some (length bounds)
variable-rank ground scope fits text variable sort bounds e =
    let found = fits.outer text variable sort bounds e in ap (option_map (λ (given : Bounds). length given)) ((found.1).1).1

group-sort : (ground : Ground) (scope : Scope) → Fits ground scope → (text : Name) (group : ℕ) (sort : Sort) (bounds : Bounds) → entity scope text ≡ slots group sort bounds
    → group_sort ground.plan group ≡ Some (item_of sort)
group-sort ground scope fits text group sort bounds e =
    let found = fits.inner text group sort bounds e in
    ap (option_map (λ (given : Group). value_sort given.kind given.logical)) (found.1).0
    ∙ ap (λ (s : ItemSort). Some s) (item-of-value (found.0).kind (found.0).logical ∙ ap item_of ((found.1).1).0)

group-rank : (ground : Ground) (scope : Scope) → Fits ground scope → (text : Name) (group : ℕ) (sort : Sort) (bounds : Bounds) → entity scope text ≡ slots group sort bounds
    → group_rank ground.plan group ≡ Some (length bounds)
group-rank ground scope fits text group sort bounds e =
    let found = fits.inner text group sort bounds e in
    ap (option_map (λ (given : Group). length given.bounds)) (found.1).0 ∙ ap (λ (given : Bounds). Some (length given)) ((found.1).1).1

-- ---- single instructions

pub const-runs : (ground : Ground) (sorts : Sorts) (kind : Kind) (z : ℤ) → is_of_kind kind z ≡ true → Runs ground sorts (What.Const kind z ∷ []) (items.number kind ∷ sorts)
const-runs ground sorts kind z within =
    runs-one ground sorts (items.number kind ∷ sorts) (What.Const kind z) refl (λ last. cond-true (is_of_kind kind z) (Some (items.number kind ∷ sorts)) None within)

pub truth-runs : (ground : Ground) (sorts : Sorts) (given : Bool) → Runs ground sorts (What.Truth given ∷ []) (a_truth ∷ sorts)
truth-runs ground sorts given = runs-one ground sorts (a_truth ∷ sorts) (What.Truth given) refl (λ last. refl)

pub wrap-runs : (ground : Ground) (sorts : Sorts) (kind other : Kind) → Runs ground (items.number other ∷ sorts) (What.Wrap kind ∷ []) (items.number kind ∷ sorts)
wrap-runs ground sorts kind other = runs-one ground (items.number other ∷ sorts) (items.number kind ∷ sorts) (What.Wrap kind) refl (λ last. refl)

pub position-taken : (variable : ℕ) (sorts : Sorts) → without_sort (Some (in_variable variable)) (in_variable variable ∷ sorts) ≡ Some sorts
position-taken variable sorts = cond-true (nat_eq variable variable) (Some sorts) None (eq-eqb variable variable refl)

pub slot-taken : (group : ℕ) (sorts : Sorts) → without_sort (Some (in_group group)) (in_group group ∷ sorts) ≡ Some sorts
slot-taken group sorts = cond-true (nat_eq group group) (Some sorts) None (eq-eqb group group refl)

pub positioned : (found : Option ℕ) (count : ℕ) (left : ItemSort) (before sorts : Sorts) → found ≡ Some count → without_numbers count before ≡ Some sorts
    → positioned_sorts found left before ≡ Some (left ∷ sorts)
positioned found count left before sorts e taken = ap (λ given. positioned_sorts given left before) e ∙ ap (with_top (Some left)) taken

pub exchange : (found : Option ItemSort) (left : ItemSort) (taken : ItemSort) (before sorts : Sorts) → found ≡ Some left → without_sort (Some taken) before ≡ Some sorts
    → exchanged found (Some taken) before ≡ Some (left ∷ sorts)
exchange found left taken before sorts e off = ap (λ given. with_top given (without_sort (Some taken) before)) e ∙ ap (with_top (Some left)) off

pub kind-serves : (kind : Kind) → nat_le (bits_of kind) (bits_of kind) ≡ true
kind-serves Kind.K1 = refl
kind-serves kind = refl

pub item-serves : (sort : Sort) → serves (item_of sort) (item_of sort) ≡ true
item-serves (whole kind) = kind-serves kind
item-serves logical = refl

pub subscript-runs : (ground : Ground) (scope : Scope) → Fits ground scope → (text : Name) (variable : ℕ) (sort : Sort) (bounds : Bounds) → entity scope text ≡ outside variable sort bounds
    → (before sorts : Sorts) → without_numbers (length bounds) before ≡ Some sorts → Runs ground before (What.Subscript variable ∷ []) (in_variable variable ∷ sorts)
subscript-runs ground scope fits text variable sort bounds e before sorts taken =
    runs-one ground before (in_variable variable ∷ sorts) (What.Subscript variable) refl
    (λ last. positioned (rank ground.code variable) (length bounds) (in_variable variable) before sorts (variable-rank ground scope fits text variable sort bounds e) taken)

load-runs : (ground : Ground) (scope : Scope) → Fits ground scope → (text : Name) (variable : ℕ) (sort : Sort) (bounds : Bounds) → entity scope text ≡ outside variable sort bounds
    → (sorts : Sorts) → Runs ground (in_variable variable ∷ sorts) (What.Load variable ∷ []) (item_of sort ∷ sorts)
load-runs ground scope fits text variable sort bounds e sorts =
    runs-one ground (in_variable variable ∷ sorts) (item_of sort ∷ sorts) (What.Load variable) refl
    (λ last. exchange (variable_sort ground.code variable) (item_of sort) (in_variable variable) (in_variable variable ∷ sorts) sorts
    (variable-sort ground scope fits text variable sort bounds e) (position-taken variable sorts))

-- The values of subscripts are taken.
numbers-off : (sorts : List Sort) (more : ℕ) (below : Sorts) → list_all is_number sorts ≡ true → without_numbers (length sorts + more) (stacked sorts below) ≡ without_numbers more below
numbers-off [] more below so = ap (λ n. without_numbers n below) (omega arith)
numbers-off (whole kind ∷ sorts) more below so =
    ap (λ n. without_numbers n (stacked sorts (items.number kind ∷ below))) (one-on (length sorts) more)
    ∙ numbers-off sorts (suc more) (items.number kind ∷ below) so
  where
    one-on : (m n : ℕ) → suc m + n ≡ m + suc n
    one-on m n = omega arith
numbers-off (logical ∷ sorts) more below so = absurd (false≢true so)

pub all-off : (sorts : List Sort) (count : ℕ) (below : Sorts) → count ≡ length sorts → list_all is_number sorts ≡ true → without_numbers count (stacked sorts below) ≡ Some below
all-off sorts count below e so = ap (λ n. without_numbers n (stacked sorts below)) (e ∙ none-on (length sorts)) ∙ numbers-off sorts 0 below so
  where
    none-on : (n : ℕ) → n ≡ n + 0
    none-on n = omega arith

no-sorts : (sorts : List Sort) → nat_eq (length sorts) 0 ≡ true → sorts ≡ []
no-sorts [] e = refl
no-sorts (first ∷ sorts) e = absurd (more (length sorts) (eqb-true (suc (length sorts)) 0 e))
  where
    more : (n : ℕ) → suc n ≡ 0 → ⊥
    more n e = omega (arith, e)

constant-runs : (ground : Ground) (sort : Sort) (z : ℤ) (below : Sorts) → fits_sort sort z ≡ true → Runs ground below (constant_code sort z) (item_of sort ∷ below)
constant-runs ground (whole kind) z below within = const-runs ground below kind z within
constant-runs ground logical z below within = truth-runs ground below (truth z)

pub entity-runs : (ground : Ground) (scope : Scope) → Fits ground scope → (text : Name) (found : Entity) (sorts : List Sort) (below : Sorts) → entity scope text ≡ found
    → gives_value found (length sorts) ≡ true → list_all is_number sorts ≡ true → Runs ground (stacked sorts below) (entity_code found) (item_of (sort_of_entity found) ∷ below)
entity-runs ground scope fits text (outside variable sort bounds) sorts below e so numbers =
    runs-both ground (stacked sorts below) (in_variable variable ∷ below) (item_of sort ∷ below) (What.Subscript variable ∷ []) (What.Load variable ∷ [])
    (subscript-runs ground scope fits text variable sort bounds e (stacked sorts below) below (all-off sorts (length bounds) below (eqb-true (length bounds) (length sorts) so) numbers))
    (load-runs ground scope fits text variable sort bounds e below)
entity-runs ground scope fits text (slots group sort bounds) sorts below e so numbers =
    runs-both ground (stacked sorts below) (in_group group ∷ below) (item_of sort ∷ below) (What.SubscriptSlot group ∷ []) (What.LoadSlot group ∷ [])
    (runs-one ground (stacked sorts below) (in_group group ∷ below) (What.SubscriptSlot group) refl
    (λ last. positioned (group_rank ground.plan group) (length bounds) (in_group group) (stacked sorts below) below (group-rank ground scope fits text group sort bounds e)
    (all-off sorts (length bounds) below (eqb-true (length bounds) (length sorts) so) numbers)))
    (runs-one ground (in_group group ∷ below) (item_of sort ∷ below) (What.LoadSlot group) refl
    (λ last. exchange (group_sort ground.plan group) (item_of sort) (in_group group) (in_group group ∷ below) below
    (group-sort ground scope fits text group sort bounds e) (slot-taken group below)))
entity-runs ground scope fits text (constant sort z) sorts below e so numbers =
    subst (λ (given : List Sort). Runs ground (stacked given below) (constant_code sort z) (item_of sort ∷ below)) (sym (no-sorts sorts so))
    (constant-runs ground sort z below (fits.constants text sort z e))
entity-runs ground scope fits text found sorts below e so numbers = absurd (false≢true so)

-- ---- reductions of arrays

pub fold-runs : (ground : Ground) (scope : Scope) → Fits ground scope → (folding : Folding) (suits : Sort → Bool) (left : Sort → ItemSort)
    → ((kind : Kind) (flag : Bool) → suits (sort_with flag kind) ≡ true → folding_sort folding kind flag ≡ Some (left (sort_with flag kind)))
    → (text : Name) (found : Entity) (below : Sorts) → entity scope text ≡ found → is_whole_variable found ≡ true → suits (sort_of_entity found) ≡ true
    → Runs ground below (folding_code folding found) (left (sort_of_entity found) ∷ below)
fold-runs ground scope fits folding suits left law text (outside variable sort bounds) below e so suit =
    let found = fits.outer text variable sort bounds e in
    runs-one ground below (left sort ∷ below) (What.Fold folding variable) refl
    (λ last. ap (λ given. with_top (option_and_then (λ (shape : Shape). folding_sort folding shape.kind shape.logical) given) (Some below)) (found.1).0
    ∙ ap (λ given. with_top given (Some below)) (law (found.0).kind (found.0).logical (ap suits ((found.1).1).0 ∙ suit))
    ∙ ap (λ s. Some (left s ∷ below)) ((found.1).1).0)
fold-runs ground scope fits folding suits left law text (slots group sort bounds) below e so suit =
    let found = fits.inner text group sort bounds e in
    runs-one ground below (left sort ∷ below) (What.FoldSlot folding group) refl
    (λ last. ap (λ given. with_top (option_and_then (λ (group : Group). folding_sort folding group.kind group.logical) given) (Some below)) (found.1).0
    ∙ ap (λ given. with_top given (Some below)) (law (found.0).kind (found.0).logical (ap suits ((found.1).1).0 ∙ suit))
    ∙ ap (λ s. Some (left s ∷ below)) ((found.1).1).0)
fold-runs ground scope fits folding suits left law text found below e so suit = absurd (false≢true so)

-- ---- operations

pub arith-one-runs : (ground : Ground) (op : Op) (kind : Kind) (below : Sorts) → takes_one op ≡ true → Runs ground (items.number kind ∷ below) (What.Arith op kind ∷ []) (items.number kind ∷ below)
arith-one-runs ground op kind below one =
    runs-one ground (items.number kind ∷ below) (items.number kind ∷ below) (What.Arith op kind) refl (λ last. after)
  where
    after : of_numbers op kind (items.number kind ∷ below) ≡ Some (items.number kind ∷ below)
    after = rw (one, kind-serves kind) refl

pub arith-two-runs : (ground : Ground) (op : Op) (kind a b : Kind) (below : Sorts) → takes_one op ≡ false → nat_le (bits_of a) (bits_of kind) ≡ true
    → (takes_place op || nat_le (bits_of b) (bits_of kind)) ≡ true → Runs ground (items.number b ∷ items.number a ∷ below) (What.Arith op kind ∷ []) (items.number kind ∷ below)
arith-two-runs ground op kind a b below two first second =
    runs-one ground (items.number b ∷ items.number a ∷ below) (items.number kind ∷ below) (What.Arith op kind) refl (λ last. after (takes_place op) refl)
  where
    after : (place : Bool) → takes_place op ≡ place → of_numbers op kind (items.number b ∷ items.number a ∷ below) ≡ Some (items.number kind ∷ below)
    after true e = rw (two, e, first) refl
    after false e =
        let narrow : nat_le (bits_of b) (bits_of kind) ≡ true = ap (λ place. place || nat_le (bits_of b) (bits_of kind)) (sym e) ∙ second in
        rw (two, e, narrow, first) refl

pub wide-first : (a b : Kind) → nat_le (bits_of a) (bits_of (wider a b)) ≡ true
wide-first Kind.K1 Kind.K1 = refl
wide-first Kind.K1 b = refl
wide-first Kind.K2 Kind.K1 = refl
wide-first Kind.K2 b = refl
wide-first Kind.K4 Kind.K1 = refl
wide-first Kind.K4 b = refl
wide-first Kind.K8 Kind.K1 = refl
wide-first Kind.K8 b = refl

pub wide-second : (a b : Kind) → nat_le (bits_of b) (bits_of (wider a b)) ≡ true
wide-second Kind.K1 Kind.K1 = refl
wide-second Kind.K1 b = refl
wide-second Kind.K2 Kind.K1 = refl
wide-second Kind.K2 b = refl
wide-second Kind.K4 Kind.K1 = refl
wide-second Kind.K4 b = refl
wide-second Kind.K8 Kind.K1 = refl
wide-second Kind.K8 b = refl

-- Two numbers, brought to the wider kind.
joined-arith : (ground : Ground) (op : Op) (a b : Kind) (below : Sorts) → takes_one op ≡ false → takes_place op ≡ false
    → Runs ground (items.number b ∷ items.number a ∷ below) (What.Arith op (wider a b) ∷ []) (items.number (wider a b) ∷ below)
joined-arith ground op a b below two off =
    arith-two-runs ground op (wider a b) a b below two (wide-first a b) (ap (λ place. place || nat_le (bits_of b) (bits_of (wider a b))) off ∙ wide-second a b)

compared : (ground : Ground) (relation : Relation) (a b : Kind) (below : Sorts) → Runs ground (items.number b ∷ items.number a ∷ below) (What.Compare relation ∷ []) (a_truth ∷ below)
compared ground relation a b below = runs-one ground (items.number b ∷ items.number a ∷ below) (a_truth ∷ below) (What.Compare relation) refl (λ last. refl)

-- ---- operators

pub led-runs : (ground : Ground) (mark : Mark) (sort : Sort) (below : Sorts) → leads mark sort ≡ true → Runs ground (item_of sort ∷ below) (led_code mark sort) (item_of (sort_led_by mark sort) ∷ below)
led-runs ground Mark.Not logical below so = runs-one ground (a_truth ∷ below) (a_truth ∷ below) What.Not refl (λ last. refl)
led-runs ground Mark.Not (whole kind) below so = absurd (false≢true so)
led-runs ground Mark.Minus (whole kind) below so = arith-one-runs ground Op.Neg kind below refl
led-runs ground Mark.Minus logical below so = absurd (false≢true so)
led-runs ground mark (whole kind) below so = refl
led-runs ground mark logical below so = absurd (false≢true so)

pub joined-runs : (ground : Ground) (mark : Mark) (a b : Sort) (below : Sorts) → joins mark a b ≡ true
    → Runs ground (item_of b ∷ item_of a ∷ below) (joined_code mark (joined a b)) (item_of (sort_joined_by mark a b) ∷ below)
joined-runs ground Mark.Plus (whole a) (whole b) below so = joined-arith ground Op.Add a b below refl refl
joined-runs ground Mark.Minus (whole a) (whole b) below so = joined-arith ground Op.Sub a b below refl refl
joined-runs ground Mark.Times (whole a) (whole b) below so = joined-arith ground Op.Mul a b below refl refl
joined-runs ground Mark.Slash (whole a) (whole b) below so = joined-arith ground Op.Div a b below refl refl
joined-runs ground Mark.Power (whole a) (whole b) below so = joined-arith ground Op.Pow a b below refl refl
joined-runs ground Mark.Eq (whole a) (whole b) below so = compared ground Relation.Eq a b below
joined-runs ground Mark.Ne (whole a) (whole b) below so = compared ground Relation.Ne a b below
joined-runs ground Mark.Lt (whole a) (whole b) below so = compared ground Relation.Lt a b below
joined-runs ground Mark.Le (whole a) (whole b) below so = compared ground Relation.Le a b below
joined-runs ground Mark.Gt (whole a) (whole b) below so = compared ground Relation.Gt a b below
joined-runs ground Mark.Ge (whole a) (whole b) below so = compared ground Relation.Ge a b below
joined-runs ground Mark.And logical logical below so = runs-one ground (a_truth ∷ a_truth ∷ below) (a_truth ∷ below) What.And refl (λ last. refl)
joined-runs ground Mark.Or logical logical below so = runs-one ground (a_truth ∷ a_truth ∷ below) (a_truth ∷ below) What.Or refl (λ last. refl)
joined-runs ground Mark.Eqv logical logical below so = runs-one ground (a_truth ∷ a_truth ∷ below) (a_truth ∷ below) What.Eqv refl (λ last. refl)
joined-runs ground Mark.Neqv logical logical below so = runs-one ground (a_truth ∷ a_truth ∷ below) (a_truth ∷ below) What.Neqv refl (λ last. refl)
joined-runs ground mark (whole a) (whole b) below so = absurd (false≢true so)
joined-runs ground Mark.Plus (whole a) logical below so = absurd (false≢true so)
joined-runs ground mark (whole a) logical below so = absurd (false≢true so)
joined-runs ground Mark.Plus logical (whole b) below so = absurd (false≢true so)
joined-runs ground mark logical (whole b) below so = absurd (false≢true so)
joined-runs ground mark logical logical below so = absurd (false≢true so)
