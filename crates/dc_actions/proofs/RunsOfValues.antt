-- The instructions of an expression leave a value of its sort.
use Rattle.std.proofs.Common.{◌≡◌, ℕ, suc, Bool, true, false, ◌&&◌, ◌||◌, List, [], ◌∷◌, ◌++◌, length, Option, Some, None, refl, sym, ap, ◌∙◌, subst}
use Rattle.std.specs.Prelude.{ℤ, pos, ◌==◌, nat_eq, nat_le, nat_lt, int_le, if◌then◌else◌}
use Rattle.std.specs.List.{list_all}
use Rattle.std.proofs.lemmas.Bool.{false≢true, cond-true, cond_both, or_right}
use Rattle.dc_int.specs.declared.kind.Kind.{Kind}
use Rattle.dc_int.specs.declared.operation.Op.{Op}
use Rattle.dc_int.specs.Kinds.{bits_of, is_of_kind, least_of, greatest_of, wrapped}
use Rattle.dc_int.specs.Operations.{takes_place}
use Rattle.dc_int.specs.Sorts.{Sort, whole, logical, kind_of, sort_with}
use Rattle.dc_int.specs.Store.{Bounds, extent}
use Rattle.dc_int.proofs.Wraps.{is_of_kind-holds, wrapped_in_range}
use Rattle.dc_code.specs.declared.instr.Folding.{Folding}
use Rattle.dc_code.specs.declared.instr.What.{What}
use Rattle.dc_code.specs.Instructions.{takes_one}
use Rattle.dc_code.specs.StackSorts as items
use Rattle.dc_code.specs.StackSorts.{ItemSort, a_truth, Sorts, folding_sort}
use Rattle.dc_tree.specs.Entities.{Entity, nothing, Scope, entity}
use Rattle.dc_tree.specs.Intrinsics.{Intrinsic, operation, chosen, merge, converted, huge, bit_size, kind, size, lower_bound, upper_bound, total, count, any, all, intrinsic}
use Rattle.dc_tree.specs.Literals.{number_of}
use Rattle.dc_tree.specs.Operating.{about_kind}
use Rattle.dc_tree.specs.Statements.{Name}
use Rattle.dc_tree.specs.Syntax as syntax
use Rattle.dc_tree.specs.Syntax.{Tree, Args, number, chars, name, refer, paren, unary, binary, no_args, arg}
use Rattle.dc_tree.specs.Typing.{joined, kind_converted, kind_with_suffix, sort_called, sort_referred, sort_of, sorts_of, first_sort, sort_of_entity, sort_led_by, constants_of}
use Rattle.dc_meaning.specs.Places.{bounds_of_entity, low_of, high_of}
use Rattle.dc_meaning.specs.Values.{array_named, about_array, dimension_named}
use Rattle.dc_actions.specs.Expressions.{about, entity_code, led_code, joined_code, folding_code, operation_code, function_code, referred_code, value_code, values_code, first_code, chosen_code, further_code, is_number, is_usable, are_usable, first_usable, is_whole_variable, gives_value, count_of, chooses, takes_so, refers_so}
use Rattle.dc_actions.specs.Typed.{item_of, is_logical, is_no_wider, operates_on, chooses_among, merges, takes_sorts, refers_typed, is_typed, are_typed, first_typed}
use Rattle.dc_actions.proofs.Facts.{both-true, takes-two}
use Rattle.dc_actions.proofs.Straight.{Ground, Runs, runs-one, runs-both, runs-to}
use Rattle.dc_actions.proofs.RunsOfNames.{Fits, stacked, const-runs, truth-runs, wrap-runs, entity-runs, fold-runs, kind-serves, arith-one-runs, arith-two-runs, led-runs, joined-runs}

-- ---- operations

operation-one : (ground : Ground) (op : Op) (k : Kind) (values : List (Option ℤ)) (below : Sorts) → nat_eq 1 (if takes_one op then 1 else 2) ≡ true
    → Runs ground (items.number k ∷ below) (operation_code op k) (item_of (sort_called (operation op) (whole k) values) ∷ below)
operation-one ground Op.Neg k values below so = arith-one-runs ground Op.Neg k below refl
operation-one ground Op.Abs k values below so = arith-one-runs ground Op.Abs k below refl
operation-one ground Op.Not k values below so = arith-one-runs ground Op.Not k below refl
operation-one ground Op.Popcnt k values below so =
    runs-both ground (items.number k ∷ below) (items.number k ∷ below) (items.number Kind.K4 ∷ below) (What.Arith Op.Popcnt k ∷ []) (What.Wrap Kind.K4 ∷ [])
    (arith-one-runs ground Op.Popcnt k below refl) (wrap-runs ground below Kind.K4 k)
operation-one ground op k values below so = absurd (false≢true so)

operation-two : (ground : Ground) (op : Op) (k b : Kind) (values : List (Option ℤ)) (below : Sorts) → nat_eq 2 (if takes_one op then 1 else 2) ≡ true
    → (takes_place op || nat_le (bits_of b) (bits_of k)) ≡ true
    → Runs ground (items.number b ∷ items.number k ∷ below) (operation_code op k) (item_of (sort_called (operation op) (whole k) values) ∷ below)
operation-two ground Op.Neg k b values below so narrow = absurd (false≢true so)
operation-two ground Op.Abs k b values below so narrow = absurd (false≢true so)
operation-two ground Op.Not k b values below so narrow = absurd (false≢true so)
operation-two ground Op.Popcnt k b values below so narrow = absurd (false≢true so)
operation-two ground op k b values below so narrow = arith-two-runs ground op k k b below refl (kind-serves k) narrow

operation-runs : (ground : Ground) (op : Op) (sorts : List Sort) (values : List (Option ℤ)) (below : Sorts) → nat_eq (length sorts) (if takes_one op then 1 else 2) ≡ true
    → operates_on op sorts ≡ true → Runs ground (stacked sorts below) (operation_code op (kind_of (first_sort sorts))) (item_of (sort_called (operation op) (first_sort sorts) values) ∷ below)
operation-runs ground op [] values below so typed = absurd (false≢true typed)
operation-runs ground op (whole a ∷ []) values below so typed = operation-one ground op a values below so
operation-runs ground op (logical ∷ []) values below so typed = absurd (false≢true typed)
operation-runs ground op (whole a ∷ whole b ∷ []) values below so typed = operation-two ground op a b values below so typed
operation-runs ground op (whole a ∷ logical ∷ []) values below so typed = absurd (false≢true typed)
operation-runs ground op (logical ∷ b ∷ []) values below so typed = absurd (false≢true typed)
operation-runs ground op (a ∷ b ∷ c ∷ sorts) values below so typed = absurd (false≢true typed)

merge-runs : (ground : Ground) (sorts : List Sort) (below : Sorts) → merges sorts ≡ true → Runs ground (stacked sorts below) (What.Merge ∷ []) (item_of (first_sort sorts) ∷ below)
merge-runs ground [] below typed = absurd (false≢true typed)
merge-runs ground (a ∷ []) below typed = absurd (false≢true typed)
merge-runs ground (a ∷ b ∷ []) below typed = absurd (false≢true typed)
merge-runs ground (whole a ∷ whole b ∷ logical ∷ []) below typed =
    let same : nat_eq (bits_of a) (bits_of b) ≡ true = (both-true typed).0 in
    runs-one ground (a_truth ∷ items.number b ∷ items.number a ∷ below) (items.number a ∷ below) What.Merge refl
    (λ last. cond-true (nat_eq (bits_of a) (bits_of b)) (Some (items.number a ∷ below)) None same)
merge-runs ground (logical ∷ logical ∷ logical ∷ []) below typed = runs-one ground (a_truth ∷ a_truth ∷ a_truth ∷ below) (a_truth ∷ below) What.Merge refl (λ last. refl)
merge-runs ground (whole a ∷ whole b ∷ whole c ∷ []) below typed = absurd (false≢true (both-true {a = nat_eq (bits_of a) (bits_of b)} typed).1)
merge-runs ground (whole a ∷ logical ∷ mask ∷ []) below typed = absurd (false≢true typed)
merge-runs ground (logical ∷ whole b ∷ mask ∷ []) below typed = absurd (false≢true typed)
merge-runs ground (logical ∷ logical ∷ whole c ∷ []) below typed = absurd (false≢true typed)
merge-runs ground (a ∷ b ∷ c ∷ d ∷ sorts) below typed = absurd (false≢true typed)

number-whole : (sort : Sort) → is_number sort ≡ true → sort ≡ whole (kind_of sort)
number-whole (whole k) so = refl
number-whole logical so = absurd (false≢true so)

number-item : (sort : Sort) → is_number sort ≡ true → item_of sort ≡ items.number (kind_of sort)
number-item (whole k) so = refl
number-item logical so = absurd (false≢true so)

-- ---- constants

greatest-fits : (k : Kind) → is_of_kind k (greatest_of k) ≡ true
greatest-fits Kind.K1 = refl
greatest-fits k = refl

bits-fit : (k : Kind) → is_of_kind k (pos (bits_of k)) ≡ true
bits-fit Kind.K1 = refl
bits-fit k = refl

kinds-fit : (sort : Sort) → is_of_kind Kind.K4 (about (about_kind kind sort)) ≡ true
kinds-fit (whole Kind.K1) = refl
kinds-fit (whole k) = refl
kinds-fit logical = refl

least-below : (k : Kind) (n : ℕ) → int_le (least_of k) (pos n) ≡ true
least-below Kind.K1 n = refl
least-below k n = refl

literal-fits : (k : Kind) (n : ℕ) → int_le (pos n) (greatest_of k) ≡ true → is_of_kind k (pos n) ≡ true
literal-fits k n below = ap (λ b. b && int_le (pos n) (greatest_of k)) (least-below k n) ∙ below

wrapped-fits : (z : ℤ) → is_of_kind Kind.K4 (wrapped Kind.K4 z) ≡ true
wrapped-fits z = is_of_kind-holds Kind.K4 (wrapped Kind.K4 z) (wrapped_in_range Kind.K4 z)

low-fits : (dimension : ℤ × ℤ) → is_of_kind Kind.K4 (low_of dimension) ≡ true
low-fits dimension = cond_both (extent dimension == 0) (pos 1) (wrapped Kind.K4 dimension.0) (λ z. is_of_kind Kind.K4 z ≡ true) (λ e. refl) (λ e. wrapped-fits dimension.0)

high-fits : (dimension : ℤ × ℤ) → is_of_kind Kind.K4 (high_of dimension) ≡ true
high-fits dimension = cond_both (extent dimension == 0) (pos 0) (wrapped Kind.K4 dimension.1) (λ z. is_of_kind Kind.K4 z ≡ true) (λ e. refl) (λ e. wrapped-fits dimension.1)

about-fits : (inquiry : Intrinsic) (bounds : Bounds) (dimension : Option (ℤ × ℤ)) → is_of_kind Kind.K4 (about_array inquiry bounds dimension) ≡ true
about-fits size bounds (Some dimension) = wrapped-fits (pos (extent dimension))
about-fits lower_bound bounds (Some dimension) = low-fits dimension
about-fits upper_bound bounds (Some dimension) = high-fits dimension
about-fits other bounds dimension = wrapped-fits _

-- ---- arrays

array-name : (scope : Scope) (args : Args) → is_whole_variable (array_named scope args) ≡ true
    → (text : Name) × ((entity scope text ≡ array_named scope args) × (first_sort (sorts_of scope args) ≡ sort_of_entity (array_named scope args)))
array-name scope no_args so = absurd (false≢true so)
array-name scope (arg keyed (name text) rest) so = (text, (refl, refl))
array-name scope (arg keyed tree rest) so = absurd (false≢true so)

sum-sort : (k : Kind) (flag : Bool) → is_number (sort_with flag k) ≡ true → folding_sort Folding.Sum k flag ≡ Some (items.number (kind_of (sort_with flag k)))
sum-sort k true so = absurd (false≢true so)
sum-sort k false so = refl

count-sort : (k : Kind) (flag : Bool) → is_logical (sort_with flag k) ≡ true → folding_sort Folding.Count k flag ≡ Some (items.number Kind.K4)
count-sort k true so = refl
count-sort k false so = absurd (false≢true so)

any-sort : (k : Kind) (flag : Bool) → is_logical (sort_with flag k) ≡ true → folding_sort Folding.Any k flag ≡ Some a_truth
any-sort k true so = refl
any-sort k false so = absurd (false≢true so)

all-sort : (k : Kind) (flag : Bool) → is_logical (sort_with flag k) ≡ true → folding_sort Folding.All k flag ≡ Some a_truth
all-sort k true so = refl
all-sort k false so = absurd (false≢true so)

-- ---- references

pub sorts-count : (scope : Scope) (args : Args) → length (sorts_of scope args) ≡ count_of args
sorts-count scope no_args = refl
sorts-count scope (arg keyed given rest) = ap suc (sorts-count scope rest)

-- What the instructions of arguments leave.
record ArgumentRuns (ground : Ground) (scope : Scope) (args : Args) : Type 0 where
  pub all_values : are_usable scope args ≡ true → are_typed scope args ≡ true → (below : Sorts) → Runs ground below (values_code scope args) (stacked (sorts_of scope args) below)
  pub first
      : nat_lt 0 (count_of args) ≡ true → first_usable scope args ≡ true → first_typed scope args ≡ true → (below : Sorts)
      → Runs ground below (first_code scope args) (item_of (first_sort (sorts_of scope args)) ∷ below)
  pub least
      : (op : Op) → chooses op ≡ true → nat_lt 0 (count_of args) ≡ true → are_usable scope args ≡ true → are_typed scope args ≡ true → chooses_among (sorts_of scope args) ≡ true
      → (below : Sorts)
      → Runs ground below (chosen_code scope op (kind_of (first_sort (sorts_of scope args))) args) (items.number (kind_of (first_sort (sorts_of scope args))) ∷ below)

abbrev FunctionRuns : Ground → Scope → Args → Intrinsic → Sorts → Type 0
FunctionRuns ground scope args function below =
    Runs ground below (function_code scope function args (first_sort (sorts_of scope args)) (values_code scope args) (first_code scope args) (λ op k. chosen_code scope op k args))
    (item_of (sort_called function (first_sort (sorts_of scope args)) (constants_of scope args)) ∷ below)

folding-function : (ground : Ground) (scope : Scope) → Fits ground scope → (args : Args) (folding : Folding) (suits : Sort → Bool) (left : Sort → ItemSort)
    → ((k : Kind) (flag : Bool) → suits (sort_with flag k) ≡ true → folding_sort folding k flag ≡ Some (left (sort_with flag k))) → (below : Sorts)
    → is_whole_variable (array_named scope args) ≡ true → suits (sort_of_entity (array_named scope args)) ≡ true
    → Runs ground below (folding_code folding (array_named scope args)) (left (first_sort (sorts_of scope args)) ∷ below)
folding-function ground scope fits args folding suits left law below so suit =
    let named = array-name scope args so in
    runs-to ground below (left (sort_of_entity (array_named scope args)) ∷ below) (left (first_sort (sorts_of scope args)) ∷ below) (folding_code folding (array_named scope args))
    (ap (λ s. left s ∷ below) (sym (named.1).1))
    (fold-runs ground scope fits folding suits left law named.0 (array_named scope args) below (named.1).0 so suit)

function-runs : (ground : Ground) (scope : Scope) → Fits ground scope → (args : Args) → ArgumentRuns ground scope args → (function : Intrinsic) (below : Sorts)
    → takes_so scope function args (are_usable scope args) (first_usable scope args) ≡ true → takes_sorts scope function args (are_typed scope args) (first_typed scope args) ≡ true
    → FunctionRuns ground scope args function below
function-runs ground scope fits args runs (operation op) below so typed =
    runs-both ground below (stacked (sorts_of scope args) below) (item_of (sort_called (operation op) (first_sort (sorts_of scope args)) (constants_of scope args)) ∷ below)
    (values_code scope args) (operation_code op (kind_of (first_sort (sorts_of scope args))))
    (runs.all_values (both-true so).1 (both-true typed).0 below)
    (operation-runs ground op (sorts_of scope args) (constants_of scope args) below
    (ap (λ n. nat_eq n (if takes_one op then 1 else 2)) (sorts-count scope args) ∙ (both-true so).0) (both-true typed).1)
function-runs ground scope fits args runs (chosen op) below so typed =
    runs.least op (both-true so).0 (both-true (both-true so).1).0 (both-true (both-true so).1).1 (both-true typed).0 (both-true typed).1 below
function-runs ground scope fits args runs merge below so typed =
    runs-both ground below (stacked (sorts_of scope args) below) (item_of (first_sort (sorts_of scope args)) ∷ below) (values_code scope args) (What.Merge ∷ [])
    (runs.all_values (both-true so).1 (both-true typed).0 below) (merge-runs ground (sorts_of scope args) below (both-true typed).1)
function-runs ground scope fits args runs converted below so typed =
    let first = first_sort (sorts_of scope args) in
    let to = kind_converted (constants_of scope args) in
    runs-both ground below (item_of first ∷ below) (items.number to ∷ below) (first_code scope args) (What.Wrap to ∷ [])
    (runs.first (both-true so).0 (both-true so).1 (both-true typed).0 below)
    (subst (λ s. Runs ground (s ∷ below) (What.Wrap to ∷ []) (items.number to ∷ below)) (sym (number-item first (both-true typed).1)) (wrap-runs ground below to (kind_of first)))
function-runs ground scope fits args runs huge below so typed =
    const-runs ground below (kind_of (first_sort (sorts_of scope args))) (greatest_of (kind_of (first_sort (sorts_of scope args)))) (greatest-fits (kind_of (first_sort (sorts_of scope args))))
function-runs ground scope fits args runs bit_size below so typed =
    const-runs ground below (kind_of (first_sort (sorts_of scope args))) (pos (bits_of (kind_of (first_sort (sorts_of scope args))))) (bits-fit (kind_of (first_sort (sorts_of scope args))))
function-runs ground scope fits args runs kind below so typed =
    const-runs ground below Kind.K4 (about (about_kind kind (first_sort (sorts_of scope args)))) (kinds-fit (first_sort (sorts_of scope args)))
function-runs ground scope fits args runs total below so typed =
    folding-function ground scope fits args Folding.Sum is_number (λ sort. items.number (kind_of sort)) sum-sort below (both-true so).0 (both-true so).1
function-runs ground scope fits args runs count below so typed = folding-function ground scope fits args Folding.Count is_logical (λ sort. items.number Kind.K4) count-sort below so typed
function-runs ground scope fits args runs any below so typed = folding-function ground scope fits args Folding.Any is_logical (λ sort. a_truth) any-sort below so typed
function-runs ground scope fits args runs all below so typed = folding-function ground scope fits args Folding.All is_logical (λ sort. a_truth) all-sort below so typed
function-runs ground scope fits args runs inquiry below so typed =
    let bounds = bounds_of_entity (array_named scope args) in
    const-runs ground below Kind.K4 (about_array inquiry bounds (dimension_named bounds (constants_of scope args))) (about-fits inquiry bounds (dimension_named bounds (constants_of scope args)))

declared-runs : (ground : Ground) (scope : Scope) → Fits ground scope → (text : Name) (args : Args) → ArgumentRuns ground scope args → (found : Entity) (below : Sorts) → entity scope text ≡ found
    → (gives_value found (count_of args) && are_usable scope args) ≡ true → (are_typed scope args && list_all is_number (sorts_of scope args)) ≡ true
    → Runs ground below (values_code scope args ++ entity_code found) (item_of (sort_of_entity found) ∷ below)
declared-runs ground scope fits text args runs found below e so typed =
    runs-both ground below (stacked (sorts_of scope args) below) (item_of (sort_of_entity found) ∷ below) (values_code scope args) (entity_code found)
    (runs.all_values (both-true so).1 (both-true typed).0 below)
    (entity-runs ground scope fits text found (sorts_of scope args) below e (ap (gives_value found) (sorts-count scope args) ∙ (both-true so).0) (both-true typed).1)

refer-runs : (ground : Ground) (scope : Scope) → Fits ground scope → (text : Name) (args : Args) → ArgumentRuns ground scope args → (found : Entity) (function : Option Intrinsic) (below : Sorts)
    → entity scope text ≡ found → refers_so scope found function args (are_usable scope args) (first_usable scope args) ≡ true
    → refers_typed scope found function args (are_typed scope args) (first_typed scope args) ≡ true
    → Runs ground below (referred_code scope found function args (values_code scope args) (first_code scope args) (λ op k. chosen_code scope op k args))
    (item_of (sort_referred found function (sorts_of scope args) (constants_of scope args)) ∷ below)
refer-runs ground scope fits text args runs nothing (Some function) below e so typed = function-runs ground scope fits args runs function below so typed
refer-runs ground scope fits text args runs found function below e so typed = declared-runs ground scope fits text args runs found below e so typed

-- ---- expressions

-- One step of MIN or MAX.
least-step : (ground : Ground) (op : Op) (k : Kind) (sort : Sort) (below : Sorts) → chooses op ≡ true → is_no_wider (whole k) sort ≡ true
    → Runs ground (item_of sort ∷ items.number k ∷ below) (What.Arith op k ∷ []) (items.number k ∷ below)
least-step ground op k (whole b) below so narrow =
    arith-two-runs ground op k k b below (takes-two op so) (kind-serves k) (or_right (takes_place op) (nat_le (bits_of b) (bits_of k)) narrow)
least-step ground op k logical below so narrow = absurd (false≢true narrow)

mutual
  pub value-runs : (ground : Ground) (scope : Scope) → Fits ground scope → (tree : Tree) (below : Sorts) → is_usable scope tree ≡ true → is_typed scope tree ≡ true
      → Runs ground below (value_code scope tree) (item_of (sort_of scope tree) ∷ below)
  value-runs ground scope fits (number digits suffix) below so typed =
      const-runs ground below (kind_with_suffix scope suffix) (pos (number_of digits)) (literal-fits (kind_with_suffix scope suffix) (number_of digits) typed)
  value-runs ground scope fits (syntax.truth given) below so typed = truth-runs ground below given
  value-runs ground scope fits (chars text) below so typed = truth-runs ground below false
  value-runs ground scope fits (name text) below so typed = entity-runs ground scope fits text (entity scope text) [] below refl so refl
  value-runs ground scope fits (refer text args) below so typed =
      refer-runs ground scope fits text args (record {
        all_values = λ usable right under. values-runs ground scope fits args under usable right;
        first = λ some usable right under. first-runs ground scope fits args under some usable right;
        least = λ op choice some usable right among under. least-runs ground scope fits args op under choice some usable right among;
      }) (entity scope text) (intrinsic text) below refl so typed
  value-runs ground scope fits (paren inside) below so typed = value-runs ground scope fits inside below so typed
  value-runs ground scope fits (unary mark right) below so typed =
      runs-both ground below (item_of (sort_of scope right) ∷ below) (item_of (sort_led_by mark (sort_of scope right)) ∷ below) (value_code scope right) (led_code mark (sort_of scope right))
      (value-runs ground scope fits right below so (both-true typed).0) (led-runs ground mark (sort_of scope right) below (both-true typed).1)
  value-runs ground scope fits (binary mark left right) below so typed =
      runs-both ground below (item_of (sort_of scope left) ∷ below) (item_of (sort_of scope (binary mark left right)) ∷ below) (value_code scope left)
      (value_code scope right ++ joined_code mark (joined (sort_of scope left) (sort_of scope right)))
      (value-runs ground scope fits left below (both-true so).0 (both-true typed).0)
      (runs-both ground (item_of (sort_of scope left) ∷ below) (item_of (sort_of scope right) ∷ item_of (sort_of scope left) ∷ below) (item_of (sort_of scope (binary mark left right)) ∷ below)
      (value_code scope right) (joined_code mark (joined (sort_of scope left) (sort_of scope right)))
      (value-runs ground scope fits right (item_of (sort_of scope left) ∷ below) (both-true so).1 (both-true (both-true typed).1).0)
      (joined-runs ground mark (sort_of scope left) (sort_of scope right) below (both-true (both-true typed).1).1))

  pub values-runs : (ground : Ground) (scope : Scope) → Fits ground scope → (args : Args) (below : Sorts) → are_usable scope args ≡ true → are_typed scope args ≡ true
      → Runs ground below (values_code scope args) (stacked (sorts_of scope args) below)
  values-runs ground scope fits no_args below so typed = refl
  values-runs ground scope fits (arg keyed given rest) below so typed =
      runs-both ground below (item_of (sort_of scope given) ∷ below) (stacked (sorts_of scope rest) (item_of (sort_of scope given) ∷ below)) (value_code scope given) (values_code scope rest)
      (value-runs ground scope fits given below (both-true so).0 (both-true typed).0)
      (values-runs ground scope fits rest (item_of (sort_of scope given) ∷ below) (both-true so).1 (both-true typed).1)

  first-runs : (ground : Ground) (scope : Scope) → Fits ground scope → (args : Args) (below : Sorts) → nat_lt 0 (count_of args) ≡ true → first_usable scope args ≡ true → first_typed scope args ≡ true
      → Runs ground below (first_code scope args) (item_of (first_sort (sorts_of scope args)) ∷ below)
  first-runs ground scope fits no_args below some so typed = absurd (false≢true some)
  first-runs ground scope fits (arg keyed given rest) below some so typed = value-runs ground scope fits given below so typed

  further-runs : (ground : Ground) (scope : Scope) → Fits ground scope → (args : Args) (op : Op) (k : Kind) (below : Sorts) → chooses op ≡ true → are_usable scope args ≡ true → are_typed scope args ≡ true
      → list_all (is_no_wider (whole k)) (sorts_of scope args) ≡ true → Runs ground (items.number k ∷ below) (further_code scope op k args) (items.number k ∷ below)
  further-runs ground scope fits no_args op k below choice so typed narrow = refl
  further-runs ground scope fits (arg keyed given rest) op k below choice so typed narrow =
      runs-both ground (items.number k ∷ below) (item_of (sort_of scope given) ∷ items.number k ∷ below) (items.number k ∷ below) (value_code scope given)
      (What.Arith op k ∷ further_code scope op k rest)
      (value-runs ground scope fits given (items.number k ∷ below) (both-true so).0 (both-true typed).0)
      (runs-both ground (item_of (sort_of scope given) ∷ items.number k ∷ below) (items.number k ∷ below) (items.number k ∷ below) (What.Arith op k ∷ []) (further_code scope op k rest)
      (least-step ground op k (sort_of scope given) below choice (both-true narrow).0)
      (further-runs ground scope fits rest op k below choice (both-true so).1 (both-true typed).1 (both-true narrow).1))

  least-runs : (ground : Ground) (scope : Scope) → Fits ground scope → (args : Args) (op : Op) (below : Sorts) → chooses op ≡ true → nat_lt 0 (count_of args) ≡ true → are_usable scope args ≡ true
      → are_typed scope args ≡ true → chooses_among (sorts_of scope args) ≡ true
      → Runs ground below (chosen_code scope op (kind_of (first_sort (sorts_of scope args))) args) (items.number (kind_of (first_sort (sorts_of scope args))) ∷ below)
  least-runs ground scope fits no_args op below choice some so typed among = absurd (false≢true some)
  least-runs ground scope fits (arg keyed given rest) op below choice some so typed among =
      let k = kind_of (sort_of scope given) in
      runs-both ground below (items.number k ∷ below) (items.number k ∷ below) (value_code scope given) (further_code scope op k rest)
      (runs-to ground below (item_of (sort_of scope given) ∷ below) (items.number k ∷ below) (value_code scope given)
      (ap (λ s. s ∷ below) (number-item (sort_of scope given) (both-true among).0))
      (value-runs ground scope fits given below (both-true so).0 (both-true typed).0))
      (further-runs ground scope fits rest op k below choice (both-true so).1 (both-true typed).1
      (ap (λ sort. list_all (is_no_wider sort) (sorts_of scope rest)) (sym (number-whole (sort_of scope given) (both-true among).0)) ∙ (both-true among).1))
