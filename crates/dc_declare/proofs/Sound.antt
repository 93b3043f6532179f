-- The symbols that declarations make are sound.
use Rattle.std.proofs.Common.{◌≡◌, ℕ, zero, suc, Bool, true, false, not, ◌&&◌, List, [], ◌∷◌, map, length, replicate, Option, Some, None, refl, ap₂, arith}
use Rattle.std.specs.Prelude.{nat_eq, if◌then◌else◌, ℤ, pos}
use Rattle.std.specs.List.{list_all}
use Rattle.std.proofs.lemmas.Bool.{and_parts}
use Rattle.dc_int.specs.declared.kind.Kind.{Kind}
use Rattle.dc_int.specs.Kinds.{wrapped, is_truth_value, value_fits}
use Rattle.dc_int.specs.Reductions.{truth, number_of_truth}
use Rattle.dc_int.specs.Store.{Bounds}
use Rattle.dc_int.proofs.Fits.{truth-fits, wrapped-fits}
use Rattle.dc_tree.specs.Statements.{Name, Initial, absent, scalar, listed, Declared}
use Rattle.dc_tree.specs.Symbols.{is_sound}
use Rattle.dc_tree.specs.Syntax.{Tree}
use Rattle.dc_sorts.specs.Standing.{Standing}
use Rattle.dc_uses.specs.declared.constant.Constant.{Constant}
use Rattle.dc_uses.specs.Constants.{constant_of}
use Rattle.dc_declare.specs.declared.entry.Nature.{Nature}
use Rattle.dc_declare.specs.declared.given.Given.{Given}
use Rattle.dc_declare.specs.declared.heading.Heading.{Heading}
use Rattle.dc_declare.specs.declared.types.ElementType.{ElementType}
use Rattle.dc_declare.specs.Bounds.{told, is_array}
use Rattle.dc_declare.specs.Entities.{nature_in, entry_of, initial_of, role_of}
use Rattle.dc_declare.specs.Totals.{size_of, is_over}
use Rattle.dc_declare.specs.Tables.{symbol_with}
use Rattle.dc_declare.specs.Values.{stored, suits, taken_as, worth, trees_in, is_filling, first_value, filled}

-- ---- values

pub both : {a b : Bool} → a ≡ true → b ≡ true → (a && b) ≡ true
both one other = ap₂ (λ a b. a && b) one other

abbrev fits : ElementType → ℤ → Bool
fits form z = value_fits form.kind form.logical z

abbrev all_fit : ElementType → List ℤ → Bool
all_fit form values = list_all (value_fits form.kind form.logical) values

truth_value : (b : Bool) → is_truth_value (number_of_truth b) ≡ true
truth_value true = refl
truth_value false = refl

stored-fits : (form : ElementType) (z : ℤ) → fits form (stored form z) ≡ true
stored-fits form z = by form.logical
  where
    by : (b : Bool) → value_fits form.kind b (if b then number_of_truth (truth z) else wrapped form.kind z) ≡ true
    by true = truth-fits form.kind (number_of_truth (truth z)) (truth_value (truth z))
    by false = wrapped-fits form.kind z

zero-fits : (form : ElementType) → fits form (pos 0) ≡ true
zero-fits form = by form.kind form.logical
  where
    by : (kind : Kind) (b : Bool) → value_fits kind b (pos 0) ≡ true
    by Kind.K1 true = refl
    by Kind.K1 false = refl
    by Kind.K2 true = refl
    by Kind.K2 false = refl
    by Kind.K4 true = refl
    by Kind.K4 false = refl
    by Kind.K8 true = refl
    by Kind.K8 false = refl

worth-fits : (standing : Standing) (form : ElementType) (tree : Tree) → fits form (worth standing form tree) ≡ true
worth-fits standing form tree = by (constant_of standing tree)
  where
    chosen : (b : Bool) (z : ℤ) → fits form (told (if b then Some (stored form z) else None) (pos 0)) ≡ true
    chosen true z = stored-fits form z
    chosen false z = zero-fits form

    by : (constant : Option Constant) → fits form (told (taken_as form constant) (pos 0)) ≡ true
    by None = zero-fits form
    by (Some constant) = chosen (suits form constant.form) constant.value

values-fit : (standing : Standing) (form : ElementType) (trees : List Tree) → all_fit form (map (worth standing form) trees) ≡ true
values-fit standing form [] = refl
values-fit standing form (tree ∷ rest) = both (worth-fits standing form tree) (values-fit standing form rest)

first-fits : (form : ElementType) (values : List ℤ) → all_fit form values ≡ true → fits form (first_value values) ≡ true
first-fits form [] all = zero-fits form
first-fits form (z ∷ rest) all = (and_parts (fits form z) (all_fit form rest) all).0

copies-fit : (form : ElementType) (n : ℕ) (z : ℤ) → fits form z ≡ true → all_fit form (replicate n z) ≡ true
copies-fit form zero z is = refl
copies-fit form (suc n) z is = both is (copies-fit form n z is)

filled-fit : (form : ElementType) (over array : Bool) (size : ℕ) (given : Initial) (values : List ℤ) → all_fit form values ≡ true → all_fit form (filled over array size given values) ≡ true
filled-fit form over array size absent values all = refl
filled-fit form over array size (scalar tree) values all = by over
  where
    by : (b : Bool) → all_fit form (if b then [] else replicate size (first_value values)) ≡ true
    by true = refl
    by false = copies-fit form size (first_value values) (first-fits form values all)
filled-fit form over array size (listed trees) values all = by (is_filling array size (length values))
  where
    by : (b : Bool) → all_fit form (if b then values else []) ≡ true
    by true = all
    by false = refl

-- ---- natures

abbrev may_stand : ℕ → Nature → Bool
may_stand unit (Nature.Dummy place) = not (nat_eq unit 0)
may_stand unit Nature.Result = not (nat_eq unit 0)
may_stand unit other = true

pub not-zero : (before : ℕ) → not (nat_eq (suc before) 0) ≡ true
not-zero before = grind arith

inside-stands : (before : ℕ) (nature : Nature) → may_stand (suc before) nature ≡ true
inside-stands before (Nature.Dummy place) = not-zero before
inside-stands before Nature.Result = not-zero before
inside-stands before Nature.Constant = refl
inside-stands before Nature.Variable = refl

nature-stands : (unit : ℕ) (heading : Heading) (constant : Bool) (name : Name) → may_stand unit (nature_in unit heading constant name) ≡ true
nature-stands zero heading true name = refl
nature-stands zero heading false name = refl
nature-stands (suc before) heading constant name = inside-stands before (nature_in (suc before) heading constant name)

entry-sound
    : (unit total : ℕ) (name : Name) (given : Given) (its_initial : Initial) (nature : Nature) (bounds : Bounds) (values : List ℤ)
    → may_stand unit nature ≡ true → all_fit given.form values ≡ true
    → is_sound (symbol_with unit name (role_of unit total given its_initial (record { nature = nature; bounds = bounds; values = values }))) ≡ true
entry-sound unit total name given its_initial (Nature.Dummy place) bounds values stands all = stands
entry-sound unit total name given its_initial Nature.Result bounds values stands all = stands
entry-sound unit total name given its_initial Nature.Constant bounds values stands all = both (first-fits given.form values all) refl
entry-sound unit total name given its_initial Nature.Variable bounds values stands all =
    both (initial-fit unit) refl
  where
    initial-fit : (u : ℕ) → all_fit given.form (initial_of u total its_initial (record { nature = Nature.Variable; bounds = bounds; values = values })) ≡ true
    initial-fit zero = filled-fit given.form (is_over zero total) (is_array bounds) (size_of bounds) its_initial values all
    initial-fit (suc before) = refl

pub made-sound
    : (heading : Heading) (standing : Standing) (given : Given) (declared : Declared) (total : ℕ)
    → is_sound (symbol_with heading.unit declared.name (role_of heading.unit total given declared.initial (entry_of heading standing given declared))) ≡ true
made-sound heading standing given declared total =
    let entry = entry_of heading standing given declared in
    entry-sound heading.unit total declared.name given declared.initial entry.nature entry.bounds entry.values
    (nature-stands heading.unit heading given.constant declared.name) (values-fit standing given.form (trees_in declared.initial))
