-- How the walker stores the values of assignments.
use Rattle.std.proofs.Common.{◌≡◌, ℕ, zero, suc, ◌+◌, ◌-◌, ◌<◌, ◌≤◌, Bool, true, false, List, [], ◌∷◌, map, length, drop, Option, Some, refl, sym, ap, subst, ◌∙◌, arith}
use Rattle.std.proofs.lemmas.Bool.{false≢true}
use Rattle.std.specs.List.{range_with_len, list_all}
use Rattle.std.specs.Prelude.{Result, Ok, Err, ℤ, zip, option_map, IsTrue}
use Rattle.dc_int.specs.declared.access.ElementId.{ElementId}
use Rattle.dc_int.specs.Entries.{Defines}
use Rattle.dc_int.specs.Sorts.{Sort, fitted}
use Rattle.dc_int.specs.Store.{Bounds, elements_in}
use Rattle.dc_code.specs.declared.frame.Place.{Place}
use Rattle.dc_code.specs.Troubles.{Slots}
use Rattle.dc_plain.specs.Views.{View, noted}
use Rattle.dc_tree.specs.declared.expr.Expr.{Expr}
use Rattle.dc_form.specs.BuiltPrograms.{is_held, is_held_target}
use Rattle.dc_tree.specs.Statements.{Name, Target}
use Rattle.dc_tree.specs.Entities.{Entity, outside, slots, dummy, constant, function, subroutine, reduction, nothing, Scope}
use Rattle.dc_tree.specs.Syntax.{Tree, tree}
use Rattle.dc_tree.specs.Typing.{sort_of_entity}
use Rattle.dc_meaning.specs.declared.stop.Stop.{Stop}
use Rattle.dc_meaning.specs.Acts as acts
use Rattle.dc_meaning.specs.Acts.{Act, just, wrong, ◌>>=◌, for_each}
use Rattle.dc_meaning.specs.Actions.{Flow, on, ◌>>◌, assignment}
use Rattle.dc_meaning.specs.Gathering.{places_from}
use Rattle.dc_meaning.specs.Places.{whole_of, element_at}
use Rattle.dc_meaning.specs.Storing.{stored, assigned_whole, assigned_at, assigned, filled, listed, listed_whole}
use Rattle.dc_meaning.specs.Values.{Callee, value, all_values}
use Rattle.dc_meaning.specs.Walking.{Stays}
use Rattle.dc_meaning.proofs.Walking.{acts-then, stays-just, stays-then, stays-bad, stays-as}
use Rattle.dc_meaning.proofs.Gathering.{count-step}

abbrev pub goes_on : Unit {0} → Flow
goes_on done = on

abbrev at : ℕ → ℕ → ElementId
at variable position = record { variable = variable; position = position }

abbrev pub is_reduced : Entity → Bool
is_reduced (reduction variable op sort bounds) = true
is_reduced other = false

-- an element is defined
pub stored-one : {own : Slots} (view : View) (line : ℕ) (x : ElementId) (z : ℤ) → Stays (λ (done : Unit {0}). done) own view (λ call. acts.store line (Place.Outer x) z) (noted (Defines x z line) view) (Ok tt)
stored-one view line x z = record { each = λ turns. record { answers = λ call. refl } }

-- nothing is left to be stored
abbrev pub all-stored : Callee → Act Flow
all-stored call = just on

pub on-just : {own : Slots} {view : View} → Stays goes_on own view (λ call. just on) view (Ok tt)
on-just = stays-just tt (λ call. refl)

-- an element is defined, and then what is left
pub stored-then : {own : Slots} {view next after : View} {r : Result (Unit {0}) Stop} (line : ℕ) (x : ElementId) (z : ℤ) (rest : Callee → Act Flow) → next ≡ noted (Defines x z line) view
    → Stays goes_on own next rest after r → Stays goes_on own view (λ call. acts.store line (Place.Outer x) z >>= (λ done. rest call)) after r
stored-then {own = own} {view = view} {after = after} {r = r} line x z rest is walks =
    stays-then (λ call done. rest call) (stored-one view line x z) (subst (λ v. Stays goes_on own v rest after r) is walks)

-- ---- element by element

filled-step : (line variable : ℕ) (z : ℤ) (count position : ℕ) → filled line variable z (suc count) position ≡ (acts.store line (Place.Outer (at variable position)) z >>= (λ done. filled line variable z count (position + 1)))
filled-step line variable z count position =
    let first = acts.store line (Place.Outer (at variable position)) z in
    let rest = for_each (λ place. acts.store line place z) (places_from variable count (position + 1)) in
    acts-then first (λ u. rest >>= (λ us. just (u ∷ us))) (λ done. just on)
    ∙ (λ i. first >>= (λ u. acts-then rest (λ us. just (u ∷ us)) (λ done. just on) i))

-- one more element is stored
pub filled-on : {own : Slots} {view next after : View} {r : Result (Unit {0}) Stop} (line variable : ℕ) (z : ℤ) (size position : ℕ) → position < size
    → next ≡ noted (Defines (at variable position) z line) view → Stays goes_on own next (λ call. filled line variable z (size - (position + 1)) (position + 1)) after r
    → Stays goes_on own view (λ call. filled line variable z (size - position) position) after r
filled-on line variable z size position below is walks =
    stays-as (λ call. ap (λ n. filled line variable z n position) (count-step size position below) ∙ filled-step line variable z (size - (position + 1)) position)
    (stored-then line (at variable position) z (λ call. filled line variable z (size - (position + 1)) (position + 1)) is walks)

pub filled-none : {own : Slots} {view : View} (line variable : ℕ) (z : ℤ) (count position : ℕ) → count ≡ 0 → Stays goes_on own view (λ call. filled line variable z count position) view (Ok tt)
filled-none line variable z count position none = stays-as (λ call. ap (λ n. filled line variable z n position) none) on-just

listed-step : (line variable : ℕ) (sort : Sort) (count position : ℕ) (z : ℤ) (rest : List ℤ)
    → listed line variable sort (suc count) position (z ∷ rest) ≡ (acts.store line (Place.Outer (at variable position)) (fitted sort z) >>= (λ done. listed line variable sort count (position + 1) rest))
listed-step line variable sort count position z rest =
    let first = acts.store line (Place.Outer (at variable position)) (fitted sort z) in
    let others = for_each (λ (w : Place × ℤ). acts.store line w.0 (fitted sort w.1)) (zip (places_from variable count (position + 1)) rest) in
    acts-then first (λ u. others >>= (λ us. just (u ∷ us))) (λ done. just on)
    ∙ (λ i. first >>= (λ u. acts-then others (λ us. just (u ∷ us)) (λ done. just on) i))

-- one more value of a list is stored
pub listed-on : {own : Slots} {view next after : View} {r : Result (Unit {0}) Stop} (line variable : ℕ) (sort : Sort) (size position : ℕ) (z : ℤ) (rest : List ℤ) → position < size
    → next ≡ noted (Defines (at variable position) (fitted sort z) line) view
    → Stays goes_on own next (λ call. listed line variable sort (size - (position + 1)) (position + 1) rest) after r
    → Stays goes_on own view (λ call. listed line variable sort (size - position) position (z ∷ rest)) after r
listed-on line variable sort size position z rest below is walks =
    stays-as (λ call. ap (λ n. listed line variable sort n position (z ∷ rest)) (count-step size position below) ∙ listed-step line variable sort (size - (position + 1)) position z rest)
    (stored-then line (at variable position) (fitted sort z) (λ call. listed line variable sort (size - (position + 1)) (position + 1) rest) is walks)

-- there is no more place, or no more value
pub listed-full : {own : Slots} {view : View} (line variable : ℕ) (sort : Sort) (count position : ℕ) (given : List ℤ) → count ≡ 0
    → Stays goes_on own view (λ call. listed line variable sort count position given) view (Ok tt)
listed-full line variable sort count position given none = stays-as (λ call. ap (λ n. listed line variable sort n position given) none) on-just

pub listed-none : {own : Slots} {view : View} (line variable : ℕ) (sort : Sort) (count position : ℕ) → Stays goes_on own view (λ call. listed line variable sort count position []) view (Ok tt)
listed-none line variable sort zero position = on-just
listed-none line variable sort (suc count) position = on-just

past : (given : List ℤ) (n : ℕ) → length given ≤ n → drop n given ≡ []
past [] zero below = refl
past [] (suc n) below = refl
past (z ∷ given) zero below = absurd (omega (arith, below))
past (z ∷ given) (suc n) below = past given n (omega (arith, below))

pub listed-past : {own : Slots} {view : View} (line variable : ℕ) (sort : Sort) (count position : ℕ) (given : List ℤ) (n : ℕ) → length given ≤ n
    → Stays goes_on own view (λ call. listed line variable sort count position (drop n given)) view (Ok tt)
listed-past line variable sort count position given n below =
    stays-as (λ call. ap (listed line variable sort count position) (past given n below)) (listed-none line variable sort count position)

-- ---- a whole variable

for-each-just : {A B : Type 0} (f : A → B) (items : List A) → for_each (λ a. just (f a)) items ≡ just (map f items)
for-each-just f [] = refl
for-each-just f (a ∷ items) = ap (λ rest. rest >>= (λ bs. just (f a ∷ bs))) (for-each-just f items)

pub whole-places : (line variable : ℕ) (sort : Sort) (bounds : Bounds) → whole_of line (outside variable sort bounds) ≡ just (places_from variable (elements_in bounds) 0)
whole-places line variable sort bounds = for-each-just (λ p. Place.Outer (at variable p)) (range_with_len 0 (elements_in bounds))

pub whole-assigned : (line variable : ℕ) (sort : Sort) (bounds : Bounds) (given : ℤ)
    → assigned_whole line (outside variable sort bounds) given ≡ filled line variable (fitted sort given) (elements_in bounds) 0
whole-assigned line variable sort bounds given = ap (λ places. places >>= stored line (outside variable sort bounds) given) (whole-places line variable sort bounds)

pub whole-listed : (line variable : ℕ) (sort : Sort) (bounds : Bounds) (given : List ℤ)
    → listed_whole line (outside variable sort bounds) given ≡ listed line variable sort (elements_in bounds) 0 given
whole-listed line variable sort bounds given =
    ap (λ places. places >>= (λ ps. for_each (λ (w : Place × ℤ). acts.store line w.0 (fitted sort w.1)) (zip ps given) >> just on)) (whole-places line variable sort bounds)

-- ---- an element

pub element-bad : {own : Slots} {view : View} {e : Stop} (line : ℕ) (variable : Entity) (subscripts : List ℤ) (given : ℤ)
    → Stays Place.Outer own view (λ call. element_at line variable subscripts) view (Err e) → Stays goes_on own view (λ call. assigned_at line variable subscripts given) view (Err e)
element-bad line variable subscripts given walks = stays-bad {A = Unit {0}} {tell = goes_on} (λ call place. stored line variable given (place ∷ [])) walks

pub element-walks : {own : Slots} {view after : View} (line : ℕ) (variable : Entity) (subscripts : List ℤ) (given : ℤ) (x : ElementId) → after ≡ noted (Defines x (fitted (sort_of_entity variable) given) line) view
    → Stays Place.Outer own view (λ call. element_at line variable subscripts) view (Ok x) → Stays goes_on own view (λ call. assigned_at line variable subscripts given) after (Ok tt)
element-walks {own = own} {view = view} line variable subscripts given x is first =
    stays-then (λ call place. stored line variable given (place ∷ [])) first
    (subst (λ v. Stays goes_on own view (λ call. stored line variable given (Place.Outer x ∷ [])) v (Ok tt)) (sym is) (record { each = λ turns. record { answers = λ call. refl } }))

-- ---- any target

-- by the values of its subscripts
pub assigned-subscripts : (scope : Scope) (call : Callee) (line : ℕ) (variable : Entity) (trees : List Tree) (given : ℤ)
    → assigned scope call line variable (Some trees) given ≡ (all_values scope call line trees >>= (λ subscripts. assigned_at line variable subscripts given))
assigned-subscripts scope call line variable trees given =
    acts-then (all_values scope call line trees) (λ subscripts. element_at line variable subscripts >>= (λ place. just (place ∷ []))) (stored line variable given)
    ∙ (λ i. all_values scope call line trees >>= (λ subscripts. acts-then (element_at line variable subscripts) (λ place. just (place ∷ [])) (stored line variable given) i))

-- by the subscripts as the code has them
pub with-subscripts : (scope : Scope) (call : Callee) (line : ℕ) (variable : Entity) (subscripts : Option (List Expr)) (exprs given : List Expr) (z : ℤ) → subscripts ≡ Some exprs → given ≡ exprs
    → assigned scope call line variable (option_map (map tree) subscripts) z ≡ (all_values scope call line (map tree given) >>= (λ values. assigned_at line variable values z))
with-subscripts scope call line variable subscripts exprs given z is same =
    ap (λ s. assigned scope call line variable (option_map (map tree) s) z) is
    ∙ assigned-subscripts scope call line variable (map tree exprs) z
    ∙ ap (λ es. all_values scope call line (map tree es) >>= (λ values. assigned_at line variable values z)) (sym same)

pub held-subscripts : (name : Name) (subscripts : Option (List Expr)) (exprs given : List Expr) → subscripts ≡ Some exprs → given ≡ exprs
    → IsTrue (is_held_target (record { name = name; subscripts = option_map (map tree) subscripts })) → IsTrue (list_all is_held (map tree given))
held-subscripts name subscripts exprs given is same held =
    subst (λ es. IsTrue (list_all is_held (map tree es))) (sym same)
    (subst (λ s. IsTrue (is_held_target (record { name = name; subscripts = option_map (map tree) s }))) is held)

-- ---- an assignment, to what is no REDUCE variable

pub assignment-plain : (scope : Scope) (call : Callee) (line : ℕ) (target : Target) (right : Tree) (variable : Entity) → is_reduced variable ≡ false
    → assignment scope call line target right variable ≡ (value scope call line right >>= (λ given. assigned scope call line variable target.subscripts given))
assignment-plain scope call line target right (outside number sort bounds) plain = refl
assignment-plain scope call line target right (slots group sort bounds) plain = refl
assignment-plain scope call line target right (dummy place sort) plain = refl
assignment-plain scope call line target right (constant sort z) plain = refl
assignment-plain scope call line target right (function number sort) plain = refl
assignment-plain scope call line target right (subroutine number intents) plain = refl
assignment-plain scope call line target right (reduction number op sort bounds) plain = absurd (false≢true (sym plain))
assignment-plain scope call line target right nothing plain = refl
