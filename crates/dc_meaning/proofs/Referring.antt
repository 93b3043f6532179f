-- How elements are read.
use Rattle.std.proofs.Common.{◌≡◌, ℕ, ◌<◌, List, [], ◌∷◌, length, Option, Some, None, refl, sym, ap, subst, ◌∙◌, arith}
use Rattle.std.specs.Prelude.{Result, Ok, Err, ℤ}
use Rattle.dc_int.specs.declared.access.ElementId.{ElementId}
use Rattle.dc_int.specs.declared.kind.Kind.{Kind}
use Rattle.dc_int.specs.Entries.{Reads}
use Rattle.dc_int.specs.Sorts.{Sort, whole}
use Rattle.dc_int.specs.Store.{Bounds, value_at, elements_in}
use Rattle.dc_code.specs.declared.frame.Place.{Place}
use Rattle.dc_code.specs.Troubles.{Slots}
use Rattle.dc_plain.specs.Views.{View, noted}
use Rattle.dc_tree.specs.Entities.{outside, slots}
use Rattle.dc_meaning.specs.declared.stop.Stop.{Stop}
use Rattle.dc_meaning.specs.Acts.{just, ◌>>=◌, load, required, refer_to, for_each}
use Rattle.dc_meaning.specs.Concurrent.{index_slots}
use Rattle.dc_meaning.specs.Gathering.{gathered, places_from}
use Rattle.dc_meaning.specs.Places.{element_at, value_at_entity, whole_values}
use Rattle.dc_meaning.specs.Values.{Callee}
use Rattle.dc_meaning.specs.Walking.{Answers, Stays, state_in}
use Rattle.dc_meaning.proofs.Gathering.{gathered-all}
use Rattle.dc_meaning.proofs.Storing.{whole-places}
use Rattle.dc_meaning.proofs.Walking.{stays-then, stays-bad, stays-as}

load-one : {own : Slots} (view : View) (line : ℕ) (x : ElementId) → Stays (λ s. s) own view (λ call. load line (Place.Outer x)) (noted (Reads x line) view) (Ok (value_at view.store x))
load-one view line x = record { each = λ turns. record { answers = λ call. refl } }

-- An element is read, and has to be there.
pub read-walks : {own : Slots} {view after : View} {r : Result ℤ Stop} (line : ℕ) (x : ElementId) (state : Option ℤ) → state ≡ value_at view.store x → after ≡ noted (Reads x line) view
    → Stays (λ z. z) own after (λ call. required line state) after r → Stays (λ z. z) own view (λ call. refer_to line (Place.Outer x)) after r
read-walks {own = own} {view = view} {after = after} {r = r} line x state is noted-is walks =
    stays-then (λ call s. required line s) (subst (λ v. Stays (λ s. s) own view (λ call. load line (Place.Outer x)) v (Ok (value_at view.store x))) (sym noted-is) (load-one view line x))
    (stays-as (λ call. ap (required line) (sym is)) walks)

-- the element of a variable
pub outside-walks : {own : Slots} {view after : View} {r : Result ℤ Stop} (line variable : ℕ) (sort : Sort) (bounds : Bounds) (subscripts : List ℤ) (x : ElementId)
    → Stays Place.Outer own view (λ call. element_at line (outside variable sort bounds) subscripts) view (Ok x)
    → Stays (λ z. z) own view (λ call. refer_to line (Place.Outer x)) after r
    → Stays (λ z. z) own view (λ call. value_at_entity line (outside variable sort bounds) subscripts) after r
outside-walks line variable sort bounds subscripts x first second = stays-then (λ call. refer_to line) first second

pub outside-bad : {own : Slots} {view : View} {e : Stop} (line variable : ℕ) (sort : Sort) (bounds : Bounds) (subscripts : List ℤ)
    → Stays Place.Outer own view (λ call. element_at line (outside variable sort bounds) subscripts) view (Err e)
    → Stays (λ (z : ℤ). z) own view (λ call. value_at_entity line (outside variable sort bounds) subscripts) view (Err e)
outside-bad line variable sort bounds subscripts walks = stays-bad {A = ℤ} {tell = λ z. z} (λ call. refer_to line) walks

-- The value of the index, which is the first of the entities of the block.
abbrev pub first_value_of : List ℤ → Option ℤ
first_value_of [] = None
first_value_of (z ∷ values) = Some z

index-gives : (line : ℕ) (kind : Kind) (values : List ℤ) (turns : ℕ) → value_at_entity line (slots 0 (whole kind) []) [] (state_in (index_slots values) turns) ≡ required line (first_value_of values) (state_in (index_slots values) turns)
index-gives line kind [] turns = refl
index-gives line kind (z ∷ values) turns = refl

pub index-walks : {view : View} {r : Result ℤ Stop} (line : ℕ) (kind : Kind) (values : List ℤ) → Stays (λ z. z) (index_slots values) view (λ call. required line (first_value_of values)) view r
    → Stays (λ z. z) (index_slots values) view (λ call. value_at_entity line (slots 0 (whole kind) []) []) view r
index-walks {view = view} {r = r} line kind values walks = record { each = λ turns. record { answers = λ call. same turns call } }
  where
    same : (turns : ℕ) (call : Callee) → Answers (λ z. z) view (value_at_entity line (slots 0 (whole kind) []) [] (state_in (index_slots values) turns)) (state_in (index_slots values) turns) view r
    same turns call = subst (λ c. Answers (λ z. z) view c (state_in (index_slots values) turns) view r) (sym (index-gives line kind values turns)) ((walks.each turns).answers call)

-- the index as a whole
pub index-whole : (line : ℕ) (kind : Kind) → whole_values line (slots 0 (whole kind) []) ≡ (value_at_entity line (slots 0 (whole kind) []) [] >>= (λ z. just (z ∷ [])))
index-whole line kind = refl

-- ---- all elements

pub whole-gathered : (line variable : ℕ) (sort : Sort) (bounds : Bounds) → whole_values line (outside variable sort bounds) ≡ gathered (refer_to line) [] (places_from variable (elements_in bounds) 0)
whole-gathered line variable sort bounds =
    ap (λ places. places >>= for_each (refer_to line)) (whole-places line variable sort bounds) ∙ gathered-all (refer_to line) (places_from variable (elements_in bounds) 0)

pub none-below : {A : Type 0} (items : List A) → length items < 1 → items ≡ []
none-below [] below = refl
none-below (item ∷ items) below = absurd (omega (arith, below))
