-- Loops with SHARED, with LOCAL_INIT, with a mask, with two indexes and with a reduction of LOGICAL: the laws of
-- orders hold of each.
use Rattle.std.proofs.Common.{◌≡◌, ℕ, zero, suc, ◌+◌, ◌*◌, true, false, not, List, [], ◌∷◌, Option, Some, None, refl, sym, ap, ◌∙◌}
use Rattle.std.proofs.lemmas.List.Elements.{All-nil, All-cons}
use Rattle.std.proofs.lemmas.List.Sorted.{IsPermutation-reverse}
use Rattle.std.proofs.lemmas.Option.{same_Some}
use Rattle.std.specs.Prelude.{ℤ, pos, negsuc, reverse, slice_get}
use Rattle.dc_int.specs.declared.access.ElementId.{ElementId}
use Rattle.dc_int.specs.declared.fault.FaultKind.{FaultKind}
use Rattle.dc_int.specs.declared.fault.Why.{Why}
use Rattle.dc_int.specs.declared.kind.Kind.{Kind}
use Rattle.dc_int.specs.declared.operation.ReduceOp.{ReduceOp}
use Rattle.dc_int.specs.declared.variable.Locality.{Locality}
use Rattle.dc_int.specs.declared.variable.Shape.{Shape}
use Rattle.dc_int.specs.Entries.{Reads, Defines, Contributes}
use Rattle.dc_int.specs.Reductions.{is_logical}
use Rattle.dc_int.specs.Shapes.{store_fits}
use Rattle.dc_int.specs.Store.{Store, cell_of, value_at, put_at, same}
use Rattle.dc_code.specs.Closing.{Localities}
use Rattle.dc_code.specs.Combinations.{Span}
use Rattle.dc_code.specs.Computation.{give, fail, read, define, contribute}
use Rattle.dc_code.specs.EveryOrder.{SaysOfOrders}
use Rattle.dc_code.specs.Inner.{judging, loop_with}
use Rattle.dc_code.specs.Laws.{NeverPauses, HasPlainBlocks, KeepsLocality, MatchesShapes, EndsAlike}
use Rattle.dc_code.specs.Loops.{Form, Copies, Loop}
use Rattle.dc_code.specs.Passages.{Entering, ended_well}
use Rattle.dc_code.specs.Troubles.{Computing}
use Rattle.dc_code.specs.Verdicts.{go_on, verdict}
use Rattle.dc_code.specs.Visits.{visited}
use Rattle.dc_code.proofs.EveryOrder.{says-of-orders}
use Rattle.dc_code.proofs.GoesOn.{goes-on_alike}
use Rattle.dc_code.proofs.Keeping.{KeepsIt, keeps-entries, all-keep}
use Rattle.dc_code.proofs.Passages.{plain-framed, plain-differs}
use Rattle.dc_code.proofs.Reduced.{fits-holds}

-- ---- an array `a` of three elements, a scalar `t`, LOGICAL scalars `l` and `q`, and an array `m` of two rows and
-- two columns

abbrev a : ℕ → ElementId
a position = record { variable = 0; position = position }

abbrev t : ElementId
t = record { variable = 1; position = 0 }

abbrev l : ElementId
l = record { variable = 2; position = 0 }

abbrev q : ElementId
q = record { variable = 3; position = 0 }

abbrev m : ℕ → ElementId
m position = record { variable = 4; position = position }

abbrev wide : Store
wide =
    record { bounds = Some ((pos 1, pos 3) ∷ []); cells = Some (pos 5) ∷ Some (pos 6) ∷ Some (pos 7) ∷ [] }
    ∷ record { bounds = Some []; cells = Some (pos 4) ∷ [] }
    ∷ record { bounds = Some []; cells = Some (pos 1) ∷ [] }
    ∷ record { bounds = Some []; cells = Some (pos 0) ∷ [] }
    ∷ record { bounds = Some ((pos 1, pos 2) ∷ (pos 1, pos 2) ∷ []); cells = None ∷ None ∷ None ∷ None ∷ [] } ∷ []

abbrev whole : ℕ → Shape
whole elements = record { kind = Kind.K4; logical = false; elements = elements }

abbrev truth : Shape
truth = record { kind = Kind.K4; logical = true; elements = 1 }

abbrev shapes : List Shape
shapes = whole 3 ∷ whole 1 ∷ truth ∷ truth ∷ whole 4 ∷ []

wide_fits : store_fits shapes wide ≡ true
wide_fits = refl

-- ---- what the forms share

-- the value of an index, from 0
abbrev index : ℕ → List ℤ → ℕ
index number [] = 0
index zero (pos n ∷ rest) = n
index zero (negsuc n ∷ rest) = 0
index (suc number) (z ∷ rest) = index number rest

abbrev first_copy : Copies → Option ℤ
first_copy [] = None
first_copy (state ∷ rest) = state

-- what is done with a value, on line 5
abbrev with_value : Option ℤ → (ℤ → Computing ℕ) → Computing ℕ
with_value None rest = fail (record { why = Why.Fault FaultKind.Undefined; line = 5 })
with_value (Some value) rest = rest value

never-with : (state : Option ℤ) (rest : ℤ → Computing ℕ) → ((value : ℤ) → NeverPauses (rest value)) → NeverPauses (with_value state rest)
never-with None rest never = tt
never-with (Some value) rest never = never value

-- the localities of the variables, in their order
abbrev all_of_kind_4 : (ℕ → Locality) → Localities
all_of_kind_4 locality = record { locality = locality; kind = λ variable. Kind.K4; passed = λ variable. false }

-- values of an index from 0 on
abbrev counted : ℕ → Span
counted last = record { first = pos 0; last = pos last; step = pos 1 }

abbrev three : List (List ℤ)
three = (pos 0 ∷ []) ∷ (pos 1 ∷ []) ∷ (pos 2 ∷ []) ∷ []

abbrev no_loop : Entering
no_loop number turns slots store orders = ended_well store turns orders

abbrev loop_of : Form → Loop
loop_of form = loop_with no_loop form

-- What the laws ask of a form, over the store above.
record Meets (form : Form) : Type 0 where
  plain : HasPlainBlocks form
  keeps : (at : List ℤ) → KeepsLocality (loop_of form) wide at
  matches : MatchesShapes form.localities shapes

-- What is said of the loop holds in every order.
says : (form : Form) → Meets form → (turns : ℕ) → SaysOfOrders (loop_of form) turns wide
says form meets turns =
    says-of-orders (loop_of form) wide (plain-framed no_loop form meets.plain) (plain-differs no_loop form meets.plain)
    (fits-holds form.localities shapes wide meets.matches wide_fits) turns
    (all-keep (KeepsLocality (loop_of form) wide) _ meets.keeps)

-- A loop that goes on with three iterations may be run backward.
backward
    : (form : Form) → Meets form → verdict (loop_of form) wide three ≡ go_on → EndsAlike (loop_of form) wide three (reverse three)
backward form meets goes =
    goes-on_alike (loop_of form) wide (plain-framed no_loop form meets.plain) (plain-differs no_loop form meets.plain)
    (fits-holds form.localities shapes wide meets.matches wide_fits) three (all-keep (KeepsLocality (loop_of form) wide) three meets.keeps) goes
    (reverse three) (IsPermutation-reverse three)

-- ---- `a(i) = t`, where `t` is SHARED

abbrev with_shared : ℕ → Locality
with_shared (suc zero) = Locality.Shared
with_shared other = Locality.Plain

abbrev shared : Form
shared = record {
  line = 3;
  localities = all_of_kind_4 with_shared;
  copied = [];
  combines = [];
  header = λ turns. give (counted 2 ∷ [], turns);
  mask = λ at. give true;
  block = λ copies at. read t 5 (λ state. with_value state (λ value. define (a (index 0 at)) value 5 (give 9)));
}

shared_keeps : (at : List ℤ) → KeepsLocality (loop_of shared) wide at
unfolding cell_of value_at
shared_keeps at =
    keeps-entries (loop_of shared) wide at
    (All-cons (KeepsIt shared) (Reads t 5) (Defines (a (index 0 at)) (pos 4) 5 ∷ []) tt
    (All-cons (KeepsIt shared) (Defines (a (index 0 at)) (pos 4) 5) [] (record { allowed = refl; apart = refl }) (All-nil (KeepsIt shared))))

shared_matches : MatchesShapes shared.localities shapes
shared_matches = record { reduces = by }
  where
    by
        : (variable : ℕ) (op : ReduceOp) (shape : Shape) → with_shared variable ≡ Locality.Reduce op → slice_get shapes variable ≡ Some shape
        → (Kind.K4 ≡ shape.kind) × (is_logical op ≡ shape.logical)
    by zero op shape reduces declared = cc
    by (suc zero) op shape reduces declared = cc
    by (suc (suc variable)) op shape reduces declared = cc

shared_meets : Meets shared
shared_meets = record {
  plain = λ copies at state. never-with state (λ value. define (a (index 0 at)) value 5 (give 9)) (λ value. tt);
  keeps = shared_keeps;
  matches = shared_matches;
}

shared_goes_on : verdict (loop_of shared) wide three ≡ go_on
unfolding cell_of value_at put_at
shared_goes_on = refl

shared_backward : EndsAlike (loop_of shared) wide three (reverse three)
shared_backward = backward shared shared_meets shared_goes_on

-- ---- `a(i) = q`, where `q` is LOCAL_INIT

abbrev with_local_init : ℕ → Locality
with_local_init (suc (suc (suc zero))) = Locality.LocalInit
with_local_init other = Locality.Plain

abbrev copying : Form
copying = record {
  line = 3;
  localities = all_of_kind_4 with_local_init;
  copied = q ∷ [];
  combines = [];
  header = λ turns. give (counted 2 ∷ [], turns);
  mask = λ at. give true;
  block = λ copies at. with_value (first_copy copies) (λ value. define (a (index 0 at)) value 5 (give 9));
}

copying_keeps : (at : List ℤ) → KeepsLocality (loop_of copying) wide at
unfolding cell_of value_at
copying_keeps at =
    keeps-entries (loop_of copying) wide at
    (All-cons (KeepsIt copying) (Defines (a (index 0 at)) (pos 0) 5) [] (record { allowed = refl; apart = refl }) (All-nil (KeepsIt copying)))

copying_matches : MatchesShapes copying.localities shapes
copying_matches = record { reduces = by }
  where
    by
        : (variable : ℕ) (op : ReduceOp) (shape : Shape) → with_local_init variable ≡ Locality.Reduce op → slice_get shapes variable ≡ Some shape
        → (Kind.K4 ≡ shape.kind) × (is_logical op ≡ shape.logical)
    by zero op shape reduces declared = cc
    by (suc zero) op shape reduces declared = cc
    by (suc (suc zero)) op shape reduces declared = cc
    by (suc (suc (suc zero))) op shape reduces declared = cc
    by (suc (suc (suc (suc variable)))) op shape reduces declared = cc

copying_meets : Meets copying
copying_meets = record {
  plain = λ copies at. never-with (first_copy copies) (λ value. define (a (index 0 at)) value 5 (give 9)) (λ value. tt);
  keeps = copying_keeps;
  matches = copying_matches;
}

copying_goes_on : verdict (loop_of copying) wide three ≡ go_on
unfolding cell_of value_at put_at
copying_goes_on = refl

copying_backward : EndsAlike (loop_of copying) wide three (reverse three)
copying_backward = backward copying copying_meets copying_goes_on

-- ---- `a(i) = 1` where the mask is true, which leaves the second iteration out

abbrev unspecified : ℕ → Locality
unspecified variable = Locality.Plain

abbrev masked : Form
masked = record {
  line = 3;
  localities = all_of_kind_4 unspecified;
  copied = [];
  combines = [];
  header = λ turns. give (counted 2 ∷ [], turns);
  mask = λ at. give (not (same (index 0 at) 1));
  block = λ copies at. define (a (index 0 at)) (pos 1) 5 (give 9);
}

masked_matches : MatchesShapes masked.localities shapes
masked_matches = record { reduces = λ variable op shape reduces declared. cc }

masked_meets : Meets masked
masked_meets = record {
  plain = λ copies at. tt;
  keeps = λ at.
      keeps-entries (loop_of masked) wide at
      (All-cons (KeepsIt masked) (Defines (a (index 0 at)) (pos 1) 5) [] (record { allowed = refl; apart = refl }) (All-nil (KeepsIt masked)));
  matches = masked_matches;
}

-- the second element keeps its value
masked_store : (visited judging (loop_of masked) 9 wide).store ≡ put_at (put_at wide (a 0) (Some (pos 1))) (a 2) (Some (pos 1))
unfolding cell_of value_at put_at
masked_store = refl

masked_says : SaysOfOrders (loop_of masked) 9 wide
masked_says = says masked masked_meets 9

-- ---- `m(i, j) = 1` over both indexes

abbrev two_indexes : Form
two_indexes = record {
  line = 3;
  localities = all_of_kind_4 unspecified;
  copied = [];
  combines = [];
  header = λ turns. give (counted 1 ∷ counted 1 ∷ [], turns);
  mask = λ at. give true;
  block = λ copies at. define (m (index 0 at + 2 * index 1 at)) (pos 1) 5 (give 9);
}

two_indexes_meet : Meets two_indexes
two_indexes_meet = record {
  plain = λ copies at. tt;
  keeps = λ at.
      keeps-entries (loop_of two_indexes) wide at
      (All-cons (KeepsIt two_indexes) (Defines (m (index 0 at + 2 * index 1 at)) (pos 1) 5) [] (record { allowed = refl; apart = refl })
      (All-nil (KeepsIt two_indexes)));
  matches = masked_matches;
}

two_indexes_go_on : (visited judging (loop_of two_indexes) 9 wide).verdict ≡ go_on
unfolding cell_of value_at put_at
two_indexes_go_on = refl

two_indexes_say : SaysOfOrders (loop_of two_indexes) 9 wide
two_indexes_say = says two_indexes two_indexes_meet 9

-- ---- `l = l .and. q`, where `l` is REDUCE and `q` LOCAL_INIT

abbrev with_and : ℕ → Locality
with_and (suc (suc zero)) = Locality.Reduce ReduceOp.And
with_and (suc (suc (suc zero))) = Locality.LocalInit
with_and other = Locality.Plain

abbrev conjunction : Form
conjunction = record {
  line = 3;
  localities = all_of_kind_4 with_and;
  copied = q ∷ [];
  combines = l ∷ [];
  header = λ turns. give (counted 2 ∷ [], turns);
  mask = λ at. give true;
  block = λ copies at. with_value (first_copy copies) (λ value. contribute l ReduceOp.And value (give 9));
}

conjunction_keeps : (at : List ℤ) → KeepsLocality (loop_of conjunction) wide at
unfolding cell_of value_at
conjunction_keeps at =
    keeps-entries (loop_of conjunction) wide at
    (All-cons (KeepsIt conjunction) (Contributes l ReduceOp.And (pos 0)) [] (refl, refl) (All-nil (KeepsIt conjunction)))

conjunction_matches : MatchesShapes conjunction.localities shapes
conjunction_matches = record { reduces = by }
  where
    by
        : (variable : ℕ) (op : ReduceOp) (shape : Shape) → with_and variable ≡ Locality.Reduce op → slice_get shapes variable ≡ Some shape
        → (Kind.K4 ≡ shape.kind) × (is_logical op ≡ shape.logical)
    by zero op shape reduces declared = cc
    by (suc zero) op shape reduces declared = cc
    by (suc (suc zero)) op shape reduces declared =
        let operation : ReduceOp.And ≡ op = cc in
        let same_shape : truth ≡ shape = same_Some truth shape declared in
        (ap (λ (s : Shape). s.kind) same_shape, sym (ap is_logical operation) ∙ ap (λ (s : Shape). s.logical) same_shape)
    by (suc (suc (suc zero))) op shape reduces declared = cc
    by (suc (suc (suc (suc variable)))) op shape reduces declared = cc

conjunction_meets : Meets conjunction
conjunction_meets = record {
  plain = λ copies at. never-with (first_copy copies) (λ value. contribute l ReduceOp.And value (give 9)) (λ value. tt);
  keeps = conjunction_keeps;
  matches = conjunction_matches;
}

conjunction_goes_on : verdict (loop_of conjunction) wide three ≡ go_on
unfolding cell_of value_at put_at
conjunction_goes_on = refl

conjunction_backward : EndsAlike (loop_of conjunction) wide three (reverse three)
conjunction_backward = backward conjunction conjunction_meets conjunction_goes_on

-- what it leaves of `l` is false
conjunction_store : (visited judging (loop_of conjunction) 9 wide).store ≡ put_at wide l (Some (pos 0))
unfolding cell_of value_at put_at
conjunction_store = refl
