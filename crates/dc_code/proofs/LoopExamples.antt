-- Small loops, by the blocks of their iterations: the verdict on each, and that the laws of orders can be
-- applied.
use Rattle.std.proofs.Common.{◌≡◌, ℕ, zero, suc, true, false, List, [], ◌∷◌, All, Option, Some, None, refl, sym, ap, ◌∙◌}
use Rattle.std.proofs.lemmas.List.Elements.{All-nil, All-cons}
use Rattle.std.proofs.lemmas.List.Sorted.{IsPermutation-reverse}
use Rattle.std.proofs.lemmas.Option.{none-some, same_Some}
use Rattle.std.specs.Int.{int_wrap}
use Rattle.std.specs.Prelude.{ℤ, pos, negsuc, slice_get}
use Rattle.dc_int.specs.declared.access.Action.{Action}
use Rattle.dc_int.specs.declared.access.ElementId.{ElementId}
use Rattle.dc_int.specs.declared.fault.FaultKind.{FaultKind}
use Rattle.dc_int.specs.declared.fault.Why.{Why}
use Rattle.dc_int.specs.declared.kind.Kind.{Kind}
use Rattle.dc_int.specs.declared.operation.ReduceOp.{ReduceOp}
use Rattle.dc_int.specs.declared.variable.Locality.{Locality}
use Rattle.dc_int.specs.declared.variable.Shape.{Shape}
use Rattle.dc_int.specs.Entries.{Defines, Contributes}
use Rattle.dc_int.specs.Reductions.{is_logical}
use Rattle.dc_int.specs.Shapes.{store_fits}
use Rattle.dc_int.specs.Store.{Store, cell_of, value_at, put_at}
use Rattle.dc_code.specs.Combinations.{Span}
use Rattle.dc_code.specs.Computation.{give, fail, read, define, contribute, pause}
use Rattle.dc_code.specs.Inner.{loop_with}
use Rattle.dc_code.specs.Laws.{HasPlainBlocks, KeepsLocality, MatchesShapes, EndsAlike}
use Rattle.dc_code.specs.Loops.{Form, Loop, alone}
use Rattle.dc_code.specs.Passages.{Entering, ended_well}
use Rattle.dc_code.specs.Troubles.{Computing, ended, stop}
use Rattle.dc_code.specs.Verdicts.{go_on, at_header, in_iteration, race, verdict, stays, judgement}
use Rattle.dc_code.proofs.GoesOn.{goes-on_alike}
use Rattle.dc_code.proofs.Keeping.{KeepsIt, keeps-entries, all-keep}
use Rattle.dc_code.proofs.Passages.{plain-framed, plain-differs}
use Rattle.dc_code.proofs.Reduced.{fits-holds}

-- ---- an array `a` of three elements, the last undefined, and a scalar `t` that is REDUCE

abbrev a : ℕ → ElementId
a position = record { variable = 0; position = position }

abbrev t : ElementId
t = record { variable = 1; position = 0 }

abbrev small : Store
small =
    record { bounds = Some ((pos 1, pos 3) ∷ []); cells = Some (pos 5) ∷ Some (pos 6) ∷ None ∷ [] }
    ∷ record { bounds = Some []; cells = Some (pos 0) ∷ [] } ∷ []

abbrev locality : ℕ → Locality
locality zero = Locality.Plain
locality (suc variable) = Locality.Reduce ReduceOp.Add

abbrev form_of : (List ℤ → Computing ℕ) → Form
form_of block = record {
  line = 3;
  localities = record { locality = locality; kind = λ variable. Kind.K4; passed = λ variable. false };
  copied = [];
  combines = t ∷ [];
  header = λ turns. give ([], turns);
  mask = λ at. give true;
  block = λ copies at. block at;
}

abbrev no_loop : Entering
no_loop number turns slots store orders = ended_well store turns orders

abbrev loop_of : (List ℤ → Computing ℕ) → Loop
loop_of block = loop_with no_loop (form_of block)

-- ---- `a(i + 1) = a(i)` on line 5, with i from 0 in positions

abbrev moved : ℕ → Option ℤ → Computing ℕ
moved n None = fail (record { why = Why.Fault FaultKind.Undefined; line = 5 })
moved n (Some value) = define (a (suc n)) value 5 (give 9)

abbrev shifting : List ℤ → Computing ℕ
shifting (pos n ∷ []) = read (a n) 5 (moved n)
shifting at = give 9

-- the second reads what the first defines
shifting_races
    : verdict (loop_of shifting) small ((pos 0 ∷ []) ∷ (pos 1 ∷ []) ∷ [])
    ≡ race (record {
      element = a 1;
      first = record { iteration = 0; action = Action.Defines; line = 5 };
      second = record { iteration = 1; action = Action.Reads; line = 5 };
    }) (pos 0 ∷ []) (pos 1 ∷ [])
unfolding cell_of value_at put_at
shifting_races = refl

-- alone on the opening store, the third reads an element that is undefined there
shifting_fails
    : verdict (loop_of shifting) small ((pos 0 ∷ []) ∷ (pos 1 ∷ []) ∷ (pos 2 ∷ []) ∷ [])
    ≡ in_iteration (ended (Why.Fault FaultKind.Undefined) 5 []) (pos 2 ∷ [])
unfolding cell_of value_at put_at
shifting_fails = refl

-- ---- `a(i) = 1` and `t = t + 2`

abbrev filling : List ℤ → Computing ℕ
filling (pos n ∷ []) = define (a n) (pos 1) 5 (contribute t ReduceOp.Add (pos 2) (give 9))
filling at = give 9

abbrev three : List (List ℤ)
three = (pos 0 ∷ []) ∷ (pos 1 ∷ []) ∷ (pos 2 ∷ []) ∷ []

filling_goes_on : verdict (loop_of filling) small three ≡ go_on
unfolding cell_of value_at put_at
filling_goes_on = refl

filling_is_plain : HasPlainBlocks (form_of filling)
filling_is_plain copies (pos n ∷ []) = tt
filling_is_plain copies [] = tt
filling_is_plain copies (negsuc n ∷ []) = tt
filling_is_plain copies (pos n ∷ other ∷ rest) = tt
filling_is_plain copies (negsuc n ∷ other ∷ rest) = tt

filling_keeps : (at : List ℤ) → KeepsLocality (loop_of filling) small at
filling_keeps at = keeps-entries (loop_of filling) small at (each at)
  where
    each : (at : List ℤ) → All (KeepsIt (form_of filling)) (alone (loop_of filling) small at).entries
    each (pos n ∷ []) =
        All-cons (KeepsIt (form_of filling)) (Defines (a n) (pos 1) 5) (Contributes t ReduceOp.Add (pos 2) ∷ []) (record { allowed = refl; apart = refl })
        (All-cons (KeepsIt (form_of filling)) (Contributes t ReduceOp.Add (pos 2)) [] (refl, refl) (All-nil (KeepsIt (form_of filling))))
    each [] = All-nil (KeepsIt (form_of filling))
    each (negsuc n ∷ []) = All-nil (KeepsIt (form_of filling))
    each (pos n ∷ other ∷ rest) = All-nil (KeepsIt (form_of filling))
    each (negsuc n ∷ other ∷ rest) = All-nil (KeepsIt (form_of filling))

-- the variables as they are declared
abbrev shapes : List Shape
shapes =
    record { kind = Kind.K4; logical = false; elements = 3 } ∷ record { kind = Kind.K4; logical = false; elements = 1 } ∷ []

filling_matches : MatchesShapes (form_of filling).localities shapes
filling_matches = record { reduces = by }
  where
    by
        : (variable : ℕ) (op : ReduceOp) (shape : Shape) → locality variable ≡ Locality.Reduce op → slice_get shapes variable ≡ Some shape
        → (Kind.K4 ≡ shape.kind) × (is_logical op ≡ shape.logical)
    by zero op shape reduces declared = cc
    by (suc zero) op shape reduces declared =
        let operation : ReduceOp.Add ≡ op = cc in
        let same_shape = same_Some (record { kind = Kind.K4; logical = false; elements = 1 }) shape declared in
        (ap (λ (s : Shape). s.kind) same_shape, sym (ap is_logical operation) ∙ ap (λ (s : Shape). s.logical) same_shape)
    by (suc (suc variable)) op shape reduces declared = absurd (none-some shape declared)

small_fits : store_fits shapes small ≡ true
small_fits = refl

-- ---- a header

abbrev by_spans : List Span → Form
by_spans spans = record {
  line = 3;
  localities = record { locality = locality; kind = λ variable. Kind.K4; passed = λ variable. false };
  copied = [];
  combines = t ∷ [];
  header = λ turns. give (spans, turns);
  mask = λ at. give true;
  block = λ copies at. filling at;
}

-- one that leaves a step of zero is at fault, at its line
step_zero
    : judgement (loop_with no_loop (by_spans (record { first = pos 0; last = pos 2; step = pos 0 } ∷ []))) 7 small
    ≡ stays small (at_header (ended (Why.Fault FaultKind.StepZero) 3 []))
unfolding cell_of value_at put_at
step_zero = refl

-- one that leaves values gives the iterations, and the turns that it leaves
opens
    : judgement (loop_with no_loop (by_spans (record { first = pos 0; last = pos 1; step = pos 1 } ∷ []))) 7 small
    ≡ record {
      verdict = go_on;
      store =
          record { bounds = Some ((pos 1, pos 3) ∷ []); cells = Some (pos 1) ∷ Some (pos 1) ∷ None ∷ [] }
          ∷ record { bounds = Some []; cells = Some (pos 4) ∷ [] } ∷ [];
      turns = 7;
    }
unfolding cell_of value_at put_at int_wrap
opens = refl

-- a pause in a limit, to which no source comes, doesn't let the header go on without its values
abbrev pausing : Form
pausing = record {
  line = 3;
  localities = record { locality = locality; kind = λ variable. Kind.K4; passed = λ variable. false };
  copied = [];
  combines = t ∷ [];
  header = λ turns. pause stop (λ told. fail (record { why = Why.Spent; line = 3 }));
  mask = λ at. give true;
  block = λ copies at. filling at;
}

pause_in_header : judgement (loop_with no_loop pausing) 7 small ≡ stays small (at_header (ended Why.Spent 3 []))
pause_in_header = refl

-- ---- another order

-- So its iterations may be run backward.
filling_ends_alike : EndsAlike (loop_of filling) small three ((pos 2 ∷ []) ∷ (pos 1 ∷ []) ∷ (pos 0 ∷ []) ∷ [])
filling_ends_alike =
    goes-on_alike (loop_of filling) small (plain-framed no_loop (form_of filling) filling_is_plain)
    (plain-differs no_loop (form_of filling) filling_is_plain)
    (fits-holds (form_of filling).localities shapes small filling_matches small_fits) three
    (all-keep (KeepsLocality (loop_of filling) small) three filling_keeps) filling_goes_on ((pos 2 ∷ []) ∷ (pos 1 ∷ []) ∷ (pos 0 ∷ []) ∷ []) (IsPermutation-reverse three)
