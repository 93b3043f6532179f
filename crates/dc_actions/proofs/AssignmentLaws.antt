-- The instructions of an assignment store its value in the places that it has.
use Rattle.std.proofs.Common.{◌≡◌, ◌<◌, ℕ, zero, suc, ◌+◌, true, ◌&&◌, List, [], ◌∷◌, ◌++◌, length, map, Option, Some, None, refl, sym, ap, ◌∙◌, arith}
use Rattle.std.proofs.lemmas.Bool.{eqb-true, false≢true}
use Rattle.std.specs.List.{range_with_len}
use Rattle.std.specs.Prelude.{ℤ, ◌≤◌}
use Rattle.dc_int.specs.Sorts.{Sort, fitted}
use Rattle.dc_int.specs.Store.{Bounds, elements_in, position_in}
use Rattle.dc_code.specs.declared.frame.Item.{Item}
use Rattle.dc_code.specs.declared.frame.Place.{Place}
use Rattle.dc_code.specs.declared.instr.What.{What}
use Rattle.dc_code.specs.Codes.{CodeLists, element, elements_of_shape}
use Rattle.dc_code.specs.Computation.{give, define, sequence}
use Rattle.dc_code.specs.Frames.{Frame, pushed}
use Rattle.dc_code.specs.Instructions.{Going, behind}
use Rattle.dc_code.specs.Operands.{values_off}
use Rattle.dc_code.specs.Reaching.{positioned, within_bounds, defined_as, all_defined}
use Rattle.dc_code.specs.Troubles.{Computing}
use Rattle.dc_tree.specs.Entities.{Entity, outside, slots, dummy, constant, function, subroutine, reduction, nothing, Scope, entity}
use Rattle.dc_tree.specs.Statements.{Name, Target}
use Rattle.dc_tree.specs.Syntax.{Tree}
use Rattle.dc_meaning.specs.Actions.{Flow, on, places_of, assignment}
use Rattle.dc_meaning.specs.Places.{element_at}
use Rattle.dc_meaning.specs.Acts as acts
use Rattle.dc_meaning.specs.Acts.{State}
use Rattle.dc_meaning.specs.Values.{Callee, value, all_values}
use Rattle.dc_code.proofs.Sequences.{sequence-then}
use Rattle.dc_actions.specs.Assigning.{conversion_code, each_code, storing_code, assigned_code, all_usable, takes_values}
use Rattle.dc_actions.specs.Expressions.{value_code, is_usable}
use Rattle.dc_actions.specs.Placed.{StandAt, HaveNames, IsOutside}
use Rattle.dc_tree.specs.Typing.{sort_of}
use Rattle.dc_actions.proofs.Converting.{Converts, conversion-law}
use Rattle.dc_actions.proofs.Expressions.{behind-two, behind-three, value-law}
use Rattle.dc_actions.proofs.Facts.{both-true}
use Rattle.dc_actions.proofs.OperatorLaws.{all_pushed, pushed-names, taken-all, element-there, plus-one, plus-none}
use Rattle.dc_actions.proofs.Wholes.{outer_place_of, outer-places}
use Rattle.dc_actions.proofs.Going.{GoesAs}
use Rattle.dc_actions.proofs.Placing.{stand-left, stand-right, stand-rest, stepped}
use Rattle.dc_meaning.proofs.Positions.{position-below}

-- The values of a list of expressions.
pub each-law : (code : CodeLists) (go : Going) (goes : GoesAs code go) (scope : Scope) (call : Callee) (line at : ℕ) (frame : Frame) (state : State) (trees : List Tree) → HaveNames code scope frame state
    → StandAt code line at (each_code scope trees) → all_usable scope trees ≡ true
    → (K : List ℤ × State → Computing (Frame × ℕ))
    → ((zs : List ℤ) → length zs ≡ length trees → go (at + length (each_code scope trees)) (all_pushed zs frame) state.turns ≡ K (zs, state))
    → go at frame state.turns ≡ sequence (all_values scope call line trees state) K
each-law code go goes scope call line at frame state [] names stand so K later = ap (λ place. go place frame state.turns) (plus-none at) ∙ later [] refl
each-law code go goes scope call line at frame state (tree ∷ trees) names stand so K later =
    value-law code go goes scope call line at frame state tree names (stand-left (value_code scope tree) (each_code scope trees) stand) (both-true so).0
    (λ w. sequence (sequence (all_values scope call line trees w.1) (λ v. give (w.0 ∷ v.0, v.1))) K)
    (λ z. each-law code go goes scope call line (at + length (value_code scope tree)) (pushed (Item.Value z) frame) state trees (pushed-names (Item.Value z) names)
    (stand-right at (value_code scope tree) (each_code scope trees) stand) (both-true so).1
    (λ v. K (z ∷ v.0, v.1))
    (λ zs long. ap (λ place. go place (all_pushed zs (pushed (Item.Value z) frame)) state.turns) (behind-two (value_code scope tree) (each_code scope trees) at) ∙ later (z ∷ zs) (ap suc long))
    ∙ sym (sequence-then (all_values scope call line trees state) (λ v. give (z ∷ v.0, v.1)) K))
    ∙ sym (sequence-then (value scope call line tree state) (λ w. sequence (all_values scope call line trees w.1) (λ v. give (w.0 ∷ v.0, v.1))) K)

-- Each element of a variable is defined with the value.
defines-law : {B : Type 0} (code : CodeLists) (line variable : ℕ) (sort : Sort) (bounds : Bounds) (state : State) (is : IsOutside code variable sort bounds) (z : ℤ)
    → (from many : ℕ) → from + many ≤ elements_in bounds
    → (k : Computing B) (K : List Unit × State → Computing B) → ((done : List Unit) → k ≡ K (done, state))
    → sequence (all_defined code line (map (element variable) (range_with_len from many)) z) (λ done. k)
    ≡ sequence (acts.for_each (λ place. acts.store line place (fitted sort z)) (map (outer_place_of variable) (range_with_len from many)) state) K
unfolding outer_place_of
defines-law code line variable sort bounds state is z from zero within k K later = later []
defines-law code line variable sort bounds state is z from (suc many) within k K later =
    ap (λ (found : Option Sort). sequence (sequence (defined_as line (element variable from) z found) (λ first. all_defined code line (map (element variable) (range_with_len (from + 1) many)) z)) (λ done. k))
    (element-there is from here)
    ∙ ap (define (element variable from) (fitted sort z) line)
    (defines-law code line variable sort bounds state is z (from + 1) many there k (λ v. K (tt ∷ v.0, v.1)) (λ done. later (tt ∷ done))
    ∙ sym (sequence-then (acts.for_each (λ place. acts.store line place (fitted sort z)) (map (outer_place_of variable) (range_with_len (from + 1) many)) state) (λ v. give (tt ∷ v.0, v.1)) K))
  where
    here : from < elements_in bounds
    here = omega (arith, within)

    there : from + 1 + many ≤ elements_in bounds
    there = omega (arith, within)

fill-law : (code : CodeLists) (go : Going) (goes : GoesAs code go) (scope : Scope) (call : Callee) (line at : ℕ) (frame : Frame) (state : State) (variable : ℕ) (sort : Sort) (bounds : Bounds) (z : ℤ)
    → IsOutside code variable sort bounds → StandAt code line at (What.Fill variable ∷ [])
    → (K : Flow × State → Computing (Frame × ℕ)) → go (at + 1) frame state.turns ≡ K (on, state)
    → go at (pushed (Item.Value z) frame) state.turns
    ≡ sequence (sequence (places_of scope call line (outside variable sort bounds) None state) (λ w. sequence (acts.for_each (λ place. acts.store line place (fitted sort z)) w.0 w.1) (λ v. give (on, v.1)))) K
fill-law code go goes scope call line at frame state variable sort bounds z is stand K later =
    stepped goes at (What.Fill variable) [] (pushed (Item.Value z) frame) state.turns stand refl
    ∙ ap (λ found. sequence (sequence (all_defined code line (map (element variable) (range_with_len 0 (elements_of_shape found))) z) (λ done. give frame)) (λ left. go (suc at) left state.turns)) is.shaped
    ∙ ap (λ n. sequence (sequence (all_defined code line (map (element variable) (range_with_len 0 n)) z) (λ done. give frame)) (λ left. go (suc at) left state.turns)) is.elements
    ∙ sequence-then (all_defined code line (map (element variable) (range_with_len 0 (elements_in bounds))) z) (λ done. give frame) (λ left. go (suc at) left state.turns)
    ∙ defines-law code line variable sort bounds state is z 0 (elements_in bounds) (omega arith) (go (suc at) frame state.turns) (λ v. K (on, v.1))
    (λ done. ap (λ place. go place frame state.turns) (plus-one at) ∙ later)
    ∙ sym (sequence-then (acts.for_each (λ place. acts.store line place (fitted sort z)) (map (outer_place_of variable) (range_with_len 0 (elements_in bounds))) state) (λ v. give (on, v.1)) K)
    ∙ ap (λ c. sequence (sequence c (λ w. sequence (acts.for_each (λ place. acts.store line place (fitted sort z)) w.0 w.1) (λ v. give (on, v.1)))) K) (sym (outer-places line variable sort bounds 0 (elements_in bounds) state))

pub store-law : (code : CodeLists) (go : Going) (goes : GoesAs code go) (line at : ℕ) (frame : Frame) (state : State) (variable : ℕ) (sort : Sort) (bounds : Bounds) (z : ℤ) (zs : List ℤ)
    → IsOutside code variable sort bounds → length zs ≡ length bounds → StandAt code line at (What.Subscript variable ∷ What.Store variable ∷ [])
    → (K : Flow × State → Computing (Frame × ℕ)) → go (at + 2) frame state.turns ≡ K (on, state)
    → go at (all_pushed zs (pushed (Item.Value z) frame)) state.turns
    ≡ sequence (sequence (element_at line (outside variable sort bounds) zs state)
    (λ w. sequence (acts.for_each (λ place. acts.store line place (fitted sort z)) (w.0 ∷ []) w.1) (λ v. give (on, v.1)))) K
store-law code go goes line at frame state variable sort bounds z zs is ranked stand K later =
    stepped goes at (What.Subscript variable) (What.Store variable ∷ []) (all_pushed zs (pushed (Item.Value z) frame)) state.turns stand refl
    ∙ ap (λ found. behind go at state.turns (positioned line found (all_pushed zs (pushed (Item.Value z) frame)))) is.bounds
    ∙ ap (λ n. sequence (sequence (values_off line n (all_pushed zs (pushed (Item.Value z) frame))) positioning) (λ left. go (suc at) left state.turns)) (sym ranked)
    ∙ ap (λ c. sequence (sequence c positioning) (λ left. go (suc at) left state.turns)) (taken-all line zs (pushed (Item.Value z) frame))
    ∙ placed (position_in bounds zs) refl
  where
    positioning : List ℤ × Frame → Computing Frame
    positioning w = sequence (within_bounds line (position_in bounds w.0)) (λ at. give (pushed (Item.Position at) w.1))

    two-on : (at : ℕ) → suc (suc at) ≡ at + 2
    two-on at = omega arith

    placed : (found : Option ℕ) → position_in bounds zs ≡ found
        → sequence (sequence (within_bounds line (position_in bounds zs)) (λ at. give (pushed (Item.Position at) (pushed (Item.Value z) frame)))) (λ left. go (suc at) left state.turns)
        ≡ sequence (sequence (element_at line (outside variable sort bounds) zs state)
        (λ w. sequence (acts.for_each (λ place. acts.store line place (fitted sort z)) (w.0 ∷ []) w.1) (λ v. give (on, v.1)))) K
    placed None e = rw e refl
    placed (Some position) e = rw e (
        stepped goes (suc at) (What.Store variable) [] (pushed (Item.Position position) (pushed (Item.Value z) frame)) state.turns (stand-rest at (What.Subscript variable) (What.Store variable ∷ []) stand) refl
        ∙ ap (λ found. sequence (sequence (defined_as line (element variable position) z found) (λ done. give frame)) (λ left. go (suc (suc at)) left state.turns))
        (element-there is position (position-below bounds zs position e))
        ∙ ap (define (element variable position) (fitted sort z) line) (ap (λ place. go place frame state.turns) (two-on at) ∙ later))

storing-law : (code : CodeLists) (go : Going) (goes : GoesAs code go) (scope : Scope) (call : Callee) (line at : ℕ) (frame : Frame) (state : State) (text : Name) (variable : ℕ) (sort : Sort) (bounds : Bounds)
    → (subscripts : Option (List Tree)) (z : ℤ)
    → entity scope text ≡ outside variable sort bounds → HaveNames code scope frame state → StandAt code line at (storing_code scope (outside variable sort bounds) subscripts)
    → takes_values scope (outside variable sort bounds) subscripts ≡ true
    → (K : Flow × State → Computing (Frame × ℕ))
    → go (at + length (storing_code scope (outside variable sort bounds) subscripts)) frame state.turns ≡ K (on, state)
    → go at (pushed (Item.Value z) frame) state.turns
    ≡ sequence (sequence (places_of scope call line (outside variable sort bounds) subscripts state)
    (λ w. sequence (acts.for_each (λ place. acts.store line place (fitted sort z)) w.0 w.1) (λ v. give (on, v.1)))) K
storing-law code go goes scope call line at frame state text variable sort bounds None z e names stand so K later =
    fill-law code go goes scope call line at frame state variable sort bounds z (names.outer text variable sort bounds e) stand K later
storing-law code go goes scope call line at frame state text variable sort bounds (Some trees) z e names stand so K later =
    each-law code go goes scope call line at (pushed (Item.Value z) frame) state trees (pushed-names (Item.Value z) names)
    (stand-left (each_code scope trees) behind_them stand) (both-true so).1
    (λ w. sequence (sequence (placed w) storing) K)
    (λ zs long. store-law code go goes line (at + length (each_code scope trees)) frame state variable sort bounds z zs (names.outer text variable sort bounds e)
    (long ∙ sym (eqb-true (length bounds) (length trees) (both-true so).0)) (stand-right at (each_code scope trees) behind_them stand) K
    (ap (λ place. go place frame state.turns) (behind-two (each_code scope trees) behind_them at) ∙ later)
    ∙ ap (λ c. sequence c K) (sym (sequence-then (element_at line (outside variable sort bounds) zs state) (λ v. give (v.0 ∷ [], v.1)) storing)))
    ∙ sym (sequence-then (all_values scope call line trees state) (λ w. sequence (placed w) storing) K)
    ∙ ap (λ c. sequence c K) (sym (sequence-then (all_values scope call line trees state) placed storing))
  where
    behind_them : List What
    behind_them = What.Subscript variable ∷ What.Store variable ∷ []

    placed : List ℤ × State → Computing (List Place × State)
    placed w = sequence (element_at line (outside variable sort bounds) w.0 w.1) (λ v. give (v.0 ∷ [], v.1))

    storing : List Place × State → Computing (Flow × State)
    storing w = sequence (acts.for_each (λ place. acts.store line place (fitted sort z)) w.0 w.1) (λ v. give (on, v.1))

pub assignment-law : (code : CodeLists) (go : Going) (goes : GoesAs code go) (scope : Scope) (call : Callee) (line at : ℕ) (frame : Frame) (state : State) (target : Target) (tree : Tree) (found : Entity)
    → entity scope target.name ≡ found → HaveNames code scope frame state → StandAt code line at (assigned_code scope found target.subscripts tree)
    → (is_usable scope tree && takes_values scope found target.subscripts) ≡ true
    → (K : Flow × State → Computing (Frame × ℕ))
    → go (at + length (assigned_code scope found target.subscripts tree)) frame state.turns ≡ K (on, state)
    → go at frame state.turns ≡ sequence (assignment scope call line target tree found state) K
assignment-law code go goes scope call line at frame state target tree (outside variable sort bounds) e names stand so K later =
    value-law code go goes scope call line at frame state tree names (stand-left first (second ++ third) stand) (both-true so).0
    (λ w. sequence (storing sort w) K)
    (λ z. converted z (both-true so).1 (conversion-law code go goes line (at + length first) frame state.turns (sort_of scope tree) sort z (stand-left second third behind_it)))
    ∙ sym (sequence-then (value scope call line tree state) (storing sort) K)
  where
    first : List What
    first = value_code scope tree

    second : List What
    second = conversion_code (sort_of scope tree) sort

    third : List What
    third = storing_code scope (outside variable sort bounds) target.subscripts

    behind_it : StandAt code line (at + length first) (second ++ third)
    behind_it = stand-right at first (second ++ third) stand

    store_each : ℤ → List Place × State → Computing (Flow × State)
    store_each given v = sequence (acts.for_each (λ place. acts.store line place given) v.0 v.1) (λ u. give (on, u.1))

    storing : Sort → ℤ × State → Computing (Flow × State)
    storing sort w = sequence (places_of scope call line (outside variable sort bounds) target.subscripts w.1) (store_each (fitted sort w.0))

    converted : (z : ℤ) → takes_values scope (outside variable sort bounds) target.subscripts ≡ true → Converts go (at + length first) frame state.turns (sort_of scope tree) sort z
        → go (at + length first) (pushed (Item.Value z) frame) state.turns ≡ sequence (storing sort (z, state)) K
    converted z takes converts =
        converts.runs
        ∙ storing-law code go goes scope call line (at + length first + length second) frame state target.name variable sort bounds target.subscripts converts.value e names
        (stand-right (at + length first) second third behind_it) takes K
        (ap (λ place. go place frame state.turns) (behind-three first second third at) ∙ later)
        ∙ ap (λ given. sequence (sequence (places_of scope call line (outside variable sort bounds) target.subscripts state) (store_each given)) K) converts.fits
assignment-law code go goes scope call line at frame state target tree (slots group sort bounds) e names stand so K later = absurd (false≢true (both-true so).1)
assignment-law code go goes scope call line at frame state target tree (constant sort z) e names stand so K later = absurd (false≢true (both-true so).1)
assignment-law code go goes scope call line at frame state target tree (dummy place sort) e names stand so K later = absurd (false≢true (both-true so).1)
assignment-law code go goes scope call line at frame state target tree (function procedure sort) e names stand so K later = absurd (false≢true (both-true so).1)
assignment-law code go goes scope call line at frame state target tree (subroutine procedure intents) e names stand so K later = absurd (false≢true (both-true so).1)
assignment-law code go goes scope call line at frame state target tree (reduction variable op sort bounds) e names stand so K later = absurd (false≢true (both-true so).1)
assignment-law code go goes scope call line at frame state target tree nothing e names stand so K later = absurd (false≢true (both-true so).1)
