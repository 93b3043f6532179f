-- The instructions of an output statement write its line.
use Rattle.std.proofs.Common.{◌≡◌, ℕ, suc, ◌+◌, Bool, true, false, cond, List, [], ◌∷◌, ◌++◌, length, map, flat_map, Some, refl, sym, ap, ◌∙◌, subst, arith}
use Rattle.std.proofs.lemmas.List.{map-append}
use Rattle.std.proofs.lemmas.Bool.{false≢true}
use Rattle.std.specs.List.{range_with_len}
use Rattle.std.specs.Prelude.{ℤ, slice_get, not}
use Rattle.dc_int.specs.Sorts.{Sort, whole, logical}
use Rattle.dc_int.specs.Store.{Bounds, elements_in}
use Rattle.dc_code.specs.declared.frame.Item.{Item}
use Rattle.dc_code.specs.declared.instr.What.{What}
use Rattle.dc_code.specs.Codes.{CodeLists, element, elements_of_shape}
use Rattle.dc_code.specs.Computation.{give, pause, sequence}
use Rattle.dc_code.specs.Frames.{Frame, pushed, put, put_each, with_line}
use Rattle.dc_code.specs.Instructions.{Going, behind, all_put, text_put}
use Rattle.dc_code.specs.Reaching.{all_read, sort_of_shape}
use Rattle.dc_code.specs.Troubles.{Computing, write_line}
use Rattle.dc_code.proofs.Sequences.{sequence-then}
use Rattle.dc_lists.specs.Output.{written, line_of, rest_of_line}
use Rattle.dc_tree.specs.Entities.{Entity, outside, slots, dummy, constant, function, subroutine, reduction, nothing, Scope, entity}
use Rattle.dc_tree.specs.Statements.{Name}
use Rattle.dc_tree.specs.Syntax.{Tree, number, chars, name, refer, paren, unary, binary}
use Rattle.dc_tree.specs.Syntax as syntax
use Rattle.dc_tree.specs.Typing.{sort_of_entity}
use Rattle.dc_meaning.specs.Actions.{Flow, on, piece, pieces, is_array, printing}
use Rattle.dc_meaning.specs.Acts as acts
use Rattle.dc_meaning.specs.Acts.{State}
use Rattle.dc_meaning.specs.OutputPieces as output_pieces
use Rattle.dc_meaning.specs.OutputPieces.{Piece, piece_text}
use Rattle.dc_meaning.specs.Places.{whole_values}
use Rattle.dc_meaning.specs.Values.{Callee, value}
use Rattle.dc_actions.specs.Expressions.{value_code, is_usable}
use Rattle.dc_actions.specs.Placed.{StandAt, HaveNames, IsOutside, IsLineless}
use Rattle.dc_actions.specs.Printing.{put_code, whole_code, item_code, items_code, printing_code, texts_of_item, texts_of_items, TextsStand, is_outside, gives_item, give_items}
use Rattle.dc_actions.proofs.Expressions.{behind-two, value-law}
use Rattle.dc_actions.proofs.Facts.{both-true}
use Rattle.dc_actions.proofs.OperatorLaws.{append-assoc, plus-one, plus-none}
use Rattle.dc_actions.proofs.Wholes.{outer_place_of, outer-places, reads-law}
use Rattle.dc_actions.proofs.Going.{GoesAs}
use Rattle.dc_actions.proofs.Placing.{get-left, get-right, stand-left, stand-right, stepped}

-- ---- lines

abbrev pub texts : List Piece → List (List ℕ)
texts given = map piece_text given

put-both : (first second : List (List ℕ)) (frame : Frame) → put_each (first ++ second) frame ≡ put_each second (put_each first frame)
put-both [] second frame = refl
put-both (text ∷ first) second frame = put-both first second (put text frame)

put-rest : (given : List (List ℕ)) (frame : Frame) → frame.begun ≡ true → (put_each given frame).line ++ 10 ∷ [] ≡ frame.line ++ rest_of_line given
put-rest [] frame begun = refl
put-rest (text ∷ given) frame begun =
    put-rest given (put text frame) refl
    ∙ ap (λ b. (frame.line ++ cond (not b) text (32 ∷ text)) ++ rest_of_line given) begun
    ∙ append-assoc frame.line (32 ∷ text) (rest_of_line given)

put-line : (given : List (List ℕ)) (frame : Frame) → IsLineless frame → (put_each given frame).line ++ 10 ∷ [] ≡ line_of given
put-line [] frame start = ap (λ (line : List ℕ). line ++ 10 ∷ []) start.empty
put-line (text ∷ given) frame start =
    put-rest given (put text frame) refl
    ∙ ap (λ b. (frame.line ++ cond (not b) text (32 ∷ text)) ++ rest_of_line given) start.begun
    ∙ ap (λ (line : List ℕ). (line ++ text) ++ rest_of_line given) start.empty

cleared : (given : List (List ℕ)) (frame : Frame) → with_line [] false (put_each given frame) ≡ with_line [] false frame
cleared [] frame = refl
cleared (text ∷ given) frame = cleared given (put text frame)

lineless : (frame : Frame) → IsLineless frame → with_line [] false frame ≡ frame
lineless frame start = λ i. record { stack = frame.stack; units = frame.units; line = sym start.empty i; begun = sym start.begun i }

-- ---- items

-- What follows an item whose texts the instructions put.
abbrev ItemLaw : Going → ℕ → List What → Frame → State → Computing (List Piece × State) → Type 0
ItemLaw go at whats frame state c =
    (K : List Piece × State → Computing (Frame × ℕ))
    → ((given : List Piece) → go (at + length whats) (put_each (texts given) frame) state.turns ≡ K (given, state))
    → go at frame state.turns ≡ sequence c K

value-put : (code : CodeLists) (go : Going) (goes : GoesAs code go) (line at : ℕ) (frame : Frame) (state : State) (sort : Sort) (z : ℤ) → StandAt code line at (put_code sort ∷ [])
    → go at (pushed (Item.Value z) frame) state.turns ≡ go (at + 1) (put (written sort z) frame) state.turns
value-put code go goes line at frame state (whole kind) z stand =
    stepped goes at What.PutNumber [] (pushed (Item.Value z) frame) state.turns stand refl ∙ ap (λ place. go place (put (written (whole kind) z) frame) state.turns) (plus-one at)
value-put code go goes line at frame state logical z stand =
    stepped goes at What.PutTruth [] (pushed (Item.Value z) frame) state.turns stand refl ∙ ap (λ place. go place (put (written logical z) frame) state.turns) (plus-one at)

single-law : (code : CodeLists) (go : Going) (goes : GoesAs code go) (scope : Scope) (call : Callee) (line at : ℕ) (frame : Frame) (state : State) (tree : Tree) (sort : Sort) → HaveNames code scope frame state
    → StandAt code line at (value_code scope tree ++ put_code sort ∷ []) → is_usable scope tree ≡ true
    → ItemLaw go at (value_code scope tree ++ put_code sort ∷ []) frame state (sequence (value scope call line tree state) (λ w. give (piece sort w.0 ∷ [], w.1)))
single-law code go goes scope call line at frame state tree sort names stand so K later =
    value-law code go goes scope call line at frame state tree names (stand-left (value_code scope tree) (put_code sort ∷ []) stand) so
    (λ w. K (piece sort w.0 ∷ [], w.1))
    (λ z. value-put code go goes line (at + length (value_code scope tree)) frame state sort z (stand-right at (value_code scope tree) (put_code sort ∷ []) stand)
    ∙ ap (λ place. go place (put (written sort z) frame) state.turns) (behind-two (value_code scope tree) (put_code sort ∷ []) at) ∙ later (piece sort z ∷ []))
    ∙ sym (sequence-then (value scope call line tree state) (λ w. give (piece sort w.0 ∷ [], w.1)) K)

texts-of-values : (sort : Sort) (zs : List ℤ) → texts (map (piece sort) zs) ≡ map (written sort) zs
texts-of-values sort [] = refl
texts-of-values sort (z ∷ zs) = ap (λ rest. written sort z ∷ rest) (texts-of-values sort zs)

array-law : (code : CodeLists) (go : Going) (goes : GoesAs code go) (line at : ℕ) (frame : Frame) (state : State) (variable : ℕ) (sort : Sort) (bounds : Bounds) → IsOutside code variable sort bounds
    → StandAt code line at (What.PutAll variable ∷ [])
    → ItemLaw go at (What.PutAll variable ∷ []) frame state (sequence (whole_values line (outside variable sort bounds) state) (λ w. give (map (piece sort) w.0, w.1)))
array-law code go goes line at frame state variable sort bounds is stand K later =
    stepped goes at (What.PutAll variable) [] frame state.turns stand refl
    ∙ ap (λ found. behind go at state.turns (all_put code line variable found frame)) is.shaped
    ∙ ap (λ found. sequence (sequence (all_read code line (map (element variable) (range_with_len 0 (elements_of_shape found)))) putting) (λ left. go (suc at) left state.turns)) is.shaped
    ∙ ap (λ n. sequence (sequence (all_read code line (map (element variable) (range_with_len 0 n))) putting) (λ left. go (suc at) left state.turns)) is.elements
    ∙ sequence-then (all_read code line (map (element variable) (range_with_len 0 (elements_in bounds)))) putting (λ left. go (suc at) left state.turns)
    ∙ reads-law code line variable sort bounds state is 0 (elements_in bounds) (omega arith)
    (λ zs. go (suc at) (put_each (map (written (sort_of_shape is.shape)) zs) frame) state.turns) (λ w. K (map (piece sort) w.0, w.1)) settled
    ∙ sym (sequence-then (acts.for_each (acts.refer_to line) (map (outer_place_of variable) (range_with_len 0 (elements_in bounds))) state) (λ w. give (map (piece sort) w.0, w.1)) K)
    ∙ ap (λ c. sequence (sequence (sequence c (λ w. acts.for_each (acts.refer_to line) w.0 w.1)) (λ w. give (map (piece sort) w.0, w.1))) K) (sym (outer-places line variable sort bounds 0 (elements_in bounds) state))
  where
    putting : List ℤ → Computing Frame
    putting zs = give (put_each (map (written (sort_of_shape is.shape)) zs) frame)

    settled : (zs : List ℤ) → go (suc at) (put_each (map (written (sort_of_shape is.shape)) zs) frame) state.turns ≡ K (map (piece sort) zs, state)
    settled zs =
        ap (λ s. go (suc at) (put_each (map (written s) zs) frame) state.turns) is.sorted
        ∙ ap (λ (given : List (List ℕ)). go (suc at) (put_each given frame) state.turns) (sym (texts-of-values sort zs))
        ∙ ap (λ place. go place (put_each (texts (map (piece sort) zs)) frame) state.turns) (plus-one at)
        ∙ later (map (piece sort) zs)

whole-item-law : (code : CodeLists) (go : Going) (goes : GoesAs code go) (scope : Scope) (call : Callee) (line at : ℕ) (frame : Frame) (state : State) (text : Name) (found : Entity)
    → entity scope text ≡ found → HaveNames code scope frame state → StandAt code line at (whole_code found) → is_outside found ≡ true
    → ItemLaw go at (whole_code found) frame state (sequence (whole_values line found state) (λ w. give (map (piece (sort_of_entity found)) w.0, w.1)))
whole-item-law code go goes scope call line at frame state text (outside variable sort bounds) e names stand so K later =
    array-law code go goes line at frame state variable sort bounds (names.outer text variable sort bounds e) stand K later
whole-item-law code go goes scope call line at frame state text (slots group sort bounds) e names stand so K later = absurd (false≢true so)
whole-item-law code go goes scope call line at frame state text (constant sort z) e names stand so K later = absurd (false≢true so)
whole-item-law code go goes scope call line at frame state text (dummy place sort) e names stand so K later = absurd (false≢true so)
whole-item-law code go goes scope call line at frame state text (function procedure sort) e names stand so K later = absurd (false≢true so)
whole-item-law code go goes scope call line at frame state text (subroutine procedure intents) e names stand so K later = absurd (false≢true so)
whole-item-law code go goes scope call line at frame state text (reduction variable op sort bounds) e names stand so K later = absurd (false≢true so)
whole-item-law code go goes scope call line at frame state text nothing e names stand so K later = absurd (false≢true so)

named-law : (code : CodeLists) (go : Going) (goes : GoesAs code go) (scope : Scope) (call : Callee) (line at : ℕ) (frame : Frame) (state : State) (text : Name) (array : Bool) → HaveNames code scope frame state
    → StandAt code line at (cond array (whole_code (entity scope text)) (value_code scope (name text) ++ put_code (sort_of_entity (entity scope text)) ∷ []))
    → cond array (is_outside (entity scope text)) (is_usable scope (name text)) ≡ true
    → ItemLaw go at (cond array (whole_code (entity scope text)) (value_code scope (name text) ++ put_code (sort_of_entity (entity scope text)) ∷ [])) frame state
    (cond array (sequence (whole_values line (entity scope text) state) (λ w. give (map (piece (sort_of_entity (entity scope text))) w.0, w.1)))
    (sequence (value scope call line (name text) state) (λ w. give (piece (sort_of_entity (entity scope text)) w.0 ∷ [], w.1))))
named-law code go goes scope call line at frame state text true names stand so K later = whole-item-law code go goes scope call line at frame state text (entity scope text) refl names stand so K later
named-law code go goes scope call line at frame state text false names stand so K later = single-law code go goes scope call line at frame state (name text) (sort_of_entity (entity scope text)) names stand so K later

text-law : (code : CodeLists) (go : Going) (goes : GoesAs code go) (line at next : ℕ) (frame : Frame) (state : State) (text : List ℕ) → TextsStand code next (text ∷ []) → StandAt code line at (What.PutChars next ∷ [])
    → go at frame state.turns ≡ go (at + 1) (put text frame) state.turns
text-law code go goes line at next frame state text there stand =
    stepped goes at (What.PutChars next) [] frame state.turns stand refl
    ∙ ap (λ found. behind go at state.turns (text_put line found frame)) (subst (λ n. slice_get code.texts n ≡ Some text) (sym (plus-none next)) (there.each 0 text refl))
    ∙ ap (λ place. go place (put text frame) state.turns) (plus-one at)

item-law : (code : CodeLists) (go : Going) (goes : GoesAs code go) (scope : Scope) (call : Callee) (line at next : ℕ) (frame : Frame) (state : State) (tree : Tree) → HaveNames code scope frame state
    → TextsStand code next (texts_of_item tree) → StandAt code line at (item_code scope next tree) → gives_item scope tree ≡ true
    → ItemLaw go at (item_code scope next tree) frame state (pieces scope call line tree state)
item-law code go goes scope call line at next frame state (chars text) names there stand so K later = text-law code go goes line at next frame state text there stand ∙ later (output_pieces.text text ∷ [])
item-law code go goes scope call line at next frame state (name text) names there stand so K later =
    named-law code go goes scope call line at frame state text (is_array (entity scope text)) names stand so K later ∙ ap (λ c. sequence c K) (chosen (is_array (entity scope text)))
  where
    chosen : (array : Bool)
        → cond array (sequence (whole_values line (entity scope text) state) (λ w. give (map (piece (sort_of_entity (entity scope text))) w.0, w.1)))
        (sequence (value scope call line (name text) state) (λ w. give (piece (sort_of_entity (entity scope text)) w.0 ∷ [], w.1)))
        ≡ cond {A = State → Computing (List Piece × State)} array (λ state. sequence (whole_values line (entity scope text) state) (λ w. give (map (piece (sort_of_entity (entity scope text))) w.0, w.1)))
        (λ state. sequence (value scope call line (name text) state) (λ w. give (piece (sort_of_entity (entity scope text)) w.0 ∷ [], w.1))) state
    chosen true = refl
    chosen false = refl
item-law code go goes scope call line at next frame state (number digits suffix) names there stand so K later = single-law code go goes scope call line at frame state (number digits suffix) _ names stand so K later
item-law code go goes scope call line at next frame state (syntax.truth given) names there stand so K later = single-law code go goes scope call line at frame state (syntax.truth given) _ names stand so K later
item-law code go goes scope call line at next frame state (refer text args) names there stand so K later = single-law code go goes scope call line at frame state (refer text args) _ names stand so K later
item-law code go goes scope call line at next frame state (paren inside) names there stand so K later = single-law code go goes scope call line at frame state (paren inside) _ names stand so K later
item-law code go goes scope call line at next frame state (unary mark right) names there stand so K later = single-law code go goes scope call line at frame state (unary mark right) _ names stand so K later
item-law code go goes scope call line at next frame state (binary mark left right) names there stand so K later = single-law code go goes scope call line at frame state (binary mark left right) _ names stand so K later

pub texts-left : {code : CodeLists} {next : ℕ} (first second : List (List ℕ)) → TextsStand code next (first ++ second) → TextsStand code next first
texts-left first second there = record { each = λ i text e. there.each i text (get-left first second i text e) }

pub texts-right : {code : CodeLists} (next : ℕ) (first second : List (List ℕ)) → TextsStand code next (first ++ second) → TextsStand code (next + length first) second
texts-right {code} next first second there =
    record { each = λ i text e. subst (λ n. slice_get code.texts n ≡ Some text) (behind i) (there.each (length first + i) text (get-right first second i ∙ e)) }
  where
    behind : (i : ℕ) → next + (length first + i) ≡ next + length first + i
    behind i = omega arith

abbrev all_pieces : List (List Piece) → List Piece
all_pieces given = flat_map (λ items. items) given

same-names : {code : CodeLists} {scope : Scope} {frame : Frame} {state : State} (given : List (List ℕ)) → HaveNames code scope frame state → HaveNames code scope (put_each given frame) state
same-names [] names = names
same-names {code} {scope} {frame} {state} (text ∷ given) names = same-names given (record {
  outer = names.outer;
  inner = λ text group sort bounds e. let g = names.inner text group sort bounds e in record { planned = g.planned; plan = g.plan; bounds = g.bounds; sorted = g.sorted; same = g.same; all = g.all };
  truths = names.truths;
})

items-law : (code : CodeLists) (go : Going) (goes : GoesAs code go) (scope : Scope) (call : Callee) (line at next : ℕ) (frame : Frame) (state : State) (trees : List Tree) → HaveNames code scope frame state
    → TextsStand code next (texts_of_items trees) → StandAt code line at (items_code scope next trees) → give_items scope trees ≡ true
    → (K : List (List Piece) × State → Computing (Frame × ℕ))
    → ((given : List (List Piece)) → go (at + length (items_code scope next trees)) (put_each (texts (all_pieces given)) frame) state.turns ≡ K (given, state))
    → go at frame state.turns ≡ sequence (acts.for_each (pieces scope call line) trees state) K
items-law code go goes scope call line at next frame state [] names there stand so K later = ap (λ place. go place frame state.turns) (plus-none at) ∙ later []
items-law code go goes scope call line at next frame state (tree ∷ trees) names there stand so K later =
    let first = item_code scope next tree in
    let second = items_code scope (next + length (texts_of_item tree)) trees in
    item-law code go goes scope call line at next frame state tree names (texts-left (texts_of_item tree) (texts_of_items trees) there) (stand-left first second stand) (both-true so).0
    (λ w. sequence (sequence (acts.for_each (pieces scope call line) trees w.1) (λ v. give (w.0 ∷ v.0, v.1))) K)
    (λ given. items-law code go goes scope call line (at + length first) (next + length (texts_of_item tree)) (put_each (texts given) frame) state trees (same-names (texts given) names)
    (texts-right next (texts_of_item tree) (texts_of_items trees) there) (stand-right at first second stand) (both-true so).1
    (λ v. K (given ∷ v.0, v.1))
    (λ others. ap (λ (f : Frame). go (at + length first + length second) f state.turns)
    (sym (put-both (texts given) (texts (all_pieces others)) frame) ∙ ap (λ (ts : List (List ℕ)). put_each ts frame) (sym (map-append piece_text given (all_pieces others))))
    ∙ ap (λ place. go place (put_each (texts (all_pieces (given ∷ others))) frame) state.turns) (behind-two first second at)
    ∙ later (given ∷ others))
    ∙ sym (sequence-then (acts.for_each (pieces scope call line) trees state) (λ v. give (given ∷ v.0, v.1)) K))
    ∙ sym (sequence-then (pieces scope call line tree state) (λ w. sequence (acts.for_each (pieces scope call line) trees w.1) (λ v. give (w.0 ∷ v.0, v.1))) K)

pub printing-law : (code : CodeLists) (go : Going) (goes : GoesAs code go) (scope : Scope) (call : Callee) (line at next : ℕ) (frame : Frame) (state : State) (trees : List Tree) → HaveNames code scope frame state
    → IsLineless frame → TextsStand code next (texts_of_items trees) → StandAt code line at (printing_code scope next trees) → give_items scope trees ≡ true
    → (K : Flow × State → Computing (Frame × ℕ))
    → go (at + length (printing_code scope next trees)) frame state.turns ≡ K (on, state)
    → go at frame state.turns ≡ sequence (printing scope call line trees state) K
printing-law code go goes scope call line at next frame state trees names start there stand so K later =
    items-law code go goes scope call line at next frame state trees names there (stand-left items (What.PutEnd ∷ []) stand) so
    (λ w. sequence (ending w) K)
    (λ given. stepped goes (at + length items) What.PutEnd [] (put_each (texts (all_pieces given)) frame) state.turns (stand-right at items (What.PutEnd ∷ []) stand) refl
    ∙ ap (λ bytes. pause (write_line line bytes) (λ told. go (suc (at + length items)) (with_line [] false (put_each (texts (all_pieces given)) frame)) state.turns))
    (put-line (texts (all_pieces given)) frame start)
    ∙ ap (λ (f : Frame). pause (write_line line (line_of (texts (all_pieces given)))) (λ told. go (suc (at + length items)) f state.turns))
    (cleared (texts (all_pieces given)) frame ∙ lineless frame start)
    ∙ ap (λ c. pause (write_line line (line_of (texts (all_pieces given)))) (λ told. c))
    (ap (λ place. go place frame state.turns) (plus-one (at + length items) ∙ behind-two items (What.PutEnd ∷ []) at) ∙ later))
    ∙ sym (sequence-then (acts.for_each (pieces scope call line) trees state) ending K)
  where
    items : List What
    items = items_code scope next trees

    ending : List (List Piece) × State → Computing (Flow × State)
    ending w = pause (write_line line (line_of (texts (all_pieces w.0)))) (λ told. give (on, w.1))
