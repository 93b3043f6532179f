-- Values on the stack, elements, slots, names and operators: the machine against what they mean.
use Rattle.std.proofs.Common.{◌≡◌, ◌<◌, ℕ, suc, ◌+◌, ◌-◌, true, false, cond, List, [], ◌∷◌, ◌++◌, length, Option, Some, None, refl, sym, ap, ◌∙◌, subst, arith}
use Rattle.std.proofs.lemmas.Bool.{lt-ltb, eqb-true, false≢true}
use Rattle.std.specs.Prelude.{ℤ, pos, Ok, Err, nat_eq, nat_lt, is_some}
use Rattle.dc_int.specs.declared.access.ElementId.{ElementId}
use Rattle.dc_int.specs.declared.kind.Kind.{Kind}
use Rattle.dc_int.specs.declared.operation.Op.{Op}
use Rattle.dc_int.specs.declared.operation.OpFault.{OpFault}
use Rattle.dc_tree.specs.declared.token.Mark.{Mark}
use Rattle.dc_tree.specs.Operating.{joined_by, led_by}
use Rattle.dc_code.specs.declared.instr.Relation.{Relation}
use Rattle.dc_int.specs.Operations.{Outcome, applied}
use Rattle.dc_int.specs.Reductions.{truth, number_of_truth}
use Rattle.dc_int.specs.Sorts.{Sort, whole, logical, kind_of}
use Rattle.dc_int.specs.Store.{Bounds, elements_in, position_in}
use Rattle.dc_code.specs.Computation.{give, fail, read, define, undefine, contribute, ask, pause, sequence}
use Rattle.dc_code.specs.Troubles.{Computing}
use Rattle.dc_code.specs.declared.frame.Item.{Item}
use Rattle.dc_code.specs.declared.instr.What.{What}
use Rattle.dc_code.specs.Codes.{CodeLists, element}
use Rattle.dc_actions.specs.Expressions.{constant_code, entity_code, led_code, joined_code, gives_value}
use Rattle.dc_code.specs.Frames.{Frame, pushed}
use Rattle.dc_code.specs.Instructions.{Going, act, behind, computed, settled, takes_one}
use Rattle.dc_code.specs.Operands.{values_off, required, stuck}
use Rattle.dc_code.specs.Reaching.{positioned, within_bounds, element_sort, sort_of_shape, group_planned, group_bounds}
use Rattle.dc_actions.specs.Placed.{StandAt, HaveNames, IsOutside, IsGroup}
use Rattle.dc_tree.specs.Entities.{Entity, outside, slots, dummy, constant, function, subroutine, reduction, nothing, Scope, entity}
use Rattle.dc_tree.specs.Statements.{Name}
use Rattle.dc_meaning.specs.Acts as acts
use Rattle.dc_meaning.specs.Acts.{State}
use Rattle.dc_meaning.specs.Values as meanings
use Rattle.dc_meaning.specs.Values.{Callee, refer_value}
use Rattle.dc_meaning.proofs.Positions.{position-below}
use Rattle.dc_code.proofs.Sequences.{Gives, sequence-then, same-then}
use Rattle.dc_actions.proofs.Going.{goes_behind, GoesAs}
use Rattle.dc_actions.proofs.Placing.{stand-rest, stepped}

-- The values, the last on top.
abbrev pub all_pushed : List ℤ → Frame → Frame
all_pushed [] frame = frame
all_pushed (z ∷ zs) frame = all_pushed zs (pushed (Item.Value z) frame)

pub pushed-names : {code : CodeLists} {scope : Scope} {frame : Frame} {state : State} (item : Item) → HaveNames code scope frame state → HaveNames code scope (pushed item frame) state
pushed-names item names = record {
  outer = names.outer;
  inner = λ text group sort bounds e. let g = names.inner text group sort bounds e in record { planned = g.planned; plan = g.plan; bounds = g.bounds; sorted = g.sorted; same = g.same; all = g.all };
  truths = names.truths;
}

-- What follows a value that the instructions leave, or what they end with.
abbrev pub Law : Going → ℕ → List What → Frame → State → Computing (ℤ × State) → Type 0
Law go at whats frame state c =
    (K : ℤ × State → Computing (Frame × ℕ))
    → ((z : ℤ) → go (at + length whats) (pushed (Item.Value z) frame) state.turns ≡ K (z, state))
    → go at frame state.turns ≡ sequence c K

pub plus-one : (at : ℕ) → suc at ≡ at + 1
plus-one at = omega arith

pub number-law : (code : CodeLists) (go : Going) (goes : GoesAs code go) (line at : ℕ) (frame : Frame) (state : State) (its_kind : Kind) (z : ℤ) → StandAt code line at (What.Const its_kind z ∷ [])
    → Law go at (What.Const its_kind z ∷ []) frame state (give (z, state))
number-law code go goes line at frame state its_kind z stand K later =
    stepped goes at (What.Const its_kind z) [] frame state.turns stand refl ∙ ap (λ place. go place (pushed (Item.Value z) frame) state.turns) (plus-one at) ∙ later z

-- ---- computations

pub gives-unit : {A : Type 0} (c : Computing A) → Gives (λ a. Unit {0}) c
gives-unit (give a) = tt
gives-unit (fail trouble) = tt
gives-unit (read x line rest) = λ state. gives-unit (rest state)
gives-unit (define x z line rest) = gives-unit rest
gives-unit (undefine x line rest) = gives-unit rest
gives-unit (contribute x op z rest) = gives-unit rest
gives-unit (ask variable rest) = λ bounds. gives-unit (rest bounds)
gives-unit (pause event rest) = λ told. gives-unit (rest told)

pub sequence-give : {A : Type 0} (c : Computing A) → sequence c (λ a. give a) ≡ c
sequence-give (give a) = refl
sequence-give (fail trouble) = refl
sequence-give (read x line rest) = λ i. read x line (λ state. sequence-give (rest state) i)
sequence-give (define x z line rest) = ap (define x z line) (sequence-give rest)
sequence-give (undefine x line rest) = ap (undefine x line) (sequence-give rest)
sequence-give (contribute x op z rest) = ap (contribute x op z) (sequence-give rest)
sequence-give (ask variable rest) = λ i. ask variable (λ bounds. sequence-give (rest bounds) i)
sequence-give (pause event rest) = λ i. pause event (λ told. sequence-give (rest told) i)

pub append-nil : {A : Type 0} (items : List A) → items ++ [] ≡ items
append-nil [] = refl
append-nil (item ∷ items) = ap (λ rest. item ∷ rest) (append-nil items)

pub append-assoc : {A : Type 0} (first second third : List A) → (first ++ second) ++ third ≡ first ++ (second ++ third)
append-assoc [] second third = refl
append-assoc (item ∷ first) second third = ap (λ rest. item ∷ rest) (append-assoc first second third)

-- ---- values from the stack

pub taken-first : (line : ℕ) (zs : List ℤ) (n : ℕ) (frame : Frame)
    → values_off line (length zs + n) (all_pushed zs frame) ≡ sequence (values_off line n frame) (λ w. give (w.0 ++ zs, w.1))
taken-first line [] n frame = ap (λ m. values_off line m frame) (none-before n) ∙ sym (same-end (values_off line n frame))
  where
    none-before : (n : ℕ) → 0 + n ≡ n
    none-before n = omega arith

    same-end : (c : Computing (List ℤ × Frame)) → sequence c (λ w. give (w.0 ++ [], w.1)) ≡ c
    same-end c = same-then (λ w. Unit {0}) c (λ w. give (w.0 ++ [], w.1)) (λ w. give w) (gives-unit c) (λ w any. ap (λ (zs : List ℤ). give (zs, w.1)) (append-nil w.0)) ∙ sequence-give c
taken-first line (z ∷ zs) n frame =
    ap (λ m. values_off line m (all_pushed zs (pushed (Item.Value z) frame))) (one-later (length zs) n)
    ∙ taken-first line zs (suc n) (pushed (Item.Value z) frame)
    ∙ sequence-then (values_off line n frame) (λ w. give (w.0 ++ z ∷ [], w.1)) (λ w. give (w.0 ++ zs, w.1))
    ∙ same-then (λ w. Unit {0}) (values_off line n frame) (λ w. give ((w.0 ++ z ∷ []) ++ zs, w.1)) (λ w. give (w.0 ++ (z ∷ zs), w.1)) (gives-unit (values_off line n frame))
    (λ w any. ap (λ (all : List ℤ). give (all, w.1)) (append-assoc w.0 (z ∷ []) zs))
  where
    one-later : (m n : ℕ) → suc m + n ≡ m + suc n
    one-later m n = omega arith

pub taken-all : (line : ℕ) (zs : List ℤ) (frame : Frame) → values_off line (length zs) (all_pushed zs frame) ≡ give (zs, frame)
taken-all line zs frame = ap (λ m. values_off line m (all_pushed zs frame)) (none-behind (length zs)) ∙ taken-first line zs 0 frame
  where
    none-behind : (n : ℕ) → n ≡ n + 0
    none-behind n = omega arith

-- ---- elements and slots

-- There is the element at a position within the bounds.
pub element-there : {code : CodeLists} {variable : ℕ} {sort : Sort} {bounds : Bounds} (is : IsOutside code variable sort bounds) (position : ℕ) → position < elements_in bounds
    → element_sort code (element variable position) ≡ Some sort
element-there {code} {variable} {sort} is position within =
    rw is.shaped (ap (λ b. cond b (Some (sort_of_shape is.shape)) None) inside ∙ ap (λ (s : Sort). Some s) is.sorted)
  where
    inside : nat_lt position is.shape.elements ≡ true
    inside = lt-ltb position is.shape.elements (subst (λ n. position < n) (sym is.elements) within)

pub outside-law : (code : CodeLists) (go : Going) (goes : GoesAs code go) (call : Callee) (line at : ℕ) (frame : Frame) (state : State) (variable : ℕ) (sort : Sort) (bounds : Bounds) (zs : List ℤ)
    → StandAt code line at (What.Subscript variable ∷ What.Load variable ∷ []) → IsOutside code variable sort bounds → length zs ≡ length bounds
    → (K : ℤ × State → Computing (Frame × ℕ))
    → ((z : ℤ) → go (at + 2) (pushed (Item.Value z) frame) state.turns ≡ K (z, state))
    → go at (all_pushed zs frame) state.turns ≡ sequence (refer_value call line (outside variable sort bounds) zs state) K
outside-law code go goes call line at frame state variable sort bounds zs stand is ranked K later =
    stepped goes at (What.Subscript variable) (What.Load variable ∷ []) (all_pushed zs frame) state.turns stand refl
    ∙ ap (λ found. behind go at state.turns (positioned line found (all_pushed zs frame))) is.bounds
    ∙ ap (λ n. sequence (sequence (values_off line n (all_pushed zs frame)) positioning) (λ left. go (suc at) left state.turns)) (sym ranked)
    ∙ ap (λ c. sequence (sequence c positioning) (λ left. go (suc at) left state.turns)) (taken-all line zs frame)
    ∙ placed (position_in bounds zs) refl
  where
    positioning : List ℤ × Frame → Computing Frame
    positioning w = sequence (within_bounds line (position_in bounds w.0)) (λ at. give (pushed (Item.Position at) w.1))

    answered : (x : ElementId) (z : Option ℤ)
        → sequence (sequence (required line z) (λ z. give (pushed (Item.Value z) frame))) (λ left. go (suc (suc at)) left state.turns)
        ≡ sequence (acts.required line z state) K
    answered x None = refl
    answered x (Some z) = ap (λ place. go place (pushed (Item.Value z) frame) state.turns) (two-on at) ∙ later z
      where
        two-on : (at : ℕ) → suc (suc at) ≡ at + 2
        two-on at = omega arith

    placed : (found : Option ℕ) → position_in bounds zs ≡ found
        → sequence (sequence (within_bounds line (position_in bounds zs)) (λ at. give (pushed (Item.Position at) frame))) (λ left. go (suc at) left state.turns)
        ≡ sequence (refer_value call line (outside variable sort bounds) zs state) K
    placed None e = rw e refl
    placed (Some position) e = rw e (
        stepped goes (suc at) (What.Load variable) [] (pushed (Item.Position position) frame) state.turns (stand-rest at (What.Subscript variable) (What.Load variable ∷ []) stand) refl
        ∙ ap (λ found. sequence (sequence (cond (is_some found) (read (element variable position) line (required line)) (stuck line)) (λ z. give (pushed (Item.Value z) frame))) (λ left. go (suc (suc at)) left state.turns))
        (element-there is position (position-below bounds zs position e))
        ∙ (λ i. read (element variable position) line (λ z. answered (element variable position) z i)))

pub all-units : (zs : List ℤ) (frame : Frame) → (all_pushed zs frame).units ≡ frame.units
all-units [] frame = refl
all-units (z ∷ zs) frame = all-units zs (pushed (Item.Value z) frame)

pub all-planned : (code : CodeLists) (zs : List ℤ) (frame : Frame) (group : ℕ) → group_planned code (all_pushed zs frame) group ≡ group_planned code frame group
all-planned code [] frame group = refl
all-planned code (z ∷ zs) frame group = all-planned code zs (pushed (Item.Value z) frame) group

pub slots-law : (code : CodeLists) (go : Going) (goes : GoesAs code go) (call : Callee) (line at : ℕ) (frame : Frame) (state : State) (group : ℕ) (sort : Sort) (bounds : Bounds) (zs : List ℤ)
    → StandAt code line at (What.SubscriptSlot group ∷ What.LoadSlot group ∷ []) → IsGroup code frame state group sort bounds → length zs ≡ length bounds
    → (K : ℤ × State → Computing (Frame × ℕ))
    → ((z : ℤ) → go (at + 2) (pushed (Item.Value z) frame) state.turns ≡ K (z, state))
    → go at (all_pushed zs frame) state.turns ≡ sequence (refer_value call line (slots group sort bounds) zs state) K
slots-law code go goes call line at frame state group sort bounds zs stand is ranked K later =
    stepped goes at (What.SubscriptSlot group) (What.LoadSlot group ∷ []) (all_pushed zs frame) state.turns stand refl
    ∙ ap (λ found. behind go at state.turns (positioned line (group_bounds found) (all_pushed zs frame))) (all-planned code zs frame group ∙ is.plan)
    ∙ ap (λ bs. behind go at state.turns (positioned line (Some bs) (all_pushed zs frame))) is.bounds
    ∙ ap (λ n. sequence (sequence (values_off line n (all_pushed zs frame)) positioning) (λ left. go (suc at) left state.turns)) (sym ranked)
    ∙ ap (λ c. sequence (sequence c positioning) (λ left. go (suc at) left state.turns)) (taken-all line zs frame)
    ∙ placed (position_in bounds zs) refl
  where
    positioning : List ℤ × Frame → Computing Frame
    positioning w = sequence (within_bounds line (position_in bounds w.0)) (λ at. give (pushed (Item.Position at) w.1))

    answered : (z : Option ℤ)
        → sequence (sequence (required line z) (λ z. give (pushed (Item.Value z) frame))) (λ left. go (suc (suc at)) left state.turns)
        ≡ sequence (acts.required line z state) K
    answered None = refl
    answered (Some z) = ap (λ place. go place (pushed (Item.Value z) frame) state.turns) (two-on at) ∙ later z
      where
        two-on : (at : ℕ) → suc (suc at) ≡ at + 2
        two-on at = omega arith

    placed : (found : Option ℕ) → position_in bounds zs ≡ found
        → sequence (sequence (within_bounds line (position_in bounds zs)) (λ at. give (pushed (Item.Position at) frame))) (λ left. go (suc at) left state.turns)
        ≡ sequence (refer_value call line (slots group sort bounds) zs state) K
    placed None e = rw e refl
    placed (Some position) e = rw e (
        stepped goes (suc at) (What.LoadSlot group) [] (pushed (Item.Position position) frame) state.turns (stand-rest at (What.SubscriptSlot group) (What.LoadSlot group ∷ []) stand) refl
        ∙ ap (λ found. sequence (sequence (required line found) (λ z. give (pushed (Item.Value z) frame))) (λ left. go (suc (suc at)) left state.turns)) (is.same position)
        ∙ answered (acts.slot_of state.frames (length state.frames - 1) group position))

-- ---- names

pub no-value : (subscripts : List ℤ) → nat_eq (length subscripts) 0 ≡ true → subscripts ≡ []
no-value [] e = refl
no-value (z ∷ zs) e = absurd (none (length zs) (eqb-true (suc (length zs)) 0 e))
  where
    none : (n : ℕ) → suc n ≡ 0 → ⊥
    none n e = omega (arith, e)

pub constant-law : (code : CodeLists) (go : Going) (goes : GoesAs code go) (line at : ℕ) (frame : Frame) (state : State) (sort : Sort) (z : ℤ)
    → StandAt code line at (constant_code sort z) → (sort ≡ logical → number_of_truth (truth z) ≡ z) → Law go at (constant_code sort z) frame state (give (z, state))
constant-law code go goes line at frame state (whole its_kind) z stand sound K later = number-law code go goes line at frame state its_kind z stand K later
constant-law code go goes line at frame state logical z stand sound K later =
    stepped goes at (What.Truth (truth z)) [] frame state.turns stand refl
    ∙ ap (λ place. go place (pushed (Item.Value (number_of_truth (truth z))) frame) state.turns) (plus-one at)
    ∙ ap (λ n. go (at + 1) (pushed (Item.Value n) frame) state.turns) (sound refl) ∙ later z

pub entity-law : (code : CodeLists) (go : Going) (goes : GoesAs code go) (scope : Scope) (call : Callee) (line at : ℕ) (frame : Frame) (state : State) (text : Name) (found : Entity) (zs : List ℤ)
    → entity scope text ≡ found → HaveNames code scope frame state → StandAt code line at (entity_code found) → gives_value found (length zs) ≡ true
    → (K : ℤ × State → Computing (Frame × ℕ))
    → ((z : ℤ) → go (at + length (entity_code found)) (pushed (Item.Value z) frame) state.turns ≡ K (z, state))
    → go at (all_pushed zs frame) state.turns ≡ sequence (refer_value call line found zs state) K
entity-law code go goes scope call line at frame state text (outside variable sort bounds) zs e names stand so K later =
    outside-law code go goes call line at frame state variable sort bounds zs stand (names.outer text variable sort bounds e) (sym (eqb-true (length bounds) (length zs) so)) K later
entity-law code go goes scope call line at frame state text (slots group sort bounds) zs e names stand so K later =
    slots-law code go goes call line at frame state group sort bounds zs stand (names.inner text group sort bounds e) (sym (eqb-true (length bounds) (length zs) so)) K later
entity-law code go goes scope call line at frame state text (constant sort z) zs e names stand so K later =
    subst (λ (given : List ℤ). go at (all_pushed given frame) state.turns ≡ sequence (refer_value call line (constant sort z) given state) K) (sym (no-value zs so))
    (constant-law code go goes line at frame state sort z stand (λ is. names.truths text z (e ∙ ap (λ s. constant s z) is)) K later)
entity-law code go goes scope call line at frame state text (dummy place sort) zs e names stand so K later = absurd (false≢true so)
entity-law code go goes scope call line at frame state text (function procedure sort) zs e names stand so K later = absurd (false≢true so)
entity-law code go goes scope call line at frame state text (subroutine procedure intents) zs e names stand so K later = absurd (false≢true so)
entity-law code go goes scope call line at frame state text (reduction variable op sort bounds) zs e names stand so K later = absurd (false≢true so)
entity-law code go goes scope call line at frame state text nothing zs e names stand so K later = absurd (false≢true so)

pub plus-none : (at : ℕ) → at ≡ at + 0
plus-none at = omega arith

-- ---- operators

pub settled-law : (code : CodeLists) (go : Going) (goes : GoesAs code go) (line at : ℕ) (frame : Frame) (state : State) (outcome : Outcome)
    → (K : ℤ × State → Computing (Frame × ℕ))
    → ((z : ℤ) → go (at + 1) (pushed (Item.Value z) frame) state.turns ≡ K (z, state))
    → sequence (sequence (settled line outcome) (λ z. give (pushed (Item.Value z) frame))) (λ left. go (suc at) left state.turns)
    ≡ sequence (meanings.settled line outcome state) K
settled-law code go goes line at frame state (Ok z) K later = ap (λ place. go place (pushed (Item.Value z) frame) state.turns) (plus-one at) ∙ later z
settled-law code go goes line at frame state (Err OpFault.Zero) K later = refl
settled-law code go goes line at frame state (Err OpFault.Shift) K later = refl

pub arith-law : (code : CodeLists) (go : Going) (goes : GoesAs code go) (line at : ℕ) (frame : Frame) (state : State) (op : Op) (its_kind : Kind) (a b : ℤ)
    → takes_one op ≡ false → StandAt code line at (What.Arith op its_kind ∷ [])
    → (K : ℤ × State → Computing (Frame × ℕ))
    → ((z : ℤ) → go (at + 1) (pushed (Item.Value z) frame) state.turns ≡ K (z, state))
    → go at (pushed (Item.Value b) (pushed (Item.Value a) frame)) state.turns ≡ sequence (meanings.settled line (applied op its_kind a b) state) K
arith-law code go goes line at frame state op its_kind a b two stand K later =
    stepped goes at (What.Arith op its_kind) [] (pushed (Item.Value b) (pushed (Item.Value a) frame)) state.turns stand refl
    ∙ ap (λ one. behind go at state.turns (computed one line op its_kind (pushed (Item.Value b) (pushed (Item.Value a) frame)))) two
    ∙ settled-law code go goes line at frame state (applied op its_kind a b) K later

pub arith-one-law : (code : CodeLists) (go : Going) (goes : GoesAs code go) (line at : ℕ) (frame : Frame) (state : State) (op : Op) (its_kind : Kind) (a : ℤ)
    → takes_one op ≡ true → StandAt code line at (What.Arith op its_kind ∷ [])
    → (K : ℤ × State → Computing (Frame × ℕ))
    → ((z : ℤ) → go (at + 1) (pushed (Item.Value z) frame) state.turns ≡ K (z, state))
    → go at (pushed (Item.Value a) frame) state.turns ≡ sequence (meanings.settled line (applied op its_kind a (pos 0)) state) K
arith-one-law code go goes line at frame state op its_kind a one stand K later =
    stepped goes at (What.Arith op its_kind) [] (pushed (Item.Value a) frame) state.turns stand refl
    ∙ ap (λ b. behind go at state.turns (computed b line op its_kind (pushed (Item.Value a) frame))) one
    ∙ settled-law code go goes line at frame state (applied op its_kind a (pos 0)) K later

-- an instruction that leaves a value without a fault
pub gives-law : (code : CodeLists) (go : Going) (goes : GoesAs code go) (line at : ℕ) (frame before : Frame) (state : State) (what : What) (z : ℤ)
    → StandAt code line at (what ∷ []) → goes_behind what ≡ true → act code go line what at before state.turns ≡ go (suc at) (pushed (Item.Value z) frame) state.turns
    → (K : ℤ × State → Computing (Frame × ℕ))
    → ((z : ℤ) → go (at + 1) (pushed (Item.Value z) frame) state.turns ≡ K (z, state))
    → go at before state.turns ≡ K (z, state)
gives-law code go goes line at frame before state what z stand further acts K later =
    stepped goes at what [] before state.turns stand further ∙ acts ∙ ap (λ place. go place (pushed (Item.Value z) frame) state.turns) (plus-one at) ∙ later z

pub joined-law : (code : CodeLists) (go : Going) (goes : GoesAs code go) (line at : ℕ) (frame : Frame) (state : State) (mark : Mark) (sort : Sort) (a b : ℤ)
    → StandAt code line at (joined_code mark sort)
    → (K : ℤ × State → Computing (Frame × ℕ))
    → ((z : ℤ) → go (at + 1) (pushed (Item.Value z) frame) state.turns ≡ K (z, state))
    → go at (pushed (Item.Value b) (pushed (Item.Value a) frame)) state.turns ≡ sequence (meanings.settled line (joined_by mark sort a b) state) K
joined-law code go goes line at frame state Mark.Plus sort a b stand K later = arith-law code go goes line at frame state Op.Add (kind_of sort) a b refl stand K later
joined-law code go goes line at frame state Mark.Minus sort a b stand K later = arith-law code go goes line at frame state Op.Sub (kind_of sort) a b refl stand K later
joined-law code go goes line at frame state Mark.Times sort a b stand K later = arith-law code go goes line at frame state Op.Mul (kind_of sort) a b refl stand K later
joined-law code go goes line at frame state Mark.Slash sort a b stand K later = arith-law code go goes line at frame state Op.Div (kind_of sort) a b refl stand K later
joined-law code go goes line at frame state Mark.Power sort a b stand K later = arith-law code go goes line at frame state Op.Pow (kind_of sort) a b refl stand K later
joined-law code go goes line at frame state Mark.Open sort a b stand K later = gives-law code go goes line at frame (pushed (Item.Value b) (pushed (Item.Value a) frame)) state What.Drop _ stand refl refl K later
joined-law code go goes line at frame state Mark.Close sort a b stand K later = gives-law code go goes line at frame (pushed (Item.Value b) (pushed (Item.Value a) frame)) state What.Drop _ stand refl refl K later
joined-law code go goes line at frame state Mark.OpenList sort a b stand K later = gives-law code go goes line at frame (pushed (Item.Value b) (pushed (Item.Value a) frame)) state What.Drop _ stand refl refl K later
joined-law code go goes line at frame state Mark.CloseList sort a b stand K later = gives-law code go goes line at frame (pushed (Item.Value b) (pushed (Item.Value a) frame)) state What.Drop _ stand refl refl K later
joined-law code go goes line at frame state Mark.Comma sort a b stand K later = gives-law code go goes line at frame (pushed (Item.Value b) (pushed (Item.Value a) frame)) state What.Drop _ stand refl refl K later
joined-law code go goes line at frame state Mark.Colon sort a b stand K later = gives-law code go goes line at frame (pushed (Item.Value b) (pushed (Item.Value a) frame)) state What.Drop _ stand refl refl K later
joined-law code go goes line at frame state Mark.Colons sort a b stand K later = gives-law code go goes line at frame (pushed (Item.Value b) (pushed (Item.Value a) frame)) state What.Drop _ stand refl refl K later
joined-law code go goes line at frame state Mark.Equals sort a b stand K later = gives-law code go goes line at frame (pushed (Item.Value b) (pushed (Item.Value a) frame)) state What.Drop _ stand refl refl K later
joined-law code go goes line at frame state Mark.Eq sort a b stand K later = gives-law code go goes line at frame (pushed (Item.Value b) (pushed (Item.Value a) frame)) state (What.Compare Relation.Eq) _ stand refl refl K later
joined-law code go goes line at frame state Mark.Ne sort a b stand K later = gives-law code go goes line at frame (pushed (Item.Value b) (pushed (Item.Value a) frame)) state (What.Compare Relation.Ne) _ stand refl refl K later
joined-law code go goes line at frame state Mark.Lt sort a b stand K later = gives-law code go goes line at frame (pushed (Item.Value b) (pushed (Item.Value a) frame)) state (What.Compare Relation.Lt) _ stand refl refl K later
joined-law code go goes line at frame state Mark.Le sort a b stand K later = gives-law code go goes line at frame (pushed (Item.Value b) (pushed (Item.Value a) frame)) state (What.Compare Relation.Le) _ stand refl refl K later
joined-law code go goes line at frame state Mark.Gt sort a b stand K later = gives-law code go goes line at frame (pushed (Item.Value b) (pushed (Item.Value a) frame)) state (What.Compare Relation.Gt) _ stand refl refl K later
joined-law code go goes line at frame state Mark.Ge sort a b stand K later = gives-law code go goes line at frame (pushed (Item.Value b) (pushed (Item.Value a) frame)) state (What.Compare Relation.Ge) _ stand refl refl K later
joined-law code go goes line at frame state Mark.Not sort a b stand K later = gives-law code go goes line at frame (pushed (Item.Value b) (pushed (Item.Value a) frame)) state What.Drop _ stand refl refl K later
joined-law code go goes line at frame state Mark.And sort a b stand K later = gives-law code go goes line at frame (pushed (Item.Value b) (pushed (Item.Value a) frame)) state What.And _ stand refl refl K later
joined-law code go goes line at frame state Mark.Or sort a b stand K later = gives-law code go goes line at frame (pushed (Item.Value b) (pushed (Item.Value a) frame)) state What.Or _ stand refl refl K later
joined-law code go goes line at frame state Mark.Eqv sort a b stand K later = gives-law code go goes line at frame (pushed (Item.Value b) (pushed (Item.Value a) frame)) state What.Eqv _ stand refl refl K later
joined-law code go goes line at frame state Mark.Neqv sort a b stand K later = gives-law code go goes line at frame (pushed (Item.Value b) (pushed (Item.Value a) frame)) state What.Neqv _ stand refl refl K later
joined-law code go goes line at frame state Mark.True sort a b stand K later = gives-law code go goes line at frame (pushed (Item.Value b) (pushed (Item.Value a) frame)) state What.Drop _ stand refl refl K later
joined-law code go goes line at frame state Mark.False sort a b stand K later = gives-law code go goes line at frame (pushed (Item.Value b) (pushed (Item.Value a) frame)) state What.Drop _ stand refl refl K later

pub led-law : (code : CodeLists) (go : Going) (goes : GoesAs code go) (line at : ℕ) (frame : Frame) (state : State) (mark : Mark) (sort : Sort) (a : ℤ)
    → StandAt code line at (led_code mark sort)
    → (K : ℤ × State → Computing (Frame × ℕ))
    → ((z : ℤ) → go (at + length (led_code mark sort)) (pushed (Item.Value z) frame) state.turns ≡ K (z, state))
    → go at (pushed (Item.Value a) frame) state.turns ≡ sequence (meanings.settled line (led_by mark sort a) state) K
led-law code go goes line at frame state Mark.Minus sort a stand K later = arith-one-law code go goes line at frame state Op.Neg (kind_of sort) a refl stand K later
led-law code go goes line at frame state Mark.Not sort a stand K later = gives-law code go goes line at frame (pushed (Item.Value a) frame) state What.Not _ stand refl refl K later
led-law code go goes line at frame state Mark.Open sort a stand K later = ap (λ place. go place (pushed (Item.Value a) frame) state.turns) (plus-none at) ∙ later a
led-law code go goes line at frame state Mark.Close sort a stand K later = ap (λ place. go place (pushed (Item.Value a) frame) state.turns) (plus-none at) ∙ later a
led-law code go goes line at frame state Mark.OpenList sort a stand K later = ap (λ place. go place (pushed (Item.Value a) frame) state.turns) (plus-none at) ∙ later a
led-law code go goes line at frame state Mark.CloseList sort a stand K later = ap (λ place. go place (pushed (Item.Value a) frame) state.turns) (plus-none at) ∙ later a
led-law code go goes line at frame state Mark.Comma sort a stand K later = ap (λ place. go place (pushed (Item.Value a) frame) state.turns) (plus-none at) ∙ later a
led-law code go goes line at frame state Mark.Colon sort a stand K later = ap (λ place. go place (pushed (Item.Value a) frame) state.turns) (plus-none at) ∙ later a
led-law code go goes line at frame state Mark.Colons sort a stand K later = ap (λ place. go place (pushed (Item.Value a) frame) state.turns) (plus-none at) ∙ later a
led-law code go goes line at frame state Mark.Equals sort a stand K later = ap (λ place. go place (pushed (Item.Value a) frame) state.turns) (plus-none at) ∙ later a
led-law code go goes line at frame state Mark.Plus sort a stand K later = ap (λ place. go place (pushed (Item.Value a) frame) state.turns) (plus-none at) ∙ later a
led-law code go goes line at frame state Mark.Times sort a stand K later = ap (λ place. go place (pushed (Item.Value a) frame) state.turns) (plus-none at) ∙ later a
led-law code go goes line at frame state Mark.Slash sort a stand K later = ap (λ place. go place (pushed (Item.Value a) frame) state.turns) (plus-none at) ∙ later a
led-law code go goes line at frame state Mark.Power sort a stand K later = ap (λ place. go place (pushed (Item.Value a) frame) state.turns) (plus-none at) ∙ later a
led-law code go goes line at frame state Mark.Eq sort a stand K later = ap (λ place. go place (pushed (Item.Value a) frame) state.turns) (plus-none at) ∙ later a
led-law code go goes line at frame state Mark.Ne sort a stand K later = ap (λ place. go place (pushed (Item.Value a) frame) state.turns) (plus-none at) ∙ later a
led-law code go goes line at frame state Mark.Lt sort a stand K later = ap (λ place. go place (pushed (Item.Value a) frame) state.turns) (plus-none at) ∙ later a
led-law code go goes line at frame state Mark.Le sort a stand K later = ap (λ place. go place (pushed (Item.Value a) frame) state.turns) (plus-none at) ∙ later a
led-law code go goes line at frame state Mark.Gt sort a stand K later = ap (λ place. go place (pushed (Item.Value a) frame) state.turns) (plus-none at) ∙ later a
led-law code go goes line at frame state Mark.Ge sort a stand K later = ap (λ place. go place (pushed (Item.Value a) frame) state.turns) (plus-none at) ∙ later a
led-law code go goes line at frame state Mark.And sort a stand K later = ap (λ place. go place (pushed (Item.Value a) frame) state.turns) (plus-none at) ∙ later a
led-law code go goes line at frame state Mark.Or sort a stand K later = ap (λ place. go place (pushed (Item.Value a) frame) state.turns) (plus-none at) ∙ later a
led-law code go goes line at frame state Mark.Eqv sort a stand K later = ap (λ place. go place (pushed (Item.Value a) frame) state.turns) (plus-none at) ∙ later a
led-law code go goes line at frame state Mark.Neqv sort a stand K later = ap (λ place. go place (pushed (Item.Value a) frame) state.turns) (plus-none at) ∙ later a
led-law code go goes line at frame state Mark.True sort a stand K later = ap (λ place. go place (pushed (Item.Value a) frame) state.turns) (plus-none at) ∙ later a
led-law code go goes line at frame state Mark.False sort a stand K later = ap (λ place. go place (pushed (Item.Value a) frame) state.turns) (plus-none at) ∙ later a
