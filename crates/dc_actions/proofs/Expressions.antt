-- The instructions of an expression leave its value on the stack, with its accesses and its faults.
use Rattle.std.proofs.Common.{◌≡◌, ◌<◌, ◌≤◌, ℕ, zero, suc, ◌+◌, ◌/◌, ◌%◌, lit≤, Bool, true, false, ◌&&◌, cond, List, [], ◌∷◌, ◌++◌, length, Option, Some, None, refl, sym, ap, ◌∙◌, subst, arith}
use Rattle.std.proofs.lemmas.Bool.{ltb-true, eqb-true, false≢true}
use Rattle.std.proofs.lemmas.Int.{ints, int_wrap_fits}
use Rattle.std.proofs.Math.Nat.{mod-lt}
use Rattle.std.specs.Prelude.{ℤ, pos, Ok, nat_eq, nat_lt}
use Rattle.dc_int.specs.declared.kind.Kind.{Kind}
use Rattle.dc_int.specs.declared.operation.Op.{Op}
use Rattle.dc_tree.specs.declared.token.Mark.{Mark}
use Rattle.dc_tree.specs.Intrinsics.{Intrinsic, operation, chosen, merge, converted, huge, bit_size, kind, size, lower_bound, upper_bound, total, count, any, all, intrinsic}
use Rattle.dc_tree.specs.Typing.{kind_converted, sort_of, sorts_of, first_sort, constants_of, sort_of_entity, joined}
use Rattle.dc_tree.specs.Operating.{joined_by, led_by, called, chosen_from}
use Rattle.dc_int.specs.declared.operation.ReduceOp.{ReduceOp}
use Rattle.dc_int.specs.Kinds.{InRange, bits_of, width, wrapped}
use Rattle.dc_int.specs.Operations.{applied, count_of_ones, one_bits, pattern}
use Rattle.dc_int.proofs.Wraps.{in_range_fits}
use Rattle.dc_int.specs.Reductions.{number_of_truth}
use Rattle.dc_int.specs.Sorts.{Sort, kind_of, sort_with}
use Rattle.dc_code.specs.Closing.{combined_with}
use Rattle.dc_code.specs.Computation.{give, sequence}
use Rattle.dc_code.specs.Troubles.{Computing}
use Rattle.dc_code.specs.declared.frame.Item.{Item}
use Rattle.dc_code.specs.declared.instr.What.{What}
use Rattle.dc_code.specs.Codes.{CodeLists}
use Rattle.dc_actions.specs.Expressions.{entity_code, led_code, joined_code, operation_code, gives_value, value_code, values_code, first_code, chosen_code, further_code, function_code, folding_code, referred_code, is_usable, are_usable, first_usable, takes_so, refers_so, has_one_or_two, is_whole_variable, is_number, count_of, chooses}
use Rattle.dc_code.specs.Frames.{Frame, pushed}
use Rattle.dc_code.specs.declared.instr.Folding.{Folding}
use Rattle.dc_code.specs.Instructions.{Going, folded, behind, computed, settled, takes_one}
use Rattle.dc_actions.specs.Placed.{StandAt, HaveNames}
use Rattle.dc_tree.specs.Entities.{Entity, outside, slots, dummy, constant, function, subroutine, reduction, nothing, Scope, entity}
use Rattle.dc_tree.specs.Statements.{Name}
use Rattle.dc_tree.specs.Syntax.{Tree, Args, number, chars, name, refer, paren, unary, binary, no_args, arg}
use Rattle.dc_tree.specs.Syntax as syntax
use Rattle.dc_meaning.specs.Acts.{State}
use Rattle.dc_meaning.specs.Places.{whole_values}
use Rattle.dc_meaning.specs.Values as meanings
use Rattle.dc_meaning.specs.Values.{Callee, value, values, first_value, refer_value, referred, intrinsic_value, array_named}
use Rattle.dc_code.proofs.Sequences.{sequence-then}
use Rattle.dc_actions.proofs.Going.{GoesAs}
use Rattle.dc_actions.proofs.Placing.{stand-left, stand-right, stand-rest, stepped}
use Rattle.dc_actions.proofs.Facts.{both-true, takes-two}
use Rattle.dc_actions.proofs.OperatorLaws.{all_pushed, pushed-names, Law, number-law, entity-law, plus-none, arith-law, arith-one-law, gives-law, joined-law, led-law}
use Rattle.dc_actions.proofs.Wholes.{fold-law, fold-slot-law}
use Rattle.std.proofs.lemmas.List.{length-append}

-- ---- functions of the language

one-value : (zs : List ℤ) → length zs ≡ 1 → (a : ℤ) × (zs ≡ a ∷ [])
one-value [] e = absurd (none e)
  where
    none : ◌≡◌ {A = ℕ} 0 1 → ⊥
    none e = omega (arith, e)
one-value (a ∷ []) e = (a, refl)
one-value (a ∷ b ∷ zs) e = absurd (more (length zs) e)
  where
    more : (n : ℕ) → suc (suc n) ≡ 1 → ⊥
    more n e = omega (arith, e)

fewer-by-one : {m n : ℕ} → suc m ≡ suc n → m ≡ n
fewer-by-one e = omega (arith, e)

two-values : (zs : List ℤ) → length zs ≡ 2 → (a b : ℤ) × (zs ≡ a ∷ b ∷ [])
two-values [] e = absurd (none e)
  where
    none : ◌≡◌ {A = ℕ} 0 2 → ⊥
    none e = omega (arith, e)
two-values (a ∷ zs) e = let w = one-value zs (fewer-by-one e) in (a, w.0, ap (λ rest. a ∷ rest) w.1)

three-values : (zs : List ℤ) → length zs ≡ 3 → (a b c : ℤ) × (zs ≡ a ∷ b ∷ c ∷ [])
three-values [] e = absurd (none e)
  where
    none : ◌≡◌ {A = ℕ} 0 3 → ⊥
    none e = omega (arith, e)
three-values (a ∷ zs) e = let w = two-values zs (fewer-by-one e) in (a, w.0, w.1, ap (λ rest. a ∷ rest) w.2)

-- An operation that POPCNT isn't, which is an instruction alone.
plain-law : (code : CodeLists) (go : Going) (goes : GoesAs code go) (line at : ℕ) (frame : Frame) (state : State) (op : Op) (sort : Sort) (zs : List ℤ) (arguments : ℕ)
    → has_one_or_two op arguments ≡ true → length zs ≡ arguments → StandAt code line at (What.Arith op (kind_of sort) ∷ [])
    → (K : ℤ × State → Computing (Frame × ℕ))
    → ((z : ℤ) → go (at + 1) (pushed (Item.Value z) frame) state.turns ≡ K (z, state))
    → go at (all_pushed zs frame) state.turns ≡ sequence (meanings.settled line (called (operation op) sort zs) state) K
plain-law code go goes line at frame state op sort zs arguments so long stand K later = by (takes_one op) refl
  where
    Goal : List ℤ → Type 0
    Goal given = go at (all_pushed given frame) state.turns ≡ sequence (meanings.settled line (called (operation op) sort given) state) K

    counted : (b : Bool) → takes_one op ≡ b → arguments ≡ cond b 1 2
    counted b e = eqb-true arguments (cond b 1 2) (subst (λ t. nat_eq arguments (cond t 1 2) ≡ true) e so)

    by : (b : Bool) → takes_one op ≡ b → Goal zs
    by true e = let w = one-value zs (long ∙ counted true e) in subst Goal (sym w.1) (arith-one-law code go goes line at frame state op (kind_of sort) w.0 e stand K later)
    by false e = let w = two-values zs (long ∙ counted false e) in subst Goal (sym w.2) (arith-law code go goes line at frame state op (kind_of sort) w.0 w.1 e stand K later)

few-bits : (bits n : ℕ) → one_bits bits n ≤ bits
few-bits zero n = omega arith
few-bits (suc bits) n =
    let last : n % 2 < 2 = mod-lt n (lit≤ tt) in
    let others : one_bits bits (n / 2) ≤ bits = few-bits bits (n / 2) in
    omega (arith, last, others)

few-of-kind : (its_kind : Kind) → bits_of its_kind ≤ 64
few-of-kind Kind.K1 = lit≤ tt
few-of-kind Kind.K2 = lit≤ tt
few-of-kind Kind.K4 = lit≤ tt
few-of-kind Kind.K8 = lit≤ tt

-- A number of bits is one of every kind.
small-number : (its_kind : Kind) (n : ℕ) → n ≤ 64 → wrapped its_kind (pos n) ≡ pos n
small-number its_kind n few = int_wrap_fits (width its_kind) (pos n) (in_range_fits its_kind (pos n) (within its_kind))
  where
    within : (its_kind : Kind) → InRange its_kind (pos n)
    within Kind.K1 = (omega (arith, ints, few), omega (arith, ints, few))
    within Kind.K2 = (omega (arith, ints, few), omega (arith, ints, few))
    within Kind.K4 = (omega (arith, ints, few), omega (arith, ints, few))
    within Kind.K8 = (omega (arith, ints, few), omega (arith, ints, few))

counted-bits : (its_kind : Kind) (a : ℤ) → wrapped Kind.K4 (wrapped its_kind (count_of_ones its_kind a)) ≡ wrapped its_kind (count_of_ones its_kind a)
counted-bits its_kind a =
    let n : ℕ = one_bits (bits_of its_kind) (pattern its_kind a) in
    let few : n ≤ 64 = omega (arith, few-bits (bits_of its_kind) (pattern its_kind a), few-of-kind its_kind) in
    ap (wrapped Kind.K4) (small-number its_kind n few) ∙ small-number Kind.K4 n few ∙ sym (small-number its_kind n few)

-- POPCNT, whose value has kind 4 as it is.
bits-law : (code : CodeLists) (go : Going) (goes : GoesAs code go) (line at : ℕ) (frame : Frame) (state : State) (sort : Sort) (a : ℤ)
    → StandAt code line at (operation_code Op.Popcnt (kind_of sort))
    → (K : ℤ × State → Computing (Frame × ℕ))
    → ((z : ℤ) → go (at + 2) (pushed (Item.Value z) frame) state.turns ≡ K (z, state))
    → go at (pushed (Item.Value a) frame) state.turns ≡ sequence (meanings.settled line (called (operation Op.Popcnt) sort (a ∷ [])) state) K
bits-law code go goes line at frame state sort a stand K later =
    let z : ℤ = wrapped (kind_of sort) (count_of_ones (kind_of sort) a) in
    stepped goes at (What.Arith Op.Popcnt (kind_of sort)) (What.Wrap Kind.K4 ∷ []) (pushed (Item.Value a) frame) state.turns stand refl
    ∙ stepped goes (suc at) (What.Wrap Kind.K4) [] (pushed (Item.Value z) frame) state.turns (stand-rest at (What.Arith Op.Popcnt (kind_of sort)) (What.Wrap Kind.K4 ∷ []) stand) refl
    ∙ ap (λ z. go (suc (suc at)) (pushed (Item.Value z) frame) state.turns) (counted-bits (kind_of sort) a)
    ∙ ap (λ place. go place (pushed (Item.Value z) frame) state.turns) (two-on at)
    ∙ later z
  where
    two-on : (at : ℕ) → suc (suc at) ≡ at + 2
    two-on at = omega arith

operation-law : (code : CodeLists) (go : Going) (goes : GoesAs code go) (line at : ℕ) (frame : Frame) (state : State) (op : Op) (sort : Sort) (zs : List ℤ) (arguments : ℕ)
    → has_one_or_two op arguments ≡ true → length zs ≡ arguments → StandAt code line at (operation_code op (kind_of sort))
    → (K : ℤ × State → Computing (Frame × ℕ))
    → ((z : ℤ) → go (at + length (operation_code op (kind_of sort))) (pushed (Item.Value z) frame) state.turns ≡ K (z, state))
    → go at (all_pushed zs frame) state.turns ≡ sequence (meanings.settled line (called (operation op) sort zs) state) K
operation-law code go goes line at frame state Op.Popcnt sort zs arguments so long stand K later =
    let w = one-value zs (long ∙ eqb-true arguments 1 so) in
    subst (λ given. go at (all_pushed given frame) state.turns ≡ sequence (meanings.settled line (called (operation Op.Popcnt) sort given) state) K) (sym w.1)
    (bits-law code go goes line at frame state sort w.0 stand K later)
operation-law code go goes line at frame state Op.Add sort zs arguments so long stand K later = plain-law code go goes line at frame state Op.Add sort zs arguments so long stand K later
operation-law code go goes line at frame state Op.Sub sort zs arguments so long stand K later = plain-law code go goes line at frame state Op.Sub sort zs arguments so long stand K later
operation-law code go goes line at frame state Op.Mul sort zs arguments so long stand K later = plain-law code go goes line at frame state Op.Mul sort zs arguments so long stand K later
operation-law code go goes line at frame state Op.Neg sort zs arguments so long stand K later = plain-law code go goes line at frame state Op.Neg sort zs arguments so long stand K later
operation-law code go goes line at frame state Op.Abs sort zs arguments so long stand K later = plain-law code go goes line at frame state Op.Abs sort zs arguments so long stand K later
operation-law code go goes line at frame state Op.Div sort zs arguments so long stand K later = plain-law code go goes line at frame state Op.Div sort zs arguments so long stand K later
operation-law code go goes line at frame state Op.Mod sort zs arguments so long stand K later = plain-law code go goes line at frame state Op.Mod sort zs arguments so long stand K later
operation-law code go goes line at frame state Op.Modulo sort zs arguments so long stand K later = plain-law code go goes line at frame state Op.Modulo sort zs arguments so long stand K later
operation-law code go goes line at frame state Op.Pow sort zs arguments so long stand K later = plain-law code go goes line at frame state Op.Pow sort zs arguments so long stand K later
operation-law code go goes line at frame state Op.Min sort zs arguments so long stand K later = plain-law code go goes line at frame state Op.Min sort zs arguments so long stand K later
operation-law code go goes line at frame state Op.Max sort zs arguments so long stand K later = plain-law code go goes line at frame state Op.Max sort zs arguments so long stand K later
operation-law code go goes line at frame state Op.Sign sort zs arguments so long stand K later = plain-law code go goes line at frame state Op.Sign sort zs arguments so long stand K later
operation-law code go goes line at frame state Op.Dim sort zs arguments so long stand K later = plain-law code go goes line at frame state Op.Dim sort zs arguments so long stand K later
operation-law code go goes line at frame state Op.Iand sort zs arguments so long stand K later = plain-law code go goes line at frame state Op.Iand sort zs arguments so long stand K later
operation-law code go goes line at frame state Op.Ior sort zs arguments so long stand K later = plain-law code go goes line at frame state Op.Ior sort zs arguments so long stand K later
operation-law code go goes line at frame state Op.Ieor sort zs arguments so long stand K later = plain-law code go goes line at frame state Op.Ieor sort zs arguments so long stand K later
operation-law code go goes line at frame state Op.Not sort zs arguments so long stand K later = plain-law code go goes line at frame state Op.Not sort zs arguments so long stand K later
operation-law code go goes line at frame state Op.Ishft sort zs arguments so long stand K later = plain-law code go goes line at frame state Op.Ishft sort zs arguments so long stand K later
operation-law code go goes line at frame state Op.Shiftl sort zs arguments so long stand K later = plain-law code go goes line at frame state Op.Shiftl sort zs arguments so long stand K later
operation-law code go goes line at frame state Op.Shiftr sort zs arguments so long stand K later = plain-law code go goes line at frame state Op.Shiftr sort zs arguments so long stand K later
operation-law code go goes line at frame state Op.Shifta sort zs arguments so long stand K later = plain-law code go goes line at frame state Op.Shifta sort zs arguments so long stand K later
operation-law code go goes line at frame state Op.Ibset sort zs arguments so long stand K later = plain-law code go goes line at frame state Op.Ibset sort zs arguments so long stand K later
operation-law code go goes line at frame state Op.Ibclr sort zs arguments so long stand K later = plain-law code go goes line at frame state Op.Ibclr sort zs arguments so long stand K later

merge-law : (code : CodeLists) (go : Going) (goes : GoesAs code go) (line at : ℕ) (frame : Frame) (state : State) (sort : Sort) (zs : List ℤ) → length zs ≡ 3 → StandAt code line at (What.Merge ∷ [])
    → (K : ℤ × State → Computing (Frame × ℕ))
    → ((z : ℤ) → go (at + 1) (pushed (Item.Value z) frame) state.turns ≡ K (z, state))
    → go at (all_pushed zs frame) state.turns ≡ sequence (meanings.settled line (called merge sort zs) state) K
merge-law code go goes line at frame state sort zs long stand K later =
    let w = three-values zs long in
    subst (λ given. go at (all_pushed given frame) state.turns ≡ sequence (meanings.settled line (called merge sort given) state) K) (sym w.3)
    (gives-law code go goes line at frame (all_pushed (w.0 ∷ w.1 ∷ w.2 ∷ []) frame) state What.Merge _ stand refl refl K later)

kind-is : (is_logical : Bool) (its_kind : Kind) (sort : Sort) → sort_with is_logical its_kind ≡ sort → is_number sort ≡ true → its_kind ≡ kind_of sort
kind-is true its_kind sort e n = absurd (false≢true (ap is_number e ∙ n))
kind-is false its_kind sort e n = ap kind_of e

array-sort : (scope : Scope) (args : Args) → is_whole_variable (array_named scope args) ≡ true → sort_of_entity (array_named scope args) ≡ first_sort (sorts_of scope args)
array-sort scope no_args so = absurd (false≢true so)
array-sort scope (arg keyed (name text) rest) so = refl
array-sort scope (arg keyed (number digits suffix) rest) so = absurd (false≢true so)
array-sort scope (arg keyed (syntax.truth given) rest) so = absurd (false≢true so)
array-sort scope (arg keyed (chars text) rest) so = absurd (false≢true so)
array-sort scope (arg keyed (refer text args) rest) so = absurd (false≢true so)
array-sort scope (arg keyed (paren inside) rest) so = absurd (false≢true so)
array-sort scope (arg keyed (unary mark right) rest) so = absurd (false≢true so)
array-sort scope (arg keyed (binary mark left right) rest) so = absurd (false≢true so)

-- the name of an array argument
array-text : (scope : Scope) (args : Args) → is_whole_variable (array_named scope args) ≡ true → (text : Name) × (entity scope text ≡ array_named scope args)
array-text scope no_args so = absurd (false≢true so)
array-text scope (arg keyed (name text) rest) so = (text, refl)
array-text scope (arg keyed (number digits suffix) rest) so = absurd (false≢true so)
array-text scope (arg keyed (syntax.truth given) rest) so = absurd (false≢true so)
array-text scope (arg keyed (chars text) rest) so = absurd (false≢true so)
array-text scope (arg keyed (refer text args) rest) so = absurd (false≢true so)
array-text scope (arg keyed (paren inside) rest) so = absurd (false≢true so)
array-text scope (arg keyed (unary mark right) rest) so = absurd (false≢true so)
array-text scope (arg keyed (binary mark left right) rest) so = absurd (false≢true so)

-- A folding of the array that an entity is. What it makes of values may ask for the sort.
whole-law : (code : CodeLists) (go : Going) (goes : GoesAs code go) (scope : Scope) (line at : ℕ) (frame : Frame) (state : State) (folding : Folding) (of_values : List ℤ → ℤ) (text : Name) (found : Entity)
    → entity scope text ≡ found → HaveNames code scope frame state → is_whole_variable found ≡ true
    → ((is_logical : Bool) (its_kind : Kind) (zs : List ℤ) → sort_with is_logical its_kind ≡ sort_of_entity found → folded folding its_kind zs ≡ of_values zs)
    → StandAt code line at (folding_code folding found)
    → (K : ℤ × State → Computing (Frame × ℕ))
    → ((z : ℤ) → go (at + length (folding_code folding found)) (pushed (Item.Value z) frame) state.turns ≡ K (z, state))
    → go at frame state.turns ≡ sequence (sequence (whole_values line found state) (λ w. give (of_values w.0, w.1))) K
whole-law code go goes scope line at frame state folding of_values text (outside variable sort bounds) e names so same stand K later =
    fold-law code go goes line at frame state folding of_values variable sort bounds (names.outer text variable sort bounds e) (λ is zs. same (is.shape).logical (is.shape).kind zs is.sorted) stand K later
whole-law code go goes scope line at frame state folding of_values text (slots group sort bounds) e names so same stand K later =
    fold-slot-law code go goes line at frame state folding of_values group sort bounds (names.inner text group sort bounds e) (λ is zs. same (is.planned).logical (is.planned).kind zs is.sorted) stand K later
whole-law code go goes scope line at frame state folding of_values text (constant sort z) e names so same stand K later = absurd (false≢true so)
whole-law code go goes scope line at frame state folding of_values text (dummy place sort) e names so same stand K later = absurd (false≢true so)
whole-law code go goes scope line at frame state folding of_values text (function procedure sort) e names so same stand K later = absurd (false≢true so)
whole-law code go goes scope line at frame state folding of_values text (subroutine procedure intents) e names so same stand K later = absurd (false≢true so)
whole-law code go goes scope line at frame state folding of_values text (reduction variable op sort bounds) e names so same stand K later = absurd (false≢true so)
whole-law code go goes scope line at frame state folding of_values text nothing e names so same stand K later = absurd (false≢true so)

-- What is known of arguments: that their instructions leave their values, the first alone, or the least or greatest.
record ArgumentsLaw (code : CodeLists) (go : Going) (scope : Scope) (call : Callee) (line at : ℕ) (frame : Frame) (state : State) (args : Args) : Type 0 where
  all_values
      : StandAt code line at (values_code scope args) → are_usable scope args ≡ true
      → (K : List ℤ × State → Computing (Frame × ℕ))
      → ((zs : List ℤ) → length zs ≡ count_of args → go (at + length (values_code scope args)) (all_pushed zs frame) state.turns ≡ K (zs, state))
      → go at frame state.turns ≡ sequence (values scope call line args state) K
  first : StandAt code line at (first_code scope args) → first_usable scope args ≡ true → Law go at (first_code scope args) frame state (first_value scope call line args state)
  least
      : (op : Op) (sort : Sort) → chooses op ≡ true → StandAt code line at (chosen_code scope op (kind_of sort) args) → are_usable scope args ≡ true → nat_lt 0 (count_of args) ≡ true
      → Law go at (chosen_code scope op (kind_of sort) args) frame state (sequence (values scope call line args state) (λ w. meanings.settled line (called (chosen op) sort w.0) w.1))

further-place : (at m n : ℕ) → at + m + n ≡ at + (m + n)
further-place at m n = omega arith

function-law : (code : CodeLists) (go : Going) (goes : GoesAs code go) (scope : Scope) (call : Callee) (line at : ℕ) (frame : Frame) (state : State) (args : Args) (function : Intrinsic)
    → HaveNames code scope frame state → ArgumentsLaw code go scope call line at frame state args
    → StandAt code line at (function_code scope function args (first_sort (sorts_of scope args)) (values_code scope args) (first_code scope args) (λ op its_kind. chosen_code scope op its_kind args))
    → takes_so scope function args (are_usable scope args) (first_usable scope args) ≡ true
    → Law go at (function_code scope function args (first_sort (sorts_of scope args)) (values_code scope args) (first_code scope args) (λ op its_kind. chosen_code scope op its_kind args)) frame state
    (intrinsic_value scope line function args (first_value scope call line args) (values scope call line args) state)
function-law code go goes scope call line at frame state args (operation op) names law stand so K later =
    let sort = first_sort (sorts_of scope args) in
    let last = operation_code op (kind_of sort) in
    law.all_values (stand-left (values_code scope args) last stand) (both-true so).1
    (λ w. sequence (meanings.settled line (called (operation op) sort w.0) w.1) K)
    (λ zs long. operation-law code go goes line (at + length (values_code scope args)) frame state op sort zs (count_of args) (both-true so).0 long
    (stand-right at (values_code scope args) last stand) K
    (λ z. ap (λ place. go place (pushed (Item.Value z) frame) state.turns) (further-place at (length (values_code scope args)) (length last) ∙ ap (λ n. at + n) (sym (length-append (values_code scope args) last))) ∙ later z))
    ∙ sym (sequence-then (values scope call line args state) (λ w. meanings.settled line (called (operation op) sort w.0) w.1) K)
function-law code go goes scope call line at frame state args (chosen op) names law stand so K later =
    law.least op (first_sort (sorts_of scope args)) (both-true so).0 stand (both-true (both-true so).1).1 (both-true (both-true so).1).0 K later
function-law code go goes scope call line at frame state args merge names law stand so K later =
    let sort = first_sort (sorts_of scope args) in
    law.all_values (stand-left (values_code scope args) (What.Merge ∷ []) stand) (both-true so).1
    (λ w. sequence (meanings.settled line (called merge sort w.0) w.1) K)
    (λ zs long. merge-law code go goes line (at + length (values_code scope args)) frame state sort zs (long ∙ eqb-true (count_of args) 3 (both-true so).0)
    (stand-right at (values_code scope args) (What.Merge ∷ []) stand) K
    (λ z. ap (λ place. go place (pushed (Item.Value z) frame) state.turns) (further-place at (length (values_code scope args)) 1 ∙ ap (λ n. at + n) (sym (length-append (values_code scope args) (What.Merge ∷ [])))) ∙ later z))
    ∙ sym (sequence-then (values scope call line args state) (λ w. meanings.settled line (called merge sort w.0) w.1) K)
function-law code go goes scope call line at frame state args converted names law stand so K later =
    let wrap = What.Wrap (kind_converted (constants_of scope args)) in
    law.first (stand-left (first_code scope args) (wrap ∷ []) stand) (both-true so).1
    (λ w. K (wrapped (kind_converted (constants_of scope args)) w.0, w.1))
    (λ z. gives-law code go goes line (at + length (first_code scope args)) frame (pushed (Item.Value z) frame) state wrap (wrapped (kind_converted (constants_of scope args)) z)
    (stand-right at (first_code scope args) (wrap ∷ []) stand) refl refl K
    (λ z. ap (λ place. go place (pushed (Item.Value z) frame) state.turns) (further-place at (length (first_code scope args)) 1 ∙ ap (λ n. at + n) (sym (length-append (first_code scope args) (wrap ∷ [])))) ∙ later z))
    ∙ sym (sequence-then (first_value scope call line args state) (λ w. give (wrapped (kind_converted (constants_of scope args)) w.0, w.1)) K)
function-law code go goes scope call line at frame state args huge names law stand so K later = number-law code go goes line at frame state _ _ stand K later
function-law code go goes scope call line at frame state args bit_size names law stand so K later = number-law code go goes line at frame state _ _ stand K later
function-law code go goes scope call line at frame state args kind names law stand so K later = number-law code go goes line at frame state _ _ stand K later
function-law code go goes scope call line at frame state args size names law stand so K later = number-law code go goes line at frame state _ _ stand K later
function-law code go goes scope call line at frame state args lower_bound names law stand so K later = number-law code go goes line at frame state _ _ stand K later
function-law code go goes scope call line at frame state args upper_bound names law stand so K later = number-law code go goes line at frame state _ _ stand K later
function-law code go goes scope call line at frame state args total names law stand so K later =
    let text = array-text scope args (both-true so).0 in
    whole-law code go goes scope line at frame state Folding.Sum (meanings.folded total (first_sort (sorts_of scope args))) text.0 (array_named scope args) text.1 names (both-true so).0
    (λ is_logical its_kind zs e. ap (λ k. combined_with ReduceOp.Add k (pos 0) zs) (kind-is is_logical its_kind _ e (both-true so).1 ∙ ap kind_of (array-sort scope args (both-true so).0))) stand K later
function-law code go goes scope call line at frame state args count names law stand so K later =
    let text = array-text scope args so in
    whole-law code go goes scope line at frame state Folding.Count (meanings.folded count (first_sort (sorts_of scope args))) text.0 (array_named scope args) text.1 names so (λ is_logical its_kind zs e. refl) stand K later
function-law code go goes scope call line at frame state args any names law stand so K later =
    let text = array-text scope args so in
    whole-law code go goes scope line at frame state Folding.Any (meanings.folded any (first_sort (sorts_of scope args))) text.0 (array_named scope args) text.1 names so (λ is_logical its_kind zs e. refl) stand K later
function-law code go goes scope call line at frame state args all names law stand so K later =
    let text = array-text scope args so in
    whole-law code go goes scope line at frame state Folding.All (meanings.folded all (first_sort (sorts_of scope args))) text.0 (array_named scope args) text.1 names so (λ is_logical its_kind zs e. refl) stand K later

-- ---- expressions

three-parts : (at l m n : ℕ) → at + l + m + n ≡ at + (l + (m + n))
three-parts at l m n = omega arith

-- what follows the instructions of three parts, or of two
pub behind-three : (first second third : List What) (at : ℕ) → at + length first + length second + length third ≡ at + length (first ++ (second ++ third))
behind-three first second third at =
    three-parts at (length first) (length second) (length third)
    ∙ ap (λ n. at + (length first + n)) (sym (length-append second third)) ∙ ap (λ n. at + n) (sym (length-append first (second ++ third)))

pub behind-two : (first second : List What) (at : ℕ) → at + length first + length second ≡ at + length (first ++ second)
behind-two first second at = further-place at (length first) (length second) ∙ ap (λ n. at + n) (sym (length-append first second))

joined-length : (mark : Mark) (sort : Sort) → length (joined_code mark sort) ≡ 1
joined-length mark sort = by mark
  where
    by : (mark : Mark) → length (joined_code mark sort) ≡ 1
    by Mark.Open = refl
    by Mark.Close = refl
    by Mark.OpenList = refl
    by Mark.CloseList = refl
    by Mark.Comma = refl
    by Mark.Colon = refl
    by Mark.Colons = refl
    by Mark.Equals = refl
    by Mark.Plus = refl
    by Mark.Minus = refl
    by Mark.Times = refl
    by Mark.Slash = refl
    by Mark.Power = refl
    by Mark.Eq = refl
    by Mark.Ne = refl
    by Mark.Lt = refl
    by Mark.Le = refl
    by Mark.Gt = refl
    by Mark.Ge = refl
    by Mark.Not = refl
    by Mark.And = refl
    by Mark.Or = refl
    by Mark.Eqv = refl
    by Mark.Neqv = refl
    by Mark.True = refl
    by Mark.False = refl

applied-chosen : (op : Op) (its_kind : Kind) (a b : ℤ) → chooses op ≡ true → (z : ℤ) × (applied op its_kind a b ≡ Ok z)
applied-chosen Op.Min its_kind a b so = (_, refl)
applied-chosen Op.Max its_kind a b so = (_, refl)
applied-chosen Op.Add its_kind a b so = absurd (false≢true so)
applied-chosen Op.Sub its_kind a b so = absurd (false≢true so)
applied-chosen Op.Mul its_kind a b so = absurd (false≢true so)
applied-chosen Op.Neg its_kind a b so = absurd (false≢true so)
applied-chosen Op.Abs its_kind a b so = absurd (false≢true so)
applied-chosen Op.Div its_kind a b so = absurd (false≢true so)
applied-chosen Op.Mod its_kind a b so = absurd (false≢true so)
applied-chosen Op.Modulo its_kind a b so = absurd (false≢true so)
applied-chosen Op.Pow its_kind a b so = absurd (false≢true so)
applied-chosen Op.Sign its_kind a b so = absurd (false≢true so)
applied-chosen Op.Dim its_kind a b so = absurd (false≢true so)
applied-chosen Op.Iand its_kind a b so = absurd (false≢true so)
applied-chosen Op.Ior its_kind a b so = absurd (false≢true so)
applied-chosen Op.Ieor its_kind a b so = absurd (false≢true so)
applied-chosen Op.Not its_kind a b so = absurd (false≢true so)
applied-chosen Op.Ishft its_kind a b so = absurd (false≢true so)
applied-chosen Op.Shiftl its_kind a b so = absurd (false≢true so)
applied-chosen Op.Shiftr its_kind a b so = absurd (false≢true so)
applied-chosen Op.Shifta its_kind a b so = absurd (false≢true so)
applied-chosen Op.Ibset its_kind a b so = absurd (false≢true so)
applied-chosen Op.Ibclr its_kind a b so = absurd (false≢true so)
applied-chosen Op.Popcnt its_kind a b so = absurd (false≢true so)

-- The least or greatest of a first value and further ones.
abbrev Further : CodeLists → Going → Scope → Callee → ℕ → ℕ → Frame → State → Args → Type 0
Further code go scope call line at frame state args =
    (op : Op) (sort : Sort) (a : ℤ) → chooses op ≡ true → StandAt code line at (further_code scope op (kind_of sort) args) → are_usable scope args ≡ true
    → (K : ℤ × State → Computing (Frame × ℕ))
    → ((z : ℤ) → go (at + length (further_code scope op (kind_of sort) args)) (pushed (Item.Value z) frame) state.turns ≡ K (z, state))
    → go at (pushed (Item.Value a) frame) state.turns
    ≡ sequence (sequence (values scope call line args state) (λ w. meanings.settled line (chosen_from op sort a w.0) w.1)) K

refer-declared : (code : CodeLists) (go : Going) (goes : GoesAs code go) (scope : Scope) (call : Callee) (line at : ℕ) (frame : Frame) (state : State) (text : Name) (args : Args) (found : Entity)
    → entity scope text ≡ found → HaveNames code scope frame state → StandAt code line at (values_code scope args ++ entity_code found)
    → (gives_value found (count_of args) && are_usable scope args) ≡ true → ArgumentsLaw code go scope call line at frame state args
    → Law go at (values_code scope args ++ entity_code found) frame state (sequence (values scope call line args state) (λ w. refer_value call line found w.0 w.1))
refer-declared code go goes scope call line at frame state text args found e names stand so law K later =
    law.all_values (stand-left (values_code scope args) (entity_code found) stand) (both-true so).1
    (λ w. sequence (refer_value call line found w.0 w.1) K)
    (λ zs long. entity-law code go goes scope call line (at + length (values_code scope args)) frame state text found zs e names (stand-right at (values_code scope args) (entity_code found) stand)
    (subst (λ n. gives_value found n ≡ true) (sym long) (both-true so).0) K
    (λ z. ap (λ place. go place (pushed (Item.Value z) frame) state.turns) (behind-two (values_code scope args) (entity_code found) at) ∙ later z))
    ∙ sym (sequence-then (values scope call line args state) (λ w. refer_value call line found w.0 w.1) K)

refer-law : (code : CodeLists) (go : Going) (goes : GoesAs code go) (scope : Scope) (call : Callee) (line at : ℕ) (frame : Frame) (state : State) (text : Name) (args : Args) (found : Entity) (function_of : Option Intrinsic)
    → entity scope text ≡ found → HaveNames code scope frame state
    → StandAt code line at (referred_code scope found function_of args (values_code scope args) (first_code scope args) (λ op its_kind. chosen_code scope op its_kind args))
    → refers_so scope found function_of args (are_usable scope args) (first_usable scope args) ≡ true
    → ArgumentsLaw code go scope call line at frame state args
    → Law go at (referred_code scope found function_of args (values_code scope args) (first_code scope args) (λ op its_kind. chosen_code scope op its_kind args)) frame state
    (referred scope call line found function_of args (first_value scope call line args) (values scope call line args) state)
refer-law code go goes scope call line at frame state text args nothing (Some function_of) e names stand so law K later =
    function-law code go goes scope call line at frame state args function_of names law stand so K later
refer-law code go goes scope call line at frame state text args nothing None e names stand so law K later = refer-declared code go goes scope call line at frame state text args nothing e names stand so law K later
refer-law code go goes scope call line at frame state text args (outside variable sort bounds) function_of e names stand so law K later = refer-declared code go goes scope call line at frame state text args (outside variable sort bounds) e names stand so law K later
refer-law code go goes scope call line at frame state text args (slots group sort bounds) function_of e names stand so law K later = refer-declared code go goes scope call line at frame state text args (slots group sort bounds) e names stand so law K later
refer-law code go goes scope call line at frame state text args (constant sort z) function_of e names stand so law K later = refer-declared code go goes scope call line at frame state text args (constant sort z) e names stand so law K later
refer-law code go goes scope call line at frame state text args (dummy place sort) function_of e names stand so law K later = refer-declared code go goes scope call line at frame state text args (dummy place sort) e names stand so law K later
refer-law code go goes scope call line at frame state text args (function procedure sort) function_of e names stand so law K later = refer-declared code go goes scope call line at frame state text args (function procedure sort) e names stand so law K later
refer-law code go goes scope call line at frame state text args (subroutine procedure intents) function_of e names stand so law K later = refer-declared code go goes scope call line at frame state text args (subroutine procedure intents) e names stand so law K later
refer-law code go goes scope call line at frame state text args (reduction variable op sort bounds) function_of e names stand so law K later = refer-declared code go goes scope call line at frame state text args (reduction variable op sort bounds) e names stand so law K later

one-later : (at m n : ℕ) → suc (at + m) + n ≡ at + (m + suc n)
one-later at m n = omega arith

-- one step of MIN or MAX, which meets no fault
chosen-step : (code : CodeLists) (go : Going) (goes : GoesAs code go) (scope : Scope) (call : Callee) (line at : ℕ) (frame : Frame) (state : State) (rest : Args) (op : Op) (sort : Sort) (a b : ℤ)
    → chooses op ≡ true → StandAt code line at (What.Arith op (kind_of sort) ∷ further_code scope op (kind_of sort) rest)
    → (K : ℤ × State → Computing (Frame × ℕ))
    → ((z : ℤ) → go (suc at) (pushed (Item.Value z) frame) state.turns
    ≡ sequence (sequence (values scope call line rest state) (λ v. meanings.settled line (chosen_from op sort z v.0) v.1)) K)
    → go at (pushed (Item.Value b) (pushed (Item.Value a) frame)) state.turns
    ≡ sequence (sequence (values scope call line rest state) (λ v. meanings.settled line (chosen_from op sort a (b ∷ v.0)) v.1)) K
chosen-step code go goes scope call line at frame state rest op sort a b so stand K later =
    let w = applied-chosen op (kind_of sort) a b so in
    stepped goes at (What.Arith op (kind_of sort)) (further_code scope op (kind_of sort) rest) (pushed (Item.Value b) (pushed (Item.Value a) frame)) state.turns stand refl
    ∙ ap (λ one. behind go at state.turns (computed one line op (kind_of sort) (pushed (Item.Value b) (pushed (Item.Value a) frame)))) (takes-two op so)
    ∙ ap (λ outcome. sequence (sequence (settled line outcome) (λ z. give (pushed (Item.Value z) frame))) (λ left. go (suc at) left state.turns)) w.1
    ∙ later w.0
    ∙ rw w.1 refl

mutual
  pub value-law : (code : CodeLists) (go : Going) (goes : GoesAs code go) (scope : Scope) (call : Callee) (line at : ℕ) (frame : Frame) (state : State) (tree : Tree) → HaveNames code scope frame state
      → StandAt code line at (value_code scope tree) → is_usable scope tree ≡ true → Law go at (value_code scope tree) frame state (value scope call line tree state)
  value-law code go goes scope call line at frame state (number digits suffix) names stand so K later = number-law code go goes line at frame state _ _ stand K later
  value-law code go goes scope call line at frame state (syntax.truth given) names stand so K later =
      gives-law code go goes line at frame frame state (What.Truth given) (number_of_truth given) stand refl refl K later
  value-law code go goes scope call line at frame state (chars text) names stand so K later =
      gives-law code go goes line at frame frame state (What.Truth false) (pos 0) stand refl refl K later
  value-law code go goes scope call line at frame state (name text) names stand so K later =
      entity-law code go goes scope call line at frame state text (entity scope text) [] refl names stand so K later
  value-law code go goes scope call line at frame state (refer text args) names stand so K later =
      refer-law code go goes scope call line at frame state text args (entity scope text) (intrinsic text) refl names stand so (record {
        all_values = values-law code go goes scope call line at frame state args names;
        first = first-law code go goes scope call line at frame state args names;
        least = least-law code go goes scope call line at frame state args names;
      }) K later
  value-law code go goes scope call line at frame state (paren inside) names stand so K later = value-law code go goes scope call line at frame state inside names stand so K later
  value-law code go goes scope call line at frame state (unary mark right) names stand so K later =
      value-law code go goes scope call line at frame state right names (stand-left (value_code scope right) (led_code mark (sort_of scope right)) stand) so
      (λ w. sequence (meanings.settled line (led_by mark (sort_of scope right) w.0) w.1) K)
      (λ a. led-law code go goes line (at + length (value_code scope right)) frame state mark (sort_of scope right) a
      (stand-right at (value_code scope right) (led_code mark (sort_of scope right)) stand) K
      (λ z. ap (λ place. go place (pushed (Item.Value z) frame) state.turns) (behind-two (value_code scope right) (led_code mark (sort_of scope right)) at) ∙ later z))
      ∙ sym (sequence-then (value scope call line right state) (λ w. meanings.settled line (led_by mark (sort_of scope right) w.0) w.1) K)
  value-law code go goes scope call line at frame state (binary mark left right) names stand so K later =
      let sort = joined (sort_of scope left) (sort_of scope right) in
      let first = value_code scope left in
      let second = value_code scope right in
      let third = joined_code mark sort in
      value-law code go goes scope call line at frame state left names (stand-left first (second ++ third) stand) (both-true so).0
      (λ w. sequence (sequence (value scope call line right w.1) (λ v. meanings.settled line (joined_by mark sort w.0 v.0) v.1)) K)
      (λ a. value-law code go goes scope call line (at + length first) (pushed (Item.Value a) frame) state right (pushed-names (Item.Value a) names)
      (stand-left second third (stand-right at first (second ++ third) stand)) (both-true so).1
      (λ v. sequence (meanings.settled line (joined_by mark sort a v.0) v.1) K)
      (λ b. joined-law code go goes line (at + length first + length second) frame state mark sort a b (stand-right (at + length first) second third (stand-right at first (second ++ third) stand)) K
      (λ z. ap (λ place. go place (pushed (Item.Value z) frame) state.turns) (ap (λ n. at + length first + length second + n) (sym (joined-length mark sort)) ∙ behind-three first second third at) ∙ later z))
      ∙ sym (sequence-then (value scope call line right state) (λ v. meanings.settled line (joined_by mark sort a v.0) v.1) K))
      ∙ sym (sequence-then (value scope call line left state) (λ w. sequence (value scope call line right w.1) (λ v. meanings.settled line (joined_by mark sort w.0 v.0) v.1)) K)

  pub values-law : (code : CodeLists) (go : Going) (goes : GoesAs code go) (scope : Scope) (call : Callee) (line at : ℕ) (frame : Frame) (state : State) (args : Args) → HaveNames code scope frame state
      → StandAt code line at (values_code scope args) → are_usable scope args ≡ true
      → (K : List ℤ × State → Computing (Frame × ℕ))
      → ((zs : List ℤ) → length zs ≡ count_of args → go (at + length (values_code scope args)) (all_pushed zs frame) state.turns ≡ K (zs, state))
      → go at frame state.turns ≡ sequence (values scope call line args state) K
  values-law code go goes scope call line at frame state no_args names stand so K later = ap (λ place. go place frame state.turns) (plus-none at) ∙ later [] refl
  values-law code go goes scope call line at frame state (arg keyed given rest) names stand so K later =
      value-law code go goes scope call line at frame state given names (stand-left (value_code scope given) (values_code scope rest) stand) (both-true so).0
      (λ w. sequence (sequence (values scope call line rest w.1) (λ v. give (w.0 ∷ v.0, v.1))) K)
      (λ z. values-law code go goes scope call line (at + length (value_code scope given)) (pushed (Item.Value z) frame) state rest (pushed-names (Item.Value z) names)
      (stand-right at (value_code scope given) (values_code scope rest) stand) (both-true so).1
      (λ v. K (z ∷ v.0, v.1))
      (λ zs long. ap (λ place. go place (all_pushed zs (pushed (Item.Value z) frame)) state.turns) (behind-two (value_code scope given) (values_code scope rest) at) ∙ later (z ∷ zs) (ap suc long))
      ∙ sym (sequence-then (values scope call line rest state) (λ v. give (z ∷ v.0, v.1)) K))
      ∙ sym (sequence-then (value scope call line given state) (λ w. sequence (values scope call line rest w.1) (λ v. give (w.0 ∷ v.0, v.1))) K)

  first-law : (code : CodeLists) (go : Going) (goes : GoesAs code go) (scope : Scope) (call : Callee) (line at : ℕ) (frame : Frame) (state : State) (args : Args) → HaveNames code scope frame state
      → StandAt code line at (first_code scope args) → first_usable scope args ≡ true → Law go at (first_code scope args) frame state (first_value scope call line args state)
  first-law code go goes scope call line at frame state no_args names stand so K later = number-law code go goes line at frame state _ _ stand K later
  first-law code go goes scope call line at frame state (arg keyed given rest) names stand so K later = value-law code go goes scope call line at frame state given names stand so K later

  further-law : (code : CodeLists) (go : Going) (goes : GoesAs code go) (scope : Scope) (call : Callee) (line at : ℕ) (frame : Frame) (state : State) (args : Args) → HaveNames code scope frame state
      → Further code go scope call line at frame state args
  further-law code go goes scope call line at frame state no_args names op sort a chosen_so stand so K later =
      ap (λ place. go place (pushed (Item.Value a) frame) state.turns) (plus-none at) ∙ later a
  further-law code go goes scope call line at frame state (arg keyed given rest) names op sort a chosen_so stand so K later =
      let first = value_code scope given in
      let step = What.Arith op (kind_of sort) in
      let second = further_code scope op (kind_of sort) rest in
      value-law code go goes scope call line at (pushed (Item.Value a) frame) state given (pushed-names (Item.Value a) names) (stand-left first (step ∷ second) stand) (both-true so).0
      (λ w. sequence (sequence (sequence (values scope call line rest w.1) (λ v. give (w.0 ∷ v.0, v.1))) (λ v. meanings.settled line (chosen_from op sort a v.0) v.1)) K)
      (λ b. chosen-step code go goes scope call line (at + length first) frame state rest op sort a b chosen_so (stand-right at first (step ∷ second) stand) K
      (λ z. further-law code go goes scope call line (suc (at + length first)) frame state rest names op sort z chosen_so (stand-rest (at + length first) step second (stand-right at first (step ∷ second) stand)) (both-true so).1 K
      (λ z. ap (λ place. go place (pushed (Item.Value z) frame) state.turns) (one-later at (length first) (length second) ∙ ap (λ n. at + n) (sym (length-append first (step ∷ second)))) ∙ later z))
      ∙ ap (λ c. sequence c K) (sym (sequence-then (values scope call line rest state) (λ v. give (b ∷ v.0, v.1)) (λ v. meanings.settled line (chosen_from op sort a v.0) v.1))))
      ∙ sym (sequence-then (value scope call line given state) (λ w. sequence (sequence (values scope call line rest w.1) (λ v. give (w.0 ∷ v.0, v.1))) (λ v. meanings.settled line (chosen_from op sort a v.0) v.1)) K)
      ∙ ap (λ c. sequence c K) (sym (sequence-then (value scope call line given state) (λ w. sequence (values scope call line rest w.1) (λ v. give (w.0 ∷ v.0, v.1))) (λ v. meanings.settled line (chosen_from op sort a v.0) v.1)))

  least-law : (code : CodeLists) (go : Going) (goes : GoesAs code go) (scope : Scope) (call : Callee) (line at : ℕ) (frame : Frame) (state : State) (args : Args) → HaveNames code scope frame state
      → (op : Op) (sort : Sort) → chooses op ≡ true → StandAt code line at (chosen_code scope op (kind_of sort) args) → are_usable scope args ≡ true → nat_lt 0 (count_of args) ≡ true
      → Law go at (chosen_code scope op (kind_of sort) args) frame state (sequence (values scope call line args state) (λ w. meanings.settled line (called (chosen op) sort w.0) w.1))
  least-law code go goes scope call line at frame state no_args names op sort chosen_so stand so some K later = absurd (none (ltb-true 0 0 some))
    where
      none : 0 < 0 → ⊥
      none less = omega (arith, less)
  least-law code go goes scope call line at frame state (arg keyed given rest) names op sort chosen_so stand so some K later =
      let first = value_code scope given in
      let second = further_code scope op (kind_of sort) rest in
      value-law code go goes scope call line at frame state given names (stand-left first second stand) (both-true so).0
      (λ w. sequence (sequence (sequence (values scope call line rest w.1) (λ v. give (w.0 ∷ v.0, v.1))) (λ v. meanings.settled line (called (chosen op) sort v.0) v.1)) K)
      (λ a. further-law code go goes scope call line (at + length first) frame state rest names op sort a chosen_so (stand-right at first second stand) (both-true so).1 K
      (λ z. ap (λ place. go place (pushed (Item.Value z) frame) state.turns) (behind-two first second at) ∙ later z)
      ∙ ap (λ c. sequence c K) (sym (sequence-then (values scope call line rest state) (λ v. give (a ∷ v.0, v.1)) (λ v. meanings.settled line (called (chosen op) sort v.0) v.1))))
      ∙ sym (sequence-then (value scope call line given state) (λ w. sequence (sequence (values scope call line rest w.1) (λ v. give (w.0 ∷ v.0, v.1))) (λ v. meanings.settled line (called (chosen op) sort v.0) v.1)) K)
      ∙ ap (λ c. sequence c K) (sym (sequence-then (value scope call line given state) (λ w. sequence (values scope call line rest w.1) (λ v. give (w.0 ∷ v.0, v.1))) (λ v. meanings.settled line (called (chosen op) sort v.0) v.1)))
