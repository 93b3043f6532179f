-- Operands and arguments that the rules let pass are of the sorts that the instructions take.
use Rattle.std.proofs.Common.{◌≡◌, ℕ, Bool, true, false, not, ◌&&◌, ◌||◌, cond, List, [], ◌∷◌, length, map, Option, Some, None, refl, sym, ◌∙◌, arith}
use Rattle.std.proofs.lemmas.Bool.{and_parts, and_from, false≢true, eqb-true, le-leb}
use Rattle.std.specs.Prelude.{nat_eq, nat_le, bytes_eq}
use Rattle.std.specs.List.{list_all}
use Rattle.dc_int.specs.declared.operation.Op.{Op}
use Rattle.dc_int.specs.Kinds.{bits_of}
use Rattle.dc_int.specs.Operations.{takes_place}
use Rattle.dc_int.specs.Sorts.{Sort, whole, logical}
use Rattle.dc_code.specs.Instructions as instructions
use Rattle.dc_tree.specs.declared.token.Mark.{Mark}
use Rattle.dc_tree.specs.Intrinsics.{Intrinsic, operation, chosen, merge, intrinsic, named_in, or_named, operation_names, other_names}
use Rattle.dc_tree.specs.Statements.{Name}
use Rattle.dc_sorts.specs.Forms.{form_of_sort}
use Rattle.dc_operands.specs.Arguments.{is_whole, same_form, is_of_one, counts_places, takes_pair, takes_forms}
use Rattle.dc_operands.specs.Arguments as arguments
use Rattle.dc_operands.specs.Operands.{takes_one, takes_two}
use Rattle.dc_actions.specs.Expressions.{is_number, chooses, has_one_or_two}
use Rattle.dc_actions.specs.Typed.{is_logical, is_no_wider, is_same, leads, joins, operates_on, chooses_among, merges}

-- ---- sorts

pub number-form : (sort : Sort) → is_whole (form_of_sort sort) ≡ is_number sort
number-form (whole its_kind) = refl
number-form logical = refl

pub truth-form : (sort : Sort) → arguments.is_logical (form_of_sort sort) ≡ is_logical sort
truth-form (whole its_kind) = refl
truth-form logical = refl

same-sort : (a b : Sort) → same_form (form_of_sort a) (form_of_sort b) ≡ is_same a b
same-sort (whole a) (whole b) = refl
same-sort (whole a) logical = refl
same-sort logical (whole b) = refl
same-sort logical logical = refl

le-from-eq : (a b : ℕ) → nat_eq a b ≡ true → nat_le b a ≡ true
le-from-eq a b h = let e : a ≡ b = eqb-true a b h in le-leb b a (omega arith)

no-wider : (a b : Sort) → is_number a ≡ true → is_same a b ≡ true → is_no_wider a b ≡ true
no-wider (whole a) (whole b) n h = le-from-eq (bits_of a) (bits_of b) h
no-wider (whole a) logical n h = absurd (false≢true h)
no-wider logical b n h = absurd (false≢true n)

-- ---- operators

pub leads-so : (mark : Mark) (sort : Sort) → takes_one mark (form_of_sort sort) ≡ leads mark sort
leads-so Mark.Open sort = number-form sort
leads-so Mark.Close sort = number-form sort
leads-so Mark.OpenList sort = number-form sort
leads-so Mark.CloseList sort = number-form sort
leads-so Mark.Comma sort = number-form sort
leads-so Mark.Colon sort = number-form sort
leads-so Mark.Colons sort = number-form sort
leads-so Mark.Equals sort = number-form sort
leads-so Mark.Plus sort = number-form sort
leads-so Mark.Minus sort = number-form sort
leads-so Mark.Times sort = number-form sort
leads-so Mark.Slash sort = number-form sort
leads-so Mark.Power sort = number-form sort
leads-so Mark.Eq sort = number-form sort
leads-so Mark.Ne sort = number-form sort
leads-so Mark.Lt sort = number-form sort
leads-so Mark.Le sort = number-form sort
leads-so Mark.Gt sort = number-form sort
leads-so Mark.Ge sort = number-form sort
leads-so Mark.Not sort = truth-form sort
leads-so Mark.And sort = number-form sort
leads-so Mark.Or sort = number-form sort
leads-so Mark.Eqv sort = number-form sort
leads-so Mark.Neqv sort = number-form sort
leads-so Mark.True sort = number-form sort
leads-so Mark.False sort = number-form sort

both-truths : (a b : Sort) → (arguments.is_logical (form_of_sort a) && arguments.is_logical (form_of_sort b)) ≡ (is_logical a && is_logical b)
both-truths (whole a) b = refl
both-truths logical b = truth-form b

both-numbers : (a b : Sort) → (is_whole (form_of_sort a) && is_whole (form_of_sort b)) ≡ (is_number a && is_number b)
both-numbers (whole a) b = number-form b
both-numbers logical b = refl

pub joins-so : (mark : Mark) (a b : Sort) → takes_two mark (form_of_sort a) (form_of_sort b) ≡ joins mark a b
joins-so Mark.Open a b = refl
joins-so Mark.Close a b = refl
joins-so Mark.OpenList a b = refl
joins-so Mark.CloseList a b = refl
joins-so Mark.Comma a b = refl
joins-so Mark.Colon a b = refl
joins-so Mark.Colons a b = refl
joins-so Mark.Equals a b = refl
joins-so Mark.Plus a b = both-numbers a b
joins-so Mark.Minus a b = both-numbers a b
joins-so Mark.Times a b = both-numbers a b
joins-so Mark.Slash a b = both-numbers a b
joins-so Mark.Power a b = both-numbers a b
joins-so Mark.Eq a b = both-numbers a b
joins-so Mark.Ne a b = both-numbers a b
joins-so Mark.Lt a b = both-numbers a b
joins-so Mark.Le a b = both-numbers a b
joins-so Mark.Gt a b = both-numbers a b
joins-so Mark.Ge a b = both-numbers a b
joins-so Mark.Not a b = refl
joins-so Mark.And a b = both-truths a b
joins-so Mark.Or a b = both-truths a b
joins-so Mark.Eqv a b = both-truths a b
joins-so Mark.Neqv a b = both-truths a b
joins-so Mark.True a b = refl
joins-so Mark.False a b = refl

-- ---- the functions of the language that have names

abbrev pub is_named_function : Intrinsic → Bool
is_named_function (operation Op.Neg) = false
is_named_function (chosen op) = chooses op
is_named_function function = true

abbrev pub is_named_option : Option Intrinsic → Bool
is_named_option None = true
is_named_option (Some function) = is_named_function function

first-named : (b : Bool) (function : Intrinsic) (others : Option Intrinsic) → is_named_function function ≡ true → is_named_option others ≡ true
    → is_named_option (cond b (Some function) others) ≡ true
first-named true function others one rest = one
first-named false function others one rest = rest

named-there : (table : List (Name × Intrinsic)) → list_all (λ (entry : Name × Intrinsic). is_named_function entry.1) table ≡ true → (text : Name) → is_named_option (named_in table text) ≡ true
named-there [] each text = refl
named-there ((first, function) ∷ rest) each text =
    let parts = and_parts (is_named_function function) (list_all (λ (entry : Name × Intrinsic). is_named_function entry.1) rest) each in
    first-named (bytes_eq first text) function (named_in rest text) parts.0 (named-there rest parts.1 text)

either-named : (a b : Option Intrinsic) → is_named_option a ≡ true → is_named_option b ≡ true → is_named_option (or_named a b) ≡ true
either-named None b one other = other
either-named (Some function) b one other = one

pub named-function : (text : Name) → is_named_option (intrinsic text) ≡ true
named-function text =
    either-named (named_in operation_names text) (named_in other_names text) (named-there operation_names refl text) (named-there other_names refl text)

-- ---- operations

of-one : (op : Op) → is_named_function (operation op) ≡ true → instructions.takes_one op ≡ is_of_one op
of-one Op.Add named = refl
of-one Op.Sub named = refl
of-one Op.Mul named = refl
of-one Op.Neg named = absurd (false≢true named)
of-one Op.Abs named = refl
of-one Op.Div named = refl
of-one Op.Mod named = refl
of-one Op.Modulo named = refl
of-one Op.Pow named = refl
of-one Op.Min named = refl
of-one Op.Max named = refl
of-one Op.Sign named = refl
of-one Op.Dim named = refl
of-one Op.Iand named = refl
of-one Op.Ior named = refl
of-one Op.Ieor named = refl
of-one Op.Not named = refl
of-one Op.Ishft named = refl
of-one Op.Shiftl named = refl
of-one Op.Shiftr named = refl
of-one Op.Shifta named = refl
of-one Op.Ibset named = refl
of-one Op.Ibclr named = refl
of-one Op.Popcnt named = refl

of-places : (op : Op) → counts_places op ≡ takes_place op
of-places Op.Add = refl
of-places Op.Sub = refl
of-places Op.Mul = refl
of-places Op.Neg = refl
of-places Op.Abs = refl
of-places Op.Div = refl
of-places Op.Mod = refl
of-places Op.Modulo = refl
of-places Op.Pow = refl
of-places Op.Min = refl
of-places Op.Max = refl
of-places Op.Sign = refl
of-places Op.Dim = refl
of-places Op.Iand = refl
of-places Op.Ior = refl
of-places Op.Ieor = refl
of-places Op.Not = refl
of-places Op.Ishft = refl
of-places Op.Shiftl = refl
of-places Op.Shiftr = refl
of-places Op.Shifta = refl
of-places Op.Ibset = refl
of-places Op.Ibclr = refl
of-places Op.Popcnt = refl

one-argument : (b c : Bool) → c ≡ b → b ≡ true → nat_eq 1 (cond c 1 2) ≡ true
one-argument true true same one = refl
one-argument true false same one = absurd (false≢true same)
one-argument false c same one = absurd (false≢true one)

two-arguments : (b c : Bool) → c ≡ b → not b ≡ true → nat_eq 2 (cond c 1 2) ≡ true
two-arguments false false same two = refl
two-arguments false true same two = absurd (false≢true (sym same))
two-arguments true c same two = absurd (false≢true two)

-- As many arguments as it has, of the sorts that it takes.
abbrev pub OperatesSo : Op → List Sort → Type 0
OperatesSo op sorts = (has_one_or_two op (length sorts) ≡ true) × (operates_on op sorts ≡ true)

places-or-same : (p q same narrow : Bool) → p ≡ q → (same ≡ true → narrow ≡ true) → (p || same) ≡ true → (q || narrow) ≡ true
places-or-same true true same narrow e so h = refl
places-or-same false false same narrow e so h = so h
places-or-same true false same narrow e so h = absurd (false≢true (sym e))
places-or-same false true same narrow e so h = refl

pair-taken : (op : Op) (a b : Sort) → is_named_function (operation op) ≡ true → takes_pair op (form_of_sort a) (form_of_sort b) ≡ true → OperatesSo op (a ∷ b ∷ [])
pair-taken op a b named h =
    let one = and_parts (not (is_of_one op)) (is_whole (form_of_sort a) && (is_whole (form_of_sort b) && (counts_places op || same_form (form_of_sort a) (form_of_sort b)))) h in
    let two = and_parts (is_whole (form_of_sort a)) (is_whole (form_of_sort b) && (counts_places op || same_form (form_of_sort a) (form_of_sort b))) one.1 in
    let three = and_parts (is_whole (form_of_sort b)) (counts_places op || same_form (form_of_sort a) (form_of_sort b)) two.1 in
    let first : is_number a ≡ true = sym (number-form a) ∙ two.0 in (
      two-arguments (is_of_one op) (instructions.takes_one op) (of-one op named) one.0,
      and_from (is_number a) (is_number b && (takes_place op || is_no_wider a b)) first
          (and_from (is_number b) (takes_place op || is_no_wider a b) (sym (number-form b) ∙ three.0)
          (places-or-same (counts_places op) (takes_place op) (same_form (form_of_sort a) (form_of_sort b)) (is_no_wider a b) (of-places op)
          (λ same. no-wider a b first (sym (same-sort a b) ∙ same)) three.1)),
    )

pub operation-taken : (op : Op) (sorts : List Sort) → is_named_function (operation op) ≡ true → takes_forms (operation op) (map form_of_sort sorts) ≡ true → OperatesSo op sorts
operation-taken op [] named h = absurd (false≢true h)
operation-taken op (a ∷ []) named h =
    let parts = and_parts (is_of_one op) (is_whole (form_of_sort a)) h in
    (one-argument (is_of_one op) (instructions.takes_one op) (of-one op named) parts.0, sym (number-form a) ∙ parts.1)
operation-taken op (a ∷ b ∷ []) named h = pair-taken op a b named h
operation-taken op (a ∷ b ∷ c ∷ rest) named h = absurd (false≢true h)

-- ---- other functions

all-narrow : (a : Sort) (sorts : List Sort) → is_number a ≡ true → list_all (same_form (form_of_sort a)) (map form_of_sort sorts) ≡ true → list_all (is_no_wider a) sorts ≡ true
all-narrow a [] n h = refl
all-narrow a (b ∷ rest) n h =
    let parts = and_parts (same_form (form_of_sort a) (form_of_sort b)) (list_all (same_form (form_of_sort a)) (map form_of_sort rest)) h in
    and_from (is_no_wider a b) (list_all (is_no_wider a) rest) (no-wider a b n (sym (same-sort a b) ∙ parts.0)) (all-narrow a rest n parts.1)

pub chosen-taken : (op : Op) (sorts : List Sort) → takes_forms (chosen op) (map form_of_sort sorts) ≡ true → chooses_among sorts ≡ true
chosen-taken op [] h = absurd (false≢true h)
chosen-taken op (a ∷ []) h = absurd (false≢true h)
chosen-taken op (a ∷ b ∷ rest) h =
    let parts = and_parts (is_whole (form_of_sort a)) (list_all (same_form (form_of_sort a)) (map form_of_sort (a ∷ b ∷ rest))) h in
    let first : is_number a ≡ true = sym (number-form a) ∙ parts.0 in
    let others = and_parts (same_form (form_of_sort a) (form_of_sort a)) (list_all (same_form (form_of_sort a)) (map form_of_sort (b ∷ rest))) parts.1 in
    and_from (is_number a) (list_all (is_no_wider a) (b ∷ rest)) first (all-narrow a (b ∷ rest) first others.1)

pub merge-taken : (sorts : List Sort) → takes_forms merge (map form_of_sort sorts) ≡ true → (nat_eq (length sorts) 3 ≡ true) × (merges sorts ≡ true)
merge-taken [] h = absurd (false≢true h)
merge-taken (a ∷ []) h = absurd (false≢true h)
merge-taken (a ∷ b ∷ []) h = absurd (false≢true h)
merge-taken (a ∷ b ∷ mask ∷ []) h =
    let parts = and_parts (same_form (form_of_sort a) (form_of_sort b)) (arguments.is_logical (form_of_sort mask)) h in
    (refl, and_from (is_same a b) (is_logical mask) (sym (same-sort a b) ∙ parts.0) (sym (truth-form mask) ∙ parts.1))
merge-taken (a ∷ b ∷ mask ∷ more ∷ rest) h = absurd (false≢true h)
