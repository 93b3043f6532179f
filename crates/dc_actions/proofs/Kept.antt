-- Frames that differ in kept slots alone, and what a slot holds that is put.
use Rattle.std.proofs.Common.{◌≡◌, ◌<◌, ◌≤◌, ℕ, zero, suc, ◌+◌, ◌-◌, List, [], ◌∷◌, length, map, Option, Some, None, refl, sym, ap, ◌∙◌, arith}
use Rattle.std.specs.List.{range_with_len}
use Rattle.std.specs.Prelude.{ℤ, slice_get, slice_set, option_and_then}
use Rattle.dc_int.specs.Sorts.{Sort}
use Rattle.dc_int.specs.Store.{Bounds, elements_in, changed_at, number_in}
use Rattle.dc_code.specs.declared.plan.Group.{Group}
use Rattle.dc_code.specs.Codes.{CodeLists, plan_numbered}
use Rattle.dc_code.specs.Frames.{Frame, UnitFrame, innermost, level, slot_of, slot_put, with_slots, with_units}
use Rattle.dc_code.specs.Reaching.{group_planned, group_slots}
use Rattle.dc_code.specs.Troubles.{Slots}
use Rattle.dc_tree.specs.Entities.{Scope, slots, entity}
use Rattle.dc_tree.specs.Statements.{Name}
use Rattle.dc_meaning.specs.Acts.{State}
use Rattle.dc_actions.specs.Placed.{HaveNames, HaveKept, IsGroup, IsLineless, Alike}

-- ---- cells

abbrev Cells : Type 0
Cells = List (Option ℤ)

abbrev cells_of : Option Cells → Cells
cells_of (Some cells) = cells
cells_of None = []

abbrev cell : Option Cells → ℕ → Option ℤ
cell found position = number_in (option_and_then (λ (cells : Cells). slice_get cells position) found)

abbrev mapped : {A : Type 0} → (A → A) → Option A → Option A
mapped f (Some a) = Some (f a)
mapped f None = None

get-nothing : {A : Type 0} (i : ℕ) → slice_get {X = A} [] i ≡ None
get-nothing zero = refl
get-nothing (suc i) = refl

length-set : (cells : Cells) (at : ℕ) (state : Option ℤ) → length (slice_set cells at state) ≡ length cells
length-set [] at state = refl
length-set (c ∷ cells) zero state = refl
length-set (c ∷ cells) (suc at) state = ap suc (length-set cells at state)

set-there : (cells : Cells) (at : ℕ) (state : Option ℤ) → at < length cells → slice_get (slice_set cells at state) at ≡ Some state
set-there [] at state within = absurd (none within)
  where
    none : at < 0 → ⊥
    none less = omega (arith, less)
set-there (c ∷ cells) zero state within = refl
set-there (c ∷ cells) (suc at) state within = set-there cells at state (omega (arith, within))

set-before : (cells : Cells) (at : ℕ) (state : Option ℤ) (i : ℕ) → i < at → slice_get (slice_set cells at state) i ≡ slice_get cells i
set-before [] at state i before = refl
set-before (c ∷ cells) zero state i before = absurd (none before)
  where
    none : i < 0 → ⊥
    none less = omega (arith, less)
set-before (c ∷ cells) (suc at) state zero before = refl
set-before (c ∷ cells) (suc at) state (suc i) before = set-before cells at state i (omega (arith, before))

-- ---- lists with a change

get-changed : {A : Type 0} (f : A → A) (items : List A) (n : ℕ) → slice_get (changed_at f items n) n ≡ mapped f (slice_get items n)
get-changed f [] n = get-nothing n ∙ sym (ap (mapped f) (get-nothing n))
get-changed f (item ∷ items) zero = refl
get-changed f (item ∷ items) (suc n) = get-changed f items n

get-before : {A : Type 0} (f : A → A) (items : List A) (n i : ℕ) → i < n → slice_get (changed_at f items n) i ≡ slice_get items i
get-before f [] n i before = refl
get-before f (item ∷ items) zero i before = absurd (none before)
  where
    none : i < 0 → ⊥
    none less = omega (arith, less)
get-before f (item ∷ items) (suc n) zero before = refl
get-before f (item ∷ items) (suc n) (suc i) before = get-before f items n i (omega (arith, before))

length-changed : {A : Type 0} (f : A → A) (items : List A) (n : ℕ) → length (changed_at f items n) ≡ length items
length-changed f [] n = refl
length-changed f (item ∷ items) zero = refl
length-changed f (item ∷ items) (suc n) = ap suc (length-changed f items n)

sizes-changed : (at : ℕ) (state : Option ℤ) (groups : Slots) (group other : ℕ)
    → length (cells_of (slice_get (changed_at (λ (cells : Cells). slice_set cells at state) groups group) other)) ≡ length (cells_of (slice_get groups other))
sizes-changed at state [] group other = refl
sizes-changed at state (cells ∷ groups) zero zero = length-set cells at state
sizes-changed at state (cells ∷ groups) zero (suc other) = refl
sizes-changed at state (cells ∷ groups) (suc group) zero = refl
sizes-changed at state (cells ∷ groups) (suc group) (suc other) = sizes-changed at state groups group other

-- ---- the slots of the innermost unit

abbrev own_cells : Frame → ℕ → Option Cells
own_cells frame group = slice_get (innermost frame).slots group

slot-cell : (frame : Frame) (group position : ℕ) → slot_of frame.units (level frame) group position ≡ cell (own_cells frame group) position
slot-cell frame group position = by (slice_get frame.units (level frame)) refl
  where
    by : (found : Option UnitFrame) → slice_get frame.units (level frame) ≡ found → slot_of frame.units (level frame) group position ≡ cell (own_cells frame group) position
    by (Some unit) e = rw e refl
    by None e = rw e (sym (ap (λ found. cell found position) (get-nothing group)))

slots-cells : (frame : Frame) (group : ℕ) → group_slots frame group ≡ cells_of (own_cells frame group)
slots-cells frame group = by (own_cells frame group) refl
  where
    by : (found : Option Cells) → own_cells frame group ≡ found → group_slots frame group ≡ cells_of (own_cells frame group)
    by (Some cells) e = rw e refl
    by None e = rw e refl

-- A group that has slots is of a unit.
pub unit-there : (frame : Frame) (group at : ℕ) → at < length (group_slots frame group) → (unit : UnitFrame) × (slice_get frame.units (level frame) ≡ Some unit)
unit-there frame group at within = by (slice_get frame.units (level frame)) refl
  where
    none : length (group_slots frame group) ≡ 0 → ⊥
    none e = omega (arith, e, within)

    by : (found : Option UnitFrame) → slice_get frame.units (level frame) ≡ found → (unit : UnitFrame) × (slice_get frame.units (level frame) ≡ Some unit)
    by (Some unit) e = (unit, e)
    by None e = absurd (none (ap length (slots-cells frame group) ∙ rw e (ap (λ found. length (cells_of found)) (get-nothing group))))

-- ---- frames that are alike

pub same-alike : (free : ℕ) (frame : Frame) → Alike free frame frame
same-alike free frame = record { stack = refl; line = refl; begun = refl; plan = refl; slots = λ group below. refl; sizes = λ group. refl }

pub alike-then : {free : ℕ} {one other third : Frame} → Alike free one other → Alike free other third → Alike free one third
alike-then first second = record {
  stack = second.stack ∙ first.stack;
  line = second.line ∙ first.line;
  begun = second.begun ∙ first.begun;
  plan = second.plan ∙ first.plan;
  slots = λ group below. second.slots group below ∙ first.slots group below;
  sizes = λ group. second.sizes group ∙ first.sizes group;
}

pub alike-planned : {free : ℕ} {one other : Frame} (code : CodeLists) → Alike free one other → (group : ℕ) → group_planned code other group ≡ group_planned code one group
alike-planned code alike group = ap (λ plan. slice_get (plan_numbered code plan).groups group) alike.plan

pub alike-slot : {free : ℕ} {one other : Frame} → Alike free one other → (group position : ℕ) → group < free
    → slot_of other.units (level other) group position ≡ slot_of one.units (level one) group position
alike-slot {one = one} {other = other} alike group position below =
    slot-cell other group position ∙ ap (λ found. cell found position) (alike.slots group below) ∙ sym (slot-cell one group position)

alike-group : {code : CodeLists} {free : ℕ} {one other : Frame} {state : State} {group : ℕ} {sort : Sort} {bounds : Bounds} → Alike free one other → group < free
    → IsGroup code one state group sort bounds → IsGroup code other state group sort bounds
alike-group {code} {free} {one} {other} {state} {group} {sort} {bounds} alike below g = record {
  planned = g.planned;
  plan = alike-planned code alike group ∙ g.plan;
  bounds = g.bounds;
  sorted = g.sorted;
  same = λ position. alike-slot alike group position below ∙ g.same position;
  all = slots-cells other group ∙ ap cells_of (alike.slots group below) ∙ sym (slots-cells one group) ∙ g.all
      ∙ (λ i. map (λ position. sym (alike-slot alike group position below) i) (range_with_len 0 (elements_in bounds)));
}

-- The names of a scope have groups before that number alone.
abbrev pub Apart : Scope → ℕ → Type 0
Apart scope free = (text : Name) (group : ℕ) (sort : Sort) (bounds : Bounds) → entity scope text ≡ slots group sort bounds → group < free

pub alike-names : {code : CodeLists} {scope : Scope} {free : ℕ} {one other : Frame} {state : State} → Alike free one other → Apart scope free
    → HaveNames code scope one state → HaveNames code scope other state
alike-names alike apart names = record {
  outer = names.outer;
  inner = λ text group sort bounds e. alike-group alike (apart text group sort bounds e) (names.inner text group sort bounds e);
  truths = names.truths;
}

pub alike-kept : {code : CodeLists} {scope : Scope} {free from : ℕ} {one other : Frame} {groups : List Group} → Alike free one other
    → HaveKept code scope one from groups → HaveKept code scope other from groups
alike-kept {code} {scope} {free} {from} alike kept = record {
  planned = λ i group e. alike-planned code alike (from + i) ∙ kept.planned i group e;
  sized = λ i group e. alike.sizes (from + i) ∙ kept.sized i group e;
  apart = kept.apart;
}

pub alike-lineless : {free : ℕ} {one other : Frame} → Alike free one other → IsLineless one → IsLineless other
alike-lineless alike start = record { empty = alike.line ∙ start.empty; begun = alike.begun ∙ start.begun }

-- ---- a slot that is put

abbrev pub put_slot : ℕ → ℕ → Option ℤ → Frame → Frame
put_slot group at state frame = with_units (slot_put (level frame) group at state frame.units) frame

abbrev unit_put : ℕ → ℕ → Option ℤ → UnitFrame → UnitFrame
unit_put group at state unit = with_slots (changed_at (λ (cells : Cells). slice_set cells at state) unit.slots group) unit

put-unit : (group at : ℕ) (state : Option ℤ) (frame : Frame)
    → slice_get (put_slot group at state frame).units (level (put_slot group at state frame)) ≡ mapped (unit_put group at state) (slice_get frame.units (level frame))
put-unit group at state frame =
    ap (λ n. slice_get (put_slot group at state frame).units (n - 1)) (length-changed (unit_put group at state) frame.units (level frame))
    ∙ get-changed (unit_put group at state) frame.units (level frame)

-- the plan and the slots of the innermost unit then
record IsPut (group at : ℕ) (state : Option ℤ) (frame : Frame) : Type 0 where
  plan : (innermost (put_slot group at state frame)).plan ≡ (innermost frame).plan
  slots : (innermost (put_slot group at state frame)).slots ≡ changed_at (λ (cells : Cells). slice_set cells at state) (innermost frame).slots group

is-put : (group at : ℕ) (state : Option ℤ) (frame : Frame) → IsPut group at state frame
is-put group at state frame = by (slice_get frame.units (level frame)) refl
  where
    by : (found : Option UnitFrame) → slice_get frame.units (level frame) ≡ found → IsPut group at state frame
    by (Some unit) e = let there = put-unit group at state frame ∙ ap (mapped (unit_put group at state)) e in record { plan = rw there (rw e refl); slots = rw there (rw e refl) }
    by None e = let there = put-unit group at state frame ∙ ap (mapped (unit_put group at state)) e in record { plan = rw there (rw e refl); slots = rw there (rw e refl) }

pub put-alike : (free group at : ℕ) (state : Option ℤ) (frame : Frame) → free ≤ group → Alike free frame (put_slot group at state frame)
put-alike free group at state frame within = record {
  stack = refl;
  line = refl;
  begun = refl;
  plan = (is-put group at state frame).plan;
  slots = λ other below. ap (λ (all : Slots). slice_get all other) (is-put group at state frame).slots ∙ get-before _ (innermost frame).slots group other (omega (arith, below, within));
  sizes = λ other. ap length (slots-cells (put_slot group at state frame) other) ∙ ap (λ (all : Slots). length (cells_of (slice_get all other))) (is-put group at state frame).slots
      ∙ sizes-changed at state (innermost frame).slots group other ∙ sym (ap length (slots-cells frame other));
}

put-cell : (group at : ℕ) (state : Option ℤ) (frame : Frame) (position : ℕ)
    → slot_of (put_slot group at state frame).units (level (put_slot group at state frame)) group position
    ≡ cell (mapped (λ (cells : Cells). slice_set cells at state) (own_cells frame group)) position
put-cell group at state frame position =
    slot-cell (put_slot group at state frame) group position
    ∙ ap (λ (all : Slots). cell (slice_get all group) position) (is-put group at state frame).slots
    ∙ ap (λ found. cell found position) (get-changed _ (innermost frame).slots group)

pub put-there : (group at : ℕ) (state : Option ℤ) (frame : Frame) → at < length (group_slots frame group)
    → slot_of (put_slot group at state frame).units (level (put_slot group at state frame)) group at ≡ state
put-there group at state frame within = put-cell group at state frame at ∙ by (own_cells frame group) (subst_length (own_cells frame group) (ap length (slots-cells frame group)) within)
  where
    subst_length : (found : Option Cells) → length (group_slots frame group) ≡ length (cells_of found) → at < length (group_slots frame group) → at < length (cells_of found)
    subst_length found e less = omega (arith, e, less)

    by : (found : Option Cells) → at < length (cells_of found) → cell (mapped (λ (cells : Cells). slice_set cells at state) found) at ≡ state
    by (Some cells) less = ap number_in (set-there cells at state less)
    by None less = absurd (none less)
      where
        none : at < 0 → ⊥
        none less = omega (arith, less)

pub put-before : (group at : ℕ) (state : Option ℤ) (frame : Frame) (position : ℕ) → position < at
    → slot_of (put_slot group at state frame).units (level (put_slot group at state frame)) group position ≡ slot_of frame.units (level frame) group position
put-before group at state frame position before = put-cell group at state frame position ∙ by (own_cells frame group) ∙ sym (slot-cell frame group position)
  where
    by : (found : Option Cells) → cell (mapped (λ (cells : Cells). slice_set cells at state) found) position ≡ cell found position
    by (Some cells) = ap number_in (set-before cells at state position before)
    by None = refl
