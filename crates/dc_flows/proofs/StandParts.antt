-- Each instruction of a part stands where it does, in a code that is well formed.
use Rattle.std.proofs.Common.{◌≡◌, inl, inr, ◌≤◌, ◌<◌, ℕ, zero, suc, ◌+◌, ◌-◌, Bool, true, false, List, [], ◌∷◌, ◌++◌, length, Option, Some, None, refl, sym, ap, ◌∙◌, subst, arith}
use Rattle.std.specs.Prelude.{not, is_none, option_map, slice_get}
use Rattle.std.proofs.lemmas.Bool.{false≢true}
use Rattle.std.proofs.lemmas.List.{length-append}
use Rattle.std.proofs.lemmas.Option.{none-some, same_Some, slice_get_within}
use Rattle.dc_int.specs.declared.operation.ReduceOp.{ReduceOp}
use Rattle.dc_code.specs.declared.instr.Instr.{Instr}
use Rattle.dc_code.specs.declared.instr.What.{What}
use Rattle.dc_code.specs.declared.plan.Plan.{Plan}
use Rattle.dc_code.specs.Codes.{CodeLists}
use Rattle.dc_code.specs.StackSorts.{Sorts, sorts_after}
use Rattle.dc_code.specs.WellFormed.{PartOf, Part, end_of, is_load_result, changes, contributes, ends_part, may_change, may_stand, MayContribute, left_at_end, Stands}
use Rattle.dc_actions.proofs.Facts.{both-true}
use Rattle.dc_actions.proofs.Straight.{Ground, Runs}
use Rattle.dc_flows.proofs.StandFlows.{can_flow, Flows, runs-flow, runs-jumpless, no-result}
use Rattle.dc_flows.proofs.StandJoints.{Joint, Jumps, JumpWell, first-or-later}
use Rattle.dc_flows.proofs.StandTrails.{trail, IsInside, inside-held, end-held, joint-held}

-- ---- parts

-- A part: its kind, its plan, and its instructions before End.
pub record Segment : Type 0 where
  pub kind : PartOf
  pub plan : Plan
  pub whats : List What

abbrev pub code_of : Segment → List What
code_of segment = segment.whats ++ What.End ∷ []

abbrev pub part_at : ℕ → Segment → Part
part_at at segment = record { kind = segment.kind; start = at; plan = segment.plan }

abbrev pub ground_of : CodeLists → Segment → Ground
ground_of code segment = record { code = code; kind = segment.kind; plan = segment.plan }

abbrev pub nowhere : ℕ → Type 0
nowhere place = ⊥

-- From a place on the instructions of a part leave what the part leaves, and jump inside it.
pub record IsJoined (code : CodeLists) (segment : Segment) (start : ℕ) : Type 0 where
  pub ends : may_stand segment.kind What.End ≡ true
  pub flows : Flows (ground_of code segment) [] segment.whats (left_at_end segment.kind)
  pub jumps : JumpWell (ground_of code segment) nowhere start segment.whats

-- Instructions that run straight through are such.
pub straight-joined : (code : CodeLists) (segment : Segment) (start : ℕ) → may_stand segment.kind What.End ≡ true
    → Runs (ground_of code segment) [] segment.whats (left_at_end segment.kind) → IsJoined code segment start
straight-joined code segment start ends runs = record {
  ends = ends;
  flows = runs-flow (ground_of code segment) [] (left_at_end segment.kind) segment.whats runs;
  jumps = λ i what target e f. absurd (none-some target (sym (runs-jumpless (ground_of code segment) [] (left_at_end segment.kind) segment.whats runs i what e) ∙ f));
}

-- The sorts of a stack before the instructions of a part.
abbrev pub held_in : CodeLists → Segment → List Sorts
held_in code segment = trail code segment.plan [] segment.whats

-- A part stands in a code from a place on, to its end, and the sorts are what it has before each instruction.
pub record IsPlaced (code : CodeLists) (sorts : ℕ → Sorts) (segment : Segment) (start : ℕ) : Type 0 where
  pub end : end_of code start ≡ start + length (code_of segment)
  pub there : (i : ℕ) (instr : Instr) → i < length (code_of segment) → slice_get code.instructions (start + i) ≡ Some instr → slice_get (code_of segment) i ≡ Some instr.what
  pub held : (i : ℕ) (before : Sorts) → slice_get (held_in code segment) i ≡ Some before → sorts (start + i) ≡ before

-- ---- its instructions

-- What can stand before the end of a part.
quiet : (kind : PartOf) (what : What) → can_flow kind what ≡ true
    → (ends_part what ≡ false) × ((contributes what ≡ None) × ((may_change kind (changes what) ≡ true) × (may_stand kind what ≡ true)))
quiet kind what can =
    let a = both-true can in
    let b = both-true a.1 in
    let c = both-true b.1 in
    (not-so (ends_part what) a.0, (no-one (contributes what) b.0, (c.0, c.1)))
  where
    not-so : (b : Bool) → not b ≡ true → b ≡ false
    not-so true e = absurd (false≢true e)
    not-so false e = refl

    no-one : (found : Option (ReduceOp × ℕ)) → is_none found ≡ true → found ≡ None
    no-one None e = refl
    no-one (Some n) e = absurd (false≢true e)

module _ (code : CodeLists) (sorts : ℕ → Sorts) (segment : Segment) (start : ℕ) (joined : IsJoined code segment start) (stand : IsPlaced code sorts segment start) where
  abbrev ground : Ground
  ground = ground_of code segment

  long-code : length (code_of segment) ≡ length segment.whats + 1
  long-code = length-append segment.whats (What.End ∷ [])

  inside : (i : ℕ) (what : What) → slice_get segment.whats i ≡ Some what → IsInside ground (held_in code segment) i what
  inside i what e = inside-held ground [] (left_at_end segment.kind) segment.whats joined.flows i what e

  -- No instruction of the part pushes a result.
  none-results : (i : ℕ) (what : What) → slice_get (code_of segment) i ≡ Some what → is_load_result what ≡ false
  none-results i what e = elim (first-or-later segment.whats (What.End ∷ []) i what e) [
    | inl here ↦ no-result code segment.plan what (inside i what here).here (inside i what here).next (inside i what here).step
    | inr later ↦ by later.place later.there
  ]
    where
      by : (n : ℕ) → slice_get (What.End ∷ []) n ≡ Some what → is_load_result what ≡ false
      by zero e = subst (λ w. is_load_result w ≡ false) (same_Some What.End what e) refl
      by (suc n) e = absurd (none-some what e)

  -- A joint is a place of the part, before which there is nothing on the stack.
  joint-inside : (place : ℕ) → Joint ground segment.whats place → start + place < end_of code start
  joint-inside place joint =
      subst (λ n. start + place < n) (sym stand.end)
      (few place (length joint.before) (length joint.behind) (length segment.whats) (length (code_of segment)) joint.long (sym (length-append joint.before joint.behind) ∙ ap length joint.whole) long-code)
    where
      few : (place before behind whats all : ℕ) → before ≡ place → before + behind ≡ whats → all ≡ whats + 1 → start + place < start + all
      few place before behind whats all e f g = omega (arith, e, f, g)

  joint-sorts : (place : ℕ) → Joint ground segment.whats place → sorts (start + place) ≡ []
  joint-sorts place joint = stand.held place [] (joint-held ground segment.whats place joint)

  -- Behind a jump there is nothing on the stack.
  jump-leaves : (i : ℕ) (next : Sorts) → slice_get (held_in code segment) (suc i) ≡ Some next → Joint ground segment.whats (suc i) → next ≡ []
  jump-leaves i next later joint = same_Some next [] (sym later ∙ joint-held ground segment.whats (suc i) joint)

  -- Where a jump goes, nothing is on the stack.
  record IsLanding (target : ℕ) : Type 0 where
    pub place : ℕ
    pub there : target ≡ start + place
    pub joint : Joint ground segment.whats place

  landing : (i : ℕ) (what : What) (target : ℕ) → Jumps ground nowhere start segment.whats i what target → IsLanding target
  landing i what target jump = elim jump.lands [
    | inl outside ↦ absurd outside
    | inr here ↦ record { place = here.place; there = here.there; joint = here.joint }
  ]

  stands-inside : (i line : ℕ) (what : What) → slice_get segment.whats i ≡ Some what → (is : IsInside ground (held_in code segment) i what)
      → Stands code sorts (part_at start segment) (start + i) (record { line = line; what = what }) is.next
  stands-inside i line what e is = record {
    operands = ap (λ s. sorts_after code segment.plan last what s) (stand.held i is.here is.now) ∙ is.step last;
    place = ((facts.1).1).1;
    changed = ((facts.1).1).0;
    contributed = subst (λ c. MayContribute code segment.kind c) (sym (facts.1).0) tt;
    next = λ goes. (within, ap sorts (one-on start i) ∙ stand.held (suc i) is.next is.later);
    jump = λ target f.
        let jump = joined.jumps i what target e f in
        let lands = landing i what target jump in (
          jump.direction,
          (
            subst (λ t. start ≤ t) (sym lands.there) (omega arith),
            (
              subst (λ t. t < end_of code start) (sym lands.there) (joint-inside lands.place lands.joint),
              ap sorts lands.there ∙ joint-sorts lands.place lands.joint ∙ sym (jump-leaves i is.next is.later jump.behind),
            ),
          ),
        );
    no_result = λ target found f there.
        let lands = landing i what target (joined.jumps i what target e f) in
        none-results lands.place found.what (stand.there lands.place found (within-code lands.place lands.joint) (ap (slice_get code.instructions) (sym lands.there) ∙ there));
    end = λ f. absurd (false≢true (sym facts.0 ∙ f));
  }
    where
      last : Option What
      last = option_map (λ (before : Instr). before.what) (slice_get code.instructions (start + i - 1))

      facts : (ends_part what ≡ false) × ((contributes what ≡ None) × ((may_change segment.kind (changes what) ≡ true) × (may_stand segment.kind what ≡ true)))
      facts = quiet segment.kind what is.can

      one-on : (a b : ℕ) → suc (a + b) ≡ a + suc b
      one-on a b = omega arith

      within-code : (place : ℕ) → Joint ground segment.whats place → place < length (code_of segment)
      within-code place joint = few (length (code_of segment)) (subst (λ n. start + place < n) stand.end (joint-inside place joint))
        where
          few : (all : ℕ) → start + place < start + all → place < all
          few all less = omega (arith, less)

      within : suc (start + i) < end_of code start
      within = subst (λ n. suc (start + i) < n) (sym stand.end) (omega (arith, slice_get_within segment.whats i what e, long-code))

  stands-last : (line : ℕ) → Stands code sorts (part_at start segment) (start + length segment.whats) (record { line = line; what = What.End }) (left_at_end segment.kind)
  stands-last line = record {
    operands = ap (λ (s : Sorts). Some s) (stand.held (length segment.whats) (left_at_end segment.kind) (end-held ground [] (left_at_end segment.kind) segment.whats joined.flows));
    place = joined.ends;
    changed = refl;
    contributed = tt;
    next = λ goes. absurd (false≢true goes);
    jump = λ target e. absurd (none-some target e);
    no_result = λ target found e there. absurd (none-some target e);
    end = λ e. refl;
  }

  -- Each instruction of the part stands where it does.
  pub part-stands : (i : ℕ) (instr : Instr) → i < length (code_of segment) → slice_get code.instructions (start + i) ≡ Some instr
      → (after : Sorts) × Stands code sorts (part_at start segment) (start + i) instr after
  part-stands i instr within e = elim (first-or-later segment.whats (What.End ∷ []) i instr.what (stand.there i instr within e)) [
    | inl here ↦ ((inside i instr.what here).next, stands-inside i instr.line instr.what here (inside i instr.what here))
    | inr later ↦ (left_at_end segment.kind, by later.place later.behind later.there)
  ]
    where
      none-on : (n i : ℕ) → i ≡ n + 0 → n ≡ i
      none-on n i e = omega (arith, e)

      by : (n : ℕ) → i ≡ length segment.whats + n → slice_get (What.End ∷ []) n ≡ Some instr.what → Stands code sorts (part_at start segment) (start + i) instr (left_at_end segment.kind)
      by zero e there =
          subst (λ what. Stands code sorts (part_at start segment) (start + i) (record { line = instr.line; what = what }) (left_at_end segment.kind)) (same_Some What.End instr.what there)
          (subst (λ n. Stands code sorts (part_at start segment) (start + n) (record { line = instr.line; what = What.End }) (left_at_end segment.kind)) (none-on (length segment.whats) i e)
          (stands-last instr.line))
      by (suc n) e there = absurd (none-some instr.what there)
