-- Places among instructions where nothing is on the stack, and jumps that go to such places.
use Rattle.std.proofs.Common.{◌≡◌, ◌⊎◌, inl, inr, ℕ, zero, suc, ◌+◌, true, List, [], ◌∷◌, ◌++◌, length, Some, refl, sym, ap, ◌∙◌, subst, arith, append_assoc}
use Rattle.std.proofs.lemmas.List.{length-append}
use Rattle.std.proofs.lemmas.Option.{none-some}
use Rattle.std.specs.Prelude.{slice_get}
use Rattle.dc_code.specs.declared.instr.What.{What}
use Rattle.dc_code.specs.WellFormed.{target_of, is_in_direction}
use Rattle.dc_actions.proofs.Straight.{Ground, Runs}
use Rattle.dc_flows.proofs.StandFlows.{Flows, flows-both, runs-flow, runs-jumpless}

-- ---- joints

-- Behind so many of these instructions nothing is on the stack.
pub record Joint (ground : Ground) (whats : List What) (place : ℕ) : Type 0 where
  pub before : List What
  pub behind : List What
  pub whole : before ++ behind ≡ whats
  pub long : length before ≡ place
  pub flows : Flows ground [] before []

pub joint-start : (ground : Ground) (whats : List What) → Joint ground whats 0
joint-start ground whats = record { before = []; behind = whats; whole = refl; long = refl; flows = refl }

pub joint-end : (ground : Ground) (whats : List What) → Flows ground [] whats [] → Joint ground whats (length whats)
joint-end ground whats flows = record { before = whats; behind = []; whole = none-behind whats; long = refl; flows = flows }
  where
    none-behind : (items : List What) → items ++ [] ≡ items
    none-behind [] = refl
    none-behind (item ∷ items) = ap (λ rest. item ∷ rest) (none-behind items)

pub joint-left : (ground : Ground) (first second : List What) (place : ℕ) → Joint ground first place → Joint ground (first ++ second) place
joint-left ground first second place joint = record {
  before = joint.before;
  behind = joint.behind ++ second;
  whole = sym (append_assoc joint.before joint.behind second) ∙ ap (λ whats. whats ++ second) joint.whole;
  long = joint.long;
  flows = joint.flows;
}

pub joint-right : (ground : Ground) (first second : List What) (place : ℕ) → Flows ground [] first [] → Joint ground second place → Joint ground (first ++ second) (length first + place)
joint-right ground first second place flows joint = record {
  before = first ++ joint.before;
  behind = joint.behind;
  whole = append_assoc first joint.before joint.behind ∙ ap (λ whats. first ++ whats) joint.whole;
  long = length-append first joint.before ∙ ap (λ n. length first + n) joint.long;
  flows = flows-both ground [] [] [] first joint.before flows joint.flows;
}

pub joint-at : {ground : Ground} {whats : List What} (place other : ℕ) → place ≡ other → Joint ground whats place → Joint ground whats other
joint-at {ground} {whats} place other e joint = subst (λ n. Joint ground whats n) e joint

-- ---- jumps

-- Where instructions from a place on may jump to: to a place outside, or to a joint among them.
pub record JointAt (ground : Ground) (at : ℕ) (whats : List What) (target : ℕ) : Type 0 where
  pub place : ℕ
  pub there : target ≡ at + place
  pub joint : Joint ground whats place

abbrev pub Lands : Ground → (ℕ → Type 0) → ℕ → List What → ℕ → Type 0
Lands ground out at whats target = out target ⊎ JointAt ground at whats target

-- A jump goes in its direction, leaves nothing on the stack, and lands.
pub record Jumps (ground : Ground) (out : ℕ → Type 0) (at : ℕ) (whats : List What) (i : ℕ) (what : What) (target : ℕ) : Type 0 where
  pub direction : is_in_direction what (at + i) target ≡ true
  pub behind : Joint ground whats (suc i)
  pub lands : Lands ground out at whats target

abbrev pub JumpWell : Ground → (ℕ → Type 0) → ℕ → List What → Type 0
JumpWell ground out at whats =
    (i : ℕ) (what : What) (target : ℕ) → slice_get whats i ≡ Some what → target_of what ≡ Some target → Jumps ground out at whats i what target

-- Instructions from a place on leave the stack as they found it, which is empty, and jump well.
pub record AreJoined (ground : Ground) (out : ℕ → Type 0) (at : ℕ) (whats : List What) : Type 0 where
  pub flows : Flows ground [] whats []
  pub jumps : JumpWell ground out at whats

-- ---- other places outside

pub lands-within : (ground : Ground) (more out : ℕ → Type 0) (at : ℕ) (whats : List What) → ((target : ℕ) → more target → Lands ground out at whats target)
    → (target : ℕ) → Lands ground more at whats target → Lands ground out at whats target
lands-within ground more out at whats inward target lands = elim lands [
  | inl outside ↦ inward target outside
  | inr inside ↦ inr inside
]

-- Places outside that are joints among the instructions are none.
pub joined-within : (ground : Ground) (more out : ℕ → Type 0) (at : ℕ) (whats : List What) → ((target : ℕ) → more target → Lands ground out at whats target)
    → AreJoined ground more at whats → AreJoined ground out at whats
joined-within ground more out at whats inward joined = record {
  flows = joined.flows;
  jumps = λ i what target e f.
      let jump = joined.jumps i what target e f in
      record { direction = jump.direction; behind = jump.behind; lands = lands-within ground more out at whats inward target jump.lands };
}

pub joined-out : (ground : Ground) (out more : ℕ → Type 0) (at : ℕ) (whats : List What) → ((target : ℕ) → out target → more target) → AreJoined ground out at whats → AreJoined ground more at whats
joined-out ground out more at whats outward joined = joined-within ground out more at whats (λ target outside. inl (outward target outside)) joined

-- ---- instructions without jumps, and none

pub joined-runs : (ground : Ground) (out : ℕ → Type 0) (at : ℕ) (whats : List What) → Runs ground [] whats [] → AreJoined ground out at whats
joined-runs ground out at whats runs = record {
  flows = runs-flow ground [] [] whats runs;
  jumps = λ i what target e f. absurd (none-some target (sym (runs-jumpless ground [] [] whats runs i what e) ∙ f));
}

-- ---- one piece behind another

-- An item of the first list, or of the second.
pub record IsLater (first second : List What) (i : ℕ) (what : What) : Type 0 where
  pub place : ℕ
  pub behind : i ≡ length first + place
  pub there : slice_get second place ≡ Some what

pub first-or-later : (first second : List What) (i : ℕ) (what : What) → slice_get (first ++ second) i ≡ Some what
    → (slice_get first i ≡ Some what) ⊎ IsLater first second i what
first-or-later [] second i what e = inr (record { place = i; behind = omega arith; there = e })
first-or-later (x ∷ first) second zero what e = inl e
first-or-later (x ∷ first) second (suc i) what e = elim (first-or-later first second i what e) [
  | inl here ↦ inl here
  | inr later ↦ inr (record { place = later.place; behind = one-on (length first) later.place i later.behind; there = later.there })
]
  where
    one-on : (n place i : ℕ) → i ≡ n + place → suc i ≡ suc n + place
    one-on n place i e = omega (arith, e)

lands-left : (ground : Ground) (out : ℕ → Type 0) (at : ℕ) (first second : List What) (target : ℕ) → Lands ground out at first target → Lands ground out at (first ++ second) target
lands-left ground out at first second target lands = elim lands [
  | inl outside ↦ inl outside
  | inr inside ↦ inr (record { place = inside.place; there = inside.there; joint = joint-left ground first second inside.place inside.joint })
]

lands-right : (ground : Ground) (out : ℕ → Type 0) (at mid : ℕ) (first second : List What) (target : ℕ) → mid ≡ at + length first → Flows ground [] first []
    → Lands ground out mid second target → Lands ground out at (first ++ second) target
lands-right ground out at mid first second target begins flows lands = elim lands [
  | inl outside ↦ inl outside
  | inr inside ↦ inr (record {
    place = length first + inside.place;
    there = inside.there ∙ ap (λ n. n + inside.place) begins ∙ further at (length first) inside.place;
    joint = joint-right ground first second inside.place flows inside.joint;
  })
]
  where
    further : (a b c : ℕ) → a + b + c ≡ a + (b + c)
    further a b c = omega arith

jumps-left : (ground : Ground) (out : ℕ → Type 0) (at : ℕ) (first second : List What) (i : ℕ) (what : What) (target : ℕ)
    → Jumps ground out at first i what target → Jumps ground out at (first ++ second) i what target
jumps-left ground out at first second i what target jump = record {
  direction = jump.direction;
  behind = joint-left ground first second (suc i) jump.behind;
  lands = lands-left ground out at first second target jump.lands;
}

jumps-right : (ground : Ground) (out : ℕ → Type 0) (at mid : ℕ) (first second : List What) (i place : ℕ) (what : What) (target : ℕ) → mid ≡ at + length first → i ≡ length first + place
    → Flows ground [] first [] → Jumps ground out mid second place what target → Jumps ground out at (first ++ second) i what target
jumps-right ground out at mid first second i place what target begins is flows jump = record {
  direction = ap (λ n. is_in_direction what n target) (there at mid (length first) i place begins is) ∙ jump.direction;
  behind = joint-at (length first + suc place) (suc i) (one-on (length first) i place is) (joint-right ground first second (suc place) flows jump.behind);
  lands = lands-right ground out at mid first second target begins flows jump.lands;
}
  where
    there : (at mid n i place : ℕ) → mid ≡ at + n → i ≡ n + place → at + i ≡ mid + place
    there at mid n i place e f = omega (arith, e, f)

    one-on : (n i place : ℕ) → i ≡ n + place → n + suc place ≡ suc i
    one-on n i place e = omega (arith, e)

pub joined-both : (ground : Ground) (out : ℕ → Type 0) (at mid : ℕ) (first second : List What) → mid ≡ at + length first → AreJoined ground out at first → AreJoined ground out mid second
    → AreJoined ground out at (first ++ second)
joined-both ground out at mid first second begins one other = record {
  flows = flows-both ground [] [] [] first second one.flows other.flows;
  jumps = λ i what target e f. elim (first-or-later first second i what e) [
    | inl here ↦ jumps-left ground out at first second i what target (one.jumps i what target here f)
    | inr later ↦ jumps-right ground out at mid first second i later.place what target begins later.behind one.flows (other.jumps later.place what target later.there f)
  ];
}
