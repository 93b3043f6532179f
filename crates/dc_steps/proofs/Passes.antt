-- Items that are taken off one after another, the last first, and given to dummies.
use Rattle.std.proofs.Common.{◌≡◌, ◌≢◌, ◌≤◌, ℕ, zero, suc, ◌+◌, List, [], ◌∷◌, ◌++◌, length, drop, append_assoc, append-nil, Some, None, refl, sym, ap, ◌∙◌, subst, arith}
use Rattle.std.specs.Prelude.{min, Err}
use Rattle.dc_code.specs.declared.frame.Item.{Item}
use Rattle.dc_code.specs.declared.frame.Passed.{Passed}
use Rattle.dc_code.specs.declared.plan.DummyPlan.{DummyPlan}
use Rattle.dc_code.specs.declared.plan.Passing.{Passing}
use Rattle.dc_code.specs.Codes.{CodeLists}
use Rattle.dc_code.specs.Computation.{give, sequence, ◌>>=◌}
use Rattle.dc_code.specs.Frames.{Frame}
use Rattle.dc_code.specs.Instructions.{passed_as, passed_to, all_forgotten_out}
use Rattle.dc_code.specs.Operands.{stuck, item_off, items_off}
use Rattle.dc_code.specs.Troubles.{Computing}
use Rattle.dc_code.proofs.Sequences.{sequence-then}
use Rattle.dc_frame.specs.Taking.{taken}
use Rattle.dc_steps.specs.declared.halt.Halt.{Halt}
use Rattle.dc_steps.specs.Halting.{Gives}
use Rattle.dc_steps.proofs.Behind.{sequence-give, gives_alike}

-- ---- items

abbrev before_later : List Item → List Item × Frame → Computing (List Item × Frame)
before_later later (items, rest) = give (items ++ later, rest)

-- After the later items were taken off, as many are left.
abbrev pub ItemsLeft : ℕ → Frame → ℕ → Frame → List Item → Type 0
ItemsLeft count first left frame later = (line : ℕ) → items_off line count first ≡ sequence (items_off line left frame) (before_later later)

pub items_first : (count : ℕ) (frame : Frame) → ItemsLeft count frame count frame []
items_first count frame line =
    sym ((λ i. sequence (items_off line count frame) (λ w. give (append-nil w.0 i, w.1))) ∙ sequence-give (items_off line count frame))

module _ (count : ℕ) (first frame : Frame) (k : ℕ) (later : List Item) (before : ItemsLeft count first (suc k) frame later) where
  abbrev after_last : ℕ → Item × Frame → Computing (List Item × Frame)
  after_last line (last, left) = items_off line k left >>= (λ (items, rest). give (items ++ last ∷ [], rest))

  -- Where an item is missing.
  pub items_missing : (left : Frame) → ((line : ℕ) → item_off line frame ≡ taken line None left) → (line : ℕ) → items_off line count first ≡ stuck line
  items_missing left missing line =
      before line ∙ ap (λ c. sequence (sequence c (after_last line)) (before_later later)) (missing line)

  -- One item more.
  pub items_more : (left : Frame) (item : Item) → ((line : ℕ) → item_off line frame ≡ taken line (Some item) left) → ItemsLeft count first k left (item ∷ later)
  items_more left item off line =
      before line
      ∙ (ap (λ c. sequence (sequence c (after_last line)) (before_later later)) (off line)
      ∙ (sequence-then (items_off line k left) (λ (items, rest). give (items ++ item ∷ [], rest)) (before_later later)
      ∙ (λ i. sequence (items_off line k left) (λ w. give (append_assoc w.0 (item ∷ []) later i, w.1)))))

-- ---- dummies

-- After some were passed, these are left.
abbrev pub PassedLeft : List DummyPlan → List Item → List Passed → List DummyPlan → List Item → Type 0
PassedLeft dummies items passed more others =
    (line : ℕ) → passed_to line dummies items ≡ sequence (passed_to line more others) (λ rest. give (passed ++ rest))

pub passed_first : (dummies : List DummyPlan) (items : List Item) → PassedLeft dummies items [] dummies items
passed_first dummies items line = sym (sequence-give (passed_to line dummies items))

module _ (dummies : List DummyPlan) (items : List Item) (passed : List Passed) (dummy : DummyPlan) (more : List DummyPlan) (item : Item) (others : List Item) (before : PassedLeft dummies items passed (dummy ∷ more) (item ∷ others)) where
  abbrev behind_first : ℕ → Passed → Computing (List Passed)
  behind_first line first = passed_to line more others >>= (λ rest. give (first ∷ rest))

  pub passed_more : (given : Passed) → ((line : ℕ) → passed_as line dummy.passing item ≡ give given) → PassedLeft dummies items (passed ++ given ∷ []) more others
  passed_more given is line =
      before line
      ∙ (ap (λ c. sequence (sequence c (behind_first line)) (λ rest. give (passed ++ rest))) (is line)
      ∙ (sequence-then (passed_to line more others) (λ rest. give (given ∷ rest)) (λ rest. give (passed ++ rest))
      ∙ (λ i. sequence (passed_to line more others) (λ rest. give (sym (append_assoc passed (given ∷ []) rest) i)))))

  -- Where an item is not what its dummy takes.
  pub passed_halts : {A : Type 0} (halt : Halt) (made : A → List Passed) (line : ℕ)
      → Gives line (Err halt) (λ (given : Passed). given) (passed_as line dummy.passing item) → Gives line (Err halt) made (passed_to line dummies items)
  passed_halts halt made line halts =
      rw (before line)
      (gives_alike line halt (λ (all : List Passed). all) made (passed_to line (dummy ∷ more) (item ∷ others)) (λ rest. give (passed ++ rest))
      (gives_alike line halt (λ (given : Passed). given) (λ (all : List Passed). all) (passed_as line dummy.passing item) (behind_first line) halts))

-- An item is taken, or is stuck.
stuck-behind : {A : Type 0} (line : ℕ) (passing : Passing) (item : Item) → sequence (passed_as line passing item) (λ given. stuck {A = A} line) ≡ stuck {A = A} line
stuck-behind line Passing.Value (Item.Value z) = refl
stuck-behind line Passing.Value (Item.Position at) = refl
stuck-behind line Passing.Value (Item.Place at) = refl
stuck-behind line Passing.Place (Item.Value z) = refl
stuck-behind line Passing.Place (Item.Position at) = refl
stuck-behind line Passing.Place (Item.Place at) = refl
stuck-behind line Passing.OutPlace (Item.Value z) = refl
stuck-behind line Passing.OutPlace (Item.Position at) = refl
stuck-behind line Passing.OutPlace (Item.Place at) = refl

-- There are not as many items as dummies.
pub passed_apart : (dummies : List DummyPlan) (items : List Item) (line : ℕ) → length dummies ≢ length items → passed_to line dummies items ≡ stuck line
passed_apart [] [] line other = absurd (other refl)
passed_apart [] (item ∷ items) line other = refl
passed_apart (dummy ∷ dummies) [] line other = refl
passed_apart (dummy ∷ dummies) (item ∷ items) line other =
    ap (λ c. sequence (passed_as line dummy.passing item) (λ first. sequence c (λ rest. give (first ∷ rest)))) (passed_apart dummies items line (λ same. other (ap suc same)))
    ∙ stuck-behind line dummy.passing item

-- One more is passed, of those that are left.
pub passed_next : (dummies : List DummyPlan) (items : List Item) (passed after : List Passed) (at : ℕ) (dummy : DummyPlan) (item : Item) (given : Passed)
    → PassedLeft dummies items passed (drop at dummies) (drop at items)
    → drop at dummies ≡ dummy ∷ drop (at + 1) dummies → drop at items ≡ item ∷ drop (at + 1) items → after ≡ passed ++ given ∷ []
    → ((line : ℕ) → passed_as line dummy.passing item ≡ give given)
    → PassedLeft dummies items after (drop (at + 1) dummies) (drop (at + 1) items)
passed_next dummies items passed after at dummy item given before more others now is =
    subst (λ after. PassedLeft dummies items after (drop (at + 1) dummies) (drop (at + 1) items)) (sym now)
    (passed_more dummies items passed dummy (drop (at + 1) dummies) item (drop (at + 1) items)
    (subst (λ items-left. PassedLeft dummies items passed (dummy ∷ drop (at + 1) dummies) items-left) others
    (subst (λ dummies-left. PassedLeft dummies items passed dummies-left (drop at items)) more before)) given is)

pub passed_not : {A : Type 0} (dummies : List DummyPlan) (items : List Item) (passed : List Passed) (at : ℕ) (dummy : DummyPlan) (item : Item) (halt : Halt) (made : A → List Passed) (line : ℕ)
    → PassedLeft dummies items passed (drop at dummies) (drop at items)
    → drop at dummies ≡ dummy ∷ drop (at + 1) dummies → drop at items ≡ item ∷ drop (at + 1) items
    → Gives line (Err halt) (λ (given : Passed). given) (passed_as line dummy.passing item) → Gives line (Err halt) made (passed_to line dummies items)
passed_not dummies items passed at dummy item halt made line before more others halts =
    passed_halts dummies items passed dummy (drop (at + 1) dummies) item (drop (at + 1) items)
    (subst (λ items-left. PassedLeft dummies items passed (dummy ∷ drop (at + 1) dummies) items-left) others
    (subst (λ dummies-left. PassedLeft dummies items passed dummies-left (drop at items)) more before)) halt made line halts

-- No place is left to be made undefined.
pub none_forgotten : (code : CodeLists) (line : ℕ) (dummies : List DummyPlan) (passed : List Passed) (at : ℕ) (frame : Frame)
    → min (length dummies) (length passed) ≤ at → all_forgotten_out code line (drop at dummies) (drop at passed) frame ≡ give frame
none_forgotten code line [] passed zero frame past = refl
none_forgotten code line (dummy ∷ dummies) [] zero frame past = refl
none_forgotten code line (dummy ∷ dummies) (first ∷ passed) zero frame past = absurd (not_within (length dummies) (length passed) past)
  where
    not_within : (m n : ℕ) → min (suc m) (suc n) ≤ 0 → ⊥
    not_within m n past = omega (arith, past)
none_forgotten code line [] passed (suc at) frame past = refl
none_forgotten code line (dummy ∷ dummies) [] (suc at) frame past = nothing (drop at dummies)
  where
    nothing : (others : List DummyPlan) → all_forgotten_out code line others [] frame ≡ give frame
    nothing [] = refl
    nothing (other ∷ others) = refl
none_forgotten code line (dummy ∷ dummies) (first ∷ passed) (suc at) frame past = none_forgotten code line dummies passed at frame (below (length dummies) (length passed) past)
  where
    below : (m n : ℕ) → min (suc m) (suc n) ≤ suc at → min m n ≤ at
    below m n past = omega (arith, past)
