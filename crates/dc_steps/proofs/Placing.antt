-- What is known of positions and of the groups of plans.
use Rattle.std.proofs.Common.{◌≡◌, ℕ, zero, suc, Bool, true, false, List, [], ◌∷◌, length, Some, refl, sym, ap, ◌∙◌, IsTrue}
use Rattle.std.specs.Prelude.{◌&&◌, slice_get}
use Rattle.std.specs.List.{list_all}
use Rattle.dc_int.specs.Store.{changed_at}
use Rattle.dc_code.specs.declared.plan.Group.{Group}
use Rattle.dc_code.specs.declared.plan.Plan.{Plan}
use Rattle.dc_code.specs.Codes.{is_small, has_small_groups}
use Rattle.dc_frame.proofs.Gathered.{positioned-subscripts}

and-first : (a b : Bool) → (a && b) ≡ true → a ≡ true
and-first true b e = refl
and-first false b e = e

and-second : (a b : Bool) → (a && b) ≡ true → b ≡ true
and-second true b e = e
and-second false b e = absurd (cc e)

found-passes : {A : Type 0} (p : A → Bool) (items : List A) (at : ℕ) (item : A) → list_all p items ≡ true → slice_get items at ≡ Some item → p item ≡ true
found-passes p [] at item all found = absurd (cc found)
found-passes p (first ∷ items) zero item all found = let e : first ≡ item = cc found in sym (ap p e) ∙ and-first (p first) (list_all p items) all
found-passes p (first ∷ items) (suc at) item all found = found-passes p items at item (and-second (p first) (list_all p items) all) found

-- The groups of a plan are small.
pub small_group : (plan : Plan) (at : ℕ) (group : Group) → IsTrue (has_small_groups plan) → slice_get plan.groups at ≡ Some group → IsTrue (is_small group.bounds)
small_group plan at group small found = found-passes (λ (g : Group). is_small g.bounds) plan.groups at group small found

-- A change of one item leaves as many.
pub length_changed : {A : Type 0} (change : A → A) (items : List A) (place : ℕ) → length (changed_at change items place) ≡ length items
length_changed change [] place = refl
length_changed change (item ∷ items) zero = refl
length_changed change (item ∷ items) (suc place) = ap suc (length_changed change items place)

pub ruleset placing = (positioned-subscripts, small_group)
