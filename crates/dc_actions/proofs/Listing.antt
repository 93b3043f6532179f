-- The instructions of a list, value by value and element by element.
use Rattle.std.proofs.Common.{◌≡◌, ℕ, suc, ◌+◌, ◌-◌, ◌*◌, ◌<◌, ◌≤◌, List, [], ◌∷◌, ◌++◌, map, refl, sym, ap, ◌∙◌, arith}
use Rattle.std.specs.Prelude.{ℤ, pos, ◌+ℤ◌, ◌/◌, ◌%◌}
use Rattle.std.proofs.lemmas.Nat.{div_below}
use Rattle.std.proofs.Math.Nat.{mul-le-mul_left}
use Rattle.dc_int.specs.declared.kind.Kind.{Kind}
use Rattle.dc_int.specs.Sorts.{Sort}
use Rattle.dc_int.specs.Store.{Bounds, extent, elements_in}
use Rattle.dc_entities.proofs.Places.{factors}
use Rattle.dc_code.specs.declared.instr.What.{What}
use Rattle.dc_tree.specs.Entities.{Scope}
use Rattle.dc_tree.specs.Syntax.{Tree}
use Rattle.dc_tree.specs.Typing.{sort_of}
use Rattle.dc_actions.specs.Assigning.{conversion_code, slot_code, keeping_code, element_code, handing_code}
use Rattle.dc_actions.specs.Expressions.{value_code}
use Rattle.dc_actions.specs.Subscripts.{subscripts_at}
use Rattle.dc_actions.proofs.Making.{grown}

-- One value more is kept.
pub keeping-next : (scope : Scope) (sort : Sort) (group before : ℕ) (one : Tree) (rest : List Tree) (w a b d e whole : List What)
    → a ≡ w ++ value_code scope one → b ≡ a ++ conversion_code (sort_of scope one) sort → d ≡ b ++ slot_code group before → e ≡ d ++ What.StoreSlot group ∷ []
    → w ++ keeping_code scope sort group before (one ∷ rest) ≡ whole → e ++ keeping_code scope sort group (before + 1) rest ≡ whole
keeping-next scope sort group before one rest w a b d e whole first second third last so =
    let next : suc before ≡ before + 1 = omega arith in
    let more = keeping_code scope sort group (suc before) rest in
    let stored = What.StoreSlot group ∷ more in
    let placed = slot_code group before ++ stored in
    let wrapped = conversion_code (sort_of scope one) sort ++ placed in
    ap (λ n. e ++ keeping_code scope sort group n rest) (sym next)
    ∙ grown d (What.StoreSlot group ∷ []) e stored more whole refl last
    (grown b (slot_code group before) d placed stored whole refl third
    (grown a (conversion_code (sort_of scope one) sort) b wrapped placed whole refl second (grown w (value_code scope one) a (value_code scope one ++ wrapped) wrapped whole refl first so)))

-- One element more is defined.
pub handing-next : (variable : ℕ) (bounds : Bounds) (group before count : ℕ) (w a b d e whole : List What) → before < count
    → a ≡ w ++ slot_code group before → b ≡ a ++ What.LoadSlot group ∷ [] → d ≡ b ++ element_code variable bounds before → e ≡ d ++ What.Store variable ∷ []
    → w ++ handing_code variable bounds group before (count - before) ≡ whole → e ++ handing_code variable bounds group (before + 1) (count - (before + 1)) ≡ whole
handing-next variable bounds group before count w a b d e whole below first second third last so =
    let next : suc before ≡ before + 1 = omega arith in
    let left : count - before ≡ suc (count - (before + 1)) = omega arith in
    let more = handing_code variable bounds group (suc before) (count - (before + 1)) in
    let stored = What.Store variable ∷ more in
    let placed = element_code variable bounds before ++ stored in
    let loaded = What.LoadSlot group ∷ placed in
    let here : w ++ (slot_code group before ++ loaded) ≡ whole = ap (λ n. w ++ handing_code variable bounds group before n) (sym left) ∙ so in
    ap (λ n. e ++ handing_code variable bounds group n (count - (before + 1))) (sym next)
    ∙ grown d (What.Store variable ∷ []) e stored more whole refl last
    (grown b (element_code variable bounds before) d placed stored whole refl third
    (grown a (What.LoadSlot group ∷ []) b loaded placed whole refl second (grown w (slot_code group before) a (slot_code group before ++ loaded) loaded whole refl first here)))

-- ---- the subscripts of a position

abbrev pub constants : List ℤ → List What
constants zs = map (λ z. What.Const Kind.K8 z) zs

-- A position is within the later dimensions, as they have some elements.
pub record Later (dimension : ℤ × ℤ) (bounds : Bounds) (position : ℕ) : Type 0 where
  pub some : 1 ≤ extent dimension
  pub size : extent dimension ≤ 4194304
  pub few : elements_in bounds ≤ 4194304
  pub within : position / extent dimension < elements_in bounds

bounded : (m n position : ℕ) → 1 ≤ m → 1 ≤ n → position < m * n → m * n ≤ 4194304 → (m ≤ 4194304) × ((n ≤ 4194304) × (position / m < n))
bounded m n position some others below least =
    let first : m * 1 ≤ m * n = mul-le-mul_left m others in
    let second : n * 1 ≤ n * m = mul-le-mul_left n some in
    let turned : n * m ≡ m * n = omega arith in
    (omega (arith, first, least), (omega (arith, second, turned, least), div_below position m n some (rw turned below)))

pub later-is : (dimension : ℤ × ℤ) (bounds : Bounds) (position : ℕ) → position < elements_in (dimension ∷ bounds) → elements_in (dimension ∷ bounds) ≤ 4194304 → Later dimension bounds position
later-is dimension bounds position within few =
    let some : 1 ≤ extent dimension * elements_in bounds = omega (arith, within) in
    let both = factors (extent dimension) (elements_in bounds) some in
    let all = bounded (extent dimension) (elements_in bounds) position both.0 both.1 within few in
    record { some = both.0; size = all.0; few = all.1.0; within = all.1.1 }

-- One subscript more.
pub subscripts-next : (dimension : ℤ × ℤ) (bounds : Bounds) (position after : ℕ) (w e whole : List What) → after ≡ position / extent dimension
    → e ≡ w ++ What.Const Kind.K8 (dimension.0 +ℤ pos (position % extent dimension)) ∷ [] → w ++ constants (subscripts_at (dimension ∷ bounds) position) ≡ whole
    → e ++ constants (subscripts_at bounds after) ≡ whole
subscripts-next (low, high) bounds position after w e whole is last so =
    let one = What.Const Kind.K8 (low +ℤ pos (position % extent (low, high))) in
    let more = constants (subscripts_at bounds (position / extent (low, high))) in
    ap (λ n. e ++ constants (subscripts_at bounds n)) is ∙ grown w (one ∷ []) e (one ∷ more) more whole refl last so
