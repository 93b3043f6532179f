-- What was gathered from the items so far.
use Rattle.std.proofs.Common.{◌≡◌, ℕ, ◌⊎◌, List, [], ◌∷◌, ◌++◌, Option, None, Some, Result, Ok, Err, sym, ap, subst, ◌∙◌, inl, inr, append_assoc, append-nil}
use Rattle.dc_tree.specs.declared.fail.Fail.{Fail}
use Rattle.dc_tree.specs.declared.fail.Refusal.{Refusal}
use Rattle.dc_tree.specs.Findings.{IsFirst, IsUnbroken, least_with}
use Rattle.dc_phases.specs.Gathering.{with_answer, told}
use Rattle.dc_phases.specs.Lists.{Each, some_breaks, AnswersOne, AnswersEach}
use Rattle.dc_phases.specs.declared.gathering.Gathered.{Gathered}
use Rattle.dc_phases.proofs.First.{Joins, first-left, first-right, first-lesser, unbroken-joined}

-- ---- one item more

some-left : {A : Type 0} (breaks : A → ℕ → ℕ → Type 0) (list : List A) (x : A) (rule line : ℕ) → some_breaks breaks list rule line → some_breaks breaks (list ++ x ∷ []) rule line
some-left breaks [] x rule line broken = absurd broken
some-left breaks (first ∷ list) x rule line broken = elim broken [ inl here ↦ inl here | inr there ↦ inr (some-left breaks list x rule line there) ]

some-right : {A : Type 0} (breaks : A → ℕ → ℕ → Type 0) (list : List A) (x : A) (rule line : ℕ) → breaks x rule line → some_breaks breaks (list ++ x ∷ []) rule line
some-right breaks [] x rule line broken = inl broken
some-right breaks (first ∷ list) x rule line broken = inr (some-right breaks list x rule line broken)

some-cases : {A : Type 0} (breaks : A → ℕ → ℕ → Type 0) (list : List A) (x : A) (rule line : ℕ) → some_breaks breaks (list ++ x ∷ []) rule line → some_breaks breaks list rule line ⊎ breaks x rule line
some-cases breaks [] x rule line broken = elim broken [ inl here ↦ inr here | inr there ↦ absurd there ]
some-cases breaks (first ∷ list) x rule line broken =
    elim broken [
      | inl here ↦ inl (inl here)
      | inr there ↦ elim (some-cases breaks list x rule line there) [ inl before ↦ inl (inr before) | inr last ↦ inr last ]
    ]

joins : {A : Type 0} (breaks : A → ℕ → ℕ → Type 0) (list : List A) (x : A) → Joins (some_breaks breaks list) (breaks x) (some_breaks breaks (list ++ x ∷ []))
joins breaks list x = record { left = some-left breaks list x; right = some-right breaks list x; cases = some-cases breaks list x }

each-push : {A B : Type 0} (Gives : A → B → Type 0) (list : List A) (made : List B) (x : A) (y : B) → Each Gives list made → Gives x y → Each Gives (list ++ x ∷ []) (made ++ y ∷ [])
each-push Gives [] [] x y each is = (is, tt)
each-push Gives [] (other ∷ made) x y each is = absurd each
each-push Gives (first ∷ list) [] x y each is = absurd each
each-push Gives (first ∷ list) (other ∷ made) x y each is = (each.0, each-push Gives list made x y each.1 is)

-- ---- so far

-- What these items gave, where none of them breaks a rule, and else the first rule that one breaks.
abbrev pub StandsAt : {A B : Type 0} → (A → ℕ → ℕ → Type 0) → (A → B → Type 0) → List A → List B → Option Refusal → Type 0
StandsAt breaks Gives list made None = Each Gives list made × IsUnbroken (some_breaks breaks list)
StandsAt breaks Gives list made (Some refusal) = IsFirst (some_breaks breaks list) refusal

stands-ok : {A B : Type 0} (breaks : A → ℕ → ℕ → Type 0) (Gives : A → B → Type 0) (list : List A) (made : List B) (first : Option Refusal) (x : A) (y : B) → StandsAt breaks Gives list made first → Gives x y → IsUnbroken (breaks x)
    → StandsAt breaks Gives (list ++ x ∷ []) (made ++ y ∷ []) first
stands-ok breaks Gives list made None x y stands is none =
    (each-push Gives list made x y stands.0 is, unbroken-joined (some_breaks breaks list) (breaks x) (some_breaks breaks (list ++ x ∷ [])) (joins breaks list x) stands.1 none)
stands-ok breaks Gives list made (Some refusal) x y stands is none =
    first-left (some_breaks breaks list) (breaks x) (some_breaks breaks (list ++ x ∷ [])) refusal (joins breaks list x) stands none

stands-refused : {A B : Type 0} (breaks : A → ℕ → ℕ → Type 0) (Gives : A → B → Type 0) (list : List A) (made : List B) (first : Option Refusal) (x : A) (refusal : Refusal) → StandsAt breaks Gives list made first → IsFirst (breaks x) refusal
    → StandsAt breaks Gives (list ++ x ∷ []) made (least_with first refusal)
stands-refused breaks Gives list made None x refusal stands is =
    first-right (some_breaks breaks list) (breaks x) (some_breaks breaks (list ++ x ∷ [])) refusal (joins breaks list x) stands.1 is
stands-refused breaks Gives list made (Some least) x refusal stands is =
    first-lesser (some_breaks breaks list) (breaks x) (some_breaks breaks (list ++ x ∷ [])) least refusal (joins breaks list x) stands is

abbrev pub Stands : {A B : Type 0} → (A → ℕ → ℕ → Type 0) → (A → B → Type 0) → List A → Gathered B → Type 0
Stands breaks Gives list so_far = StandsAt breaks Gives list so_far.items so_far.first

pub stands-more : {A B : Type 0} (breaks : A → ℕ → ℕ → Type 0) (Gives : A → B → Type 0) (list : List A) (so_far next : Gathered B) (x : A) (answer : Result B Fail) → Stands breaks Gives list so_far → AnswersOne breaks Gives x answer
    → with_answer so_far answer ≡ Some next → Stands breaks Gives (list ++ x ∷ []) next
stands-more {B = B} breaks Gives list so_far next x (Ok y) stands is same =
    let next_is : record { items = so_far.items ++ y ∷ []; first = so_far.first } ≡ next = cc in
    subst (λ (g : Gathered B). Stands breaks Gives (list ++ x ∷ []) g) next_is (stands-ok breaks Gives list so_far.items so_far.first x y stands is.0 is.1)
stands-more {B = B} breaks Gives list so_far next x (Err (Fail.Refused refusal)) stands is same =
    let next_is : record { items = so_far.items; first = least_with so_far.first refusal } ≡ next = cc in
    subst (λ (g : Gathered B). Stands breaks Gives (list ++ x ∷ []) g) next_is (stands-refused breaks Gives list so_far.items so_far.first x refusal stands is)
stands-more breaks Gives list so_far next x (Err Fail.NoMemory) stands is same = absurd (none-some same)
  where
    none-some : {X : Type 0} {x : X} → None ≡ Some x → ⊥
    none-some is = cc

pub stands-told : {A B : Type 0} (breaks : A → ℕ → ℕ → Type 0) (Gives : A → B → Type 0) (list : List A) (made : List B) (first : Option Refusal) → StandsAt breaks Gives list made first → AnswersEach breaks Gives list (told made first)
stands-told breaks Gives list made None stands = stands
stands-told breaks Gives list made (Some refusal) stands = stands

-- ---- with what is left of a list

-- The items in front of those that are left were asked.
pub record Progress {A B : Type 0} (breaks : A → ℕ → ℕ → Type 0) (Gives : A → B → Type 0) (list left : List A) (so_far : Gathered B) : Type 0 where
  pub done : List A
  pub whole : done ++ left ≡ list
  pub stands : Stands breaks Gives done so_far

pub none-done : {A B : Type 0} (breaks : A → ℕ → ℕ → Type 0) (Gives : A → B → Type 0) (list left : List A) (so_far : Gathered B) → left ≡ list → so_far ≡ record { items = []; first = None } → Progress breaks Gives list left so_far
none-done {B = B} breaks Gives list left so_far same none =
    record { done = []; whole = same; stands = subst (λ (g : Gathered B). Stands breaks Gives [] g) (sym none) (tt, λ rule line broken. broken) }

pub one-more : {A B : Type 0} (breaks : A → ℕ → ℕ → Type 0) (Gives : A → B → Type 0) (list left more : List A) (so_far next : Gathered B) (x : A) (answer : Result B Fail) → Progress breaks Gives list left so_far → left ≡ x ∷ more
    → AnswersOne breaks Gives x answer → with_answer so_far answer ≡ Some next → Progress breaks Gives list more next
one-more breaks Gives list left more so_far next x answer progress taken is same = record {
  done = progress.done ++ x ∷ [];
  whole = append_assoc progress.done (x ∷ []) more ∙ ap (λ (rest : List _). progress.done ++ rest) (sym taken) ∙ progress.whole;
  stands = stands-more breaks Gives progress.done so_far next x answer progress.stands is same;
}

pub all-done : {A B : Type 0} (breaks : A → ℕ → ℕ → Type 0) (Gives : A → B → Type 0) (list left : List A) (so_far : Gathered B) (result : Result (List B) Fail) → Progress breaks Gives list left so_far → left ≡ [] → result ≡ told so_far.items so_far.first
    → AnswersEach breaks Gives list result
all-done {A = A} {B = B} breaks Gives list left so_far result progress none is =
    let whole : progress.done ≡ list = sym (append-nil progress.done) ∙ ap (λ (rest : List A). progress.done ++ rest) (sym none) ∙ progress.whole in
    subst (λ (r : Result (List B) Fail). AnswersEach breaks Gives list r) (sym is)
    (subst (λ (l : List A). AnswersEach breaks Gives l (told so_far.items so_far.first)) whole (stands-told breaks Gives progress.done so_far.items so_far.first progress.stands))
