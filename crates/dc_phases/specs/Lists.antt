-- Lists whose items belong together, and the rules that some item of a list breaks.
use Rattle.std.specs.Prelude.{ℕ, ◌⊎◌, List, [], ◌∷◌, Result, Ok, Err}
use Rattle.dc_tree.specs.declared.fail.Fail.{Fail}
use Rattle.dc_tree.specs.Findings.{IsFirst, IsUnbroken}

-- The items of two lists belong together, the first with the first, and so on.
abbrev pub Each : {A B : Type 0} → (A → B → Type 0) → List A → List B → Type 0
Each Belongs [] [] = Unit {0}
Each Belongs (first ∷ rest) (one ∷ more) = Belongs first one × Each Belongs rest more
Each Belongs left right = ⊥

-- Some item of the list breaks the rule on the line.
abbrev pub some_breaks : {A : Type 0} → (A → ℕ → ℕ → Type 0) → List A → ℕ → ℕ → Type 0
some_breaks breaks [] rule line = ⊥
some_breaks breaks (first ∷ rest) rule line = breaks first rule line ⊎ some_breaks breaks rest rule line

-- What is answered to one item: what it gives, where it breaks no rule, and else the first rule that it breaks. Want of memory
-- is free.
abbrev pub AnswersOne : {A B : Type 0} → (A → ℕ → ℕ → Type 0) → (A → B → Type 0) → A → Result B Fail → Type 0
AnswersOne breaks Gives item (Ok made) = Gives item made × IsUnbroken (breaks item)
AnswersOne breaks Gives item (Err (Fail.Refused refusal)) = IsFirst (breaks item) refusal
AnswersOne breaks Gives item (Err Fail.NoMemory) = Unit {0}

-- What is answered to a list: what each item gives, where none breaks a rule, and else the first rule that some item breaks.
abbrev pub AnswersEach : {A B : Type 0} → (A → ℕ → ℕ → Type 0) → (A → B → Type 0) → List A → Result (List B) Fail → Type 0
AnswersEach breaks Gives list (Ok made) = Each Gives list made × IsUnbroken (some_breaks breaks list)
AnswersEach breaks Gives list (Err (Fail.Refused refusal)) = IsFirst (some_breaks breaks list) refusal
AnswersEach breaks Gives list (Err Fail.NoMemory) = Unit {0}
