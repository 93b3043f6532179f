-- An iteration whose entries keep the localities of its loop, one by one.
use Rattle.std.proofs.Common.{◌≡◌, Bool, true, false, ◌||◌, List, [], ◌∷◌, All, refl, sym, subst}
use Rattle.std.proofs.lemmas.Bool.{false≢true}
use Rattle.std.proofs.lemmas.List.Elements.{All-nil, All-cons, All-head, All-tail}
use Rattle.std.specs.Prelude.{ℤ}
use Rattle.std.specs.List.{list_any}
use Rattle.dc_int.specs.declared.access.ElementId.{ElementId}
use Rattle.dc_int.specs.Entries.{Entry, Reads, Defines, Undefines, Contributes, touches}
use Rattle.dc_int.specs.Store.{Store, same_element}
use Rattle.dc_int.proofs.Stores.{same_element-is}
use Rattle.dc_code.specs.Laws.{IsCombinable, KeepsLocality, may_touch}
use Rattle.dc_code.specs.Loops.{Form, Loop, alone}

-- The element may be touched, and no LOCAL_INIT entity copies it.
pub record MayTouch (form : Form) (x : ElementId) : Type 0 where
  pub allowed : may_touch (form.localities.locality x.variable) ≡ true
  pub apart : list_any (same_element x) form.copied ≡ false

abbrev pub KeepsIt : Form → Entry → Type 0
KeepsIt form (Reads x line) = Unit
KeepsIt form (Defines x value line) = MayTouch form x
KeepsIt form (Undefines x line) = MayTouch form x
KeepsIt form (Contributes x op value) = IsCombinable form.localities (Contributes x op value)

touched-may : (form : Form) (x : ElementId) (entries : List Entry) → All (KeepsIt form) entries → touches x entries ≡ true → MayTouch form x
touched-may form x [] all touched = absurd (false≢true touched)
touched-may form x (Reads y line ∷ entries) all touched = touched-may form x entries (All-tail (KeepsIt form) (Reads y line) entries all) touched
touched-may form x (Defines y value line ∷ entries) all touched =
    by (same_element x y) refl touched (All-head (KeepsIt form) (Defines y value line) entries all)
    (touched-may form x entries (All-tail (KeepsIt form) (Defines y value line) entries all))
  where
    by
        : (b : Bool) → same_element x y ≡ b → (b || touches x entries) ≡ true → MayTouch form y → (touches x entries ≡ true → MayTouch form x)
        → MayTouch form x
    by true same e here later = subst (MayTouch form) (sym (same_element-is x y same)) here
    by false apart e here later = later e
touched-may form x (Undefines y line ∷ entries) all touched =
    by (same_element x y) refl touched (All-head (KeepsIt form) (Undefines y line) entries all)
    (touched-may form x entries (All-tail (KeepsIt form) (Undefines y line) entries all))
  where
    by
        : (b : Bool) → same_element x y ≡ b → (b || touches x entries) ≡ true → MayTouch form y → (touches x entries ≡ true → MayTouch form x)
        → MayTouch form x
    by true same e here later = subst (MayTouch form) (sym (same_element-is x y same)) here
    by false apart e here later = later e
touched-may form x (Contributes y op value ∷ entries) all touched =
    touched-may form x entries (All-tail (KeepsIt form) (Contributes y op value) entries all) touched

all-combinable : (form : Form) (entries : List Entry) → All (KeepsIt form) entries → All (IsCombinable form.localities) entries
all-combinable form [] all = All-nil (IsCombinable form.localities)
all-combinable form (entry ∷ entries) all =
    All-cons (IsCombinable form.localities) entry entries (by entry (All-head (KeepsIt form) entry entries all))
    (all-combinable form entries (All-tail (KeepsIt form) entry entries all))
  where
    by : (one : Entry) → KeepsIt form one → IsCombinable form.localities one
    by (Reads x line) keeps = tt
    by (Defines x value line) keeps = tt
    by (Undefines x line) keeps = tt
    by (Contributes x op value) keeps = keeps

-- So the iteration keeps them.
pub keeps-entries : (loop : Loop) (store : Store) (at : List ℤ) → All (KeepsIt loop.form) (alone loop store at).entries → KeepsLocality loop store at
keeps-entries loop store at all = record {
  allowed = λ x touched. (touched-may loop.form x (alone loop store at).entries all touched).allowed;
  apart = λ x touched. (touched-may loop.form x (alone loop store at).entries all touched).apart;
  contributed = all-combinable loop.form (alone loop store at).entries all;
}

-- Where each iteration there can be keeps them, these do.
pub all-keep : (P : List ℤ → Type 0) (iterations : List (List ℤ)) → ((at : List ℤ) → P at) → All P iterations
all-keep P [] each = All-nil P
all-keep P (at ∷ rest) each = All-cons P at rest (each at) (all-keep P rest each)
