-- The touched elements, from the first on.
use Rattle.std.proofs.Common.{◌≡◌, ℕ, suc, ◌+◌, ◌<◌, map, length, drop, get_or, drop-cons, arith, Bool, true, false, not, cond, ◌||◌, List, [], ◌∷◌, ◌++◌, refl, sym, ap, ◌∙◌, append_assoc}
use Rattle.std.specs.Prelude.{filter}
use Rattle.std.specs.List.{list_any}
use Rattle.dc_int.specs.declared.access.ElementId.{ElementId}
use Rattle.dc_int.specs.Store.{same_element}
use Rattle.dc_int.specs.Entries.{Entry, Reads, Defines, Undefines, Contributes, without, touched_of, contributions_of}
use Rattle.dc_plain.specs.declared.note.Note.{Note}
use Rattle.dc_plain.specs.Views.{entry_of, more_seen}
use Rattle.dc_int.proofs.Stores.{same_element-is}
use Rattle.dc_plain.proofs.Sames.{same_element-back}
use Rattle.std.proofs.lemmas.List.Folds.{list_any-append}

abbrev pub is_seen : List ElementId → ElementId → Bool
is_seen seen x = list_any (same_element x) seen

-- those that aren't among the seen ones
abbrev pub fresh : List ElementId → List ElementId → List ElementId
fresh seen elements = filter (λ x. not (is_seen seen x)) elements

or-false : (b : Bool) → (b || false) ≡ b
or-false true = refl
or-false false = refl

or-true : (b : Bool) → (b || true) ≡ true
or-true true = refl
or-true false = refl

seen-more : (seen : List ElementId) (x y : ElementId) → is_seen (seen ++ x ∷ []) y ≡ (is_seen seen y || same_element y x)
seen-more seen x y = list_any-append (same_element y) seen (x ∷ []) ∙ ap (λ b. is_seen seen y || b) (or-false (same_element y x))

-- an element that is seen needn't be taken out
fresh-seen : (seen : List ElementId) (x : ElementId) (elements : List ElementId) → is_seen seen x ≡ true → fresh seen (without x elements) ≡ fresh seen elements
fresh-seen seen x [] e = refl
fresh-seen seen x (y ∷ elements) e = by (same_element x y) refl (fresh-seen seen x elements e)
  where
    by : (b : Bool) → same_element x y ≡ b → fresh seen (without x elements) ≡ fresh seen elements
        → fresh seen (cond (not b) (y ∷ without x elements) (without x elements)) ≡ cond (not (is_seen seen y)) (y ∷ fresh seen elements) (fresh seen elements)
    by true s rest =
        let seen_too : is_seen seen y ≡ true = ap (is_seen seen) (sym (same_element-is x y s)) ∙ e in
        rw seen_too rest
    by false s rest = ap (λ es. cond (not (is_seen seen y)) (y ∷ es) es) rest

-- one more seen element is taken out
fresh-more : (seen : List ElementId) (x : ElementId) (elements : List ElementId) → fresh (seen ++ x ∷ []) elements ≡ fresh seen (without x elements)
fresh-more seen x [] = refl
fresh-more seen x (y ∷ elements) = ap (λ b. cond (not b) (y ∷ fresh (seen ++ x ∷ []) elements) (fresh (seen ++ x ∷ []) elements)) (seen-more seen x y)
    ∙ by (same_element x y) refl (fresh-more seen x elements)
  where
    by : (b : Bool) → same_element x y ≡ b → fresh (seen ++ x ∷ []) elements ≡ fresh seen (without x elements)
        → cond (not (is_seen seen y || same_element y x)) (y ∷ fresh (seen ++ x ∷ []) elements) (fresh (seen ++ x ∷ []) elements)
        ≡ fresh seen (cond (not b) (y ∷ without x elements) (without x elements))
    by true s rest =
        let here : same_element y x ≡ true = same_element-back y x ∙ s in
        rw (here, or-true (is_seen seen y)) rest
    by false s rest =
        let here : same_element y x ≡ false = same_element-back y x ∙ s in
        rw (here, or-false (is_seen seen y)) (ap (λ es. cond (not (is_seen seen y)) (y ∷ es) es) rest)

-- one more element that may be touched
seen-step : (seen : List ElementId) (x : ElementId) (elements : List ElementId)
    → (let more = cond (is_seen seen x) seen (seen ++ x ∷ []) in more ++ fresh more elements) ≡ seen ++ fresh seen (x ∷ without x elements)
seen-step seen x elements = by (is_seen seen x) refl
  where
    by : (b : Bool) → is_seen seen x ≡ b
        → (cond b seen (seen ++ x ∷ []) ++ fresh (cond b seen (seen ++ x ∷ [])) elements) ≡ seen ++ cond (not b) (x ∷ fresh seen (without x elements)) (fresh seen (without x elements))
    by true e = ap (λ es. seen ++ es) (sym (fresh-seen seen x elements e))
    by false e = append_assoc seen (x ∷ []) (fresh (seen ++ x ∷ []) elements) ∙ ap (λ es. seen ++ x ∷ es) (fresh-more seen x elements)

pub touched-step : (seen : List ElementId) (entry : Entry) (entries : List Entry)
    → more_seen seen entry ++ fresh (more_seen seen entry) (touched_of entries) ≡ seen ++ fresh seen (touched_of (entry ∷ entries))
touched-step seen (Reads x line) entries = refl
touched-step seen (Defines x value line) entries = seen-step seen x (touched_of entries)
touched-step seen (Undefines x line) entries = seen-step seen x (touched_of entries)
touched-step seen (Contributes x op value) entries = refl

pub fresh-none : (elements : List ElementId) → fresh [] elements ≡ elements
fresh-none [] = refl
fresh-none (x ∷ elements) = ap (λ es. x ∷ es) (fresh-none elements)

-- ---- as the code lists

pub touched-next : (notes : List Note) (at : ℕ) (seen more : List ElementId) (none : Note) (all : List ElementId) → at < length notes → more ≡ more_seen seen (entry_of (get_or notes at none))
    → seen ++ fresh seen (touched_of (map entry_of (drop at notes))) ≡ all → more ++ fresh more (touched_of (map entry_of (drop (at + 1) notes))) ≡ all
touched-next notes at seen more none all below is so_far =
    let next : suc at ≡ at + 1 = omega arith in
    let rest = map entry_of (drop (at + 1) notes) in
    let split : map entry_of (drop at notes) ≡ entry_of (get_or notes at none) ∷ rest =
    ap (map entry_of) (drop-cons notes at none below ∙ ap (λ k. get_or notes at none ∷ drop k notes) next) in
    ap (λ es. es ++ fresh es (touched_of rest)) is ∙ touched-step seen (entry_of (get_or notes at none)) rest ∙ ap (λ es. seen ++ fresh seen (touched_of es)) (sym split) ∙ so_far

pub no-contributions : (notes : List Note) → contributions_of (map entry_of notes) ≡ []
no-contributions [] = refl
no-contributions (Note.Read x line ∷ notes) = no-contributions notes
no-contributions (Note.Defined x value line ∷ notes) = no-contributions notes
