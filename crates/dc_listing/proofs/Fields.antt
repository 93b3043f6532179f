-- Words that are added to a text one after the other.
use Rattle.std.proofs.Common.{◌≡◌, ℕ, ◌+◌, ◌≤◌, ◌<◌, List, [], ◌∷◌, ◌++◌, flat_map, length, drop, get_or, sym, ap, ◌∙◌, append_assoc}
use Rattle.std.proofs.lemmas.Grind.{flat_map-append}
use Rattle.std.proofs.lemmas.List.{append-nil, drop_more, drop_all}
use Rattle.dc_listing.specs.Words.{Word, field, fields}

-- no words
pub no_words : (text : List ℕ) (words : List Word) → words ≡ [] → text ≡ text ++ fields words
unfolding fields
no_words text words none = sym (append-nil text) ∙ ap (λ (end : List Word). text ++ flat_map field end) (sym none)

-- a blank and a word
pub one_word : (text : List ℕ) (word : Word) → (text ++ 32 ∷ []) ++ word ≡ text ++ fields (word ∷ [])
unfolding fields
one_word text word = append_assoc text (32 ∷ []) word ∙ ap (λ (end : List ℕ). text ++ (32 ∷ end)) (sym (append-nil word))

-- words, and more of them
pub more_words : (text : List ℕ) (first others : List Word) → (text ++ fields first) ++ fields others ≡ text ++ fields (first ++ others)
unfolding fields
more_words text first others =
    append_assoc text (flat_map field first) (flat_map field others)
    ∙ ap (λ (end : List ℕ). text ++ end) (sym (flat_map-append field first others))

-- One item more, and the others behind it.
pub one_item
    : {A : Type 0} (words : A → List Word) (text added : List ℕ) (items : List A) (k : ℕ) (item : A) (whole : List ℕ) → k < length items
    → item ≡ get_or items k item → added ≡ text ++ fields (words item) → text ++ fields (flat_map words (drop k items)) ≡ whole
    → added ++ fields (flat_map words (drop (k + 1) items)) ≡ whole
one_item words text added items k item whole within here is before =
    let left : drop k items ≡ item ∷ drop (k + 1) items = drop_more items k item within ∙ ap (λ first. first ∷ drop (k + 1) items) (sym here) in
    ap (λ (front : List ℕ). front ++ fields (flat_map words (drop (k + 1) items))) is
    ∙ more_words text (words item) (flat_map words (drop (k + 1) items))
    ∙ ap (λ rest. text ++ fields (flat_map words rest)) (sym left)
    ∙ before

-- No item is left.
pub all_items
    : {A : Type 0} (words : A → List Word) (text : List ℕ) (items : List A) (k : ℕ) (whole : List ℕ) → length items ≤ k
    → text ++ fields (flat_map words (drop k items)) ≡ whole → text ≡ whole
all_items words text items k whole done before =
    no_words text (flat_map words (drop k items)) (ap (flat_map words) (drop_all k items done)) ∙ before

pub ruleset adding = (no_words, one_word, more_words)
