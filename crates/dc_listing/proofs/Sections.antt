-- Lines that are added to a text one after the other.
use Rattle.std.proofs.Common.{◌≡◌, ℕ, suc, ◌+◌, ◌≤◌, ◌<◌, List, [], ◌∷◌, ◌++◌, length, drop, get_or, sym, ap, ◌∙◌, arith, append_assoc}
use Rattle.std.proofs.lemmas.List.{append-nil, drop_more, drop_all}
use Rattle.dc_listing.specs.Words.{Word, fields, line}
use Rattle.dc_listing.specs.Listing.{section}
use Rattle.dc_listing.proofs.Fields.{more_words}

-- The first word, others in two parts, and the line feed make a line.
pub line_made
    : (text first begun half full ended : List ℕ) (front back : List Word) → begun ≡ text ++ first → half ≡ begun ++ fields front
    → full ≡ half ++ fields back → ended ≡ full ++ 10 ∷ [] → ended ≡ text ++ line first (front ++ back)
line_made text first begun half full ended front back begun_is half_is full_is ended_is =
    ended_is
    ∙ ap (λ (t : List ℕ). t ++ 10 ∷ [])
    (full_is ∙ ap (λ (t : List ℕ). t ++ fields back) (half_is ∙ ap (λ (t : List ℕ). t ++ fields front) begun_is) ∙ more_words (text ++ first) front back)
    ∙ append_assoc (text ++ first) (fields (front ++ back)) (10 ∷ [])
    ∙ append_assoc text first (fields (front ++ back) ++ 10 ∷ [])

module _ {A : Type 0} (made : ℕ → A → List ℕ) where
  -- One line more, and the others behind it.
  pub one_line
      : (text added : List ℕ) (items : List A) (k : ℕ) (item : A) (whole : List ℕ) → k < length items → item ≡ get_or items k item
      → added ≡ text ++ made k item → text ++ section made k (drop k items) ≡ whole → added ++ section made (k + 1) (drop (k + 1) items) ≡ whole
  one_line text added items k item whole within here is before =
      let rest = drop (k + 1) items in
      let next : k + 1 ≡ suc k = omega arith in
      let left : drop k items ≡ item ∷ rest = drop_more items k item within ∙ ap (λ first. first ∷ rest) (sym here) in
      ap (λ n. added ++ section made n rest) next
      ∙ ap (λ (front : List ℕ). front ++ section made (suc k) rest) is
      ∙ append_assoc text (made k item) (section made (suc k) rest)
      ∙ ap (λ items. text ++ section made k items) (sym left)
      ∙ before

  -- No item is left.
  pub all_lines
      : (text : List ℕ) (items : List A) (k : ℕ) (whole : List ℕ) → length items ≤ k → text ++ section made k (drop k items) ≡ whole → text ≡ whole
  all_lines text items k whole done before =
      sym (append-nil text) ∙ ap (λ items. text ++ section made k items) (sym (drop_all k items done)) ∙ before
