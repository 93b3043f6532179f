-- Lists by their last element.
use Rattle.std.proofs.Common.{◌≡◌, ℕ, suc, ◌-◌, ◌≤◌, true, false, ◌&&◌, cond, eqb, List, [], ◌∷◌, ◌++◌, length, take, get_or, Some, None, refl, sym, ap, ◌∙◌, inl, inr, arith}
use Rattle.std.specs.Prelude.{option_map}
use Rattle.std.specs.List.{list_all}
use Rattle.std.proofs.Math.Seq.{take-suc, take-length}
use Rattle.std.proofs.lemmas.Bool.{cases_Bool, eqb-true, true≢false, and_right}
use Rattle.dc_lines.specs.Line.{is_blank, in_front}
use Rattle.dc_lines.specs.TextLines.{without_return}

abbrev pub front : List ℕ → List ℕ
front line = take (length line - 1) line

abbrev pub last : List ℕ → ℕ
last line = get_or line (length line - 1) 0

pub split_last : (line : List ℕ) → 1 ≤ length line → line ≡ front line ++ last line ∷ []
split_last line some =
    let count : suc (length line - 1) ≡ length line = omega arith in
    sym (take-length line) ∙ ap (λ n. take n line) (sym count) ∙ take-suc line (length line - 1) 0 (omega arith)

-- ---- one more blank or other character at the end

all_blank-blank : (line : List ℕ) (c : ℕ) → is_blank c ≡ true → list_all is_blank (line ++ c ∷ []) ≡ list_all is_blank line
all_blank-blank [] c blank = rw blank refl
all_blank-blank (d ∷ line) c blank = ap (λ b. is_blank d && b) (all_blank-blank line c blank)

all_blank-other : (line : List ℕ) (c : ℕ) → is_blank c ≡ false → list_all is_blank (line ++ c ∷ []) ≡ false
all_blank-other [] c other = rw other refl
all_blank-other (d ∷ line) c other = and_right (is_blank d) (list_all is_blank (line ++ c ∷ [])) (all_blank-other line c other)

blank-no_ampersand : (c : ℕ) → is_blank c ≡ true → eqb c 38 ≡ false
blank-no_ampersand c blank =
    elim (cases_Bool (eqb c 38)) [
      | inl is ↦ absurd (true≢false (sym blank ∙ ap is_blank (eqb-true c 38 is)))
      | inr other ↦ other
    ]

in_front-blank : (line : List ℕ) (c : ℕ) → is_blank c ≡ true → in_front (line ++ c ∷ []) ≡ in_front line
in_front-blank [] c blank = rw (blank-no_ampersand c blank) refl
in_front-blank (d ∷ line) c blank =
    ap (λ b. cond (eqb d 38 && b) (Some []) (option_map (λ front. d ∷ front) (in_front (line ++ c ∷ [])))) (all_blank-blank line c blank)
    ∙ ap (λ o. cond (eqb d 38 && list_all is_blank line) (Some []) (option_map (λ front. d ∷ front) o)) (in_front-blank line c blank)

-- behind a character that is followed by one that isn't blank
passed : (d : ℕ) (line : List ℕ) → list_all is_blank line ≡ false → in_front (d ∷ line) ≡ option_map (λ front. d ∷ front) (in_front line)
passed d line visible = ap (λ b. cond b (Some []) (option_map (λ front. d ∷ front) (in_front line))) (and_right (eqb d 38) (list_all is_blank line) visible)

in_front-ampersand : (line : List ℕ) → in_front (line ++ 38 ∷ []) ≡ Some line
in_front-ampersand [] = refl
in_front-ampersand (d ∷ line) =
    passed d (line ++ 38 ∷ []) (all_blank-other line 38 refl) ∙ ap (option_map (λ front. d ∷ front)) (in_front-ampersand line)

in_front-other : (line : List ℕ) (c : ℕ) → eqb c 38 ≡ false → is_blank c ≡ false → in_front (line ++ c ∷ []) ≡ None
in_front-other [] c other visible = rw other refl
in_front-other (d ∷ line) c other visible =
    passed d (line ++ c ∷ []) (all_blank-other line c visible) ∙ ap (option_map (λ front. d ∷ front)) (in_front-other line c other visible)

pub last-ampersand : (line : List ℕ) → 1 ≤ length line → last line ≡ 38 → Some (front line) ≡ in_front line
last-ampersand line some is =
    sym (ap in_front (split_last line some ∙ ap (λ c. front line ++ c ∷ []) is) ∙ in_front-ampersand (front line))

pub last-blank : (line : List ℕ) → 1 ≤ length line → is_blank (last line) ≡ true → in_front (front line) ≡ in_front line
last-blank line some blank = sym (ap in_front (split_last line some) ∙ in_front-blank (front line) (last line) blank)

pub last-other : (line : List ℕ) → 1 ≤ length line → eqb (last line) 38 ≡ false → is_blank (last line) ≡ false → None ≡ in_front line
last-other line some other visible = sym (ap in_front (split_last line some) ∙ in_front-other (front line) (last line) other visible)

-- ---- a carriage return at the end

without_return-end : (line : List ℕ) (c : ℕ) → without_return (line ++ c ∷ []) ≡ cond (eqb c 13) line (line ++ c ∷ [])
without_return-end [] c = refl
without_return-end (d ∷ []) c = elim (cases_Bool (eqb c 13)) [ inl is ↦ rw is refl | inr other ↦ rw other refl ]
without_return-end (d ∷ e ∷ line) c =
    ap (λ l. d ∷ l) (without_return-end (e ∷ line) c) ∙ elim (cases_Bool (eqb c 13)) [ inl is ↦ rw is refl | inr other ↦ rw other refl ]

pub last-return : (line : List ℕ) → 1 ≤ length line → last line ≡ 13 → front line ≡ without_return line
last-return line some is =
    sym (ap without_return (split_last line some ∙ ap (λ c. front line ++ c ∷ []) is) ∙ without_return-end (front line) 13)

pub last-no_return : (line : List ℕ) → 1 ≤ length line → eqb (last line) 13 ≡ false → line ≡ without_return line
last-no_return line some other =
    split_last line some
    ∙ sym (ap (λ b. cond b (front line) (front line ++ last line ∷ [])) other)
    ∙ sym (without_return-end (front line) (last line))
    ∙ ap without_return (sym (split_last line some))
