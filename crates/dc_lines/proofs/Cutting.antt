-- How the lines of a text are found one after another.
use Rattle.std.proofs.Common.{◌≡◌, ℕ, suc, ◌+◌, ◌≤◌, Bool, false, inl, inr, List, [], ◌∷◌, length, map, drop, length-drop, refl, sym, ap, ◌∙◌, arith}
use Rattle.std.specs.Prelude.{◌==◌}
use Rattle.std.proofs.lemmas.Bool.{false≢true, ne_eqb}
use Rattle.std.proofs.lemmas.Bool.Decides.{eqb_tells}
use Rattle.dc_lines.specs.declared.reading.Place.{Place}
use Rattle.dc_lines.specs.TextLines.{put, cut, without_return, lines_of}
use Rattle.dc_lines.specs.Reading.{Reading, stands, first_of, is_none_left, step, read}

cut-front : (c : ℕ) (text : List ℕ) → cut (c ∷ text) ≡ first_of (c ∷ text) ∷ cut (drop (suc (length (first_of (c ∷ text)))) (c ∷ text))
cut-front c [] = elim (eqb_tells c 10) [ inl feeds ↦ rw feeds.0 refl | inr other ↦ rw other.0 refl ]
cut-front c (d ∷ rest) =
    elim (eqb_tells c 10) [
      | inl feeds ↦ rw feeds.0 refl
      | inr other ↦ let more = ap (put c) (cut-front d rest) in rw other.0 more
    ]

lines-front : (text : List ℕ) → false ≡ (length text == 0) → lines_of text ≡ without_return (first_of text) ∷ lines_of (drop (length (first_of text) + 1) text)
lines-front [] some = absurd (false≢true some)
lines-front (c ∷ text) some =
    let count : suc (length (first_of (c ∷ text))) ≡ length (first_of (c ∷ text)) + 1 = omega arith in
    ap (λ (ls : List (List ℕ)). map without_return ls) (cut-front c text)
    ∙ ap (λ n. without_return (first_of (c ∷ text)) ∷ lines_of (drop n (c ∷ text))) count

none_left-lines : (text : List ℕ) → is_none_left (lines_of text) ≡ (length text == 0)
none_left-lines [] = refl
none_left-lines (c ∷ text) = ap (λ (ls : List (List ℕ)). is_none_left (map without_return ls)) (cut-front c text) ∙ sym (ne_eqb (suc (length text)) 0 (λ e. omega arith))

-- the first line of what is left, and what is left behind it
pub read-step : (place : Place) (rest more line bare : List ℕ) (is_last : Bool) (next : Reading) → false ≡ (length rest == 0) → line ≡ first_of rest → more ≡ drop (length line + 1) rest
    → bare ≡ without_return line → is_last ≡ (length more == 0) → next ≡ step is_last place bare → read (stands place) (lines_of rest) ≡ read next (lines_of more)
read-step place rest more line bare is_last next some line_is more_is bare_is last_is next_is =
    let behind : lines_of (drop (length (first_of rest) + 1) rest) ≡ lines_of more =
    ap (λ l. lines_of (drop (length l + 1) rest)) (sym line_is) ∙ ap lines_of (sym more_is) in
    let first : without_return (first_of rest) ≡ bare = ap without_return (sym line_is) ∙ sym bare_is in
    let none : is_none_left (lines_of more) ≡ is_last = none_left-lines more ∙ sym last_is in
    ap (λ (ls : List (List ℕ)). read (stands place) ls) (lines-front rest some)
    ∙ ap (λ (ls : List (List ℕ)). read (step (is_none_left ls) place (without_return (first_of rest))) ls) behind
    ∙ ap (λ b. read (step b place (without_return (first_of rest))) (lines_of more)) none
    ∙ ap (λ l. read (step is_last place l) (lines_of more)) first
    ∙ ap (λ (r : Reading). read r (lines_of more)) (sym next_is)

-- which is shorter
pub shorter : (rest : List ℕ) (count : ℕ) → false ≡ (length rest == 0) → length (drop (count + 1) rest) + 1 ≤ length rest
shorter [] count some = absurd (false≢true some)
shorter (c ∷ rest) count some = omega (arith, length-drop (count + 1) (c ∷ rest))
