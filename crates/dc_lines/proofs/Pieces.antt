-- The pieces of a joined text, where some characters of the first piece stand in front.
use Rattle.std.proofs.Common.{◌≡◌, ℕ, suc, ◌≤◌, Bool, true, false, ◌||◌, cond, eqb, List, [], ◌∷◌, ◌++◌, length, Option, Some, None, refl, sym, ap, ◌∙◌, append_assoc, append-nil}
use Rattle.std.specs.Prelude.{slice_get, option_map}
use Rattle.std.specs.List.{filter_map, cons_option, list_any}
use Rattle.std.specs.Option.{option_map_or}
use Rattle.std.proofs.lemmas.Bool.{or_right}
use Rattle.std.proofs.lemmas.Option.{slice_get_past}
use Rattle.dc_tree.specs.declared.logical_lines.Logical.{Logical}
use Rattle.dc_lines.specs.Line.{is_blank}
use Rattle.dc_lines.specs.Joined.{Character, Sign, written, ends, put_first, pieces, first_line, bytes_of, statement}
use Rattle.dc_lines.specs.Rules.{is_too_long_at}
use Rattle.dc_lines.specs.Reading.{told, begun}

abbrev pub grow : List Character → List (List Character) → List (List Character)
grow letters [] = letters ∷ []
grow letters (piece ∷ pieces) = (letters ++ piece) ∷ pieces

-- the pieces of a text in front of which these characters stand
abbrev pub pieces_behind : List Character → List Sign → List (List Character)
pieces_behind letters signs = grow letters (pieces signs)

grow-put : (letters : List Character) (c : Character) (pieces : List (List Character)) → grow letters (put_first c pieces) ≡ grow (letters ++ c ∷ []) pieces
grow-put letters c [] = refl
grow-put letters c (piece ∷ pieces) = ap (λ (l : List Character). l ∷ pieces) (sym (append_assoc letters (c ∷ []) piece))

pub pieces-written : (letters : List Character) (c : Character) (signs : List Sign) → pieces_behind letters (written c ∷ signs) ≡ pieces_behind (letters ++ c ∷ []) signs
pieces-written letters c signs = grow-put letters c (pieces signs)

grow_none-put : (c : Character) (pieces : List (List Character)) → grow [] (put_first c pieces) ≡ put_first c pieces
grow_none-put c [] = refl
grow_none-put c (piece ∷ pieces) = refl

pub grow_none : (signs : List Sign) → pieces signs ≡ pieces_behind [] signs
grow_none [] = refl
grow_none (written c ∷ signs) = sym (grow_none-put c (pieces signs))
grow_none (ends ∷ signs) = refl

pub pieces-ends : (letters : List Character) (signs : List Sign) → pieces_behind letters (ends ∷ signs) ≡ letters ∷ pieces_behind [] signs
pieces-ends letters signs = ap (λ (l : List Character). l ∷ pieces signs) (append-nil letters) ∙ ap (λ (ps : List (List Character)). letters ∷ ps) (grow_none signs)

-- ---- the statement that a piece spells

pub bytes_of-append : (letters : List Character) (c : Character) → bytes_of letters ++ c.byte ∷ [] ≡ bytes_of (letters ++ c ∷ [])
bytes_of-append [] c = refl
bytes_of-append (d ∷ letters) c = ap (λ (bytes : List ℕ). d.byte ∷ bytes) (bytes_of-append letters c)

pub length-bytes_of : (letters : List Character) → length (bytes_of letters) ≡ length letters
length-bytes_of [] = refl
length-bytes_of (d ∷ letters) = ap suc (length-bytes_of letters)

pub first_line-append : (letters : List Character) (c : Character) → begun (first_line letters) c.line c.byte ≡ first_line (letters ++ c ∷ [])
first_line-append [] c = refl
first_line-append (d ∷ letters) c = by_blank (is_blank d.byte) (first_line-append letters c)
  where
    by_blank : (b : Bool) → begun (first_line letters) c.line c.byte ≡ first_line (letters ++ c ∷ [])
        → begun (cond b (first_line letters) (Some d.line)) c.line c.byte ≡ cond b (first_line (letters ++ c ∷ [])) (Some d.line)
    by_blank true more = more
    by_blank false more = refl

abbrev logical : List ℕ → ℕ → Logical
logical text line = record { line = line; text = text }

pub statement-told : (letters : List Character) (pieces : List (List Character)) → filter_map statement (letters ∷ pieces) ≡ told (first_line letters) (bytes_of letters) ++ filter_map statement pieces
statement-told letters rest = by_line (first_line letters)
  where
    by_line : (o : Option ℕ) → cons_option (option_map (logical (bytes_of letters)) o) (filter_map statement rest) ≡ told o (bytes_of letters) ++ filter_map statement rest
    by_line None = refl
    by_line (Some line) = refl

-- ---- where a piece is too long

pub within : (letters : List Character) (n : ℕ) → length letters ≤ 1000000 → is_too_long_at n letters ≡ false
within letters n short = ap (λ (o : Option Character). option_map_or (λ (c : Character). eqb c.line n) o false) (slice_get_past letters 1000000 short)

slice_get-seam : (letters : List Character) (c : Character) (piece : List Character) → slice_get (letters ++ c ∷ piece) (length letters) ≡ Some c
slice_get-seam [] c piece = refl
slice_get-seam (d ∷ letters) c piece = slice_get-seam letters c piece

pub too_long-full : (letters : List Character) (c : Character) (piece : List Character) (n : ℕ) → length letters ≡ 1000000 → is_too_long_at n (letters ++ c ∷ piece) ≡ eqb c.line n
too_long-full letters c piece n full =
    ap (λ (o : Option Character). option_map_or (λ (d : Character). eqb d.line n) o false)
    (ap (slice_get (letters ++ c ∷ piece)) (sym full) ∙ slice_get-seam letters c piece)

-- whether a statement is too long, where these characters stand in front
abbrev pub is_too_long_behind : ℕ → List Character → List Sign → Bool
is_too_long_behind n letters signs = list_any (is_too_long_at n) (pieces_behind letters signs)

pub too_long-written : (n : ℕ) (letters : List Character) (c : Character) (signs : List Sign) → is_too_long_behind n letters (written c ∷ signs) ≡ is_too_long_behind n (letters ++ c ∷ []) signs
too_long-written n letters c signs = ap (list_any (is_too_long_at n)) (pieces-written letters c signs)

pub too_long-ends : (n : ℕ) (letters : List Character) (signs : List Sign) → length letters ≤ 1000000 → is_too_long_behind n letters (ends ∷ signs) ≡ is_too_long_behind n [] signs
too_long-ends n letters signs short =
    ap (list_any (is_too_long_at n)) (pieces-ends letters signs) ∙ ap (λ b. b || is_too_long_behind n [] signs) (within letters n short)

-- A piece that is full goes on with a character, and the other pieces follow.
abbrev pub others : List (List Character) → List (List Character)
others [] = []
others (piece ∷ pieces) = pieces

pub full-first : (n : ℕ) (letters : List Character) (c : Character) (pieces : List (List Character)) → length letters ≡ 1000000
    → list_any (is_too_long_at n) (grow letters (put_first c pieces)) ≡ (eqb c.line n || list_any (is_too_long_at n) (others pieces))
full-first n letters c [] full = ap (λ b. b || false) (too_long-full letters c [] n full)
full-first n letters c (piece ∷ pieces) full = ap (λ b. b || list_any (is_too_long_at n) pieces) (too_long-full letters c piece n full)

pub others-passed : (n : ℕ) (pieces : List (List Character)) → list_any (is_too_long_at n) (others pieces) ≡ true → list_any (is_too_long_at n) pieces ≡ true
others-passed n [] passed = passed
others-passed n (piece ∷ pieces) passed = or_right (is_too_long_at n piece) (list_any (is_too_long_at n) pieces) passed
