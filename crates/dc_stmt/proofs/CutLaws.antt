-- What cuts leave: the slices are the tokens, and a part that a cut passes stays whole.
use Rattle.std.proofs.Common.{◌≡◌, ℕ, zero, suc, true, List, [], ◌∷◌, ◌++◌, map, Option, Some, refl, sym, ap, ◌∙◌, inl, inr, append-nil}
use Rattle.std.proofs.lemmas.Bool.{cases_Bool, false≢true}
use Rattle.dc_tree.specs.declared.token.Mark.{Mark}
use Rattle.dc_tree.specs.declared.token.Token.{Token}
use Rattle.dc_slices.specs.declared.cutting.Class.{Class}
use Rattle.dc_slices.specs.declared.cutting.Stop.{Stop}
use Rattle.dc_slices.specs.Cutting.{class, stops, level, halts, before, from, cuts, past_first, later, pieces, closed_round, bracket, nothing_behind, in_brackets, closed_square, in_list}

-- ---- the slices are the tokens

pub before-from : (stop : Stop) (depth : ℕ) (tokens : List Token) → before stop depth tokens ++ from stop depth tokens ≡ tokens
before-from stop depth [] = refl
before-from stop depth (token ∷ tokens) =
    elim (cases_Bool (halts stop depth (class token))) [
      | inl halt ↦ rw halt refl
      | inr on ↦ rw on (ap (λ (more : List Token). token ∷ more) (before-from stop (level (class token) depth) tokens))
    ]

abbrev pub flat : List (List Token) → List Token
flat [] = []
flat (slice ∷ slices) = slice ++ flat slices

pub cuts-flat : (stop : Stop) (depth : ℕ) (tokens : List Token) → flat (cuts stop depth tokens) ≡ from stop depth tokens
cuts-flat stop depth [] = refl
cuts-flat stop depth (token ∷ tokens) =
    elim (cases_Bool (halts stop depth (class token))) [
      | inl halt ↦ rw halt (ap (λ (more : List Token). token ∷ more) (ap (λ (more : List Token). before stop 0 tokens ++ more) (cuts-flat stop 0 tokens) ∙ before-from stop 0 tokens))
      | inr on ↦ rw on (cuts-flat stop (level (class token) depth) tokens)
    ]

-- slices with a mark in front of each
abbrev pub marked : Mark → List (List Token) → List Token
marked mark [] = []
marked mark (slice ∷ slices) = Token.Mark mark ∷ (slice ++ marked mark slices)

-- slices with a mark between them
abbrev pub joined : Mark → List (List Token) → List Token
joined mark [] = []
joined mark (slice ∷ slices) = slice ++ marked mark slices

-- a cut that stops at this mark alone
abbrev pub StopsAt : Stop → Mark → Type 0
StopsAt stop mark = (token : Token) → stops stop (class token) ≡ true → token ≡ Token.Mark mark

halt-stops : (stop : Stop) (depth : ℕ) (c : Class) → halts stop depth c ≡ true → stops stop c ≡ true
halt-stops stop zero c halt = halt
halt-stops stop (suc depth) c halt = absurd (false≢true halt)

later-marked : (stop : Stop) (mark : Mark) → StopsAt stop mark → (depth : ℕ) (tokens : List Token) → marked mark (map past_first (cuts stop depth tokens)) ≡ from stop depth tokens
later-marked stop mark only depth [] = refl
later-marked stop mark only depth (token ∷ tokens) =
    elim (cases_Bool (halts stop depth (class token))) [
      | inl halt ↦
          let one : token ≡ Token.Mark mark = only token (halt-stops stop depth (class token) halt) in
          let more : before stop 0 tokens ++ marked mark (map past_first (cuts stop 0 tokens)) ≡ tokens
          = ap (λ (rest : List Token). before stop 0 tokens ++ rest) (later-marked stop mark only 0 tokens) ∙ before-from stop 0 tokens in
          rw halt (ap (λ (rest : List Token). Token.Mark mark ∷ rest) more ∙ ap (λ (t : Token). t ∷ tokens) (sym one))
      | inr on ↦ rw on (later-marked stop mark only (level (class token) depth) tokens)
    ]

pub pieces-joined : (stop : Stop) (mark : Mark) → StopsAt stop mark → (tokens : List Token) → joined mark (pieces stop tokens) ≡ tokens
pieces-joined stop mark only tokens = ap (λ (rest : List Token). before stop 0 tokens ++ rest) (later-marked stop mark only 0 tokens) ∙ before-from stop 0 tokens

pub later-joined : (stop : Stop) (mark : Mark) → StopsAt stop mark → (tokens : List Token) → before stop 0 tokens ≡ [] → marked mark (later stop tokens) ≡ tokens
later-joined stop mark only tokens none =
    later-marked stop mark only 0 tokens ∙ ap (λ (front : List Token). front ++ from stop 0 tokens) (sym none) ∙ before-from stop 0 tokens

pub comma-stops : StopsAt Stop.Comma Mark.Comma
comma-stops (Token.Mark Mark.Comma) is = refl
comma-stops (Token.Mark mark) is = absurd (false≢true is)
comma-stops token is = absurd (false≢true is)

pub colon-stops : StopsAt Stop.Colon Mark.Colon
colon-stops (Token.Mark Mark.Colon) is = refl
colon-stops (Token.Mark mark) is = absurd (false≢true is)
colon-stops token is = absurd (false≢true is)

pub colons-stops : StopsAt Stop.Colons Mark.Colons
colons-stops (Token.Mark Mark.Colons) is = refl
colons-stops (Token.Mark mark) is = absurd (false≢true is)
colons-stops token is = absurd (false≢true is)

pub equals-stops : StopsAt Stop.Equals Mark.Equals
equals-stops (Token.Mark Mark.Equals) is = refl
equals-stops (Token.Mark mark) is = absurd (false≢true is)
equals-stops token is = absurd (false≢true is)

-- the first token from a stop on
pub from-stops : (stop : Stop) (mark : Mark) → StopsAt stop mark → (depth : ℕ) (tokens : List Token) (first : Token) (rest : List Token)
    → from stop depth tokens ≡ first ∷ rest → first ≡ Token.Mark mark
from-stops stop mark only depth [] first rest is = absurd (cc)
from-stops stop mark only depth (token ∷ tokens) first rest is =
    elim (cases_Bool (halts stop depth (class token))) [
      | inl halt ↦ let same : token ∷ tokens ≡ first ∷ rest = rw halt at is in let one : token ≡ first = cc in sym one ∙ only token (halt-stops stop depth (class token) halt)
      | inr on ↦ from-stops stop mark only (level (class token) depth) tokens first rest (rw on at is)
    ]

-- the mark at a stop, with what is on both sides
pub split-at : (stop : Stop) (mark : Mark) → StopsAt stop mark → (tokens : List Token) (first : Token) (rest : List Token)
    → from stop 0 tokens ≡ first ∷ rest → before stop 0 tokens ++ Token.Mark mark ∷ rest ≡ tokens
split-at stop mark only tokens first rest is =
    ap (λ (t : Token). before stop 0 tokens ++ t ∷ rest) (sym (from-stops stop mark only 0 tokens first rest is))
    ∙ ap (λ (all : List Token). before stop 0 tokens ++ all) (sym is) ∙ before-from stop 0 tokens

pub split-none : (stop : Stop) (tokens : List Token) → from stop 0 tokens ≡ [] → before stop 0 tokens ≡ tokens
split-none stop tokens is =
    sym (append-nil (before stop 0 tokens)) ∙ ap (λ (all : List Token). before stop 0 tokens ++ all) (sym is) ∙ before-from stop 0 tokens

-- ---- brackets hold what is found in them

closed-found : (inside rest after : List Token) (front : List Token) → closed_round front rest ≡ Some (inside, after) → front ++ rest ≡ inside ++ Token.Mark Mark.Close ∷ after
closed-found inside (Token.Mark Mark.Close ∷ tokens) after front is =
    let pair : (front, tokens) ≡ (inside, after) = cc in
    ap (λ (parts : List Token × List Token). parts.0 ++ Token.Mark Mark.Close ∷ parts.1) pair
closed-found inside rest after front is = absurd (cc)

pub bracket-found : (tokens inside after : List Token) → bracket tokens ≡ Some (inside, after) → tokens ≡ Token.Mark Mark.Open ∷ (inside ++ Token.Mark Mark.Close ∷ after)
bracket-found (Token.Mark Mark.Open ∷ tokens) inside after is =
    ap (λ (rest : List Token). Token.Mark Mark.Open ∷ rest)
    (sym (before-from Stop.Closing 0 tokens) ∙ closed-found inside (from Stop.Closing 0 tokens) after (before Stop.Closing 0 tokens) is)
bracket-found tokens inside after is = absurd (cc)

nothing-found : (found : Option (List Token × List Token)) (inside : List Token) → nothing_behind found ≡ Some inside → found ≡ Some (inside, [])
nothing-found (Some (front, [])) inside is = let one : front ≡ inside = cc in ap (λ (p : List Token). Some (p, [])) one
nothing-found other inside is = absurd (cc)

pub in_brackets-found : (tokens inside : List Token) → in_brackets tokens ≡ Some inside → tokens ≡ Token.Mark Mark.Open ∷ (inside ++ Token.Mark Mark.Close ∷ [])
in_brackets-found tokens inside is = bracket-found tokens inside [] (nothing-found (bracket tokens) inside is)

square-found : (inside rest front : List Token) → closed_square front rest ≡ Some inside → front ++ rest ≡ inside ++ Token.Mark Mark.CloseList ∷ []
square-found inside (Token.Mark Mark.CloseList ∷ []) front is = let one : front ≡ inside = cc in ap (λ (p : List Token). p ++ Token.Mark Mark.CloseList ∷ []) one
square-found inside rest front is = absurd (cc)

pub in_list-found : (tokens inside : List Token) → in_list tokens ≡ Some inside → tokens ≡ Token.Mark Mark.OpenList ∷ (inside ++ Token.Mark Mark.CloseList ∷ [])
in_list-found (Token.Mark Mark.OpenList ∷ tokens) inside is =
    ap (λ (rest : List Token). Token.Mark Mark.OpenList ∷ rest)
    (sym (before-from Stop.Closing 0 tokens) ∙ square-found inside (from Stop.Closing 0 tokens) (before Stop.Closing 0 tokens) is)
in_list-found tokens inside is = absurd (cc)
