-- A cut, one stop at a time.
use Rattle.std.proofs.Common.{◌≡◌, ◌<◌, ◌≤◌, length, arith, ℕ, zero, suc, List, [], ◌∷◌, ◌++◌, map, take, drop, ◌+◌, add-one, refl, sym, ap, subst, ◌∙◌, inl, inr}
use Rattle.std.proofs.lemmas.Bool.{cases_Bool}
use Rattle.dc_tree.specs.declared.token.Token.{Token}
use Rattle.dc_slices.specs.declared.cutting.Stop.{Stop}
use Rattle.dc_slices.specs.Cutting.{class, halts, level, before, from, cuts, past_first, Stopped, FirstCut}

pub from-stopped : (stop : Stop) (depth : ℕ) (tokens : List Token) → Stopped stop (from stop depth tokens)
from-stopped stop depth [] = tt
from-stopped stop zero (token ∷ tokens) =
    elim (cases_Bool (halts stop zero (class token))) [ inl halt ↦ rw halt halt | inr on ↦ rw on (from-stopped stop (level (class token) zero) tokens) ]
from-stopped stop (suc depth) (token ∷ tokens) = from-stopped stop (level (class token) (suc depth)) tokens

-- cuts begin at the first stop
pub cuts-from : (stop : Stop) (depth : ℕ) (tokens : List Token) → cuts stop depth tokens ≡ cuts stop 0 (from stop depth tokens)
cuts-from stop depth [] = refl
cuts-from stop zero (token ∷ tokens) =
    elim (cases_Bool (halts stop zero (class token))) [ inl halt ↦ rw halt (rw halt refl) | inr on ↦ rw on (cuts-from stop (level (class token) zero) tokens) ]
cuts-from stop (suc depth) (token ∷ tokens) = cuts-from stop (level (class token) (suc depth)) tokens

pub cuts-step : (stop : Stop) (token : Token) (tokens : List Token) → Stopped stop (token ∷ tokens) → cuts stop 0 (token ∷ tokens) ≡ (token ∷ before stop 0 tokens) ∷ cuts stop 0 (from stop 0 tokens)
cuts-step stop token tokens halt = rw halt (ap (λ (more : List (List Token)). (token ∷ before stop 0 tokens) ∷ more) (cuts-from stop 0 tokens))

from-short : (stop : Stop) (depth : ℕ) (tokens : List Token) → length (from stop depth tokens) ≤ length tokens
from-short stop depth [] = omega arith
from-short stop depth (token ∷ tokens) =
    elim (cases_Bool (halts stop depth (class token))) [
      | inl halt ↦ rw halt (omega arith)
      | inr on ↦ rw on (omega (arith, from-short stop (level (class token) depth) tokens))
    ]

pub first-cut : (stop : Stop) (token : Token) (tokens : List Token) → Stopped stop (token ∷ tokens) → FirstCut stop (token ∷ tokens) (token ∷ before stop 0 tokens) (from stop 0 tokens)
first-cut stop token tokens halt = record {
  stopped = from-stopped stop 0 tokens;
  slices = cuts-step stop token tokens halt;
  shorter = omega (arith, from-short stop 0 tokens);
}

-- one more slice
pub grown : {X A : Type 0} (f : X → A) (items : List X) (item : X) (rest more whole : List A) → map f items ++ rest ≡ whole → rest ≡ f item ∷ more → map f (items ++ item ∷ []) ++ more ≡ whole
grown f [] item rest more whole so_far step = sym step ∙ so_far
grown {A = A} f (first ∷ items) item rest more whole so_far step = ap (λ (tail : List A). f first ∷ tail) (grown f items item rest more (map f items ++ rest) refl step) ∙ so_far

pub stopped-from : (stop : Stop) (tokens rest : List Token) → rest ≡ from stop 0 tokens → Stopped stop rest
stopped-from stop tokens rest is = subst (λ (r : List Token). Stopped stop r) (sym is) (from-stopped stop 0 tokens)

pub first-found : (stop : Stop) (tokens : List Token) (at : ℕ) → Stopped stop tokens → 0 < length tokens → take at (past_first tokens) ≡ before stop 0 (past_first tokens) → drop at (past_first tokens) ≡ from stop 0 (past_first tokens)
    → FirstCut stop tokens (take (at + 1) tokens) (drop at (past_first tokens))
first-found stop [] at stopped some front back = absurd (omega arith)
first-found stop (token ∷ tokens) at stopped some front back =
    let slice : take (at + 1) (token ∷ tokens) ≡ token ∷ before stop 0 tokens = rw add-one (ap (λ (more : List Token). token ∷ more) front) in
    rw slice (rw back (first-cut stop token tokens stopped))

pub first-made : (stop : Stop) (tokens behind slice rest : List Token) (at : ℕ) → behind ≡ past_first tokens → slice ≡ take (at + 1) tokens → rest ≡ drop at behind → take at behind ≡ before stop 0 behind → drop at behind ≡ from stop 0 behind
    → Stopped stop tokens → 0 < length tokens → FirstCut stop tokens slice rest
first-made stop tokens behind slice rest at behind_is slice_is rest_is front back stopped some =
    let front' = rw behind_is at front in
    let back' = rw behind_is at back in
    rw slice_is (rw rest_is (rw behind_is (first-found stop tokens at stopped some front' back')))

pub begun : {X A : Type 0} (f : X → A) (items : List X) (rest whole : List A) → items ≡ [] → rest ≡ whole → map f items ++ rest ≡ whole
begun f items rest whole none is = rw none is

pub begun-one : {X A : Type 0} (f : X → A) (items none : List X) (item : X) (rest more : List A) (head : A) → items ≡ none ++ item ∷ [] → none ≡ [] → f item ≡ head → rest ≡ more → map f items ++ rest ≡ head ∷ more
begun-one f items none item rest more head one empty first is = rw one (rw empty (rw first (rw is refl)))
