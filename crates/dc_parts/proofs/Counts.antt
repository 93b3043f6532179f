-- Numbers of slices that no part has.
use Rattle.std.proofs.Common.{◌≡◌, ◌≤◌, ◌<◌, List, [], ◌∷◌, map, None, length, sym, arith}
use Rattle.dc_tree.specs.declared.token.Token.{Token}
use Rattle.dc_slices.specs.declared.reading.Reading.{Reading}
use Rattle.dc_slices.specs.Judging.{judged}
use Rattle.dc_slices.proofs.Judged.{judged-nothing, judged-plain}
use Rattle.dc_parts.specs.Parts.{step_of, limits, dimension_pieces, case_pieces}

pub step-many : (step : List Token) (slices : List (List Token)) → 1 ≤ length slices → Reading.Nothing ≡ judged (step_of (step ∷ slices))
step-many step [] some = absurd (omega arith)
step-many step (slice ∷ slices) some = sym judged-nothing

pub dimension-many : (low high : List Token) (slices : List (List Token)) → 1 ≤ length slices → Reading.Nothing ≡ judged (dimension_pieces (low ∷ high ∷ slices))
dimension-many low high [] some = absurd (omega arith)
dimension-many low high (slice ∷ slices) some = sym judged-nothing

pub case-many : (low high : List Token) (slices : List (List Token)) → 1 ≤ length slices → Reading.Nothing ≡ judged (case_pieces (low ∷ high ∷ slices))
case-many low high [] some = absurd (omega arith)
case-many low high (slice ∷ slices) some = sym judged-nothing

pub step-empty : (slices : List (List Token)) → length slices < 1 → Reading.Whole None ≡ judged (step_of slices)
step-empty [] none = sym (judged-plain None)
step-empty (slice ∷ slices) none = absurd (omega arith)

pub limits-empty : (slices : List (List Token)) → length slices < 1 → Reading.Nothing ≡ judged (limits slices)
limits-empty [] none = sym judged-nothing
limits-empty (slice ∷ slices) none = absurd (omega arith)

pub limits-one : (first : List Token) (slices : List (List Token)) → length slices < 1 → Reading.Nothing ≡ judged (limits (first ∷ slices))
limits-one first [] none = sym judged-nothing
limits-one first (slice ∷ slices) none = absurd (omega arith)

pub dimension-empty : (slices : List (List Token)) → length slices < 1 → Reading.Nothing ≡ judged (dimension_pieces slices)
dimension-empty [] none = sym judged-nothing
dimension-empty (slice ∷ slices) none = absurd (omega arith)

pub case-none : {X : Type 0} (f : X → List Token) (items : List X) → length items < 1 → Reading.Nothing ≡ judged (case_pieces (map f items))
case-none f [] none = sym judged-nothing
case-none f (item ∷ items) none = absurd (omega arith)
