-- Numbers of slices that no heading has.
use Rattle.std.proofs.Common.{◌≡◌, ◌≤◌, ◌<◌, Bool, List, [], ◌∷◌, map, None, length, sym, arith}
use Rattle.dc_tree.specs.declared.token.Token.{Token}
use Rattle.dc_slices.specs.declared.reading.Reading.{Reading}
use Rattle.dc_slices.specs.Judging.{judged}
use Rattle.dc_slices.proofs.Judged.{judged-nothing, judged-plain}
use Rattle.dc_stmt.specs.Headings.{result_of, heading_of, procedure_parts}

pub result-many : (slice : List Token) (slices : List (List Token)) → 1 ≤ length slices → Reading.Nothing ≡ judged (result_of (slice ∷ slices))
result-many slice [] some = absurd (omega arith)
result-many slice (second ∷ slices) some = sym judged-nothing

pub result-empty : {X : Type 0} (f : X → List Token) (items : List X) → length items < 1 → Reading.Whole None ≡ judged (result_of (map f items))
result-empty f [] none = sym (judged-plain None)
result-empty f (item ∷ items) none = absurd (omega arith)

pub heading-empty : (function : Bool) (slices : List (List Token)) → length slices < 1 → Reading.Nothing ≡ judged (heading_of function slices)
heading-empty function [] none = sym judged-nothing
heading-empty function (slice ∷ slices) none = absurd (omega arith)

pub procedure-empty : (prefixes slices : List (List Token)) → length slices < 1 → Reading.Nothing ≡ judged (procedure_parts prefixes slices)
procedure-empty prefixes [] none = sym judged-nothing
procedure-empty prefixes (slice ∷ slices) none = absurd (omega arith)
