-- Whole arrays, element after element. This project's own.
use Rattle.std.specs.Prelude.{ℕ, ◌-◌, List, [], ◌∷◌, map, Option, ℤ, pos, ◌+ℤ◌}
use Rattle.std.specs.List.{range_with_len}
use Rattle.dc_int.specs.declared.access.ElementId.{ElementId}
use Rattle.dc_int.specs.declared.kind.Kind.{Kind}
use Rattle.dc_int.specs.declared.operation.ReduceOp.{ReduceOp}
use Rattle.dc_int.specs.Kinds.{wrapped}
use Rattle.dc_int.specs.Reductions.{truth, number_of_truth, conjunction, disjunction, combined}
use Rattle.dc_code.specs.declared.instr.Folding.{Folding}
use Rattle.dc_code.specs.Codes.{CodeLists, element}
use Rattle.dc_code.specs.Computation.{give, ◌>>=◌}
use Rattle.dc_code.specs.Instructions.{folded}
use Rattle.dc_code.specs.Reaching.{all_read, all_required}
use Rattle.dc_code.specs.Troubles.{Computing}

-- The elements of a variable from a position on, where it has so many.
abbrev pub elements_from : ℕ → ℕ → ℕ → List ElementId
elements_from variable position count = map (element variable) (range_with_len position (count - position))

-- What SUM, COUNT, ANY and ALL make of no values, and of one more.
abbrev pub folded_first : Folding → ℤ
folded_first Folding.Sum = pos 0
folded_first Folding.Count = pos 0
folded_first Folding.Any = pos 0
folded_first Folding.All = pos 1

abbrev pub folded_further : Folding → Kind → ℤ → ℤ → ℤ
folded_further Folding.Sum kind before z = combined ReduceOp.Add kind before z
folded_further Folding.Count kind before z = wrapped Kind.K4 (before +ℤ number_of_truth (truth z))
folded_further Folding.Any kind before z = disjunction before z
folded_further Folding.All kind before z = conjunction before z

abbrev pub folded_from : Folding → Kind → ℤ → List ℤ → ℤ
folded_from folding kind before [] = before
folded_from folding kind before (z ∷ zs) = folded_from folding kind (folded_further folding kind before z) zs

-- What is made of elements, which have to be defined, and of the states of slots.
abbrev pub elements_folded : CodeLists → ℕ → Folding → Kind → List ElementId → Computing ℤ
elements_folded code line folding kind elements = do
  zs ← all_read code line elements
  give (folded folding kind zs)

abbrev pub states_folded : ℕ → Folding → Kind → List (Option ℤ) → Computing ℤ
states_folded line folding kind states = do
  zs ← all_required line states
  give (folded folding kind zs)
