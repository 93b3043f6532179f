-- The elements of a variable that are left.
use Rattle.std.proofs.Common.{◌≡◌, ℕ, suc, ◌+◌, ◌-◌, ◌<◌, ◌∷◌, map, ap, arith}
use Rattle.std.specs.List.{range_with_len}
use Rattle.dc_code.specs.Codes.{element}
use Rattle.dc_steps.specs.Elementwise.{elements_from}

-- All of them are left at first.
pub elements_all : (variable count : ℕ) → map (element variable) (range_with_len 0 count) ≡ elements_from variable 0 count
elements_all variable count = ap (λ n. map (element variable) (range_with_len 0 n)) all
  where
    all : count ≡ count - 0
    all = omega arith

pub elements_more : (variable position count : ℕ) → position < count → elements_from variable position count ≡ element variable position ∷ elements_from variable (position + 1) count
elements_more variable position count less = ap (λ n. map (element variable) (range_with_len position n)) one
  where
    one : count - position ≡ suc (count - (position + 1))
    one = omega (arith, less)
