-- Orders of iterations. This project's own.
use Rattle.std.specs.Prelude.{ℕ, suc, ◌/◌, ◌%◌, ◌==◌, Bool, ◌&&◌, List, [], ◌∷◌, ◌++◌, filter_map, length, reverse, drop, take, slice_get, if◌then◌else◌, ℤ}
use Rattle.std.specs.List.{range_with_len, list_all, list_any}
use Rattle.dc_int.specs.Store.{same}
use Rattle.dc_code.specs.Loops.{Orders}

-- The iteration of each number.
abbrev pub picked : {A : Type 0} → List A → List ℕ → List A
picked items numbers = filter_map (slice_get items) numbers

-- The numbers are those of so many iterations, each once.
abbrev pub is_order : ℕ → List ℕ → Bool
is_order count numbers = (length numbers == count) && list_all (λ n. list_any (same n) numbers) (range_with_len 0 count)

-- The iterations in the first of the orders, where there is one and it is an order of them.
abbrev pub as_ordered : Orders → List (List ℤ) → List (List ℤ)
as_ordered [] iterations = iterations
as_ordered (numbers ∷ orders) iterations = if is_order (length iterations) numbers then picked iterations numbers else iterations

-- The order of a number: the iterations from one on and round again, forward where the number is even,
-- and else backward.
abbrev pub turned : {A : Type 0} → ℕ → List A → List A
turned number [] = []
turned number (first ∷ rest) =
    let from = (number / 2) % suc (length rest) in
    let round = drop from (first ∷ rest) ++ take from (first ∷ rest) in
    if number % 2 == 0 then round else reverse round
