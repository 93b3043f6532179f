-- Where the parts of the loops stand in the code of a program, and the numbers of their plans.
use Rattle.std.proofs.Common.{◌≡◌, ◌<◌, ◌≤◌, ℕ, zero, suc, ◌+◌, true, false, List, [], ◌∷◌, ◌++◌, length, Some, refl, sym, ap, ◌∙◌, subst, arith}
use Rattle.std.proofs.lemmas.Bool.{eq-eqb, ne_eqb}
use Rattle.std.proofs.lemmas.Option.{none-some, same_Some}
use Rattle.std.specs.Prelude.{nat_eq, flat_map, slice_get}
use Rattle.dc_code.specs.declared.instr.Instr.{Instr}
use Rattle.dc_code.specs.declared.instr.What.{What}
use Rattle.dc_code.specs.Codes.{starts_of_loop, place_among}
use Rattle.dc_meaning.specs.Concurrent.{Concurrent, Surroundings}
use Rattle.dc_actions.specs.Deeds.{lined}
use Rattle.dc_lower.specs.Lowered.{header_code, body_code, loop_code, loops_code, no_slots, body_plan, plans_of_loops, construct_at, constructs_from}
use Rattle.dc_actions.proofs.Placing.{get-left, get-right}
use Rattle.std.proofs.lemmas.List.{length-append}

-- ---- parts have instructions

lined-some : (line : ℕ) (first : List What) (what : What) → 0 < length (lined line (first ++ what ∷ []))
lined-some line [] what = omega arith
lined-some line (one ∷ first) what = omega arith

behind-some : (first second : List Instr) → 0 < length second → 0 < length (first ++ second)
behind-some first second some = let both = length-append first second in omega (arith, both, some)

-- ---- the loops of a code

-- A place that is among the first is found there, and another behind them.
found-first : (first place : ℕ) (rest : List ℕ) → first ≡ place → place_among (first ∷ rest) place ≡ 0
found-first first place rest same = let is : nat_eq first place ≡ true = eq-eqb first place same in rw is refl

pub found-behind : (first place number : ℕ) (rest : List ℕ) → first < place → place_among rest place ≡ number → place_among (first ∷ rest) place ≡ suc number
found-behind first place number rest below later = let other : nat_eq first place ≡ false = ne_eqb first place (λ same. omega (arith, below, same)) in rw other (ap suc later)

-- What stands of a loop among the loops, whose code begins at a place.
pub record LoopPlaced (within : Surroundings) (at : ℕ) (loops : List Concurrent) (number : ℕ) (loop : Concurrent) : Type 0 where
  pub before : ℕ
  pub constructed : slice_get (constructs_from within at loops) number ≡ Some (construct_at within (at + before) loop)
  pub placed : (i : ℕ) (instr : Instr) → slice_get (loop_code within loop) i ≡ Some instr → slice_get (loops_code within loops) (before + i) ≡ Some instr
  pub headed : place_among (flat_map starts_of_loop (constructs_from within at loops)) (at + before) ≡ number + number
  pub bodied : place_among (flat_map starts_of_loop (constructs_from within at loops)) (at + before + length (header_code loop)) ≡ suc (number + number)
  pub header_plan : slice_get (plans_of_loops within loops) (number + number) ≡ Some no_slots
  pub block_plan : slice_get (plans_of_loops within loops) (suc (number + number)) ≡ Some (body_plan within loop)

module _ (within : Surroundings) where
  pub header-some : (loop : Concurrent) → 0 < length (header_code loop)
  header-some loop = lined-some loop.line _ What.End

  body-some : (loop : Concurrent) → 0 < length (body_code within loop)
  body-some loop = behind-some _ (lined loop.line (What.End ∷ [])) (omega arith)

  placed-first : (at : ℕ) (loop : Concurrent) (loops : List Concurrent) → LoopPlaced within at (loop ∷ loops) 0 loop
  placed-first at loop loops = record {
    before = 0;
    constructed = ap (λ place. Some (construct_at within place loop)) (same at);
    placed = λ i instr e. ap (slice_get (loops_code within (loop ∷ loops))) (none-before i) ∙ get-left (loop_code within loop) (loops_code within loops) i instr e;
    headed = found-first at (at + 0) ((at + length (header_code loop)) ∷ rest) (same at);
    bodied =
        found-behind at (at + 0 + length (header_code loop)) 0 ((at + length (header_code loop)) ∷ rest) (ahead (length (header_code loop)) (header-some loop))
        (found-first (at + length (header_code loop)) (at + 0 + length (header_code loop)) rest (beside (length (header_code loop))));
    header_plan = refl;
    block_plan = refl;
  }
    where
      rest : List ℕ
      rest = flat_map starts_of_loop (constructs_from within (at + length (loop_code within loop)) loops)

      same : (n : ℕ) → n ≡ n + 0
      same n = omega arith

      none-before : (i : ℕ) → 0 + i ≡ i
      none-before i = omega arith

      ahead : (n : ℕ) → 0 < n → at < at + 0 + n
      ahead n some = omega (arith, some)

      beside : (n : ℕ) → at + n ≡ at + 0 + n
      beside n = omega arith

  -- The places and numbers of a loop with one more before it.
  module _ (at : ℕ) (first : Concurrent) (loops : List Concurrent) (number : ℕ) (loop : Concurrent)
      (behind : LoopPlaced within (at + length (loop_code within first)) loops number loop) where
    abbrev size : ℕ
    size = length (loop_code within first)

    whole-size : size ≡ length (header_code first) + length (body_code within first)
    whole-size = length-append (header_code first) (body_code within first)

    moved : at + size + behind.before ≡ at + (size + behind.before)
    moved = omega arith

    twice : suc number + suc number ≡ suc (suc (number + number))
    twice = omega arith

    passed : (place found : ℕ) → at + size ≤ place → place_among (flat_map starts_of_loop (constructs_from within (at + size) loops)) place ≡ found
        → place_among (flat_map starts_of_loop (constructs_from within at (first ∷ loops))) place ≡ suc (suc found)
    passed place found beyond is =
        let all = whole-size in
        let head = header-some first in
        let body = body-some first in
        let rest = flat_map starts_of_loop (constructs_from within (at + size) loops) in
        found-behind at place (suc found) ((at + length (header_code first)) ∷ rest) (omega (arith, all, head, body, beyond))
        (found-behind (at + length (header_code first)) place found rest (omega (arith, all, head, body, beyond)) is)

    headed-later : place_among (flat_map starts_of_loop (constructs_from within at (first ∷ loops))) (at + (size + behind.before)) ≡ suc number + suc number
    headed-later =
        ap (place_among (flat_map starts_of_loop (constructs_from within at (first ∷ loops)))) (sym moved)
        ∙ passed (at + size + behind.before) (number + number) (omega arith) behind.headed ∙ sym twice

    bodied-later : place_among (flat_map starts_of_loop (constructs_from within at (first ∷ loops))) (at + (size + behind.before) + length (header_code loop)) ≡ suc (suc number + suc number)
    bodied-later =
        ap (λ place. place_among (flat_map starts_of_loop (constructs_from within at (first ∷ loops))) (place + length (header_code loop))) (sym moved)
        ∙ passed (at + size + behind.before + length (header_code loop)) (suc (number + number)) (omega arith) behind.bodied ∙ ap suc (sym twice)

  placed-later : (at : ℕ) (first : Concurrent) (loops : List Concurrent) (number : ℕ) (loop : Concurrent)
      → LoopPlaced within (at + length (loop_code within first)) loops number loop → LoopPlaced within at (first ∷ loops) (suc number) loop
  placed-later at first loops number loop behind = record {
    before = length (loop_code within first) + behind.before;
    constructed = behind.constructed ∙ ap (λ place. Some (construct_at within place loop)) (moved at first loops number loop behind);
    placed = λ i instr e.
        ap (slice_get (loops_code within (first ∷ loops))) (over (length (loop_code within first)) behind.before i)
        ∙ get-right (loop_code within first) (loops_code within loops) (behind.before + i) ∙ behind.placed i instr e;
    headed = headed-later at first loops number loop behind;
    bodied = bodied-later at first loops number loop behind;
    header_plan = ap (slice_get (plans_of_loops within (first ∷ loops))) (twice at first loops number loop behind) ∙ behind.header_plan;
    block_plan = ap (λ n. slice_get (plans_of_loops within (first ∷ loops)) (suc n)) (twice at first loops number loop behind) ∙ behind.block_plan;
  }
    where
      over : (l m i : ℕ) → l + m + i ≡ l + (m + i)
      over l m i = omega arith

  -- Each loop stands among the loops.
  pub loop-placed : (at : ℕ) (loops : List Concurrent) (number : ℕ) (loop : Concurrent) → slice_get loops number ≡ Some loop → LoopPlaced within at loops number loop
  loop-placed at [] zero loop e = absurd (none-some loop e)
  loop-placed at [] (suc number) loop e = absurd (none-some loop e)
  loop-placed at (first ∷ loops) zero loop e = subst (LoopPlaced within at (first ∷ loops) 0) (same_Some first loop e) (placed-first at first loops)
  loop-placed at (first ∷ loops) (suc number) loop e = placed-later at first loops number loop (loop-placed (at + length (loop_code within first)) loops number loop e)
