-- How often a counted DO goes round, by natural numbers.
use Rattle.std.proofs.Common.{◌≡◌, ℕ, zero, suc, ◌+◌, ◌/◌, ◌<◌, refl, sym, ap, subst, ◌∙◌, arith}
use Rattle.std.proofs.lemmas.Int.{ints}
use Rattle.std.proofs.Math.Nat.{add-div_right, div-eq_of_lt}
use Rattle.std.specs.Prelude.{ℤ, pos, negsuc, neg_ℤ, ◌-ℤ◌, ◌+ℤ◌, ◌<ℤ◌, ◌≤ℤ◌, int_div, unsigned_abs, min, Result, Err}
use Rattle.dc_int.specs.declared.fault.FaultKind.{FaultKind}
use Rattle.dc_code.specs.Combinations.{Span, value_count, natural}
use Rattle.dc_code.specs.declared.frame.Item.{Item}
use Rattle.dc_code.specs.Computation.{give, sequence}
use Rattle.dc_code.specs.Frames.{Frame, pushed}
use Rattle.dc_code.specs.Instructions.{greatest_rounds, rounds_of, counted}
use Rattle.dc_code.specs.Operands.{faulty, value_off}
use Rattle.dc_code.specs.Troubles.{Computing}
use Rattle.dc_code.proofs.Sequences.{sequence-then}
use Rattle.dc_steps.specs.declared.halt.Halt.{Halt}
use Rattle.dc_steps.specs.Halting.{Gives, Leaves}
use Rattle.dc_steps.specs.Spans.{limits_off}
use Rattle.dc_steps.specs.Working.{value_pushed}

abbrev span_of : ℤ → ℤ → ℤ → Span
span_of first last step = record { first = first; last = last; step = step }

-- So many rounds, by the distance and the size of the step.
abbrev pub rounds_given : ℕ → ℕ → Computing ℤ
rounds_given distance step = give (pos (min (distance / step + 1) greatest_rounds))

-- how many values there are, where the last limit is so far from the first
abbrev count : ℤ → ℤ → ℕ
count apart step = natural (int_div (apart +ℤ step) step)

one-more : (n d : ℕ) → (n + suc d) / suc d ≡ n / suc d + 1
one-more n d = let less : 0 < suc d = omega arith in add-div_right n less

natural-neg : (n : ℕ) → natural (neg_ℤ (pos n)) ≡ 0
natural-neg zero = refl
natural-neg (suc n) = refl

-- ---- forward

forward-less : (sum : ℤ) (d : ℕ) → sum <ℤ pos (suc d) → natural (int_div sum (pos (suc d))) ≡ 0
forward-less (pos n) d less = let fewer : n < suc d = omega (arith, ints) in div-eq_of_lt fewer
forward-less (negsuc n) d less = natural-neg (suc n / suc d)

forward-more : (apart : ℤ) (d : ℕ) → pos 0 ≤ℤ apart → count apart (pos (suc d)) ≡ unsigned_abs apart / suc d + 1
forward-more (pos n) d ahead = one-more n d
forward-more (negsuc n) d ahead = absurd (omega (arith, ints))

forward-count : (first last : ℤ) (d : ℕ) → first ≤ℤ last → value_count (span_of first last (pos (suc d))) ≡ unsigned_abs (last -ℤ first) / suc d + 1
forward-count first last d within = forward-more (last -ℤ first) d (omega (arith, ints))

pub forward_some : (line : ℕ) (first last step : ℤ) → pos 0 <ℤ step → first ≤ℤ last → rounds_of line (span_of first last step) ≡ rounds_given (unsigned_abs (last -ℤ first)) (unsigned_abs step)
forward_some line first last (pos zero) up within = absurd (omega (arith, ints))
forward_some line first last (pos (suc d)) up within = ap (λ n. give (pos (min n greatest_rounds))) (forward-count first last d within)
forward_some line first last (negsuc d) up within = absurd (omega (arith, ints))

pub forward_none : (line : ℕ) (first last step : ℤ) → pos 0 <ℤ step → last <ℤ first → rounds_of line (span_of first last step) ≡ give (pos 0)
forward_none line first last (pos zero) up past = absurd (omega (arith, ints))
forward_none line first last (pos (suc d)) up past = ap (λ n. give (pos (min n greatest_rounds))) (forward-less ((last -ℤ first) +ℤ pos (suc d)) d (omega (arith, ints)))
forward_none line first last (negsuc d) up past = absurd (omega (arith, ints))

-- ---- back

back-less : (sum : ℤ) (d : ℕ) → negsuc d <ℤ sum → natural (int_div sum (negsuc d)) ≡ 0
back-less (pos n) d less = natural-neg (n / suc d)
back-less (negsuc n) d less = let fewer : suc n < suc d = omega (arith, ints) in div-eq_of_lt fewer

back-more : (apart : ℤ) (d : ℕ) → apart ≤ℤ pos 0 → count apart (negsuc d) ≡ unsigned_abs apart / suc d + 1
back-more (pos zero) d behind = ap (λ sum. natural (int_div sum (negsuc d))) (none d) ∙ ap (λ n. n / suc d) (sym (zero-more (suc d))) ∙ one-more 0 d
  where
    none : (d : ℕ) → pos 0 +ℤ negsuc d ≡ negsuc d
    none d = omega (arith, ints)

    zero-more : (n : ℕ) → 0 + n ≡ n
    zero-more n = omega arith
back-more (pos (suc n)) d behind = absurd (omega (arith, ints))
back-more (negsuc n) d behind = ap (λ sum. sum / suc d) (same n d) ∙ one-more (suc n) d
  where
    same : (m n : ℕ) → suc (suc (m + n)) ≡ suc m + suc n
    same m n = omega arith

turned : (apart : ℤ) → unsigned_abs (neg_ℤ apart) ≡ unsigned_abs apart
turned (pos zero) = refl
turned (pos (suc n)) = refl
turned (negsuc n) = refl

turned-round : (first last : ℤ) → last -ℤ first ≡ neg_ℤ (first -ℤ last)
turned-round first last = omega (arith, ints)

same-distance : (first last : ℤ) → unsigned_abs (last -ℤ first) ≡ unsigned_abs (first -ℤ last)
same-distance first last = ap unsigned_abs (turned-round first last) ∙ turned (first -ℤ last)

back-count : (first last : ℤ) (d : ℕ) → last ≤ℤ first → value_count (span_of first last (negsuc d)) ≡ unsigned_abs (first -ℤ last) / suc d + 1
back-count first last d within = back-more (last -ℤ first) d (omega (arith, ints)) ∙ ap (λ n. n / suc d + 1) (same-distance first last)

pub back_some : (line : ℕ) (first last step : ℤ) → step <ℤ pos 0 → last ≤ℤ first → rounds_of line (span_of first last step) ≡ rounds_given (unsigned_abs (first -ℤ last)) (unsigned_abs step)
back_some line first last (pos d) down within = absurd (omega (arith, ints))
back_some line first last (negsuc d) down within = ap (λ n. give (pos (min n greatest_rounds))) (back-count first last d within)

pub back_none : (line : ℕ) (first last step : ℤ) → step <ℤ pos 0 → first <ℤ last → rounds_of line (span_of first last step) ≡ give (pos 0)
back_none line first last (pos d) down past = absurd (omega (arith, ints))
back_none line first last (negsuc d) down past = ap (λ n. give (pos (min n greatest_rounds))) (back-less ((last -ℤ first) +ℤ negsuc d) d (omega (arith, ints)))

-- ---- no step

pub no_step : (line : ℕ) (first last step : ℤ) → step ≤ℤ pos 0 → pos 0 ≤ℤ step → rounds_of line (span_of first last step) ≡ faulty FaultKind.StepZero line
no_step line first last (pos zero) down up = refl
no_step line first last (pos (suc d)) down up = absurd (omega (arith, ints))
no_step line first last (negsuc d) down up = absurd (omega (arith, ints))

-- ---- with operands

abbrev rounds_pushed : ℕ → Span × Frame → Computing Frame
rounds_pushed line w = sequence (rounds_of line w.0) (λ rounds. give (pushed (Item.Value rounds) w.1))

limits-first : (line : ℕ) (frame : Frame) → sequence (limits_off line frame) (rounds_pushed line) ≡ counted line frame
limits-first line frame =
    sequence-then (value_off line frame) (λ (step, below). sequence (value_off line below) (λ (last, under). last_off step last under)) (rounds_pushed line)
    ∙ (λ i. sequence (value_off line frame) (λ w. second w.0 w.1 i))
  where
    last_off : ℤ → ℤ → Frame → Computing (Span × Frame)
    last_off step last under = sequence (value_off line under) (λ (first, left). give (span_of first last step, left))

    second : (step : ℤ) (below : Frame)
        → sequence (sequence (value_off line below) (λ (last, under). sequence (value_off line under) (λ (first, left). give (span_of first last step, left)))) (rounds_pushed line)
        ≡ sequence (value_off line below) (λ (last, under). sequence (value_off line under) (λ (first, left). rounds_pushed line (span_of first last step, left)))
    second step below =
        sequence-then (value_off line below) (λ (last, under). sequence (value_off line under) (λ (first, left). give (span_of first last step, left))) (rounds_pushed line)
        ∙ (λ i. sequence (value_off line below) (λ w. sequence-then (value_off line w.1) (λ (first, left). give (span_of first w.0 step, left)) (rounds_pushed line) i))

module _ (line : ℕ) (frame left : Frame) (span : Span) (taken : limits_off line frame ≡ give (span, left)) where
  operands : counted line frame ≡ rounds_pushed line (span, left)
  operands = sym (limits-first line frame) ∙ ap (λ c. sequence c (rounds_pushed line)) taken

  pub counted_so : (rounds given : ℤ) (result : Result Unit Halt) (after : Frame)
      → rounds_of line span ≡ give rounds → given ≡ rounds → Leaves line result after (value_pushed given left)
      → Leaves line result after (counted line frame)
  counted_so rounds given result after is same leaves =
      subst (Leaves line result after) (sym (operands ∙ ap (λ c. sequence c (λ rounds. give (pushed (Item.Value rounds) left))) is))
      (subst (λ z. Leaves line result after (value_pushed z left)) same leaves)

  pub counted_halts : (halt : Halt) (after : Frame) → Gives line (Err halt) (λ (z : ℤ). z) (rounds_of line span) → Leaves {A = Unit} line (Err halt) after (counted line frame)
  counted_halts (Halt.Fault kind) after is = operands ∙ ap (λ c. sequence c (λ rounds. give (pushed (Item.Value rounds) left))) is
  counted_halts Halt.NoMemory after is = tt

-- Where a limit is missing.
pub counted_stops : (line : ℕ) (frame after : Frame) (halt : Halt) → Gives line (Err halt) (λ (w : Span × Frame). w) (limits_off line frame) → Leaves {A = Unit} line (Err halt) after (counted line frame)
counted_stops line frame after (Halt.Fault kind) is = sym (limits-first line frame) ∙ ap (λ c. sequence c (rounds_pushed line)) is
counted_stops line frame after Halt.NoMemory is = tt

pub ruleset counts = (forward_some, forward_none, back_some, back_none, no_step)
