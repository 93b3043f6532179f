-- The small code is well formed.
use Rattle.std.proofs.Common.{◌≡◌, ◌≤◌, ◌<◌, ℕ, zero, suc, [], ◌∷◌, Some, refl, subst, arith}
use Rattle.std.proofs.lemmas.Option.{same_Some}
use Rattle.std.specs.Prelude.{slice_get, pos}
use Rattle.dc_int.specs.declared.kind.Kind.{Kind}
use Rattle.dc_code.specs.declared.instr.Instr.{Instr}
use Rattle.dc_code.specs.declared.instr.What.{What}
use Rattle.dc_code.specs.StackSorts.{Sorts, number, in_variable, in_group}
use Rattle.dc_code.specs.WellFormed.{IsWellFormed, Part, PlanFits, Stands, end_of, main, header, body, parts}
use Rattle.listing_rows.specs.Small.{at_line, instructions, empty_plan, body_plan, construct, small}

abbrev main_part : Part
main_part = record { kind = main; start = 0; plan = empty_plan }

abbrev header_part : Part
header_part = record { kind = header construct; start = 2; plan = empty_plan }

abbrev body_part : Part
body_part = record { kind = body construct; start = 6; plan = body_plan }

-- What holds of each part holds of the part with a number.
by_part
    : (P : Part → Type 0) → P main_part → P header_part → P body_part → (number : ℕ) (part : Part) → slice_get (parts small) number ≡ Some part → P part
by_part P one two three zero part is = subst P (same_Some main_part part is) one
by_part P one two three (suc zero) part is = subst P (same_Some header_part part is) two
by_part P one two three (suc (suc zero)) part is = subst P (same_Some body_part part is) three
by_part P one two three (suc (suc (suc k))) part is = absurd (cc)

-- what stands on the stack at each place
abbrev sorts_at : ℕ → Sorts
sorts_at zero = []
sorts_at (suc zero) = []
sorts_at (suc (suc zero)) = []
sorts_at (suc (suc (suc zero))) = number Kind.K4 ∷ []
sorts_at (suc (suc (suc (suc zero)))) = number Kind.K4 ∷ number Kind.K4 ∷ []
sorts_at (suc (suc (suc (suc (suc zero))))) = number Kind.K4 ∷ number Kind.K4 ∷ number Kind.K4 ∷ []
sorts_at (suc (suc (suc (suc (suc (suc zero)))))) = []
sorts_at (suc (suc (suc (suc (suc (suc (suc zero))))))) = in_group 0 ∷ []
sorts_at (suc (suc (suc (suc (suc (suc (suc (suc zero)))))))) = number Kind.K4 ∷ []
sorts_at (suc (suc (suc (suc (suc (suc (suc (suc (suc zero))))))))) = in_group 0 ∷ number Kind.K4 ∷ []
sorts_at (suc (suc (suc (suc (suc (suc (suc (suc (suc (suc zero)))))))))) = number Kind.K4 ∷ number Kind.K4 ∷ []
sorts_at (suc (suc (suc (suc (suc (suc (suc (suc (suc (suc (suc zero))))))))))) = in_variable 0 ∷ number Kind.K4 ∷ []
sorts_at (suc (suc (suc (suc (suc (suc (suc (suc (suc (suc (suc (suc zero)))))))))))) = []
sorts_at (suc (suc (suc (suc (suc (suc (suc (suc (suc (suc (suc (suc (suc k))))))))))))) = []

-- An instruction that stands where it does, and what it leaves on the stack.
abbrev Found : Part → ℕ → Instr → Type 0
Found part at instr = (after : Sorts) × Stands small sorts_at part at instr after

main_stands : (at : ℕ) (instr : Instr) → 0 ≤ at → at < 2 → slice_get instructions at ≡ Some instr → Found main_part at instr
main_stands zero instr low high is =
    subst (Found main_part 0) (same_Some (at_line 2 (What.Enter 0)) instr is) (
      [],
      record {
        operands = refl;
        place = refl;
        changed = refl;
        contributed = tt;
        next = λ goes. (omega arith, refl);
        jump = λ target is. absurd (cc);
        no_result = λ target found is. absurd (cc);
        end = λ ends. absurd (cc);
      },
    )
main_stands (suc zero) instr low high is =
    subst (Found main_part 1) (same_Some (at_line 5 What.End) instr is) (
      [],
      record {
        operands = refl;
        place = refl;
        changed = refl;
        contributed = tt;
        next = λ goes. absurd (cc);
        jump = λ target is. absurd (cc);
        no_result = λ target found is. absurd (cc);
        end = λ ends. refl;
      },
    )
main_stands (suc (suc k)) instr low high is = absurd (omega (arith, high))

header_stands : (at : ℕ) (instr : Instr) → 2 ≤ at → at < 6 → slice_get instructions at ≡ Some instr → Found header_part at instr
header_stands zero instr low high is = absurd (omega (arith, low))
header_stands (suc zero) instr low high is = absurd (omega (arith, low))
header_stands (suc (suc zero)) instr low high is =
    subst (Found header_part 2) (same_Some (at_line 2 (What.Const Kind.K4 (pos 1))) instr is) (
      number Kind.K4 ∷ [],
      record {
        operands = refl;
        place = refl;
        changed = refl;
        contributed = tt;
        next = λ goes. (omega arith, refl);
        jump = λ target is. absurd (cc);
        no_result = λ target found is. absurd (cc);
        end = λ ends. absurd (cc);
      },
    )
header_stands (suc (suc (suc zero))) instr low high is =
    subst (Found header_part 3) (same_Some (at_line 2 (What.Const Kind.K4 (pos 3))) instr is) (
      number Kind.K4 ∷ number Kind.K4 ∷ [],
      record {
        operands = refl;
        place = refl;
        changed = refl;
        contributed = tt;
        next = λ goes. (omega arith, refl);
        jump = λ target is. absurd (cc);
        no_result = λ target found is. absurd (cc);
        end = λ ends. absurd (cc);
      },
    )
header_stands (suc (suc (suc (suc zero)))) instr low high is =
    subst (Found header_part 4) (same_Some (at_line 2 (What.Const Kind.K4 (pos 1))) instr is) (
      number Kind.K4 ∷ number Kind.K4 ∷ number Kind.K4 ∷ [],
      record {
        operands = refl;
        place = refl;
        changed = refl;
        contributed = tt;
        next = λ goes. (omega arith, refl);
        jump = λ target is. absurd (cc);
        no_result = λ target found is. absurd (cc);
        end = λ ends. absurd (cc);
      },
    )
header_stands (suc (suc (suc (suc (suc zero))))) instr low high is =
    subst (Found header_part 5) (same_Some (at_line 2 What.End) instr is) (
      number Kind.K4 ∷ number Kind.K4 ∷ number Kind.K4 ∷ [],
      record {
        operands = refl;
        place = refl;
        changed = refl;
        contributed = tt;
        next = λ goes. absurd (cc);
        jump = λ target is. absurd (cc);
        no_result = λ target found is. absurd (cc);
        end = λ ends. refl;
      },
    )
header_stands (suc (suc (suc (suc (suc (suc k)))))) instr low high is = absurd (omega (arith, high))

body_stands : (at : ℕ) (instr : Instr) → 6 ≤ at → at < 13 → slice_get instructions at ≡ Some instr → Found body_part at instr
body_stands zero instr low high is = absurd (omega (arith, low))
body_stands (suc zero) instr low high is = absurd (omega (arith, low))
body_stands (suc (suc zero)) instr low high is = absurd (omega (arith, low))
body_stands (suc (suc (suc zero))) instr low high is = absurd (omega (arith, low))
body_stands (suc (suc (suc (suc zero)))) instr low high is = absurd (omega (arith, low))
body_stands (suc (suc (suc (suc (suc zero))))) instr low high is = absurd (omega (arith, low))
body_stands (suc (suc (suc (suc (suc (suc zero)))))) instr low high is =
    subst (Found body_part 6) (same_Some (at_line 3 (What.SubscriptSlot 0)) instr is) (
      in_group 0 ∷ [],
      record {
        operands = refl;
        place = refl;
        changed = refl;
        contributed = tt;
        next = λ goes. (omega arith, refl);
        jump = λ target is. absurd (cc);
        no_result = λ target found is. absurd (cc);
        end = λ ends. absurd (cc);
      },
    )
body_stands (suc (suc (suc (suc (suc (suc (suc zero))))))) instr low high is =
    subst (Found body_part 7) (same_Some (at_line 3 (What.LoadSlot 0)) instr is) (
      number Kind.K4 ∷ [],
      record {
        operands = refl;
        place = refl;
        changed = refl;
        contributed = tt;
        next = λ goes. (omega arith, refl);
        jump = λ target is. absurd (cc);
        no_result = λ target found is. absurd (cc);
        end = λ ends. absurd (cc);
      },
    )
body_stands (suc (suc (suc (suc (suc (suc (suc (suc zero)))))))) instr low high is =
    subst (Found body_part 8) (same_Some (at_line 3 (What.SubscriptSlot 0)) instr is) (
      in_group 0 ∷ number Kind.K4 ∷ [],
      record {
        operands = refl;
        place = refl;
        changed = refl;
        contributed = tt;
        next = λ goes. (omega arith, refl);
        jump = λ target is. absurd (cc);
        no_result = λ target found is. absurd (cc);
        end = λ ends. absurd (cc);
      },
    )
body_stands (suc (suc (suc (suc (suc (suc (suc (suc (suc zero))))))))) instr low high is =
    subst (Found body_part 9) (same_Some (at_line 3 (What.LoadSlot 0)) instr is) (
      number Kind.K4 ∷ number Kind.K4 ∷ [],
      record {
        operands = refl;
        place = refl;
        changed = refl;
        contributed = tt;
        next = λ goes. (omega arith, refl);
        jump = λ target is. absurd (cc);
        no_result = λ target found is. absurd (cc);
        end = λ ends. absurd (cc);
      },
    )
body_stands (suc (suc (suc (suc (suc (suc (suc (suc (suc (suc zero)))))))))) instr low high is =
    subst (Found body_part 10) (same_Some (at_line 3 (What.Subscript 0)) instr is) (
      in_variable 0 ∷ number Kind.K4 ∷ [],
      record {
        operands = refl;
        place = refl;
        changed = refl;
        contributed = tt;
        next = λ goes. (omega arith, refl);
        jump = λ target is. absurd (cc);
        no_result = λ target found is. absurd (cc);
        end = λ ends. absurd (cc);
      },
    )
body_stands (suc (suc (suc (suc (suc (suc (suc (suc (suc (suc (suc zero))))))))))) instr low high is =
    subst (Found body_part 11) (same_Some (at_line 3 (What.Store 0)) instr is) (
      [],
      record {
        operands = refl;
        place = refl;
        changed = refl;
        contributed = tt;
        next = λ goes. (omega arith, refl);
        jump = λ target is. absurd (cc);
        no_result = λ target found is. absurd (cc);
        end = λ ends. absurd (cc);
      },
    )
body_stands (suc (suc (suc (suc (suc (suc (suc (suc (suc (suc (suc (suc zero)))))))))))) instr low high is =
    subst (Found body_part 12) (same_Some (at_line 4 What.End) instr is) (
      [],
      record {
        operands = refl;
        place = refl;
        changed = refl;
        contributed = tt;
        next = λ goes. absurd (cc);
        jump = λ target is. absurd (cc);
        no_result = λ target found is. absurd (cc);
        end = λ ends. refl;
      },
    )
body_stands (suc (suc (suc (suc (suc (suc (suc (suc (suc (suc (suc (suc (suc k))))))))))))) instr low high is = absurd (omega (arith, high))

abbrev AllStand : Part → Type 0
AllStand part =
    (at : ℕ) (instr : Instr) → part.start ≤ at → at < end_of small part.start → slice_get small.instructions at ≡ Some instr → Found part at instr

pub small-well_formed : IsWellFormed small
small-well_formed =
    record {
      bounds = refl;
      sizes = refl;
      plans = refl;
      constructs = refl;
      different = refl;
      inside = refl;
      plan_fits = by_part (λ part. PlanFits small part.kind part.plan) refl refl (refl, (refl, refl));
      sorts = sorts_at;
      beginning = by_part (λ part. sorts_at part.start ≡ []) refl refl refl;
      stands = by_part AllStand main_stands header_stands body_stands;
    }
