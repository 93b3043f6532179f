-- Numbers of the widest kind, and those of the others among them.
use Rattle.std.proofs.Common.{◌≡◌, Bool, true, false, Option, Some, None, Ok, Err, sym, ap, ◌∙◌, arith, ◌⊎◌, inl, inr}
use Rattle.std.proofs.lemmas.Bool.{cases_Bool, false_from_ne_true}
use Rattle.std.proofs.lemmas.Int.{ints}
use Rattle.std.specs.Prelude.{ℤ, if◌then◌else◌}
use Rattle.dc_int.specs.declared.fault.FaultKind.{FaultKind}
use Rattle.dc_int.specs.declared.kind.Kind.{Kind}
use Rattle.dc_int.specs.Kinds.{InRange, is_of_kind}
use Rattle.dc_int.proofs.Wraps.{is_of_kind-true, is_of_kind-holds}
use Rattle.dc_lists.specs.Input.{of_kind}

in_widest : (kind : Kind) (z : ℤ) → InRange kind z → InRange Kind.K8 z
in_widest Kind.K1 z within = (omega (arith, ints, within.0), omega (arith, ints, within.1))
in_widest Kind.K2 z within = (omega (arith, ints, within.0), omega (arith, ints, within.1))
in_widest Kind.K4 z within = (omega (arith, ints, within.0), omega (arith, ints, within.1))
in_widest Kind.K8 z within = within

-- the number that was found
the_number : (found : Option ℤ) (z : ℤ) → of_kind Kind.K8 found ≡ Ok z → found ≡ Some z
the_number None z wide = absurd (cc)
the_number (Some number) z wide = by (is_of_kind Kind.K8 number) wide
  where
    by : (test : Bool) → (if test then Ok number else Err FaultKind.BadInput) ≡ Ok z → Some number ≡ Some z
    by true is = cc
    by false is = absurd (cc)

-- it is one of the kind, or it isn't
pub narrowed : (kind : Kind) (found : Option ℤ) (z : ℤ) → of_kind Kind.K8 found ≡ Ok z → InRange kind z → of_kind kind found ≡ Ok z
narrowed kind found z wide within =
    let test = is_of_kind-holds kind z within in
    ap (of_kind kind) (the_number found z wide) ∙ (λ i. if test i then Ok z else Err FaultKind.BadInput)

pub wider : (kind : Kind) (found : Option ℤ) (z : ℤ) → of_kind Kind.K8 found ≡ Ok z → ¬ InRange kind z → of_kind kind found ≡ Err FaultKind.BadInput
wider kind found z wide outside =
    let test = false_from_ne_true (is_of_kind kind z) (λ holds. outside (is_of_kind-true kind z holds)) in
    ap (of_kind kind) (the_number found z wide) ∙ (λ i. if test i then Ok z else Err FaultKind.BadInput)

-- none was found
pub none_narrowed : (kind : Kind) (found : Option ℤ) (fault : FaultKind) → of_kind Kind.K8 found ≡ Err fault → of_kind kind found ≡ Err fault
none_narrowed kind None fault wide = wide
none_narrowed kind (Some number) fault wide = by (cases_Bool (is_of_kind kind number)) wide
  where
    from : (test : Bool) → (if test then Ok number else Err FaultKind.BadInput) ≡ Err fault → of_kind kind None ≡ Err fault
    from true is = absurd (cc)
    from false is = is

    by : (is_of_kind kind number ≡ true) ⊎ (is_of_kind kind number ≡ false)
        → (if is_of_kind Kind.K8 number then Ok number else Err FaultKind.BadInput) ≡ Err fault → of_kind kind (Some number) ≡ Err fault
    by (inl test) is =
        let within = is_of_kind-holds Kind.K8 number (in_widest kind number (is_of_kind-true kind number test)) in
        absurd (let other : Ok number ≡ Err fault = sym (λ i. if within i then Ok number else Err FaultKind.BadInput) ∙ is in cc)
    by (inr test) is = (λ i. if test i then Ok number else Err FaultKind.BadInput) ∙ from (is_of_kind Kind.K8 number) is
