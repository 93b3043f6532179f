use Rattle.std.proofs.Common.{rules, sym, ap, ◌∙◌, Ok}
use Rattle.std.proofs.lemmas.Int.{to_z-of_z}
use Rattle.std.proofs.lemmas.Result.{err_from_is_err_and}
use Rattle.std.specs.Prelude.{FitsSigned}
use Rattle.std.specs.Int.{w64}
use Rattle.dc_lists.specs.Input.{signed_in}
use Rattle.dc_lists.proofs.Narrowing.{narrowed, wider, none_narrowed}
use Rattle.dc_lists.proofs.values.number_in.Goals as goal

pub returns-in_err-number : goal.returns-in_err-number
returns-in_err-number c =
    let fault = err_from_is_err_and c.from_residual.result c.from_residual.ensures.1 in
    rw (fault.1, fault.2) (sym (none_narrowed c.args.kind (signed_in c.args.text.now) c.in_err-number.field-0.0 (sym c.in_err-number.ensures)))

pub returns-then-contains : goal.returns-then-contains
returns-then-contains c =
    let fits : FitsSigned w64 c.in_ok-number.number = search rules in
    let same = to_z-of_z w64 c.in_ok-number.number fits in
    sym (narrowed c.args.kind (signed_in c.args.text.now) _ (sym c.in_ok-number.ensures ∙ ap (λ n. Ok n) (sym same)) (c.contains.ensures.0 c.if-contains.true))

pub returns-else-contains : goal.returns-else-contains
returns-else-contains c =
    let fits : FitsSigned w64 c.in_ok-number.number = search rules in
    let same = to_z-of_z w64 c.in_ok-number.number fits in
    sym (wider c.args.kind (signed_in c.args.text.now) _ (sym c.in_ok-number.ensures ∙ ap (λ n. Ok n) (sym same))
    (λ within. let holds = c.contains.ensures.1 within in search rules))
