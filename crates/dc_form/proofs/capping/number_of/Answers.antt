-- A step by a digit, and the end.
use Rattle.std.proofs.Common.{◌≡◌, ◌+◌, ◌*◌, ◌-◌, ℕ, List, ◌∷◌, drop, sym, ap, ◌∙◌, arith}
use Rattle.std.specs.Prelude.{slice_index_or}
use Rattle.std.proofs.lemmas.List.{drop_more, drop_all}
use Rattle.dc_tree.specs.Literals.{number_from}
use Rattle.dc_form.specs.Capped.{capped}
use Rattle.dc_form.proofs.Capped.{capped-next, capped-again}
use Rattle.dc_form.proofs.capping.number_of.Goals as goal

pub loop-digit-preserved : goal.loop-digit-preserved
loop-digit-preserved c =
    let k = c.loop-digit.digit-index in
    let digits = c.args.digits.now in
    let rest = drop (k + 1) digits in
    let digit = slice_index_or digits k 0 in
    let n = c.loop-digit.number in
    let left : drop k digits ≡ digit ∷ rest = drop_more digits k 0 c.loop-digit-test.true in
    let next = c.with_digit-number.ensures in (
      ap (λ m. capped (number_from m rest)) next ∙ capped-next n digit rest ∙ ap (λ (l : List ℕ). capped (number_from n l)) (sym left) ∙ c.loop-digit.invariant.0,
      ap capped next ∙ capped-again (n * 10 + (digit - 48)) ∙ sym next,
    )

pub returns : goal.returns
returns c =
    let k = c.loop-digit.digit-index in
    sym c.loop-digit.invariant.1 ∙ ap (λ (l : List ℕ). capped (number_from c.loop-digit.number l)) (sym (drop_all k c.args.digits.now (omega (arith, c.loop-digit-test.false))))
    ∙ c.loop-digit.invariant.0
