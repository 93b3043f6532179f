use Rattle.std.proofs.Common.{◌+◌, ◌-◌, ◌*◌, ℕ, List, drop, get_or, sym, ap, ◌∙◌}
use Rattle.std.specs.Prelude.{pos}
use Rattle.std.proofs.lemmas.List.{drop_more}
use Rattle.dc_tree.specs.Literals.{number_from}
use Rattle.dc_uses.specs.Constants.{is_kind}
use Rattle.dc_uses.proofs.KeptKinds.{kept_kinds}
use Rattle.dc_uses.proofs.constant.write_kind.Goals as goal

pub loop-digit-preserved : goal.loop-digit-preserved
loop-digit-preserved c =
    let k = c.loop-digit.digit-index in
    let digits = c.args.digits.now in
    let rest = drop (k + 1) digits in
    let number = c.loop-digit.number * 10 + (get_or digits k 0 - 48) in (
      ap (λ n. is_kind (pos (number_from n rest))) c.with_digit-number.ensures.kept
          ∙ kept_kinds number rest
          ∙ ap (λ (l : List ℕ). is_kind (pos (number_from c.loop-digit.number l))) (sym (drop_more digits k 0 c.loop-digit-test.true))
          ∙ c.loop-digit.invariant.0,
      c.with_digit-number.ensures.low,
    )
