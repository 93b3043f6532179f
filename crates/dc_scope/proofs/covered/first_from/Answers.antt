use Rattle.std.proofs.Common.{rules, ℤ, List, sym, ap, ◌∙◌, SFits, to_z-of_z, w64}
use Rattle.std.specs.Prelude.{slice_get}
use Rattle.dc_scope.proofs.Ranges.{first_in_range}
use Rattle.dc_scope.proofs.covered.first_from.Goals as goal

pub returns-in-Some : goal.returns-in-Some
returns-in-Some c =
    let start : SFits w64 c.args.range.1 = search rules in
    let high : SFits w64 c.in-Some.high.now = search rules in
    let low : SFits w64 c.in-Some.low.now = search rules in
    rw (to_z-of_z high, to_z-of_z low)
    (ap (λ (l : List (ℤ × ℤ)). slice_get l 0) (sym c.in-Some.ensures.steps)
    ∙ first_in_range c.args.range _ (to_z-of_z start) c.args.lows.now.entries c.range.result (c.range.ensures.between tt))

pub returns-in-None : goal.returns-in-None
returns-in-None c =
    let start : SFits w64 c.args.range.1 = search rules in
    ap (λ (l : List (ℤ × ℤ)). slice_get l 0) (sym c.in-None.ensures.steps.0)
    ∙ first_in_range c.args.range _ (to_z-of_z start) c.args.lows.now.entries c.range.result (c.range.ensures.between tt)
