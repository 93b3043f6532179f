use Rattle.std.proofs.Common.{◌≡◌, ◌∙◌, sym, ap, map, subst, Option, IfOk}
use Rattle.std.specs.Prelude.{option_map}
use Rattle.dc_code.specs.Verdicts.{Verdict}
use Rattle.dc_walk.specs.Judging.{combination, runs_of, told_of}
use Rattle.dc_plain.specs.Marks.{named_from}
use Rattle.dc_plain.specs.MarkViews.{named_of}
use Rattle.dc_walk.proofs.Racing.{among-none, among-some}
use Rattle.dc_walk.proofs.judge.race_among.Goals as goal

pub returns-in-Some : goal.returns-in-Some
returns-in-Some g c =
    let store = c.args.opening.now.store in
    let active = c.args.active.now in
    subst (λ (v : Option Verdict). IfOk c.race_of_pair.result (λ said. option_map told_of said ≡ v))
    (sym (among-some g.parts c.requires.0.plainly store (map combination active) (runs_of g.parts store active) (named_of c.in-Some.named)
    (ap (named_from 0) (sym c.requires.1.1) ∙ sym c.in-Some.ensures)))
    c.race_of_pair.ensures

pub returns-in-None : goal.returns-in-None
returns-in-None g c =
    let store = c.args.opening.now.store in
    let active = c.args.active.now in
    sym (among-none g.parts c.requires.0.plainly store (map combination active) (runs_of g.parts store active) (ap (named_from 0) (sym c.requires.1.1) ∙ sym c.in-None.ensures))
