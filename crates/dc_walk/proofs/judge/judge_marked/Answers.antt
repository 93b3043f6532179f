use Rattle.std.proofs.Common.{◌∙◌, sym, ap, Some}
use Rattle.std.specs.Prelude.{option_map}
use Rattle.dc_walk.specs.Judging.{told_of}
use Rattle.dc_walk.proofs.Racing.{judged-race, judged-well}
use Rattle.dc_walk.proofs.judge.judge_marked.Goals as goal

pub returns-in_ok-said-in-Some : goal.returns-in_ok-said-in-Some
returns-in_ok-said-in-Some g c =
    judged-race g.parts c.requires.0.plainly c.args.ledger.now.store c.args.active.now c.in_ok-said-in-Some.said c.requires.1.1.1.1
    (ap Some c.in_ok-said-in-Some.ensures ∙ ap (option_map told_of) (sym c.in-Some.is) ∙ c.in_ok-told.ensures)

pub returns-in_ok-go_on-in-None : goal.returns-in_ok-go_on-in-None
returns-in_ok-go_on-in-None g c =
    judged-well g.parts c.args.ledger.now.store c.go_on.new.ledger.store c.args.active.now c.requires.1.1.1.1
    (ap (option_map told_of) (sym c.in-None.is) ∙ c.in_ok-told.ensures) c.in_ok-go_on-in-None.ensures
