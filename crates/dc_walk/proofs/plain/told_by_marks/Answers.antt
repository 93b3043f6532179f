use Rattle.std.proofs.Common.{◌∙◌, sym, ap}
use Rattle.std.specs.Prelude.{option_map}
use Rattle.dc_walk.specs.Judging.{told_of}
use Rattle.dc_walk.proofs.Saying.{said-race, said-well}
use Rattle.dc_walk.proofs.plain.told_by_marks.Goals as goal

pub returns-in-Some : goal.returns-in-Some
returns-in-Some g c =
    said-race g.parts c.args.ledger.now.store c.args.active.now c.in-Some.told c.requires.1.1.1.1
    (ap (option_map told_of) (sym c.in-Some.is) ∙ c.in_ok-told.ensures)

pub returns-in_ok-closing-in-None : goal.returns-in_ok-closing-in-None
returns-in_ok-closing-in-None g c =
    said-well g.parts c.args.ledger.now.store c.go_on.new.ledger.store c.args.active.now c.in_ok-closing-in-None.closing c.requires.1.1.1.1
    (ap (option_map told_of) (sym c.in-None.is) ∙ c.in_ok-told.ensures) c.in_ok-go_on-in-None.ensures c.in_ok-closing-in-None.ensures
