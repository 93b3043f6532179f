use Rattle.std.proofs.Common.{[], ◌∷◌}
use Rattle.std.proofs.lemmas.Result.{on_ok_weaker}
use Rattle.dc_listing.specs.Words.{number}
use Rattle.dc_listing.proofs.Sections.{line_made}
use Rattle.dc_listing.proofs.whole.put_line.Goals as goal

pub returns : goal.returns
returns g c =
    on_ok_weaker c.push.result
    (line_made c.args.text.now c.args.word.now c.append.new.self c.put_number.new.text c.put.new.text c.push.new.self (number c.args.number ∷ []) (g.T.Listed.words c.args.item.now) c.in_ok-append.ensures.ok c.in_ok-put_number.ensures c.in_ok-put.ensures)
    c.push.ensures.ok
