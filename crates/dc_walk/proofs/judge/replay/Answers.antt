use Rattle.std.proofs.Common.{rules, ◌≡◌, ◌∙◌, [], sym, ap, None}
use Rattle.dc_code.specs.Verdicts.{race_of, race_in}
use Rattle.dc_plain.specs.Plainly.{plain}
use Rattle.dc_plain.specs.Views.{entries_of}
use Rattle.dc_walk.specs.Judging.{IsDone, combination}
use Rattle.dc_walk.proofs.Racing.{two-runs}
use Rattle.dc_walk.proofs.judge.replay.Goals as goal

pub returns : goal.returns
returns g c =
    let store = c.args.opening.now.store in
    let i = c.args.named.first in
    let j = c.args.named.second in
    let one : IsDone (g.parts.block store [] (combination c.args.first)) c.iterate.new.ledger None = search rules in
    let two : IsDone (g.parts.block c.iterate.new.ledger.store [] (combination c.args.second)) c.iterate-2.new.ledger c.in_ok-_met._met = search rules in
    let before : entries_of c.as_slice.result.now ≡ c.iterate.new.ledger.entries = search rules in
    let after : entries_of c.notes.result.now ≡ c.iterate-2.new.ledger.entries = search rules in
    c.race_by.ensures ∙ (λ k. race_of plain i j (before k) (after k))
    ∙ ap (race_in plain i j) (sym (two-runs g.parts store c.args.first c.args.second c.iterate.new.ledger c.iterate-2.new.ledger c.in_ok-_met._met one two))
