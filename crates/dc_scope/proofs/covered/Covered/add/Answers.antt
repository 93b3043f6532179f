use Rattle.std.proofs.Common.{rules, ◌∷◌, SFits, to_z-of_z, w64}
use Rattle.dc_scope.proofs.Ranges.{AreApart-insert, HaveSame-put}
use Rattle.dc_scope.proofs.covered.Covered.add.Goals as goal

pub invariant_of-self-2 : goal.invariant_of-self-2
invariant_of-self-2 c =
    let high : SFits w64 c.take_meeting-whole.result.0 = search rules in
    let low : SFits w64 c.take_meeting-whole.result.1 = search rules in
    let taken = c.take_meeting-whole.ensures in
    rw (c.in_ok-insert.ensures.entries, to_z-of_z high, to_z-of_z low)
    (AreApart-insert c.take_meeting-whole.result taken.numbers c.take_meeting-whole.new.lows.entries taken.apart taken.clear)

pub returns : goal.returns
returns c =
    let high : SFits w64 c.take_meeting-whole.result.0 = search rules in
    let low : SFits w64 c.take_meeting-whole.result.1 = search rules in
    let taken = c.take_meeting-whole.ensures in
    let put = HaveSame-put c.take_meeting-whole.result c.take_meeting-whole.new.lows.entries (c.args.range ∷ c.self.inside.lows.entries) taken.apart taken.numbers taken.clear taken.same in
    rw (c.in_ok-insert.ensures.entries, to_z-of_z high, to_z-of_z low, ← c.self.view_is) put
