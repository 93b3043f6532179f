use Rattle.std.proofs.Common.{◌≡◌, ◌∷◌, Some, ap, sym, ◌∙◌, is_some, btree_map_len, int_cmp}
use Rattle.std.specs.List.{find}
use Rattle.std.specs.BTreeMap.{is_at}
use Rattle.dc_scope.specs.Ranges.{touches}
use Rattle.dc_scope.proofs.Ranges.{some_found, found-has_numbers, found-has_key, AreApart-remove, joined-has_numbers, one_less, HaveSame-taken}
use Rattle.dc_scope.proofs.covered.take_meeting.Goals as goal

pub loop-met-smaller : goal.loop-met-smaller
loop-met-smaller c =
    let met : find (touches c.loop-met.whole) c.loop-met.lows.entries ≡ Some c.in-Some.met = sym c.first_meeting.ensures ∙ c.in-Some.is in
    let some = ap is_some c.remove.ensures.value ∙ found-has_key (touches c.loop-met.whole) c.loop-met.lows.entries c.in-Some.met met in
    one_less (btree_map_len c.loop-met.lows) (btree_map_len c.remove.new.self) (is_some c.remove.result) c.remove.ensures.len some

pub loop-met-preserved : goal.loop-met-preserved
loop-met-preserved c =
    let before = c.loop-met.lows.entries in
    let met : find (touches c.loop-met.whole) before ≡ Some c.in-Some.met = sym c.first_meeting.ensures ∙ c.in-Some.is in
    let held = c.loop-met.invariant in
    rw (c.joined-whole.ensures, c.remove.ensures.entries) (
      AreApart-remove (is_at (int_cmp c.in-Some.met.0)) before held.0,
      joined-has_numbers c.loop-met.whole c.in-Some.met held.1 (found-has_numbers (touches c.loop-met.whole) before c.in-Some.met held.0 met),
      HaveSame-taken c.loop-met.whole c.in-Some.met before (c.args.range ∷ c.args.lows.now.entries) held.0 held.1 met held.2,
    )

pub returns-clause-clear : goal.returns-clause-clear
returns-clause-clear c =
    sym (some_found (touches c.loop-met.whole) c.loop-met.lows.entries) ∙ ap is_some (sym c.first_meeting.ensures ∙ c.in_default.is)
