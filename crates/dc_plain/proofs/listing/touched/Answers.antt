use Rattle.std.proofs.Common.{◌++◌, ap, ◌∙◌, map}
use Rattle.dc_int.specs.Entries.{touched_of}
use Rattle.dc_plain.specs.Views.{entry_of}
use Rattle.dc_plain.proofs.Touching.{fresh, fresh-none, touched-next}
use Rattle.dc_plain.proofs.listing.touched.Goals as goal

pub loop-note-init : goal.loop-note-init
loop-note-init c =
    ap (λ es. es ++ fresh es (touched_of (map entry_of c.args.notes.now))) c.new-elements.ensures ∙ fresh-none (touched_of (map entry_of c.args.notes.now))

pub loop-note-preserved : goal.loop-note-preserved
loop-note-preserved c =
    touched-next c.args.notes.now c.loop-note.note-index c.loop-note.elements c.add.new.elements _ (touched_of (map entry_of c.args.notes.now)) c.loop-note-test.true c.in_ok-add.ensures c.loop-note.invariant
