use Rattle.std.proofs.Common.{map, sym, ap, ◌∙◌}
use Rattle.std.proofs.Math.ListN.{drop_of_length-le}
use Rattle.dc_int.specs.Store.{Store}
use Rattle.dc_plain.specs.TakingBack.{taken_back}
use Rattle.dc_plain.specs.Views.{variable_of, entry_of}
use Rattle.dc_plain.proofs.TakingBack.{left-back}
use Rattle.dc_plain.proofs.back.take_back.Goals as goal

pub returns : goal.returns
returns c =
    let notes = c.args.notes.now in
    let opening : Store = map variable_of c.args.opening.now in
    let before : Store = map variable_of c.args.variables.now.items in
    let after : Store = map variable_of c.loop-note.variables.items in
    let none = drop_of_length-le notes c.loop-note-test.false in
    left-back (map entry_of notes) opening before after (sym (ap (λ ns. taken_back (map entry_of ns) opening after) none) ∙ c.loop-note.invariant) c.requires
