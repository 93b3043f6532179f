use Rattle.std.proofs.Common.{length, refl}
use Rattle.std.proofs.lemmas.Option.{slice_get_read}
use Rattle.dc_tree.proofs.Places.{noted, one_more}
use Rattle.dc_tree.proofs.symbols.note.Goals as goal

pub returns-clause-ok : goal.returns-clause-ok
returns-clause-ok c =
    let scopes = c.args.scopes.now.items in
    let own = c.index_mut-own.result.now in
    noted scopes c.args.scope c.args.name.items c.args.place own (record { names = c.insert.new.self; result = own.result }) c.requires
    (slice_get_read scopes (length scopes) c.args.scope own refl c.requires c.index_mut-own.ensures.value)
    (one_more own.names c.insert.new.self c.args.name c.args.place c.in_ok-insert.ensures.updates)
