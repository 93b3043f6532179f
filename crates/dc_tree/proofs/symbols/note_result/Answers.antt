use Rattle.std.proofs.Common.{length, refl}
use Rattle.std.proofs.lemmas.Option.{slice_get_read}
use Rattle.dc_tree.proofs.Results.{result_noted}
use Rattle.dc_tree.proofs.symbols.note_result.Goals as goal

pub returns-clause-results : goal.returns-clause-results
returns-clause-results c =
    let scopes = c.args.scopes.now.items in
    let own = c.index_mut-own.result.now in
    result_noted scopes c.args.scope c.args.form own (record { names = own.names; result = c.or-own.result }) c.requires
    (slice_get_read scopes (length scopes) c.args.scope own refl c.requires c.index_mut-own.ensures.value) c.or-own.ensures
