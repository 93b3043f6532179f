use Rattle.std.proofs.Common.{List, None, Some, ap, ◌∙◌}
use Rattle.std.specs.Option.{option_copied}
use Rattle.dc_tree.specs.declared.symbols.Symbol.{Symbol}
use Rattle.dc_tree.specs.Places.{place_in}
use Rattle.dc_tree.specs.Symbols.{symbol_at}
use Rattle.dc_tree.proofs.Places.{found}
use Rattle.dc_tree.proofs.symbols.Symbols.lookup.Goals as goal

pub returns-in_err-place-clause-symbol : goal.returns-in_err-place-clause-symbol
returns-in_err-place-clause-symbol c =
    let scopes = c.self.inside.scopes.items in
    let none = c.in_err-place.ensures ∙ ap (λ m. place_in m c.args.scope c.args.name.now) c.as_slice.ensures.value in
    ap option_copied c.from_residual.ensures ∙ found scopes c.self.inside.symbols c.self.invariant.index c.args.scope c.args.name.now None none
    ∙ ap (λ (xs : List Symbol). symbol_at xs c.args.scope c.args.name.now) c.self.view_is

pub returns-clause-symbol : goal.returns-clause-symbol
returns-clause-symbol c =
    let scopes = c.self.inside.scopes.items in
    let some = c.in_ok-place.ensures ∙ ap (λ m. place_in m c.args.scope c.args.name.now) c.as_slice.ensures.value in
    c.get.ensures.item ∙ found scopes c.self.inside.symbols c.self.invariant.index c.args.scope c.args.name.now (Some c.in_ok-place.place) some
    ∙ ap (λ (xs : List Symbol). symbol_at xs c.args.scope c.args.name.now) c.self.view_is
