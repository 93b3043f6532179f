use Rattle.std.proofs.Common.{refl, sym, ap, ◌∙◌, slice_get, Some, None}
use Rattle.std.proofs.lemmas.Option.{slice_get_read, slice_get_past}
use Rattle.dc_entities.specs.Numbering.{numbers_of}
use Rattle.dc_entities.proofs.Naming.{name-placed, name-unplaced, name-unnumbered, few-at}
use Rattle.dc_entities.proofs.names.outer.Goals as goal

pub returns-in_default-clause-found : goal.returns-in_default-clause-found
returns-in_default-clause-found c = name-unplaced c.args.symbols.now c.args.name.now c.requires.built (sym c.place.ensures ∙ c.in_default.is)

pub returns-in_default-get-clause-found : goal.returns-in_default-get-clause-found
returns-in_default-get-clause-found c =
    let past = slice_get_past c.as_slice.result.now c.in-Some.place c.in_default-get.ensures.lookup.3 in
    name-placed c.args.symbols.now c.args.name.now c.in-Some.place None (slice_get (numbers_of c.args.symbols.now) c.in-Some.place) c.requires.built (sym c.place.ensures ∙ c.in-Some.is)
    (ap (λ s. slice_get s c.in-Some.place) (sym c.as_slice.ensures.symbols) ∙ past) refl

pub declared-requires-clause-few : goal.declared-requires-clause-few
declared-requires-clause-few c =
    let h = c.in-Some-get.ensures.lookup in
    let found = slice_get_read c.as_slice.result.now _ c.in-Some.place c.in-Some-get.symbol.now refl h.3.0 h.1 in
    few-at c.args.symbols.now c.in-Some.place c.in-Some-get.symbol.now c.requires.built (ap (λ s. slice_get s c.in-Some.place) (sym c.as_slice.ensures.symbols) ∙ found)

pub returns-in-Some-at-clause-found : goal.returns-in-Some-at-clause-found
returns-in-Some-at-clause-found c =
    let h = c.in-Some-get.ensures.lookup in
    let found = slice_get_read c.as_slice.result.now _ c.in-Some.place c.in-Some-get.symbol.now refl h.3.0 h.1 in
    c.declared.ensures.found
    ∙ name-placed c.args.symbols.now c.args.name.now c.in-Some.place (Some c.in-Some-get.symbol.now) (Some c.in-Some-at.number) c.requires.built (sym c.place.ensures ∙ c.in-Some.is)
    (ap (λ s. slice_get s c.in-Some.place) (sym c.as_slice.ensures.symbols) ∙ found)
    (ap (λ l. slice_get l c.in-Some.place) (sym c.requires.numbers) ∙ sym c.at.ensures ∙ c.in-Some-at.is)

pub returns-in-None-clause-found : goal.returns-in-None-clause-found
returns-in-None-clause-found c =
    name-unnumbered c.args.symbols.now c.args.name.now c.in-Some.place (slice_get c.args.symbols.now c.in-Some.place) c.requires.built (sym c.place.ensures ∙ c.in-Some.is) refl
    (ap (λ l. slice_get l c.in-Some.place) (sym c.requires.numbers) ∙ sym c.at.ensures ∙ c.in-None.is)
