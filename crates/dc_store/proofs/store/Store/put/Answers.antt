use Rattle.std.proofs.Common.{arith, refl, ap, ◌∙◌}
use Rattle.std.specs.Vec.{with_item}
use Rattle.dc_int.specs.Shapes.{state_fits}
use Rattle.dc_store.specs.Rows.{shaped_of}
use Rattle.dc_store.specs.Shaped.{ShapedStore}
use Rattle.dc_store.proofs.Changing.{put_in, put-shaped, fitting-row}
use Rattle.dc_store.proofs.Finding.{exists-in, within_rows, within_row, row-read}
use Rattle.dc_store.proofs.store.Store.put.Goals as goal

pub index_mut-requires : goal.index_mut-requires
index_mut-requires c =
    let rows = c.self.inside.rows in
    let exists = exists-in (shaped_of c.self.inside.shapes.items rows.items) c.args.self.now c.args.element c.self.view_is c.requires.element in
    let within = within_rows rows.items c.args.element exists in
    omega (arith, rows.ok.0, within)

pub index_mut-requires-2 : goal.index_mut-requires-2
index_mut-requires-2 c =
    let rows = c.self.inside.rows in
    let row = c.index_mut.result.now in
    let exists = exists-in (shaped_of c.self.inside.shapes.items rows.items) c.args.self.now c.args.element c.self.view_is c.requires.element in
    let found = row-read rows.items c.args.element row exists c.index_mut.ensures.value in
    let within = within_row rows.items c.args.element row found exists in
    omega (arith, row.ok.0, within)

pub invariant_of-self : goal.invariant_of-self
invariant_of-self c =
    let shapes = c.self.inside.shapes.items in
    let rows = c.self.inside.rows.items in
    let x = c.args.element in
    let state = c.args.value in
    let row = c.index_mut.result.now in
    let exists = exists-in (shaped_of shapes rows) c.args.self.now x c.self.view_is c.requires.element in
    let found = row-read rows x row exists c.index_mut.ensures.value in
    let fits = ap (λ (s : ShapedStore). state_fits s.shapes x state) c.self.view_is ∙ c.requires.fits in
    fitting-row shapes rows x row (with_item row x.position state) state found refl c.self.invariant fits

pub returns-clause-put : goal.returns-clause-put
returns-clause-put c =
    let shapes = c.self.inside.shapes.items in
    let rows = c.self.inside.rows.items in
    let x = c.args.element in
    let state = c.args.value in
    let row = c.index_mut.result.now in
    let exists = exists-in (shaped_of shapes rows) c.args.self.now x c.self.view_is c.requires.element in
    let found = row-read rows x row exists c.index_mut.ensures.value in
    put-shaped shapes rows x row (with_item row x.position state) state found refl ∙ ap (put_in x state) c.self.view_is

pub returns-clause-fitting : goal.returns-clause-fitting
returns-clause-fitting c = invariant_of-self c
