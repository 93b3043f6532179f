use Rattle.std.proofs.Common.{arith, ap, ◌∙◌}
use Rattle.dc_int.specs.Store.{value_at}
use Rattle.dc_store.specs.Rows.{shaped_of}
use Rattle.dc_store.specs.Shaped.{ShapedStore}
use Rattle.dc_store.proofs.Finding.{exists-in, within_rows, within_row, row-read, value-row}
use Rattle.dc_store.proofs.store.Store.value.Goals as goal

pub index-cells-requires : goal.index-cells-requires
index-cells-requires c =
    let rows = c.self.inside.rows in
    let exists = exists-in (shaped_of c.self.inside.shapes.items rows.items) c.args.self.now c.args.element c.self.view_is c.requires in
    let within = within_rows rows.items c.args.element exists in
    omega (arith, rows.ok.0, within)

pub index-requires : goal.index-requires
index-requires c =
    let rows = c.self.inside.rows in
    let row = c.index-cells.result.now in
    let exists = exists-in (shaped_of c.self.inside.shapes.items rows.items) c.args.self.now c.args.element c.self.view_is c.requires in
    let found = row-read rows.items c.args.element row exists c.index-cells.ensures in
    let within = within_row rows.items c.args.element row found exists in
    omega (arith, row.ok.0, within)

pub returns-clause-value : goal.returns-clause-value
returns-clause-value c =
    let rows = c.self.inside.rows in
    let exists = exists-in (shaped_of c.self.inside.shapes.items rows.items) c.args.self.now c.args.element c.self.view_is c.requires in
    let found = row-read rows.items c.args.element c.index-cells.result.now exists c.index-cells.ensures in
    value-row rows.items c.args.element c.index-cells.result.now c.index.result.now found exists c.index.ensures
    ∙ ap (λ (s : ShapedStore). value_at s.store c.args.element) c.self.view_is
