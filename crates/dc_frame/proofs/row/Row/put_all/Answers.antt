use Rattle.std.proofs.Common.{rules, ap, ◌∙◌, map, replicate}
use Rattle.dc_frame.proofs.Changing.{map_same}
use Rattle.dc_frame.proofs.row.Row.put_all.Goals as goal

pub returns : goal.returns
returns c =
    let cells = c.self.inside.cells in
    c.fill.ensures.items (λ y clone. search rules) ∙ (ap (λ n. replicate n c.args.state) cells.ok.0 ∙ (map_same c.args.state cells.items ∙ ap (map (λ cell. c.args.state)) c.self.view_is))
