use Rattle.std.proofs.Common.{rules, FitsSigned, w64, ap, ◌-◌, ◌∙◌, arith}
use Rattle.std.proofs.lemmas.Int.{to_z-of_z}
use Rattle.dc_code.specs.Frames.{innermost_changed}
use Rattle.dc_frame.specs.contracts.frame.Frame.{the_view}
use Rattle.dc_frame.specs.Units.{dummy_set}
use Rattle.dc_frame.proofs.Innermost.{innermost-put}
use Rattle.dc_frame.proofs.frame.Frame.put_dummy.Goals as goal

pub returns : goal.returns
returns c =
    let units = c.self.inside.units in
    let change = dummy_set c.args.number c.args.value in
    let fits : FitsSigned w64 c.args.value = search rules in
    innermost-put change (the_view c.self.inside) (c.len-last.result - 1) c.index_mut.result.now c.put_dummy.new.self c.self.invariant.0 (omega (arith, units.ok.0)) c.index_mut.ensures.value (simp to_z-of_z at c.put_dummy.ensures)
    ∙ ap (innermost_changed change) c.self.view_is
