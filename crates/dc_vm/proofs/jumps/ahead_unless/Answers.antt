use Rattle.std.proofs.Common.{◌≡◌, pos, FitsSigned, w64, to_z, sym, ap, ◌∙◌, rules}
use Rattle.std.proofs.lemmas.Int.{to_z-of_z}
use Rattle.dc_int.specs.Reductions.{truth}
use Rattle.dc_vm.proofs.Moved.{unless_false}
use Rattle.dc_vm.proofs.jumps.ahead_unless.Goals as goal

pub returns-else-value-ne0 : goal.returns-else-value-ne0
returns-else-value-ne0 c =
    let fits : FitsSigned w64 c.in-Ok.value = search rules in
    let zero : c.in-Ok.value ≡ pos 0 = sym (to_z-of_z w64 c.in-Ok.value fits) ∙ ap (to_z w64) c.if-value-ne0.false in
    unless_false c.ahead.result c.args.line c.args.target c.args.at c.args.turns c.args.frame.now c.value_off.new.frame c.in-Ok.value (c.in-Ok.ensures c.args.line) (ap truth zero) (c.ahead.ensures c.value_off.new.frame)
