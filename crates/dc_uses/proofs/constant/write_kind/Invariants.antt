use Rattle.std.proofs.Common.{◌≡◌, ◌≤◌, drop}
use Rattle.std.specs.Prelude.{pos}
use Rattle.dc_tree.specs.Literals.{number_of, number_from}
use Rattle.dc_uses.specs.Constants.{is_kind}
use Rattle.dc_uses.proofs.constant.write_kind.Given as goal

abbrev pub invariant-loop-digit : goal.invariant-loop-digit
invariant-loop-digit l = (is_kind (pos (number_from l.number (drop l.digit-index l.digits))) ≡ is_kind (pos (number_of l.digits))) × (l.number ≤ 9)
