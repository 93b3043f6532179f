-- The digits that come stand behind the number, which is capped.
use Rattle.std.proofs.Common.{◌≡◌, drop}
use Rattle.dc_tree.specs.Literals.{number_of, number_from}
use Rattle.dc_form.specs.Capped.{capped}
use Rattle.dc_form.proofs.capping.number_of.Given as goal

abbrev pub invariant-loop-digit : goal.invariant-loop-digit
invariant-loop-digit l = (capped (number_from l.number (drop l.digit-index l.digits)) ≡ capped (number_of l.digits)) × (capped l.number ≡ l.number)
