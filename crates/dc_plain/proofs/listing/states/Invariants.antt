use Rattle.std.proofs.Common.{◌≡◌, ◌++◌, drop, map}
use Rattle.dc_plain.specs.Views.{states_in, variable_of}
use Rattle.dc_plain.proofs.listing.states.Given as goal

abbrev pub invariant-loop-variable : goal.invariant-loop-variable
invariant-loop-variable l = l.made ++ states_in (map variable_of (drop l.variable-index l.variables)) ≡ states_in (map variable_of l.variables)
