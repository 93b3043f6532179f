-- What is added so far and what the rest adds is all together.
use Rattle.std.proofs.Common.{◌≡◌, ◌++◌, ◌-◌}
use Rattle.dc_int.specs.Store.{elements_in}
use Rattle.dc_actions.specs.Assigning.{handing_code}
use Rattle.dc_actions.proofs.lists.handing.Given as goal

abbrev pub invariant-loop-before : goal.invariant-loop-before
invariant-loop-before l =
    l.whats ++ handing_code l.variable l.bounds l.group l.before (elements_in l.bounds - l.before) ≡ l.fn.whats ++ handing_code l.variable l.bounds l.group 0 (elements_in l.bounds)
