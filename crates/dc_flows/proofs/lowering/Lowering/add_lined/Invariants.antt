-- What is added so far and the rest are all together.
use Rattle.std.proofs.Common.{◌≡◌, ◌++◌, drop}
use Rattle.dc_actions.specs.Deeds.{lined}
use Rattle.dc_flows.proofs.lowering.Lowering.add_lined.Given as goal

abbrev pub invariant-loop-what : goal.invariant-loop-what
invariant-loop-what l =
    record {
      instructions : l.self.instructions ++ lined l.line (drop l.what-index l.whats) ≡ l.fn.self.instructions ++ lined l.line l.whats;
      texts : l.self.texts ≡ l.fn.self.texts;
      groups : l.self.groups ≡ l.fn.self.groups;
      loops : l.self.loops ≡ l.fn.self.loops;
      base : l.self.base ≡ l.fn.self.base;
    }
