-- What is added so far and what the later dimensions add is all together.
use Rattle.std.proofs.Common.{◌≡◌, ◌≤◌, ◌<◌, ◌++◌, drop, map}
use Rattle.dc_int.specs.declared.kind.Kind.{Kind}
use Rattle.dc_int.specs.Store.{elements_in}
use Rattle.dc_code.specs.declared.instr.What.{What}
use Rattle.dc_actions.specs.Subscripts.{subscripts_at}
use Rattle.dc_actions.proofs.lists.element.Given as goal

abbrev pub invariant-loop-dimension : goal.invariant-loop-dimension
invariant-loop-dimension l =
    record {
      few : elements_in (drop l.dimension-index l.bounds) ≤ 4194304;
      within : l.position < elements_in (drop l.dimension-index l.bounds);
      code : l.whats ++ map (λ z. What.Const Kind.K8 z) (subscripts_at (drop l.dimension-index l.bounds) l.position)
          ≡ l.fn.whats ++ map (λ z. What.Const Kind.K8 z) (subscripts_at l.bounds l.at);
    }
