-- The code of a small program: `do concurrent (i = 1:3)` in line 2 with the body `a(i) = i` in line 3.
use Rattle.std.specs.Prelude.{ℕ, false, List, [], ◌∷◌, None, pos}
use Rattle.dc_int.specs.declared.kind.Kind.{Kind}
use Rattle.dc_int.specs.declared.variable.Locality.{Locality}
use Rattle.dc_int.specs.declared.variable.Shape.{Shape}
use Rattle.dc_int.specs.Store.{Bounds}
use Rattle.dc_code.specs.declared.instr.Instr.{Instr}
use Rattle.dc_code.specs.declared.instr.What.{What}
use Rattle.dc_code.specs.declared.plan.ConstructCode.{ConstructCode}
use Rattle.dc_code.specs.declared.plan.Plan.{Plan}
use Rattle.dc_code.specs.Codes.{CodeLists}

abbrev pub at_line : ℕ → What → Instr
at_line line what = record { line = line; what = what }

abbrev pub instructions : List Instr
instructions =
    at_line 2 (What.Enter 0) ∷ at_line 5 What.End
    ∷ at_line 2 (What.Const Kind.K4 (pos 1)) ∷ at_line 2 (What.Const Kind.K4 (pos 3)) ∷ at_line 2 (What.Const Kind.K4 (pos 1)) ∷ at_line 2 What.End
    ∷ at_line 3 (What.SubscriptSlot 0) ∷ at_line 3 (What.LoadSlot 0) ∷ at_line 3 (What.SubscriptSlot 0) ∷ at_line 3 (What.LoadSlot 0)
    ∷ at_line 3 (What.Subscript 0) ∷ at_line 3 (What.Store 0) ∷ at_line 4 What.End ∷ []

abbrev pub shapes : List Shape
shapes = record { kind = Kind.K4; logical = false; elements = 3 } ∷ []

abbrev pub bounds : List Bounds
bounds = ((pos 1, pos 3) ∷ []) ∷ []

abbrev pub empty_plan : Plan
empty_plan = record { dummies = []; groups = [] }

abbrev pub body_plan : Plan
body_plan = record { dummies = []; groups = record { kind = Kind.K4; logical = false; bounds = [] } ∷ [] }

abbrev pub construct : ConstructCode
construct = record { line = 2; width = 1; kinds = Kind.K4 ∷ []; header = 2; mask = None; body = 6; localities = Locality.Plain ∷ [] }

abbrev pub small : CodeLists
small =
    record {
      instructions = instructions;
      texts = [];
      shapes = shapes;
      bounds = bounds;
      plans = empty_plan ∷ empty_plan ∷ body_plan ∷ [];
      entries = [];
      constructs = construct ∷ [];
    }
