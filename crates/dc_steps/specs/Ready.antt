-- Cells that a code can be run over. This project's own.
use Rattle.std.specs.Prelude.{◌≡◌, List, Result, Err, IsTrue}
use Rattle.dc_int.specs.declared.variable.Shape.{Shape}
use Rattle.dc_int.specs.Shapes.{store_fits}
use Rattle.dc_int.specs.Store.{Store}
use Rattle.dc_code.specs.Codes.{CodeLists}
use Rattle.dc_steps.specs.declared.ended.Ended.{Ended}
use Rattle.dc_steps.specs.declared.ended.Next.{Next}
use Rattle.dc_steps.specs.declared.halt.Halt.{Halt}

-- The cells have the variables of the code, and the store that they show fits them.
pub record AreReady {M : Type 0} (code : CodeLists) (shapes : M → List Shape) (shown : M → Store) (held : M) : Type 0 where
  pub same : shapes held ≡ code.shapes
  pub fits : IsTrue (store_fits code.shapes (shown held))

-- This holds unless memory was wanting.
abbrev pub UnlessNoMemory : {A : Type 0} → Result A Halt → Type 0 → Type 0
UnlessNoMemory (Err Halt.NoMemory) P = Unit {0}
UnlessNoMemory result P = P

abbrev pub UnlessOver : Ended → Type 0 → Type 0
UnlessOver Ended.NoMemory P = Unit {0}
UnlessOver ended P = P

abbrev pub UnlessNextOver : Next → Type 0 → Type 0
UnlessNextOver (Next.Over ended) P = UnlessOver ended P
UnlessNextOver (Next.On at turns) P = P
