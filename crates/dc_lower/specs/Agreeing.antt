-- What a code and a program have to agree in. This project's own.
use Rattle.std.specs.Prelude.{◌≡◌, ℕ, List, [], length, ℤ}
use Rattle.dc_code.specs.Computation.{give}
use Rattle.dc_code.specs.Loops.{Form, Copies, header_of}

-- Two forms of a loop with so many indexes: the same localities, header, mask and iterations.
pub record SameForm (width : ℕ) (first second : Form) : Type 0 where
  pub line : first.line ≡ second.line
  pub locality : (variable : ℕ) → first.localities.locality variable ≡ second.localities.locality variable
  pub kind : (variable : ℕ) → first.localities.kind variable ≡ second.localities.kind variable
  pub passed : (variable : ℕ) → first.localities.passed variable ≡ second.localities.passed variable
  pub copied : first.copied ≡ second.copied
  pub combines : first.combines ≡ second.combines
  pub header : (turns : ℕ) → first.header turns ≡ second.header turns
  pub mask : (at : List ℤ) → length at ≡ width → first.mask at ≡ second.mask at
  pub block : (copies : Copies) (at : List ℤ) → length at ≡ width → first.block copies at ≡ second.block copies at

-- A loop of no iterations, whose header accesses nothing.
pub record HasNoIteration (form : Form) : Type 0 where
  pub header : (turns : ℕ) → header_of form turns ≡ give (record { iterations = []; turns = turns })
