-- The test of a loop, as the walker goes about it. This project's own.
use Rattle.std.specs.Prelude.{ℕ, Option, Some, None, ℤ, pos}
use Rattle.dc_tree.specs.Entities.{Scope}
use Rattle.dc_tree.specs.Syntax.{Tree}
use Rattle.dc_meaning.specs.Acts.{Act, just}
use Rattle.dc_meaning.specs.Values.{Callee, value}

-- The value of a test; where there is none, it always holds.
abbrev pub test_value : Scope → Callee → ℕ → Option Tree → Act ℤ
test_value scope call line None = just (pos 1)
test_value scope call line (Some test) = value scope call line test
