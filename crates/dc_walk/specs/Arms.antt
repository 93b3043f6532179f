-- Which arm of a construct is executed, as the walker goes about it. This project's own.
use Rattle.std.specs.Prelude.{ℕ, ◌+◌, Bool, true, Option, Some, None, if◌then◌else◌, ℤ}
use Rattle.std.specs.List.{list_any}
use Rattle.dc_int.specs.Reductions.{truth}
use Rattle.dc_tree.specs.Blocks.{Arms, no_arms, arm}
use Rattle.dc_tree.specs.Entities.{Scope}
use Rattle.dc_tree.specs.Statements as statements
use Rattle.dc_tree.specs.Statements.{Statement}
use Rattle.dc_tree.specs.Syntax.{Tree}
use Rattle.dc_meaning.specs.Acts.{Act, ◌>>=◌, just}
use Rattle.dc_meaning.specs.Execution.{is_in_range}
use Rattle.dc_meaning.specs.Values.{Callee, value}

-- Whether a test holds; where there is none, it does.
abbrev pub tested : Scope → Callee → ℕ → Option Tree → Act Bool
tested scope call line None = just true
tested scope call line (Some test) = value scope call line test >>= (λ z. just (truth z))

-- The test of an arm of IF, which begins with this statement. ELSE has none.
abbrev pub test_of : Statement → Option Tree
test_of (statements.if_then test) = Some test
test_of (statements.else_if test) = Some test
test_of other = None

-- An arm of SELECT CASE at a place, before further arms, and the place of the arm that is taken where none of them fits.
abbrev pub chosen_by : Scope → ℤ → Statement → ℕ → (Option ℕ → Option ℕ) → Option ℕ → Option ℕ
chosen_by scope z (statements.case ranges) place further otherwise = if list_any (is_in_range scope z) ranges then Some place else further otherwise
chosen_by scope z other place further otherwise = further (Some place)

-- The place of the arm that is taken, for this value of the selector, from a place on.
abbrev pub chosen_from : Scope → ℤ → ℕ → Arms → Option ℕ → Option ℕ
chosen_from scope z place no_arms otherwise = otherwise
chosen_from scope z place (arm head body rest) otherwise = chosen_by scope z head.says place (chosen_from scope z (place + 1) rest) otherwise
