-- What the walker does for single statements, tests and selectors.
use Rattle.std.proofs.Common.{◌≡◌, ℕ, Bool, Some, sym, ap}
use Rattle.std.specs.Prelude.{if◌then◌else◌}
use Rattle.dc_int.specs.Reductions.{truth}
use Rattle.dc_int.specs.Sorts.{fitted}
use Rattle.dc_tree.specs.declared.expr.Expr.{Expr}
use Rattle.dc_tree.specs.declared.program.Lined.{Lined}
use Rattle.dc_tree.specs.declared.stmt.Stmt.{Stmt}
use Rattle.dc_tree.specs.Blocks.{line_of}
use Rattle.dc_tree.specs.Entities.{Scope}
use Rattle.dc_tree.specs.Statements.{Deed, if_action}
use Rattle.dc_tree.specs.Syntax.{Tree, tree}
use Rattle.dc_tree.specs.Typing.{sort_of}
use Rattle.dc_meaning.specs.Acts.{Act, ◌>>=◌, just}
use Rattle.dc_meaning.specs.Actions as actions
use Rattle.dc_meaning.specs.Actions.{Flow, on}
use Rattle.dc_meaning.specs.Execution.{plain_line, selector_of}
use Rattle.dc_meaning.specs.Values.{Callee, value}
use Rattle.dc_meaning.proofs.Walking.{acts-then}
use Rattle.dc_walk.specs.Arms.{tested}

-- ---- tests

-- what a test decides is decided by its value
pub tested-then : (scope : Scope) (call : Callee) (line : ℕ) (test : Tree) (next : Bool → Act Flow)
    → (value scope call line test >>= (λ z. next (truth z))) ≡ (tested scope call line (Some test) >>= next)
tested-then scope call line test next = sym (acts-then (value scope call line test) (λ z. just (truth z)) next)

-- an IF statement, by its test
abbrev pub done-if : Scope → Callee → ℕ → Deed → Bool → Act Flow
done-if scope call line deed holds = if holds then actions.act scope call line deed else just on

pub if-statement : (scope : Scope) (call : Callee) (line : ℕ) (test : Tree) (deed : Deed)
    → plain_line scope call (record { line = line; says = if_action test deed }) ≡ (tested scope call line (Some test) >>= done-if scope call line deed)
if-statement scope call line test deed = tested-then scope call line test (done-if scope call line deed)

-- ---- the selector of SELECT CASE

pub selector-is : (scope : Scope) (call : Callee) (head : Lined) (expr : Expr) → head.stmt ≡ Stmt.Select expr
    → selector_of scope call (line_of head) ≡ (value scope call head.line (tree expr) >>= (λ z. just (fitted (sort_of scope (tree expr)) z)))
selector-is scope call head expr is = ap (λ s. selector_of scope call (line_of (record { line = head.line; stmt = s }))) is
