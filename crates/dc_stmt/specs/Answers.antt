-- Which tokens are a statement, and what is answered to them. The grammar is that of ISO/IEC
-- 1539-1:2023, clauses 8, 10, 11, 12.6, 14 and 15. The limit on the depth is this project's own.
use Rattle.std.specs.Prelude.{◌≡◌, ◌≤◌, ◌<◌, ◌⊎◌, ℕ, List, Result, Ok, Err}
use Rattle.dc_tree.specs.declared.fail.Fail.{Fail}
use Rattle.dc_tree.specs.declared.stmt.Stmt.{Stmt}
use Rattle.dc_tree.specs.declared.token.Token.{Token}
use Rattle.dc_tree.specs.Statements.{Statement, statement}
use Rattle.dc_tree.specs.Spelling.{spell_statement}
use Rattle.dc_tree.specs.Ranking.{RankedStatement}
use Rattle.dc_expr.specs.Answers.{breach}
use Rattle.dc_slices.specs.declared.reading.Reading.{Reading}
use Rattle.dc_stmt.specs.Depth.{statement_depth}

-- The grammar gives the statement, and it spells the tokens.
abbrev pub Spells : Statement → List Token → Type 0
Spells line tokens = RankedStatement line × (spell_statement line ≡ tokens)

-- Rule 11: no statement spells the tokens. Rule 12: one does, and an expression in it is too deep.
abbrev pub IsNone : List Token → Type 0
IsNone tokens = (line : Statement) → Spells line tokens → ⊥

abbrev pub IsTooDeep : List Token → Type 0
IsTooDeep tokens = (line : Statement) × Spells line tokens × (256 < statement_depth line)

-- A statement whose expressions are not too deep.
abbrev pub IsShallow : List Token → Statement → Type 0
IsShallow tokens line = Spells line tokens × (statement_depth line ≤ 256)

-- What is told of the tokens is so.
abbrev pub IsSo : List Token → Reading Statement → Type 0
IsSo tokens Reading.Nothing = IsNone tokens
IsSo tokens Reading.Deep = IsTooDeep tokens
IsSo tokens (Reading.Whole line) = IsShallow tokens line

-- The answer to the tokens of a statement on a line. Want of memory may come to all of them.
abbrev pub Answers : ℕ → List Token → Result Stmt Fail → Type 0
Answers line tokens (Ok stmt) = IsShallow tokens (statement stmt)
Answers line tokens (Err (Fail.Refused refusal)) = ((refusal ≡ breach 11 line) × IsNone tokens) ⊎ ((refusal ≡ breach 12 line) × IsTooDeep tokens)
Answers line tokens (Err Fail.NoMemory) = Unit {0}
