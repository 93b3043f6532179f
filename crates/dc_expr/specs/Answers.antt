-- Which tokens are an expression, and what is answered to them. The grammar is that of ISO/IEC
-- 1539-1:2023, clauses 10.1.2 and 10.1.3. The limit on the depth is this project's own.
use Rattle.std.specs.Prelude.{◌≡◌, ◌≤◌, ◌<◌, ◌⊎◌, ℕ, nat_le, if◌then◌else◌, List, Option, Some, None, Result, Ok, Err}
use Rattle.dc_expr.specs.declared.reader.Miss.{Miss}
use Rattle.dc_tree.specs.declared.expr.Expr.{Expr}
use Rattle.dc_tree.specs.declared.fail.Fail.{Fail}
use Rattle.dc_tree.specs.declared.fail.Refusal.{Refusal}
use Rattle.dc_tree.specs.declared.token.Token.{Token}
use Rattle.dc_tree.specs.Syntax.{Tree, tree}
use Rattle.dc_tree.specs.Findings.{finding}
use Rattle.dc_tree.specs.Grammar.{Ranked, spell, depth}
use Rattle.dc_tree.specs.Reader.{reading}

-- The grammar gives the tree, and the tree spells the tokens.
abbrev pub Spells : Tree → List Token → Type 0
Spells e tokens = Ranked e × (spell e ≡ tokens)

-- No tree spells the tokens, which is rule 11; or one does, and it is too deep, which is rule 12.
abbrev pub IsNone : List Token → Type 0
IsNone tokens = (e : Tree) → Spells e tokens → ⊥

abbrev pub IsTooDeep : List Token → Type 0
IsTooDeep tokens = (e : Tree) × Spells e tokens × (256 < depth e)

abbrev pub breach : ℕ → ℕ → Refusal
breach = finding

-- The answer to the tokens of an expression on a line. Want of memory may come to all of them.
abbrev pub Answers : ℕ → List Token → Result Expr Fail → Type 0
Answers line tokens (Ok e) = Spells (tree e) tokens × (depth (tree e) ≤ 256)
Answers line tokens (Err (Fail.Refused refusal)) = ((refusal ≡ breach 11 line) × IsNone tokens) ⊎ ((refusal ≡ breach 12 line) × IsTooDeep tokens)
Answers line tokens (Err Fail.NoMemory) = Unit {0}

-- The same where no line is known.
abbrev pub IsRead : List Token → Result Expr Miss → Type 0
IsRead tokens (Ok e) = Spells (tree e) tokens × (depth (tree e) ≤ 256)
IsRead tokens (Err Miss.Nothing) = IsNone tokens
IsRead tokens (Err Miss.Deep) = IsTooDeep tokens
IsRead tokens (Err Miss.NoMemory) = Unit {0}

-- ---- the same as an equation, for readers of statements. It goes by the reader of dc_tree

abbrev pub limited_to : ℕ → Tree → Result Tree Fail
limited_to line e = if nat_le (depth e) 256 then Ok e else Err (Fail.Refused (breach 12 line))

abbrev pub told : ℕ → Option Tree → Result Tree Fail
told line None = Err (Fail.Refused (breach 11 line))
told line (Some e) = limited_to line e

-- What the tokens of an expression on a line give.
abbrev pub outcome : ℕ → List Token → Result Tree Fail
outcome line tokens = told line (reading tokens)

-- A result is this outcome, as `view` sees it. Want of memory may come in place of each outcome.
abbrev pub Gives : {X T : Type 0} → (X → T) → Result T Fail → Result X Fail → Type 0
Gives view outcome (Ok x) = outcome ≡ Ok (view x)
Gives view outcome (Err (Fail.Refused refusal)) = outcome ≡ Err (Fail.Refused refusal)
Gives view outcome (Err Fail.NoMemory) = Unit {0}

-- ---- the same, where no line is known

-- the tree that was found, unless it is too deep
abbrev pub within : Option Tree → Result Tree Miss
within None = Err Miss.Nothing
within (Some e) = if nat_le (depth e) 256 then Ok e else Err Miss.Deep

abbrev pub Reads : {X T : Type 0} → (X → T) → Result T Miss → Result X Miss → Type 0
Reads view outcome (Ok x) = outcome ≡ Ok (view x)
Reads view outcome (Err Miss.Nothing) = outcome ≡ Err Miss.Nothing
Reads view outcome (Err Miss.Deep) = outcome ≡ Err Miss.Deep
Reads view outcome (Err Miss.NoMemory) = Unit {0}
