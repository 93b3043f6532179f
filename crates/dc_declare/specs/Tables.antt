-- The declared names as they grow, and where the expressions of declarations stand. After ISO/IEC 1539-1:2023,
-- clause 19.3.1.
use Rattle.std.specs.Prelude.{ℕ, List, [], ◌∷◌, ◌++◌, is_some, if◌then◌else◌, Bool, true, not, ◌&&◌}
use Rattle.dc_tree.specs.declared.fail.Refusal.{Refusal}
use Rattle.dc_tree.specs.declared.symbols.Symbol.{Symbol}
use Rattle.dc_tree.specs.declared.symbols.Role as roles
use Rattle.dc_tree.specs.Findings.{finding_if}
use Rattle.dc_tree.specs.Statements.{Name}
use Rattle.dc_tree.specs.Symbols.{symbol_at}
use Rattle.dc_sorts.specs.Standing.{Standing}

-- An expression of a declaration stands in no loop, and reads what is declared so far.
abbrev pub declaring : List Symbol → ℕ → Standing
declaring symbols unit = record { symbols = symbols; unit = unit; indexes = []; counted = []; callees = [] }

abbrev pub is_taken : List Symbol → ℕ → Name → Bool
is_taken symbols scope name = is_some (symbol_at symbols scope name)

abbrev pub symbol_with : ℕ → Name → roles.Role → Symbol
symbol_with scope name role = record { scope = scope; name = name; role = role }

-- One symbol more, where its scope hasn't its name yet.
abbrev pub with_symbol : List Symbol → Symbol → List Symbol
with_symbol symbols symbol = if is_taken symbols symbol.scope symbol.name then symbols else symbols ++ symbol ∷ []

-- K19: the scope has the name already.
abbrev pub taken_findings : ℕ → List Symbol → ℕ → Name → List Refusal
taken_findings line symbols scope name = finding_if (is_taken symbols scope name) 19 line

-- No scope has a name twice.
abbrev pub are_apart : List Symbol → Bool
are_apart [] = true
are_apart (first ∷ rest) = not (is_taken rest first.scope first.name) && are_apart rest
