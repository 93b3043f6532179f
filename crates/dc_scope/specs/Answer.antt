-- What is answered to a program: its declared names, or the first rule that it breaks by names. After ISO/IEC
-- 1539-1:2023, clause 19; which broken rule is named is this project's own.
use Rattle.std.specs.Prelude.{◌≡◌, List, [], ◌++◌, Result, Ok, Err}
use Rattle.dc_tree.specs.declared.fail.Fail.{Fail}
use Rattle.dc_tree.specs.declared.fail.Refusal.{Refusal}
use Rattle.dc_tree.specs.declared.symbols.Symbol.{Symbol}
use Rattle.dc_tree.specs.Blocks.{Source}
use Rattle.dc_tree.specs.Findings.{IsFirst, found_in}
use Rattle.dc_declare.specs.Declarations.{symbols_of, declaration_findings}
use Rattle.dc_scope.specs.Scope.{statement_findings}

-- K19 to K27, of declarations and of statements.
abbrev pub scope_findings : Source → List Refusal
scope_findings source = declaration_findings source ++ statement_findings (symbols_of source) source

-- Where memory is wanting, nothing is said.
abbrev pub Answers : Source → Result (List Symbol) Fail → Type 0
Answers source (Ok symbols) = (scope_findings source ≡ []) × (symbols ≡ symbols_of source)
Answers source (Err (Fail.Refused refusal)) = IsFirst (found_in (scope_findings source)) refusal
Answers source (Err Fail.NoMemory) = Unit {0}
