-- The rules that statements break by the names in them. After ISO/IEC 1539-1:2023, clause 19.
use Rattle.std.specs.Prelude.{ℕ, suc, List, [], ◌∷◌, ◌++◌}
use Rattle.dc_tree.specs.declared.fail.Refusal.{Refusal}
use Rattle.dc_tree.specs.declared.symbols.Symbol.{Symbol}
use Rattle.dc_tree.specs.Blocks.{Item, Items, Arms, Line, Source, Subprogram, plain, branch, select, loop, none, and_then, no_arms, arm}
use Rattle.dc_tree.specs.Statements.{Statement, if_then, else_if, if_action, select_case, do_line, do_while, concurrent, act}
use Rattle.dc_sorts.specs.Standing.{Standing}
use Rattle.dc_uses.specs.Uses.{use_findings}
use Rattle.dc_scope.specs.Cases.{Cases, no_cases, case_findings, cases_behind}
use Rattle.dc_scope.specs.Deeds.{deed_findings, do_findings}
use Rattle.dc_scope.specs.Headers.{header_findings, inside}

-- What a statement breaks. The values of a CASE are told apart in their construct.
abbrev pub findings_at : Standing → ℕ → Statement → List Refusal
findings_at standing line (if_then test) = use_findings standing line test
findings_at standing line (else_if test) = use_findings standing line test
findings_at standing line (if_action test action) = use_findings standing line test ++ deed_findings standing line action
findings_at standing line (select_case selector) = use_findings standing line selector
findings_at standing line (do_line label counted) = do_findings standing line counted
findings_at standing line (do_while label test) = use_findings standing line test
findings_at standing line (concurrent label form rangings mask locality) = header_findings standing line form rangings mask locality
findings_at standing line (act action) = deed_findings standing line action
findings_at standing line other = []

abbrev pub line_findings : Standing → Line → List Refusal
line_findings standing line = findings_at standing line.line line.says

-- Where the block of a loop stands.
abbrev pub within : Standing → Statement → Standing
within standing (concurrent label form rangings mask locality) = inside standing form rangings
within standing other = standing

abbrev mutual
  pub one_findings : Standing → Item → List Refusal
  one_findings standing (plain line) = line_findings standing line
  one_findings standing (branch arms close) = arms_findings standing arms
  one_findings standing (select head arms close) = line_findings standing head ++ select_findings standing no_cases arms
  one_findings standing (loop head body close) = line_findings standing head ++ block_findings (within standing head.says) body

  pub block_findings : Standing → Items → List Refusal
  block_findings standing none = []
  block_findings standing (and_then first rest) = one_findings standing first ++ block_findings standing rest

  pub arms_findings : Standing → Arms → List Refusal
  arms_findings standing no_arms = []
  arms_findings standing (arm head body rest) = line_findings standing head ++ (block_findings standing body ++ arms_findings standing rest)

  pub select_findings : Standing → Cases → Arms → List Refusal
  select_findings standing cases no_arms = []
  select_findings standing cases (arm head body rest) =
      case_findings standing head.line cases head.says
      ++ (block_findings standing body ++ select_findings standing (cases_behind standing cases head.says) rest)

-- The statements of a unit: of the main program, which is 0, or of a procedure by its number.
abbrev pub unit_standing : List Symbol → ℕ → Standing
unit_standing symbols unit = record { symbols = symbols; unit = unit; indexes = []; counted = []; callees = [] }

abbrev pub unit_findings : List Symbol → ℕ → Items → List Refusal
unit_findings symbols unit body = block_findings (unit_standing symbols unit) body

abbrev pub procedures_findings : List Symbol → ℕ → List Subprogram → List Refusal
procedures_findings symbols unit [] = []
procedures_findings symbols unit (first ∷ rest) = unit_findings symbols unit first.body ++ procedures_findings symbols (suc unit) rest

-- What the statements of a program break, where these are its declared names.
abbrev pub statement_findings : List Symbol → Source → List Refusal
statement_findings symbols source = unit_findings symbols 0 source.body ++ procedures_findings symbols 1 source.procedures
