-- USE of the kinds of ISO_FORTRAN_ENV, of ISO/IEC 1539-1:2023, clause 16.10.2. That only INT8 to INT64 can be used is
-- this project's own.
use Rattle.std.specs.Prelude.{ℕ, false, not, is_none, bytes_eq, codes, List, [], ◌∷◌, ◌++◌, Option, Some, None, if◌then◌else◌, ℤ, pos}
use Rattle.dc_int.specs.declared.kind.Kind.{Kind}
use Rattle.dc_tree.specs.declared.fail.Refusal.{Refusal}
use Rattle.dc_tree.specs.declared.symbols.Role as roles
use Rattle.dc_tree.specs.declared.symbols.Symbol.{Symbol}
use Rattle.dc_tree.specs.Findings.{finding_if}
use Rattle.dc_tree.specs.Statements.{Name}
use Rattle.dc_declare.specs.Tables.{symbol_with, with_symbol, taken_findings}

-- the kind with this name
abbrev pub kind_named : Name → Option ℤ
kind_named name =
    if bytes_eq name (codes "int8") then Some (pos 1)
    else if bytes_eq name (codes "int16") then Some (pos 2)
    else if bytes_eq name (codes "int32") then Some (pos 4)
    else if bytes_eq name (codes "int64") then Some (pos 8)
    else None

abbrev pub with_kind : List Symbol → ℕ → Name → Option ℤ → List Symbol
with_kind symbols unit name None = symbols
with_kind symbols unit name (Some value) = with_symbol symbols (symbol_with unit name (roles.Role.Constant false Kind.K4 value))

abbrev pub with_used : List Symbol → ℕ → List Name → List Symbol
with_used symbols unit [] = symbols
with_used symbols unit (name ∷ rest) = with_used (with_kind symbols unit name (kind_named name)) unit rest

-- K19: the name is declared already. K22: there is no such kind.
abbrev pub used_findings : ℕ → List Symbol → ℕ → Name → List Refusal
used_findings line symbols unit name = taken_findings line symbols unit name ++ finding_if (is_none (kind_named name)) 22 line

abbrev pub each_used : ℕ → List Symbol → ℕ → List Name → List Refusal
each_used line symbols unit [] = []
each_used line symbols unit (name ∷ rest) =
    used_findings line symbols unit name ++ each_used line (with_kind symbols unit name (kind_named name)) unit rest

-- K22: another module is named.
abbrev pub module_findings : ℕ → Name → List Refusal
module_findings line name = finding_if (not (bytes_eq name (codes "iso_fortran_env"))) 22 line
