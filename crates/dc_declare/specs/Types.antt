-- The types that declarations name. After ISO/IEC 1539-1:2023, clause 7.4.3.1; which kinds there are is this
-- project's own.
use Rattle.std.specs.Prelude.{ℕ, true, false, List, [], ◌++◌, Option, Some, None, ℤ}
use Rattle.dc_int.specs.declared.kind.Kind.{Kind}
use Rattle.dc_tree.specs.declared.fail.Refusal.{Refusal}
use Rattle.dc_tree.specs.Literals.{kind_numbered}
use Rattle.dc_tree.specs.Statements.{TypeForm, logical, integer}
use Rattle.dc_tree.specs.Syntax.{Tree}
use Rattle.dc_sorts.specs.Standing.{Standing}
use Rattle.dc_uses.specs.Constants.{whole_constant, kind_findings}
use Rattle.dc_uses.specs.Uses.{use_findings}
use Rattle.dc_declare.specs.declared.types.ElementType.{ElementType}

-- The kind is 4 where a number is no kind, or there is none.
abbrev pub kind_told : Option ℤ → Kind
kind_told None = Kind.K4
kind_told (Some z) = kind_numbered z

abbrev pub kind_selected : Standing → Option Tree → Kind
kind_selected standing None = Kind.K4
kind_selected standing (Some tree) = kind_told (whole_constant standing tree)

abbrev pub type_of : Standing → TypeForm → ElementType
type_of standing logical = record { logical = true; kind = Kind.K4 }
type_of standing (integer keyed selector) = record { logical = false; kind = kind_selected standing selector }

-- K20 to K23 of a kind.
abbrev pub selector_findings : Standing → ℕ → Option Tree → List Refusal
selector_findings standing line None = []
selector_findings standing line (Some tree) = use_findings standing line tree ++ kind_findings standing line tree

abbrev pub type_findings : Standing → ℕ → TypeForm → List Refusal
type_findings standing line logical = []
type_findings standing line (integer keyed selector) = selector_findings standing line selector
