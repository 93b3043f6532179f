-- The rules that actions break by the names in them. After ISO/IEC 1539-1:2023, clauses 9.5.3, 10.2.1.2, 12.6.3
-- and 15.5.1.
use Rattle.std.specs.Prelude.{ℕ, suc, Bool, false, not, ◌==◌, List, [], ◌∷◌, ◌++◌, length, Option, Some, None}
use Rattle.dc_int.specs.Store.{Bounds, elements_in}
use Rattle.dc_tree.specs.declared.fail.Refusal.{Refusal}
use Rattle.dc_tree.specs.declared.symbols.Role as roles
use Rattle.dc_tree.specs.declared.symbols.Symbol.{Symbol}
use Rattle.dc_tree.specs.Findings.{finding, finding_if}
use Rattle.dc_tree.specs.Statements.{Name, Deed, Target, Ranging, assign, fill, call, print, read}
use Rattle.dc_tree.specs.Syntax.{Tree, name}
use Rattle.dc_sorts.specs.declared.meaning.Meaning.{Meaning}
use Rattle.dc_sorts.specs.Meanings.{symbol_seen}
use Rattle.dc_sorts.specs.Standing.{Standing, meaning}
use Rattle.dc_uses.specs.Uses.{undeclared_findings, name_findings, array_findings, misfits, use_findings}

-- ---- expressions

abbrev pub uses_in : Standing → ℕ → List Tree → List Refusal
uses_in standing line [] = []
uses_in standing line (first ∷ rest) = use_findings standing line first ++ uses_in standing line rest

abbrev pub optional_findings : Standing → ℕ → Option Tree → List Refusal
optional_findings standing line None = []
optional_findings standing line (Some tree) = use_findings standing line tree

-- ---- names that may stand for a whole array

-- K20: the name isn't declared. K21: it is that of a function of the language, or of a procedure.
abbrev pub whole_findings : Standing → ℕ → Name → List Refusal
whole_findings standing line text = by (meaning standing text)
  where
    by : Meaning → List Refusal
    by Meaning.Nothing = undeclared_findings line text
    by (Meaning.Procedure function procedure result) = finding 21 line ∷ []
    by other = []

-- What is printed: a value, a whole array, or a character literal.
abbrev pub item_findings : Standing → ℕ → Tree → List Refusal
item_findings standing line (name text) = whole_findings standing line text
item_findings standing line other = use_findings standing line other

abbrev pub items_in : Standing → ℕ → List Tree → List Refusal
items_in standing line [] = []
items_in standing line (first ∷ rest) = item_findings standing line first ++ items_in standing line rest

-- ---- targets

-- A name in front of so many subscripts. K20: it isn't declared. K21: it is no array of that rank.
abbrev pub element_findings : Standing → ℕ → Name → ℕ → List Refusal
element_findings standing line text count = by (meaning standing text)
  where
    by : Meaning → List Refusal
    by Meaning.Nothing = undeclared_findings line text
    by (Meaning.Variable form rank) = finding_if (misfits rank count) 21 line
    by other = finding 21 line ∷ []

abbrev pub placed_findings : Standing → ℕ → Name → Option (List Tree) → List Refusal
placed_findings standing line text None = whole_findings standing line text
placed_findings standing line text (Some subscripts) = element_findings standing line text (length subscripts) ++ uses_in standing line subscripts

abbrev pub target_findings : Standing → ℕ → Target → List Refusal
target_findings standing line target = placed_findings standing line target.name target.subscripts

abbrev pub targets_in : Standing → ℕ → List Target → List Refusal
targets_in standing line [] = []
targets_in standing line (first ∷ rest) = target_findings standing line first ++ targets_in standing line rest

-- ---- lists

abbrev pub bounds_of_role : roles.Role → Bounds
bounds_of_role (roles.Role.Variable logical kind bounds initial) = bounds
bounds_of_role other = []

abbrev pub bounds_of_symbol : Option Symbol → Bounds
bounds_of_symbol None = []
bounds_of_symbol (Some symbol) = bounds_of_role symbol.role

-- The declared bounds of the variable that a name stands for in its unit.
abbrev pub bounds_at : Standing → Name → Bounds
bounds_at standing text = bounds_of_symbol (symbol_seen standing.symbols standing.unit text)

-- There are so many elements within the bounds.
abbrev pub holds : Bounds → ℕ → Bool
holds bounds count = elements_in bounds == count

-- K25: there are as many items as the array has elements, or else the name is no array.
abbrev pub count_findings : Standing → ℕ → Name → ℕ → List Refusal
count_findings standing line text count = by (meaning standing text)
  where
    by : Meaning → List Refusal
    by (Meaning.Variable form (suc rank)) = finding_if (not (holds (bounds_at standing text) count)) 25 line
    by other = []

-- An array is assigned the items of a list.
abbrev pub fill_findings : Standing → ℕ → Name → List Tree → List Refusal
fill_findings standing line text values =
    array_findings standing line text ++ (uses_in standing line values ++ count_findings standing line text (length values))

-- ---- calls

-- K20: the name isn't declared. K21: it is no subroutine.
abbrev pub callee_findings : Standing → ℕ → Name → List Refusal
callee_findings standing line text = by (meaning standing text)
  where
    by : Meaning → List Refusal
    by Meaning.Nothing = undeclared_findings line text
    by (Meaning.Procedure false procedure result) = []
    by other = finding 21 line ∷ []

-- ---- actions

abbrev pub deed_findings : Standing → ℕ → Deed → List Refusal
deed_findings standing line (assign target value) = target_findings standing line target ++ use_findings standing line value
deed_findings standing line (fill text values) = fill_findings standing line text values
deed_findings standing line (call text brackets args) = callee_findings standing line text ++ uses_in standing line args
deed_findings standing line (print written values) = items_in standing line values
deed_findings standing line (read bracketed targets) = targets_in standing line targets
deed_findings standing line other = []

-- The variable and limits of a counted DO.
abbrev pub counted_findings : Standing → ℕ → Ranging → List Refusal
counted_findings standing line ranging =
    name_findings standing line ranging.name
    ++ (use_findings standing line ranging.first ++ (use_findings standing line ranging.last ++ optional_findings standing line ranging.step))

abbrev pub do_findings : Standing → ℕ → Option Ranging → List Refusal
do_findings standing line None = []
do_findings standing line (Some ranging) = counted_findings standing line ranging
