-- Names in a row, of which none stands twice. This project's own.
use Rattle.std.specs.Prelude.{ℕ, suc, nat_eq, bytes_eq, cond, IsTrue, List, [], ◌∷◌, ◌++◌, Option, Some, None, option_map, is_some, if◌then◌else◌, Bool}
use Rattle.dc_tree.specs.declared.fail.Refusal.{Refusal}
use Rattle.std.specs.List.{list_all}
use Rattle.dc_tree.specs.declared.symbols.Symbol.{Symbol}
use Rattle.dc_tree.specs.Findings.{finding_if}
use Rattle.dc_tree.specs.Statements.{Name}

-- where a name stands first, from 0
abbrev pub place_of : List Name → Name → Option ℕ
place_of [] name = None
place_of (first ∷ rest) name = cond (bytes_eq first name) (Some 0) (option_map (λ place. suc place) (place_of rest name))

abbrev pub holds : List Name → Name → Bool
holds names name = is_some (place_of names name)

abbrev pub with_name : List Name → Name → List Name
with_name names name = if holds names name then names else names ++ name ∷ []

-- the names so far, and those of more names that aren't there yet
abbrev pub each_once : List Name → List Name → List Name
each_once names [] = names
each_once names (name ∷ rest) = each_once (with_name names name) rest

-- K19: a name stands there twice.
abbrev pub twice_findings : ℕ → List Name → List Name → List Refusal
twice_findings line names [] = []
twice_findings line names (name ∷ rest) = finding_if (holds names name) 19 line ++ twice_findings line (with_name names name) rest

-- ---- names as the code keeps them, in a table of symbols of one scope

abbrev pub symbol_name : Symbol → Name
symbol_name symbol = symbol.name

abbrev pub AreNames : List Symbol → Type 0
AreNames symbols = IsTrue (list_all (λ symbol. nat_eq symbol.scope 1) symbols)
