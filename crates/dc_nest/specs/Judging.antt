-- How the first broken rule is found: over the statements in their order, a finding is noted for each rule that one breaks.
use Rattle.std.specs.Prelude.{ℕ, Bool, not, ◌&&◌, if◌then◌else◌, List, [], ◌∷◌, ◌++◌, flat_map}
use Rattle.dc_tree.specs.declared.fail.Refusal.{Refusal}
use Rattle.dc_tree.specs.Blocks.{Line}
use Rattle.dc_tree.specs.Findings.{finding_if}
use Rattle.dc_nest.specs.declared.place.Place.{Place}
use Rattle.dc_nest.specs.declared.rule.Rule.{Rule}
use Rattle.dc_nest.specs.Places.{allows, behind, is_ended}
use Rattle.dc_nest.specs.Rules.{breaks_at, number_of}

-- a finding where a statement breaks a rule in its place
abbrev pub finding_of : Rule → Place → Line → List Refusal
finding_of rule place line = finding_if (breaks_at rule place line.says) (number_of rule) line.line

abbrev pub all_rules : List Rule
all_rules = Rule.Misplaced ∷ Rule.TooDeep ∷ Rule.OtherName ∷ Rule.NoLoop ∷ Rule.Strays ∷ Rule.Confined ∷ []

-- the rules that a statement breaks in its place
abbrev pub findings_at : Place → Line → List Refusal
findings_at place line = flat_map (λ rule. finding_of rule place line) all_rules

-- What the statements break from a place on, up to the first that isn't allowed where it stands. This is the line of the
-- statement in front of the place.
abbrev pub findings_from : Place → ℕ → List Line → List Refusal
findings_from place line [] = finding_if (not (is_ended place)) (number_of Rule.Misplaced) line
findings_from place line (next ∷ rest) =
    findings_at place next ++ (if allows place next.says then findings_from (behind place next.says) next.line rest else [])

abbrev pub findings : List Line → List Refusal
findings list = findings_from Place.Outset 1 list

-- Each statement is allowed where it stands, and the last ends the program.
abbrev pub is_whole : Place → List Line → Bool
is_whole place [] = is_ended place
is_whole place (next ∷ rest) = allows place next.says && is_whole (behind place next.says) rest
