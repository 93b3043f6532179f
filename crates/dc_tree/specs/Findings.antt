-- Where rules are broken, and the first of these places, which a refusal names. This project's own.
use Rattle.std.specs.Prelude.{◌≡◌, ℕ, ◌<◌, Bool, ◌&&◌, ◌||◌, ◌==◌, nat_lt, if◌then◌else◌, List, [], ◌∷◌, Option, Some, None, Result, Ok, Err}
use Rattle.std.specs.List.{Contains}
use Rattle.dc_tree.specs.declared.fail.Fail.{Fail}
use Rattle.dc_tree.specs.declared.fail.Refusal.{Refusal}

-- The refusal names a rule that is broken on its line. No rule is broken on an earlier line, and no lesser one
-- on this line. `breaks` says of a rule and a line whether that rule is broken there.
pub record IsFirst (breaks : ℕ → ℕ → Type 0) (refusal : Refusal) : Type 0 where
  pub broken : breaks refusal.rule refusal.line
  pub no_earlier : (rule line : ℕ) → line < refusal.line → breaks rule line → ⊥
  pub no_lesser : (rule : ℕ) → rule < refusal.rule → breaks rule refusal.line → ⊥

-- No rule is broken on any line.
abbrev pub IsUnbroken : (ℕ → ℕ → Type 0) → Type 0
IsUnbroken breaks = (rule line : ℕ) → breaks rule line → ⊥

-- Rules that have names, by the numbers of these.
abbrev pub numbered : {Rule : Type 0} → (Rule → ℕ) → (Rule → ℕ → Type 0) → ℕ → ℕ → Type 0
numbered {Rule} number_of breaks number line = (rule : Rule) × (number ≡ number_of rule) × breaks rule line

-- ---- findings: broken rules with their lines, in any order

abbrev pub finding : ℕ → ℕ → Refusal
finding rule line = record { rule = rule; line = line }

-- a finding where a test holds, and else none
abbrev pub finding_if : Bool → ℕ → ℕ → List Refusal
finding_if test rule line = if test then finding rule line ∷ [] else []

-- The rules that are broken where the findings say so.
abbrev pub found_in : List Refusal → ℕ → ℕ → Type 0
found_in findings rule line = Contains findings (finding rule line)

-- on an earlier line, or of a lesser rule on the same line
abbrev pub precedes : Refusal → Refusal → Bool
precedes a b = nat_lt a.line b.line || (a.line == b.line && nat_lt a.rule b.rule)

abbrev pub lesser : Refusal → Refusal → Refusal
lesser a b = if precedes b a then b else a

-- the least finding so far, and one finding more
abbrev pub least_with : Option Refusal → Refusal → Option Refusal
least_with None next = Some next
least_with (Some least) next = Some (lesser least next)

abbrev pub least_with_all : Option Refusal → List Refusal → Option Refusal
least_with_all least [] = least
least_with_all least (next ∷ rest) = least_with_all (least_with least next) rest

-- the least of all findings
abbrev pub least_of : List Refusal → Option Refusal
least_of findings = least_with_all None findings

-- What is answered to findings of which this is the least.
abbrev pub passed : Option Refusal → Result (Unit {0}) Fail
passed None = Ok tt
passed (Some least) = Err (Fail.Refused least)
