-- What a source spells, the first rule that it breaks, and what the phases answer.
use Rattle.std.specs.Prelude.{◌≡◌, ◌<◌, ℕ, List, Result, Ok, Err}
use Rattle.dc_tree.specs.declared.fail.Fail.{Fail}
use Rattle.dc_tree.specs.declared.fail.Refusal.{Refusal}
use Rattle.dc_tree.specs.declared.program.Program.{Program}
use Rattle.dc_tree.specs.Blocks.{Line, Source, source_of}
use Rattle.dc_tree.specs.Listing.{listed}
use Rattle.dc_nest.specs.Nested.{IsNested}
use Rattle.dc_tree.specs.Findings.{IsFirst, IsUnbroken}
use Rattle.dc_phases.specs.Phases.{Phase, place_of, AreStatementsOf, breaks_in}

-- The first of the phases with a broken rule; in it the least line, and on that line the least rule.
pub record IsFirstRefusal (text : List ℕ) (refusal : Refusal) : Type 0 where
  pub phase : Phase
  pub none_before : (earlier : Phase) → place_of earlier < place_of phase → IsUnbroken (breaks_in earlier text)
  pub first : IsFirst (breaks_in phase text) refusal

-- No phase finds a broken rule.
abbrev pub IsKept : List ℕ → Type 0
IsKept text = (phase : Phase) → IsUnbroken (breaks_in phase text)

-- The text spells the program: it breaks no rule, its statements are those of the program in their order, and the program's
-- closings fit its openings.
pub record Spells (text : List ℕ) (source : Source) : Type 0 where
  pub kept : IsKept text
  pub list : List Line
  pub statements : AreStatementsOf text list
  pub nested : IsNested source
  pub in_order : listed source ≡ list

-- What is answered to a text: the program that it spells, and else its first refusal. Want of memory is free.
abbrev pub Answers : List ℕ → Result Program Fail → Type 0
Answers text (Ok program) = Spells text (source_of program)
Answers text (Err (Fail.Refused refusal)) = IsFirstRefusal text refusal
Answers text (Err Fail.NoMemory) = Unit {0}

-- ---- the laws

-- A text spells one program at most.
abbrev pub IsOneProgram : Type 0
IsOneProgram = (text : List ℕ) (a b : Source) → Spells text a → Spells text b → a ≡ b

-- A text that spells a program has no refusal.
abbrev pub IsOneAnswer : Type 0
IsOneAnswer = (text : List ℕ) (source : Source) (refusal : Refusal) → Spells text source → IsFirstRefusal text refusal → ⊥

-- A text has one first refusal at most.
abbrev pub IsOneRefusal : Type 0
IsOneRefusal = (text : List ℕ) (a b : Refusal) → IsFirstRefusal text a → IsFirstRefusal text b → a ≡ b
