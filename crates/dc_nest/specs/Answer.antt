-- What the nesting of statements answers.
use Rattle.std.specs.Prelude.{◌≡◌, ℕ, List, map, Result, Ok, Err}
use Rattle.dc_tree.specs.declared.fail.Fail.{Fail}
use Rattle.dc_tree.specs.declared.fail.Refusal.{Refusal}
use Rattle.dc_tree.specs.declared.program.Lined.{Lined}
use Rattle.dc_tree.specs.declared.program.Program.{Program}
use Rattle.dc_tree.specs.Blocks.{Line, line_of, Source, source_of}
use Rattle.dc_tree.specs.Findings.{IsFirst, numbered}
use Rattle.dc_tree.specs.Listing.{listed}
use Rattle.dc_nest.specs.declared.rule.Rule.{Rule}
use Rattle.dc_nest.specs.Rules.{Breaks, number_of}
use Rattle.dc_nest.specs.Nested.{IsNested}

-- The rules by their numbers.
abbrev pub broken_in : List Line → ℕ → ℕ → Type 0
broken_in list = numbered number_of (λ rule line. Breaks rule list line)

-- The statements break no rule, and are those of this program in the order of its text, in which closings fit openings.
pub record Nests (list : List Line) (source : Source) : Type 0 where
  pub none_broken : (rule : Rule) (line : ℕ) → Breaks rule list line → ⊥
  pub is_nested : IsNested source
  pub lists : listed source ≡ list

-- What `nest` answers to a list of statements: the program, where no rule is broken, and else the first broken rule. Want of
-- memory is free.
abbrev pub Answers : List Lined → Result Program Fail → Type 0
Answers list (Ok program) = Nests (map line_of list) (source_of program)
Answers list (Err (Fail.Refused refusal)) = IsFirst (broken_in (map line_of list)) refusal
Answers list (Err Fail.NoMemory) = Unit {0}

-- ---- the laws

-- Two programs whose closings fit their openings, and that have the same statements in the order of the text, are one.
abbrev pub IsOneTree : Type 0
IsOneTree = (a b : Source) → IsNested a → IsNested b → listed a ≡ listed b → a ≡ b

-- Two first refusals of a list are one.
abbrev pub IsOneRefusal : Type 0
IsOneRefusal = (list : List Line) (a b : Refusal) → IsFirst (broken_in list) a → IsFirst (broken_in list) b → a ≡ b

-- Statements that break no rule are those of a program.
abbrev pub IsSomeTree : Type 0
IsSomeTree = (list : List Line) → ((rule : Rule) (line : ℕ) → Breaks rule list line → ⊥) → (source : Source) × Nests list source
