-- What the reader of the source form answers.
use Rattle.std.specs.Prelude.{◌≡◌, ℕ, List, Result, Ok, Err}
use Rattle.dc_tree.specs.declared.fail.Fail.{Fail}
use Rattle.dc_tree.specs.declared.logical_lines.Logical.{Logical}
use Rattle.dc_tree.specs.Findings.{IsFirst, numbered}
use Rattle.dc_lines.specs.declared.rule.Rule.{Rule}
use Rattle.dc_lines.specs.TextLines.{lines_of}
use Rattle.dc_lines.specs.Joined.{statements_of}
use Rattle.dc_lines.specs.Rules.{Breaks, number_of}

-- The rules by their numbers.
abbrev pub broken_in : List (List ℕ) → ℕ → ℕ → Type 0
broken_in lines = numbered number_of (λ rule line. Breaks rule lines line)

-- The lines spell these statements, and break no rule.
pub record Spells (lines : List (List ℕ)) (statements : List Logical) : Type 0 where
  pub none_broken : (rule : Rule) (line : ℕ) → Breaks rule lines line → ⊥
  pub statements_are : statements ≡ statements_of lines

-- What `split` answers to a text: its statements, where no rule is broken, and else the first broken rule.
-- Want of memory is free.
abbrev pub Answers : List ℕ → Result (List Logical) Fail → Type 0
Answers text (Ok statements) = Spells (lines_of text) statements
Answers text (Err (Fail.Refused refusal)) = IsFirst (broken_in (lines_of text)) refusal
Answers text (Err Fail.NoMemory) = Unit {0}
