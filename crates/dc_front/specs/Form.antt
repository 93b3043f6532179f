-- What is accepted: a source that breaks no rule, and whose program is run today. This project's own.
use Rattle.std.specs.Prelude.{◌≡◌, ◌⊎◌, ℕ, List, [], Result, Ok, Err, IsTrue, IsFalse, refl}
use Rattle.std.specs.Coded.{Coded, code_by, coded×, coded_list}
use Rattle.dc_tree.specs.declared.fail.Fail.{Fail}
use Rattle.dc_tree.specs.declared.fail.Refusal.{Refusal}
use Rattle.dc_tree.specs.declared.program.Program.{Program}
use Rattle.dc_tree.specs.declared.symbols.Symbol.{Symbol}
use Rattle.dc_tree.specs.Blocks.{Source, source_of}
use Rattle.dc_tree.specs.Findings.{IsFirst, found_in}
use Rattle.dc_form.specs.BuiltPrograms.{is_built}
use Rattle.dc_declare.specs.Declarations.{symbols_of}
use Rattle.dc_phases.specs.Answer as phases
use Rattle.dc_scope.specs.Answer.{scope_findings}
use Rattle.dc_types.specs.Types.{type_findings}

-- The program breaks no rule of names and none of types.
pub record IsChecked (source : Source) : Type 0 where
  pub names : scope_findings source ≡ []
  pub types : type_findings (symbols_of source) source ≡ []

-- The program breaks no rule and is run today, and these are the symbols that it declares.
pub record IsRunnable (symbols : List Symbol) (source : Source) : Type 0 where
  pub checked : IsChecked source
  pub built : IsTrue (is_built symbols source)
  pub symbols_are : symbols ≡ symbols_of source

-- The text spells the program, which can be run, and these are the symbols that it declares.
pub record Spells (text : List ℕ) (program : Program) (symbols : List Symbol) : Type 0 where
  pub spelled : phases.Spells text (source_of program)
  pub runnable : IsRunnable symbols (source_of program)

-- The first rule of names that a program breaks, or of types where it breaks none of names.
abbrev pub IsFirstOf : Source → Refusal → Type 0
IsFirstOf source refusal =
    IsFirst (found_in (scope_findings source)) refusal
    ⊎ ((scope_findings source ≡ []) × IsFirst (found_in (type_findings (symbols_of source) source)) refusal)

-- The text spells a program, and that breaks a rule of names or of types.
pub record IsMisused (text : List ℕ) (refusal : Refusal) : Type 0 where
  pub source : Source
  pub spelled : phases.Spells text source
  pub first : IsFirstOf source refusal

-- Rule 0, of line 1: the text breaks no other rule, and spells a program that isn't run today.
pub record IsNotBuilt (text : List ℕ) (refusal : Refusal) : Type 0 where
  pub source : Source
  pub spelled : phases.Spells text source
  pub checked : IsChecked source
  pub unbuilt : IsFalse (is_built (symbols_of source) source)
  pub is : refusal ≡ record { rule = 0; line = 1 }

-- The first refusal: that of the first phase with a broken rule, in the order of lines, tokens, statements, nesting,
-- names and types, and else that by rule 0.
abbrev pub IsFirstRefusal : List ℕ → Refusal → Type 0
IsFirstRefusal text refusal = phases.IsFirstRefusal text refusal ⊎ (IsMisused text refusal ⊎ IsNotBuilt text refusal)

-- What is seen of an accepted source.
pub record Taken : Type 0 where
  pub program : Program
  pub symbols : List Symbol

-- it is stored as the pair of its fields
abbrev pub taken_code : Coded Program → Coded Symbol → Coded Taken
taken_code program symbol =
    code_by (Program × List Symbol) (coded× program (coded_list symbol)) (λ (t : Taken). (t.program, t.symbols)) (λ p. record { program = p.0; symbols = p.1 }) (λ t. refl)

-- What `accept` answers: a program with its symbols that the text spells, and else the first refusal. Want of memory is free.
abbrev pub Answers : List ℕ → Result Taken Fail → Type 0
Answers text (Ok taken) = Spells text taken.program taken.symbols
Answers text (Err (Fail.Refused refusal)) = IsFirstRefusal text refusal
Answers text (Err Fail.NoMemory) = Unit {0}

-- ---- the laws

-- A text spells one program at most, with one list of symbols.
abbrev pub IsOneProgram : Type 0
IsOneProgram = (text : List ℕ) (program other : Program) (symbols others : List Symbol) → Spells text program symbols → Spells text other others → (program ≡ other) × (symbols ≡ others)

-- A text that is refused spells no program.
abbrev pub IsOneAnswer : Type 0
IsOneAnswer = (text : List ℕ) (refusal : Refusal) (program : Program) (symbols : List Symbol) → IsFirstRefusal text refusal → Spells text program symbols → ⊥

-- A text has one first refusal at most.
abbrev pub IsOneRefusal : Type 0
IsOneRefusal = (text : List ℕ) (a b : Refusal) → IsFirstRefusal text a → IsFirstRefusal text b → a ≡ b
