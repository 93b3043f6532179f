-- The code's endings as the definitions have them, and what must be there for a report of one.
use Rattle.std.specs.Prelude.{◌≡◌, ◌<◌, ◌≤◌, ℕ, List, [], ◌∷◌, filter, slice_get, codes, Option, Some, None, IsSomeAnd, ℤ}
use Rattle.std.specs.List.{concat}
use Rattle.dc_int.specs.declared.fault.Why.{Why}
use Rattle.dc_int.specs.declared.access.ElementId.{ElementId}
use Rattle.dc_int.specs.Store.{Bounds, elements_in}
use Rattle.dc_code.specs.declared.verdict.Verdict as answers
use Rattle.dc_code.specs.declared.verdict.Race.{Race}
use Rattle.dc_code.specs.Inner.{judging}
use Rattle.dc_code.specs.Troubles.{ended, masked, raced}
use Rattle.dc_code.specs.Verdicts.{seen, side}
use Rattle.dc_tree.specs.declared.symbols.Role.{Role}
use Rattle.dc_tree.specs.declared.symbols.Symbol.{Symbol}
use Rattle.dc_tree.specs.Blocks.{Source}
use Rattle.dc_run.specs.declared.ending.Ending as endings
use Rattle.dc_run.specs.declared.ending.RunOut.{RunOut}
use Rattle.dc_run.specs.Playing.{run}
use Rattle.dc_run.specs.ReportLine.{Ending, done, bad, stopped, is_outside, outside_names, side_text, trouble_text}

-- The variable of the main program that an element is of.
abbrev pub variable_of : List Symbol → ElementId → Option Symbol
variable_of symbols x = slice_get (filter is_outside symbols) x.variable

abbrev pub bounds_in_role : Role → Bounds
bounds_in_role (Role.Variable logical kind bounds initial) = bounds
bounds_in_role role = []

abbrev pub declared_bounds : Option Symbol → Bounds
declared_bounds (Some symbol) = bounds_in_role symbol.role
declared_bounds None = []

-- The bounds of the variable that a race names, as it is declared.
abbrev pub bounds_named : List Symbol → answers.Verdict → Bounds
bounds_named symbols (answers.Verdict.Race found first second) = declared_bounds (variable_of symbols found.element)
bounds_named symbols verdict = []

abbrev pub ending_of : List Symbol → endings.Ending → Ending
ending_of symbols endings.Ending.Done = done
ending_of symbols (endings.Ending.Bad why line) = bad (record { why = why; line = line })
ending_of symbols (endings.Ending.Stopped verdict) = stopped (seen verdict) (bounds_named symbols verdict)

-- What the code answers for a program is what its run writes and how it ends, with so many turns and this
-- input.
pub record IsRunOf (symbols : List Symbol) (source : Source) (turns : ℕ) (given : List ℕ) (out : RunOut) : Type 0 where
  pub output : out.output ≡ (run judging symbols source turns given).output
  pub ending : ending_of symbols out.ending ≡ (run judging symbols source turns given).ending

-- The element is one of a variable of the main program.
abbrev pub IsElement : List Symbol → ElementId → Type 0
IsElement symbols x = IsSomeAnd (variable_of symbols x) (λ symbol. x.position < elements_in (bounds_in_role symbol.role))

-- The element that a race names is one of the program's.
abbrev pub NamesOwn : List Symbol → endings.Ending → Type 0
NamesOwn symbols (endings.Ending.Stopped (answers.Verdict.Race found first second)) = IsElement symbols found.element
NamesOwn symbols ending = Unit {0}

-- The position is one of an array of no more than the greatest number of elements.
pub record IsThere (bounds : Bounds) (position : ℕ) : Type 0 where
  pub inside : position < elements_in bounds
  pub few : elements_in bounds ≤ 4194304

-- The same of the element that a race names.
abbrev pub NamesThere : List Symbol → endings.Ending → Type 0
NamesThere symbols (endings.Ending.Stopped (answers.Verdict.Race found first second)) =
    IsThere (declared_bounds (variable_of symbols found.element)) found.element.position
NamesThere symbols ending = Unit {0}

-- ---- the texts of troubles outside loops inside loops

abbrev pub sides_text : Race → List ℤ → List ℤ → List ℕ
sides_text found first second = concat (side_text [] (side found.first first) ∷ codes ", " ∷ side_text [] (side found.second second) ∷ [])

abbrev pub race_text : List Symbol → Race → List ℤ → List ℤ → List ℕ
race_text symbols found first second =
    trouble_text (outside_names symbols) (declared_bounds (variable_of symbols found.element)) (raced found.element (side found.first first) (side found.second second) [])

abbrev pub failure_text : Why → ℕ → List ℕ
failure_text why line = trouble_text [] [] (ended why line [])

abbrev pub iteration_text : Why → List ℤ → ℕ → List ℕ
iteration_text why at line = trouble_text [] [] (ended why line (at ∷ []))

abbrev pub masked_text : Why → List ℤ → ℕ → List ℕ
masked_text why mask line = trouble_text [] [] (masked why line [] mask)

abbrev pub verdict_text : List Symbol → answers.Verdict → List ℕ
verdict_text symbols answers.Verdict.GoOn = []
verdict_text symbols (answers.Verdict.HeaderFault why line None) = failure_text why line
verdict_text symbols (answers.Verdict.HeaderFault why line (Some mask)) = masked_text why mask line
verdict_text symbols (answers.Verdict.IterFault why line at) = iteration_text (Why.Fault why) at line
verdict_text symbols (answers.Verdict.IterSpent line at) = iteration_text Why.Spent at line
verdict_text symbols (answers.Verdict.Race found first second) = race_text symbols found first second
