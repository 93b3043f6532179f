-- What a run writes, for examples.
use Rattle.std.specs.Prelude.{ℕ, List, [], ◌++◌, ℤ}
use Rattle.dc_int.specs.Store.{Store}
use Rattle.dc_code.specs.Inner.{judging, in_order, nested_loop, greatest_depth}
use Rattle.dc_code.specs.Loops.{Passage, alone}
use Rattle.dc_tree.specs.declared.symbols.Symbol.{Symbol}
use Rattle.dc_tree.specs.Blocks.{Source}
use Rattle.dc_meaning.specs.Programs.{program_forms}
use Rattle.dc_run.specs.Playing.{Outcome, run}
use Rattle.dc_run.specs.ReportLine.{report_line, outside_names}

-- The output of a run, and then its report line.
abbrev pub told : List Symbol → Outcome → List ℕ
told symbols outcome = outcome.output ++ report_line (outside_names symbols) outcome.ending

-- What a run with judged loops tells, with 1,000 turns and no input.
abbrev pub judged : List Symbol → Source → List ℕ
judged symbols source = told symbols (run judging symbols source 1000 [])

-- The same with so many turns, with an input, and with each loop run in the order of a number.
abbrev pub limited : ℕ → List Symbol → Source → List ℕ
limited turns symbols source = told symbols (run judging symbols source turns [])

abbrev pub given : List ℕ → List Symbol → Source → List ℕ
given input symbols source = told symbols (run judging symbols source 1000 input)

abbrev pub ordered : ℕ → List Symbol → Source → List ℕ
ordered number symbols source = told symbols (run (in_order number) symbols source 1000 [])

-- What an iteration of a program's first loop does alone on a store.
abbrev pub iteration_alone : List Symbol → Source → Store → List ℤ → Passage
iteration_alone symbols source store at = alone (nested_loop judging (program_forms symbols source 1000) greatest_depth 0 []) store at
