-- Lines of the log, each beside what it tells of.
use Rattle.std.proofs.Common.{◌≡◌, ℕ, false, List, [], ◌∷◌, ◌++◌, refl, codes}
use Rattle.std.specs.Prelude.{ℤ, pos, negsuc}
use Rattle.std.specs.Fmt.{digits}
use Rattle.dc_int.specs.declared.access.Action.{Action}
use Rattle.dc_int.specs.declared.fault.FaultKind.{FaultKind}
use Rattle.dc_int.specs.declared.fault.Why.{Why}
use Rattle.dc_int.specs.declared.kind.Kind.{Kind}
use Rattle.dc_int.specs.Store.{Bounds}
use Rattle.dc_code.specs.declared.verdict.Party.{Party}
use Rattle.dc_code.specs.Troubles.{Side, Trouble, ended, masked, raced}
use Rattle.dc_code.specs.Verdicts.{at_header, in_iteration, race}
use Rattle.dc_tree.specs.declared.symbols.Role.{Role}
use Rattle.dc_tree.specs.declared.symbols.Symbol.{Symbol}
use Rattle.dc_run.specs.ReportLine.{Ending, done, bad, stopped, outside_names, subscripts_at, report_line}

-- a text, and a line feed behind it
abbrev line : List ℕ → List ℕ
line text = text ++ 10 ∷ []

-- the index list of one index
abbrev one : ℕ → List ℤ
one n = pos n ∷ []

-- ---- names

abbrev symbols : List Symbol
symbols =
    record { scope = 0; name = codes "a"; role = Role.Variable false Kind.K4 ((pos 1, pos 4) ∷ []) [] }
    ∷ record { scope = 0; name = codes "n"; role = Role.Constant false Kind.K4 (pos 4) }
    ∷ record { scope = 1; name = codes "x"; role = Role.Variable false Kind.K4 [] [] }
    ∷ record { scope = 0; name = codes "t"; role = Role.Variable false Kind.K4 [] [] } ∷ []

-- neither a constant nor a procedure's variable counts
abbrev names : List (List ℕ)
names = codes "a" ∷ codes "t" ∷ []

only_outside_variables : outside_names symbols ≡ names
only_outside_variables = refl

-- ---- subscripts

first_varies_fastest : subscripts_at ((pos 1, pos 2) ∷ (negsuc 0, pos 1) ∷ []) 3 ≡ pos 2 ∷ pos 0 ∷ []
first_varies_fastest = refl

of_a_scalar : subscripts_at [] 0 ≡ []
of_a_scalar = refl

-- ---- a run that comes to its end

nothing_to_tell : report_line names done ≡ []
nothing_to_tell = refl

-- ---- outside loops

abbrev failing : Why → Ending
failing why = bad (record { why = why; line = 8 })

fault_outside : report_line names (failing (Why.Fault FaultKind.Undefined)) ≡ line (codes "fault: Undefined: line 8")
unfolding digits
fault_outside = refl

spent_outside : report_line names (failing Why.Spent) ≡ line (codes "spent: line 8")
unfolding digits
spent_outside = refl

-- ---- headers

abbrev header : Trouble → Ending
header trouble = stopped (at_header trouble) []

step_of_zero : report_line names (header (ended (Why.Fault FaultKind.StepZero) 3 [])) ≡ line (codes "fault: StepZero: line 3")
unfolding digits
step_of_zero = refl

too_many : report_line names (header (ended (Why.Fault FaultKind.TooManyIterations) 3 [])) ≡ line (codes "fault: TooManyIterations: line 3")
unfolding digits
too_many = refl

in_a_mask : report_line names (header (masked (Why.Fault FaultKind.Undefined) 3 [] (one 1))) ≡ line (codes "fault: Undefined: mask (1): line 3")
unfolding digits
in_a_mask = refl

spent_in_a_mask : report_line names (header (masked Why.Spent 4 [] (one 1))) ≡ line (codes "spent: mask (1): line 4")
unfolding digits
spent_in_a_mask = refl

-- ---- iterations

abbrev of_iteration : List ℤ → Trouble → Ending
of_iteration at trouble = stopped (in_iteration trouble at) []

in_an_iteration
    : report_line names (of_iteration (one 2) (ended (Why.Fault FaultKind.Undefined) 4 []))
    ≡ line (codes "fault: Undefined: iteration (2): line 4")
unfolding digits
in_an_iteration = refl

divided
    : report_line names (of_iteration (one 3) (ended (Why.Fault FaultKind.DivideByZero) 4 []))
    ≡ line (codes "fault: DivideByZero: iteration (3): line 4")
unfolding digits
divided = refl

spent_in_an_iteration : report_line names (of_iteration (one 1) (ended Why.Spent 4 [])) ≡ line (codes "spent: iteration (1): line 4")
unfolding digits
spent_in_an_iteration = refl

three_indexes
    : report_line names (of_iteration (pos 1 ∷ negsuc 11 ∷ pos 0 ∷ []) (ended Why.Spent 20 []))
    ≡ line (codes "spent: iteration (1,-12,0): line 20")
unfolding digits
three_indexes = refl

-- ---- loops inside loops

in_an_inner_iteration
    : report_line names (of_iteration (one 2) (ended (Why.Fault FaultKind.Undefined) 6 (one 3 ∷ (pos 1 ∷ pos 4 ∷ []) ∷ [])))
    ≡ line (codes "fault: Undefined: iteration (2)/(3)/(1,4): line 6")
unfolding digits
in_an_inner_iteration = refl

in_an_inner_mask
    : report_line names (of_iteration (one 2) (masked (Why.Fault FaultKind.Undefined) 5 [] (one 1)))
    ≡ line (codes "fault: Undefined: iteration (2): mask (1): line 5")
unfolding digits
in_an_inner_mask = refl

abbrev inner_side : ℕ → Action → Side
inner_side index action = record { at = one index; action = action; line = 6 }

abbrev raced_inside : Trouble
raced_inside = raced (record { variable = 0; position = 1 }) (inner_side 2 Action.Defines) (inner_side 3 Action.Reads) []

inner_race
    : report_line names (stopped (in_iteration raced_inside (one 1)) ((pos 1, pos 4) ∷ []))
    ≡ line (codes "race: a(2): iteration (1)/(2) defines at line 6, iteration (1)/(3) reads at line 6")
unfolding digits
inner_race = refl

-- ---- races

abbrev party : ℕ → Action → ℕ → Party
party iteration action number = record { iteration = iteration; action = action; line = number }

-- on the second element of the array, and on the scalar
abbrev on_array : Party → Party → Bounds → Ending
on_array first second = stopped (race (record { element = record { variable = 0; position = 1 }; first = first; second = second }) (one 2) (one 3))

abbrev on_scalar : Party → Party → List ℤ → List ℤ → Ending
on_scalar first second at beside =
    stopped (race (record { element = record { variable = 1; position = 0 }; first = first; second = second }) at beside) []

race_of_an_array
    : report_line names (on_array (party 0 Action.Defines 5) (party 1 Action.Reads 5) ((pos 1, pos 4) ∷ []))
    ≡ line (codes "race: a(2): iteration (2) defines at line 5, iteration (3) reads at line 5")
unfolding digits
race_of_an_array = refl

-- an array with two dimensions, the second from -1 on
race_of_a_matrix
    : report_line names (on_array (party 0 Action.Defines 5) (party 1 Action.Defines 6) ((pos 1, pos 2) ∷ (negsuc 0, pos 1) ∷ []))
    ≡ line (codes "race: a(2,-1): iteration (2) defines at line 5, iteration (3) defines at line 6")
unfolding digits
race_of_a_matrix = refl

race_of_a_scalar
    : report_line names (on_scalar (party 0 Action.Defines 4) (party 2 Action.Defines 4) (one 1) (one 3))
    ≡ line (codes "race: t: iteration (1) defines at line 4, iteration (3) defines at line 4")
unfolding digits
race_of_a_scalar = refl

defines_and_reads
    : report_line names (on_scalar (party 0 Action.Defines 7) (party 1 Action.Reads 10) (one 1) (one 2))
    ≡ line (codes "race: t: iteration (1) defines at line 7, iteration (2) reads at line 10")
unfolding digits
defines_and_reads = refl

race_of_two_indexes
    : report_line names (on_scalar (party 0 Action.Defines 4) (party 3 Action.Defines 4) (pos 1 ∷ pos 1 ∷ []) (pos 2 ∷ pos 2 ∷ []))
    ≡ line (codes "race: t: iteration (1,1) defines at line 4, iteration (2,2) defines at line 4")
unfolding digits
race_of_two_indexes = refl

undefining
    : report_line names (on_scalar (party 0 Action.Undefines 4) (party 1 Action.Undefines 4) (one 1) (one 2))
    ≡ line (codes "race: t: iteration (1) undefines at line 4, iteration (2) undefines at line 4")
unfolding digits
undefining = refl
