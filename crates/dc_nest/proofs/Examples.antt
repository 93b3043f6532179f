-- Small examples of nesting, which compute.
use Rattle.std.proofs.Common.{◌≡◌, ℕ, zero, suc, true, false, List, [], ◌∷◌, Option, None, Some, refl}
use Rattle.std.specs.Prelude.{codes}
use Rattle.std.proofs.lemmas.List.Elements.{All-from_recursion, All-nil}
use Rattle.dc_tree.specs.declared.fail.Refusal.{Refusal}
use Rattle.dc_tree.specs.declared.stmt.UseForm.{UseForm}
use Rattle.dc_tree.specs.declared.stmt.Unit as units
use Rattle.dc_tree.specs.Syntax.{Tree, truth}
use Rattle.dc_tree.specs.Statements.{Name, Statement, Deed, assign, cycle, exit, return, logical, program_line, use_line, implicit_none, declare, contains_line, procedure_line, end_line}
use Rattle.dc_tree.specs.Statements.{if_then, else_if, else_line, end_if, if_action, select_case, case, case_default, end_select, do_line, concurrent, end_do, act}
use Rattle.dc_tree.specs.Blocks.{Line, plain, branch, select, loop, none, and_then, no_arms, arm, Source}
use Rattle.dc_tree.specs.Findings.{IsFirst, least_of}
use Rattle.dc_tree.specs.Listing.{listed}
use Rattle.dc_nest.specs.declared.place.Place.{Place}
use Rattle.dc_nest.specs.declared.rule.Rule.{Rule}
use Rattle.dc_nest.specs.declared.form.Form.{Form}
use Rattle.dc_nest.specs.Nested.{Is, IsNestedSubprogram}
use Rattle.dc_nest.specs.Rules.{breaks_from}
use Rattle.dc_nest.specs.Answer.{broken_in, Nests}
use Rattle.dc_nest.specs.Judging.{findings}
use Rattle.dc_nest.proofs.Judged.{least-first, none-broken}

abbrev at : ℕ → Statement → Line
at line says = record { line = line; says = says }

abbrev yes : Tree
yes = truth true

abbrev p : Name
p = codes "p"

abbrev rows : Name
rows = codes "rows"

abbrev does : Deed
does = assign (record { name = codes "x"; subscripts = None }) yes

abbrev begins : Line
begins = at 1 (program_line p)

abbrev ends : ℕ → Line
ends line = at line (end_line None None)

abbrev forever : Option Name → Statement
forever label = do_line label None

abbrev each : Option Name → Statement
each label = concurrent label None [] None []

abbrev rule : ℕ → ℕ → Refusal
rule number line = record { rule = number; line = line }

-- The first broken rule of a list.
record Refuses (list : List Line) (refusal : Refusal) : Type 0 where
  first : IsFirst (broken_in list) refusal

refuses : (list : List Line) (refusal : Refusal) → least_of (findings list) ≡ Some refusal → Refuses list refusal
refuses list refusal least = record { first = least-first list refusal least }

-- ---- a whole program

abbrev program : Source
program = record {
  head = at 1 (program_line p);
  front = at 2 (use_line UseForm.Plain (codes "m") (codes "int8" ∷ [])) ∷ at 3 implicit_none ∷ at 4 (declare logical [] false []) ∷ [];
  body =
      and_then (loop (at 5 (forever (Some rows)))
      (and_then (branch
      (arm (at 6 (if_then yes)) (and_then (plain (at 7 (act does))) none)
      (arm (at 8 (else_if yes)) (and_then (plain (at 9 (act (cycle (Some rows))))) none) (arm (at 10 else_line) (and_then (plain (at 11 (if_action yes (exit None)))) none) no_arms)))
      (at 12 end_if)) none)
      (at 13 (end_do (Some rows))))
      (and_then (select (at 14 (select_case yes)) (arm (at 15 (case [])) (and_then (plain (at 16 (act does))) none) (arm (at 17 case_default) none no_arms)) (at 18 end_select))
      (and_then (select (at 19 (select_case yes)) no_arms (at 19 end_select)) (and_then (loop (at 20 (each None)) (and_then (plain (at 21 (act does))) none) (at 22 (end_do None))) none)));
  contains = Some 23;
  procedures =
      record {
        head = at 24 (procedure_line [] true (codes "f") true [] None);
        front = at 25 implicit_none ∷ [];
        body = and_then (plain (at 26 (act return))) none;
        close = at 27 (end_line (Some units.Unit.Function) (Some (codes "f")));
      }
      ∷ record { head = at 28 (procedure_line [] false (codes "s") false [] None); front = []; body = none; close = ends 29 } ∷ [];
  close = at 30 (end_line (Some units.Unit.Program) (Some p));
}

whole : Nests (listed program) program
whole = record {
  none_broken = none-broken (listed program) refl;
  is_nested = record {
    head = refl;
    front = All-from_recursion (Is Form.InFront) program.front (refl, (refl, (refl, tt)));
    body = (
      (refl, ((((refl, (refl, tt), (refl, (refl, tt), (refl, (refl, tt), tt))), refl), tt)), refl),
      ((refl, (refl, (refl, tt), (refl, tt, tt)), refl), ((refl, tt, refl), ((refl, (refl, tt), refl), tt))),
    );
    procedures =
        All-from_recursion IsNestedSubprogram program.procedures (
          record { head = refl; front = All-from_recursion (Is Form.InFront) (at 25 implicit_none ∷ []) (refl, tt); body = (refl, tt); close = refl },
          (record { head = refl; front = All-nil (Is Form.InFront); body = tt; close = refl }, tt),
        );
    close = refl;
  };
  lists = refl;
}

-- ---- K13

no_statement : Refuses [] (rule 13 1)
no_statement = refuses [] (rule 13 1) refl

no_end : Refuses (begins ∷ at 2 (act does) ∷ at 4 (act does) ∷ []) (rule 13 4)
no_end = refuses _ (rule 13 4) refl

behind_the_end : Refuses (begins ∷ ends 2 ∷ ends 3 ∷ []) (rule 13 3)
behind_the_end = refuses _ (rule 13 3) refl

second_else : Refuses (begins ∷ at 2 (if_then yes) ∷ at 3 else_line ∷ at 4 (else_if yes) ∷ at 5 end_if ∷ ends 6 ∷ []) (rule 13 4)
second_else = refuses _ (rule 13 4) refl

other_end : Refuses (begins ∷ at 2 (forever None) ∷ at 3 end_if ∷ at 4 (end_do None) ∷ ends 5 ∷ []) (rule 13 3)
other_end = refuses _ (rule 13 3) refl

before_case : Refuses (begins ∷ at 2 (select_case yes) ∷ at 3 (act does) ∷ at 4 end_select ∷ ends 5 ∷ []) (rule 13 3)
before_case = refuses _ (rule 13 3) refl

late_declaration : Refuses (begins ∷ at 2 (act does) ∷ at 3 (declare logical [] false []) ∷ ends 4 ∷ []) (rule 13 3)
late_declaration = refuses _ (rule 13 3) refl

wrong_unit : Refuses (begins ∷ at 2 contains_line ∷ at 3 (procedure_line [] true (codes "f") true [] None) ∷ at 4 (end_line (Some units.Unit.Subroutine) None) ∷ ends 5 ∷ []) (rule 13 4)
wrong_unit = refuses _ (rule 13 4) refl

-- CONTAINS without procedures is allowed.
nothing_contained : (r : Rule) (line : ℕ) → breaks_from Place.Outset 1 r (begins ∷ at 2 contains_line ∷ ends 3 ∷ []) line ≡ true → ⊥
nothing_contained = none-broken (begins ∷ at 2 contains_line ∷ ends 3 ∷ []) refl

-- ---- K14

-- so many IF constructs, the first on this line, around what stands inside
abbrev ifs : ℕ → ℕ → List Line → List Line
ifs zero line rest = rest
ifs (suc n) line rest = at line (if_then yes) ∷ ifs n (suc line) rest

abbrev end_ifs : ℕ → List Line
end_ifs zero = ends 300 ∷ []
end_ifs (suc n) = at 200 end_if ∷ end_ifs n

deepest : (r : Rule) (line : ℕ) → breaks_from Place.Outset 1 r (begins ∷ ifs 64 2 (end_ifs 64)) line ≡ true → ⊥
deepest = none-broken (begins ∷ ifs 64 2 (end_ifs 64)) refl

too_deep : Refuses (begins ∷ ifs 65 2 (end_ifs 65)) (rule 14 66)
too_deep = refuses _ (rule 14 66) refl

-- ---- K15

other_name : Refuses (begins ∷ at 2 (forever (Some rows)) ∷ at 3 (end_do (Some p)) ∷ ends 4 ∷ []) (rule 15 3)
other_name = refuses _ (rule 15 3) refl

name_missing : Refuses (begins ∷ at 2 (forever (Some rows)) ∷ at 3 (end_do None) ∷ ends 4 ∷ []) (rule 15 3)
name_missing = refuses _ (rule 15 3) refl

no_name_to_end : Refuses (begins ∷ at 2 (forever None) ∷ at 3 (end_do (Some rows)) ∷ ends 4 ∷ []) (rule 15 3)
no_name_to_end = refuses _ (rule 15 3) refl

other_program : Refuses (begins ∷ at 2 (end_line (Some units.Unit.Program) (Some rows)) ∷ []) (rule 15 2)
other_program = refuses _ (rule 15 2) refl

-- ---- K16

no_loop : Refuses (begins ∷ at 2 (if_then yes) ∷ at 3 (act (cycle None)) ∷ at 4 end_if ∷ ends 5 ∷ []) (rule 16 3)
no_loop = refuses _ (rule 16 3) refl

none_of_that_name : Refuses (begins ∷ at 2 (forever None) ∷ at 3 (if_action yes (exit (Some rows))) ∷ at 4 (end_do None) ∷ ends 5 ∷ []) (rule 16 3)
none_of_that_name = refuses _ (rule 16 3) refl

-- ---- K17

exit_of_concurrent : Refuses (begins ∷ at 2 (each None) ∷ at 3 (act (exit None)) ∷ at 4 (end_do None) ∷ ends 5 ∷ []) (rule 17 3)
exit_of_concurrent = refuses _ (rule 17 3) refl

cycle_of_concurrent : (r : Rule) (line : ℕ) → breaks_from Place.Outset 1 r (begins ∷ at 2 (each None) ∷ at 3 (act (cycle None)) ∷ at 4 (end_do None) ∷ ends 5 ∷ []) line ≡ true → ⊥
cycle_of_concurrent = none-broken (begins ∷ at 2 (each None) ∷ at 3 (act (cycle None)) ∷ at 4 (end_do None) ∷ ends 5 ∷ []) refl

cycle_over_concurrent : Refuses (begins ∷ at 2 (forever (Some rows)) ∷ at 3 (each None) ∷ at 4 (act (cycle (Some rows))) ∷ at 5 (end_do None) ∷ at 6 (end_do (Some rows)) ∷ ends 7 ∷ []) (rule 17 4)
cycle_over_concurrent = refuses _ (rule 17 4) refl

return_in_main : Refuses (begins ∷ at 2 (if_action yes return) ∷ ends 3 ∷ []) (rule 17 2)
return_in_main = refuses _ (rule 17 2) refl

-- ---- K18

concurrent_in_concurrent : Refuses (begins ∷ at 2 (each None) ∷ at 3 (if_then yes) ∷ at 4 (each None) ∷ at 5 (end_do None) ∷ at 6 end_if ∷ at 7 (end_do None) ∷ ends 8 ∷ []) (rule 18 4)
concurrent_in_concurrent = refuses _ (rule 18 4) refl

concurrent_in_procedure : Refuses (begins ∷ at 2 contains_line ∷ at 3 (procedure_line [] false p false [] None) ∷ at 4 (each None) ∷ at 5 (end_do None) ∷ ends 6 ∷ ends 7 ∷ []) (rule 18 4)
concurrent_in_procedure = refuses _ (rule 18 4) refl

-- ---- which comes first

-- on one line the lesser rule, though its statement is the later one
lesser_rule : Refuses (begins ∷ at 2 (act return) ∷ at 2 else_line ∷ ends 3 ∷ []) (rule 13 2)
lesser_rule = refuses _ (rule 13 2) refl

-- the earlier line, though its rule is the greater one
earlier_line : Refuses (begins ∷ at 2 (forever (Some rows)) ∷ at 3 (end_do None) ∷ at 4 else_line ∷ []) (rule 15 3)
earlier_line = refuses _ (rule 15 3) refl
