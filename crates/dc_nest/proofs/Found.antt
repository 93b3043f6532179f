-- A list of statements each of which is allowed where it stands, and of which the last ends the program, is that of a program.
use Rattle.std.proofs.Common.{◌≡◌, ℕ, true, false, List, [], ◌∷◌, ◌++◌, All, Option, None, Some, refl, sym, ap, ◌∙◌, append_assoc}
use Rattle.std.specs.Prelude.{flat_map}
use Rattle.std.proofs.lemmas.Bool.{false≢true, and_parts}
use Rattle.std.proofs.lemmas.List.Elements.{All-cons, All-nil}
use Rattle.std.specs.Option.{option_map_or}
use Rattle.dc_tree.specs.Statements.{Name, Statement, program_line, use_line, implicit_none, declare, contains_line, procedure_line, end_line}
use Rattle.dc_tree.specs.Statements.{if_then, else_if, else_line, end_if, if_action, select_case, case, case_default, end_select}
use Rattle.dc_tree.specs.Statements.{do_line, do_while, concurrent, end_do, act}
use Rattle.dc_tree.specs.Blocks.{Line, Items, Arms, plain, branch, select, loop, none, and_then, no_arms, arm, Subprogram}
use Rattle.dc_tree.specs.Listing.{lines_of, arm_lines, contains_lines, subprogram_lines}
use Rattle.dc_nest.specs.declared.form.Form.{Form}
use Rattle.dc_nest.specs.declared.place.Construct.{Construct}
use Rattle.dc_nest.specs.declared.place.Heading.{Heading}
use Rattle.dc_nest.specs.declared.place.Position.{Position}
use Rattle.dc_nest.specs.declared.place.Place.{Place}
use Rattle.dc_nest.specs.Places.{open_in, directly_in, is_if, is_before_else, is_select, is_loop, may_use, may_be_implicit, may_declare, may_execute, is_closed, known, outside, is_program, ends, allows_inside, allows, behind_inside, behind_end, behind}
use Rattle.dc_nest.specs.Judging.{is_whole}
use Rattle.dc_nest.specs.Nested.{Is, AreNested, AreArms, IsNestedSubprogram, AreContained}
use Rattle.dc_nest.specs.Ahead.{ProgramAhead}

-- ---- what is left of a text: the rest of a block, of the constructs around it, and of the unit

-- the rest of a block, and what is after it
record Left (After : List Line → Type 0) (list : List Line) : Type 0 where
  body : Items
  after : List Line
  nested : AreNested body
  lines : lines_of body ++ after ≡ list
  then_after : After after

-- the rest of an IF or SELECT CASE construct behind a block, and what is left around it
record LeftArms (wanted ending : Form) (After : List Line → Type 0) (list : List Line) : Type 0 where
  arms : Arms
  close : Line
  behind_it : List Line
  nested : AreArms wanted arms
  closes : Is ending close
  lines : arm_lines arms ++ close ∷ behind_it ≡ list
  around : Left After behind_it

-- the end of a loop
record LeftEnd (After : List Line → Type 0) (list : List Line) : Type 0 where
  close : Line
  behind_it : List Line
  closes : Is Form.EndsLoop close
  lines : close ∷ behind_it ≡ list
  around : Left After behind_it

-- behind the block of the innermost of these constructs
abbrev Behind : (List Line → Type 0) → List Construct → List Line → Type 0
Behind After [] list = After list
Behind After (Construct.If otherwise ∷ around) list = LeftArms Form.BeginsElse Form.EndsIf (Behind After around) list
Behind After (Construct.Select cased ∷ around) list = LeftArms Form.BeginsCase Form.EndsSelect (Behind After around) list
Behind After (Construct.Loop label ∷ around) list = LeftEnd (Behind After around) list
Behind After (Construct.Concurrent label ∷ around) list = LeftEnd (Behind After around) list

-- in the block of the innermost construct, or in front of the first CASE
abbrev Open : (List Line → Type 0) → List Construct → List Line → Type 0
Open After (Construct.Select false ∷ around) list = LeftArms Form.BeginsCase Form.EndsSelect (Behind After around) list
Open After around list = Left (Behind After around) list

-- in the front of a unit
record LeftFront (After : List Line → Type 0) (list : List Line) : Type 0 where
  front : List Line
  behind_it : List Line
  all : All (Is Form.InFront) front
  lines : front ++ behind_it ≡ list
  body : Left After behind_it

abbrev LeftIn : (List Line → Type 0) → Position → List Line → Type 0
LeftIn After (Position.Front front) list = LeftFront After list
LeftIn After (Position.Body around) list = Open After around list

-- between procedures
record LeftProcedures (list : List Line) : Type 0 where
  procedures : List Subprogram
  close : Line
  all : All IsNestedSubprogram procedures
  closes : Is Form.EndsUnit close
  lines : flat_map subprogram_lines procedures ++ close ∷ [] ≡ list

-- behind the body of the program
record LeftOuter (list : List Line) : Type 0 where
  contains : Option ℕ
  procedures : List Subprogram
  close : Line
  contained : AreContained contains procedures
  closes : Is Form.EndsUnit close
  lines : (contains_lines contains ++ flat_map subprogram_lines procedures) ++ close ∷ [] ≡ list

-- behind the body of a procedure
record LeftInner (list : List Line) : Type 0 where
  close : Line
  behind_it : List Line
  closes : Is Form.EndsUnit close
  lines : close ∷ behind_it ≡ list
  procedures : LeftProcedures behind_it

abbrev Outside : Option Heading → List Line → Type 0
Outside None list = LeftOuter list
Outside (Some heading) list = LeftInner list

abbrev LeftAt : Place → List Line → Type 0
LeftAt Place.Outset list = ProgramAhead list
LeftAt (Place.Within scope position) list = LeftIn (Outside scope.procedure) position list
LeftAt (Place.Between program) list = LeftProcedures list
LeftAt Place.Ended list = list ≡ []

-- ---- one more statement in a body

abbrev at : ℕ → Statement → Line
at line says = record { line = line; says = says }

no_body : (After : List Line → Type 0) (list : List Line) → After list → Left After list
no_body After list is = record { body = none; after = list; nested = tt; lines = refl; then_after = is }

-- what is left in a block, also in front of the first CASE
open-left : (After : List Line → Type 0) (around : List Construct) (list : List Line) → Open After around list → Left (Behind After around) list
open-left After [] list left = left
open-left After (Construct.If otherwise ∷ around) list left = left
open-left After (Construct.Select true ∷ around) list left = left
open-left After (Construct.Select false ∷ around) list left = no_body (Behind After (Construct.Select false ∷ around)) list left
open-left After (Construct.Loop label ∷ around) list left = left
open-left After (Construct.Concurrent label ∷ around) list left = left

-- where an executable statement may stand
executable : (After : List Line → Type 0) (position : Position) (list : List Line) → may_execute position ≡ true → Left (Behind After (open_in position)) list → LeftIn After position list
executable After (Position.Front front) list may left = record { front = []; behind_it = list; all = All-nil (Is Form.InFront); lines = refl; body = left }
executable After (Position.Body []) list may left = left
executable After (Position.Body (Construct.If otherwise ∷ around)) list may left = left
executable After (Position.Body (Construct.Select true ∷ around)) list may left = left
executable After (Position.Body (Construct.Select false ∷ around)) list may left = absurd (false≢true may)
executable After (Position.Body (Construct.Loop label ∷ around)) list may left = left
executable After (Position.Body (Construct.Concurrent label ∷ around)) list may left = left

plain-left : (After : List Line → Type 0) (line : Line) (rest : List Line) → Is Form.Acts line → Left After rest → Left After (line ∷ rest)
plain-left After line rest is left = record {
  body = and_then (plain line) left.body;
  after = left.after;
  nested = (is, left.nested);
  lines = ap (λ lines. line ∷ lines) left.lines;
  then_after = left.then_after;
}

branch-lines : (x close : Line) (b a i c rest mid tail : List Line) → b ++ mid ≡ rest → a ++ close ∷ tail ≡ mid → i ++ c ≡ tail → (((x ∷ (b ++ a)) ++ close ∷ []) ++ i) ++ c ≡ x ∷ rest
branch-lines x close b a i c rest mid tail first second third =
    simp append_assoc (ap (λ lines. x ∷ lines) (ap (λ lines. b ++ (a ++ close ∷ lines)) third ∙ ap (λ lines. b ++ lines) second ∙ first))

branch-left : (After : List Line → Type 0) (line : Line) (rest : List Line) → Is Form.BeginsIf line → Left (LeftArms Form.BeginsElse Form.EndsIf After) rest → Left After (line ∷ rest)
branch-left After line rest is left =
    let inner = left.then_after in
    let outer = inner.around in
    record {
      body = and_then (branch (arm line left.body inner.arms) inner.close) outer.body;
      after = outer.after;
      nested = (((is, left.nested, inner.nested), inner.closes), outer.nested);
      lines =
          branch-lines line inner.close (lines_of left.body) (arm_lines inner.arms) (lines_of outer.body) outer.after rest left.after inner.behind_it left.lines inner.lines outer.lines;
      then_after = outer.then_after;
    }

block-lines : (x close : Line) (b i c rest tail : List Line) → b ++ close ∷ tail ≡ rest → i ++ c ≡ tail → ((x ∷ (b ++ close ∷ [])) ++ i) ++ c ≡ x ∷ rest
block-lines x close b i c rest tail first second =
    simp append_assoc (ap (λ lines. x ∷ lines) (ap (λ lines. b ++ close ∷ lines) second ∙ first))

select-left : (After : List Line → Type 0) (line : Line) (rest : List Line) → Is Form.BeginsSelect line → LeftArms Form.BeginsCase Form.EndsSelect After rest → Left After (line ∷ rest)
select-left After line rest is left =
    let outer = left.around in
    record {
      body = and_then (select line left.arms left.close) outer.body;
      after = outer.after;
      nested = ((is, left.nested, left.closes), outer.nested);
      lines = block-lines line left.close (arm_lines left.arms) (lines_of outer.body) outer.after rest left.behind_it left.lines outer.lines;
      then_after = outer.then_after;
    }

loop-left : (After : List Line → Type 0) (line : Line) (rest : List Line) → Is Form.BeginsLoop line → Left (LeftEnd After) rest → Left After (line ∷ rest)
loop-left After line rest is left =
    let inner = left.then_after in
    let outer = inner.around in
    record {
      body = and_then (loop line left.body inner.close) outer.body;
      after = outer.after;
      nested = ((is, left.nested, inner.closes), outer.nested);
      lines =
          block-lines line inner.close (lines_of left.body) (lines_of outer.body) outer.after rest inner.behind_it
          (ap (λ lines. lines_of left.body ++ lines) inner.lines ∙ left.lines) outer.lines;
      then_after = outer.then_after;
    }

-- the first statement of another arm
arm-left : (wanted ending : Form) (After : List Line → Type 0) (line : Line) (rest : List Line) → Is wanted line → Left (LeftArms wanted ending After) rest → LeftArms wanted ending After (line ∷ rest)
arm-left wanted ending After line rest is left =
    let inner = left.then_after in
    record {
      arms = arm line left.body inner.arms;
      close = inner.close;
      behind_it = inner.behind_it;
      nested = (is, left.nested, inner.nested);
      closes = inner.closes;
      lines =
          ap (λ lines. line ∷ lines)
          (append_assoc (lines_of left.body) (arm_lines inner.arms) (inner.close ∷ inner.behind_it) ∙ ap (λ lines. lines_of left.body ++ lines) inner.lines ∙ left.lines);
      around = inner.around;
    }

close-left : (wanted ending : Form) (After : List Line → Type 0) (line : Line) (rest : List Line) → Is ending line → Left After rest → LeftArms wanted ending After (line ∷ rest)
close-left wanted ending After line rest is left =
    record { arms = no_arms; close = line; behind_it = rest; nested = tt; closes = is; lines = refl; around = left }

-- inside of an IF construct, and behind its ELSE
otherwise-step : (After : List Line → Type 0) (position : Position) (line : Line) (rest : List Line) → directly_in is_before_else position ≡ true → Is Form.BeginsElse line
    → LeftIn After (known (Construct.If true) position) rest → LeftIn After position (line ∷ rest)
otherwise-step After (Position.Body (Construct.If otherwise ∷ around)) line rest may is left =
    no_body (LeftArms Form.BeginsElse Form.EndsIf (Behind After around)) (line ∷ rest) (arm-left Form.BeginsElse Form.EndsIf (Behind After around) line rest is left)
otherwise-step After _ line rest may is left = absurd (false≢true may)

else-step : (After : List Line → Type 0) (position : Position) (line : Line) (rest : List Line) → directly_in is_before_else position ≡ true → Is Form.BeginsElse line
    → LeftIn After position rest → LeftIn After position (line ∷ rest)
else-step After (Position.Body (Construct.If otherwise ∷ around)) line rest may is left =
    no_body (LeftArms Form.BeginsElse Form.EndsIf (Behind After around)) (line ∷ rest) (arm-left Form.BeginsElse Form.EndsIf (Behind After around) line rest is left)
else-step After _ line rest may is left = absurd (false≢true may)

end_if-step : (After : List Line → Type 0) (position : Position) (line : Line) (rest : List Line) → directly_in is_if position ≡ true → Is Form.EndsIf line
    → LeftIn After (outside position) rest → LeftIn After position (line ∷ rest)
end_if-step After (Position.Body (Construct.If otherwise ∷ around)) line rest may is left =
    no_body (LeftArms Form.BeginsElse Form.EndsIf (Behind After around)) (line ∷ rest)
    (close-left Form.BeginsElse Form.EndsIf (Behind After around) line rest is (open-left After around rest left))
end_if-step After _ line rest may is left = absurd (false≢true may)

case-step : (After : List Line → Type 0) (position : Position) (line : Line) (rest : List Line) → directly_in is_select position ≡ true → Is Form.BeginsCase line
    → LeftIn After (known (Construct.Select true) position) rest → LeftIn After position (line ∷ rest)
case-step After (Position.Body (Construct.Select true ∷ around)) line rest may is left =
    no_body (LeftArms Form.BeginsCase Form.EndsSelect (Behind After around)) (line ∷ rest) (arm-left Form.BeginsCase Form.EndsSelect (Behind After around) line rest is left)
case-step After (Position.Body (Construct.Select false ∷ around)) line rest may is left = arm-left Form.BeginsCase Form.EndsSelect (Behind After around) line rest is left
case-step After _ line rest may is left = absurd (false≢true may)

end_select-step : (After : List Line → Type 0) (position : Position) (line : Line) (rest : List Line) → directly_in is_select position ≡ true → Is Form.EndsSelect line
    → LeftIn After (outside position) rest → LeftIn After position (line ∷ rest)
end_select-step After (Position.Body (Construct.Select true ∷ around)) line rest may is left =
    no_body (LeftArms Form.BeginsCase Form.EndsSelect (Behind After around)) (line ∷ rest)
    (close-left Form.BeginsCase Form.EndsSelect (Behind After around) line rest is (open-left After around rest left))
end_select-step After (Position.Body (Construct.Select false ∷ around)) line rest may is left =
    close-left Form.BeginsCase Form.EndsSelect (Behind After around) line rest is (open-left After around rest left)
end_select-step After _ line rest may is left = absurd (false≢true may)

end_loop : (After : List Line → Type 0) (around : List Construct) (line : Line) (rest : List Line) → Is Form.EndsLoop line → Open After around rest → Left (LeftEnd (Behind After around)) (line ∷ rest)
end_loop After around line rest is left =
    no_body (LeftEnd (Behind After around)) (line ∷ rest) (record { close = line; behind_it = rest; closes = is; lines = refl; around = open-left After around rest left })

end_do-step : (After : List Line → Type 0) (position : Position) (line : Line) (rest : List Line) → directly_in is_loop position ≡ true → Is Form.EndsLoop line
    → LeftIn After (outside position) rest → LeftIn After position (line ∷ rest)
end_do-step After (Position.Body (Construct.Loop label ∷ around)) line rest may is left = end_loop After around line rest is left
end_do-step After (Position.Body (Construct.Concurrent label ∷ around)) line rest may is left = end_loop After around line rest is left
end_do-step After _ line rest may is left = absurd (false≢true may)

front-step : (After : List Line → Type 0) (position : Position) (line : Line) (rest : List Line) → may_declare position ≡ true → Is Form.InFront line → LeftFront After rest → LeftIn After position (line ∷ rest)
front-step After (Position.Front front) line rest may is left = record {
  front = line ∷ left.front;
  behind_it = left.behind_it;
  all = All-cons (Is Form.InFront) line left.front is left.all;
  lines = ap (λ lines. line ∷ lines) left.lines;
  body = left.body;
}
front-step After (Position.Body around) line rest may is left = absurd (false≢true may)

use-step : (After : List Line → Type 0) (position : Position) (line : Line) (rest : List Line) → may_use position ≡ true → Is Form.InFront line → LeftIn After position rest → LeftIn After position (line ∷ rest)
use-step After (Position.Front front) line rest may is left = front-step After (Position.Front front) line rest refl is left
use-step After (Position.Body around) line rest may is left = absurd (false≢true may)

implicit-step : (After : List Line → Type 0) (position : Position) (line : Line) (rest : List Line) → may_be_implicit position ≡ true → Is Form.InFront line → LeftFront After rest → LeftIn After position (line ∷ rest)
implicit-step After (Position.Front front) line rest may is left = front-step After (Position.Front front) line rest refl is left
implicit-step After (Position.Body around) line rest may is left = absurd (false≢true may)

inside-step : (After : List Line → Type 0) (position : Position) (n : ℕ) (says : Statement) (rest : List Line) → allows_inside position says ≡ true
    → LeftIn After (behind_inside position says) rest → LeftIn After position (at n says ∷ rest)
inside-step After position n (use_line written used names) rest may left = use-step After position (at n (use_line written used names)) rest may refl left
inside-step After position n implicit_none rest may left = implicit-step After position (at n implicit_none) rest may refl left
inside-step After position n (declare written attributes colons names) rest may left = front-step After position (at n (declare written attributes colons names)) rest may refl left
inside-step After position n (if_then test) rest may left =
    let line = at n (if_then test) in
    executable After position (line ∷ rest) may (branch-left (Behind After (open_in position)) line rest refl left)
inside-step After position n (else_if test) rest may left = else-step After position (at n (else_if test)) rest may refl left
inside-step After position n else_line rest may left = otherwise-step After position (at n else_line) rest may refl left
inside-step After position n end_if rest may left = end_if-step After position (at n end_if) rest may refl left
inside-step After position n (if_action test action) rest may left =
    let line = at n (if_action test action) in
    executable After position (line ∷ rest) may (plain-left (Behind After (open_in position)) line rest refl (open-left After (open_in position) rest left))
inside-step After position n (select_case selector) rest may left =
    let line = at n (select_case selector) in
    executable After position (line ∷ rest) may (select-left (Behind After (open_in position)) line rest refl left)
inside-step After position n (case values) rest may left = case-step After position (at n (case values)) rest may refl left
inside-step After position n case_default rest may left = case-step After position (at n case_default) rest may refl left
inside-step After position n end_select rest may left = end_select-step After position (at n end_select) rest may refl left
inside-step After position n (do_line label counted) rest may left =
    let line = at n (do_line label counted) in
    executable After position (line ∷ rest) may (loop-left (Behind After (open_in position)) line rest refl left)
inside-step After position n (do_while label test) rest may left =
    let line = at n (do_while label test) in
    executable After position (line ∷ rest) may (loop-left (Behind After (open_in position)) line rest refl left)
inside-step After position n (concurrent label written indexes mask locality) rest may left =
    let line = at n (concurrent label written indexes mask locality) in
    executable After position (line ∷ rest) may (loop-left (Behind After (open_in position)) line rest refl left)
inside-step After position n (end_do label) rest may left = end_do-step After position (at n (end_do label)) rest may refl left
inside-step After position n (act action) rest may left =
    let line = at n (act action) in
    executable After position (line ∷ rest) may (plain-left (Behind After (open_in position)) line rest refl (open-left After (open_in position) rest left))
inside-step After position n _ rest may left = absurd (false≢true may)

-- ---- one more statement of a program

-- what ends a body stands where no construct is open
closed-step : (After : List Line → Type 0) (position : Position) (list : List Line) → is_closed position ≡ true → After list → LeftIn After position list
closed-step After (Position.Front front) list may is = record { front = []; behind_it = list; all = All-nil (Is Form.InFront); lines = refl; body = no_body After list is }
closed-step After (Position.Body []) list may is = no_body After list is
closed-step After (Position.Body (construct ∷ around)) list may is = absurd (false≢true may)

contains-outside : (procedure : Option Heading) (n : ℕ) (rest : List Line) → option_map_or (λ (heading : Heading). false) procedure true ≡ true → LeftProcedures rest → Outside procedure (at n contains_line ∷ rest)
contains-outside None n rest may left = record {
  contains = Some n;
  procedures = left.procedures;
  close = left.close;
  contained = left.all;
  closes = left.closes;
  lines = ap (λ lines. at n contains_line ∷ lines) left.lines;
}
contains-outside (Some heading) n rest may left = absurd (false≢true may)

end-outside : (program : Name) (procedure : Option Heading) (line : Line) (rest : List Line) → Is Form.EndsUnit line → LeftAt (behind_end (record { program = program; procedure = procedure })) rest
    → Outside procedure (line ∷ rest)
end-outside program None line rest is left = record {
  contains = None;
  procedures = [];
  close = line;
  contained = refl;
  closes = is;
  lines = ap (λ lines. line ∷ lines) (sym left);
}
end-outside program (Some heading) line rest is left = record { close = line; behind_it = rest; closes = is; lines = refl; procedures = left }

program-ahead : (line : Line) (rest : List Line) → Is Form.BeginsProgram line → LeftFront LeftOuter rest → ProgramAhead (line ∷ rest)
program-ahead line rest is left =
    let body = left.body in
    let outer = body.then_after in
    record {
      source = record { head = line; front = left.front; body = body.body; contains = outer.contains; procedures = outer.procedures; close = outer.close };
      reads = record {
        nested = record { head = is; front = left.all; body = body.nested; procedures = outer.contained; close = outer.closes };
        lines =
            ap (λ lines. line ∷ lines) (ap (λ lines. left.front ++ lines) (ap (λ lines. lines_of body.body ++ lines) outer.lines ∙ body.lines) ∙ left.lines);
      };
    }

procedure-lines : (head close : Line) (front body more rest tail outer last : List Line) → front ++ tail ≡ rest → body ++ outer ≡ tail → close ∷ more ≡ outer → last ≡ more
    → (head ∷ (front ++ (body ++ close ∷ []))) ++ last ≡ head ∷ rest
procedure-lines head close front body more rest tail outer last first second third fourth =
    simp append_assoc
    (ap (λ lines. head ∷ lines)
    (ap (λ lines. front ++ lines) (ap (λ lines. body ++ lines) (ap (λ lines. close ∷ lines) fourth ∙ third) ∙ second) ∙ first))

procedure-ahead : (line : Line) (rest : List Line) → Is Form.BeginsProcedure line → LeftFront LeftInner rest → LeftProcedures (line ∷ rest)
procedure-ahead line rest is left =
    let body = left.body in
    let inner = body.then_after in
    let further = inner.procedures in
    let one : Subprogram = record { head = line; front = left.front; body = body.body; close = inner.close } in
    record {
      procedures = one ∷ further.procedures;
      close = further.close;
      all = All-cons IsNestedSubprogram one further.procedures (record { head = is; front = left.all; body = body.nested; close = inner.closes }) further.all;
      closes = further.closes;
      lines =
          append_assoc (subprogram_lines one) (flat_map subprogram_lines further.procedures) (further.close ∷ [])
          ∙ procedure-lines line inner.close left.front (lines_of body.body) inner.behind_it rest left.behind_it body.after
          (flat_map subprogram_lines further.procedures ++ further.close ∷ []) left.lines body.lines inner.lines further.lines;
    }

end-ahead : (line : Line) (rest : List Line) → Is Form.EndsUnit line → rest ≡ [] → LeftProcedures (line ∷ rest)
end-ahead line rest is empty =
    record { procedures = []; close = line; all = All-nil IsNestedSubprogram; closes = is; lines = ap (λ lines. line ∷ lines) (sym empty) }

step : (place : Place) (n : ℕ) (says : Statement) (rest : List Line) → allows place says ≡ true → LeftAt (behind place says) rest → LeftAt place (at n says ∷ rest)
step Place.Outset n (program_line name) rest may left = program-ahead (at n (program_line name)) rest refl left
step Place.Outset n _ rest may left = absurd (false≢true may)
step (Place.Within scope position) n contains_line rest may left =
    let parts = and_parts (is_program scope) (is_closed position) may in
    closed-step (Outside scope.procedure) position (at n contains_line ∷ rest) parts.1 (contains-outside scope.procedure n rest parts.0 left)
step (Place.Within scope position) n (end_line unit name) rest may left =
    let parts = and_parts (ends unit scope) (is_closed position) may in
    closed-step (Outside scope.procedure) position (at n (end_line unit name) ∷ rest) parts.1 (end-outside scope.program scope.procedure (at n (end_line unit name)) rest refl left)
step (Place.Within scope position) n says rest may left = inside-step (Outside scope.procedure) position n says rest may left
step (Place.Between program) n (procedure_line prefixes function name brackets dummies given) rest may left =
    procedure-ahead (at n (procedure_line prefixes function name brackets dummies given)) rest refl left
step (Place.Between program) n (end_line unit name) rest may left = end-ahead (at n (end_line unit name)) rest refl left
step (Place.Between program) n _ rest may left = absurd (false≢true may)
step Place.Ended n says rest may left = absurd (false≢true may)

whole-left : (place : Place) (list : List Line) → is_whole place list ≡ true → LeftAt place list
whole-left Place.Ended [] whole = refl
whole-left _ [] whole = absurd (false≢true whole)
whole-left place (next ∷ rest) whole =
    let parts = and_parts (allows place next.says) (is_whole (behind place next.says) rest) whole in
    step place next.line next.says rest parts.0 (whole-left (behind place next.says) rest parts.1)

pub program-found : (list : List Line) → is_whole Place.Outset list ≡ true → ProgramAhead list
program-found list whole = whole-left Place.Outset list whole
