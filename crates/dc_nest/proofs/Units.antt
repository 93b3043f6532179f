-- The same of units and programs: what is read is what stands there, and what is left behind it can be read on.
use Rattle.std.proofs.Common.{◌≡◌, ℕ, ◌+◌, ◌<◌, length, arith, add-one, length-append, false, List, [], ◌∷◌, ◌++◌, map, All, Option, None, Some, refl, sym, ap, subst, ◌∙◌, append_assoc}
use Rattle.std.specs.Prelude.{flat_map}
use Rattle.std.proofs.lemmas.List.{append-nil, map-append, length-map}
use Rattle.std.proofs.lemmas.List.Elements.{All-head, All-tail, All-nil, All-push}
use Rattle.dc_tree.specs.declared.program.Lined.{Lined}
use Rattle.dc_tree.specs.declared.program.Procedure.{Procedure}
use Rattle.dc_tree.specs.Statements.{contains_line}
use Rattle.dc_tree.specs.Blocks.{Line, Items, Subprogram, line_of, subprogram_of}
use Rattle.dc_tree.specs.Listing.{lines_of, contains_lines, subprogram_lines}
use Rattle.dc_nest.specs.declared.form.Form.{Form}
use Rattle.dc_nest.specs.Nested.{form_of, Is, AreNested, IsNestedSubprogram, AreContained}
use Rattle.dc_nest.specs.Ahead.{next_form, begins_node, is_node_next, ReadsBlock, ReadsFront, ReadsUnit, ReadsProcedure, ReadsProcedures, ReadsProgram, BlockAhead, UnitAhead, ProcedureAhead, ProceduresAhead, ProgramAhead}
use Rattle.dc_nest.proofs.Unique.{EndsFront, EndsBody, contained_lines, same-first, same-rest, some-form, one-block, one-front, body-ends, one-inside, end-ends, one-procedure, one-procedures, contained-ends, end-procedure}
use Rattle.dc_nest.proofs.Reading.{stops-of, some-ahead}

ends-front : (list : List Line) → (next_form list ≡ Some Form.InFront → ⊥) → EndsFront list
ends-front [] other = tt
ends-front (line ∷ rest) other = λ same. other (ap Some same)

front-other : (list : List Line) → EndsFront list → next_form list ≡ Some Form.InFront → ⊥
front-other [] ends same = let no : ◌≡◌ {A = Option Form} None (Some Form.InFront) = same in cc
front-other (line ∷ rest) ends same = ends (some-form (form_of line.says) Form.InFront same)

-- ---- the front of a unit

-- the statements that were read of a front so far
pub record HasFront (front before now : List Line) : Type 0 where
  pub all : All (Is Form.InFront) front
  pub lines : front ++ now ≡ before

pub no-front : (list : List Line) → HasFront [] list list
no-front list = record { all = All-nil (Is Form.InFront); lines = refl }

pub one-line : (front : List Lined) (lined : Lined) (before now rest : List Line) → HasFront (map line_of front) before now → next_form now ≡ Some Form.InFront → now ≡ line_of lined ∷ rest
    → HasFront (map line_of (front ++ lined ∷ [])) before rest
one-line front lined before now rest has next taken =
    let is : Is Form.InFront (line_of lined) = some-form (form_of (line_of lined).says) Form.InFront (ap next_form (sym taken) ∙ next) in
    subst (λ lines. HasFront lines before rest) (sym (map-append line_of front (lined ∷ []))) (record {
      all = All-push (Is Form.InFront) (map line_of front) (line_of lined) has.all is;
      lines = append_assoc (map line_of front) (line_of lined ∷ []) rest ∙ ap (λ lines. map line_of front ++ lines) (sym taken) ∙ has.lines;
    })

pub front-read : (front before now : List Line) → HasFront front before now → (next_form now ≡ Some Form.InFront → ⊥) → ReadsFront front before now
front-read front before now has other = record { all = has.all; other = other; lines = has.lines }

-- ---- units

pub unit-some : (list : List Line) → UnitAhead list → list ≡ [] → ⊥
unit-some list ahead empty = some-ahead ahead.head (ahead.front ++ (lines_of ahead.body ++ ahead.after)) list (sym ahead.reads.lines) empty

unit-lines : (list rest : List Line) (head : Line) (ahead : UnitAhead list) → list ≡ head ∷ rest → ahead.front ++ (lines_of ahead.body ++ ahead.after) ≡ rest
unit-lines list rest head ahead taken = same-rest ahead.head head (ahead.front ++ (lines_of ahead.body ++ ahead.after)) rest (ahead.reads.lines ∙ taken)

-- Behind the front the body can be read.
pub unit-block : (list rest left front : List Line) (head : Line) → UnitAhead list → list ≡ head ∷ rest → ReadsFront front rest left → BlockAhead left
unit-block list rest left front head ahead taken reads =
    let unit = ahead.reads in
    let same =
    one-front ahead.front front (lines_of ahead.body ++ ahead.after) left unit.all reads.all (body-ends ahead.body ahead.after unit.nested (ends-front ahead.after unit.other)) (ends-front left reads.other)
    (unit-lines list rest head ahead taken ∙ sym reads.lines)
    in
    record { body = ahead.body; after = ahead.after; reads = record { nested = unit.nested; ends = unit.ends; lines = same.1 } }

pub unit-read : (list rest left last front : List Line) (head : Line) (body : Items) → UnitAhead list → list ≡ head ∷ rest → ReadsFront front rest left → ReadsBlock body left last
    → ReadsUnit head front body list last
unfolding unit-block
unit-read list rest left last front head body ahead taken reads inner =
    let block = unit-block list rest left front head ahead taken reads in
    let same =
    one-block block.body body block.after last block.reads.nested inner.nested (stops-of block.after block.reads.ends) (stops-of last inner.ends) (block.reads.lines ∙ sym inner.lines)
    in
    record {
      all = reads.all;
      nested = inner.nested;
      ends = inner.ends;
      other = subst (λ lines. next_form lines ≡ Some Form.InFront → ⊥) same.1 ahead.reads.other;
      lines = ap (λ lines. head ∷ lines) (ap (λ lines. front ++ lines) inner.lines ∙ reads.lines) ∙ sym taken;
    }

ends-body : (list : List Line) → is_node_next list ≡ false → (next_form list ≡ Some Form.InFront → ⊥) → EndsBody list
ends-body list ends other = record { stops = stops-of list ends; front = ends-front list other }

-- What is left behind a unit is one.
one-unit : (head : Line) (front : List Line) (body : Items) (list left after : List Line) (first : Line) (before : List Line) (inside : Items) → ReadsUnit head front body list left
    → All (Is Form.InFront) before → AreNested inside → EndsBody after → first ∷ (before ++ (lines_of inside ++ after)) ≡ list → (inside ≡ body) × (after ≡ left)
one-unit head front body list left after first before inside reads all nested ends lines =
    let inner = before ++ (lines_of inside ++ after) in
    let inner' = front ++ (lines_of body ++ left) in
    let same = one-inside before front inside body after left all reads.all nested reads.nested ends (ends-body left reads.ends reads.other) (same-rest first head inner inner' (lines ∙ sym reads.lines)) in
    (same.1, same.2)

-- ---- procedures

end-body : (close : Line) (after : List Line) → Is Form.EndsUnit close → EndsBody (close ∷ after)
end-body close after closes = end-ends close after closes

form-no-front : (form : Form) (line : Line) (rest : List Line) → (form ≡ Form.InFront → ⊥) → Is form line → next_form (line ∷ rest) ≡ Some Form.InFront → ⊥
form-no-front form line rest apart is same = apart (some-form form Form.InFront (ap Some (sym is) ∙ same))

end-not-front : Form.EndsUnit ≡ Form.InFront → ⊥
end-not-front same = cc

contains-not-front : Form.BeginsProcedures ≡ Form.InFront → ⊥
contains-not-front same = cc

node-end : (line : Line) (rest : List Line) → Is Form.EndsUnit line → is_node_next (line ∷ rest) ≡ false
node-end line rest is = ap begins_node is

procedure-lines : (procedure : Subprogram) (after : List Line)
    → procedure.head ∷ (procedure.front ++ (lines_of procedure.body ++ procedure.close ∷ after)) ≡ subprogram_lines procedure ++ after
procedure-lines procedure after =
    ap (λ lines. procedure.head ∷ lines)
    (ap (λ lines. procedure.front ++ lines) (sym (append_assoc (lines_of procedure.body) (procedure.close ∷ []) after))
    ∙ sym (append_assoc procedure.front (lines_of procedure.body ++ procedure.close ∷ []) after))

pub procedure-unit : (list : List Line) → ProcedureAhead list → UnitAhead list
procedure-unit list ahead =
    let one = ahead.procedure in
    let nested = ahead.reads.nested in
    record {
      head = one.head;
      front = one.front;
      body = one.body;
      after = one.close ∷ ahead.after;
      reads = record {
        all = nested.front;
        nested = nested.body;
        ends = node-end one.close ahead.after nested.close;
        other = form-no-front Form.EndsUnit one.close ahead.after end-not-front nested.close;
        lines = procedure-lines one ahead.after ∙ ahead.reads.lines;
      };
    }

procedure-end : (list left front : List Line) (head : Line) (body : Items) (ahead : ProcedureAhead list) → ReadsUnit head front body list left → ahead.procedure.close ∷ ahead.after ≡ left
procedure-end list left front head body ahead reads =
    let one = ahead.procedure in
    let nested = ahead.reads.nested in
    (one-unit head front body list left (one.close ∷ ahead.after) one.head one.front one.body reads nested.front nested.body (end-body one.close ahead.after nested.close)
    (procedure-lines one ahead.after ∙ ahead.reads.lines)).1

pub procedure-some : (list left front : List Line) (head : Line) (body : Items) → ProcedureAhead list → ReadsUnit head front body list left → left ≡ [] → ⊥
procedure-some list left front head body ahead reads empty =
    some-ahead ahead.procedure.close ahead.after left (sym (procedure-end list left front head body ahead reads)) empty

pub procedure-read : (list left front rest : List Line) (head close : Line) (body : Items) → ProcedureAhead list → ReadsUnit head front body list left → left ≡ close ∷ rest
    → ReadsProcedure (record { head = head; front = front; body = body; close = close }) list rest
procedure-read list left front rest head close body ahead reads taken =
    let one = ahead.procedure in
    let nested = ahead.reads.nested in
    let end = procedure-end list left front head body ahead reads in
    let read : Subprogram = record { head = head; front = front; body = body; close = close } in
    record {
      nested = record {
        head =
            subst (Is Form.BeginsProcedure)
            (same-first one.head head (one.front ++ (lines_of one.body ++ one.close ∷ ahead.after)) (front ++ (lines_of body ++ left)) (procedure-lines one ahead.after ∙ ahead.reads.lines ∙ sym reads.lines))
            nested.head;
        front = reads.all;
        body = reads.nested;
        close = subst (Is Form.EndsUnit) (same-first one.close close ahead.after rest (end ∙ taken)) nested.close;
      };
      lines = sym (procedure-lines read rest) ∙ ap (λ lines. head ∷ (front ++ (lines_of body ++ lines))) (sym taken) ∙ reads.lines;
    }

split-procedure : (procedures : List Subprogram) (after list : List Line) → ReadsProcedures procedures list after → next_form list ≡ Some Form.BeginsProcedure → ProcedureAhead list
split-procedure [] after list reads next =
    absurd (end-procedure (some-form Form.EndsUnit Form.BeginsProcedure (ap Some (sym reads.closes) ∙ ap next_form (sym reads.ends ∙ reads.lines) ∙ next)))
split-procedure (one ∷ more) after list reads next = record {
  procedure = one;
  after = flat_map subprogram_lines more ++ after;
  reads = record {
    nested = All-head IsNestedSubprogram one more reads.all;
    lines = sym (append_assoc (subprogram_lines one) (flat_map subprogram_lines more) after) ∙ reads.lines;
  };
}

pub next-procedure : (list : List Line) → ProceduresAhead list → next_form list ≡ Some Form.BeginsProcedure → ProcedureAhead list
next-procedure list ahead next = split-procedure ahead.procedures ahead.after list ahead.reads next

split-further : (procedures : List Subprogram) (after list left : List Line) (read : Subprogram) → ReadsProcedures procedures list after → next_form list ≡ Some Form.BeginsProcedure → ReadsProcedure read list left → ProceduresAhead left
split-further [] after list left read reads next one =
    absurd (end-procedure (some-form Form.EndsUnit Form.BeginsProcedure (ap Some (sym reads.closes) ∙ ap next_form (sym reads.ends ∙ reads.lines) ∙ next)))
split-further (first ∷ more) after list left read reads next one =
    let lines = sym (append_assoc (subprogram_lines first) (flat_map subprogram_lines more) after) ∙ reads.lines ∙ sym one.lines in
    let same = one-procedure first read (flat_map subprogram_lines more ++ after) left (All-head IsNestedSubprogram first more reads.all) one.nested lines in
    record {
      procedures = more;
      after = after;
      reads = record { all = All-tail IsNestedSubprogram first more reads.all; close = reads.close; closes = reads.closes; ends = reads.ends; lines = same.1 };
    }

pub further-procedures : (list left : List Line) (read : Subprogram) → ProceduresAhead list → next_form list ≡ Some Form.BeginsProcedure → ReadsProcedure read list left → ProceduresAhead left
further-procedures list left read ahead next one = split-further ahead.procedures ahead.after list left read ahead.reads next one

-- A procedure has a statement.
pub procedure-shorter : (procedure : Subprogram) (before after : List Lined) → ReadsProcedure procedure (map line_of before) (map line_of after) → length after < length before
procedure-shorter procedure before after reads =
    let inside = procedure.front ++ (lines_of procedure.body ++ procedure.close ∷ []) in
    let long : length (inside ++ map line_of after) + 1 ≡ length (map line_of before) = add-one (length (inside ++ map line_of after)) ∙ ap length reads.lines in
    omega (arith, long, length-append inside (map line_of after), length-map after line_of, length-map before line_of)

-- the procedures that were read so far
pub record HasProcedures (procedures : List Subprogram) (before now : List Line) : Type 0 where
  pub all : All IsNestedSubprogram procedures
  pub lines : flat_map subprogram_lines procedures ++ now ≡ before

pub no-procedures : (list : List Line) → HasProcedures [] list list
no-procedures list = record { all = All-nil IsNestedSubprogram; lines = refl }

listed-append : (procedures : List Subprogram) (one : Subprogram) (rest : List Line)
    → flat_map subprogram_lines (procedures ++ one ∷ []) ++ rest ≡ flat_map subprogram_lines procedures ++ (subprogram_lines one ++ rest)
listed-append [] one rest = ap (λ lines. lines ++ rest) (append-nil (subprogram_lines one))
listed-append (first ∷ more) one rest =
    append_assoc (subprogram_lines first) (flat_map subprogram_lines (more ++ one ∷ [])) rest
    ∙ ap (λ lines. subprogram_lines first ++ lines) (listed-append more one rest)
    ∙ sym (append_assoc (subprogram_lines first) (flat_map subprogram_lines more) (subprogram_lines one ++ rest))

pub one-more : (procedures : List Procedure) (procedure : Procedure) (before now left : List Line) → HasProcedures (map subprogram_of procedures) before now
    → ReadsProcedure (subprogram_of procedure) now left → HasProcedures (map subprogram_of (procedures ++ procedure ∷ [])) before left
one-more procedures procedure before now left has reads =
    subst (λ all. HasProcedures all before left) (sym (map-append subprogram_of procedures (procedure ∷ []))) (record {
      all = All-push IsNestedSubprogram (map subprogram_of procedures) (subprogram_of procedure) has.all reads.nested;
      lines =
          listed-append (map subprogram_of procedures) (subprogram_of procedure) left
          ∙ ap (λ lines. flat_map subprogram_lines (map subprogram_of procedures) ++ lines) reads.lines
          ∙ has.lines;
    })

last-end : (procedures : List Subprogram) (after list : List Line) → ReadsProcedures procedures list after → (next_form list ≡ Some Form.BeginsProcedure → ⊥) → after ≡ list
last-end [] after list reads other = reads.lines
last-end (one ∷ more) after list reads other =
    absurd (other (ap next_form (sym reads.lines) ∙ ap Some (All-head IsNestedSubprogram one more reads.all).head))

pub procedures-read : (procedures : List Subprogram) (before now : List Line) → HasProcedures procedures before now → ProceduresAhead now → (next_form now ≡ Some Form.BeginsProcedure → ⊥)
    → ReadsProcedures procedures before now
procedures-read procedures before now has ahead other = record {
  all = has.all;
  close = ahead.reads.close;
  closes = ahead.reads.closes;
  ends = sym (last-end ahead.procedures ahead.after now ahead.reads other) ∙ ahead.reads.ends;
  lines = has.lines;
}

-- ---- the program

contained-node : (contains : Option ℕ) (procedures : List Subprogram) (close : Line) → AreContained contains procedures → Is Form.EndsUnit close
    → is_node_next (contained_lines contains procedures close) ≡ false
contained-node None procedures close bare is =
    ap (λ list. is_node_next (flat_map subprogram_lines list ++ close ∷ [])) bare ∙ node-end close [] is
contained-node (Some line) procedures close all is = refl

pub program-unit : (list : List Line) → ProgramAhead list → UnitAhead list
program-unit list ahead =
    let source = ahead.source in
    let nested = ahead.reads.nested in
    let after = contained_lines source.contains source.procedures source.close in
    record {
      head = source.head;
      front = source.front;
      body = source.body;
      after = after;
      reads = record {
        all = nested.front;
        nested = nested.body;
        ends = contained-node source.contains source.procedures source.close nested.procedures nested.close;
        other = front-other after (contained-ends source.contains source.procedures source.close nested.procedures nested.close).front;
        lines = ahead.reads.lines;
      };
    }

program-end : (list left front : List Line) (head : Line) (body : Items) (ahead : ProgramAhead list) → ReadsUnit head front body list left
    → contained_lines ahead.source.contains ahead.source.procedures ahead.source.close ≡ left
program-end list left front head body ahead reads =
    let source = ahead.source in
    let nested = ahead.reads.nested in
    let after = contained_lines source.contains source.procedures source.close in
    (one-unit head front body list left after source.head source.front source.body reads nested.front nested.body
    (contained-ends source.contains source.procedures source.close nested.procedures nested.close) ahead.reads.lines).1

-- CONTAINS was read, if it stood there.
pub record ReadsContains (contains : Option ℕ) (before after : List Line) : Type 0 where
  pub lines : contains_lines contains ++ after ≡ before
  pub absent : contains ≡ None → next_form after ≡ Some Form.BeginsProcedures → ⊥

end-not-contains : Form.EndsUnit ≡ Form.BeginsProcedures → ⊥
end-not-contains same = cc

-- what stands behind CONTAINS, or behind a body without it
record Further (contains : Option ℕ) (left : List Line) : Type 0 where
  ahead : ProceduresAhead left
  contained : (procedures : List Subprogram) (after : List Line) → ReadsProcedures procedures left after → AreContained contains procedures

further : (given contains : Option ℕ) (procedures : List Subprogram) (close : Line) (left last : List Line) → AreContained given procedures → Is Form.EndsUnit close
    → contained_lines given procedures close ≡ left → ReadsContains contains left last → Further contains last
further None None procedures close left last bare is same reads =
    let lines : flat_map subprogram_lines procedures ++ close ∷ [] ≡ last = same ∙ sym reads.lines in
    record {
      ahead = record { procedures = []; after = close ∷ []; reads = record { all = All-nil IsNestedSubprogram; close = close; closes = is; ends = refl; lines = ap (λ list. flat_map subprogram_lines list ++ close ∷ []) (sym bare) ∙ lines } };
      contained = λ read after others.
          (one-procedures read [] others.close close others.all (All-nil IsNestedSubprogram) others.closes is
          (ap (λ after. flat_map subprogram_lines read ++ after) (sym others.ends) ∙ others.lines ∙ sym lines ∙ ap (λ list. flat_map subprogram_lines list ++ close ∷ []) bare)).0;
    }
further None (Some line) procedures close left last bare is same reads =
    let lines : close ∷ [] ≡ record { line = line; says = contains_line } ∷ last = ap (λ list. flat_map subprogram_lines list ++ close ∷ []) (sym bare) ∙ same ∙ sym reads.lines in
    absurd (end-not-contains (some-form Form.EndsUnit Form.BeginsProcedures (ap Some (sym is) ∙ ap next_form lines)))
further (Some line) None procedures close left last all is same reads = absurd (reads.absent refl (ap next_form (reads.lines ∙ sym same)))
further (Some given) (Some line) procedures close left last all is same reads =
    let rest = flat_map subprogram_lines procedures ++ close ∷ [] in
    record {
      ahead = record {
        procedures = procedures;
        after = close ∷ [];
        reads = record {
          all = all;
          close = close;
          closes = is;
          ends = refl;
          lines = same-rest (record { line = given; says = contains_line }) (record { line = line; says = contains_line }) rest last (same ∙ sym reads.lines);
        };
      };
      contained = λ read after others. others.all;
    }

program-further : (list left last front : List Line) (head : Line) (body : Items) (contains : Option ℕ) → ProgramAhead list → ReadsUnit head front body list left → ReadsContains contains left last → Further contains last
program-further list left last front head body contains ahead unit reads =
    let source = ahead.source in
    further source.contains contains source.procedures source.close left last ahead.reads.nested.procedures ahead.reads.nested.close (program-end list left front head body ahead unit) reads

pub program-procedures : (list left last front : List Line) (head : Line) (body : Items) (contains : Option ℕ) → ProgramAhead list → ReadsUnit head front body list left → ReadsContains contains left last
    → ProceduresAhead last
program-procedures list left last front head body contains ahead unit reads = (program-further list left last front head body contains ahead unit reads).ahead

pub procedures-some : (list left : List Line) (procedures : List Subprogram) → ReadsProcedures procedures list left → left ≡ [] → ⊥
procedures-some list left procedures reads empty = some-ahead reads.close [] left reads.ends empty

pub program-read : (list left last end rest front : List Line) (head close : Line) (body : Items) (contains : Option ℕ) (procedures : List Subprogram) → ProgramAhead list → ReadsUnit head front body list left
    → ReadsContains contains left last → ReadsProcedures procedures last end → end ≡ close ∷ rest
    → ReadsProgram (record { head = head; front = front; body = body; contains = contains; procedures = procedures; close = close }) list
program-read list left last end rest front head close body contains procedures ahead unit reads inner taken =
    let source = ahead.source in
    let ended : inner.close ∷ [] ≡ close ∷ rest = sym inner.ends ∙ taken in
    let nothing : [] ≡ rest = same-rest inner.close close [] rest ended in
    let inside = contained_lines source.contains source.procedures source.close in
    record {
      nested = record {
        head =
            subst (Is Form.BeginsProgram)
            (same-first source.head head (source.front ++ (lines_of source.body ++ inside)) (front ++ (lines_of body ++ left)) (ahead.reads.lines ∙ sym unit.lines)) ahead.reads.nested.head;
        front = unit.all;
        body = unit.nested;
        procedures = (program-further list left last front head body contains ahead unit reads).contained procedures end inner;
        close = subst (Is Form.EndsUnit) (same-first inner.close close [] rest ended) inner.closes;
      };
      lines =
          ap (λ lines. head ∷ (front ++ (lines_of body ++ lines)))
          (append_assoc (contains_lines contains) (flat_map subprogram_lines procedures) (close ∷ [])
          ∙ ap (λ lines. contains_lines contains ++ lines) (ap (λ lines. flat_map subprogram_lines procedures ++ lines) (ap (λ rest. close ∷ rest) nothing ∙ sym taken) ∙ inner.lines)
          ∙ reads.lines)
          ∙ unit.lines;
    }
