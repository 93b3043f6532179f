use Rattle.std.proofs.Common.{ap, sym, subst, ◌∙◌, Option}
use Rattle.dc_walk.specs.declared.judge.Bad.{Bad}
use Rattle.dc_walk.specs.Judging.{IsMarked, runs_of}
use Rattle.dc_plain.specs.MarkViews.{marks_of, FitStore}
use Rattle.dc_plain.specs.Marks.{marked_runs}
use Rattle.dc_plain.proofs.Sizes.{fit-runs}
use Rattle.dc_walk.proofs.Saying.{said-bad}
use Rattle.dc_walk.proofs.plain.told_of_loop.Goals as goal

pub returns-in-Some : goal.returns-in-Some
returns-in-Some g c =
    let store = c.args.ledger.now.store in
    let active = c.args.active.now in
    let before = marks_of c.in_ok-rows.rows.items in
    let after = marks_of c.mark_alone.new.rows.items in
    said-bad g.parts store active before after c.in-Some.bad (subst (λ (b : Option Bad). IsMarked g.parts store active before after b) c.in-Some.is c.in_ok-bad.ensures)

pub told_by_marks-requires : goal.told_by_marks-requires
told_by_marks-requires g c =
    let store = c.args.ledger.now.store in
    let active = c.args.active.now in
    let runs = runs_of g.parts store active in
    let before = marks_of c.in_ok-rows.rows.items in
    let after = marks_of c.mark_alone.new.rows.items in
    let marked = subst (λ (b : Option Bad). IsMarked g.parts store active before after b) c.in-None.is c.in_ok-bad.ensures in
    let fit = subst FitStore (sym c.as_slice.ensures.value) (fit-runs 0 runs c.in_ok-rows.rows.items c.mark_alone.new.rows.items marked.1 c.in_ok-rows.ensures.fit) in
    let marks = ap marks_of c.as_slice.ensures.value ∙ marked.1 ∙ ap (marked_runs 0 runs) c.in_ok-rows.ensures.blank in
    (c.requires.0, (c.requires.1, (fit, (marks, marked.0))))
