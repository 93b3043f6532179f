use Rattle.std.proofs.Common.{◌≡◌, ◌++◌, map, sym, ap, ◌∙◌, append-nil}
use Rattle.std.proofs.Math.ListN.{drop_of_length-le}
use Rattle.dc_plain.specs.Marks.{blank_marks}
use Rattle.dc_plain.specs.MarkViews.{marks_of}
use Rattle.dc_plain.specs.Views.{variable_of}
use Rattle.dc_plain.proofs.Sizes.{fit-blank}
use Rattle.dc_plain.proofs.marks.blank_marks.Goals as goal

pub returns-clause-fit : goal.returns-clause-fit
returns-clause-fit c =
    let variables = c.args.variables.now in
    let rows = c.loop-variable.rows.items in
    let none = drop_of_length-le variables c.loop-variable-test.false in
    let blank : marks_of rows ≡ blank_marks (map variable_of variables) =
    sym (append-nil (marks_of rows)) ∙ sym (ap (λ vs. marks_of rows ++ blank_marks (map variable_of vs)) none) ∙ c.loop-variable.invariant in
    fit-blank rows (map variable_of variables) blank c.requires
