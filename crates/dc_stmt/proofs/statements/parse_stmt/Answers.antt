use Rattle.std.proofs.Common.{sym, ap, ◌∙◌}
use Rattle.dc_tree.specs.Statements.{statement}
use Rattle.dc_slices.specs.Judging.{seen}
use Rattle.dc_stmt.proofs.Answering.{whole-answers}
use Rattle.dc_stmt.proofs.statements.parse_stmt.Goals as goal

pub returns-in-Whole : goal.returns-in-Whole
returns-in-Whole c = whole-answers c.args.line c.args.tokens.now c.in-Whole.stmt (ap (seen statement) (sym c.in-Whole.is) ∙ c.in_ok-reading.ensures)
