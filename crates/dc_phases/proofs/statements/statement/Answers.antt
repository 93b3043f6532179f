use Rattle.std.proofs.Common.{refl, subst}
use Rattle.dc_tree.specs.Statements as plain
use Rattle.dc_stmt.specs.Answers as stating
use Rattle.dc_phases.proofs.Items.{statement-kept}
use Rattle.dc_phases.proofs.statements.statement.Goals as goal

pub returns : goal.returns
returns c =
    let shallow : stating.IsShallow c.args.from.now.tokens (plain.statement c.in_ok-stmt.stmt) =
    subst (λ read. stating.IsShallow read (plain.statement c.in_ok-stmt.stmt)) c.as_slice.ensures (c.in_ok-stmt.ensures) in
    ((refl, shallow), statement-kept c.args.from.now (plain.statement c.in_ok-stmt.stmt) shallow)
