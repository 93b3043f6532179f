-- The lists that are made are those of a code that is well formed, and of a code of the program.
use Rattle.std.proofs.Common.{sym, subst, ◌∙◌}
use Rattle.dc_code.specs.WellFormed.{IsWellFormed}
use Rattle.dc_tree.specs.Blocks.{source_of}
use Rattle.dc_lower.specs.CodeOf.{IsCodeOf}
use Rattle.dc_lower.proofs.CodesOf.{is-code-of}
use Rattle.dc_lower.proofs.WellFormedCodes.{code-is-well-formed}
use Rattle.dc_lower.proofs.lowering.lower.Goals as goal

pub new-requires : goal.new-requires
new-requires c =
    let made = c.in_ok-instructions.ensures in
    subst IsWellFormed (sym made.lists) (code-is-well-formed c.args.symbols.now (source_of c.args.program.now) c.requires made.held)

pub returns-clause-means : goal.returns-clause-means
returns-clause-means c =
    let symbols = c.args.symbols.now in
    let source = source_of c.args.program.now in
    let made = c.in_ok-instructions.ensures in
    subst (IsCodeOf symbols source) (sym (c.new.ensures ∙ made.lists)) (is-code-of symbols source c.requires made.held)
