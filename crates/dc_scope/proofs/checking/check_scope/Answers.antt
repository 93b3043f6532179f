use Rattle.std.proofs.Common.{◌≡◌, Some, None}
use Rattle.dc_tree.specs.Blocks.{source_of}
use Rattle.dc_tree.specs.Findings.{least_of}
use Rattle.dc_tree.proofs.Findings.{none-found, least-is_first}
use Rattle.dc_scope.specs.Answer.{scope_findings}
use Rattle.dc_scope.proofs.checking.check_scope.Goals as goal

pub returns-in-Some : goal.returns-in-Some
returns-in-Some c =
    let least : least_of (scope_findings (source_of c.args.program.now)) ≡ Some c.in-Some.refusal = cc (c.in_ok-symbols.ensures.findings, c.refusal.ensures, c.in-Some.is, c.none-found.ensures) in
    least-is_first (scope_findings (source_of c.args.program.now)) c.in-Some.refusal least

pub returns-in-None : goal.returns-in-None
returns-in-None c =
    let least : least_of (scope_findings (source_of c.args.program.now)) ≡ None = cc (c.in_ok-symbols.ensures.findings, c.refusal.ensures, c.in-None.is, c.none-found.ensures) in
    (none-found (scope_findings (source_of c.args.program.now)) least, c.in_ok-symbols.ensures.symbols)
