use Rattle.std.proofs.Common.{◌≡◌, drop, map}
use Rattle.dc_tree.specs.Blocks.{subprogram_of}
use Rattle.dc_tree.specs.Findings.{least_with_all}
use Rattle.dc_scope.specs.Scope.{procedures_findings}
use Rattle.dc_scope.proofs.program.note_procedures.Given as goal

abbrev pub invariant-loop-procedure : goal.invariant-loop-procedure
invariant-loop-procedure l =
    least_with_all l.found (procedures_findings l.symbols l.unit (map subprogram_of (drop l.procedure-index l.procedures)))
    ≡ least_with_all l.fn.found (procedures_findings l.symbols 1 (map subprogram_of l.procedures))
