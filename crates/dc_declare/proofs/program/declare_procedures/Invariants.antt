use Rattle.std.proofs.Common.{◌≡◌, ◌<◌, drop, map}
use Rattle.dc_tree.specs.Blocks.{subprogram_of}
use Rattle.dc_tree.specs.Findings.{least_with_all}
use Rattle.dc_declare.specs.Declarations.{after_procedures, procedures_findings}
use Rattle.dc_declare.proofs.program.declare_procedures.Given as goal

abbrev pub invariant-loop-procedure : goal.invariant-loop-procedure
invariant-loop-procedure l =
    (after_procedures l.number l.symbols (map subprogram_of (drop l.procedure-index l.procedures)) ≡ after_procedures 1 l.fn.symbols (map subprogram_of l.procedures))
    × (least_with_all l.found (procedures_findings l.number l.symbols (map subprogram_of (drop l.procedure-index l.procedures)))
    ≡ least_with_all l.fn.found (procedures_findings 1 l.fn.symbols (map subprogram_of l.procedures)))
    × (0 < l.number)
