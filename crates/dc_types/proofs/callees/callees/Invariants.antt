-- What is gathered so far and what comes of the rest is all together.
use Rattle.std.proofs.Common.{◌≡◌, ◌++◌, drop, map}
use Rattle.dc_tree.specs.Blocks.{subprogram_of}
use Rattle.dc_types.specs.Types.{callees_from}
use Rattle.dc_types.proofs.callees.callees.Given as goal

abbrev pub invariant-loop-procedure : goal.invariant-loop-procedure
invariant-loop-procedure l =
    l.list ++ callees_from l.symbols l.number (map subprogram_of (drop l.procedure-index l.procedures))
    ≡ callees_from l.symbols 1 (map subprogram_of l.procedures)
