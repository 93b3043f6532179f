use Rattle.std.proofs.Common.{map, length}
use Rattle.dc_tree.specs.Blocks.{line_of, subprogram_of}
use Rattle.dc_nest.specs.Ahead.{ProceduresAhead}
use Rattle.dc_nest.proofs.Units.{HasProcedures}
use Rattle.dc_nest.proofs.building.procedures.Given as goal

abbrev pub invariant-loop-alloc : goal.invariant-loop-alloc
invariant-loop-alloc l = record { has : HasProcedures (map subprogram_of l.procedures) (map line_of l.fn.rest) (map line_of l.rest); ahead : ProceduresAhead (map line_of l.rest) }

abbrev pub decreases-loop-alloc : goal.decreases-loop-alloc
decreases-loop-alloc l = length l.rest
