use Rattle.std.proofs.Common.{map, sym, subst}
use Rattle.dc_tree.specs.Blocks.{line_of, source_of}
use Rattle.dc_nest.specs.Ahead.{ReadsProgram, ProgramAhead}
use Rattle.dc_nest.proofs.Made.{unbroken-ahead, nests}
use Rattle.dc_nest.proofs.nesting.build.Goals as goal

pub program-requires : goal.program-requires
program-requires c = subst (λ list. ProgramAhead (map line_of list)) (sym c.from_list-rest.ensures) (unbroken-ahead (map line_of c.args.list) c.requires)

pub returns : goal.returns
returns c =
    let source = source_of c.in_ok-program.field-0 in
    nests (map line_of c.args.list) source c.requires (subst (λ list. ReadsProgram source (map line_of list)) c.from_list-rest.ensures c.in_ok-program.ensures)
