use Rattle.dc_tree.specs.Blocks.{source_of}
use Rattle.dc_walk.specs.Visiting.{loop_parts}
use Rattle.dc_walk.proofs.plain.plain_verdict.Given as goal

abbrev pub ghost-told_of_loop : goal.ghost-told_of_loop
ghost-told_of_loop a = loop_parts a.task.standing.symbols.now (source_of a._asked.program.now) a._asked.turns a._asked.construct
