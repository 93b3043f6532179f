use Rattle.dc_tree.specs.Blocks.{source_of}
use Rattle.dc_run.proofs.program.run_program.Given as goal

abbrev pub ghost-run_lowered : goal.ghost-run_lowered
ghost-run_lowered a = source_of a.program.now
