use Rattle.dc_meaning.specs.Programs.{program_forms}
use Rattle.dc_run.proofs.program.run_lowered.Given as goal

abbrev pub ghost-run_code : goal.ghost-run_code
ghost-run_code g a = program_forms a.task.symbols.now g.source a.turns
