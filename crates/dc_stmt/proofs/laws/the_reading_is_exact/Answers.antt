use Rattle.dc_stmt.proofs.Answering.{told-so}
use Rattle.dc_stmt.proofs.laws.the_reading_is_exact.Goals as goal

pub returns : goal.returns
returns c = told-so
