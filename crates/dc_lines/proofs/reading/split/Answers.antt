use Rattle.dc_lines.proofs.Laws.{read-answers}
use Rattle.dc_lines.proofs.reading.split.Goals as goal

pub returns : goal.returns
returns c = read-answers c.args.text.now c.read.result c.read.ensures
