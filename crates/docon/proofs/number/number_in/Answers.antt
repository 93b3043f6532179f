use Rattle.std.proofs.Common.{rules}
use Rattle.docon.proofs.Numbers.{parsed}
use Rattle.docon.proofs.number.number_in.Goals as goal

pub returns-then-is_number : goal.returns-then-is_number
returns-then-is_number c = search (rules, parsed c.args.word.now c.parse.result c.parse.ensures.value.0)
