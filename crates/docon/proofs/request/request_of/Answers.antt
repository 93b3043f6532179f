use Rattle.std.proofs.Common.{rules}
use Rattle.docon.specs.Words.{request_of}
use Rattle.docon.proofs.request.request_of.Goals as goal

pub returns-in-Some : goal.returns-in-Some
unfolding request_of
returns-in-Some c = search rules

pub returns-in-None : goal.returns-in-None
unfolding request_of
returns-in-None c = search rules
