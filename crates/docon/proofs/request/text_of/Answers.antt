use Rattle.std.proofs.Common.{sym, subst}
use Rattle.docon.specs.Matches.{IsText}
use Rattle.docon.proofs.Matching.{text-told}
use Rattle.docon.proofs.request.text_of.Goals as goal

pub returns : goal.returns
returns c = subst (IsText c.args.word.now) (sym c.ok.ensures.value) (text-told _ c.from_utf8.result c.args.word.now c.from_utf8.ensures.cases)
