use Rattle.docon.proofs.Surely.{never-six, written-surely}
use Rattle.docon.proofs.sure.run_sure.Goals as goal

pub returns-clause-reads : goal.returns-clause-reads
returns-clause-reads c =
    never-six c.args.words.now c.args.files.now c.docon.new.files c.args.out.now c.docon.new.out c.args.log.now c.docon.new.log c.docon.result c.docon.ensures.answers

pub returns-clause-whole : goal.returns-clause-whole
returns-clause-whole c =
    written-surely c.args.words.now c.args.files.now c.docon.new.files c.args.out.now c.docon.new.out c.args.log.now c.docon.new.log c.docon.result c.docon.ensures.answers
