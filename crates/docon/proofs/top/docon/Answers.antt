use Rattle.std.proofs.Common.{ap, inl, inr, refl, arith}
use Rattle.docon.specs.Report.{Reading, reading}
use Rattle.docon.specs.Writing.{change}
use Rattle.docon.proofs.Causes.{answers, no_write_fails}
use Rattle.docon.proofs.top.docon.Goals as goal

pub returns-in-Ok-clause-answers : goal.returns-in-Ok-clause-answers
returns-in-Ok-clause-answers g c =
    let asked : Reading = reading c.args.words.now g.F.Files.told g.F.Files.faults c.args.files.now c.report.new.files in
    let out = change g.W.Sink.taken g.W.Sink.room g.W.Sink.faults c.args.out.now c.write_report.new.out in
    let log = change g.L.Sink.taken g.L.Sink.room g.L.Sink.faults c.args.log.now c.write_report.new.log in
    let answer = c.write_report.result in
    answers asked out log answer (inr (c.in-Ok.report, c.in-Ok.ensures.report, c.write_report.ensures.written)) (λ nameless. ap g.F.Files.faults (c.report.ensures.files_kept.unread nameless))
    (no_write_fails asked out log answer c.in-Ok.report c.in-Ok.ensures.report c.write_report.ensures.room)

pub returns-in-Err-clause-answers : goal.returns-in-Err-clause-answers
returns-in-Err-clause-answers g c =
    let asked : Reading = reading c.args.words.now g.F.Files.told g.F.Files.faults c.args.files.now c.report.new.files in
    let out = change g.W.Sink.taken g.W.Sink.room g.W.Sink.faults c.args.out.now c.args.out.now in
    let log = change g.L.Sink.taken g.L.Sink.room g.L.Sink.faults c.args.log.now c.args.log.now in
    answers asked out log 8 (inl (record { out_none = refl; log_none = refl; answer_is = refl })) (λ nameless. ap g.F.Files.faults (c.report.ensures.files_kept.unread nameless))
    (λ room seven. omega (arith, seven))
