use Rattle.std.proofs.Common.{◌≤◌, ◌+◌, ℕ, List, length, refl, subst, arith}
use Rattle.std.specs.Prelude.{IfOk}
use Rattle.docon.specs.declared.top.TheConstants.{MOST_SOURCE}
use Rattle.docon.specs.Report.{reading, IsSourceReport, read_limit}
use Rattle.docon.proofs.Reports.{reported}
use Rattle.docon.proofs.top.report.Goals as goal

pub returns-in-Ok-read-clause-report : goal.returns-in-Ok-read-clause-report
unfolding read_limit
returns-in-Ok-read-clause-report g c =
    let request = c.in-Ok.request in
    let sourced = subst (λ (x : List ℕ). IfOk c.source_report.result (IsSourceReport request.task x)) c.as_slice.ensures.value c.source_report.ensures in
    let size = c.in-Ok-read.text.ok.0 in
    let within = c.in-Ok-read.ensures.within in
    let short : length c.in-Ok-read.text.items ≤ MOST_SOURCE + 1 = omega (arith, size, within) in
    reported (reading c.args.words.now g.F.Files.told g.F.Files.faults c.args.files.now c.read.new.self) request c.in-Ok-read.text.items c.source_report.result c.in-Ok.ensures.asked (MOST_SOURCE + 1) refl
    short c.in-Ok-read.ensures.held c.in-Ok-read.ensures.count.ok sourced
