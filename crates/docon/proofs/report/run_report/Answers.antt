use Rattle.dc_run.specs.Answered.{ending_of}
use Rattle.docon.proofs.report.run_report.Goals as goal

pub returns : goal.returns
returns g c =
    let symbols = c.args.accepted.now.symbols in
    record {
      ending = ending_of symbols c.in_ok-ran.ran.ending;
      ran = c.in_ok-ran.ensures.reports;
      log_is = c.in_ok-log.ensures;
      status_is = c.status_of-status.ensures symbols;
    }
