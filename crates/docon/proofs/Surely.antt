-- Over files that never fail, and with room in the sinks.
use Rattle.std.proofs.Common.{◌≡◌, ℕ, List, take, [], Some, Result, Ok, Err, subst, inl, inr, arith}
use Rattle.std.specs.Prelude.{MatchResult, option_map, unwrap_or}
use Rattle.std.specs.Result.{result_ok}
use Rattle.dc_outer.specs.Causes.{Rose}
use Rattle.dc_outer.specs.Memory.{SureSink, held_or_empty}
use Rattle.docon.specs.declared.report.Report.{Report}
use Rattle.docon.specs.declared.request.BadWords.{BadWords}
use Rattle.docon.specs.declared.request.Request.{Request}
use Rattle.docon.specs.Answers.{Answers}
use Rattle.docon.specs.Report.{Reading, reading, Outcome, contents, fault, read_limit, only_log, IsSourceReport, IsReportOf, HasOutcome, Reported}
use Rattle.docon.specs.Sure.{sure_told, no_faults, sure_change, IsSureReport, HasSureRoom, WritesSurely}
use Rattle.docon.specs.Words.{request_of, why_bad}
use Rattle.docon.specs.Writing.{IsWritten, WritesReport}

no-rise : Rose 0 0 → ⊥
no-rise rose = omega (arith, rose)

module _ (words : List (List ℕ)) (files files' : List (List ℕ × List ℕ)) where
  abbrev asked : Reading
  asked = reading words sure_told no_faults files files'

  sure-request : (wanted : Result Request BadWords) (outcome : Outcome) (report : Report)
      → MatchResult wanted (λ request. HasOutcome (Some (held_or_empty files request.file)) 0 0 outcome) (λ bad. asked.now ≡ asked.before)
      → MatchResult wanted (λ request. IsReportOf request.task outcome report) (λ bad. report ≡ only_log (why_bad bad) 5)
      → MatchResult wanted
      (λ request. IsReportOf request.task (contents (take read_limit (held_or_empty files (unwrap_or (option_map (λ (x : Request). x.file) (result_ok wanted)) [])))) report)
      (λ bad. report ≡ only_log (why_bad bad) 5)
  sure-request (Err bad) outcome report read is = is
  sure-request (Ok request) (contents text) report read is = subst (λ (x : List ℕ). IsSourceReport request.task x report) read.first is
  sure-request (Ok request) fault report rose is = absurd (no-rise rose)

  sure-report : (report : Report) → Reported asked report → IsSureReport words files report
  sure-report report reported = sure-request (request_of words) reported.outcome report reported.read reported.is_report

  module _ (out out' log log' : SureSink) (answer : ℕ) where
    pub never-six : Answers asked (sure_change out out') (sure_change log log') answer → ¬ (answer ≡ 6)
    never-six answers = λ six. no-rise (answers.causes.read.only six).1

    pub written-surely : Answers asked (sure_change out out') (sure_change log log') answer → HasSureRoom words files out log → WritesSurely words files (sure_change out out') (sure_change log log') answer
    written-surely answers room = by answers.report
      where
        not_seven : ¬ (answer ≡ 7)
        not_seven = answers.causes.write.never (λ report reported. room report (sure-report report reported))

        by-written : (report : Report) → Reported asked report → IsWritten report (sure_change out out') (sure_change log log') answer → WritesSurely words files (sure_change out out') (sure_change log log') answer
        by-written report reported (inl all) = inr (report, sure-report report reported, all)
        by-written report reported (inr (inl failed)) = absurd (not_seven failed.answer_is)
        by-written report reported (inr (inr failed)) = absurd (not_seven failed.answer_is)

        by : WritesReport asked (sure_change out out') (sure_change log log') answer → WritesSurely words files (sure_change out out') (sure_change log log') answer
        by (inl gave_up) = inl gave_up
        by (inr wrote) = by-written wrote.0 wrote.1 wrote.2
