use Rattle.std.proofs.Common.{◌≡◌, List, map, Option, None, Some, Err, sym, ap, ◌∙◌}
use Rattle.std.proofs.lemmas.Result.{err_from_is_err_and}
use Rattle.dc_tree.specs.declared.fail.Fail.{Fail}
use Rattle.dc_tree.specs.declared.fail.Refusal.{Refusal}
use Rattle.dc_tree.specs.declared.program.Lined.{Lined}
use Rattle.dc_tree.specs.Blocks.{line_of}
use Rattle.dc_tree.specs.Findings.{least_of, passed}
use Rattle.dc_nest.specs.Judging.{findings}
use Rattle.dc_nest.specs.Answer.{Answers}
use Rattle.dc_nest.proofs.Judged.{least-first}
use Rattle.dc_nest.proofs.nesting.nest.Goals as goal

refused-so : (list : List Lined) (found : Option Refusal) (fail : Fail) → found ≡ least_of (findings (map line_of list)) → Err fail ≡ passed found → Answers list (Err fail)
refused-so list None fail found_is told = cc
refused-so list (Some least) Fail.NoMemory found_is told = tt
refused-so list (Some least) (Fail.Refused refusal) found_is told =
    let same : refusal ≡ least = cc in
    least-first (map line_of list) refusal (sym found_is ∙ ap Some (sym same))

pub returns-in_err-pass : goal.returns-in_err-pass
returns-in_err-pass c =
    let p = err_from_is_err_and c.from_residual-in_err-pass.result c.from_residual-in_err-pass.ensures.1 in
    let found_is = c.in_ok-judge.ensures ∙ ap (λ (list : List Lined). least_of (findings (map line_of list))) c.as_slice.ensures in
    rw (p.1, p.2) (refused-so c.args.list c.in_ok-judge.field-0 c.in_err-pass.field-0.0 found_is c.in_err-pass.ensures)
