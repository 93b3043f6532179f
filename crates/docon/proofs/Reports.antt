-- From the report of a source to the report of a call.
use Rattle.std.proofs.Common.{◌≡◌, ◌≤◌, ℕ, List, length, take, Result, Ok, Err, subst}
use Rattle.std.specs.Prelude.{IfOk, IfSome}
use Rattle.dc_text.specs.declared.memory.NoMemory.{NoMemory}
use Rattle.docon.specs.declared.report.Report.{Report}
use Rattle.docon.specs.declared.request.Request.{Request}
use Rattle.docon.specs.Report.{Reading, IsSourceReport, read_limit, contents, Reported}
use Rattle.docon.specs.Words.{request_of}

-- the report of a file that was read
pub reported : (asked : Reading) (request : Request) (text : List ℕ) (answer : Result Report NoMemory) → request_of asked.words ≡ Ok request → (limit : ℕ) → limit ≡ read_limit → length text ≤ limit
    → IfSome (asked.told request.file) (λ held. text ≡ take limit held) → asked.now ≡ asked.before → IfOk answer (IsSourceReport request.task text) → IfOk answer (Reported asked)
reported asked request text (Ok report) is_asked limit same short held steady sourced =
    let within = subst (λ (most : ℕ). length text ≤ most) same short in
    let first = subst (λ (most : ℕ). IfSome (asked.told request.file) (λ held. text ≡ take most held)) same held in
    record {
      outcome = contents text;
      read = rw is_asked (record { within = within; first = first; steady = steady });
      is_report = rw is_asked sourced;
    }
reported asked request text (Err e) is_asked limit same short held steady sourced = tt
