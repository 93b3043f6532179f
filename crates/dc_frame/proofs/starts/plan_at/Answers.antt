use Rattle.std.proofs.Common.{◌≡◌, ◌<◌, ◌≤◌, ℕ, false, length, ◌∙◌, subst, IfOk, arith}
use Rattle.std.proofs.lemmas.Bool.Decides.{nat_tests}
use Rattle.std.specs.Prelude.{nat_eq}
use Rattle.dc_code.specs.Codes.{place_among}
use Rattle.dc_frame.proofs.Placed.{plan-procedure, plan-loop}
use Rattle.dc_frame.proofs.starts.plan_at.Goals as goal

pub returns-then-before-entries : goal.returns-then-before-entries
returns-then-before-entries c =
    let code = c.args.code.now in
    let before = c.place_among-before.result in
    let other : nat_eq 0 c.args.place ≡ false = grind (arith, nat_tests) in
    let is : before ≡ place_among code.entries c.args.place = rw c.entries-entries.ensures at c.place_among-before.ensures in
    let within : before < length code.entries = rw c.entries-entries.ensures at c.if-before-entries.true in
    c.in_ok-number.ensures ∙ plan-procedure code c.args.place before other is within

pub returns : goal.returns
returns c =
    let code = c.args.code.now in
    let before = c.place_among-before.result in
    let other : nat_eq 0 c.args.place ≡ false = grind (arith, nat_tests) in
    let is : before ≡ place_among code.entries c.args.place = rw c.entries-entries.ensures at c.place_among-before.ensures in
    let past : length code.entries ≤ before = rw c.entries-entries.ensures at c.if-before-entries.false in
    let found = rw (c.constructs.ensures, c.in_ok-number.ensures) at c.among_loops.ensures in
    subst (λ (n : ℕ). IfOk c.among_loops.result (λ number. number ≡ n)) (plan-loop code c.args.place before other is past) found
