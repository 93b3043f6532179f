use Rattle.std.proofs.Common.{rules, ◌≡◌, ◌∙◌, ap, subst, [], to_z, of_z, w64}
use Rattle.std.specs.Prelude.{Err}
use Rattle.dc_walk.specs.Judging.{IsDoneBy, combination}
use Rattle.dc_walk.proofs.Judging.{iterated}
use Rattle.dc_walk.proofs.judge.iterate.Goals as goal

pub returns-in-Ok : goal.returns-in-Ok
returns-in-Ok g c =
    let same : to_z w64 (of_z w64 c.args.value) ≡ c.args.value = search rules in
    subst (IsDoneBy (g.parts.block c.args.ledger.now.store [] (combination c.args.value)) c.perform_iteration.new.ledger) c.in-Ok.is
    (iterated g.parts c.args.task c.requires (to_z w64 (of_z w64 c.args.value)) c.args.value same c.args.ledger.now.store c.forget_accesses.new.self c.perform_iteration.new.ledger
    c.perform_iteration.result c.forget_accesses.ensures c.perform_iteration.ensures)

pub returns-in-Err-Failed : goal.returns-in-Err-Failed
returns-in-Err-Failed g c =
    let same : to_z w64 (of_z w64 c.args.value) ≡ c.args.value = search rules in
    subst (IsDoneBy (g.parts.block c.args.ledger.now.store [] (combination c.args.value)) c.perform_iteration.new.ledger)
    (c.in-Err-Failed.is ∙ ap (λ e. Err e) c.in-Err-Failed.field-0-is)
    (iterated g.parts c.args.task c.requires (to_z w64 (of_z w64 c.args.value)) c.args.value same c.args.ledger.now.store c.forget_accesses.new.self c.perform_iteration.new.ledger
    c.perform_iteration.result c.forget_accesses.ensures c.perform_iteration.ensures)
