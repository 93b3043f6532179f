use Rattle.std.proofs.Common.{[], ◌∷◌, sym, ap, ◌∙◌, rules}
use Rattle.std.specs.Prelude.{ℤ}
use Rattle.std.specs.Int.{w64}
use Rattle.std.proofs.lemmas.Int.{to_z-of_z}
use Rattle.dc_walk.specs.Alone.{Tells, iteration_alone}
use Rattle.dc_walk.specs.Telling.{IsTold}
use Rattle.dc_walk.proofs.Passing.{alone-tells, if-ok}
use Rattle.dc_walk.proofs.iteration.alone.Goals as goal

pub returns : goal.returns
returns c =
    let a = c.args in
    let after = c.perform_loop-ended.new.ledger in
    let ended = c.perform_loop-ended.result in
    let told = to_z-of_z w64 c.only-value.result (search rules) in
    if-ok (IsTold after.entries ended) (Tells (iteration_alone a.program.now a.symbols.now a.construct a.combination.now a.opening.now a.turns)) c.told.result
    (λ out tells.
    alone-tells a.program.now a.symbols.now a.construct a.combination.now a.opening.now a.turns c.in_ok-ledger.ledger after _ ended out c.requires.form c.in_ok-ledger.ensures
    (c.only-value.ensures ∙ ap (λ (z : ℤ). z ∷ []) (sym told)) c.perform_loop-ended.ensures tells)
    c.told.ensures
