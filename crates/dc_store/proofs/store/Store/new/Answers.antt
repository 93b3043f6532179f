use Rattle.dc_store.proofs.Undefined.{fitting-undefined}
use Rattle.dc_store.proofs.store.Store.new.Goals as goal

pub invariant_of-result : goal.invariant_of-result
invariant_of-result c = rw (c.in_ok-rows.ensures, c.in_ok-shapes.ensures.items) (fitting-undefined c.args.shapes.now c.requires)

pub returns-clause-fitting : goal.returns-clause-fitting
returns-clause-fitting c = invariant_of-result c
