use Rattle.dc_declare.proofs.Caps.{capped-product, capped-sum}
use Rattle.dc_declare.proofs.totals.sizes_can_be_capped_early.Goals as goal

pub returns-clause-product : goal.returns-clause-product
returns-clause-product c = capped-product

pub returns-clause-sum : goal.returns-clause-sum
returns-clause-sum c = capped-sum
