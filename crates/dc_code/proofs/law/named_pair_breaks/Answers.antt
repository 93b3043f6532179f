use Rattle.dc_code.proofs.Pairs.{pair-breaks}
use Rattle.dc_code.proofs.law.named_pair_breaks.Goals as goal

pub returns : goal.returns
returns c = λ locality x runs clash. pair-breaks locality x runs clash
