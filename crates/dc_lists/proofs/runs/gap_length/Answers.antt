use Rattle.std.proofs.Common.{rules, tests}
use Rattle.std.proofs.lemmas.Iterator.{YieldsList-from_slice}
use Rattle.std.proofs.lemmas.Iterator.Consumers.{count_from_yields_List}
use Rattle.std.proofs.lemmas.Iterator.Search.{YieldsList-from_take_while}
use Rattle.dc_lists.specs.Input.{is_gap}
use Rattle.dc_lists.proofs.Prefixes.{drop-count}
use Rattle.dc_lists.proofs.runs.gap_length.Goals as goal

pub returns-clause-left : goal.returns-clause-left
returns-clause-left c =
    drop-count is_gap c.args.bytes.now c.count.result
    (count_from_yields_List c.take_while.result _ c.count.ensures.ran
    (YieldsList-from_take_while _ is_gap (YieldsList-from_slice c.args.bytes.now cc) c.take_while.ensures.closure c.take_while.ensures.done (λ x b q k. search (rules, tests))))
