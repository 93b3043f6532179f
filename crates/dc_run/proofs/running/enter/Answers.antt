use Rattle.std.proofs.Common.{sym, ap, ◌∙◌, map}
use Rattle.std.specs.Prelude.{Some}
use Rattle.dc_code.specs.declared.instr.What.{What}
use Rattle.dc_tree.specs.Blocks.{item, items, items_from, line_of}
use Rattle.dc_meaning.specs.Looping.{nth_loop}
use Rattle.dc_run.specs.Running.{step_behind}
use Rattle.dc_run.proofs.Left.{attended-behind, usual-behind}
use Rattle.dc_run.proofs.running.enter.Goals as goal

pub judge_loop-requires : goal.judge_loop-requires
judge_loop-requires g c =
    let found = c.find_loop-found.result in
    let all = items_from (map item c.args.task.nodes.now) in
    let reachable = c.requires.0.reachable.each found.number (line_of found.head.now) (items found.body.now) (ap (λ n. nth_loop n all) c.find_loop-found.ensures.number ∙ c.find_loop-found.ensures.found) in
    (c.requires.0.numbers, (reachable, (c.requires.0.few, c.requires.1.1.1.ready)))

pub returns-clause-attends : goal.returns-clause-attends
returns-clause-attends g c = λ line there.
    let found = c.find_loop-found.result in
    let all = items_from (map item c.args.task.nodes.now) in
    let reachable = c.requires.0.reachable.each found.number (line_of found.head.now) (items found.body.now) (ap (λ n. nth_loop n all) c.find_loop-found.ensures.number ∙ c.find_loop-found.ensures.found) in
    let judged = c.in_ok-judged.judged in
    attended-behind g.forms c.args.task.symbols.now c.args.task.code.now found.number (line_of found.head.now) (items found.body.now) c.args.task.turns c.args.at c.args.turns judged.turns line c.args.standing.now c.judge_loop.new.variables judged.said c.step_behind.result
    reachable c.requires.1.1.1 c.in_ok-judged.ensures.said (c.step_behind.ensures ∙ (λ i. step_behind c.args.at (c.min.ensures i) (c.stopped.ensures i)))
    (there ∙ ap (λ n. Some (record { line = line; what = What.Enter n })) (sym c.find_loop-found.ensures.number))

pub returns-clause-usual : goal.returns-clause-usual
returns-clause-usual g c =
    let found = c.find_loop-found.result in
    let all = items_from (map item c.args.task.nodes.now) in
    let reachable = c.requires.0.reachable.each found.number (line_of found.head.now) (items found.body.now) (ap (λ n. nth_loop n all) c.find_loop-found.ensures.number ∙ c.find_loop-found.ensures.found) in
    let judged = c.in_ok-judged.judged in
    usual-behind c.args.task.symbols.now c.args.task.code.now _ found.number (line_of found.head.now) (items found.body.now) c.args.task.turns c.args.turns judged.turns c.args.standing.now c.judge_loop.new.variables judged.said reachable
    c.in_ok-judged.ensures.shapes c.in_ok-judged.ensures.said c.requires.1.1.1
