use Rattle.std.proofs.Common.{◌≡◌, map, sym, ap, subst, ◌∙◌}
use Rattle.std.specs.Prelude.{IfOk}
use Rattle.dc_tree.specs.Blocks.{line_of, items}
use Rattle.dc_nest.specs.Ahead.{ReadsFront, ReadsBlock, ReadsUnit}
use Rattle.dc_nest.proofs.Units.{unit-some, unit-block, unit-read}
use Rattle.dc_nest.proofs.building.unit.Goals as goal

pub take-head-requires : goal.take-head-requires
take-head-requires c = unit-some (map line_of c.args.rest.now) c.requires

pub block-requires : goal.block-requires
block-requires c =
    let rest = map line_of c.take-head.new.rest in
    let left = map line_of c.front.new.rest in
    unit-block (map line_of c.args.rest.now) rest left (map line_of c.in_ok-head.front) (line_of c.take-head.result) c.requires (ap (map line_of) c.take-head.ensures)
    (subst (λ made. IfOk made (λ front. ReadsFront (map line_of front) rest left)) c.in_ok-head.ensures.1 c.front.ensures)

pub returns : goal.returns
returns c =
    let list = map line_of c.args.rest.now in
    let rest = map line_of c.take-head.new.rest in
    let left = map line_of c.front.new.rest in
    let last = map line_of c.block.new.rest in
    let front = map line_of c.in_ok-head.front in
    let same : (c.in_ok-head-2.head, c.in_ok-head-2.front) ≡ (c.take-head.result, c.in_ok-head.front) =
    c.in_ok-head-2.ensures.0 ∙ ap (λ head. (head, c.in_ok-head.front)) c.in_ok-head.ensures.0 in
    subst (λ pair. ReadsUnit (line_of pair.0) (map line_of pair.1) (items c.in_ok-head-2.body) list last) (sym same)
    (unit-read list rest left last front (line_of c.take-head.result) (items c.in_ok-head-2.body) c.requires (ap (map line_of) c.take-head.ensures)
    (subst (λ made. IfOk made (λ front. ReadsFront (map line_of front) rest left)) c.in_ok-head.ensures.1 c.front.ensures)
    (subst (λ made. IfOk made (λ body. ReadsBlock (items body) left last)) c.in_ok-head-2.ensures.1 c.block.ensures.reads))
