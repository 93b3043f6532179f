use Rattle.std.proofs.Common.{rules, Option, None, Some, ◌≡◌, [], ◌∷◌, ◌++◌, map, sym, ap, subst, ◌∙◌, arith}
use Rattle.std.specs.Prelude.{IfOk}
use Rattle.std.proofs.lemmas.Bool.{false≢true}
use Rattle.dc_tree.specs.Blocks.{line_of, items, part_items}
use Rattle.dc_nest.specs.declared.form.Form.{Form}
use Rattle.dc_nest.specs.Ahead.{ReadsBlock, ReadsPart, AddsArms}
use Rattle.dc_nest.proofs.Reading.{next-some, part-some, part-block, part-read, block-item, block-rest, HasRead, none-read, one-read, block-read, item-some, loop-part, loop-some, loop-read, part-fields, plain-read, branch-some, branch-read, select-some, select-read, arms-part, arms-rest, HasArms, no-arms, one-arm, arms-read, branch-part, branch-arms, select-arms}
use Rattle.dc_nest.proofs.building.+building.Goals as goal
use Rattle.dc_nest.proofs.building.+building.Goals.{node-in_default-via-in-Some+in_default, node-in_default-via-in_default}

pub block-loop-alloc-init : goal.block-loop-alloc-init
block-loop-alloc-init t c =
    let start = map line_of c.args.rest.now in
    record { read = subst (λ nodes. HasRead nodes start start) (sym c.new-nodes.ensures) (none-read start); ahead = c.requires; within = omega arith }

pub block-node-requires : goal.block-node-requires
block-node-requires t c =
    (search rules, block-item (map line_of c.loop-alloc.rest) c.loop-alloc.invariant.ahead (sym c.is_node_next.ensures ∙ c.loop-alloc-test.true))

pub block-loop-alloc-preserved : goal.block-loop-alloc-preserved
block-loop-alloc-preserved t c =
    let start = map line_of c.args.rest.now in
    let now = map line_of c.loop-alloc.rest in
    let left = map line_of c.node.new.rest in
    let next = sym c.is_node_next.ensures ∙ c.loop-alloc-test.true in
    record {
      read =
          subst (λ nodes. HasRead nodes start left) (sym c.in_ok-push.ensures.ok)
          (one-read c.loop-alloc.nodes c.in_ok-node.field-0 start now left c.loop-alloc.invariant.read c.in_ok-node.ensures.reads);
      ahead = block-rest now left _ c.loop-alloc.invariant.ahead next c.in_ok-node.ensures.reads;
      within = search rules;
    }

pub block-returns-clause-reads : goal.block-returns-clause-reads
block-returns-clause-reads t c =
    block-read c.loop-alloc.nodes (map line_of c.args.rest.now) (map line_of c.loop-alloc.rest) c.loop-alloc.invariant.read (sym c.is_node_next.ensures ∙ c.loop-alloc-test.false)

pub branch-part-requires : goal.branch-part-requires
branch-part-requires t c = (search rules, branch-part (map line_of c.args.rest.now) c.requires.ahead c.requires.begins)

pub branch-with_arms-requires : goal.branch-with_arms-requires
branch-with_arms-requires t c =
    (search rules, branch-arms (map line_of c.args.rest.now) (map line_of c.part.new.rest) _ c.requires.ahead c.requires.begins c.in_ok-part.ensures.reads)

pub looping-part-requires : goal.looping-part-requires
looping-part-requires t c = (search rules, loop-part (map line_of c.args.rest.now) c.requires.ahead c.requires.begins)

pub part-take-head-requires : goal.part-take-head-requires
part-take-head-requires t c = part-some (map line_of c.args.rest.now) c.requires

pub part-block-requires : goal.part-block-requires
part-block-requires t c = (search rules, part-block (map line_of c.args.rest.now) (map line_of c.take-head.new.rest) _ c.requires (ap (map line_of) c.take-head.ensures))

pub part-returns-clause-reads : goal.part-returns-clause-reads
part-returns-clause-reads t c =
    let rest = map line_of c.take-head.new.rest in
    part-read (map line_of c.args.rest.now) rest (map line_of c.block.new.rest) c.in_ok-head.head c.in_ok-head.body
    (ap (map line_of) c.take-head.ensures ∙ ap (λ head. line_of head ∷ rest) (sym c.in_ok-head.ensures.0))
    (subst (λ made. IfOk made (λ body. ReadsBlock (items body) rest (map line_of c.block.new.rest))) c.in_ok-head.ensures.1 c.block.ensures.reads)

pub branch-take-close-requires : goal.branch-take-close-requires
branch-take-close-requires t c =
    branch-some (map line_of c.args.rest.now) (map line_of c.part.new.rest) (map line_of c.with_arms.new.rest) _ _ _ c.requires.ahead c.requires.begins c.in_ok-part.ensures.reads c.in_ok-arms.ensures.reads

pub branch-returns-clause-reads : goal.branch-returns-clause-reads
branch-returns-clause-reads t c =
    let left = map line_of c.part.new.rest in
    let last = map line_of c.with_arms.new.rest in
    let pushed : c.push.new.self ≡ c.in_ok-part.field-0 ∷ [] = c.in_ok-push.ensures.ok ∙ ap (λ arms. arms ++ c.in_ok-part.field-0 ∷ []) c.new-arms.ensures in
    branch-read (map line_of c.args.rest.now) left last (map line_of c.take-close.new.rest) (part_items c.in_ok-part.field-0) c.in_ok-arms.arms c.take-close.result c.requires.ahead c.requires.begins
    c.in_ok-part.ensures.reads (subst (λ arms. AddsArms Form.BeginsElse (map part_items arms) (map part_items c.in_ok-arms.arms) left last) pushed c.in_ok-arms.ensures.reads) (ap (map line_of) c.take-close.ensures)

pub looping-take-close-requires : goal.looping-take-close-requires
looping-take-close-requires t c =
    loop-some (map line_of c.args.rest.now) (map line_of c.part.new.rest) _ c.requires.ahead c.requires.begins c.in_ok-head.ensures.reads

pub node-take-requires : goal.node-take-requires
node-take-requires t c = item-some (map line_of c.args.rest.now) c.requires

pub selection-take-head-requires : goal.selection-take-head-requires
selection-take-head-requires t c = next-some (map line_of c.args.rest.now) Form.BeginsSelect c.requires.begins

pub selection-with_arms-requires : goal.selection-with_arms-requires
selection-with_arms-requires t c =
    (search rules, select-arms (map line_of c.args.rest.now) (map line_of c.take-head.new.rest) _ c.requires.ahead c.requires.begins (ap (map line_of) c.take-head.ensures))

pub with_arms-loop-alloc-init : goal.with_arms-loop-alloc-init
with_arms-loop-alloc-init t c =
    record { has = no-arms c.args.wanted (map part_items c.args.arms) (map line_of c.args.rest.now); ahead = c.requires; within = omega arith }

pub with_arms-part-requires : goal.with_arms-part-requires
with_arms-part-requires t c =
    (search rules, arms-part c.args.wanted (map line_of c.loop-alloc.rest) c.loop-alloc.invariant.ahead (c.is_next.ensures.0 c.loop-alloc-test.true))

pub with_arms-loop-alloc-preserved : goal.with_arms-loop-alloc-preserved
with_arms-loop-alloc-preserved t c =
    let start = map line_of c.args.rest.now in
    let now = map line_of c.loop-alloc.rest in
    let left = map line_of c.part.new.rest in
    let next = c.is_next.ensures.0 c.loop-alloc-test.true in
    record {
      has =
          subst (λ made. HasArms c.args.wanted (map part_items c.args.arms) (map part_items made) start left) (sym c.in_ok-push.ensures.ok)
          (one-arm c.args.wanted (map part_items c.args.arms) c.loop-alloc.arms c.in_ok-part.field-0 start now left c.loop-alloc.invariant.has next c.in_ok-part.ensures.reads);
      ahead = arms-rest c.args.wanted _ now left c.loop-alloc.invariant.ahead next c.in_ok-part.ensures.reads;
      within = search rules;
    }

pub with_arms-returns-clause-reads : goal.with_arms-returns-clause-reads
with_arms-returns-clause-reads t c =
    arms-read c.args.wanted (map part_items c.args.arms) (map part_items c.loop-alloc.arms) (map line_of c.args.rest.now) (map line_of c.loop-alloc.rest) c.loop-alloc.invariant.has c.loop-alloc.invariant.ahead
    (λ same. false≢true (sym c.loop-alloc-test.false ∙ c.is_next.ensures.1 same))

pub looping-returns-clause-reads : goal.looping-returns-clause-reads
looping-returns-clause-reads t c =
    let start = map line_of c.args.rest.now in
    let left = map line_of c.part.new.rest in
    let one = c.in_ok-head.field-0 in
    loop-read start left (map line_of c.take-close.new.rest) one.head one.body c.take-close.result c.requires.ahead c.requires.begins
    (subst (λ part. ReadsPart part start left) (part-fields one) c.in_ok-head.ensures.reads) (ap (map line_of) c.take-close.ensures)

pub selection-take-close-requires : goal.selection-take-close-requires
selection-take-close-requires t c =
    let rest = map line_of c.take-head.new.rest in
    let last = map line_of c.with_arms.new.rest in
    select-some (map line_of c.args.rest.now) rest last _ [] (map part_items c.in_ok-head.arms) c.requires.ahead c.requires.begins (ap (map line_of) c.take-head.ensures)
    (subst (λ arms. AddsArms Form.BeginsCase (map part_items arms) (map part_items c.in_ok-head.arms) rest last) c.new.ensures
    (subst (λ made. IfOk made (λ made. AddsArms Form.BeginsCase (map part_items c.new.result) (map part_items made) rest last)) c.in_ok-head.ensures.1 c.with_arms.ensures.reads))

pub selection-returns-clause-reads : goal.selection-returns-clause-reads
selection-returns-clause-reads t c =
    let rest = map line_of c.take-head.new.rest in
    let last = map line_of c.with_arms.new.rest in
    select-read (map line_of c.args.rest.now) rest last (map line_of c.take-close.new.rest) c.in_ok-head.head c.in_ok-head.arms c.take-close.result c.requires.ahead c.requires.begins
    (ap (map line_of) c.take-head.ensures ∙ ap (λ head. line_of head ∷ rest) (sym c.in_ok-head.ensures.0))
    (subst (λ arms. AddsArms Form.BeginsCase (map part_items arms) (map part_items c.in_ok-head.arms) rest last) c.new.ensures
    (subst (λ made. IfOk made (λ made. AddsArms Form.BeginsCase (map part_items c.new.result) (map part_items made) rest last)) c.in_ok-head.ensures.1 c.with_arms.ensures.reads))
    (ap (map line_of) c.take-close.ensures)

pub node-returns-in_default-clause-reads : goal.node-returns-in_default-clause-reads
node-returns-in_default-clause-reads t c =
    let start = map line_of c.args.rest.now in
    let is = sym c.next_form.ensures in
    plain-read start c.take.result (map line_of c.take.new.rest) c.requires
    (λ next. elim c.in_default.branch [ node-in_default-via-in-Some+in_default w ↦ search rules | node-in_default-via-in_default w ↦ (let no : ◌≡◌ {A = Option Form} None (Some Form.BeginsIf) = sym w.in_default.is ∙ c.next_form.ensures ∙ next in cc) ])
    (λ next. elim c.in_default.branch [ node-in_default-via-in-Some+in_default w ↦ search rules | node-in_default-via-in_default w ↦ (let no : ◌≡◌ {A = Option Form} None (Some Form.BeginsSelect) = sym w.in_default.is ∙ c.next_form.ensures ∙ next in cc) ])
    (λ next. elim c.in_default.branch [ node-in_default-via-in-Some+in_default w ↦ search rules | node-in_default-via-in_default w ↦ (let no : ◌≡◌ {A = Option Form} None (Some Form.BeginsLoop) = sym w.in_default.is ∙ c.next_form.ensures ∙ next in cc) ])
    (ap (map line_of) c.take.ensures)
