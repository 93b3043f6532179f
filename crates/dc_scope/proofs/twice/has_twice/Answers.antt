use Rattle.std.proofs.Common.{◌≡◌, ◌+◌, false, List, [], ◌∷◌, ◌++◌, take, drop, map, ◌∙◌, arith}
use Rattle.std.specs.List.{list_any}
use Rattle.std.proofs.lemmas.Grind.{common_steps}
use Rattle.std.proofs.lemmas.List.{drop_more, take_more}
use Rattle.dc_tree.specs.Statements.{Ranging, index_ranging}
use Rattle.dc_scope.specs.Headers.{is_named, has_twice}
use Rattle.dc_scope.proofs.Repeats.{repeats-is_twice, repeats-more, member-more}
use Rattle.dc_scope.proofs.twice.has_twice.Goals as goal

pub loop-index-init : goal.loop-index-init
loop-index-init c = (λ name. grind (arith, c.new-names.ensures.empty), repeats-is_twice (map index_ranging c.args.indexes.now))

pub loop-index-preserved : goal.loop-index-preserved
loop-index-preserved c =
    let i = c.loop-index.index-index in
    let first : Ranging = index_ranging c.index-item.result in
    let held = c.loop-index.invariant in
    let before : List Ranging = map index_ranging (take i c.args.indexes.now) in
    let after : List Ranging = map index_ranging (drop (i + 1) c.args.indexes.now) in
    let more : map index_ranging (take (i + 1) c.args.indexes.now) ≡ before ++ first ∷ [] = grind (arith, common_steps, c.index-item.is, take_more c.args.indexes.now i c.index-item.result c.loop-index-test.true) in
    let rest : map index_ranging (drop i c.args.indexes.now) ≡ first ∷ after = grind (arith, common_steps, c.index-item.is, drop_more c.args.indexes.now i c.index-item.result c.loop-index-test.true) in
    let absent : list_any (is_named first.name) before ≡ false = grind (arith, c.in_ok-is_new.ensures.added, c.if-not-is_new.false, held.0 c.as_bytes.result, c.as_bytes.ensures) in (
      λ other. c.in_ok-is_new.ensures.updates.0 other ∙ member-more other.now c.as_bytes.result.now before _ first _ c.as_bytes.ensures more (held.0 other),
      repeats-more before _ _ after first (has_twice (map index_ranging c.args.indexes.now)) more rest absent held.1,
    )
