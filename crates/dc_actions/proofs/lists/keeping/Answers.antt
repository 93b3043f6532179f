use Rattle.std.proofs.Common.{◌≡◌, ◌+◌, ◌<◌, List, ◌∷◌, ◌++◌, length, map, drop, ap, sym, ◌∙◌, arith}
use Rattle.dc_int.specs.Sorts.{Sort}
use Rattle.dc_tree.specs.Syntax.{Tree, tree}
use Rattle.dc_sorts.specs.Forms.{sort_of_form}
use Rattle.dc_meaning.proofs.Cycling.{exprs-held}
use Rattle.dc_meaning.proofs.Gathering.{next-is}
use Rattle.dc_meaning.proofs.Inquiring.{known-sort}
use Rattle.dc_actions.specs.Assigning.{conversion_code, keeping_code}
use Rattle.dc_actions.specs.Naming.{scope_of}
use Rattle.dc_actions.proofs.Listing.{keeping-next}
use Rattle.dc_actions.proofs.lists.keeping.Goals as goal

pub loop-before-preserved : goal.loop-before-preserved
loop-before-preserved c =
    let scope = scope_of c.args.names.now in
    let sort = sort_of_form c.args.form in
    let items = c.args.items.now in
    let at = c.loop-before.before in
    let item = c.index-items-before.result in
    let rest = map tree (drop (at + 1) items) in
    let below : at < length items = omega (arith, c.loop-before-test.true) in
    let next : map tree (drop at items) ≡ tree item ∷ rest = ap (map tree) (next-is items at item below c.index-items-before.is) in
    let given = known-sort scope (tree item) c.in_ok-given.given c.in_ok-given.ensures.known in
    record {
      held = exprs-held items at item below c.index-items-before.is c.loop-before.invariant.held;
      code =
          keeping-next scope sort c.args.group at (tree item) rest c.loop-before.whats _ _ _ _ _ c.in_ok-given.ensures.code
          (c.in_ok-conversion.ensures ∙ ap (λ (s : Sort). c.value.new.whats ++ conversion_code s sort) given) c.in_ok-slot.ensures c.in_ok-push.ensures.ok
          (ap (λ (trees : List Tree). c.loop-before.whats ++ keeping_code scope sort c.args.group at trees) (sym next) ∙ c.loop-before.invariant.code);
    }
