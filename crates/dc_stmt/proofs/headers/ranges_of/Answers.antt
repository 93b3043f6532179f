use Rattle.std.proofs.Common.{◌≡◌, ◌∙◌, List, map, option_map, sym, ap, subst}
use Rattle.std.specs.Prelude.{IfOk, Option}
use Rattle.dc_tree.specs.Syntax.{Tree, tree}
use Rattle.dc_tree.specs.Statements.{Ranging, index_ranging}
use Rattle.dc_slices.specs.Finding.{Found}
use Rattle.dc_slices.specs.Judging.{judged, seen}
use Rattle.dc_slices.proofs.Judged.{judged-nothing}
use Rattle.dc_stmt.proofs.Counted.{ranges-none, ranges-split}
use Rattle.dc_stmt.proofs.headers.ranges_of.Goals as goal

pub returns-then-at-eq0 : goal.returns-then-at-eq0
returns-then-at-eq0 c =
    sym (ap judged (ranges-none _ (sym c.count_indexes-at.ensures.same ∙ c.if-at-eq0.true)) ∙ judged-nothing)

pub returns : goal.returns
returns c =
    subst (λ (found : Found (List Ranging × Option Tree)). IfOk c.index_parts.result (λ r. seen (λ found. (map index_ranging found.0, option_map tree found.1)) r ≡ judged found))
    (ranges-split _ c.args.slices.now c.split_at.result.0.now c.split_at.result.1.now c.count_indexes-at.result c.count_indexes-at.ensures.same c.if-at-eq0.false c.split_at.ensures.front c.split_at.ensures.back)
    c.index_parts.ensures
