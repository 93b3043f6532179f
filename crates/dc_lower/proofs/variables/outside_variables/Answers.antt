use Rattle.std.proofs.Common.{◌≡◌, ◌+◌, ◌≤◌, ◌&&◌, true, List, ◌∷◌, [], drop, ap, ap₂, subst, ◌∙◌}
use Rattle.std.specs.List.{list_all}
use Rattle.dc_tree.specs.declared.symbols.Symbol.{Symbol}
use Rattle.dc_form.specs.BuiltPrograms.{is_built_symbol, elements_of_all}
use Rattle.dc_meaning.proofs.Gathering.{next-is}
use Rattle.dc_lower.specs.Lowerable.{are_held_symbols}
use Rattle.dc_lower.specs.Variables.{shapes_of, bounds_of_all}
use Rattle.dc_lower.proofs.Declaring.{shapes-first, bounds-first, built-first, few-behind}
use Rattle.dc_actions.proofs.Making.{grown}
use Rattle.dc_lower.proofs.variables.outside_variables.Goals as goal

pub loop-symbol-preserved : goal.loop-symbol-preserved
loop-symbol-preserved c =
    let symbols = c.as_slice-symbol-items.result.now in
    let at = c.loop-symbol.symbol-index in
    let symbol = c.symbol-item.result in
    let rest = drop (at + 1) symbols in
    let next : drop at symbols ≡ symbol ∷ rest = next-is symbols at symbol c.loop-symbol-test.true c.symbol-item.is in
    let built : list_all is_built_symbol (symbol ∷ rest) ≡ true = subst (λ (of : List Symbol). list_all is_built_symbol of ≡ true) next c.loop-symbol.invariant.built in
    let few : elements_of_all (symbol ∷ rest) ≤ 4194304 = subst (λ (of : List Symbol). elements_of_all of ≤ 4194304) next c.loop-symbol.invariant.few in
    let parts = built-first symbol rest built in
    record {
      built = parts.1;
      few = few-behind symbol rest few;
      shapes =
          grown (c.loop-symbol.made).shapes (shapes_of (symbol ∷ [])) _ (shapes_of (drop at symbols)) (shapes_of rest) _ (ap shapes_of next ∙ shapes-first symbol rest parts.0)
          c.in_ok-symbol.ensures.shapes c.loop-symbol.invariant.shapes;
      bounds =
          grown (c.loop-symbol.made).bounds (bounds_of_all (symbol ∷ [])) _ (bounds_of_all (drop at symbols)) (bounds_of_all rest) _ (ap bounds_of_all next ∙ bounds-first symbol rest parts.0)
          c.in_ok-symbol.ensures.bounds c.loop-symbol.invariant.bounds;
      held = λ later. c.loop-symbol.invariant.held (ap are_held_symbols next ∙ ap₂ (λ a b. a && b) c.in_ok-symbol.ensures.held later);
    }
