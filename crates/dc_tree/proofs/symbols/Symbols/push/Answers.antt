use Rattle.std.proofs.Common.{◌∙◌, List, ap}
use Rattle.std.specs.List.{list_all}
use Rattle.dc_tree.specs.Symbols.{is_sound}
use Rattle.dc_tree.specs.declared.symbols.Symbol.{Symbol}
use Rattle.dc_tree.proofs.Places.{grown}
use Rattle.dc_tree.proofs.Results.{results-grown, sound-one_more}
use Rattle.dc_tree.proofs.symbols.Symbols.push.Goals as goal

pub invariant_of-self-2 : goal.invariant_of-self-2
invariant_of-self-2 c =
    let old = c.self.inside.scopes.items in
    let known = c.open.new.scopes.items in
    let named = c.note.new.scopes.items in
    let last = c.note_result.new.scopes.items in
    let symbols = c.self.inside.symbols in
    record {
      index =
          grown old known named last symbols c.args.self.now c.push.new.self c.args.symbol c.into_vec-name.result.items c.len-place.result c.self.invariant.index
          c.in_ok-open.ensures.same c.in_default.ensures.ok (c.into_vec-name.ensures ∙ c.in_ok-copy.ensures) c.len-place.ensures c.self.view_is c.requires.free
          c.in_ok-push.ensures.ok c.note_result.ensures.same;
      results =
          results-grown old known named last symbols c.push.new.self c.args.symbol c.result_of-form.result c.self.invariant.results
          c.in_ok-open.ensures.results c.in_default.ensures.results c.note_result.ensures.results c.result_of-form.ensures c.in_ok-push.ensures.ok;
      sound = ap (λ (xs : List Symbol). list_all is_sound xs) c.in_ok-push.ensures.ok ∙ sound-one_more symbols c.args.symbol c.self.invariant.sound c.requires.sound;
    }
