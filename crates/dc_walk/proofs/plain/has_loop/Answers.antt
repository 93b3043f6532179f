use Rattle.std.proofs.Common.{◌≡◌, Option, Some, None, refl, sym, ap, ◌∙◌}
use Rattle.std.specs.Prelude.{option_map, is_some}
use Rattle.dc_tree.specs.Blocks.{source_of}
use Rattle.dc_walk.specs.declared.looped.Looped.{Looped}
use Rattle.dc_meaning.specs.Looping.{nth_loop}
use Rattle.dc_walk.specs.Looped.{looped_of}
use Rattle.dc_meaning.proofs.Looping.{block-items}
use Rattle.dc_meaning.proofs.ProgramLoops.{some-loop}
use Rattle.dc_walk.proofs.plain.has_loop.Goals as goal

some-kept : (found : Option Looped) → is_some found ≡ is_some (option_map looped_of found)
some-kept None = refl
some-kept (Some found) = refl

pub returns : goal.returns
returns c = λ symbols turns small.
    let body = sym (block-items c.args.program.now.body c.as_slice.result.now c.as_slice.ensures) in
    c.is_some.ensures ∙ some-kept c.nth_loop.result ∙ ap is_some (c.nth_loop.ensures ∙ ap (nth_loop c.args.construct) body)
    ∙ some-loop symbols (source_of c.args.program.now) small c.args.construct turns
