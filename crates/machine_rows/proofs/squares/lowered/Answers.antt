use Rattle.std.proofs.Common.{◌≡◌, true, List, sym, ap, ◌∙◌, subst}
use Rattle.std.specs.List.{list_all}
use Rattle.dc_tree.specs.declared.program.Program.{Program}
use Rattle.dc_tree.specs.declared.symbols.Symbol.{Symbol}
use Rattle.dc_tree.specs.Blocks.{Source, source_of}
use Rattle.dc_tree.specs.Symbols.{is_sound}
use Rattle.dc_form.specs.BuiltPrograms.{is_built}
use Rattle.dc_front.specs.Form.{IsRunnable}
use Rattle.dc_lower.specs.Lowerable.{IsLowerable}
use Rattle.dc_lower.proofs.Accepting.{program-passes}
use Rattle.machine_rows.proofs.squares.lowered.Goals as goal

-- A program that is run today can be lowered.
lowerable : (symbols : List Symbol) (source : Source) → IsRunnable symbols source → list_all is_sound symbols ≡ true → IsLowerable symbols source
lowerable symbols source runnable sound =
    let same = runnable.symbols_are in
    let built = ap (λ given. is_built given source) (sym same) ∙ runnable.built in
    let all = ap (list_all is_sound) (sym same) ∙ sound in
    subst (λ given. IsLowerable given source) (sym same) (program-passes source runnable.checked.names runnable.checked.types built all)

pub lower-requires : goal.lower-requires
lower-requires c =
    let symbols = c.args.accepted.now.symbols in
    let source = source_of c.args.accepted.now.program in
    let names = c.symbols-symbols.ensures.value in
    let sound = sym (ap (list_all is_sound) names) ∙ c.as_slice-sound.ensures.sound in
    subst (λ (given : List Symbol). IsLowerable given (source_of c.program.result.now)) (sym names)
    (subst (λ (program : Program). IsLowerable symbols (source_of program)) (sym c.program.ensures.value) (lowerable symbols source c.symbols-symbols.ensures.runnable sound))
