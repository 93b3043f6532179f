-- A program that can be run can be lowered.
use Rattle.std.proofs.Common.{◌≡◌, true, List, sym, ap, ◌∙◌, subst}
use Rattle.std.specs.List.{list_all}
use Rattle.dc_tree.specs.declared.symbols.Symbol.{Symbol}
use Rattle.dc_tree.specs.Blocks.{Source}
use Rattle.dc_form.specs.BuiltPrograms.{is_built}
use Rattle.dc_tree.specs.Symbols.{is_sound}
use Rattle.dc_front.specs.Form.{IsRunnable}
use Rattle.dc_lower.specs.Lowerable.{IsLowerable}
use Rattle.dc_lower.proofs.Accepting.{program-passes}

pub runnable-lowerable : (symbols : List Symbol) (source : Source) → IsRunnable symbols source → list_all is_sound symbols ≡ true → IsLowerable symbols source
runnable-lowerable symbols source runnable sound =
    let same = runnable.symbols_are in
    subst (λ s. IsLowerable s source) (sym same)
    (program-passes source runnable.checked.names runnable.checked.types (ap (λ s. is_built s source) (sym same) ∙ runnable.built) (ap (list_all is_sound) (sym same) ∙ sound))
