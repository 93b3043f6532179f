use Rattle.std.proofs.Common.{refl, ◌∙◌}
use Rattle.dc_tree.specs.Blocks.{source_of}
use Rattle.dc_form.specs.BuiltPrograms.{is_built}
use Rattle.judge_rows.proofs.plain_judge.iteration.Goals as goal

pub alone-requires : goal.alone-requires
alone-requires c =
    record {
      form = (λ i. is_built (c.symbols-symbols.ensures.value i) (source_of (c.program-program.ensures.value i))) ∙ c.symbols-symbols.ensures.runnable.built;
      one = refl;
    }
