use Rattle.std.proofs.Common.{◌≡◌, refl, sym, ◌∙◌, arith, rules, true}
use Rattle.dc_tree.specs.Blocks.{source_of}
use Rattle.dc_form.specs.BuiltPrograms.{is_built}
use Rattle.judge_rows.proofs.plain_judge.judged.Goals as goal

pub plain_verdict-requires : goal.plain_verdict-requires
plain_verdict-requires c =
    let built : is_built c.symbols-symbols.result.now (source_of c.program-program.result.now) ≡ true =
    (λ i. is_built (c.symbols-symbols.ensures.value i) (source_of (c.program-program.ensures.value i))) ∙ c.symbols-symbols.ensures.runnable.built in
    let there : c.has_loop.result ≡ true = search rules in
    record {
      form = built;
      loop = λ turns. sym (c.has_loop.ensures c.symbols-symbols.result.now turns built) ∙ there;
      one = refl;
      few = omega arith;
    }
