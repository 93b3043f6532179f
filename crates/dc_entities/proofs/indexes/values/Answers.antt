use Rattle.std.proofs.Common.{rules, arith}
use Rattle.std.proofs.lemmas.Int.{to_z-of_z}
use Rattle.std.proofs.lemmas.List.{append_assoc, length-append}
use Rattle.dc_entities.proofs.Spans.{values-more}
use Rattle.dc_entities.proofs.indexes.values.Goals as goal

pub loop-offset-preserved : goal.loop-offset-preserved
loop-offset-preserved c = record {
  made = grind (arith, to_z-of_z, append_assoc, values-more);
  count = grind (arith, length-append);
  end = search rules;
}
