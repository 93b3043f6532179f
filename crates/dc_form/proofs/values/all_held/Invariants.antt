use Rattle.std.proofs.Common.{◌≡◌, map, drop}
use Rattle.std.specs.List.{list_all}
use Rattle.dc_form.specs.BuiltPrograms.{is_held}
use Rattle.dc_tree.specs.Syntax.{tree}
use Rattle.dc_form.proofs.values.all_held.Given as goal

abbrev pub invariant-loop-value : goal.invariant-loop-value
invariant-loop-value l = list_all is_held (map tree (drop l.value-index l.values)) ≡ list_all is_held (map tree l.fn.values)
