use Rattle.std.proofs.Common.{◌≡◌, map, drop}
use Rattle.dc_form.specs.BuiltPrograms.{are_held}
use Rattle.dc_tree.specs.Syntax.{arg_tree, args_from}
use Rattle.dc_form.proofs.values.+held.Given as goal

abbrev pub invariant-are_held-loop-arg : goal.invariant-are_held-loop-arg
invariant-are_held-loop-arg l = are_held (args_from (map arg_tree (drop l.arg-index l.args))) ≡ are_held (args_from (map arg_tree l.fn.args))
