use Rattle.std.proofs.Common.{◌≡◌, map, drop}
use Rattle.dc_form.specs.BuiltPrograms.{some_mentions}
use Rattle.dc_tree.specs.Syntax.{arg_tree, args_from}
use Rattle.dc_form.proofs.values.+mentioned.Given as goal

abbrev pub invariant-some_mentions-loop-arg : goal.invariant-some_mentions-loop-arg
invariant-some_mentions-loop-arg l = some_mentions l.asked (args_from (map arg_tree (drop l.arg-index l.args))) ≡ some_mentions l.asked (args_from (map arg_tree l.fn.args))
