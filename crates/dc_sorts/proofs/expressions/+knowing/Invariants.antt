-- What is gathered so far and what comes of the rest is all together.
use Rattle.std.proofs.Common.{◌≡◌, ◌++◌, drop, map}
use Rattle.dc_tree.specs.Syntax.{arg_tree, args_from}
use Rattle.dc_sorts.specs.Knowing.{known_args}
use Rattle.dc_sorts.specs.Standing.{standing_of, scope_at}
use Rattle.dc_sorts.proofs.expressions.+knowing.Given as goal

abbrev pub invariant-known_args-loop-arg : goal.invariant-known_args-loop-arg
invariant-known_args-loop-arg l =
    l.known ++ known_args (scope_at (standing_of l.standing)) (args_from (map arg_tree (drop l.arg-index l.args)))
    ≡ known_args (scope_at (standing_of l.standing)) (args_from (map arg_tree l.args))
