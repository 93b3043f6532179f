-- Lemmas on names and arguments.
use Rattle.std.proofs.Common.{◌≡◌, List, [], ◌∷◌, map, length, Option, Some, None, refl, ap, suc}
use Rattle.std.specs.Prelude.{option_map, is_some}
use Rattle.dc_tree.specs.declared.expr.Arg.{Arg}
use Rattle.dc_tree.specs.Syntax.{args_from, arg_tree}
use Rattle.dc_sorts.specs.declared.intrinsic.Intrinsic.{Intrinsic}
use Rattle.dc_sorts.specs.Functions.{function_of}
use Rattle.dc_uses.specs.Uses.{count_of}

pub some_function : (function : Option Intrinsic) → is_some (option_map function_of function) ≡ is_some function
some_function None = refl
some_function (Some function) = refl

pub ruleset named = (some_function)

pub counted : (args : List Arg) → count_of (args_from (map arg_tree args)) ≡ length args
counted [] = refl
counted (first ∷ rest) = ap suc (counted rest)
