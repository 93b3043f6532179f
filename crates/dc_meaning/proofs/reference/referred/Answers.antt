use Rattle.std.proofs.Common.{ap}
use Rattle.dc_tree.specs.Syntax.{arg_tree, args_from}
use Rattle.std.specs.Prelude.{map, option_map}
use Rattle.dc_meaning.specs.WalkScope.{scope_of}
use Rattle.dc_sorts.specs.Functions.{function_of}
use Rattle.dc_entities.specs.Found.{entity_of}
use Rattle.dc_meaning.specs.Evaluating.{referred_at}
use Rattle.dc_meaning.proofs.Walking.{stays-as}
use Rattle.dc_meaning.proofs.reference.referred.Goals as goal

pub returns-in-Some : goal.returns-in-Some
returns-in-Some c =
    stays-as
    (λ call.
    ap (λ f. referred_at (scope_of c.args.walk.now) c.args.line (entity_of c.args.found) (option_map function_of f) (args_from (map arg_tree c.args.args.now)) c.args.given.now) c.in-Some.is)
    (c.called.ensures c.args.ledger.now)

pub returns-in-None : goal.returns-in-None
returns-in-None c =
    stays-as
    (λ call.
    ap (λ f. referred_at (scope_of c.args.walk.now) c.args.line (entity_of c.args.found) (option_map function_of f) (args_from (map arg_tree c.args.args.now)) c.args.given.now) c.in-None.is)
    c.value_at.ensures
