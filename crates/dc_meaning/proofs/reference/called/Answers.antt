use Rattle.std.proofs.Common.{ap, ◌∙◌}
use Rattle.dc_tree.specs.Syntax.{arg_tree, args_from}
use Rattle.std.specs.Prelude.{map}
use Rattle.dc_meaning.specs.WalkScope.{scope_of, own_of}
use Rattle.dc_sorts.specs.Functions.{function_of}
use Rattle.dc_tree.specs.Operating as operating
use Rattle.dc_meaning.proofs.Inquiring.{settled-as, first-known}
use Rattle.dc_meaning.proofs.reference.called.Goals as goal

pub returns : goal.returns
returns c = λ view.
    settled-as c.args.line _ _
    (c.call_function.ensures
    ∙ ap (λ sort. operating.called (function_of c.args.function) sort c.args.given.now)
    (c.first_form.ensures ∙ first-known (scope_of c.args.walk.now) (args_from (map arg_tree c.args.args.now)) _ (c.as_slice.ensures ∙ c.in_ok-known.ensures)))
    (c.settled.ensures (own_of c.args.walk.now) view)
