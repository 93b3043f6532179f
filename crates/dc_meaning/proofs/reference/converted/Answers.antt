use Rattle.std.proofs.Common.{ap, ap₂, ◌∙◌, rules}
use Rattle.std.specs.Int.{w64}
use Rattle.std.proofs.lemmas.Int.{to_z-of_z}
use Rattle.dc_tree.specs.Syntax.{arg_tree, args_from}
use Rattle.std.specs.Prelude.{map}
use Rattle.dc_meaning.specs.WalkScope.{scope_of}
use Rattle.dc_int.specs.Kinds.{wrapped}
use Rattle.dc_tree.specs.Typing.{kind_converted}
use Rattle.dc_meaning.proofs.Inquiring.{values-known}
use Rattle.dc_meaning.proofs.reference.converted.Goals as goal

pub returns : goal.returns
returns c =
    let given = to_z-of_z w64 c.args.given (search rules) in
    let whole = to_z-of_z w64 c.wrap_to.result (search rules) in
    whole ∙ c.wrap_to.ensures
    ∙ ap₂ wrapped (c.kind_converted.ensures ∙ ap kind_converted (values-known (scope_of c.args.walk.now) (args_from (map arg_tree c.args.args.now)) _ (c.as_slice.ensures ∙ c.in_ok-known.ensures))) (search rules)
