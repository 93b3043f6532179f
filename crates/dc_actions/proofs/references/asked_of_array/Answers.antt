use Rattle.std.proofs.Common.{ap, ap₂, ◌∙◌, rules}
use Rattle.std.specs.Int.{w64}
use Rattle.std.specs.Prelude.{map}
use Rattle.std.proofs.lemmas.Int.{to_z-of_z}
use Rattle.dc_tree.specs.Syntax.{arg_tree, args_from}
use Rattle.dc_sorts.specs.Functions.{function_of}
use Rattle.dc_meaning.specs.Places.{bounds_of_entity}
use Rattle.dc_meaning.specs.Values.{about_array, dimension_named}
use Rattle.dc_meaning.proofs.Inquiring.{values-known}
use Rattle.dc_actions.specs.Naming.{scope_of}
use Rattle.dc_actions.proofs.references.asked_of_array.Goals as goal

pub returns : goal.returns
returns c =
    let args = args_from (map arg_tree c.args.args.now) in
    let whole = to_z-of_z w64 c.about_array.result (search rules) in
    let bounds = c.bounds_of-bounds.ensures.bounds ∙ ap bounds_of_entity c.array_named.ensures.found in
    whole ∙ c.about_array.ensures
    ∙ ap₂ (about_array (function_of c.args.function)) bounds
    (c.dimension_named.ensures ∙ ap₂ dimension_named bounds (values-known (scope_of c.args.names.now) args _ c.requires.known))
