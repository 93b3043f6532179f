use Rattle.std.proofs.Common.{sym, ap, ◌∙◌, rules}
use Rattle.std.specs.Int.{w64}
use Rattle.std.proofs.lemmas.Int.{to_z-of_z}
use Rattle.dc_tree.specs.Syntax.{arg_tree, args_from}
use Rattle.std.specs.Prelude.{map}
use Rattle.dc_meaning.specs.WalkScope.{scope_of}
use Rattle.dc_sorts.specs.Functions.{function_of}
use Rattle.dc_tree.specs.Operating.{about_kind}
use Rattle.dc_meaning.specs.Acts.{just}
use Rattle.dc_meaning.specs.Evaluating.{asked_about, folded_at}
use Rattle.dc_meaning.proofs.Inquiring.{first-known, asks-kind, asks-elements}
use Rattle.dc_meaning.proofs.Walking.{stays-as, stays-just}
use Rattle.dc_meaning.proofs.reference.unevaluated.Goals as goal

pub returns-in-Kind : goal.returns-in-Kind
returns-in-Kind c =
    let tree = args_from (map arg_tree c.args.args.now) in
    let sort = c.first_form-form.ensures ∙ first-known (scope_of c.args.walk.now) tree _ (c.as_slice-known.ensures ∙ c.in_ok-known.ensures) in
    let whole = to_z-of_z w64 c.asked.result (search rules) in
    stays-just _
    (λ call.
    asks-kind (scope_of c.args.walk.now) c.args.line (function_of c.args.function) tree (sym c.asked_by.ensures ∙ c.in-Kind.is)
    ∙ ap just (sym (whole ∙ c.asked.ensures ∙ ap (λ s. asked_about (about_kind (function_of c.args.function) s)) sort)))

pub returns-in-Elements : goal.returns-in-Elements
returns-in-Elements c =
    let tree = args_from (map arg_tree c.args.args.now) in
    let sort = c.first_form-form.ensures ∙ first-known (scope_of c.args.walk.now) tree _ (c.as_slice-known.ensures ∙ c.in_ok-known.ensures) in
    stays-as
    (λ call.
    asks-elements (scope_of c.args.walk.now) c.args.line (function_of c.args.function) tree (sym c.asked_by.ensures ∙ c.in-Elements.is)
    ∙ ap (λ s. folded_at (scope_of c.args.walk.now) c.args.line (function_of c.args.function) s tree) (sym sort))
    c.folded_array.ensures
