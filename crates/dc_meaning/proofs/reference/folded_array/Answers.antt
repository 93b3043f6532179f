use Rattle.std.proofs.Common.{sym, ap, ◌∙◌, rules}
use Rattle.std.specs.Int.{w64}
use Rattle.std.proofs.lemmas.Int.{to_z-of_z}
use Rattle.dc_tree.specs.Syntax.{arg_tree, args_from}
use Rattle.std.specs.Prelude.{map}
use Rattle.dc_meaning.specs.WalkScope.{scope_of}
use Rattle.dc_sorts.specs.Functions.{function_of}
use Rattle.dc_sorts.specs.Forms.{sort_of_form}
use Rattle.dc_meaning.specs.Places.{whole_values}
use Rattle.dc_meaning.specs.Values.{folded}
use Rattle.dc_meaning.proofs.Inquiring.{folded-walks, folded-bad}
use Rattle.dc_meaning.proofs.Walking.{handed, stays-as}
use Rattle.dc_meaning.proofs.reference.folded_array.Goals as goal

pub returns-in_err-given : goal.returns-in_err-given
returns-in_err-given c =
    handed c.from_residual.result _ c.from_residual.ensures.1
    (folded-bad (scope_of c.args.walk.now) c.args.line (function_of c.args.function) (sort_of_form c.args.form) (args_from (map arg_tree c.args.args.now))
    (stays-as (λ call. ap (whole_values c.args.line) (sym c.array_named-found.ensures.found)) c.in_err-given.ensures))

pub returns : goal.returns
returns c =
    let whole = to_z-of_z w64 c.folded.result (search rules) in
    folded-walks (scope_of c.args.walk.now) c.args.line (function_of c.args.function) (sort_of_form c.args.form) (args_from (map arg_tree c.args.args.now)) c.in_ok-given.given _
    (whole ∙ c.folded.ensures ∙ ap (folded (function_of c.args.function) (sort_of_form c.args.form)) c.as_slice.ensures)
    (stays-as (λ call. ap (whole_values c.args.line) (sym c.array_named-found.ensures.found)) c.in_ok-given.ensures)
