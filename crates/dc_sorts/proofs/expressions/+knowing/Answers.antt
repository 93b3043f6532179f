-- What is known of a reference comes from its arguments.
use Rattle.std.proofs.Common.{◌≡◌, ℕ, List, map, ap, sym, ◌∙◌}
use Rattle.dc_tree.specs.declared.expr.Arg.{Arg}
use Rattle.dc_tree.specs.Syntax.{Tree, arg_tree, args_from, tree}
use Rattle.dc_tree.proofs.Views.{tree-Refer}
use Rattle.dc_sorts.specs.Knowing.{known_of, known_args, known_referred}
use Rattle.dc_sorts.specs.Standing.{scope_at, standing_of}
use Rattle.dc_sorts.proofs.Knowing.{known-refer}
use Rattle.dc_sorts.proofs.expressions.+knowing.Goals as goal

pub known_expr-returns-in_ok-known-in-Refer : goal.known_expr-returns-in_ok-known-in-Refer
known_expr-returns-in_ok-known-in-Refer t c =
    let scope = scope_at (standing_of c.args.standing.now) in
    let text = c.in-Refer.name in
    let args = args_from (map arg_tree c.in-Refer.args) in
    let known : c.as_slice-in-Refer.result.now ≡ known_args scope args =
    c.as_slice-in-Refer.ensures ∙ c.in_ok-known-in-Refer.ensures ∙ ap (λ (list : List Arg). known_args scope (args_from (map arg_tree list))) c.as_slice.ensures in
    c.known_referred.ensures ∙ ap (λ (given : List ℕ). known_referred scope given c.as_slice-in-Refer.result.now) c.as_bytes-in-Refer.ensures
    ∙ ap (known_referred scope text) known ∙ sym (known-refer scope text args) ∙ sym (ap (λ (of : Tree). known_of scope of) (ap tree c.in-Refer.is ∙ tree-Refer text c.in-Refer.args))
