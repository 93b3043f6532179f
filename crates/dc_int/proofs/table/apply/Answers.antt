use Rattle.std.proofs.Common.{◌∙◌, ap, sym, rules}
use Rattle.std.specs.Prelude.{FitsSigned}
use Rattle.std.specs.Int.{w64, w128}
use Rattle.std.proofs.lemmas.Int.{to_z-of_z}
use Rattle.dc_int.specs.declared.kind.Kind.{Kind}
use Rattle.dc_int.specs.Kinds.{wrapped}
use Rattle.dc_int.specs.Operations.{count_of_ones, exact, wrapped_outcome}
use Rattle.dc_int.proofs.Exact.{answer}
use Rattle.dc_int.proofs.table.apply.Goals as goal

pub returns-in-K8-kind-23 : goal.returns-in-K8-kind-23
returns-in-K8-kind-23 c =
    let value_fits : FitsSigned w128 c.count_of_ones-value.result = search rules in
    let fits : FitsSigned w64 c.wrap-in-K8-kind-23.result = search rules in
    let counted = c.count_of_ones-value.ensures ∙ ap (count_of_ones c.args.kind) (to_z-of_z w64 c.args.a c.ranges.a) in
    ap answer (to_z-of_z w64 c.wrap-in-K8-kind-23.result fits ∙ c.wrap-in-K8-kind-23.ensures
    ∙ ap (wrapped Kind.K8) (to_z-of_z w128 c.count_of_ones-value.result value_fits ∙ counted))
    ∙ (λ i. wrapped_outcome (sym c.in-K8-kind-23.is i) (exact (sym c.in-Popcnt.is i) c.args.kind c.args.a c.args.b))
