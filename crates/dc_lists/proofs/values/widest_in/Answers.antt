use Rattle.std.proofs.Common.{rules, sym, ap, ◌∙◌, Ok, Err}
use Rattle.std.proofs.lemmas.Int.{to_z-of_z}
use Rattle.std.specs.Prelude.{FitsSigned}
use Rattle.std.specs.Int.{w64}
use Rattle.dc_int.specs.declared.kind.Kind.{Kind}
use Rattle.dc_lists.specs.Input.{signed_in, of_kind}
use Rattle.dc_lists.proofs.Parsing.{parsed, no_text}
use Rattle.dc_lists.proofs.values.widest_in.Goals as goal

pub returns-in_default : goal.returns-in_default
returns-in_default c = sym (no_text c.args.text.now c.in_default.ensures.cases.0)

pub returns-in-Ok-parse : goal.returns-in-Ok-parse
returns-in-Ok-parse c =
    let fits : FitsSigned w64 c.in-Ok-parse.number = search rules in
    ap (λ n. Ok n) (to_z-of_z w64 c.in-Ok-parse.number fits)
    ∙ sym (parsed {E = Unit {0}} c.in-Ok.text.now (Ok c.in-Ok-parse.number) c.in-Ok-parse.ensures.value.0)
    ∙ ap (λ text. of_kind Kind.K8 (signed_in text)) c.in-Ok.ensures.cases.0

pub returns-in-Err : goal.returns-in-Err
returns-in-Err c =
    sym (parsed {E = Unit {0}} c.in-Ok.text.now (Err tt) c.in-Err.ensures.value.0)
    ∙ ap (λ text. of_kind Kind.K8 (signed_in text)) c.in-Ok.ensures.cases.0
