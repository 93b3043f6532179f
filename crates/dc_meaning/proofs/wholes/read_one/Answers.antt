use Rattle.std.proofs.Common.{List, [], ◌∷◌, ◌++◌, ◌∙◌, ap, sym, rules}
use Rattle.std.specs.Prelude.{ℤ}
use Rattle.std.specs.Int.{w64, cast_signed as to_z, cast_unsigned as of_z}
use Rattle.std.proofs.lemmas.Int.{to_z-of_z}
use Rattle.dc_meaning.specs.Acts.{just}
use Rattle.dc_meaning.proofs.Walking.{handed, stays-then, stays-bad, stays-just, stays-as}
use Rattle.dc_meaning.proofs.Referring.{index-whole}
use Rattle.dc_meaning.proofs.wholes.read_one.Goals as goal

pub returns-in_err-read_index : goal.returns-in_err-read_index
returns-in_err-read_index c = λ view.
    handed c.from_residual.result _ c.from_residual.ensures.1
    (stays-as (λ call. index-whole c.args.line c.args.kind) (stays-bad {A = List ℤ} {tell = λ zs. zs} (λ call z. just (z ∷ [])) (c.in_err-read_index.ensures view)))

pub returns : goal.returns
returns c = λ view.
    let z = c.in_ok-read_index.field-0 in
    let told = to_z-of_z w64 z (search rules) in
    let made = c.in_ok-push.ensures.ok ∙ ap (λ (zs : List ℤ). zs ++ to_z w64 (of_z w64 z) ∷ []) c.new-values.ensures ∙ ap (λ (w : ℤ). w ∷ []) told in
    stays-as (λ call. index-whole c.args.line c.args.kind)
    (stays-then (λ call w. just (w ∷ [])) (c.in_ok-read_index.ensures view) (stays-just _ (λ call. ap just (sym made))))
