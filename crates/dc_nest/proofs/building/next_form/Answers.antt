use Rattle.std.proofs.Common.{◌≡◌, List, [], ◌∷◌, Some, None, map, refl, ap, ◌∙◌}
use Rattle.std.specs.Prelude.{slice_get}
use Rattle.dc_tree.specs.declared.program.Lined.{Lined}
use Rattle.dc_tree.specs.Blocks.{line_of}
use Rattle.dc_nest.specs.Nested.{form_of}
use Rattle.dc_nest.specs.Ahead.{next_form}
use Rattle.dc_nest.proofs.building.next_form.Goals as goal

form-of_first : (list : List Lined) (lined : Lined) → Some lined ≡ slice_get list 0 → Some (form_of (line_of lined).says) ≡ next_form (map line_of list)
form-of_first [] lined first = cc
form-of_first (next ∷ rest) lined first = let same : lined ≡ next = cc in ap (λ (l : Lined). Some (form_of (line_of l).says)) same

none-first : (list : List Lined) → None ≡ slice_get list 0 → None ≡ next_form (map line_of list)
none-first [] none = refl
none-first (next ∷ rest) none = cc

pub returns-in-Some : goal.returns-in-Some
returns-in-Some c = ap Some c.form_of.ensures ∙ form-of_first c.args.rest.now c.in-Some.lined.now c.in-Some.ensures

pub returns-in-None : goal.returns-in-None
returns-in-None c = none-first c.args.rest.now c.in-None.ensures
