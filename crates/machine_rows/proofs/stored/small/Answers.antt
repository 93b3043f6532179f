use Rattle.std.proofs.Common.{◌≡◌, List, [], ◌∷◌, ◌++◌, refl, ◌∙◌}
use Rattle.dc_code.specs.declared.plan.DummyPlan.{DummyPlan}
use Rattle.dc_code.specs.declared.plan.Group.{Group}
use Rattle.dc_code.specs.declared.plan.Plan.{Plan}
use Rattle.dc_vm.proofs.Small.{small, small_formed}
use Rattle.machine_rows.proofs.stored.small.Goals as goal

-- the only item of a list
only : {A : Type 0} (before : List A) (item its : A) → before ≡ [] → item ≡ its → before ++ item ∷ [] ≡ its ∷ []
only before item its none same = rw (none, same) refl

plan-alike : (dummies : List DummyPlan) (groups : List Group) → dummies ≡ [] → groups ≡ [] → ◌≡◌ {A = Plan} (record { dummies = dummies; groups = groups }) (record { dummies = []; groups = [] })
plan-alike dummies groups none also = rw (none, also) refl

pub new-code-requires : goal.new-code-requires
new-code-requires c =
    let instructions : c.from_vec-instructions.result ≡ small.instructions = c.from_vec-instructions.ensures ∙ c.in_ok-from_array.ensures.items in
    let shapes : c.push.new.self ≡ small.shapes = c.in_ok-push.ensures.ok ∙ only c.new-shapes.result _ _ c.new-shapes.ensures refl in
    let bounds : c.push-2.new.self ≡ small.bounds = c.in_ok-push-2.ensures.ok ∙ only c.new-bounds.result c.new.result [] c.new-bounds.ensures c.new.ensures in
    let plans : c.push-3.new.self ≡ small.plans = c.in_ok-push-3.ensures.ok ∙ only c.new-plans.result _ _ c.new-plans.ensures (plan-alike c.new-2.result c.new-3.result c.new-2.ensures c.new-3.ensures) in
    rw (instructions, shapes, bounds, plans, c.new-4.ensures, c.new-5.ensures, c.new-6.ensures) small_formed
