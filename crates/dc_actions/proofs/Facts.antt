-- Facts that hold together, and of operations.
use Rattle.std.proofs.Common.{◌≡◌, Bool, true, false, ◌&&◌, refl, ap, ◌∙◌}
use Rattle.std.proofs.lemmas.Bool.{false≢true}
use Rattle.dc_int.specs.declared.operation.Op.{Op}
use Rattle.dc_code.specs.Instructions.{takes_one}
use Rattle.dc_actions.specs.Expressions.{chooses}

pub both-hold : {a b : Bool} → a ≡ true → b ≡ true → (a && b) ≡ true
both-hold {b = b} first second = ap (λ c. c && b) first ∙ second

pub both-true : {a b : Bool} → (a && b) ≡ true → (a ≡ true) × (b ≡ true)
both-true {a = true} {b = b} e = (refl, e)
both-true {a = false} {b = b} e = absurd (false≢true e)

-- MIN and MAX take two values.
pub takes-two : (op : Op) → chooses op ≡ true → takes_one op ≡ false
takes-two Op.Min so = refl
takes-two Op.Max so = refl
takes-two op so = absurd (false≢true so)
