-- Values as variables take them: a wrapped number is taken as the number itself.
use Rattle.std.proofs.Common.{◌≡◌, ℕ, Bool, true, false, cond, [], ◌∷◌, ◌+◌, length, refl, ap, ◌∙◌}
use Rattle.std.proofs.lemmas.Int.{int_wrap_fits}
use Rattle.std.specs.Prelude.{ℤ, nat_lt}
use Rattle.dc_int.specs.declared.kind.Kind.{Kind}
use Rattle.dc_int.specs.Kinds.{bits_of, width, wrapped}
use Rattle.dc_int.specs.Reductions.{truth, number_of_truth}
use Rattle.dc_int.specs.Sorts.{Sort, whole, logical, fitted}
use Rattle.dc_int.proofs.Wraps.{in_range_fits, wrapped_in_range}
use Rattle.dc_code.specs.declared.frame.Item.{Item}
use Rattle.dc_code.specs.declared.instr.What.{What}
use Rattle.dc_code.specs.Codes.{CodeLists}
use Rattle.dc_code.specs.Frames.{Frame, pushed}
use Rattle.dc_code.specs.Instructions.{Going}
use Rattle.dc_actions.specs.Assigning.{conversion_code}
use Rattle.dc_actions.specs.Placed.{StandAt}
use Rattle.dc_actions.proofs.Going.{GoesAs}
use Rattle.dc_actions.proofs.OperatorLaws.{plus-one, plus-none}
use Rattle.dc_actions.proofs.Placing.{stepped}

wrapped-twice : (its_kind : Kind) (z : ℤ) → wrapped its_kind (wrapped its_kind z) ≡ wrapped its_kind z
wrapped-twice its_kind z = int_wrap_fits (width its_kind) (wrapped its_kind z) (in_range_fits its_kind (wrapped its_kind z) (wrapped_in_range its_kind z))

pub truth-back : (b : Bool) → truth (number_of_truth b) ≡ b
truth-back true = refl
truth-back false = refl

pub fitted-twice : (sort : Sort) (z : ℤ) → fitted sort (fitted sort z) ≡ fitted sort z
fitted-twice (whole its_kind) z = wrapped-twice its_kind z
fitted-twice logical z = ap number_of_truth (truth-back (truth z))

-- What the instructions of a conversion leave of a value, which a variable takes as the value itself.
pub record Converts (go : Going) (at : ℕ) (frame : Frame) (turns : ℕ) (given taken : Sort) (z : ℤ) : Type 0 where
  pub value : ℤ
  pub fits : fitted taken value ≡ fitted taken z
  pub runs : go at (pushed (Item.Value z) frame) turns ≡ go (at + length (conversion_code given taken)) (pushed (Item.Value value) frame) turns

unchanged : (go : Going) (at : ℕ) (frame : Frame) (turns : ℕ) (z : ℤ) → go at (pushed (Item.Value z) frame) turns ≡ go (at + 0) (pushed (Item.Value z) frame) turns
unchanged go at frame turns z = ap (λ place. go place (pushed (Item.Value z) frame) turns) (plus-none at)

-- from a kind to one that is narrower, or isn't
narrower-law : (code : CodeLists) (go : Going) (goes : GoesAs code go) (line at : ℕ) (frame : Frame) (turns : ℕ) (taken : Kind) (z : ℤ) (narrower : Bool)
    → StandAt code line at (cond narrower (What.Wrap taken ∷ []) [])
    → (value : ℤ) × (fitted (whole taken) value ≡ fitted (whole taken) z)
    × (go at (pushed (Item.Value z) frame) turns ≡ go (at + length (cond narrower (What.Wrap taken ∷ []) [])) (pushed (Item.Value value) frame) turns)
narrower-law code go goes line at frame turns taken z true stand = (
  wrapped taken z,
  wrapped-twice taken z,
  stepped goes at (What.Wrap taken) [] (pushed (Item.Value z) frame) turns stand refl ∙ ap (λ place. go place (pushed (Item.Value (wrapped taken z)) frame) turns) (plus-one at),
)
narrower-law code go goes line at frame turns taken z false stand = (z, refl, unchanged go at frame turns z)

pub conversion-law : (code : CodeLists) (go : Going) (goes : GoesAs code go) (line at : ℕ) (frame : Frame) (turns : ℕ) (given taken : Sort) (z : ℤ)
    → StandAt code line at (conversion_code given taken) → Converts go at frame turns given taken z
conversion-law code go goes line at frame turns (whole given) (whole taken) z stand =
    let w = narrower-law code go goes line at frame turns taken z (nat_lt (bits_of taken) (bits_of given)) stand in record { value = w.0; fits = w.1; runs = w.2 }
conversion-law code go goes line at frame turns (whole given) logical z stand = record { value = z; fits = refl; runs = unchanged go at frame turns z }
conversion-law code go goes line at frame turns logical (whole taken) z stand = record { value = z; fits = refl; runs = unchanged go at frame turns z }
conversion-law code go goes line at frame turns logical logical z stand = record { value = z; fits = refl; runs = unchanged go at frame turns z }
