-- Where parts of instructions stand, and the machine's next step there.
use Rattle.std.proofs.Common.{◌≡◌, ℕ, true, zero, suc, ◌+◌, List, [], ◌∷◌, ◌++◌, length, Some, refl, ap, ◌∙◌, subst, arith}
use Rattle.std.proofs.lemmas.Option.{none-some, same_Some}
use Rattle.std.specs.Prelude.{slice_get}
use Rattle.dc_code.specs.declared.instr.Instr.{Instr}
use Rattle.dc_code.specs.declared.instr.What.{What}
use Rattle.dc_code.specs.Codes.{CodeLists}
use Rattle.dc_code.specs.Frames.{Frame}
use Rattle.dc_code.specs.Instructions.{Going, act}
use Rattle.dc_actions.specs.Deeds.{InstrsStand, lined}
use Rattle.dc_actions.specs.Placed.{StandAt}
use Rattle.dc_actions.proofs.Going.{goes_behind, GoesAs}

pub get-left : {A : Type 0} (first second : List A) (i : ℕ) (item : A) → slice_get first i ≡ Some item → slice_get (first ++ second) i ≡ Some item
get-left [] second zero item e = absurd (none-some item e)
get-left [] second (suc i) item e = absurd (none-some item e)
get-left (x ∷ first) second zero item e = e
get-left (x ∷ first) second (suc i) item e = get-left first second i item e

pub get-right : {A : Type 0} (first second : List A) (i : ℕ) → slice_get (first ++ second) (length first + i) ≡ slice_get second i
get-right [] second i = ap (slice_get second) (none-before i)
  where
    none-before : (i : ℕ) → 0 + i ≡ i
    none-before i = omega arith
get-right (x ∷ first) second i = ap (slice_get (x ∷ (first ++ second))) (one-before (length first) i) ∙ get-right first second i
  where
    one-before : (n i : ℕ) → suc n + i ≡ suc (n + i)
    one-before n i = omega arith

pub stand-left : {code : CodeLists} {line at : ℕ} (first second : List What) → StandAt code line at (first ++ second) → StandAt code line at first
stand-left first second stand = record { each = λ i what e. stand.each i what (get-left first second i what e) }

pub stand-right : {code : CodeLists} {line : ℕ} (at : ℕ) (first second : List What) → StandAt code line at (first ++ second) → StandAt code line (at + length first) second
stand-right {code} {line} at first second stand =
    record { each = λ i what e. subst (λ place. slice_get code.instructions place ≡ Some (record { line = line; what = what })) (behind i) (stand.each (length first + i) what (get-right first second i ∙ e)) }
  where
    behind : (i : ℕ) → at + (length first + i) ≡ at + length first + i
    behind i = omega arith

pub stand-rest : {code : CodeLists} {line : ℕ} (at : ℕ) (what : What) (rest : List What) → StandAt code line at (what ∷ rest) → StandAt code line (suc at) rest
stand-rest {code} {line} at what rest stand =
    record { each = λ i next e. subst (λ place. slice_get code.instructions place ≡ Some (record { line = line; what = next })) (behind i) (stand.each (suc i) next e) }
  where
    behind : (i : ℕ) → at + suc i ≡ suc at + i
    behind i = omega arith

pub stand-first : {code : CodeLists} {line : ℕ} (at : ℕ) (what : What) (rest : List What) → StandAt code line at (what ∷ rest)
    → slice_get code.instructions at ≡ Some (record { line = line; what = what })
stand-first {code} {line} at what rest stand = subst (λ place. slice_get code.instructions place ≡ Some (record { line = line; what = what })) (omega arith) (stand.each 0 what refl)

-- A run that goes on as the machine does carries out the instruction that stands there.
pub stepped : {code : CodeLists} {go : Going} {line : ℕ} (goes : GoesAs code go) (at : ℕ) (what : What) (rest : List What) (frame : Frame) (turns : ℕ) → StandAt code line at (what ∷ rest)
    → goes_behind what ≡ true → go at frame turns ≡ act code go line what at frame turns
stepped {code} {go} {line} goes at what rest frame turns stand behind = goes.each at line what frame turns (stand-first at what rest stand) behind

-- ---- instructions of several lines

pub instrs-left : {code : CodeLists} {at : ℕ} (first second : List Instr) → InstrsStand code at (first ++ second) → InstrsStand code at first
instrs-left first second stand = record { each = λ i instr e. stand.each i instr (get-left first second i instr e) }

pub instrs-right : {code : CodeLists} (at : ℕ) (first second : List Instr) → InstrsStand code at (first ++ second) → InstrsStand code (at + length first) second
instrs-right {code} at first second stand =
    record { each = λ i instr e. subst (λ place. slice_get code.instructions place ≡ Some instr) (behind i) (stand.each (length first + i) instr (get-right first second i ∙ e)) }
  where
    behind : (i : ℕ) → at + (length first + i) ≡ at + length first + i
    behind i = omega arith

get-lined : (line : ℕ) (whats : List What) (i : ℕ) (what : What) → slice_get whats i ≡ Some what → slice_get (lined line whats) i ≡ Some (record { line = line; what = what })
get-lined line [] zero what e = absurd (none-some what e)
get-lined line [] (suc i) what e = absurd (none-some what e)
get-lined line (first ∷ whats) zero what e = ap (λ (w : What). Some (record { line = line; what = w })) (same_Some first what e)
get-lined line (first ∷ whats) (suc i) what e = get-lined line whats i what e

pub lined-stand : {code : CodeLists} {at : ℕ} (line : ℕ) (whats : List What) → InstrsStand code at (lined line whats) → StandAt code line at whats
lined-stand line whats stand = record { each = λ i what e. stand.each i (record { line = line; what = what }) (get-lined line whats i what e) }
