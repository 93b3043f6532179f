-- Instructions that run straight through, from the sorts of a stack to those that they leave.
use Rattle.std.proofs.Common.{◌≡◌, Bool, true, ◌&&◌, List, [], ◌∷◌, ◌++◌, Option, Some, refl, sym, subst}
use Rattle.std.specs.Prelude.{not, is_none}
use Rattle.std.proofs.lemmas.Bool.{false≢true}
use Rattle.dc_code.specs.declared.instr.What.{What}
use Rattle.dc_code.specs.declared.plan.Plan.{Plan}
use Rattle.dc_code.specs.Codes.{CodeLists}
use Rattle.dc_code.specs.StackSorts.{Sorts, sorts_after}
use Rattle.dc_code.specs.WellFormed.{PartOf, main, procedure, header, mask, body, goes_on, target_of, changes, contributes, ends_part, is_for_main, may_change, may_stand}

-- ---- instructions

-- An instruction that can stand in a part, and behind which the run goes on.
abbrev pub can_stand : PartOf → What → Bool
can_stand kind what =
    goes_on what && (not (ends_part what) && (is_none (target_of what) && (is_none (contributes what) && (may_change kind (changes what) && may_stand kind what))))

-- One that can in all parts.
abbrev pub is_everywhere : What → Bool
is_everywhere what =
    goes_on what && (not (ends_part what) && (is_none (target_of what) && (is_none (contributes what) && (is_none (changes what) && not (is_for_main what)))))

pub in-main : (what : What) → is_everywhere what ≡ true → can_stand main what ≡ true
in-main (What.Store v) e = refl
in-main (What.Forget v) e = refl
in-main (What.Fill v) e = refl
in-main (What.PlaceOf v) e = refl
in-main What.PutEnd e = refl
in-main (What.TakeNumber kind) e = refl
in-main What.TakeTruth e = refl
in-main (What.TakeAll v) e = refl
in-main (What.TakeEnd n) e = refl
in-main (What.Enter c) e = refl
in-main What.Stop e = refl
in-main What.ErrorStop e = refl
in-main what e = e

pub everywhere : (kind : PartOf) (what : What) → is_everywhere what ≡ true → can_stand kind what ≡ true
everywhere main what e = in-main what e
everywhere procedure (What.Const kind n) e = e
everywhere procedure what e = e
everywhere (header construct) (What.Const kind n) e = e
everywhere (header construct) what e = e
everywhere (mask construct) (What.Const kind n) e = e
everywhere (mask construct) what e = e
everywhere (body construct) (What.Store v) e = absurd (false≢true e)
everywhere (body construct) (What.Forget v) e = absurd (false≢true e)
everywhere (body construct) (What.Fill v) e = absurd (false≢true e)
everywhere (body construct) (What.PlaceOf v) e = absurd (false≢true e)
everywhere (body construct) what e = e

-- ---- runs

-- The code, the kind of the part, and the plan of its frame.
pub record Ground : Type 0 where
  pub code : CodeLists
  pub kind : PartOf
  pub plan : Plan

abbrev pub Runs : Ground → Sorts → List What → Sorts → Type 0
Runs ground before [] after = before ≡ after
Runs ground before (what ∷ whats) after =
    (next : Sorts)
    × ((can_stand ground.kind what ≡ true)
    × (((last : Option What) → sorts_after ground.code ground.plan last what before ≡ Some next) × Runs ground next whats after))

pub runs-none : (ground : Ground) (before : Sorts) → Runs ground before [] before
runs-none ground before = refl

-- One instruction before others.
pub runs-step : (ground : Ground) (before next after : Sorts) (what : What) (whats : List What) → can_stand ground.kind what ≡ true
    → ((last : Option What) → sorts_after ground.code ground.plan last what before ≡ Some next) → Runs ground next whats after → Runs ground before (what ∷ whats) after
runs-step ground before next after what whats can step rest = (next, (can, (step, rest)))

-- One instruction that can stand everywhere.
pub runs-one : (ground : Ground) (before next : Sorts) (what : What) → is_everywhere what ≡ true
    → ((last : Option What) → sorts_after ground.code ground.plan last what before ≡ Some next) → Runs ground before (what ∷ []) next
runs-one ground before next what can step = (next, (everywhere ground.kind what can, (step, refl)))

pub runs-both : (ground : Ground) (before between after : Sorts) (whats others : List What) → Runs ground before whats between → Runs ground between others after
    → Runs ground before (whats ++ others) after
runs-both ground before between after [] others first second = subst (λ s. Runs ground s others after) (sym first) second
runs-both ground before between after (what ∷ whats) others first second =
    (first.0, ((first.1).0, (((first.1).1).0, runs-both ground first.0 between after whats others ((first.1).1).1 second)))

pub runs-to : (ground : Ground) (before after other : Sorts) (whats : List What) → after ≡ other → Runs ground before whats after → Runs ground before whats other
runs-to ground before after other whats e runs = subst (λ s. Runs ground before whats s) e runs
