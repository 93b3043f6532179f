-- The instruction at which a run pauses.
use Rattle.std.proofs.Common.{◌≡◌, ◌<◌, ℕ, zero, suc, Bool, true, false, List, [], ◌∷◌, length, Option, Some, None, Result, Ok, Err, refl, sym, ap, ◌∙◌, IsTrue, IfOk}
use Rattle.std.proofs.lemmas.Option.{none-some, same_Some, slice_get-get_or, slice_get_within}
use Rattle.std.proofs.lemmas.Bool.{and_parts}
use Rattle.std.specs.List.{list_all}
use Rattle.std.specs.Prelude.{slice_get, slice_index_or}
use Rattle.dc_code.specs.declared.instr.Instr.{Instr}
use Rattle.dc_code.specs.declared.instr.What.{What}
use Rattle.dc_code.specs.Codes.{CodeLists}
use Rattle.dc_code.specs.Computation.{Reached}
use Rattle.dc_code.specs.Frames.{Frame}
use Rattle.dc_code.specs.Instructions.{Going}
use Rattle.dc_code.specs.Troubles.{Event, Failure}
use Rattle.dc_steps.specs.Ending.{what_is_left, left_at}
use Rattle.dc_lower.specs.Today.{is_of_today}
use Rattle.dc_run.specs.Tasks.{pauses, IsPause}

pub inside : (instructions : List Instr) (at : ℕ) (found : Option Instr) → slice_get instructions at ≡ found → IsTrue (pauses found) → at < length instructions
inside instructions at (Some instr) is pausing = slice_get_within instructions at instr is
inside instructions at None is pausing = absurd (let no : false ≡ true = pausing in cc)

pub instr-is : (instructions others : List Instr) (at : ℕ) (default : Instr) (what : What) → others ≡ instructions → IsTrue (pauses (slice_get instructions at)) → (slice_index_or others at default).what ≡ what
    → slice_get instructions at ≡ Some (record { line = (slice_index_or others at default).line; what = what })
instr-is instructions others at default what same pausing is =
    let there = slice_get-get_or instructions at default (inside instructions at (slice_get instructions at) refl pausing) in
    there
    ∙ ap (λ (all : List Instr). Some (slice_index_or all at default)) (sym same)
    ∙ ap (λ w. Some (record { line = (slice_index_or others at default).line; what = w })) is

pub for-all : {A B T : Type 0} (P : T → A → Type 0) (result : Result A B) → ((t : T) → IfOk result (P t)) → IfOk result (λ a. (t : T) → P t a)
for-all P (Ok a) all = λ t. all t
for-all P (Err b) all = tt

list_all-at : {X : Type 0} (p : X → Bool) (xs : List X) (at : ℕ) (x : X) → list_all p xs ≡ true → slice_get xs at ≡ Some x → p x ≡ true
list_all-at p [] at x all is = absurd (none-some x is)
list_all-at p (first ∷ rest) zero x all is = ap p (sym (same_Some first x is)) ∙ (and_parts (p first) (list_all p rest) all).0
list_all-at p (first ∷ rest) (suc at) x all is = list_all-at p rest at x (and_parts (p first) (list_all p rest) all).1 is

-- An instruction of today at which something is left to do is one at which a run pauses.
by-what : (code : CodeLists) (go : Going) (loops at line : ℕ) (what : What) (frame : Frame) (turns : ℕ) (reached : Reached Event Failure (Frame × ℕ)) → is_of_today loops what ≡ true
    → what_is_left code go at line what frame turns ≡ Some reached → pauses (Some (record { line = line; what = what })) ≡ true
by-what code go loops at line What.PutEnd frame turns reached today left = refl
by-what code go loops at line (What.Enter c) frame turns reached today left = refl
by-what code go loops at line (What.TakeNumber k) frame turns reached today left = cc
by-what code go loops at line What.TakeTruth frame turns reached today left = cc
by-what code go loops at line (What.TakeAll v) frame turns reached today left = cc
by-what code go loops at line (What.TakeEnd n) frame turns reached today left = cc
by-what code go loops at line What.Stop frame turns reached today left = cc
by-what code go loops at line other frame turns reached today left = absurd (none-some reached left)

pub is-pause : (code : CodeLists) (go : Going) (loops at : ℕ) (frame : Frame) (turns : ℕ) (reached : Reached Event Failure (Frame × ℕ)) → list_all (λ (instr : Instr). is_of_today loops instr.what) code.instructions ≡ true
    → left_at code go at frame turns (slice_get code.instructions at) ≡ Some reached → IsPause code at
is-pause code go loops at frame turns reached today left = by (slice_get code.instructions at) refl left
  where
    by : (found : Option Instr) → slice_get code.instructions at ≡ found → left_at code go at frame turns found ≡ Some reached → IsTrue (pauses found)
    by None is left = absurd (none-some reached left)
    by (Some instr) is left =
        by-what code go loops at instr.line instr.what frame turns reached (list_all-at (λ (i : Instr). is_of_today loops i.what) code.instructions at instr today is) left
