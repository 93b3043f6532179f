-- What the header of a loop comes to, run by its code over the variables.
use Rattle.std.proofs.Common.{◌≡◌, ℕ, List, [], ◌∷◌, Option, Some, None, refl, sym, ap, subst, ◌∙◌}
use Rattle.std.proofs.lemmas.Option.{none-some, same_Some, slice_get-get_or, slice_get_within}
use Rattle.std.specs.Prelude.{ℤ, pos, slice_get, slice_index_or}
use Rattle.dc_int.specs.Entries.{Reads, Defines, Undefines, Contributes}
use Rattle.dc_int.specs.Store.{Store, value_at, bounds_of}
use Rattle.dc_code.specs.declared.frame.Item.{Item}
use Rattle.dc_code.specs.declared.instr.Instr.{Instr}
use Rattle.dc_code.specs.declared.instr.What.{What}
use Rattle.dc_code.specs.declared.plan.ConstructCode.{ConstructCode}
use Rattle.dc_code.specs.Codes.{CodeLists}
use Rattle.dc_code.specs.Combinations.{Span}
use Rattle.dc_code.specs.Computation.{give, fail, read, define, undefine, contribute, ask, pause, sequence, Reached, done, bad, paused, over}
use Rattle.dc_code.specs.Frames.{Frame, with_stack}
use Rattle.dc_code.specs.Instructions.{Going}
use Rattle.dc_code.specs.Loops.{Loop}
use Rattle.dc_code.specs.Machine.{machine, new_frame}
use Rattle.dc_code.specs.OverCells.{CellsRun}
use Rattle.dc_code.specs.Troubles.{Failure, Computing, Event}
use Rattle.dc_steps.specs.Ending.{what_is_left, left_at}
use Rattle.dc_tree.specs.declared.symbols.Symbol.{Symbol}
use Rattle.dc_tree.specs.Blocks.{Line, Items}
use Rattle.dc_lower.specs.Heading.{stack_of}
use Rattle.dc_walk.specs.declared.header.Limits.{Limits}
use Rattle.dc_walk.specs.Visiting.{span_with}
use Rattle.dc_walk.proofs.Visiting.{one-span, no-pause}
use Rattle.dc_run.specs.Resuming.{IsReachable}
use Rattle.dc_run.specs.Variables.{Held, after_entry}
use Rattle.dc_run.proofs.Played.{over_held}

-- ---- a computation whose result is told otherwise, over the variables and over their store

abbrev told : {A B : Type 0} → (A → B) → Reached Event Failure A → Reached Event Failure B
told f (done a) = done (f a)
told f (bad failure) = bad failure
told f (paused event rest) = paused event (λ z. sequence (rest z) (λ a. give (f a)))

record RunsAlike {A B : Type 0} (f : A → B) (held : Held) (c : Computing A) : Type 0 where
  shapes : (over_held held (sequence c (λ a. give (f a)))).meaning.shapes ≡ held.shapes
  store : (over_held held (sequence c (λ a. give (f a)))).meaning.store ≡ (over held.store c).store
  reached : (over_held held (sequence c (λ a. give (f a)))).reached ≡ told f (over held.store c).reached

runs-alike : {A B : Type 0} (f : A → B) (held : Held) (c : Computing A) → RunsAlike f held c
runs-alike f held (give a) = record { shapes = refl; store = refl; reached = refl }
runs-alike f held (fail failure) = record { shapes = refl; store = refl; reached = refl }
runs-alike f held (read x line rest) =
    let later = runs-alike f (after_entry (Reads x line) held) (rest (value_at held.store x)) in record { shapes = later.shapes; store = later.store; reached = later.reached }
runs-alike f held (define x z line rest) =
    let later = runs-alike f (after_entry (Defines x z line) held) rest in record { shapes = later.shapes; store = later.store; reached = later.reached }
runs-alike f held (undefine x line rest) =
    let later = runs-alike f (after_entry (Undefines x line) held) rest in record { shapes = later.shapes; store = later.store; reached = later.reached }
runs-alike f held (contribute x op z rest) =
    let later = runs-alike f (after_entry (Contributes x op z) held) rest in record { shapes = later.shapes; store = later.store; reached = later.reached }
runs-alike f held (ask variable rest) =
    let later = runs-alike f held (rest (bounds_of held.store variable)) in record { shapes = later.shapes; store = later.store; reached = later.reached }
runs-alike f held (pause event rest) = record { shapes = refl; store = refl; reached = refl }

-- ---- the header

-- The machine has run the header of a loop: the variables are as they were, and it has come to what the header of the
-- form comes to.
pub record HasOpened (loop : Loop) (turns : ℕ) (frame : Frame) (before after : Held) (reached : Reached Event Failure (Frame × ℕ)) : Type 0 where
  pub kept : after ≡ before
  pub is : reached ≡ told (λ (w : List Span × ℕ). (with_stack (stack_of w.0) frame, w.1)) (over before.store (loop.form.header turns)).reached

pub has-opened : {symbols : List Symbol} {code : CodeLists} {loop : Loop} {given number : ℕ} {head : Line} {block : Items} → IsReachable loop symbols code given number head block
    → (turns : ℕ) (construct : ConstructCode) (frame : Frame) (before after : Held) (reached : Reached Event Failure (Frame × ℕ)) → slice_get code.constructs number ≡ Some construct
    → frame ≡ new_frame code construct.header → over_held before (machine code construct.header frame turns) ≡ record { meaning = after; reached = reached }
    → HasOpened loop turns (new_frame code construct.header) before after reached
has-opened {symbols = symbols} {code = code} {loop = loop} {number = number} {head = head} {block = block} reachable turns construct frame before after reached found new run =
    let headed = reachable.headed in
    let same : headed.construct ≡ construct = same_Some headed.construct construct (sym headed.there ∙ found) in
    let leaves = subst (λ (c : ConstructCode). machine code c.header (new_frame code c.header) turns ≡ sequence (loop.form.header turns) (λ w. give (with_stack (stack_of w.0) (new_frame code c.header), w.1))) same (headed.leaves turns) in
    let f : List Span × ℕ → Frame × ℕ = λ w. (with_stack (stack_of w.0) (new_frame code construct.header), w.1) in
    let alike = runs-alike f before (loop.form.header turns) in
    let made = sym run ∙ ap (λ fr. over_held before (machine code construct.header fr turns)) new ∙ ap (over_held before) leaves in
    let stays = alike.store ∙ (reachable.visitable.heads before.store turns).stays in
    record {
      kept = ap (λ (r : CellsRun Held Event Failure (Frame × ℕ)). r.meaning) made ∙ (λ i. record { shapes = alike.shapes i; store = stays i });
      is = ap (λ (r : CellsRun Held Event Failure (Frame × ℕ)). r.reached) made ∙ alike.reached;
    }

-- The run came to its end: the limits of one index stand on the stack.
pub record HasLimits (loop : Loop) (turns : ℕ) (store : Store) (frame : Frame) (left : ℕ) : Type 0 where
  pub span : Span
  pub is : (over store (loop.form.header turns)).reached ≡ done (span ∷ [], left)
  pub step : span.step ≡ pos 1
  pub stack : frame.stack ≡ Item.Value span.step ∷ Item.Value span.last ∷ Item.Value span.first ∷ []

module _ {symbols : List Symbol} {code : CodeLists} {loop : Loop} {given number : ℕ} {head : Line} {block : Items} (reachable : IsReachable loop symbols code given number head block) (turns : ℕ) (fresh : Frame) (before after : Held) where
  abbrev Came : Reached Event Failure (Frame × ℕ) → Type 0
  Came reached = HasOpened loop turns fresh before after reached

  abbrev comes : Reached Event Failure (List Span × ℕ)
  comes = (over before.store (loop.form.header turns)).reached

  abbrev f : List Span × ℕ → Frame × ℕ
  f w = (with_stack (stack_of w.0) fresh, w.1)

  same-done : (one other : Frame × ℕ) → ◌≡◌ {A = Reached Event Failure (Frame × ℕ)} (done one) (done other) → one ≡ other
  same-done one other e = cc

  same-bad : (one other : Failure) → ◌≡◌ {A = Reached Event Failure (Frame × ℕ)} (bad one) (bad other) → one ≡ other
  same-bad one other e = cc

  pub has-limits : (frame : Frame) (left : ℕ) → Came (done (frame, left)) → HasLimits loop turns before.store frame left
  has-limits frame left came = by comes refl
    where
      by : (reached : Reached Event Failure (List Span × ℕ)) → comes ≡ reached → HasLimits loop turns before.store frame left
      by (done (spans, rest)) is =
          let same = same-done (frame, left) (f (spans, rest)) (came.is ∙ ap (told f) is) in
          let one = one-span reachable.visitable turns before.store spans rest is in
          record {
            span = one.span;
            is = is ∙ (λ i. done (one.is i, (sym same i).1));
            step = one.step;
            stack = ap (λ (w : Frame × ℕ). w.0.stack) same ∙ ap stack_of one.is;
          }
      by (bad failure) is = absurd (let e = came.is ∙ ap (told f) is in cc)
      by (paused event rest) is = absurd (no-pause reachable.visitable turns before.store event rest is)

  pub has-failed : (failure : Failure) → Came (bad failure) → comes ≡ bad failure
  has-failed failure came = by comes refl
    where
      by : (reached : Reached Event Failure (List Span × ℕ)) → comes ≡ reached → comes ≡ bad failure
      by (done w) is = absurd (let e = came.is ∙ ap (told f) is in cc)
      by (bad other) is = is ∙ ap (λ (t : Failure). bad t) (sym (same-bad failure other (came.is ∙ ap (told f) is)))
      by (paused event rest) is = absurd (no-pause reachable.visitable turns before.store event rest is)

  pub never-pauses : (event : Event) (rest : ℤ → Computing (Frame × ℕ)) → Came (paused event rest) → ⊥
  never-pauses event rest came = by comes refl
    where
      by : (reached : Reached Event Failure (List Span × ℕ)) → comes ≡ reached → ⊥
      by (done w) is = absurd (let e = came.is ∙ ap (told f) is in cc)
      by (bad other) is = absurd (let e = came.is ∙ ap (told f) is in cc)
      by (paused other more) is = no-pause reachable.visitable turns before.store other more is

-- ---- where something is left to do, the run has paused

pub record HasPaused (reached : Reached Event Failure (Frame × ℕ)) : Type 0 where
  pub event : Event
  pub rest : ℤ → Computing (Frame × ℕ)
  pub is : reached ≡ paused event rest

paused-by : (code : CodeLists) (go : Going) (at line : ℕ) (what : What) (frame : Frame) (turns : ℕ) (reached : Reached Event Failure (Frame × ℕ)) → what_is_left code go at line what frame turns ≡ Some reached → HasPaused reached
paused-by code go at line What.PutEnd frame turns reached left = record { event = _; rest = _; is = sym (same_Some _ reached left) }
paused-by code go at line (What.Enter c) frame turns reached left = record { event = _; rest = _; is = sym (same_Some _ reached left) }
paused-by code go at line (What.TakeNumber k) frame turns reached left = record { event = _; rest = _; is = sym (same_Some _ reached left) }
paused-by code go at line What.TakeTruth frame turns reached left = record { event = _; rest = _; is = sym (same_Some _ reached left) }
paused-by code go at line (What.TakeAll v) frame turns reached left = record { event = _; rest = _; is = sym (same_Some _ reached left) }
paused-by code go at line (What.TakeEnd n) frame turns reached left = record { event = _; rest = _; is = sym (same_Some _ reached left) }
paused-by code go at line What.Stop frame turns reached left = record { event = _; rest = _; is = sym (same_Some _ reached left) }
paused-by code go at line other frame turns reached left = absurd (none-some reached left)

pub left-paused : (code : CodeLists) (go : Going) (at : ℕ) (frame : Frame) (turns : ℕ) (reached : Reached Event Failure (Frame × ℕ)) (found : Option Instr) → left_at code go at frame turns found ≡ Some reached → HasPaused reached
left-paused code go at frame turns reached None left = absurd (none-some reached left)
left-paused code go at frame turns reached (Some instr) left = paused-by code go at instr.line instr.what frame turns reached left

-- ---- the limits on the stack

-- The span that stands on a stack.
abbrev pub span-on : List Item → Span
span-on (Item.Value step ∷ Item.Value last ∷ Item.Value first ∷ items) = record { first = first; last = last; step = step }
span-on items = record { first = pos 0; last = pos 0; step = pos 1 }

pub span-off : (stack : List Item) (span : Span) → stack ≡ Item.Value span.step ∷ Item.Value span.last ∷ Item.Value span.first ∷ []
    → stack ≡ Item.Value (span-on stack).step ∷ Item.Value (span-on stack).last ∷ Item.Value (span-on stack).first ∷ []
span-off stack span is = subst (λ s. s ≡ Item.Value (span-on s).step ∷ Item.Value (span-on s).last ∷ Item.Value (span-on s).first ∷ []) (sym is) refl

-- The limits that are taken off are those of the header.
pub limits-off : (loop : Loop) (turns : ℕ) (store : Store) (frame : Frame) (left : ℕ) (limits : Limits) → HasLimits loop turns store frame left → limits.first ≡ (span-on frame.stack).first → limits.last ≡ (span-on frame.stack).last
    → (over store (loop.form.header turns)).reached ≡ done (span_with limits ∷ [], left)
limits-off loop turns store frame left limits has first last =
    let on = ap span-on has.stack in
    let firsts = first ∙ ap (λ (s : Span). s.first) on in
    let lasts = last ∙ ap (λ (s : Span). s.last) on in
    has.is ∙ (λ i. done (record { first = sym firsts i; last = sym lasts i; step = has.step i } ∷ [], left))

-- The construct of a number, as it is found.
pub construct-found : (constructs others : List ConstructCode) (number : ℕ) (default construct : ConstructCode) → others ≡ constructs → slice_get constructs number ≡ Some construct
    → slice_get constructs number ≡ Some (slice_index_or others number default)
construct-found constructs others number default construct same found =
    slice_get-get_or constructs number default (slice_get_within constructs number construct found) ∙ ap (λ all. Some (slice_index_or all number default)) (sym same)
