-- What is said of a loop, and the store behind it, by what its limits come to.
use Rattle.std.proofs.Common.{◌≡◌, ℕ, true, false, List, [], ◌∷◌, map, None, refl, ap, subst, sym, ◌∙◌}
use Rattle.std.specs.Prelude.{ℤ, pos}
use Rattle.dc_int.specs.declared.fault.FaultKind.{FaultKind}
use Rattle.dc_int.specs.declared.fault.Why.{Why}
use Rattle.dc_int.specs.Store.{Store}
use Rattle.dc_code.specs.declared.verdict.Verdict as answers
use Rattle.dc_code.specs.Combinations.{Span, values_of}
use Rattle.dc_code.specs.Computation.{Reached, done, bad, paused, over}
use Rattle.dc_code.specs.Inner.{judging}
use Rattle.dc_code.specs.Loops.{Loop, HeaderResult, header_of, are_too_many}
use Rattle.dc_code.specs.Troubles.{Computing, Event, Failure, in_statement}
use Rattle.dc_code.specs.Verdicts.{Verdict, go_on, at_header, in_iteration, race, seen, visited_by, judged_by}
use Rattle.dc_code.specs.Visits.{visited}
use Rattle.dc_tree.specs.declared.symbols.Symbol.{Symbol}
use Rattle.dc_tree.specs.Blocks.{Items}
use Rattle.dc_tree.specs.Statements.{Statement}
use Rattle.dc_walk.specs.declared.header.Limits.{Limits}
use Rattle.dc_walk.specs.Judging.{IsJudged, combination, store_behind}
use Rattle.dc_walk.specs.Visiting.{span_with, ComesTo, IsVisitable, visit_of, IsVisitBetween}

-- ---- between limits

pub between-too-many : (parts : Loop) (line : ℕ) (span : Span) (store : Store) → are_too_many (span ∷ []) ≡ true
    → IsVisitBetween parts line span store store (answers.Verdict.HeaderFault (Why.Fault FaultKind.TooManyIterations) line None)
between-too-many parts line span store many = record { is = λ turns. rw many refl }

-- the verdict on iterations that a header gave
visited-is : (parts : Loop) (store : Store) (active : List ℤ) (turns : ℕ) (said : Verdict)
    → visited_by parts store (record { iterations = map combination active; turns = turns }) said ≡ visit_of said (store_behind parts store active said) turns
visited-is parts store active turns go_on = refl
visited-is parts store active turns (at_header trouble) = refl
visited-is parts store active turns (in_iteration trouble at) = refl
visited-is parts store active turns (race found first second) = refl

pub between-judged : (parts : Loop) (line : ℕ) (span : Span) (before after : Store) (said : answers.Verdict) → are_too_many (span ∷ []) ≡ false
    → IsJudged parts before (values_of span) after said → IsVisitBetween parts line span before after said
between-judged parts line span before after said few judged = record {
  is = λ turns.
      let given : HeaderResult = record { iterations = map combination (values_of span); turns = turns } in
      rw few
      (ap (visited_by parts before given) judged.verdict_is ∙ visited-is parts before (values_of span) turns (seen said)
      ∙ ap (λ s. visit_of (seen said) s turns) (sym judged.store_is));
}

-- ---- behind the limits of a header

-- One index, which steps by 1.
pub record IsOneSpan (spans : List Span) : Type 0 where
  pub span : Span
  pub is : spans ≡ span ∷ []
  pub step : span.step ≡ pos 1

module _ {parts : Loop} {symbols : List Symbol} {given line : ℕ} {head : Statement} {block : Items} (loop : IsVisitable parts symbols given line head block) (turns : ℕ) (before : Store) where
  abbrev limits-reached : Reached Event Failure (List Span × ℕ)
  limits-reached = (over before (parts.form.header turns)).reached

  -- What the limits come to tells what the header comes to.
  pub comes-to : (reached : Reached Event Failure (List Span × ℕ)) → limits-reached ≡ reached → ComesTo line reached (over before (header_of parts.form turns)).reached
  comes-to reached is =
      subst (λ (r : Reached Event Failure (List Span × ℕ)). ComesTo line r (over before (header_of parts.form turns)).reached) is (loop.heads before turns).comes

  -- They come to no pause, and to the values of one index only.
  pub no-pause : (event : Event) (rest : ℤ → Computing (List Span × ℕ)) → limits-reached ≡ paused event rest → ⊥
  no-pause event rest is = comes-to (paused event rest) is

  pub one-span : (spans : List Span) (left : ℕ) → limits-reached ≡ done (spans, left) → IsOneSpan spans
  one-span [] left is = absurd (comes-to (done ([], left)) is)
  one-span (span ∷ []) left is = record { span = span; is = refl; step = (comes-to (done (span ∷ [], left)) is).0 }
  one-span (span ∷ other ∷ rest) left is = absurd (comes-to (done (span ∷ other ∷ rest, left)) is)

  -- Behind such values the loop is visited as the iterations between them are,
  pub visited-by : (left : ℕ) (span : Span) (after : Store) (said : answers.Verdict) → limits-reached ≡ done (span ∷ [], left) → IsVisitBetween parts line span before after said
      → visited judging parts turns before ≡ visit_of (seen said) after left
  visited-by left span after said is between = ap (judged_by parts before) (comes-to (done (span ∷ [], left)) is).1 ∙ between.is left

  pub visited-with : (left : ℕ) (span : Span) (limits : Limits) (after : Store) (said : answers.Verdict) → limits-reached ≡ done (span ∷ [], left)
      → limits.first ≡ span.first → limits.last ≡ span.last → IsVisitBetween parts line (span_with limits) before after said
      → visited judging parts turns before ≡ visit_of (seen said) after left
  visited-with left span limits after said is first last between =
      let step : span.step ≡ pos 1 = (comes-to (done (span ∷ [], left)) is).0 in
      visited-by left span after said is
      (subst (λ (s : Span). IsVisitBetween parts line s before after said) (λ i. record { first = first i; last = last i; step = sym step i }) between)

  -- and behind a failure it comes to that at its header.
  pub visited-failed : (failure : Failure) → limits-reached ≡ bad failure → visited judging parts turns before ≡ visit_of (at_header (in_statement failure)) before turns
  visited-failed failure is = ap (judged_by parts before) (comes-to (bad failure) is)
