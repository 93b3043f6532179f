-- A code whose parts run straight through to their ends is well formed.
use Rattle.std.proofs.Common.{◌≡◌, ◌⊎◌, inl, inr, ◌≤◌, ◌<◌, ℕ, zero, suc, ◌+◌, ◌-◌, Bool, true, false, List, [], ◌∷◌, ◌++◌, length, map, Option, Some, None, refl, sym, ap, ◌∙◌, subst, arith}
use Rattle.std.specs.Prelude.{nat_eq, nat_lt, not, is_none, option_map, min, slice_get, IsTrue}
use Rattle.std.specs.List.{list_all, list_any}
use Rattle.std.proofs.Math.Nat.{min-eq_left}
use Rattle.std.proofs.lemmas.Bool.{false≢true, cond-true, cond-false, lt-ltb, le-ltb, ne_eqb, not_from_false, or_from}
use Rattle.std.proofs.lemmas.Option.{none-some, same_Some, slice_get-map, slice_get_within}
use Rattle.dc_int.specs.declared.operation.ReduceOp.{ReduceOp}
use Rattle.dc_code.specs.declared.instr.Instr.{Instr}
use Rattle.dc_code.specs.declared.instr.What.{What}
use Rattle.dc_code.specs.declared.plan.Plan.{Plan}
use Rattle.dc_code.specs.Codes.{CodeLists, starts, are_small}
use Rattle.dc_code.specs.StackSorts.{Sorts, sorts_after}
use Rattle.dc_code.specs.WellFormed.{PartOf, Part, parts, least_after, end_of, target_of, changes, contributes, ends_part, may_change, may_stand, MayContribute, left_at_end, PlanFits, Stands, bounds_fit, construct_fits, are_different, IsWellFormed}
use Rattle.dc_actions.proofs.Placing.{get-left, get-right}
use Rattle.dc_actions.proofs.Facts.{both-hold, both-true}
use Rattle.dc_actions.proofs.Straight.{can_stand, Ground, Runs}
use Rattle.std.proofs.lemmas.List.{length-append}

-- ---- the parts of a code

-- A part: its kind, its plan, and its instructions before End.
pub record Segment : Type 0 where
  pub kind : PartOf
  pub plan : Plan
  pub whats : List What

abbrev pub code_of : Segment → List What
code_of segment = segment.whats ++ What.End ∷ []

abbrev pub code_of_all : List Segment → List What
code_of_all [] = []
code_of_all (segment ∷ rest) = code_of segment ++ code_of_all rest

abbrev pub part_at : ℕ → Segment → Part
part_at at segment = record { kind = segment.kind; start = at; plan = segment.plan }

abbrev pub parts_from : ℕ → List Segment → List Part
parts_from at [] = []
parts_from at (segment ∷ rest) = part_at at segment ∷ parts_from (at + length (code_of segment)) rest

abbrev pub starts_from : ℕ → List Segment → List ℕ
starts_from at [] = []
starts_from at (segment ∷ rest) = at ∷ starts_from (at + length (code_of segment)) rest

abbrev pub ground_of : CodeLists → Segment → Ground
ground_of code segment = record { code = code; kind = segment.kind; plan = segment.plan }

pub record IsStraight (code : CodeLists) (segment : Segment) : Type 0 where
  pub fits : PlanFits code segment.kind segment.plan
  pub ends : may_stand segment.kind What.End ≡ true
  pub runs : Runs (ground_of code segment) [] segment.whats (left_at_end segment.kind)

abbrev pub AreStraight : CodeLists → List Segment → Type 0
AreStraight code [] = Unit {0}
AreStraight code (segment ∷ rest) = IsStraight code segment × AreStraight code rest

-- The code is that of these parts.
pub record IsLaid (code : CodeLists) (segments : List Segment) : Type 0 where
  pub instructions : map (λ (instr : Instr). instr.what) code.instructions ≡ code_of_all segments
  pub parts : parts code ≡ parts_from 0 segments
  pub starts : starts code ≡ starts_from 0 segments
  pub straight : AreStraight code segments

-- ---- the sorts before each instruction

abbrev pub or_none : Option Sorts → Sorts
or_none None = []
or_none (Some sorts) = sorts

abbrev pub trail : CodeLists → Plan → Sorts → List What → List Sorts
trail code plan sorts [] = sorts ∷ []
trail code plan sorts (what ∷ whats) = sorts ∷ trail code plan (or_none (sorts_after code plan None what sorts)) whats

abbrev pub trails : CodeLists → List Segment → List Sorts
trails code [] = []
trails code (segment ∷ rest) = trail code segment.plan [] segment.whats ++ trails code rest

abbrev pub sorts_in : CodeLists → List Segment → ℕ → Sorts
sorts_in code segments at = or_none (slice_get (trails code segments) at)

trail-first : (code : CodeLists) (plan : Plan) (sorts : Sorts) (whats : List What) → slice_get (trail code plan sorts whats) 0 ≡ Some sorts
trail-first code plan sorts [] = refl
trail-first code plan sorts (what ∷ whats) = refl

trail-length : (code : CodeLists) (plan : Plan) (sorts : Sorts) (whats : List What) → length (trail code plan sorts whats) ≡ length (whats ++ What.End ∷ [])
trail-length code plan sorts [] = refl
trail-length code plan sorts (what ∷ whats) = ap suc (trail-length code plan (or_none (sorts_after code plan None what sorts)) whats)

trails-length : (code : CodeLists) (segments : List Segment) → length (trails code segments) ≡ length (code_of_all segments)
trails-length code [] = refl
trails-length code (segment ∷ rest) =
    length-append (trail code segment.plan [] segment.whats) (trails code rest)
    ∙ ap (λ n. n + length (trails code rest)) (trail-length code segment.plan [] segment.whats)
    ∙ ap (λ n. length (code_of segment) + n) (trails-length code rest)
    ∙ sym (length-append (code_of segment) (code_of_all rest))

-- ---- one instruction of a run

pub record IsInside (ground : Ground) (held : List Sorts) (at : ℕ) (what : What) : Type 0 where
  pub here : Sorts
  pub next : Sorts
  pub now : slice_get held at ≡ Some here
  pub later : slice_get held (suc at) ≡ Some next
  pub can : can_stand ground.kind what ≡ true
  pub step : (last : Option What) → sorts_after ground.code ground.plan last what here ≡ Some next

pub record IsEnd (held : List Sorts) (after : Sorts) (at : ℕ) (what : What) : Type 0 where
  pub now : slice_get held at ≡ Some after
  pub ends : what ≡ What.End

IsInRun : Ground → List Sorts → Sorts → ℕ → What → Type 0
IsInRun ground held after at what = IsInside ground held at what ⊎ IsEnd held after at what

shifted : (ground : Ground) (first : Sorts) (held : List Sorts) (after : Sorts) (at : ℕ) (what : What) → IsInRun ground held after at what → IsInRun ground (first ∷ held) after (suc at) what
unfolding IsInRun
shifted ground first held after at what (inl is) = inl (record { here = is.here; next = is.next; now = is.now; later = is.later; can = is.can; step = is.step })
shifted ground first held after at what (inr is) = inr (record { now = is.now; ends = is.ends })

in-run : (ground : Ground) (before after : Sorts) (whats : List What) → Runs ground before whats after → (at : ℕ) (what : What) → slice_get (whats ++ What.End ∷ []) at ≡ Some what
    → IsInRun ground (trail ground.code ground.plan before whats) after at what
unfolding IsInRun
in-run ground before after [] runs zero what e = inr (record { now = ap (λ (s : Sorts). Some s) runs; ends = sym (same_Some What.End what e) })
in-run ground before after [] runs (suc at) what e = absurd (none-some what e)
in-run ground before after (first ∷ whats) runs zero what e = inl (record {
  here = before;
  next = runs.0;
  now = refl;
  later =
      ap (λ s. slice_get (trail ground.code ground.plan (or_none s) whats) 0) (((runs.1).1).0 None) ∙ trail-first ground.code ground.plan runs.0 whats;
  can = subst (λ w. can_stand ground.kind w ≡ true) (same_Some first what e) (runs.1).0;
  step = λ last. subst (λ w. sorts_after ground.code ground.plan last w before ≡ Some runs.0) (same_Some first what e) (((runs.1).1).0 last);
})
in-run ground before after (first ∷ whats) runs (suc at) what e =
    subst (λ s. IsInRun ground (before ∷ trail ground.code ground.plan (or_none s) whats) after (suc at) what) (sym (((runs.1).1).0 None))
    (shifted ground before (trail ground.code ground.plan runs.0 whats) after at what (in-run ground runs.0 after whats ((runs.1).1).1 at what e))

-- ---- where a part stands

code-both : (before behind : List Segment) → code_of_all (before ++ behind) ≡ code_of_all before ++ code_of_all behind
code-both [] behind = refl
code-both (segment ∷ before) behind = ap (λ others. code_of segment ++ others) (code-both before behind) ∙ all-three (code_of segment) (code_of_all before) (code_of_all behind)
  where
    all-three : (a b c : List What) → a ++ (b ++ c) ≡ (a ++ b) ++ c
    all-three [] b c = refl
    all-three (x ∷ a) b c = ap (λ others. x ∷ others) (all-three a b c)

trails-both : (code : CodeLists) (before behind : List Segment) → trails code (before ++ behind) ≡ trails code before ++ trails code behind
trails-both code [] behind = refl
trails-both code (segment ∷ before) behind =
    ap (λ others. trail code segment.plan [] segment.whats ++ others) (trails-both code before behind) ∙ all-three (trail code segment.plan [] segment.whats) (trails code before) (trails code behind)
  where
    all-three : (a b c : List Sorts) → a ++ (b ++ c) ≡ (a ++ b) ++ c
    all-three [] b c = refl
    all-three (x ∷ a) b c = ap (λ others. x ∷ others) (all-three a b c)

straight-here : (code : CodeLists) (before : List Segment) (here : Segment) (behind : List Segment) → AreStraight code (before ++ here ∷ behind) → IsStraight code here
straight-here code [] here behind all = all.0
straight-here code (segment ∷ before) here behind all = straight-here code before here behind all.1

get-first : {A : Type 0} (first second : List A) (at : ℕ) → at < length first → slice_get (first ++ second) at ≡ slice_get first at
get-first [] second at within = absurd (omega (arith, within))
get-first (x ∷ first) second zero within = refl
get-first (x ∷ first) second (suc at) within = get-first first second at (omega (arith, within))

-- Each part has its End.
code-long : (segment : Segment) → 0 < length (code_of segment)
code-long segment = omega (arith, length-append segment.whats (What.End ∷ []))

-- ---- where a part ends

least-behind : (behind : List Segment) (start from end : ℕ) → start < from → end ≡ from + length (code_of_all behind) → least_after start (starts_from from behind) end ≡ from
least-behind [] start from end before e = omega (arith, e)
least-behind (segment ∷ behind) start from end before e =
    cond-true (nat_lt start from) (min from others) others (lt-ltb start from before)
    ∙ ap (λ n. min from n)
    (least-behind behind start (from + length (code_of segment)) end (omega (arith, before))
    (e ∙ ap (λ n. from + n) (length-append (code_of segment) (code_of_all behind)) ∙ omega arith))
    ∙ min-eq_left (omega arith)
  where
    others : ℕ
    others = least_after start (starts_from (from + length (code_of segment)) behind) end

least-here : (before : List Segment) (here : Segment) (behind : List Segment) (at start end : ℕ) → start ≡ at + length (code_of_all before)
    → end ≡ at + length (code_of_all (before ++ here ∷ behind)) → least_after start (starts_from at (before ++ here ∷ behind)) end ≡ start + length (code_of here)
least-here [] here behind at start end e f =
    let same : start ≡ at = e ∙ omega arith in
    cond-false (nat_lt start at) (min at others) others (le-ltb start at (omega (arith, same)))
    ∙ least-behind behind start (at + length (code_of here)) end (omega (arith, same, code-long here))
    (f ∙ ap (λ n. at + n) (length-append (code_of here) (code_of_all behind)) ∙ omega arith)
    ∙ ap (λ n. n + length (code_of here)) (sym same)
  where
    others : ℕ
    others = least_after start (starts_from (at + length (code_of here)) behind) end
least-here (segment ∷ before) here behind at start end e f =
    let first : start ≡ at + length (code_of segment) + length (code_of_all before) = e ∙ ap (λ n. at + n) (length-append (code_of segment) (code_of_all before)) ∙ omega arith in
    let second : end ≡ at + length (code_of segment) + length (code_of_all (before ++ here ∷ behind)) = f ∙ ap (λ n. at + n) (length-append (code_of segment) (code_of_all (before ++ here ∷ behind))) ∙ omega arith in
    cond-false (nat_lt start at) (min at others) others (le-ltb start at (omega (arith, first)))
    ∙ least-here before here behind (at + length (code_of segment)) start end first second
  where
    others : ℕ
    others = least_after start (starts_from (at + length (code_of segment)) (before ++ here ∷ behind)) end

-- ---- an instruction where it stands

quiet : (kind : PartOf) (what : What) → can_stand kind what ≡ true
    → ((ends_part what ≡ false) × (target_of what ≡ None)) × ((contributes what ≡ None) × ((may_change kind (changes what) ≡ true) × (may_stand kind what ≡ true)))
quiet kind what can =
    let a = both-true can in
    let b = both-true a.1 in
    let c = both-true b.1 in
    let d = both-true c.1 in
    let e = both-true d.1 in
    ((not-so (ends_part what) b.0, nothing (target_of what) c.0), (no-one (contributes what) d.0, (e.0, e.1)))
  where
    not-so : (b : Bool) → not b ≡ true → b ≡ false
    not-so true e = absurd (false≢true e)
    not-so false e = refl

    nothing : (found : Option ℕ) → is_none found ≡ true → found ≡ None
    nothing None e = refl
    nothing (Some n) e = absurd (false≢true e)

    no-one : (found : Option (ReduceOp × ℕ)) → is_none found ≡ true → found ≡ None
    no-one None e = refl
    no-one (Some n) e = absurd (false≢true e)

-- An instruction before the End of its part.
stands-inside : (code : CodeLists) (sorts : ℕ → Sorts) (kind : PartOf) (start : ℕ) (plan : Plan) (at line : ℕ) (what : What) (here next : Sorts)
    → sorts at ≡ here → sorts (suc at) ≡ next → can_stand kind what ≡ true → ((last : Option What) → sorts_after code plan last what here ≡ Some next)
    → suc at < end_of code start
    → Stands code sorts (record { kind = kind; start = start; plan = plan }) at (record { line = line; what = what }) next
stands-inside code sorts kind start plan at line what here next now later can step within = record {
  operands = ap (λ s. sorts_after code plan last what s) now ∙ step last;
  place = ((facts.1).1).1;
  changed = ((facts.1).1).0;
  contributed = subst (λ c. MayContribute code kind c) (sym (facts.1).0) tt;
  next = λ goes. (within, later);
  jump = λ target e. absurd (none-some target (sym (facts.0).1 ∙ e));
  no_result = λ target found e there. absurd (none-some target (sym (facts.0).1 ∙ e));
  end = λ e. absurd (false≢true (sym (facts.0).0 ∙ e));
}
  where
    last : Option What
    last = option_map (λ (before : Instr). before.what) (slice_get code.instructions (at - 1))

    facts : ((ends_part what ≡ false) × (target_of what ≡ None)) × ((contributes what ≡ None) × ((may_change kind (changes what) ≡ true) × (may_stand kind what ≡ true)))
    facts = quiet kind what can

stands-last : (code : CodeLists) (sorts : ℕ → Sorts) (kind : PartOf) (start : ℕ) (plan : Plan) (at line : ℕ)
    → sorts at ≡ left_at_end kind → may_stand kind What.End ≡ true
    → Stands code sorts (record { kind = kind; start = start; plan = plan }) at (record { line = line; what = What.End }) (left_at_end kind)
stands-last code sorts kind start plan at line now ends = record {
  operands = ap (λ (s : Sorts). Some s) now;
  place = ends;
  changed = refl;
  contributed = tt;
  next = λ goes. absurd (false≢true goes);
  jump = λ target e. absurd (none-some target e);
  no_result = λ target found e there. absurd (none-some target e);
  end = λ e. refl;
}

-- ---- all instructions of a part

sorts-there : (code : CodeLists) (before : List Segment) (here : Segment) (behind : List Segment) (at : ℕ) (sorts : Sorts)
    → slice_get (trail code here.plan [] here.whats) at ≡ Some sorts → sorts_in code (before ++ here ∷ behind) (length (code_of_all before) + at) ≡ sorts
sorts-there code before here behind at sorts e = ap or_none (
    ap (λ all. slice_get all (length (code_of_all before) + at)) (trails-both code before (here ∷ behind))
    ∙ ap (λ n. slice_get (trails code before ++ trails code (here ∷ behind)) (n + at)) (sym (trails-length code before))
    ∙ get-right (trails code before) (trails code (here ∷ behind)) at
    ∙ get-left (trail code here.plan [] here.whats) (trails code behind) at sorts e)

begins-there : (code : CodeLists) (before : List Segment) (here : Segment) (behind : List Segment) → sorts_in code (before ++ here ∷ behind) (length (code_of_all before)) ≡ []
begins-there code before here behind =
    ap (λ n. sorts_in code (before ++ here ∷ behind) n) (none-on (length (code_of_all before)))
    ∙ sorts-there code before here behind 0 [] (trail-first code here.plan [] here.whats)
  where
    none-on : (a : ℕ) → a ≡ a + 0
    none-on a = omega arith

length-whats : (instrs : List Instr) → length (map (λ (found : Instr). found.what) instrs) ≡ length instrs
length-whats [] = refl
length-whats (first ∷ instrs) = ap suc (length-whats instrs)

whole-length : (code : CodeLists) (segments : List Segment) → IsLaid code segments → length code.instructions ≡ length (code_of_all segments)
whole-length code segments laid = sym (length-whats code.instructions) ∙ ap length laid.instructions

ends-there : (code : CodeLists) (before : List Segment) (here : Segment) (behind : List Segment) → IsLaid code (before ++ here ∷ behind)
    → end_of code (length (code_of_all before)) ≡ length (code_of_all before) + length (code_of here)
ends-there code before here behind laid =
    ap (λ found. least_after (length (code_of_all before)) found (length code.instructions)) laid.starts
    ∙ least-here before here behind 0 (length (code_of_all before)) (length code.instructions) (omega arith) (whole-length code (before ++ here ∷ behind) laid ∙ omega arith)

stands-here : (code : CodeLists) (before : List Segment) (here : Segment) (behind : List Segment) → IsLaid code (before ++ here ∷ behind) → (at : ℕ) (instr : Instr) → at < length (code_of here)
    → slice_get code.instructions (length (code_of_all before) + at) ≡ Some instr
    → (after : Sorts) × Stands code (sorts_in code (before ++ here ∷ behind)) (part_at (length (code_of_all before)) here) (length (code_of_all before) + at) instr after
unfolding IsInRun
stands-here code before here behind laid at instr within e =
    elim (in-run (ground_of code here) [] (left_at_end here.kind) here.whats (straight-here code before here behind laid.straight).runs at instr.what there) [
      | inl is ↦ (
        is.next,
        stands-inside code (sorts_in code (before ++ here ∷ behind)) here.kind start here.plan (start + at) instr.line instr.what is.here is.next
            (sorts-there code before here behind at is.here is.now)
            (ap (λ n. sorts_in code (before ++ here ∷ behind) n) (one-on start at) ∙ sorts-there code before here behind (suc at) is.next is.later) is.can is.step
            (subst (λ n. suc (start + at) < n) (sym (ends-there code before here behind laid)) (omega (arith, long (suc at) is.next is.later))),
      )
      | inr is ↦ (
        left_at_end here.kind,
        subst (λ what. Stands code (sorts_in code (before ++ here ∷ behind)) (part_at start here) (start + at) (record { line = instr.line; what = what }) (left_at_end here.kind))
            (sym is.ends)
            (stands-last code (sorts_in code (before ++ here ∷ behind)) here.kind start here.plan (start + at) instr.line (sorts-there code before here behind at (left_at_end here.kind) is.now)
            (straight-here code before here behind laid.straight).ends),
      )
    ]
  where
    start : ℕ
    start = length (code_of_all before)

    held : List Sorts
    held = trail code here.plan [] here.whats

    one-on : (a b : ℕ) → suc (a + b) ≡ a + suc b
    one-on a b = omega arith

    there : slice_get (code_of here) at ≡ Some instr.what
    there =
        sym (get-first (code_of here) (code_of_all behind) at within)
        ∙ sym (get-right (code_of_all before) (code_of_all (here ∷ behind)) at)
        ∙ ap (λ whats. slice_get whats (start + at)) (sym (laid.instructions ∙ code-both before (here ∷ behind)))
        ∙ slice_get-map (λ (found : Instr). found.what) code.instructions (start + at)
        ∙ ap (option_map (λ (found : Instr). found.what)) e

    long : (i : ℕ) (sorts : Sorts) → slice_get held i ≡ Some sorts → i < length (code_of here)
    long i sorts f = omega (arith, slice_get_within held i sorts f, trail-length code here.plan [] here.whats)

stands-at : (code : CodeLists) (before : List Segment) (here : Segment) (behind : List Segment) → IsLaid code (before ++ here ∷ behind) → (at : ℕ) (instr : Instr)
    → length (code_of_all before) ≤ at → at < end_of code (length (code_of_all before)) → slice_get code.instructions at ≡ Some instr
    → (after : Sorts) × Stands code (sorts_in code (before ++ here ∷ behind)) (part_at (length (code_of_all before)) here) at instr after
stands-at code before here behind laid at instr low high e =
    subst (λ n. (after : Sorts) × Stands code (sorts_in code (before ++ here ∷ behind)) (part_at start here) n instr after) on
    (stands-here code before here behind laid (at - start) instr (omega (arith, low, high, ends-there code before here behind laid)) (ap (λ n. slice_get code.instructions n) on ∙ e))
  where
    start : ℕ
    start = length (code_of_all before)

    on : start + (at - start) ≡ at
    on = omega (arith, low)

-- ---- which part it is

pub record IsPlaced (at : ℕ) (segments : List Segment) (part : Part) : Type 0 where
  pub before : List Segment
  pub here : Segment
  pub behind : List Segment
  pub whole : before ++ here ∷ behind ≡ segments
  pub same : part_at (at + length (code_of_all before)) here ≡ part

placed : (at : ℕ) (segments : List Segment) (number : ℕ) (part : Part) → slice_get (parts_from at segments) number ≡ Some part → IsPlaced at segments part
placed at [] number part e = absurd (none-some part e)
placed at (segment ∷ rest) zero part e =
    record { before = []; here = segment; behind = rest; whole = refl; same = ap (λ n. part_at n segment) (omega arith) ∙ same_Some (part_at at segment) part e }
placed at (segment ∷ rest) (suc number) part e =
    let found = placed (at + length (code_of segment)) rest number part e in
    record {
      before = segment ∷ found.before;
      here = found.here;
      behind = found.behind;
      whole = ap (λ others. segment ∷ others) found.whole;
      same =
          ap (λ n. part_at n found.here) (ap (λ n. at + n) (length-append (code_of segment) (code_of_all found.before)) ∙ omega arith)
          ∙ found.same;
    }

-- ---- where parts begin

starts-later : (at from : ℕ) (segments : List Segment) → at < from → list_any (nat_eq at) (starts_from from segments) ≡ false
starts-later at from [] before = refl
starts-later at from (segment ∷ rest) before =
    or_from (nat_eq at from) (list_any (nat_eq at) (starts_from (from + length (code_of segment)) rest)) (ne_eqb at from (λ e. omega (arith, e, before)))
    (starts-later at (from + length (code_of segment)) rest (omega (arith, before)))

different-starts : (at : ℕ) (segments : List Segment) → are_different (starts_from at segments) ≡ true
different-starts at [] = refl
different-starts at (segment ∷ rest) = both-hold
    (not_from_false (list_any (nat_eq at) (starts_from (at + length (code_of segment)) rest)) (starts-later at (at + length (code_of segment)) rest (omega (arith, code-long segment))))
    (different-starts (at + length (code_of segment)) rest)

inside-starts : (at end : ℕ) (segments : List Segment) → end ≡ at + length (code_of_all segments) → list_all (λ start. nat_lt start end) (starts_from at segments) ≡ true
inside-starts at end [] e = refl
inside-starts at end (segment ∷ rest) e =
    let same : end ≡ at + length (code_of segment) + length (code_of_all rest) = e ∙ ap (λ n. at + n) (length-append (code_of segment) (code_of_all rest)) ∙ omega arith in
    both-hold (lt-ltb at end (omega (arith, same, code-long segment))) (inside-starts (at + length (code_of segment)) end rest same)

-- ---- the code

-- A code of parts that run straight through, whose lists fit, is well formed.
pub straight-code-is-well-formed : (code : CodeLists) (segments : List Segment) → IsLaid code segments → bounds_fit code.shapes code.bounds ≡ true → IsTrue (are_small code)
    → length code.plans ≡ length (starts code) → list_all (construct_fits (length code.shapes)) code.constructs ≡ true → IsWellFormed code
straight-code-is-well-formed code segments laid fit small planned built = record {
  bounds = fit;
  sizes = small;
  plans = planned;
  constructs = built;
  different = ap are_different laid.starts ∙ different-starts 0 segments;
  inside =
      ap (λ found. list_all (λ start. nat_lt start (length code.instructions)) found) laid.starts
      ∙ inside-starts 0 (length code.instructions) segments (whole-length code segments laid ∙ omega arith);
  plan_fits = λ number part e.
      let found = part-found number part e in
      subst (λ (p : Part). PlanFits code p.kind p.plan) found.same
      (straight-here code found.before found.here found.behind (subst (AreStraight code) (sym found.whole) laid.straight)).fits;
  sorts = sorts_in code segments;
  beginning = λ number part e.
      let found = part-found number part e in
      subst (λ (p : Part). sorts_in code segments p.start ≡ []) (same-part found)
      (subst (λ all. sorts_in code all (length (code_of_all found.before)) ≡ []) found.whole (begins-there code found.before found.here found.behind));
  stands = λ number part e at instr low high there.
      let found = part-found number part e in
      subst (λ (p : Part). p.start ≤ at → at < end_of code p.start → (after : Sorts) × Stands code (sorts_in code segments) p at instr after) (same-part found)
      (subst (λ all. length (code_of_all found.before) ≤ at → at < end_of code (length (code_of_all found.before))
      → (after : Sorts) × Stands code (sorts_in code all) (part_at (length (code_of_all found.before)) found.here) at instr after) found.whole
      (λ from to. stands-at code found.before found.here found.behind (subst (IsLaid code) (sym found.whole) laid) at instr from to there)) low high;
}
  where
    part-found : (number : ℕ) (part : Part) → slice_get (parts code) number ≡ Some part → IsPlaced 0 segments part
    part-found number part e = placed 0 segments number part (ap (λ all. slice_get all number) (sym laid.parts) ∙ e)

    same-part : {part : Part} (found : IsPlaced 0 segments part) → part_at (length (code_of_all found.before)) found.here ≡ part
    same-part found = ap (λ n. part_at n found.here) (omega arith) ∙ found.same
