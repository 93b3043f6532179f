-- What the steps of the reader give.
use Rattle.std.proofs.Common.{◌≡◌, ℕ, ◌+◌, Bool, true, false, cond, ◌&&◌, not, List, [], ◌∷◌, ◌++◌, Option, Some, None, Result, Ok, Err, refl, sym, ap, subst, ◌∙◌}
use Rattle.std.specs.Prelude.{option_and_then, IsErrAnd}
use Rattle.dc_tree.specs.declared.fail.Fail.{Fail}
use Rattle.dc_tree.specs.declared.fail.Refusal.{Refusal}
use Rattle.dc_tree.specs.declared.logical_lines.Logical.{Logical}
use Rattle.dc_lines.specs.declared.draft.Stop.{Stop}
use Rattle.dc_lines.specs.declared.draft.Draft.{Draft}
use Rattle.dc_lines.specs.declared.line.Context.{Context}
use Rattle.dc_lines.specs.declared.line.Joint.{Joint}
use Rattle.dc_lines.specs.declared.reading.Place.{Place}
use Rattle.dc_lines.specs.declared.rule.Rule.{Rule}
use Rattle.dc_lines.specs.Line.{is_comment_line, context_of, is_continued, joint_behind, is_apart, spelled}
use Rattle.dc_lines.specs.Joined.{Sign, character, ends, signs_from, gap}
use Rattle.dc_lines.specs.Rules.{is_long, has_foreign, has_open_literal, is_lone}
use Rattle.dc_lines.specs.Reading.{Reading, stands, stops, put_sign, put_signs, put_gap, closed, write, place, refusal_of, refused, step_on, signs_at, step, read, Puts, Steps, Told}

-- ---- the characters of a line, part by part

abbrev pub put_more : List Sign → Option Draft → Option Draft
put_more signs o = option_and_then (λ draft. put_signs draft signs) o

pub put_signs-append : (draft : Draft) (signs more : List Sign) → put_signs draft (signs ++ more) ≡ put_more more (put_signs draft signs)
put_signs-append draft [] more = refl
put_signs-append draft (sign ∷ rest) more = by_first (λ next. put_signs-append next rest more) (put_sign draft sign)
  where
    by_first : ((next : Draft) → put_signs next (rest ++ more) ≡ put_more more (put_signs next rest)) → (o : Option Draft)
        → option_and_then (λ next. put_signs next (rest ++ more)) o ≡ put_more more (option_and_then (λ next. put_signs next rest) o)
    by_first on None = refl
    by_first on (Some next) = on next

put_gap-is : (draft : Draft) (number : ℕ) (joint : Joint) (line : List ℕ) → put_signs draft (gap (record { number = number; joint = joint; bytes = line })) ≡ put_gap draft number (is_apart joint line)
put_gap-is draft number joint line = by_gap (is_apart joint line)
  where
    only : (o : Option Draft) → put_more [] o ≡ o
    only None = refl
    only (Some next) = refl

    by_gap : (b : Bool) → put_signs draft (cond b (character number 32 ∷ []) []) ≡ put_gap draft number b
    by_gap true = only (write draft number 32)
    by_gap false = refl

-- The gap is put, then the characters, and then the end.
pub put_line-is : (draft : Draft) (number : ℕ) (joint : Joint) (line : List ℕ) → put_signs draft (signs_at number joint line)
    ≡ put_more (cond (is_continued joint line) [] (ends ∷ [])) (put_more (signs_from (context_of joint) number (spelled joint line)) (put_gap draft number (is_apart joint line)))
put_line-is draft number joint line =
    let here = gap (record { number = number; joint = joint; bytes = line }) in
    let part = signs_from (context_of joint) number (spelled joint line) in
    let end = cond (is_continued joint line) [] (ends ∷ []) in
    put_signs-append draft (here ++ part) end
    ∙ ap (put_more end) (put_signs-append draft here part)
    ∙ ap (λ o. put_more end (put_more part o)) (put_gap-is draft number joint line)

-- The gap was put, and then the part.
abbrev pub Put : Draft → ℕ → Joint → List ℕ → Option Draft → Type 0
Put draft number joint line o = o ≡ put_more (signs_from (context_of joint) number (spelled joint line)) (put_gap draft number (is_apart joint line))

pub put-part : (draft apart : Draft) (number : ℕ) (joint : Joint) (line : List ℕ) (is_gap : Bool) (context : Context) (part : List ℕ) (o : Option Draft) → Some apart ≡ put_gap draft number is_gap
    → o ≡ put_signs apart (signs_from context number part) → is_gap ≡ is_apart joint line → context ≡ context_of joint → part ≡ spelled joint line → Put draft number joint line o
put-part draft apart number joint line is_gap context part o apart_is is gap_is context_is part_is =
    is
    ∙ ap (put_more (signs_from context number part)) (apart_is ∙ ap (put_gap draft number) gap_is)
    ∙ ap (λ (bytes : List ℕ). put_more (signs_from context number bytes) (put_gap draft number (is_apart joint line))) part_is
    ∙ ap (λ (x : Context). put_more (signs_from x number (spelled joint line)) (put_gap draft number (is_apart joint line))) context_is

pub put_line-none : (draft : Draft) (number : ℕ) (joint : Joint) (line : List ℕ) → Put draft number joint line None → None ≡ put_signs draft (signs_at number joint line)
put_line-none draft number joint line put =
    let end = cond (is_continued joint line) [] (ends ∷ []) in
    ap (put_more end) put ∙ sym (put_line-is draft number joint line)

pub put_line-ended : (draft next : Draft) (number : ℕ) (joint : Joint) (line : List ℕ) → Put draft number joint line (Some next) → is_continued joint line ≡ false → Some (closed next) ≡ put_signs draft (signs_at number joint line)
put_line-ended draft next number joint line put ended =
    let end = cond (is_continued joint line) [] (ends ∷ []) in
    ap (λ b. put_more (cond b [] (ends ∷ [])) (Some next)) (sym ended) ∙ ap (put_more end) put ∙ sym (put_line-is draft number joint line)

-- Where a character of the part wasn't put, the line wasn't.
pub put-stopped : (draft apart last : Draft) (number : ℕ) (joint : Joint) (line : List ℕ) (is_gap : Bool) (context : Context) (part : List ℕ) (result : Result (Unit {0}) Stop) (stop : Stop)
    → IsErrAnd result (λ x. x ≡ stop) → put_gap draft number is_gap ≡ Some apart → Puts (put_signs apart (signs_from context number part)) last (Err stop)
    → is_gap ≡ is_apart joint line → context ≡ context_of joint → part ≡ spelled joint line → Puts (put_signs draft (signs_at number joint line)) last result
put-stopped draft apart last number joint line is_gap context part (Ok done) stop errs gap_is put is_gap_is context_is part_is = absurd errs
put-stopped draft apart last number joint line is_gap context part (Err other) stop errs gap_is put is_gap_is context_is part_is =
    subst (λ (s : Stop). Puts (put_signs draft (signs_at number joint line)) last (Err s)) (sym errs) (by_stop stop put)
  where
    by_stop : (s : Stop) → Puts (put_signs apart (signs_from context number part)) last (Err s) → Puts (put_signs draft (signs_at number joint line)) last (Err s)
    by_stop Stop.TooLong none =
        sym (put_line-none draft number joint line (put-part draft apart number joint line is_gap context part None (sym gap_is) (sym none) is_gap_is context_is part_is))
    by_stop Stop.NoMemory none = tt

-- What a step refuses is told.
pub told-stopped : (result : Result (List Logical) Fail) (fail : Fail) (reading : Reading) (next : Place) (found : Result (List Logical) Refusal)
    → IsErrAnd result (λ x. x ≡ fail) → Steps reading next (Err fail) → ((refusal : Refusal) → reading ≡ stops refusal → found ≡ Err refusal) → Told result found
told-stopped (Ok statements) fail reading next found errs steps tells = absurd errs
told-stopped (Err other) fail reading next found errs steps tells = subst (λ (f : Fail). Told (Err f) found) (sym errs) (by_fail fail steps)
  where
    by_fail : (f : Fail) → Steps reading next (Err f) → Told (Err f) found
    by_fail (Fail.Refused refusal) stopped = tells refusal stopped
    by_fail Fail.NoMemory stopped = tt

-- ---- the number of lines

cond_at : (b : Bool) (refusal : Refusal) (other : Reading) (p : Place) → cond b (stops refusal) other ≡ stands p → other ≡ stands p
cond_at true refusal other p is = cc
cond_at false refusal other p is = is

lines-at : (q p : Place) → stands q ≡ stands p → p.lines ≡ q.lines
lines-at q p is = cc

step_on-lines : (is_last : Bool) (number : ℕ) (joint : Joint) (line : List ℕ) (o : Option Draft) (p : Place) → step_on is_last number joint line o ≡ stands p → p.lines ≡ number
step_on-lines is_last number joint line None p is = cc
step_on-lines is_last number joint line (Some draft) p is =
    let at : Place = place number (joint_behind joint line) draft in
    let lone : Reading = cond (is_lone joint line && not is_last) (refused Rule.LoneAmpersand number) (stands at) in
    let literal : Reading = cond (has_open_literal joint line) (refused Rule.OpenLiteral number) lone in
    let behind = cond_at (has_foreign joint line) (refusal_of Rule.ForeignByte number) literal p is in
    let further = cond_at (has_open_literal joint line) (refusal_of Rule.OpenLiteral number) lone p behind in
    lines-at at p (cond_at (is_lone joint line && not is_last) (refusal_of Rule.LoneAmpersand number) (stands at) p further)

-- a line that isn't too long
abbrev pub behind_long : Bool → Bool → Place → List ℕ → Reading
behind_long comment is_last q line =
    cond comment (stands (place (q.lines + 1) q.joint q.draft)) (step_on is_last (q.lines + 1) q.joint line (put_signs q.draft (signs_at (q.lines + 1) q.joint line)))

pub step-lines : (is_last : Bool) (q p : Place) (line : List ℕ) → step is_last q line ≡ stands p → p.lines ≡ q.lines + 1
step-lines is_last q p line is = by_comment (is_comment_line line) (cond_at (is_long line) (refusal_of Rule.LongLine (q.lines + 1)) (behind_long (is_comment_line line) is_last q line) p is)
  where
    by_comment : (b : Bool) → behind_long b is_last q line ≡ stands p → p.lines ≡ q.lines + 1
    by_comment true is = lines-at (place (q.lines + 1) q.joint q.draft) p is
    by_comment false is = step_on-lines is_last (q.lines + 1) q.joint line (put_signs q.draft (signs_at (q.lines + 1) q.joint line)) p is

pub read-refused : (refusal : Refusal) (lines : List (List ℕ)) → read (stops refusal) lines ≡ stops refusal
read-refused refusal [] = refl
read-refused refusal (line ∷ lines) = refl
