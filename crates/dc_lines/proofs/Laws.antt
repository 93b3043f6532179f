-- What the reader finds is what the definitions say.
use Rattle.std.proofs.Common.{◌≡◌, ℕ, suc, ◌+◌, ◌<◌, ◌≤◌, Bool, true, false, not, ◌&&◌, ◌||◌, cond, eqb, List, [], ◌∷◌, ◌++◌, length, Option, Some, None, Result, Ok, Err, refl, sym, ap, subst, ◌∙◌, inl, inr, arith, append-nil}
use Rattle.std.specs.Prelude.{is_some, option_map}
use Rattle.std.specs.List.{filter_map, list_all}
use Rattle.std.specs.Option.{option_map_or}
use Rattle.std.proofs.lemmas.Bool.{false≢true, or_cases, or_left, and_parts, and_from, and_right, and_left, not_from_true, eq-eqb}
use Rattle.std.proofs.lemmas.Option.{none-some, same_Some}
use Rattle.dc_tree.specs.declared.fail.Fail.{Fail}
use Rattle.dc_tree.specs.declared.fail.Refusal.{Refusal}
use Rattle.dc_tree.specs.declared.logical_lines.Logical.{Logical}
use Rattle.dc_lines.specs.declared.draft.Draft.{Draft}
use Rattle.dc_lines.specs.declared.line.Joint.{Joint}
use Rattle.dc_lines.specs.declared.rule.Rule.{Rule}
use Rattle.dc_lines.specs.Line.{is_blank, past_blanks, is_comment_line, in_front, past_ampersand, behind_first, context_of, without_comment, is_continued, context_behind, joint_behind, spelled}
use Rattle.dc_lines.specs.Joined.{Character, Sign, ends, signs_from, gap, signs, placed_from, placed, statement}
use Rattle.dc_lines.specs.Rules.{is_long, has_foreign, has_open_literal, is_lone, is_open, number_of}
use Rattle.dc_tree.specs.Findings.{IsFirst}
use Rattle.dc_lines.specs.Answer.{broken_in, Answers}
use Rattle.dc_lines.specs.TextLines.{lines_of}
use Rattle.dc_lines.specs.Reading.{Reading, stands, stops, put_signs, place, refusal_of, refused, step_on, signs_at, is_none_left, read, start, ended, outcome, Told}
use Rattle.dc_lines.proofs.Steps.{put_more, put_signs-append, read-refused}
use Rattle.dc_lines.proofs.Pieces.{grow_none, is_too_long_behind}
use Rattle.dc_lines.proofs.Signs.{Holds, holds_none, spelled_behind, advance, late-passed, passed-none}
use Rattle.dc_lines.proofs.Breaks.{breaks_from, breaks-whole, line-lines, signs_where, IsLate, late, own, Kept, first}

-- ---- what the rest of a text gives

-- The first rule that is broken from a place on.
record IsFirstFrom (k : ℕ) (joint : Joint) (letters : List Character) (lines : List (List ℕ)) (refusal : Refusal) : Type 0 where
  rule : Rule
  rule_is : refusal.rule ≡ number_of rule
  breaks : breaks_from rule k joint letters lines refusal.line ≡ true
  no_earlier : (other : Rule) (line : ℕ) → line < refusal.line → breaks_from other k joint letters lines line ≡ true → ⊥
  no_lesser : (other : Rule) → number_of other < refusal.rule → breaks_from other k joint letters lines refusal.line ≡ true → ⊥

abbrev IsFine : ℕ → Joint → List Character → List (List ℕ) → Type 0
IsFine k joint letters lines = (rule : Rule) (n : ℕ) → breaks_from rule k joint letters lines n ≡ true → ⊥

abbrev Gives : ℕ → Joint → List Character → Draft → List (List ℕ) → Result (List Logical) Refusal → Type 0
Gives k joint letters draft lines (Ok statements) = IsFine k joint letters lines × (statements ≡ spelled_behind draft letters (signs (placed_from (suc k) joint lines)))
Gives k joint letters draft lines (Err refusal) = IsFirstFrom k joint letters lines refusal

-- Where no statement is open, the draft is empty.
abbrev IsReady : Joint → Draft → Type 0
IsReady Joint.Begins draft = draft.text ≡ []
IsReady (Joint.Continues context) draft = Unit {0}

-- ---- at the end of the text

no_letters : (letters : List Character) (draft : Draft) → Holds letters draft → draft.text ≡ [] → letters ≡ []
no_letters [] draft holds empty = refl
no_letters (c ∷ letters) draft holds empty = absurd (none-cons _ _ (sym empty ∙ holds.text_is))
  where
    none-cons : (b : ℕ) (bytes : List ℕ) → [] ≡ b ∷ bytes → ⊥
    none-cons b bytes is = cc

-- at the end only an open statement breaks a rule
end-broken : (rule : Rule) (k : ℕ) (joint : Joint) (letters : List Character) (n : ℕ) → length letters ≤ 1000000 → breaks_from rule k joint letters [] n ≡ true → (rule ≡ Rule.Unfinished) × (n ≡ k)
end-broken Rule.LongLine k joint letters n short broken = absurd (false≢true broken)
end-broken Rule.LongStatement k joint letters n short broken =
    let past : suc n ≤ n = late-passed [] letters (suc n) n short tt broken in
    absurd (omega (arith, past))
end-broken Rule.ForeignByte k joint letters n short broken = absurd (false≢true broken)
end-broken Rule.OpenLiteral k joint letters n short broken = absurd (false≢true broken)
end-broken Rule.Unfinished k joint letters n short broken = let at : n ≡ k + 0 = late Rule.Unfinished k joint letters [] n short broken in (refl, omega (arith, at))
end-broken Rule.LoneAmpersand k joint letters n short broken = absurd (false≢true broken)

at_end : (k : ℕ) (joint : Joint) (letters : List Character) (draft : Draft) → Holds letters draft → IsReady joint draft → Gives k joint letters draft [] (ended joint k draft.statements)
at_end k Joint.Begins letters draft holds ready = (fine, spelled_so)
  where
    fine : IsFine k Joint.Begins letters []
    fine rule n broken =
        let at = end-broken rule k Joint.Begins letters n holds.short broken in
        absurd (false≢true (ap (λ (r : Rule). breaks_from r k Joint.Begins letters [] n) (sym at.0) ∙ broken))

    spelled_so : draft.statements ≡ spelled_behind draft letters []
    spelled_so = sym (ap (λ (ls : List Character). spelled_behind draft ls []) (no_letters letters draft holds ready) ∙ append-nil draft.statements)
at_end k (Joint.Continues context) letters draft holds ready =
    let same : k ≡ k + 0 = omega arith in
    record {
      rule = Rule.Unfinished;
      rule_is = refl;
      breaks = eq-eqb k (k + 0) same;
      no_earlier = λ other line less broken. let at = (end-broken other k (Joint.Continues context) letters line holds.short broken).1 in absurd (omega (arith, at, less));
      no_lesser = λ other less broken. let is = (end-broken other k (Joint.Continues context) letters k holds.short broken).0 in absurd (let six : number_of other ≡ 6 = ap number_of is in omega (arith, six, less));
    }

-- ---- at a line

-- A rule that is broken on the first line, and no lesser one there.
first-refused : (rule : Rule) (k : ℕ) (joint : Joint) (letters : List Character) (line : List ℕ) (lines : List (List ℕ)) → length letters ≤ 1000000 → breaks_from rule k joint letters (line ∷ lines) (suc k) ≡ true
    → ((other : Rule) → number_of other < number_of rule → breaks_from other k joint letters (line ∷ lines) (suc k) ≡ true → ⊥) → IsFirstFrom k joint letters (line ∷ lines) (refusal_of rule (suc k))
first-refused rule k joint letters line lines short broken none = record {
  rule = rule;
  rule_is = refl;
  breaks = broken;
  no_earlier = λ other n less is. past other n less (late other k joint letters (line ∷ lines) n short is);
  no_lesser = none;
}
  where
    past : (other : Rule) (n : ℕ) → n < suc k → IsLate other k (line ∷ lines) n → ⊥
    past Rule.Unfinished n less at = let at : n ≡ k + length (line ∷ lines) = at in absurd (omega (arith, at, less))
    past other n less at = absurd (omega (arith, at, less))

-- The last rule is broken behind a line only where that was the last.
abbrev Past : Rule → List (List ℕ) → Type 0
Past Rule.Unfinished lines = 0 < length lines
Past rule lines = Unit {0}

not_late : (other : Rule) (k : ℕ) (lines : List (List ℕ)) → Past other lines → IsLate other (suc k) lines (suc k) → ⊥
not_late Rule.Unfinished k lines some at = let at : suc k ≡ suc k + length lines = at in absurd (omega (arith, at, some))
not_late other k lines some at = absurd (omega (arith, at))

-- a rule that the line doesn't break itself isn't broken on it
not_here : (other : Rule) (k : ℕ) (joint : Joint) (letters held : List Character) (line : List ℕ) (lines : List (List ℕ)) → Kept k joint letters held line lines → own other joint line ≡ false → Past other lines
    → breaks_from other k joint letters (line ∷ lines) (suc k) ≡ true → ⊥
not_here other k joint letters held line lines kept clean past broken =
    elim (or_cases (eqb (suc k) (suc k) && own other joint line) (breaks_from other (suc k) (joint_behind joint line) held lines (suc k)) (sym (first other k joint letters held line lines (suc k) kept) ∙ broken)) [
      | inl here ↦ false≢true (sym clean ∙ (and_parts (eqb (suc k) (suc k)) (own other joint line) here).1)
      | inr there ↦ not_late other k lines past (late other (suc k) (joint_behind joint line) held lines (suc k) kept.short there)
    ]

own-refused : (rule : Rule) (k : ℕ) (joint : Joint) (letters held : List Character) (line : List ℕ) (lines : List (List ℕ)) → length letters ≤ 1000000 → Kept k joint letters held line lines → own rule joint line ≡ true
    → ((other : Rule) → number_of other < number_of rule → (own other joint line ≡ false) × Past other lines) → IsFirstFrom k joint letters (line ∷ lines) (refusal_of rule (suc k))
own-refused rule k joint letters held line lines short kept broken lesser =
    first-refused rule k joint letters line lines short
    (first rule k joint letters held line lines (suc k) kept ∙ or_left (eqb (suc k) (suc k) && own rule joint line) _ (and_from (eqb (suc k) (suc k)) (own rule joint line) (eq-eqb (suc k) (suc k) refl) broken))
    (λ other less. let facts = lesser other less in not_here other k joint letters held line lines kept facts.0 facts.1)

same-behind : (rule : Rule) (k : ℕ) (joint : Joint) (letters held : List Character) (line : List ℕ) (lines : List (List ℕ)) (n : ℕ) → Kept k joint letters held line lines → own rule joint line ≡ false
    → breaks_from rule k joint letters (line ∷ lines) n ≡ breaks_from rule (suc k) (joint_behind joint line) held lines n
same-behind rule k joint letters held line lines n kept clean =
    first rule k joint letters held line lines n kept
    ∙ ap (λ b. b || breaks_from rule (suc k) (joint_behind joint line) held lines n) (and_right (eqb (suc k) n) (own rule joint line) clean)

-- a line that breaks nothing itself
gone_on : (k : ℕ) (joint : Joint) (letters held : List Character) (draft next : Draft) (line : List ℕ) (lines : List (List ℕ)) → Kept k joint letters held line lines → ((rule : Rule) → own rule joint line ≡ false)
    → spelled_behind draft letters (signs (placed_from (suc k) joint (line ∷ lines))) ≡ spelled_behind next held (signs (placed_from (suc (suc k)) (joint_behind joint line) lines))
    → (result : Result (List Logical) Refusal) → Gives (suc k) (joint_behind joint line) held next lines result → Gives k joint letters draft (line ∷ lines) result
gone_on k joint letters held draft next line lines kept clean same (Ok statements) gives = (λ rule n broken. gives.0 rule n (behind_it rule n broken), gives.1 ∙ sym same)
  where
    behind_it : (rule : Rule) (n : ℕ) → breaks_from rule k joint letters (line ∷ lines) n ≡ true → breaks_from rule (suc k) (joint_behind joint line) held lines n ≡ true
    behind_it rule n broken = sym (same-behind rule k joint letters held line lines n kept (clean rule)) ∙ broken
gone_on k joint letters held draft next line lines kept clean same (Err refusal) gives = record {
  rule = gives.rule;
  rule_is = gives.rule_is;
  breaks = same-behind gives.rule k joint letters held line lines refusal.line kept (clean gives.rule) ∙ gives.breaks;
  no_earlier = λ other n less broken. gives.no_earlier other n less (sym (same-behind other k joint letters held line lines n kept (clean other)) ∙ broken);
  no_lesser = λ other less broken. gives.no_lesser other less (sym (same-behind other k joint letters held line lines refusal.line kept (clean other)) ∙ broken);
}

-- ---- a line with a part of a statement

-- A line where `&` is the only character counts as continued.
lone-continued : (line : List ℕ) → option_map_or (list_all is_blank) (behind_first line) false ≡ true → is_some (in_front line) ≡ true
lone-continued [] lone = absurd (false≢true lone)
lone-continued (c ∷ line) lone = by_blank (is_blank c) (lone-continued line) lone
  where
    more : is_some (in_front line) ≡ true → (b : Bool) → is_some (cond b (Some []) (option_map (λ front. c ∷ front) (in_front line))) ≡ true
    more is true = refl
    more is false = by_front (in_front line) is
      where
        by_front : (o : Option (List ℕ)) → is_some o ≡ true → is_some (option_map (λ front. c ∷ front) o) ≡ true
        by_front None is = is
        by_front (Some front) is = refl

    by_ampersand : (b : Bool) → option_map_or (list_all is_blank) (cond b (Some line) None) false ≡ true → is_some (cond (b && list_all is_blank line) (Some []) (option_map (λ front. c ∷ front) (in_front line))) ≡ true
    by_ampersand true lone = ap (λ b. is_some (cond b (Some []) (option_map (λ front. c ∷ front) (in_front line)))) lone
    by_ampersand false lone = absurd (false≢true lone)

    by_blank : (b : Bool) → (option_map_or (list_all is_blank) (behind_first line) false ≡ true → is_some (in_front line) ≡ true)
        → option_map_or (list_all is_blank) (past_ampersand (cond b (past_blanks line) (c ∷ line))) false ≡ true
        → is_some (in_front (c ∷ line)) ≡ true
    by_blank true on lone = more (on lone) (eqb c 38 && list_all is_blank line)
    by_blank false on lone = by_ampersand (eqb c 38) lone

signs_plain : (k : ℕ) (joint : Joint) (line : List ℕ) (lines : List (List ℕ)) → is_comment_line line ≡ false
    → signs (placed_from (suc k) joint (line ∷ lines)) ≡ signs_at (suc k) joint line ++ signs (placed_from (suc (suc k)) (joint_behind joint line) lines)
signs_plain k joint line lines plain =
    ap (λ b. signs_where b (record { number = suc k; joint = joint; bytes = line }) (placed_from (suc (suc k)) (joint_behind joint line) lines)) plain

own-plain : (test : Bool) (line : List ℕ) → is_comment_line line ≡ false → (not (is_comment_line line) && test) ≡ test
own-plain test line plain = ap (λ b. not b && test) plain

-- behind a line that isn't continued the draft is empty
ready-ended : (draft next : Draft) (list : List Sign) → put_signs draft (list ++ ends ∷ []) ≡ Some next → next.text ≡ []
ready-ended draft next list is = by_put (put_signs draft list) (sym (put_signs-append draft list (ends ∷ [])) ∙ is)
  where
    by_put : (o : Option Draft) → put_more (ends ∷ []) o ≡ Some next → next.text ≡ []
    by_put None is = absurd (none-some _ is)
    by_put (Some d) is = ap (λ (d : Draft). d.text) (sym (same_Some _ _ is))

ready-behind : (k : ℕ) (joint : Joint) (draft next : Draft) (line : List ℕ) → is_comment_line line ≡ false → put_signs draft (signs_at (suc k) joint line) ≡ Some next → IsReady (joint_behind joint line) next
ready-behind k joint draft next line plain is =
    subst (λ b. IsReady (cond b joint (cond (is_continued joint line) (Joint.Continues (context_behind joint line)) Joint.Begins)) next) (sym plain) (by_continued (is_continued joint line) is)
  where
    part : List Sign
    part = gap (record { number = suc k; joint = joint; bytes = line }) ++ signs_from (context_of joint) (suc k) (spelled joint line)

    by_continued : (b : Bool) → put_signs draft (part ++ cond b [] (ends ∷ [])) ≡ Some next → IsReady (cond b (Joint.Continues (context_behind joint line)) Joint.Begins) next
    by_continued true is = tt
    by_continued false is = ready-ended draft next part is

-- What is told behind the line, where the rest gives what it gives.
abbrev IsGiven : ℕ → Joint → List (List ℕ) → Type 0
IsGiven k joint lines =
    (held : List Character) (next : Draft) → Holds held next → IsReady joint next → Gives k joint held next lines (outcome (read (stands (place k joint next)) lines))

abbrev given_refused : ℕ → Joint → List Character → Draft → List (List ℕ) → List (List ℕ) → Refusal → Type 0
given_refused k joint letters draft all lines refusal = Gives k joint letters draft all (outcome (read (stops refusal) lines))

tell : (k : ℕ) (joint : Joint) (letters : List Character) (draft : Draft) (all lines : List (List ℕ)) (refusal : Refusal) → IsFirstFrom k joint letters all refusal → given_refused k joint letters draft all lines refusal
tell k joint letters draft all lines refusal is = subst (λ (r : Reading). Gives k joint letters draft all (outcome r)) (sym (read-refused refusal lines)) is

-- A line that isn't too long, whose part of a statement was added.
record Taken (k : ℕ) (joint : Joint) (letters held : List Character) (draft next : Draft) (line : List ℕ) (lines : List (List ℕ)) : Type 0 where
  short : length letters ≤ 1000000
  not_long : is_long line ≡ false
  plain : is_comment_line line ≡ false
  kept : Kept k joint letters held line lines
  holds : Holds held next
  ready : IsReady (joint_behind joint line) next
  spelled_same : spelled_behind draft letters (signs (placed_from (suc k) joint (line ∷ lines))) ≡ spelled_behind next held (signs (placed_from (suc (suc k)) (joint_behind joint line) lines))

taken : (k : ℕ) (joint : Joint) (letters : List Character) (draft next : Draft) (line : List ℕ) (lines : List (List ℕ)) → Holds letters draft → is_long line ≡ false → is_comment_line line ≡ false
    → put_signs draft (signs_at (suc k) joint line) ≡ Some next → (held : List Character) × Taken k joint letters held draft next line lines
taken k joint letters draft next line lines holds not_long plain is =
    let advanced = advance (signs_at (suc k) joint line) letters draft next holds is in
    let rest = signs (placed_from (suc (suc k)) (joint_behind joint line) lines) in (
      advanced.held,
      record {
        short = holds.short;
        not_long = not_long;
        plain = plain;
        kept = record {
          short = advanced.holds.short;
          passed = λ n. ap (is_too_long_behind n letters) (signs_plain k joint line lines plain) ∙ advanced.passed n rest;
        };
        holds = advanced.holds;
        ready = ready-behind k joint draft next line plain is;
        spelled_same = ap (spelled_behind draft letters) (signs_plain k joint line lines plain) ∙ advanced.spelled rest;
      },
    )

foreign-refused : (k : ℕ) (joint : Joint) (letters held : List Character) (draft next : Draft) (line : List ℕ) (lines : List (List ℕ)) → Taken k joint letters held draft next line lines → has_foreign joint line ≡ true
    → IsFirstFrom k joint letters (line ∷ lines) (refusal_of Rule.ForeignByte (suc k))
foreign-refused k joint letters held draft next line lines t broken =
    own-refused Rule.ForeignByte k joint letters held line lines t.short t.kept (own-plain (has_foreign joint line) line t.plain ∙ broken) lesser
  where
    lesser : (other : Rule) → number_of other < 4 → (own other joint line ≡ false) × Past other lines
    lesser Rule.LongLine less = (t.not_long, tt)
    lesser Rule.LongStatement less = (refl, tt)
    lesser other less = absurd (omega arith)

literal-refused : (k : ℕ) (joint : Joint) (letters held : List Character) (draft next : Draft) (line : List ℕ) (lines : List (List ℕ)) → Taken k joint letters held draft next line lines → has_foreign joint line ≡ false → has_open_literal joint line ≡ true
    → IsFirstFrom k joint letters (line ∷ lines) (refusal_of Rule.OpenLiteral (suc k))
literal-refused k joint letters held draft next line lines t no_foreign broken =
    own-refused Rule.OpenLiteral k joint letters held line lines t.short t.kept (own-plain (has_open_literal joint line) line t.plain ∙ broken) lesser
  where
    lesser : (other : Rule) → number_of other < 5 → (own other joint line ≡ false) × Past other lines
    lesser Rule.LongLine less = (t.not_long, tt)
    lesser Rule.LongStatement less = (refl, tt)
    lesser Rule.ForeignByte less = (own-plain (has_foreign joint line) line t.plain ∙ no_foreign, tt)
    lesser other less = absurd (omega arith)

lone-refused : (k : ℕ) (joint : Joint) (letters held : List Character) (draft next : Draft) (line : List ℕ) (lines : List (List ℕ)) → Taken k joint letters held draft next line lines → has_foreign joint line ≡ false → has_open_literal joint line ≡ false → is_lone joint line ≡ true → 0 < length lines
    → IsFirstFrom k joint letters (line ∷ lines) (refusal_of Rule.LoneAmpersand (suc k))
lone-refused k joint letters held draft next line lines t no_foreign no_literal broken some =
    own-refused Rule.LoneAmpersand k joint letters held line lines t.short t.kept (own-plain (is_lone joint line) line t.plain ∙ broken) lesser
  where
    lesser : (other : Rule) → number_of other < 7 → (own other joint line ≡ false) × Past other lines
    lesser Rule.LongLine less = (t.not_long, tt)
    lesser Rule.LongStatement less = (refl, tt)
    lesser Rule.ForeignByte less = (own-plain (has_foreign joint line) line t.plain ∙ no_foreign, tt)
    lesser Rule.OpenLiteral less = (own-plain (has_open_literal joint line) line t.plain ∙ no_literal, tt)
    lesser Rule.Unfinished less = (refl, some)
    lesser Rule.LoneAmpersand less = absurd (omega arith)

-- A lone `&` on the last line is told as an unfinished statement.
joint-lone : (joint : Joint) (line : List ℕ) → is_comment_line line ≡ false → is_lone joint line ≡ true → joint_behind joint line ≡ Joint.Continues (context_behind joint line)
joint-lone joint line plain lone =
    ap (λ b. cond b joint (cond (is_continued joint line) (Joint.Continues (context_behind joint line)) Joint.Begins)) plain
    ∙ ap (λ b. cond b (Joint.Continues (context_behind joint line)) Joint.Begins) (lone-continued (without_comment joint line) lone)

last-refused : (k : ℕ) (joint : Joint) (letters held : List Character) (draft next : Draft) (line : List ℕ) → Taken k joint letters held draft next line [] → has_foreign joint line ≡ false → has_open_literal joint line ≡ false → is_lone joint line ≡ true
    → IsFirstFrom k joint letters (line ∷ []) (refusal_of Rule.Unfinished (suc k))
last-refused k joint letters held draft next line t no_foreign no_literal lone =
    first-refused Rule.Unfinished k joint letters line [] t.short broken
    (λ other less. let facts = lesser other less in not_here other k joint letters held line [] t.kept facts.0 facts.1)
  where
    broken : breaks_from Rule.Unfinished k joint letters (line ∷ []) (suc k) ≡ true
    broken =
        let count : suc k ≡ k + length (line ∷ []) = omega arith in
        ap (λ (j : Joint). is_open j && eqb (suc k) (k + length (line ∷ []))) (joint-lone joint line t.plain lone) ∙ eq-eqb (suc k) (k + length (line ∷ [])) count

    lesser : (other : Rule) → number_of other < 6 → (own other joint line ≡ false) × Past other []
    lesser Rule.LongLine less = (t.not_long, tt)
    lesser Rule.LongStatement less = (refl, tt)
    lesser Rule.ForeignByte less = (own-plain (has_foreign joint line) line t.plain ∙ no_foreign, tt)
    lesser Rule.OpenLiteral less = (own-plain (has_open_literal joint line) line t.plain ∙ no_literal, tt)
    lesser other less = absurd (omega arith)

-- a line that breaks nothing
gone_on-clean : (k : ℕ) (joint : Joint) (letters held : List Character) (draft next : Draft) (line : List ℕ) (lines : List (List ℕ)) → Taken k joint letters held draft next line lines → has_foreign joint line ≡ false → has_open_literal joint line ≡ false → is_lone joint line ≡ false
    → IsGiven (suc k) (joint_behind joint line) lines → Gives k joint letters draft (line ∷ lines) (outcome (read (stands (place (suc k) (joint_behind joint line) next)) lines))
gone_on-clean k joint letters held draft next line lines t no_foreign no_literal no_lone given =
    gone_on k joint letters held draft next line lines t.kept clean t.spelled_same _ (given held next t.holds t.ready)
  where
    clean : (rule : Rule) → own rule joint line ≡ false
    clean Rule.LongLine = t.not_long
    clean Rule.LongStatement = refl
    clean Rule.ForeignByte = own-plain (has_foreign joint line) line t.plain ∙ no_foreign
    clean Rule.OpenLiteral = own-plain (has_open_literal joint line) line t.plain ∙ no_literal
    clean Rule.Unfinished = refl
    clean Rule.LoneAmpersand = own-plain (is_lone joint line) line t.plain ∙ no_lone

-- where `&` may be the only character
on_lone : (k : ℕ) (joint : Joint) (letters held : List Character) (draft next : Draft) (line : List ℕ) (lines : List (List ℕ)) → Taken k joint letters held draft next line lines → has_foreign joint line ≡ false → has_open_literal joint line ≡ false
    → IsGiven (suc k) (joint_behind joint line) lines → (b : Bool) → is_lone joint line ≡ b
    → Gives k joint letters draft (line ∷ lines) (outcome (read (cond (b && not (is_none_left lines)) (refused Rule.LoneAmpersand (suc k)) (stands (place (suc k) (joint_behind joint line) next))) lines))
on_lone k joint letters held draft next line lines t no_foreign no_literal given false lone =
    gone_on-clean k joint letters held draft next line lines t no_foreign no_literal lone given
on_lone k joint letters held draft next line [] t no_foreign no_literal given true lone =
    subst (λ (j : Joint). Gives k joint letters draft (line ∷ []) (ended j (suc k) next.statements)) (sym (joint-lone joint line t.plain lone))
    (last-refused k joint letters held draft next line t no_foreign no_literal lone)
on_lone k joint letters held draft next line (second ∷ lines) t no_foreign no_literal given true lone =
    tell k joint letters draft (line ∷ second ∷ lines) (second ∷ lines) (refusal_of Rule.LoneAmpersand (suc k))
    (lone-refused k joint letters held draft next line (second ∷ lines) t no_foreign no_literal lone (omega arith))

on_taken : (k : ℕ) (joint : Joint) (letters held : List Character) (draft next : Draft) (line : List ℕ) (lines : List (List ℕ)) → Taken k joint letters held draft next line lines → IsGiven (suc k) (joint_behind joint line) lines
    → Gives k joint letters draft (line ∷ lines) (outcome (read (step_on (is_none_left lines) (suc k) joint line (Some next)) lines))
on_taken k joint letters held draft next line lines t given = by_foreign (has_foreign joint line) refl
  where
    lone : Reading
    lone = cond (is_lone joint line && not (is_none_left lines)) (refused Rule.LoneAmpersand (suc k)) (stands (place (suc k) (joint_behind joint line) next))

    by_literal : has_foreign joint line ≡ false → (b : Bool) → has_open_literal joint line ≡ b → Gives k joint letters draft (line ∷ lines) (outcome (read (cond b (refused Rule.OpenLiteral (suc k)) lone) lines))
    by_literal no_foreign true broken =
        tell k joint letters draft (line ∷ lines) lines (refusal_of Rule.OpenLiteral (suc k)) (literal-refused k joint letters held draft next line lines t no_foreign broken)
    by_literal no_foreign false no_literal = on_lone k joint letters held draft next line lines t no_foreign no_literal given (is_lone joint line) refl

    by_foreign : (b : Bool) → has_foreign joint line ≡ b
        → Gives k joint letters draft (line ∷ lines) (outcome (read (cond b (refused Rule.ForeignByte (suc k)) (cond (has_open_literal joint line) (refused Rule.OpenLiteral (suc k)) lone)) lines))
    by_foreign true broken = tell k joint letters draft (line ∷ lines) lines (refusal_of Rule.ForeignByte (suc k)) (foreign-refused k joint letters held draft next line lines t broken)
    by_foreign false no_foreign = by_literal no_foreign (has_open_literal joint line) refl

-- a statement that gets too long
statement-refused : (k : ℕ) (joint : Joint) (letters : List Character) (draft : Draft) (line : List ℕ) (lines : List (List ℕ)) → Holds letters draft → is_long line ≡ false → is_comment_line line ≡ false → put_signs draft (signs_at (suc k) joint line) ≡ None
    → IsFirstFrom k joint letters (line ∷ lines) (refusal_of Rule.LongStatement (suc k))
statement-refused k joint letters draft line lines holds not_long plain none =
    first-refused Rule.LongStatement k joint letters line lines holds.short broken lesser
  where
    broken : breaks_from Rule.LongStatement k joint letters (line ∷ lines) (suc k) ≡ true
    broken =
        ap (is_too_long_behind (suc k) letters) (signs_plain k joint line lines plain)
        ∙ passed-none (signs_at (suc k) joint line) letters draft (suc k) (signs (placed_from (suc (suc k)) (joint_behind joint line) lines)) holds (line-lines (record { number = suc k; joint = joint; bytes = line })) none

    lesser : (other : Rule) → number_of other < 3 → breaks_from other k joint letters (line ∷ lines) (suc k) ≡ true → ⊥
    lesser Rule.LongLine less long =
        elim (or_cases (eqb (suc k) (suc k) && is_long line) (breaks_from Rule.LongLine (suc k) (joint_behind joint line) letters lines (suc k)) long) [
          | inl here ↦ false≢true (sym not_long ∙ (and_parts (eqb (suc k) (suc k)) (is_long line) here).1)
          | inr there ↦ not_late Rule.LongLine k lines tt (late Rule.LongLine (suc k) (joint_behind joint line) letters lines (suc k) holds.short there)
        ]
    lesser other less long = absurd (omega arith)

on_statement : (k : ℕ) (joint : Joint) (letters : List Character) (draft : Draft) (line : List ℕ) (lines : List (List ℕ)) → Holds letters draft → is_long line ≡ false → is_comment_line line ≡ false
    → IsGiven (suc k) (joint_behind joint line) lines → (o : Option Draft) → put_signs draft (signs_at (suc k) joint line) ≡ o
    → Gives k joint letters draft (line ∷ lines) (outcome (read (step_on (is_none_left lines) (suc k) joint line o) lines))
on_statement k joint letters draft line lines holds not_long plain given None is =
    tell k joint letters draft (line ∷ lines) lines (refusal_of Rule.LongStatement (suc k)) (statement-refused k joint letters draft line lines holds not_long plain is)
on_statement k joint letters draft line lines holds not_long plain given (Some next) is =
    let t = taken k joint letters draft next line lines holds not_long plain is in
    on_taken k joint letters t.0 draft next line lines t.1 given

-- a comment line
on_comment : (k : ℕ) (joint : Joint) (letters : List Character) (draft : Draft) (line : List ℕ) (lines : List (List ℕ)) → Holds letters draft → IsReady joint draft → is_long line ≡ false → is_comment_line line ≡ true
    → IsGiven (suc k) (joint_behind joint line) lines → Gives k joint letters draft (line ∷ lines) (outcome (read (stands (place (suc k) joint draft)) lines))
on_comment k joint letters draft line lines holds ready not_long comment given =
    let goes : joint_behind joint line ≡ joint = ap (λ b. cond b joint (cond (is_continued joint line) (Joint.Continues (context_behind joint line)) Joint.Begins)) comment in
    let same = ap (λ b. signs_where b (record { number = suc k; joint = joint; bytes = line }) (placed_from (suc (suc k)) (joint_behind joint line) lines)) comment in
    let kept : Kept k joint letters letters line lines = record { short = holds.short; passed = λ n. ap (is_too_long_behind n letters) same } in
    gone_on k joint letters letters draft draft line lines kept clean (ap (spelled_behind draft letters) same) _
    (subst (λ (j : Joint). Gives (suc k) (joint_behind joint line) letters draft lines (outcome (read (stands (place (suc k) j draft)) lines))) goes
    (given letters draft holds (subst (λ (j : Joint). IsReady j draft) (sym goes) ready)))
  where
    clean : (rule : Rule) → own rule joint line ≡ false
    clean Rule.LongLine = not_long
    clean Rule.LongStatement = refl
    clean Rule.ForeignByte = and_left (not (is_comment_line line)) (has_foreign joint line) (not_from_true _ comment)
    clean Rule.OpenLiteral = and_left (not (is_comment_line line)) (has_open_literal joint line) (not_from_true _ comment)
    clean Rule.Unfinished = refl
    clean Rule.LoneAmpersand = and_left (not (is_comment_line line)) (is_lone joint line) (not_from_true _ comment)

-- a line that is too long
line-refused : (k : ℕ) (joint : Joint) (letters : List Character) (line : List ℕ) (lines : List (List ℕ)) → length letters ≤ 1000000 → is_long line ≡ true → IsFirstFrom k joint letters (line ∷ lines) (refusal_of Rule.LongLine (suc k))
line-refused k joint letters line lines short long =
    first-refused Rule.LongLine k joint letters line lines short (or_left (eqb (suc k) (suc k) && is_long line) _ (and_from (eqb (suc k) (suc k)) (is_long line) (eq-eqb (suc k) (suc k) refl) long)) lesser
  where
    lesser : (other : Rule) → number_of other < 2 → breaks_from other k joint letters (line ∷ lines) (suc k) ≡ true → ⊥
    lesser Rule.LongLine less broken = absurd (omega arith)
    lesser other less broken = absurd (omega arith)

-- the step with the line's own number
abbrev step_at : ℕ → Bool → Joint → Draft → List ℕ → Reading
step_at number is_last joint draft line =
    cond (is_long line) (refused Rule.LongLine number)
    (cond (is_comment_line line) (stands (place number joint draft)) (step_on is_last number joint line (put_signs draft (signs_at number joint line))))

on_line : (k : ℕ) (joint : Joint) (letters : List Character) (draft : Draft) (line : List ℕ) (lines : List (List ℕ)) → Holds letters draft → IsReady joint draft
    → IsGiven (suc k) (joint_behind joint line) lines → Gives k joint letters draft (line ∷ lines) (outcome (read (step_at (suc k) (is_none_left lines) joint draft line) lines))
on_line k joint letters draft line lines holds ready given = by_long (is_long line) refl
  where
    on : Reading
    on = step_on (is_none_left lines) (suc k) joint line (put_signs draft (signs_at (suc k) joint line))

    by_comment : is_long line ≡ false → (b : Bool) → is_comment_line line ≡ b → Gives k joint letters draft (line ∷ lines) (outcome (read (cond b (stands (place (suc k) joint draft)) on) lines))
    by_comment not_long true comment = on_comment k joint letters draft line lines holds ready not_long comment given
    by_comment not_long false plain = on_statement k joint letters draft line lines holds not_long plain given (put_signs draft (signs_at (suc k) joint line)) refl

    by_long : (b : Bool) → is_long line ≡ b
        → Gives k joint letters draft (line ∷ lines) (outcome (read (cond b (refused Rule.LongLine (suc k)) (cond (is_comment_line line) (stands (place (suc k) joint draft)) on)) lines))
    by_long true long = tell k joint letters draft (line ∷ lines) lines (refusal_of Rule.LongLine (suc k)) (line-refused k joint letters line lines holds.short long)
    by_long false not_long = by_comment not_long (is_comment_line line) refl

-- ---- the law

law : (lines : List (List ℕ)) (k : ℕ) (joint : Joint) → IsGiven k joint lines
law [] k joint letters draft holds ready = at_end k joint letters draft holds ready
law (line ∷ lines) k joint letters draft holds ready =
    let count : suc k ≡ k + 1 = omega arith in
    subst (λ number. Gives k joint letters draft (line ∷ lines) (outcome (read (step_at number (is_none_left lines) joint draft line) lines))) count
    (on_line k joint letters draft line lines holds ready (law lines (suc k) (joint_behind joint line)))

abbrev Found : Type 0
Found = Result (List Logical) Refusal

same_list : (list statements : List Logical) → ◌≡◌ {A = Found} (Ok statements) (Ok list) → list ≡ statements
same_list list statements is = cc

same_refusal : (found refusal : Refusal) → ◌≡◌ {A = Found} (Err found) (Err refusal) → found ≡ refusal
same_refusal found refusal is = cc

answer : (text : List ℕ) (found : Result (List Logical) Refusal) (result : Result (List Logical) Fail) → Gives 0 Joint.Begins [] (record { statements = []; text = []; line = None }) (lines_of text) found → Told result found → Answers text result
answer text (Ok statements) (Ok list) gives told = record {
  none_broken = λ rule n broken. gives.0 rule n (sym (breaks-whole rule (lines_of text) n) ∙ broken);
  statements_are = same_list list statements told ∙ gives.1 ∙ ap (filter_map statement) (sym (grow_none (signs (placed (lines_of text)))));
}
answer text (Err refusal) (Ok list) gives told = cc
answer text (Ok statements) (Err (Fail.Refused refusal)) gives told = cc
answer text (Err found) (Err (Fail.Refused refusal)) gives told = subst (IsFirst (broken_in (lines_of text))) (same_refusal found refusal told) (record {
  broken = (gives.rule, gives.rule_is, breaks-whole gives.rule (lines_of text) found.line ∙ gives.breaks);
  no_earlier = λ number line less other. gives.no_earlier other.0 line less (sym (breaks-whole other.0 (lines_of text) line) ∙ other.2);
  no_lesser = λ number less other. gives.no_lesser other.0 (subst (λ n. n < found.rule) other.1 less) (sym (breaks-whole other.0 (lines_of text) found.line) ∙ other.2);
})
answer text found (Err Fail.NoMemory) gives told = tt

-- What is told of what was read answers the text.
pub read-answers : (text : List ℕ) (result : Result (List Logical) Fail) → Told result (outcome (read start (lines_of text))) → Answers text result
read-answers text result told = answer text (outcome (read start (lines_of text))) result (law (lines_of text) 0 Joint.Begins [] _ (holds_none []) refl) told
