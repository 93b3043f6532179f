-- What the lines from one on break: by that line itself, or by the lines behind it.
use Rattle.std.proofs.Common.{◌≡◌, ℕ, suc, ◌+◌, ◌≤◌, Bool, true, false, not, ◌&&◌, ◌||◌, cond, eqb, List, [], ◌∷◌, ◌++◌, length, refl, sym, ap, ◌∙◌, inl, inr, arith}
use Rattle.std.specs.Prelude.{filter}
use Rattle.std.specs.List.{flat_map, list_any}
use Rattle.std.proofs.lemmas.Bool.{false≢true, or_cases, or_right, and_parts, and_right, eqb-true}
use Rattle.dc_lines.specs.declared.line.Context.{Context}
use Rattle.dc_lines.specs.declared.line.Joint.{Joint}
use Rattle.dc_lines.specs.declared.rule.Rule.{Rule}
use Rattle.dc_lines.specs.Line.{behind, is_comment_line, context_of, is_continued, joint_behind, is_apart, spelled}
use Rattle.dc_lines.specs.Joined.{Placed, Character, Sign, written, ends, character, sign, signs_from, gap, end_of, signs_of, signs, placed_from, placed, statement_lines}
use Rattle.dc_lines.specs.Rules.{is_long, has_foreign, has_open_literal, is_lone, some_line, is_open_behind, is_too_long_at, breaks}
use Rattle.dc_lines.proofs.Pieces.{grow_none, is_too_long_behind}
use Rattle.dc_lines.proofs.Signs.{Lines, Lines-append, late-passed}

-- Behind k lines, where these characters of a statement stand in front: whether a rule is broken on line n.
abbrev pub breaks_from : Rule → ℕ → Joint → List Character → List (List ℕ) → ℕ → Bool
breaks_from Rule.LongLine k joint letters lines n = some_line (λ joint line. is_long line) n (placed_from (suc k) joint lines)
breaks_from Rule.LongStatement k joint letters lines n = is_too_long_behind n letters (signs (placed_from (suc k) joint lines))
breaks_from Rule.ForeignByte k joint letters lines n = some_line has_foreign n (statement_lines (placed_from (suc k) joint lines))
breaks_from Rule.OpenLiteral k joint letters lines n = some_line has_open_literal n (statement_lines (placed_from (suc k) joint lines))
breaks_from Rule.Unfinished k joint letters lines n = is_open_behind joint lines && eqb n (k + length lines)
breaks_from Rule.LoneAmpersand k joint letters lines n = some_line is_lone n (statement_lines (placed_from (suc k) joint lines))

pub breaks-whole : (rule : Rule) (lines : List (List ℕ)) (n : ℕ) → breaks rule lines n ≡ breaks_from rule 0 Joint.Begins [] lines n
breaks-whole Rule.LongLine lines n = refl
breaks-whole Rule.LongStatement lines n = ap (list_any (is_too_long_at n)) (grow_none (signs (placed lines)))
breaks-whole Rule.ForeignByte lines n = refl
breaks-whole Rule.OpenLiteral lines n = refl
breaks-whole Rule.Unfinished lines n = let same : length lines ≡ 0 + length lines = omega arith in ap (λ m. is_open_behind Joint.Begins lines && eqb n m) same
breaks-whole Rule.LoneAmpersand lines n = refl

-- ---- on which lines

any-filter : (test keep : Placed → Bool) (lines : List Placed) → list_any test (filter keep lines) ≡ true → list_any test lines ≡ true
any-filter test keep [] some = some
any-filter test keep (p ∷ lines) some = by_kept (keep p) (any-filter test keep lines) some
  where
    by_kept : (b : Bool) → (list_any test (filter keep lines) ≡ true → list_any test lines ≡ true) → list_any test (cond b (p ∷ filter keep lines) (filter keep lines)) ≡ true → (test p || list_any test lines) ≡ true
    by_kept true more some = elim (or_cases (test p) (list_any test (filter keep lines)) some) [ inl here ↦ rw here refl | inr there ↦ or_right (test p) (list_any test lines) (more there) ]
    by_kept false more some = or_right (test p) (list_any test lines) (more some)

late-line : (test : Joint → List ℕ → Bool) (lines : List (List ℕ)) (number : ℕ) (joint : Joint) (n : ℕ) → some_line test n (placed_from number joint lines) ≡ true → number ≤ n
late-line test [] number joint n some = absurd (false≢true some)
late-line test (line ∷ lines) number joint n some =
    elim (or_cases (eqb number n && test joint line) (some_line test n (placed_from (suc number) (joint_behind joint line) lines)) some) [
      | inl here ↦ let same = eqb-true number n (and_parts (eqb number n) (test joint line) here).0 in omega (arith, same)
      | inr there ↦ let more = late-line test lines (suc number) (joint_behind joint line) n there in omega (arith, more)
    ]

late-statement_line : (test : Joint → List ℕ → Bool) (lines : List (List ℕ)) (number : ℕ) (joint : Joint) (n : ℕ) → some_line test n (statement_lines (placed_from number joint lines)) ≡ true → number ≤ n
late-statement_line test lines number joint n some =
    late-line test lines number joint n (any-filter (λ (p : Placed). eqb p.number n && test p.joint p.bytes) (λ (p : Placed). not (is_comment_line p.bytes)) (placed_from number joint lines) some)

Lines-map : (P Q : ℕ → Type 0) → ((line : ℕ) → P line → Q line) → (list : List Sign) → Lines P list → Lines Q list
Lines-map P Q leads [] all = tt
Lines-map P Q leads (written c ∷ list) all = (leads c.line all.0, Lines-map P Q leads list all.1)
Lines-map P Q leads (ends ∷ list) all = Lines-map P Q leads list all

sign-line : (context : Context) (number c : ℕ) (rest : List Sign) → Lines (λ line. line ≡ number) rest → Lines (λ line. line ≡ number) (sign context number c ∷ rest)
sign-line Context.Outside number c rest all = by_end (eqb c 59)
  where
    by_end : (b : Bool) → Lines (λ line. line ≡ number) (cond b ends (character number (cond (eqb c 9) 32 c)) ∷ rest)
    by_end true = all
    by_end false = (refl, all)
sign-line (Context.Literal mark) number c rest all = (refl, all)

part-lines : (context : Context) (number : ℕ) (part : List ℕ) → Lines (λ line. line ≡ number) (signs_from context number part)
part-lines context number [] = tt
part-lines context number (c ∷ part) = sign-line context number c _ (part-lines (behind context c) number part)

pub line-lines : (p : Placed) → Lines (λ line. line ≡ p.number) (signs_of p)
line-lines p =
    let Here : ℕ → Type 0 = λ line. line ≡ p.number in
    Lines-append Here (gap p ++ signs_from (context_of p.joint) p.number (spelled p.joint p.bytes)) (end_of p)
    (Lines-append Here (gap p) _ (by_gap (is_apart p.joint p.bytes)) (part-lines (context_of p.joint) p.number (spelled p.joint p.bytes)))
    (by_end (is_continued p.joint p.bytes))
  where
    by_gap : (b : Bool) → Lines (λ line. line ≡ p.number) (cond b (character p.number 32 ∷ []) [])
    by_gap true = (refl, tt)
    by_gap false = tt

    by_end : (b : Bool) → Lines (λ line. line ≡ p.number) (cond b [] (ends ∷ []))
    by_end true = tt
    by_end false = tt

-- the signs of a line, which may be a comment line, and of the lines behind it
abbrev pub signs_where : Bool → Placed → List Placed → List Sign
signs_where comment p rest = flat_map signs_of (cond (not comment) (p ∷ statement_lines rest) (statement_lines rest))

late-signs : (lines : List (List ℕ)) (number : ℕ) (joint : Joint) → Lines (λ line. number ≤ line) (signs (placed_from number joint lines))
late-signs [] number joint = tt
late-signs (line ∷ lines) number joint =
    by_comment (is_comment_line line) (Lines-map (λ l. suc number ≤ l) (λ l. number ≤ l) (λ l more. omega arith) (signs (placed_from (suc number) (joint_behind joint line) lines)) (late-signs lines (suc number) (joint_behind joint line)))
  where
    by_comment : (b : Bool) → Lines (λ l. number ≤ l) (signs (placed_from (suc number) (joint_behind joint line) lines))
        → Lines (λ l. number ≤ l) (signs_where b (record { number = number; joint = joint; bytes = line }) (placed_from (suc number) (joint_behind joint line) lines))
    by_comment true rest = rest
    by_comment false rest =
        let p : Placed = record { number = number; joint = joint; bytes = line } in
        Lines-append (λ l. number ≤ l) (signs_of p) (signs (placed_from (suc number) (joint_behind joint line) lines)) (Lines-map (λ l. l ≡ number) (λ l. number ≤ l) (λ l same. omega arith) (signs_of p) (line-lines p)) rest

-- A rule is broken on a later line than those that were read, but for the last rule of a whole text.
abbrev pub IsLate : Rule → ℕ → List (List ℕ) → ℕ → Type 0
IsLate Rule.Unfinished k lines n = n ≡ k + length lines
IsLate rule k lines n = suc k ≤ n

pub late : (rule : Rule) (k : ℕ) (joint : Joint) (letters : List Character) (lines : List (List ℕ)) (n : ℕ) → length letters ≤ 1000000 → breaks_from rule k joint letters lines n ≡ true → IsLate rule k lines n
late Rule.LongLine k joint letters lines n short broken = late-line (λ joint line. is_long line) lines (suc k) joint n broken
late Rule.LongStatement k joint letters lines n short broken = late-passed (signs (placed_from (suc k) joint lines)) letters (suc k) n short (late-signs lines (suc k) joint) broken
late Rule.ForeignByte k joint letters lines n short broken = late-statement_line has_foreign lines (suc k) joint n broken
late Rule.OpenLiteral k joint letters lines n short broken = late-statement_line has_open_literal lines (suc k) joint n broken
late Rule.Unfinished k joint letters lines n short broken = eqb-true n (k + length lines) (and_parts (is_open_behind joint lines) (eqb n (k + length lines)) broken).1
late Rule.LoneAmpersand k joint letters lines n short broken = late-statement_line is_lone lines (suc k) joint n broken

-- ---- what a line breaks itself

abbrev pub own : Rule → Joint → List ℕ → Bool
own Rule.LongLine joint line = is_long line
own Rule.LongStatement joint line = false
own Rule.ForeignByte joint line = not (is_comment_line line) && has_foreign joint line
own Rule.OpenLiteral joint line = not (is_comment_line line) && has_open_literal joint line
own Rule.Unfinished joint line = false
own Rule.LoneAmpersand joint line = not (is_comment_line line) && is_lone joint line

first-line : (test : Joint → List ℕ → Bool) (k : ℕ) (joint : Joint) (line : List ℕ) (rest : List Placed) (n : ℕ)
    → some_line test n (statement_lines (record { number = suc k; joint = joint; bytes = line } ∷ rest)) ≡ ((eqb (suc k) n && (not (is_comment_line line) && test joint line)) || some_line test n (statement_lines rest))
first-line test k joint line rest n = by_comment (is_comment_line line)
  where
    by_comment : (b : Bool) → some_line test n (cond (not b) (record { number = suc k; joint = joint; bytes = line } ∷ statement_lines rest) (statement_lines rest))
        ≡ ((eqb (suc k) n && (not b && test joint line)) || some_line test n (statement_lines rest))
    by_comment true = sym (ap (λ b. b || some_line test n (statement_lines rest)) (and_right (eqb (suc k) n) false refl))
    by_comment false = refl

-- The line passed no limit: what is held behind it goes on as what stood in front of it did.
pub record Kept (k : ℕ) (joint : Joint) (letters held : List Character) (line : List ℕ) (lines : List (List ℕ)) : Type 0 where
  pub short : length held ≤ 1000000
  pub passed : (n : ℕ) → is_too_long_behind n letters (signs (placed_from (suc k) joint (line ∷ lines))) ≡ is_too_long_behind n held (signs (placed_from (suc (suc k)) (joint_behind joint line) lines))

pub first : (rule : Rule) (k : ℕ) (joint : Joint) (letters held : List Character) (line : List ℕ) (lines : List (List ℕ)) (n : ℕ) → Kept k joint letters held line lines
    → breaks_from rule k joint letters (line ∷ lines) n ≡ ((eqb (suc k) n && own rule joint line) || breaks_from rule (suc k) (joint_behind joint line) held lines n)
first Rule.LongLine k joint letters held line lines n kept = refl
first Rule.LongStatement k joint letters held line lines n kept =
    kept.passed n ∙ sym (ap (λ b. b || is_too_long_behind n held (signs (placed_from (suc (suc k)) (joint_behind joint line) lines))) (and_right (eqb (suc k) n) false refl))
first Rule.ForeignByte k joint letters held line lines n kept = first-line has_foreign k joint line (placed_from (suc (suc k)) (joint_behind joint line) lines) n
first Rule.OpenLiteral k joint letters held line lines n kept = first-line has_open_literal k joint line (placed_from (suc (suc k)) (joint_behind joint line) lines) n
first Rule.Unfinished k joint letters held line lines n kept =
    let count : k + length (line ∷ lines) ≡ suc k + length lines = omega arith in
    ap (λ m. is_open_behind (joint_behind joint line) lines && eqb n m) count
    ∙ sym (ap (λ b. b || (is_open_behind (joint_behind joint line) lines && eqb n (suc k + length lines))) (and_right (eqb (suc k) n) false refl))
first Rule.LoneAmpersand k joint letters held line lines n kept = first-line is_lone k joint line (placed_from (suc (suc k)) (joint_behind joint line) lines) n
