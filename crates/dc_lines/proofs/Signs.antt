-- What becomes of a draft to which signs are put.
use Rattle.std.proofs.Common.{◌≡◌, ℕ, ◌+◌, ◌<◌, ◌≤◌, Bool, true, false, ◌||◌, cond, eqb, ltb, List, [], ◌∷◌, ◌++◌, length, Option, Some, None, refl, sym, ap, subst, ◌∙◌, inl, inr, arith, append_assoc, append-nil, length-append}
use Rattle.std.specs.List.{filter_map, list_any}
use Rattle.std.proofs.lemmas.Bool.{false≢true, or_cases, or_left, eq-eqb, eqb-true, ltb-true, ltb-false}
use Rattle.std.proofs.lemmas.Option.{none-some, same_Some}
use Rattle.dc_tree.specs.declared.logical_lines.Logical.{Logical}
use Rattle.dc_lines.specs.declared.draft.Draft.{Draft}
use Rattle.dc_lines.specs.Joined.{Character, Sign, written, ends, pieces, first_line, bytes_of, statement}
use Rattle.dc_lines.specs.Rules.{is_too_long_at}
use Rattle.dc_lines.specs.Reading.{told, begun, closed, put_signs}
use Rattle.dc_lines.proofs.Pieces.{pieces_behind, grow_none, pieces-written, pieces-ends, length-bytes_of, bytes_of-append, first_line-append, statement-told, within, is_too_long_behind, too_long-written, too_long-ends, others, full-first, others-passed}

-- The draft holds these characters of the next statement.
pub record Holds (letters : List Character) (draft : Draft) : Type 0 where
  pub text_is : draft.text ≡ bytes_of letters
  pub line_is : draft.line ≡ first_line letters
  pub short : length letters ≤ 1000000

pub holds_none : (statements : List Logical) → Holds [] (record { statements = statements; text = []; line = None })
holds_none statements = record { text_is = refl; line_is = refl; short = omega arith }

-- the draft with one more character
abbrev added : Draft → Character → Draft
added draft c = record { statements = draft.statements; text = draft.text ++ c.byte ∷ []; line = begun draft.line c.line c.byte }

same_length : (letters : List Character) (draft : Draft) → Holds letters draft → length draft.text ≡ length letters
same_length letters draft holds = ap length holds.text_is ∙ length-bytes_of letters

one_longer : (letters : List Character) (c : Character) → length (letters ++ c ∷ []) ≡ length letters + 1
one_longer letters c = length-append letters (c ∷ [])

holds-added : (letters : List Character) (draft : Draft) (c : Character) → Holds letters draft → length draft.text < 1000000 → Holds (letters ++ c ∷ []) (added draft c)
holds-added letters draft c holds room =
    let long = same_length letters draft holds in
    let longer = one_longer letters c in
    record {
      text_is = ap (λ (text : List ℕ). text ++ c.byte ∷ []) holds.text_is ∙ bytes_of-append letters c;
      line_is = ap (λ o. begun o c.line c.byte) holds.line_is ∙ first_line-append letters c;
      short = omega (arith, long, longer, room);
    }

-- the statements that a draft and what follows it spell
abbrev pub spelled_behind : Draft → List Character → List Sign → List Logical
spelled_behind draft letters signs = draft.statements ++ filter_map statement (pieces_behind letters signs)

-- The draft took the signs, and holds what is left of them.
pub record Advanced (letters : List Character) (draft next : Draft) (signs : List Sign) : Type 0 where
  pub held : List Character
  pub holds : Holds held next
  pub spelled : (more : List Sign) → spelled_behind draft letters (signs ++ more) ≡ spelled_behind next held more
  pub passed : (n : ℕ) (more : List Sign) → is_too_long_behind n letters (signs ++ more) ≡ is_too_long_behind n held more

advanced-written : (letters : List Character) (draft next : Draft) (c : Character) (signs : List Sign) → Advanced (letters ++ c ∷ []) (added draft c) next signs → Advanced letters draft next (written c ∷ signs)
advanced-written letters draft next c signs a = record {
  held = a.held;
  holds = a.holds;
  spelled = λ more. ap (λ (ps : List (List Character)). draft.statements ++ filter_map statement ps) (pieces-written letters c (signs ++ more)) ∙ a.spelled more;
  passed = λ n more. too_long-written n letters c (signs ++ more) ∙ a.passed n more;
}

closed-spelled : (letters : List Character) (draft : Draft) (signs : List Sign) → Holds letters draft → spelled_behind draft letters (ends ∷ signs) ≡ spelled_behind (closed draft) [] signs
closed-spelled letters draft signs holds =
    let rest : List Logical = filter_map statement (pieces_behind [] signs) in
    ap (λ (ps : List (List Character)). draft.statements ++ filter_map statement ps) (pieces-ends letters signs)
    ∙ ap (λ (ls : List Logical). draft.statements ++ ls) (statement-told letters (pieces_behind [] signs))
    ∙ ap (λ o. draft.statements ++ (told o (bytes_of letters) ++ rest)) (sym holds.line_is)
    ∙ ap (λ bytes. draft.statements ++ (told draft.line bytes ++ rest)) (sym holds.text_is)
    ∙ sym (append_assoc draft.statements (told draft.line draft.text) rest)

advanced-ends : (letters : List Character) (draft next : Draft) (signs : List Sign) → Holds letters draft → Advanced [] (closed draft) next signs → Advanced letters draft next (ends ∷ signs)
advanced-ends letters draft next signs holds a = record {
  held = a.held;
  holds = a.holds;
  spelled = λ more. closed-spelled letters draft (signs ++ more) holds ∙ a.spelled more;
  passed = λ n more. too_long-ends n letters (signs ++ more) holds.short ∙ a.passed n more;
}

abbrev put_rest : List Sign → Option Draft → Option Draft
put_rest signs None = None
put_rest signs (Some next) = put_signs next signs

pub advance : (signs : List Sign) (letters : List Character) (draft next : Draft) → Holds letters draft → put_signs draft signs ≡ Some next → Advanced letters draft next signs
advance [] letters draft next holds is = record {
  held = letters;
  holds = subst (Holds letters) (same_Some _ _ is) holds;
  spelled = λ more. ap (λ (d : Draft). spelled_behind d letters more) (same_Some _ _ is);
  passed = λ n more. refl;
}
advance (ends ∷ signs) letters draft next holds is =
    advanced-ends letters draft next signs holds (advance signs [] (closed draft) next (holds_none _) is)
advance (written c ∷ signs) letters draft next holds is =
    by_room (ltb (length draft.text) 1000000) refl (λ h. advance signs (letters ++ c ∷ []) (added draft c) next h) is
  where
    by_room : (b : Bool) → ltb (length draft.text) 1000000 ≡ b → (Holds (letters ++ c ∷ []) (added draft c) → put_signs (added draft c) signs ≡ Some next → Advanced (letters ++ c ∷ []) (added draft c) next signs)
        → put_rest signs (cond b (Some (added draft c)) None) ≡ Some next → Advanced letters draft next (written c ∷ signs)
    by_room true room on is = advanced-written letters draft next c signs (on (holds-added letters draft c holds (ltb-true _ _ room)) is)
    by_room false room on is = absurd (none-some _ is)

-- ---- where a statement is too long

-- P holds of the line of each character
abbrev pub Lines : (ℕ → Type 0) → List Sign → Type 0
Lines P [] = Unit {0}
Lines P (written c ∷ signs) = P c.line × Lines P signs
Lines P (ends ∷ signs) = Lines P signs

pub Lines-append : (P : ℕ → Type 0) (signs more : List Sign) → Lines P signs → Lines P more → Lines P (signs ++ more)
Lines-append P [] more first second = second
Lines-append P (written c ∷ signs) more first second = (first.0, Lines-append P signs more first.1 second)
Lines-append P (ends ∷ signs) more first second = Lines-append P signs more first second

-- It is so on no line in front of those of its characters.
pub late-passed : (signs : List Sign) (letters : List Character) (k n : ℕ) → length letters ≤ 1000000 → Lines (λ line. k ≤ line) signs → is_too_long_behind n letters signs ≡ true → k ≤ n
late-passed [] letters k n short from passed =
    let none : is_too_long_behind n letters [] ≡ false = ap (λ b. b || false) (ap (is_too_long_at n) (append-nil letters) ∙ within letters n short) in
    absurd (false≢true (sym none ∙ passed))
late-passed (ends ∷ signs) letters k n short from passed =
    late-passed signs [] k n (omega arith) from (sym (too_long-ends n letters signs short) ∙ passed)
late-passed (written c ∷ signs) letters k n short from passed =
    by_room (ltb (length letters) 1000000) refl (λ h p. late-passed signs (letters ++ c ∷ []) k n h from.1 p) (late-passed signs [] k n (omega arith) from.1)
  where
    by_room : (b : Bool) → ltb (length letters) 1000000 ≡ b → (length (letters ++ c ∷ []) ≤ 1000000 → is_too_long_behind n (letters ++ c ∷ []) signs ≡ true → k ≤ n) → (is_too_long_behind n [] signs ≡ true → k ≤ n) → k ≤ n
    by_room true room on later =
        let longer = one_longer letters c in
        let less = ltb-true (length letters) 1000000 room in
        on (omega (arith, longer, less)) (sym (too_long-written n letters c signs) ∙ passed)
    by_room false room on later =
        let more = ltb-false (length letters) 1000000 room in
        let full : length letters ≡ 1000000 = omega (arith, more, short) in
        elim (or_cases (eqb c.line n) (list_any (is_too_long_at n) (others (pieces signs))) (sym (full-first n letters c (pieces signs) full) ∙ passed)) [
          | inl here ↦ subst (λ line. k ≤ line) (eqb-true c.line n here) from.0
          | inr there ↦ later (ap (list_any (is_too_long_at n)) (sym (grow_none signs)) ∙ others-passed n (pieces signs) there)
        ]

-- It is so on the line of its characters where they couldn't be put.
pub passed-none : (signs : List Sign) (letters : List Character) (draft : Draft) (n : ℕ) (more : List Sign) → Holds letters draft → Lines (λ line. line ≡ n) signs → put_signs draft signs ≡ None
    → is_too_long_behind n letters (signs ++ more) ≡ true
passed-none [] letters draft n more holds here none = absurd (none-some _ (sym none))
passed-none (ends ∷ signs) letters draft n more holds here none =
    too_long-ends n letters (signs ++ more) holds.short ∙ passed-none signs [] (closed draft) n more (holds_none _) here none
passed-none (written c ∷ signs) letters draft n more holds here none =
    by_room (ltb (length draft.text) 1000000) refl (λ h p. passed-none signs (letters ++ c ∷ []) (added draft c) n more h here.1 p) none
  where
    by_room : (b : Bool) → ltb (length draft.text) 1000000 ≡ b → (Holds (letters ++ c ∷ []) (added draft c) → put_signs (added draft c) signs ≡ None → is_too_long_behind n (letters ++ c ∷ []) (signs ++ more) ≡ true)
        → put_rest signs (cond b (Some (added draft c)) None) ≡ None → is_too_long_behind n letters (written c ∷ (signs ++ more)) ≡ true
    by_room true room on none = too_long-written n letters c (signs ++ more) ∙ on (holds-added letters draft c holds (ltb-true _ _ room)) none
    by_room false room on none =
        let long = same_length letters draft holds in
        let past = ltb-false (length draft.text) 1000000 room in
        let short = holds.short in
        let full : length letters ≡ 1000000 = omega (arith, long, past, short) in
        full-first n letters c (pieces (signs ++ more)) full ∙ or_left (eqb c.line n) _ (eq-eqb c.line n here.0)
