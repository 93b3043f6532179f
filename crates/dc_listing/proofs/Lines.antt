-- A line tells its words.
use Rattle.std.proofs.Common.{◌≡◌, ℕ, Bool, true, false, not, List, [], ◌∷◌, ◌++◌, flat_map, refl, sym, ap, ◌∙◌, append_assoc, arith}
use Rattle.std.proofs.lemmas.Bool.{and_parts}
use Rattle.dc_listing.specs.Words.{Word, field, fields, line}
use Rattle.dc_listing.proofs.Plain.{is_mark, is_plain, are_plain, opens}

-- What stands behind a word: a blank or a line feed.
abbrev pub is_gap : ℕ → Bool
is_gap byte = not (is_mark byte)

-- no byte is both
never : {A : Type 0} (b : Bool) → b ≡ true → not b ≡ true → A
never true holds fails = absurd (cc)
never false holds fails = absurd (cc)

-- A word and what is behind it.
pub word-tells
    : (word other : Word) (r s : List ℕ) → is_plain word ≡ true → is_plain other ≡ true → opens is_gap r ≡ true → opens is_gap s ≡ true
    → word ++ r ≡ other ++ s → (word ≡ other) × (r ≡ s)
word-tells [] [] r s plain also gap end same = (refl, same)
word-tells [] (byte ∷ other) r s plain also gap end same =
    never (is_mark byte) (and_parts (is_mark byte) (is_plain other) also).0 (ap (opens is_gap) (sym same) ∙ gap)
word-tells (byte ∷ word) [] r s plain also gap end same =
    never (is_mark byte) (and_parts (is_mark byte) (is_plain word) plain).0 (ap (opens is_gap) same ∙ end)
word-tells (byte ∷ word) (next ∷ other) r s plain also gap end same =
    let first : byte ≡ next = cc in
    let left : word ++ r ≡ other ++ s = cc in
    let rest = word-tells word other r s (and_parts (is_mark byte) (is_plain word) plain).1 (and_parts (is_mark next) (is_plain other) also).1 gap end left in
    ((λ i. first i ∷ rest.0 i), rest.1)

-- ---- words with blanks in front

fields-more : (word : Word) (words : List Word) (r : List ℕ) → fields (word ∷ words) ++ r ≡ 32 ∷ (word ++ (fields words ++ r))
unfolding fields
fields-more word words r = ap (λ left. 32 ∷ left) (append_assoc word (flat_map field words) r)

fields-none : (r : List ℕ) → fields [] ++ r ≡ r
unfolding fields
fields-none r = refl

-- behind the words, or at the next of them, stands a gap
pub fields-open : (words : List Word) (r : List ℕ) → opens is_gap r ≡ true → opens is_gap (fields words ++ r) ≡ true
fields-open [] r gap = ap (opens is_gap) (fields-none r) ∙ gap
fields-open (word ∷ words) r gap = ap (opens is_gap) (fields-more word words r)

field-tells
    : (word other : Word) (words others : List Word) (r s : List ℕ) → is_plain word ≡ true → is_plain other ≡ true
    → opens is_gap r ≡ true → opens is_gap s ≡ true → fields (word ∷ words) ++ r ≡ fields (other ∷ others) ++ s
    → (word ≡ other) × (fields words ++ r ≡ fields others ++ s)
field-tells word other words others r s plain also gap end same =
    let whole : 32 ∷ (word ++ (fields words ++ r)) ≡ 32 ∷ (other ++ (fields others ++ s)) = sym (fields-more word words r) ∙ same ∙ fields-more other others s in
    let left : word ++ (fields words ++ r) ≡ other ++ (fields others ++ s) = cc in
    word-tells word other (fields words ++ r) (fields others ++ s) plain also (fields-open words r gap) (fields-open others s end) left

-- Plain words up to the line feed.
pub fields-tell
    : (words others : List Word) (r s : List ℕ) → are_plain words ≡ true → are_plain others ≡ true
    → fields words ++ 10 ∷ r ≡ fields others ++ 10 ∷ s → (words ≡ others) × (r ≡ s)
fields-tell [] [] r s plain also same =
    let left : 10 ∷ r ≡ 10 ∷ s = sym (fields-none (10 ∷ r)) ∙ same ∙ fields-none (10 ∷ s) in
    (refl, cc)
fields-tell [] (other ∷ others) r s plain also same =
    absurd (let left : 10 ∷ r ≡ 32 ∷ (other ++ (fields others ++ 10 ∷ s)) = sym (fields-none (10 ∷ r)) ∙ same ∙ fields-more other others (10 ∷ s) in
    let one : ◌≡◌ {A = ℕ} 10 32 = cc in omega (arith, one))
fields-tell (word ∷ words) [] r s plain also same =
    absurd (let left : 32 ∷ (word ++ (fields words ++ 10 ∷ r)) ≡ 10 ∷ s = sym (fields-more word words (10 ∷ r)) ∙ same ∙ fields-none (10 ∷ s) in
    let one : ◌≡◌ {A = ℕ} 32 10 = cc in omega (arith, one))
fields-tell (word ∷ words) (other ∷ others) r s plain also same =
    let first = and_parts (is_plain word) (are_plain words) plain in
    let second = and_parts (is_plain other) (are_plain others) also in
    let one = field-tells word other words others (10 ∷ r) (10 ∷ s) first.0 second.0 refl refl same in
    let rest = fields-tell words others r s first.1 second.1 one.1 in
    ((λ i. one.0 i ∷ rest.0 i), rest.1)

-- ---- lines

pub line-is : (first : Word) (words : List Word) (r : List ℕ) → line first words ++ r ≡ first ++ (fields words ++ 10 ∷ r)
line-is first words r = append_assoc first (fields words ++ 10 ∷ []) r ∙ ap (λ left. first ++ left) (append_assoc (fields words) (10 ∷ []) r)

pub line-tells
    : (first : Word) (words others : List Word) (r s : List ℕ) → is_plain first ≡ true → are_plain words ≡ true → are_plain others ≡ true
    → line first words ++ r ≡ line first others ++ s → (words ≡ others) × (r ≡ s)
line-tells first words others r s begin plain also same =
    let whole : first ++ (fields words ++ 10 ∷ r) ≡ first ++ (fields others ++ 10 ∷ s) = sym (line-is first words r) ∙ same ∙ line-is first others s in
    let left = word-tells first first (fields words ++ 10 ∷ r) (fields others ++ 10 ∷ s) begin begin (fields-open words (10 ∷ r) refl) (fields-open others (10 ∷ s) refl) whole in
    fields-tell words others r s plain also left.1
