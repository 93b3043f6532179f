-- Runs of bytes by how many bytes they have.
use Rattle.std.proofs.Common.{◌≡◌, ◌==◌, ◌≤◌, ℕ, ◌+◌, Bool, true, false, not, cond, List, [], ◌∷◌, length, take, drop, Some, None, refl, sym, ap, ◌∙◌, ◌⊎◌, inl, inr, arith, add-one}
use Rattle.std.proofs.Math.Numerals.{one-add}
use Rattle.std.proofs.lemmas.Bool.{cases_Bool, ltb-false}
use Rattle.std.proofs.lemmas.List.{drop_all}
use Rattle.std.proofs.lemmas.List.Folds.{length-prefix_len}
use Rattle.std.specs.Prelude.{if◌then◌else◌, nat_lt}
use Rattle.std.specs.List.{prefix_len, position_or_len, position}
use Rattle.dc_lists.specs.Input.{run_of, past_run, past_line}

drop-prefix_len : (test : ℕ → Bool) (bytes : List ℕ) → drop (prefix_len test bytes) bytes ≡ past_run test bytes
drop-prefix_len test [] = refl
drop-prefix_len test (byte ∷ left) =
    elim (test byte) as (λ passes. drop (cond passes (1 + prefix_len test left) 0) (byte ∷ left) ≡ (if passes then past_run test left else byte ∷ left))
    [ true ↦ rw one-add (drop-prefix_len test left) | false ↦ refl ]

take-prefix_len : (test : ℕ → Bool) (bytes : List ℕ) → take (prefix_len test bytes) bytes ≡ run_of test bytes
take-prefix_len test [] = refl
take-prefix_len test (byte ∷ left) =
    elim (test byte) as (λ passes. take (cond passes (1 + prefix_len test left) 0) (byte ∷ left) ≡ (if passes then byte ∷ run_of test left else []))
    [ true ↦ rw one-add (ap (λ run. byte ∷ run) (take-prefix_len test left)) | false ↦ refl ]

-- as many bytes as an iterator counts while they pass
pub drop-count : (test : ℕ → Bool) (bytes : List ℕ) (count : ℕ) → count ≡ length (take (prefix_len test bytes) bytes)
    → drop count bytes ≡ past_run test bytes
drop-count test bytes count is = ap (λ n. drop n bytes) (is ∙ length-prefix_len test bytes) ∙ drop-prefix_len test bytes

pub take-count : (test : ℕ → Bool) (bytes : List ℕ) (count : ℕ) → count ≡ length (take (prefix_len test bytes) bytes)
    → take count bytes ≡ run_of test bytes
take-count test bytes count is = ap (λ n. take n bytes) (is ∙ length-prefix_len test bytes) ∙ take-prefix_len test bytes

-- ---- the rest of a line

abbrev is_feed : ℕ → Bool
is_feed byte = byte == 10

behind_feed : (bytes : List ℕ) → drop (position_or_len is_feed bytes + 1) bytes ≡ past_line bytes
behind_feed [] = refl
behind_feed (byte ∷ left) =
    elim (byte == 10) as (λ feed. drop (cond (not feed) (1 + position_or_len is_feed left) 0 + 1) (byte ∷ left) ≡ (if feed then left else past_line left))
    [ true ↦ refl | false ↦ rw (add-one, one-add) (rw add-one at (behind_feed left)) ]

pub drop-feed : (bytes : List ℕ) (place : ℕ) → position (λ byte. byte == 10) bytes ≡ Some place → drop (place + 1) bytes ≡ past_line bytes
drop-feed bytes place found = by (nat_lt (position_or_len is_feed bytes) (length bytes)) found
  where
    by : (test : Bool) → cond test (Some (position_or_len is_feed bytes)) None ≡ Some place → drop (place + 1) bytes ≡ past_line bytes
    by true is = let same : position_or_len is_feed bytes ≡ place = cc in rw same at (behind_feed bytes)
    by false is = absurd (cc)

pub drop-last_line : (bytes : List ℕ) → position (λ byte. byte == 10) bytes ≡ None → drop (length bytes) bytes ≡ past_line bytes
drop-last_line bytes none =
    drop_all (length bytes) bytes (omega arith)
    ∙ sym (drop_all (position_or_len is_feed bytes + 1) bytes (by (cases_Bool (nat_lt (position_or_len is_feed bytes) (length bytes)))))
    ∙ behind_feed bytes
  where
    by : (nat_lt (position_or_len is_feed bytes) (length bytes) ≡ true) ⊎ (nat_lt (position_or_len is_feed bytes) (length bytes) ≡ false)
        → length bytes ≤ position_or_len is_feed bytes + 1
    by (inl test) = absurd (let is : cond true (Some (position_or_len is_feed bytes)) None ≡ None = rw test at none in cc)
    by (inr test) = let above = ltb-false (position_or_len is_feed bytes) (length bytes) test in omega arith

pub ruleset lines = (drop-feed, drop-last_line)
