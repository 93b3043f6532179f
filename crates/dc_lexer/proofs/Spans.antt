-- The bytes at a front that pass a test.
use Rattle.std.proofs.Common.{◌≡◌, ℕ, zero, suc, ◌+◌, ◌<◌, ◌≤◌, Bool, true, false, List, [], ◌∷◌, length, take, refl, ap, inl, inr, arith}
use Rattle.std.specs.List.{list_all}
use Rattle.std.proofs.lemmas.Bool.{cases_Bool}
use Rattle.dc_lexer.specs.Bytes.{span}

pub span-within : (test : ℕ → Bool) (bytes : List ℕ) → span test bytes ≤ length bytes
span-within test [] = omega arith
span-within test (byte ∷ bytes) =
    let more : span test bytes ≤ length bytes = span-within test bytes in
    elim (cases_Bool (test byte)) [ inl passes ↦ rw passes (omega arith) | inr fails ↦ rw fails (omega arith) ]

pub all-take-span : (test : ℕ → Bool) (bytes : List ℕ) → list_all test (take (span test bytes) bytes) ≡ true
all-take-span test [] = refl
all-take-span test (byte ∷ bytes) = elim (cases_Bool (test byte)) [ inl passes ↦ rw passes (rw passes (all-take-span test bytes)) | inr fails ↦ rw fails refl ]

-- more bytes don't all pass
pub all-take_more : (test : ℕ → Bool) (bytes : List ℕ) (k : ℕ) → span test bytes < k → k ≤ length bytes → list_all test (take k bytes) ≡ false
all-take_more test [] k more within = absurd (omega arith)
all-take_more test (byte ∷ bytes) zero more within = absurd (omega arith)
all-take_more test (byte ∷ bytes) (suc k) more within =
    elim (cases_Bool (test byte)) [
      | inl passes ↦ let passed = rw passes at more in rw passes (all-take_more test bytes k (omega (arith, passed)) (omega arith))
      | inr fails ↦ rw fails refl
    ]

-- more bytes have no longer front
pub span-take : (test : ℕ → Bool) (bytes : List ℕ) (j : ℕ) → span test (take (span test bytes + j) bytes) ≡ span test bytes
span-take test [] j = elim j as (λ i. span test (take (0 + i) []) ≡ 0) [ zero ↦ refl | suc i ↦ none i ]
  where
    none : (i : ℕ) → span test (take (0 + suc i) []) ≡ 0
    none i = let e : 0 + suc i ≡ suc i = omega arith in rw e refl
span-take test (byte ∷ bytes) j = elim (cases_Bool (test byte)) [ inl passes ↦ rw passes (passing passes (span-take test bytes j)) | inr fails ↦ rw fails (stopping fails j) ]
  where
    passing : test byte ≡ true → span test (take (span test bytes + j) bytes) ≡ span test bytes → span test (take (suc (span test bytes) + j) (byte ∷ bytes)) ≡ suc (span test bytes)
    passing passes more =
        let e : suc (span test bytes) + j ≡ suc (span test bytes + j) = omega arith in
        rw e (rw passes (ap suc more))

    stopping : test byte ≡ false → (i : ℕ) → span test (take (0 + i) (byte ∷ bytes)) ≡ 0
    stopping fails zero = refl
    stopping fails (suc i) = let e : 0 + suc i ≡ suc i = omega arith in rw e (rw fails refl)
