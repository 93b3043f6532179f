-- The literal at the front of a text is the longest.
use Rattle.std.proofs.Common.{◌≡◌, ℕ, zero, suc, ◌<◌, ◌≤◌, true, false, eqb, List, [], ◌∷◌, length, take, Option, Some, None, refl, sym, ap, ◌∙◌, inl, inr, arith}
use Rattle.std.specs.Prelude.{option_map}
use Rattle.std.proofs.lemmas.Bool.{cases_Bool, eqb-true}
use Rattle.dc_lexer.specs.Lexemes.{literal}
use Rattle.dc_lexer.specs.Scan.{closes, doubled, undoubled}

-- The first n bytes are the rest of a literal, and its text is read from the bytes in front of its last quote.
pub record Closed (quote : ℕ) (bytes : List ℕ) (n : ℕ) : Type 0 where
  pub inner : ℕ
  pub length_is : n ≡ suc inner
  pub within : n ≤ length bytes
  pub text : literal quote (take n bytes) ≡ Some (undoubled quote (take inner bytes))
  pub longest : (k : ℕ) → n < k → k ≤ length bytes → literal quote (take k bytes) ≡ None

abbrev pub Closes : ℕ → List ℕ → Option ℕ → Type 0
Closes quote bytes None = (k : ℕ) → literal quote (take k bytes) ≡ None
Closes quote bytes (Some n) = Closed quote bytes n

-- ---- a byte that isn't the quote

literal-other : (quote byte : ℕ) (bytes : List ℕ) → eqb byte quote ≡ false → literal quote (byte ∷ bytes) ≡ option_map (λ text. byte ∷ text) (literal quote bytes)
literal-other quote byte [] other = rw other refl
literal-other quote byte (next ∷ bytes) other = rw other refl

undoubled-other : (quote byte : ℕ) (bytes : List ℕ) → eqb byte quote ≡ false → undoubled quote (byte ∷ bytes) ≡ byte ∷ undoubled quote bytes
undoubled-other quote byte [] other = refl
undoubled-other quote byte (next ∷ bytes) other = rw other refl

passed : (quote byte : ℕ) (bytes : List ℕ) (found : Option ℕ) → eqb byte quote ≡ false → Closes quote bytes found → Closes quote (byte ∷ bytes) (option_map (λ n. suc n) found)
passed quote byte bytes None other none = at
  where
    at : (k : ℕ) → literal quote (take k (byte ∷ bytes)) ≡ None
    at zero = refl
    at (suc k) = literal-other quote byte (take k bytes) other ∙ ap (option_map (λ (text : List ℕ). byte ∷ text)) (none k)
passed quote byte bytes (Some n) other closed = record {
  inner = suc closed.inner;
  length_is = ap suc closed.length_is;
  within = omega (arith, closed.within);
  text = literal-other quote byte (take n bytes) other
      ∙ ap (option_map (λ (text : List ℕ). byte ∷ text)) closed.text
      ∙ ap (λ (text : List ℕ). Some text) (sym (undoubled-other quote byte (take closed.inner bytes) other));
  longest = beyond;
}
  where
    beyond : (k : ℕ) → suc n < k → k ≤ length (byte ∷ bytes) → literal quote (take k (byte ∷ bytes)) ≡ None
    beyond zero more within = refl
    beyond (suc k) more within =
        literal-other quote byte (take k bytes) other
        ∙ ap (option_map (λ (text : List ℕ). byte ∷ text)) (closed.longest k (omega arith) (omega arith))

-- ---- the quote once, and twice

once : (quote byte next : ℕ) (bytes : List ℕ) → eqb byte quote ≡ true → eqb next quote ≡ false → Closed quote (byte ∷ next ∷ bytes) 1
once quote byte next bytes mark other = record { inner = 0; length_is = refl; within = omega arith; text = rw mark refl; longest = beyond }
  where
    beyond : (k : ℕ) → 1 < k → k ≤ length (byte ∷ next ∷ bytes) → literal quote (take k (byte ∷ next ∷ bytes)) ≡ None
    beyond zero more within = refl
    beyond (suc zero) more within = absurd (omega arith)
    beyond (suc (suc k)) more within = rw mark (rw other refl)

twice : (quote byte next : ℕ) (bytes : List ℕ) (found : Option ℕ) → eqb byte quote ≡ true → eqb next quote ≡ true → Closes quote bytes found → Closes quote (byte ∷ next ∷ bytes) (doubled found)
twice quote byte next bytes None mark again none = record { inner = 0; length_is = refl; within = omega arith; text = rw mark refl; longest = beyond }
  where
    beyond : (k : ℕ) → 1 < k → k ≤ length (byte ∷ next ∷ bytes) → literal quote (take k (byte ∷ next ∷ bytes)) ≡ None
    beyond zero more within = refl
    beyond (suc zero) more within = absurd (omega arith)
    beyond (suc (suc k)) more within = rw mark (rw again (ap (option_map (λ (text : List ℕ). quote ∷ text)) (none k)))
twice quote byte next bytes (Some n) mark again closed = record {
  inner = suc (suc closed.inner);
  length_is = ap (λ (m : ℕ). suc (suc m)) closed.length_is;
  within = omega (arith, closed.within);
  text = rw mark (rw again (ap (option_map (λ (text : List ℕ). quote ∷ text)) closed.text ∙ ap (λ (b : ℕ). Some (b ∷ undoubled quote (take closed.inner bytes))) (sym (eqb-true byte quote mark))));
  longest = beyond;
}
  where
    beyond : (k : ℕ) → suc (suc n) < k → k ≤ length (byte ∷ next ∷ bytes) → literal quote (take k (byte ∷ next ∷ bytes)) ≡ None
    beyond zero more within = refl
    beyond (suc zero) more within = absurd (omega arith)
    beyond (suc (suc k)) more within = rw mark (rw again (ap (option_map (λ (text : List ℕ). quote ∷ text)) (closed.longest k (omega arith) (omega arith))))

last : (quote byte : ℕ) → eqb byte quote ≡ true → Closed quote (byte ∷ []) 1
last quote byte mark = record { inner = 0; length_is = refl; within = omega arith; text = rw mark refl; longest = beyond }
  where
    beyond : (k : ℕ) → 1 < k → k ≤ length (byte ∷ []) → literal quote (take k (byte ∷ [])) ≡ None
    beyond k more within = absurd (omega arith)

-- ---- all of it

pub closes-closes : (quote : ℕ) (bytes : List ℕ) → Closes quote bytes (closes quote bytes)
closes-closes quote [] = λ k. elim k as (λ i. literal quote (take i []) ≡ None) [ zero ↦ refl | suc i ↦ refl ]
closes-closes quote (byte ∷ []) =
    elim (cases_Bool (eqb byte quote)) [
      | inl mark ↦ rw mark (last quote byte mark)
      | inr other ↦ rw other (passed quote byte [] None other (closes-closes quote []))
    ]
closes-closes quote (byte ∷ next ∷ bytes) =
    elim (cases_Bool (eqb byte quote)) [
      | inl mark ↦
          elim (cases_Bool (eqb next quote)) [
            | inl again ↦ rw mark (rw again (twice quote byte next bytes (closes quote bytes) mark again (closes-closes quote bytes)))
            | inr other ↦ rw mark (rw other (once quote byte next bytes mark other))
          ]
      | inr other ↦ rw other (passed quote byte (next ∷ bytes) (closes quote (next ∷ bytes)) other (closes-closes quote (next ∷ bytes)))
    ]
