-- Which words are names.
use Rattle.std.proofs.Common.{◌≡◌, ℕ, Bool, true, false, ◌&&◌, [], ◌∷◌, refl}
use Rattle.dc_tree.specs.Names.{is_name}

and-false : (b : Bool) → (b && false) ≡ false
and-false true = refl
and-false false = refl

-- A single letter is a name, since each word that is none has two letters at least.
pub letter-is_name : (letter : ℕ) → is_name (letter ∷ []) ≡ true
unfolding is_name
letter-is_name letter = simp and-false refl
