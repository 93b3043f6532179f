-- A text is cut into lexemes in one way at most.
use Rattle.std.proofs.Common.{◌≡◌, ℕ, zero, suc, ◌<◌, Bool, true, false, List, [], ◌∷◌, ◌++◌, take, drop, None, refl, sym, ap, subst, ◌∙◌, inl, inr, arith, append-nil}
use Rattle.std.specs.List.{list_any}
use Rattle.std.proofs.lemmas.Bool.{cases_order, false≢true, or_left}
use Rattle.std.proofs.lemmas.Bool.Decides.{eqb_tells}
use Rattle.std.proofs.lemmas.List.Folds.{list_any-append}
use Rattle.std.proofs.lemmas.Option.{none-some, same_Some}
use Rattle.dc_lexer.specs.Bytes.{past_blanks}
use Rattle.dc_lexer.specs.Lexemes.{Lexeme, form}
use Rattle.dc_lexer.specs.Readings.{IsLongest, BeginsWith, AreLexemes}
use Rattle.dc_lexer.specs.Tokens.{is_long, is_large}
use Rattle.dc_lexer.specs.Answers.{BreaksRule8, BreaksRule9, BreaksRule10}

-- ---- one place

length-same : (bytes : List ℕ) (n m : ℕ) (a b : Lexeme) → IsLongest bytes n a → IsLongest bytes m b → n ≡ m
length-same bytes n m a b first second =
    elim (cases_order n m) [
      | inl same ↦ same
      | inr apart ↦
          elim apart [
            | inl less ↦ absurd (none-some b (sym (first.longest m less second.within) ∙ second.is))
            | inr more ↦ absurd (none-some a (sym (second.longest n more first.within) ∙ first.is))
          ]
    ]

lexeme-same : (bytes : List ℕ) (n m : ℕ) (a b : Lexeme) → IsLongest bytes n a → IsLongest bytes m b → a ≡ b
lexeme-same bytes n m a b first second =
    same_Some _ _ (sym first.is ∙ ap (λ (k : ℕ). form (take k bytes)) (length-same bytes n m a b first second) ∙ second.is)

form-empty : (n : ℕ) → form (take n []) ≡ None
form-empty n = elim n as (λ k. form (take k []) ≡ None) [ zero ↦ refl | suc k ↦ refl ]

no_lexeme : (n : ℕ) (a : Lexeme) (bytes : List ℕ) → bytes ≡ [] → IsLongest bytes n a → ⊥
no_lexeme n a bytes empty first = none-some a (sym (form-empty n) ∙ ap (λ (b : List ℕ). form (take n b)) (sym empty) ∙ first.is)

pub some_bytes : (n : ℕ) (a : Lexeme) (bytes : List ℕ) → IsLongest bytes n a → 0 < n
some_bytes zero a bytes first = absurd (none-some a first.is)
some_bytes (suc n) a bytes first = omega arith

-- ---- blanks

pub past_blanks-past_blanks : (bytes : List ℕ) → past_blanks (past_blanks bytes) ≡ past_blanks bytes
past_blanks-past_blanks [] = refl
past_blanks-past_blanks (byte ∷ bytes) =
    elim (eqb_tells byte 32) [ inl blank ↦ rw blank.0 (past_blanks-past_blanks bytes) | inr other ↦ rw other.0 (rw other.0 refl) ]

-- the rest behind some lexemes begins with no blank
pub rest-visible : (text : List ℕ) (lexemes : List Lexeme) (rest : List ℕ) → BeginsWith text lexemes rest → past_blanks rest ≡ rest
rest-visible text [] rest front = subst (λ (r : List ℕ). past_blanks r ≡ r) front (past_blanks-past_blanks text)
rest-visible text (a ∷ lexemes) rest front = rest-visible (drop front.0 (past_blanks text)) lexemes rest front.1.1

pub from_blanks : (text other : List ℕ) (lexemes : List Lexeme) (rest : List ℕ) → past_blanks text ≡ past_blanks other → BeginsWith text lexemes rest → BeginsWith other lexemes rest
from_blanks text other [] rest same front = sym same ∙ front
from_blanks text other (a ∷ lexemes) rest same front =
    (front.0, (subst (λ (b : List ℕ). IsLongest b front.0 a) same front.1.0, subst (λ (b : List ℕ). BeginsWith (drop front.0 b) lexemes rest) same front.1.1))

-- ---- two readings

-- All lexemes of a text are those of a front and then those of what is left behind it.
pub record GoesOn (lexemes first : List Lexeme) (rest : List ℕ) : Type 0 where
  pub more : List Lexeme
  pub is : lexemes ≡ first ++ more
  pub follow : AreLexemes rest more

pub goes_on : (text : List ℕ) (lexemes first : List Lexeme) (rest : List ℕ) → AreLexemes text lexemes → BeginsWith text first rest → GoesOn lexemes first rest
goes_on text lexemes [] rest whole front =
    record { more = lexemes; is = refl; follow = from_blanks text rest lexemes [] (sym (past_blanks-past_blanks text) ∙ ap past_blanks front) whole }
goes_on text [] (b ∷ first) rest whole front = absurd (no_lexeme front.0 b _ whole front.1.0)
goes_on text (a ∷ lexemes) (b ∷ first) rest whole front =
    let bytes : List ℕ = past_blanks text in
    let same : whole.0 ≡ front.0 = length-same bytes whole.0 front.0 a b whole.1.0 front.1.0 in
    let alike : a ≡ b = lexeme-same bytes whole.0 front.0 a b whole.1.0 front.1.0 in
    let then = goes_on (drop front.0 bytes) lexemes first rest (subst (λ (n : ℕ). AreLexemes (drop n bytes) lexemes) same whole.1.1) front.1.1 in
    record {
      more = then.more;
      is = ap (λ (x : Lexeme). x ∷ lexemes) alike ∙ ap (λ (xs : List Lexeme). b ∷ xs) then.is;
      follow = then.follow;
    }

-- Where nothing is left, no lexeme follows.
none_left : (rest : List ℕ) (more : List Lexeme) → rest ≡ [] → AreLexemes rest more → more ≡ []
none_left rest [] empty follow = refl
none_left rest (a ∷ more) empty follow = absurd (no_lexeme follow.0 a _ (ap past_blanks empty) follow.1.0)

pub one_list : (text : List ℕ) (first second : List Lexeme) → AreLexemes text first → AreLexemes text second → first ≡ second
one_list text first second a b =
    let then = goes_on text first second [] a b in
    then.is ∙ ap (λ (more : List Lexeme). second ++ more) (none_left [] then.more refl then.follow) ∙ append-nil second

-- ---- what a text with lexemes to its end doesn't break

pub keeps_rule8 : (text : List ℕ) (lexemes : List Lexeme) → AreLexemes text lexemes → BreaksRule8 text → ⊥
keeps_rule8 text lexemes whole broken = by_more then.more then.follow
  where
    visible : past_blanks broken.rest ≡ broken.rest
    visible = rest-visible text broken.lexemes broken.rest broken.front

    then : GoesOn lexemes broken.lexemes broken.rest
    then = goes_on text lexemes broken.lexemes broken.rest whole broken.front

    by_more : (more : List Lexeme) → AreLexemes broken.rest more → ⊥
    by_more [] follow = broken.some (sym visible ∙ follow)
    by_more (a ∷ more) follow =
        let here : IsLongest broken.rest follow.0 a = subst (λ (b : List ℕ). IsLongest b follow.0 a) visible follow.1.0 in
        none-some a (sym (broken.none follow.0 here.within) ∙ here.is)

-- What holds of no lexeme of a text holds of none in a front of it.
none_in_front : (test : Lexeme → Bool) (text : List ℕ) (lexemes first : List Lexeme) (rest : List ℕ) → AreLexemes text lexemes → list_any test lexemes ≡ false
    → BeginsWith text first rest → list_any test first ≡ true → ⊥
none_in_front test text lexemes first rest whole none front some =
    let then = goes_on text lexemes first rest whole front in
    false≢true (sym none ∙ ap (list_any test) then.is ∙ list_any-append test first then.more ∙ or_left _ _ some)

pub keeps_rule9 : (text : List ℕ) (lexemes : List Lexeme) → AreLexemes text lexemes → list_any is_long lexemes ≡ false → BreaksRule9 text → ⊥
keeps_rule9 text lexemes whole none broken = none_in_front is_long text lexemes broken.lexemes broken.rest whole none broken.front broken.long

pub keeps_rule10 : (text : List ℕ) (lexemes : List Lexeme) → AreLexemes text lexemes → list_any is_large lexemes ≡ false → BreaksRule10 text → ⊥
keeps_rule10 text lexemes whole none broken = none_in_front is_large text lexemes broken.lexemes broken.rest whole none broken.front broken.large
