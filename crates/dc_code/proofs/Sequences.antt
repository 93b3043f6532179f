-- First this, then that: in turn, and by what holds of the results.
use Rattle.std.proofs.Common.{◌≡◌, Option, refl, ap}
use Rattle.std.specs.Prelude.{ℤ}
use Rattle.dc_int.specs.Store.{Bounds}
use Rattle.dc_code.specs.Computation.{Computation, give, fail, read, define, undefine, contribute, ask, pause, sequence}

pub sequence-then : {E T A B C : Type 0} (c : Computation E T A) (f : A → Computation E T B) (g : B → Computation E T C)
    → sequence (sequence c f) g ≡ sequence c (λ a. sequence (f a) g)
sequence-then (give a) f g = refl
sequence-then (fail trouble) f g = refl
sequence-then (read x line rest) f g = λ i. read x line (λ state. sequence-then (rest state) f g i)
sequence-then (define x value line rest) f g = ap (define x value line) (sequence-then rest f g)
sequence-then (undefine x line rest) f g = ap (undefine x line) (sequence-then rest f g)
sequence-then (contribute x op value rest) f g = ap (contribute x op value) (sequence-then rest f g)
sequence-then (ask variable rest) f g = λ i. ask variable (λ bounds. sequence-then (rest bounds) f g i)
sequence-then (pause event rest) f g = λ i. pause event (λ told. sequence-then (rest told) f g i)

-- Each result has P, whatever is read and told.
abbrev pub Gives : {E T A : Type 0} → (A → Type 0) → Computation E T A → Type 0
Gives P (give a) = P a
Gives P (fail trouble) = Unit {0}
Gives P (read x line rest) = (state : Option ℤ) → Gives P (rest state)
Gives P (define x value line rest) = Gives P rest
Gives P (undefine x line rest) = Gives P rest
Gives P (contribute x op value rest) = Gives P rest
Gives P (ask variable rest) = (bounds : Option Bounds) → Gives P (rest bounds)
Gives P (pause event rest) = (told : ℤ) → Gives P (rest told)

pub gives-then : {E T A B : Type 0} (P : A → Type 0) (Q : B → Type 0) (c : Computation E T A) (next : A → Computation E T B)
    → Gives P c → ((a : A) → P a → Gives Q (next a)) → Gives Q (sequence c next)
gives-then P Q (give a) next gives later = later a gives
gives-then P Q (fail trouble) next gives later = tt
gives-then P Q (read x line rest) next gives later = λ state. gives-then P Q (rest state) next (gives state) later
gives-then P Q (define x value line rest) next gives later = gives-then P Q rest next gives later
gives-then P Q (undefine x line rest) next gives later = gives-then P Q rest next gives later
gives-then P Q (contribute x op value rest) next gives later = gives-then P Q rest next gives later
gives-then P Q (ask variable rest) next gives later = λ bounds. gives-then P Q (rest bounds) next (gives bounds) later
gives-then P Q (pause event rest) next gives later = λ told. gives-then P Q (rest told) next (gives told) later

-- The rest may be another that does the same with each result.
pub same-then : {E T A B : Type 0} (P : A → Type 0) (c : Computation E T A) (next other : A → Computation E T B)
    → Gives P c → ((a : A) → P a → next a ≡ other a) → sequence c next ≡ sequence c other
same-then P (give a) next other gives same = same a gives
same-then P (fail trouble) next other gives same = refl
same-then P (read x line rest) next other gives same = λ i. read x line (λ state. same-then P (rest state) next other (gives state) same i)
same-then P (define x value line rest) next other gives same = ap (define x value line) (same-then P rest next other gives same)
same-then P (undefine x line rest) next other gives same = ap (undefine x line) (same-then P rest next other gives same)
same-then P (contribute x op value rest) next other gives same = ap (contribute x op value) (same-then P rest next other gives same)
same-then P (ask variable rest) next other gives same = λ i. ask variable (λ bounds. same-then P (rest bounds) next other (gives bounds) same i)
same-then P (pause event rest) next other gives same = λ i. pause event (λ told. same-then P (rest told) next other (gives told) same i)
