-- The marks name the least clashing element, and its pair. Of loops whose variables have unspecified
-- locality.
use Rattle.std.proofs.Common.{◌≡◌, ◌≢◌, ℕ, zero, suc, Bool, true, false, not, ◌&&◌, List, [], ◌∷◌, Option, Some, None, refl, sym, ap, ◌∙◌, arith, subst}
use Rattle.std.specs.Prelude.{option_map, if◌then◌else◌, find}
use Rattle.std.specs.List.{list_any}
use Rattle.std.proofs.lemmas.Bool.{false≢true}
use Rattle.std.proofs.lemmas.Option.{none-some, same_Some}
use Rattle.dc_int.specs.declared.access.ElementId.{ElementId}
use Rattle.dc_int.specs.declared.variable.Locality.{Locality}
use Rattle.dc_int.specs.Entries.{Entry, touches, exposes}
use Rattle.dc_int.specs.Store.{same}
use Rattle.dc_int.proofs.Stores.{same-is}
use Rattle.dc_code.specs.Breaks.{breaks}
use Rattle.dc_code.specs.Pairs.{Ends, ends_of, clashes, pair, pair_of, with_reader, NamesBreak}
use Rattle.dc_code.proofs.Pairs.{Holds, AreEnds, IsFound, found, earlier, in_front, and-true, or-left, or-right, same-differs, pair-breaks}
use Rattle.dc_plain.specs.Marks.{Named, are_one, with_reader_of, named_by, or_named}
use Rattle.dc_plain.proofs.Marking.{mark_of_runs}
use Rattle.dc_plain.proofs.Sames.{same-eqb}

readers-same : (t r : Ends) → with_reader_of t r ≡ with_reader t r
readers-same t r = λ i.
    if not (same-eqb r.least t.least i) then (t.least, r.least)
    else (if not (same-eqb r.greatest t.least i) then (t.least, r.greatest) else (t.greatest, r.least))

-- ---- a toucher and an exposed reader that are different clash

any-holds_of : (test : List Entry → Bool) (runs : List (List Entry)) (k : ℕ) → Holds test runs k → list_any test runs ≡ true
any-holds_of test [] k h = absurd (none-some h.run h.is)
any-holds_of test (run ∷ runs) zero h = or-left (test run) (list_any test runs) (in_front test run runs h)
any-holds_of test (run ∷ runs) (suc k) h = or-right (test run) (list_any test runs) (any-holds_of test runs k (earlier test run runs k h))

clash-of : (x : ElementId) (runs : List (List Entry)) (i j : ℕ) → Holds (touches x) runs i → Holds (exposes x) runs j → i ≢ j → clashes Locality.Plain x runs ≡ true
clash-of x [] i j touch read different = absurd (none-some touch.run touch.is)
clash-of x (run ∷ runs) zero zero touch read different = absurd (different refl)
clash-of x (run ∷ runs) zero (suc j) touch read different =
    or-left (list_any (breaks Locality.Plain x run) runs) (clashes Locality.Plain x runs) (any-holds_of (breaks Locality.Plain x run) runs j broken)
  where
    broken : Holds (breaks Locality.Plain x run) runs j
    broken = record {
      run = read.run;
      is = read.is;
      holds = or-left (touches x run && exposes x read.run) (touches x read.run && exposes x run)
          (and-true (touches x run) (exposes x read.run) (in_front (touches x) run runs touch) read.holds);
    }
clash-of x (run ∷ runs) (suc i) zero touch read different =
    or-left (list_any (breaks Locality.Plain x run) runs) (clashes Locality.Plain x runs) (any-holds_of (breaks Locality.Plain x run) runs i broken)
  where
    broken : Holds (breaks Locality.Plain x run) runs i
    broken = record {
      run = touch.run;
      is = touch.is;
      holds = or-right (touches x run && exposes x touch.run) (touches x touch.run && exposes x run)
          (and-true (touches x touch.run) (exposes x run) touch.holds (in_front (exposes x) run runs read));
    }
clash-of x (run ∷ runs) (suc i) (suc j) touch read different =
    or-right (list_any (breaks Locality.Plain x run) runs) (clashes Locality.Plain x runs)
    (clash-of x runs i j (earlier (touches x) run runs i touch) (earlier (exposes x) run runs j read) (λ equal. different (ap (λ n. suc n) equal)))

-- ---- an element's mark names a pair exactly where it clashes

by_ends : ElementId → Option Ends → Option Ends → Option Named
by_ends x t r = named_by x (record { touchers = t; readers = r })

-- one and the same iteration is no pair of two
one-pair : (t r : Ends) → are_one t r ≡ true → (with_reader t r).0 ≡ (with_reader t r).1
one-pair t r one = search (arith)

abbrev named_pair : ElementId → ℕ × ℕ → Named
named_pair x p = record { element = x; pair = p }

names-pair : (x : ElementId) (t r : Option Ends) (p : ℕ × ℕ) → pair_of Locality.Plain t r ≡ Some p → p.0 ≢ p.1 → by_ends x t r ≡ Some (named_pair x p)
unfolding by_ends
names-pair x None r p is different = absurd (none-some p is)
names-pair x (Some t) None p is different = absurd (none-some p is)
names-pair x (Some t) (Some r) p is different = by_one (are_one t r) refl
  where
    pair_is : with_reader t r ≡ p
    pair_is = same_Some (with_reader t r) p is

    by_one : (b : Bool) → are_one t r ≡ b → (if b then None else Some (named_pair x (with_reader_of t r))) ≡ Some (named_pair x p)
    by_one true one = absurd (different (subst (λ (q : ℕ × ℕ). q.0 ≡ q.1) pair_is (one-pair t r one)))
    by_one false one = λ i. Some (named_pair x ((readers-same t r ∙ pair_is) i))

all-one : (t r : Ends) → r.least ≡ t.least → r.greatest ≡ t.least → t.greatest ≡ r.least → are_one t r ≡ true
all-one t r least greatest last = search (arith)

both-ends : (x : ElementId) (runs : List (List Entry)) (t r : Ends) → AreEnds (touches x) runs t → AreEnds (exposes x) runs r → are_one t r ≡ false → clashes Locality.Plain x runs ≡ true
both-ends x runs t r touch read apart = by_least (same r.least t.least) refl
  where
    by_greatest : (b : Bool) → same r.greatest t.least ≡ b → same r.least t.least ≡ true → clashes Locality.Plain x runs ≡ true
    by_greatest false greatest least = clash-of x runs t.least r.greatest touch.least read.greatest (λ equal. same-differs r.greatest t.least greatest (sym equal))
    by_greatest true greatest least = clash-of x runs t.greatest r.least touch.greatest read.least (λ equal. false≢true (sym apart ∙ all-one t r (same-is r.least t.least least) (same-is r.greatest t.least greatest) equal))

    by_least : (b : Bool) → same r.least t.least ≡ b → clashes Locality.Plain x runs ≡ true
    by_least false least = clash-of x runs t.least r.least touch.least read.least (λ equal. same-differs r.least t.least least (sym equal))
    by_least true least = by_greatest (same r.greatest t.least) refl least

names-none : (x : ElementId) (runs : List (List Entry)) (t r : Option Ends) → IsFound (touches x) runs t → IsFound (exposes x) runs r → clashes Locality.Plain x runs ≡ false → by_ends x t r ≡ None
unfolding by_ends
names-none x runs None r touch read apart = refl
names-none x runs (Some t) None touch read apart = refl
names-none x runs (Some t) (Some r) touch read apart = by_one (are_one t r) refl
  where
    by_one : (b : Bool) → are_one t r ≡ b → (if b then None else Some (named_pair x (with_reader_of t r))) ≡ None
    by_one true one = refl
    by_one false one = absurd (false≢true (sym apart ∙ both-ends x runs t r touch read one))

-- What the mark of an element tells: nothing where it doesn't clash, and else its pair.
pub data Telling (x : ElementId) (runs : List (List Entry)) : Type 0 where
  quiet : clashes Locality.Plain x runs ≡ false → named_by x (mark_of_runs x runs) ≡ None → Telling x runs
  names : (p : ℕ × ℕ) → clashes Locality.Plain x runs ≡ true → named_by x (mark_of_runs x runs) ≡ Some (record { element = x; pair = p }) → pair Locality.Plain x runs ≡ Some p → Telling x runs

pub telling : (x : ElementId) (runs : List (List Entry)) → Telling x runs
unfolding by_ends
telling x runs = by_clash (clashes Locality.Plain x runs) refl
  where
    with_pair : NamesBreak Locality.Plain x runs → clashes Locality.Plain x runs ≡ true → Telling x runs
    with_pair n clash =
        names (n.i, n.j) clash (names-pair x (ends_of (touches x) runs) (ends_of (exposes x) runs) (n.i, n.j) n.named n.together.different) n.named

    by_clash : (b : Bool) → clashes Locality.Plain x runs ≡ b → Telling x runs
    by_clash true clash = with_pair (pair-breaks Locality.Plain x runs clash) clash
    by_clash false clash =
        quiet clash (names-none x runs (ends_of (touches x) runs) (ends_of (exposes x) runs) (found (touches x) runs) (found (exposes x) runs) clash)

-- ---- the first of some elements

abbrev pub scan : (ElementId → Option Named) → List ElementId → Option Named
scan told [] = None
scan told (x ∷ elements) = or_named (told x) (scan told elements)

-- The marks of these elements name the first that clashes, and its pair.
pub record NamesFirst (runs : List (List Entry)) (elements : List ElementId) (named : Option Named) : Type 0 where
  pub element : find (λ x. clashes Locality.Plain x runs) elements ≡ option_map (λ n. n.element) named
  pub pairs : (n : Named) → named ≡ Some n → pair Locality.Plain n.element runs ≡ Some n.pair

told_of : List (List Entry) → ElementId → Option Named
told_of runs x = named_by x (mark_of_runs x runs)

pub scan-first : (runs : List (List Entry)) (elements : List ElementId) → NamesFirst runs elements (scan (λ x. named_by x (mark_of_runs x runs)) elements)
scan-first runs [] = record { element = refl; pairs = λ n is. absurd (none-some n is) }
scan-first runs (x ∷ elements) = by_telling (telling x runs) (scan-first runs elements)
  where
    told : ElementId → Option Named
    told y = named_by y (mark_of_runs y runs)

    clash : ElementId → Bool
    clash y = clashes Locality.Plain y runs

    later : Option Named
    later = scan (λ y. named_by y (mark_of_runs y runs)) elements

    by_telling : Telling x runs → NamesFirst runs elements later → NamesFirst runs (x ∷ elements) (or_named (told x) later)
    by_telling (quiet apart none) rest = record {
      element = ap (λ b. if b then Some x else find clash elements) apart ∙ rest.element ∙ ap (λ o. option_map (λ n. n.element) (or_named o later)) (sym none);
      pairs = λ n is. rest.pairs n (ap (λ o. or_named o later) (sym none) ∙ is);
    }
    by_telling (names p both named paired) rest = record {
      element = ap (λ b. if b then Some x else find clash elements) both ∙ ap (λ o. option_map (λ n. n.element) (or_named o later)) (sym named);
      pairs = λ n is. with_named n (same_Some (record { element = x; pair = p }) n (ap (λ o. or_named o later) (sym named) ∙ is));
    }
      where
        with_named : (n : Named) → record { element = x; pair = p } ≡ n → pair Locality.Plain n.element runs ≡ Some n.pair
        with_named n same_named = subst (λ (m : Named). pair Locality.Plain m.element runs ≡ Some m.pair) same_named paired
