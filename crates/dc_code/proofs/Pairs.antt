-- The pair that is named for a clashing element breaks its restriction.
use Rattle.std.proofs.Common.{◌⊎◌, inl, inr, ◌≡◌, ◌≢◌, ◌≤◌, ℕ, zero, suc, Bool, true, false, not, ◌&&◌, ◌||◌, List, [], ◌∷◌, Option, Some, None, refl, sym, ap, ◌∙◌, arith}
use Rattle.std.proofs.lemmas.Bool.{false≢true}
use Rattle.std.proofs.lemmas.Option.{none-some, same_Some}
use Rattle.std.specs.Prelude.{slice_get, option_map, if◌then◌else◌}
use Rattle.std.specs.List.{list_any}
use Rattle.dc_int.specs.declared.access.ElementId.{ElementId}
use Rattle.dc_int.specs.declared.variable.Locality.{Locality}
use Rattle.dc_int.specs.Entries.{Entry, reads, touches, exposes, is_read_of, is_touch_of}
use Rattle.dc_int.specs.Store.{same}
use Rattle.dc_int.proofs.Stores.{same-is}
use Rattle.dc_code.specs.Breaks.{breaks, accesses}
use Rattle.dc_code.specs.Pairs.{Ends, widened, ends_of, clashes, pair, pair_of, with_reader, BreakTogether, NamesBreak}

-- The test holds of the iteration of this number.
pub record Holds (test : List Entry → Bool) (runs : List (List Entry)) (k : ℕ) : Type 0 where
  pub run : List Entry
  pub is : slice_get runs k ≡ Some run
  pub holds : test run ≡ true

pub later : (test : List Entry → Bool) (run : List Entry) (runs : List (List Entry)) (k : ℕ) → Holds test runs k → Holds test (run ∷ runs) (suc k)
later test run runs k h = record { run = h.run; is = h.is; holds = h.holds }

pub earlier : (test : List Entry → Bool) (run : List Entry) (runs : List (List Entry)) (k : ℕ) → Holds test (run ∷ runs) (suc k) → Holds test runs k
earlier test run runs k h = record { run = h.run; is = h.is; holds = h.holds }

pub here : (test : List Entry → Bool) (run : List Entry) (runs : List (List Entry)) → test run ≡ true → Holds test (run ∷ runs) 0
here test run runs same = record { run = run; is = refl; holds = same }

pub in_front : (test : List Entry → Bool) (run : List Entry) (runs : List (List Entry)) → Holds test (run ∷ runs) 0 → test run ≡ true
in_front test run runs h = let same : run ≡ h.run = same_Some run h.run h.is in ap test same ∙ h.holds

pub record AreEnds (test : List Entry → Bool) (runs : List (List Entry)) (e : Ends) : Type 0 where
  pub least : Holds test runs e.least
  pub greatest : Holds test runs e.greatest
  pub within : (k : ℕ) → Holds test runs k → (e.least ≤ k) × (k ≤ e.greatest)

abbrev pub IsFound : (List Entry → Bool) → List (List Entry) → Option Ends → Type 0
IsFound test runs None = (k : ℕ) → Holds test runs k → ⊥
IsFound test runs (Some e) = AreEnds test runs e

found-widened : (test : List Entry → Bool) (run : List Entry) (runs : List (List Entry)) (b : Bool) → test run ≡ b → (ends : Option Ends) → IsFound test runs ends → IsFound test (run ∷ runs) (widened b ends)
found-widened test run runs true same None none = record { least = here test run runs same; greatest = here test run runs same; within = within }
  where
    within : (k : ℕ) → Holds test (run ∷ runs) k → (0 ≤ k) × (k ≤ 0)
    within zero h = (omega arith, omega arith)
    within (suc k) h = absurd (none k (earlier test run runs k h))
found-widened test run runs true same (Some e) found = record { least = here test run runs same; greatest = later test run runs e.greatest found.greatest; within = within }
  where
    within : (k : ℕ) → Holds test (run ∷ runs) k → (0 ≤ k) × (k ≤ suc e.greatest)
    within zero h = (omega arith, omega arith)
    within (suc k) h = let w = found.within k (earlier test run runs k h) in let high : k ≤ e.greatest = w.1 in (omega arith, omega arith)
found-widened test run runs false same None none = within
  where
    within : (k : ℕ) → Holds test (run ∷ runs) k → ⊥
    within zero h = false≢true (sym same ∙ in_front test run runs h)
    within (suc k) h = none k (earlier test run runs k h)
found-widened test run runs false same (Some e) found =
    record { least = later test run runs e.least found.least; greatest = later test run runs e.greatest found.greatest; within = within }
  where
    within : (k : ℕ) → Holds test (run ∷ runs) k → (suc e.least ≤ k) × (k ≤ suc e.greatest)
    within zero h = absurd (false≢true (sym same ∙ in_front test run runs h))
    within (suc k) h = let w = found.within k (earlier test run runs k h) in let low : e.least ≤ k = w.0 in let high : k ≤ e.greatest = w.1 in (omega arith, omega arith)

pub found : (test : List Entry → Bool) (runs : List (List Entry)) → IsFound test runs (ends_of test runs)
found test [] = nothing
  where
    nothing : (k : ℕ) → Holds test [] k → ⊥
    nothing k h = none-some h.run h.is
found test (run ∷ runs) = found-widened test run runs (test run) refl (ends_of test runs) (found test runs)

-- ---- a clash, and what it shows of the ends

record HoldsSomewhere (test : List Entry → Bool) (runs : List (List Entry)) : Type 0 where
  k : ℕ
  it : Holds test runs k

-- some run in a list has a property
any-holds : (test : List Entry → Bool) (runs : List (List Entry)) → list_any test runs ≡ true → HoldsSomewhere test runs
any-holds test [] any = absurd (false≢true any)
any-holds test (run ∷ runs) any = by_head (test run) refl any (λ rest. any-holds test runs rest)
  where
    by_head : (b : Bool) → test run ≡ b → (b || list_any test runs) ≡ true → (list_any test runs ≡ true → HoldsSomewhere test runs) → HoldsSomewhere test (run ∷ runs)
    by_head true same any rest = record { k = 0; it = here test run runs same }
    by_head false same any rest = record { k = suc (rest any).k; it = later test run runs (rest any).k (rest any).it }

-- An element that clashes has two different iterations that break it.
record Clash (locality : Locality) (x : ElementId) (runs : List (List Entry)) : Type 0 where
  i : ℕ
  j : ℕ
  one : List Entry
  other : List Entry
  one_is : slice_get runs i ≡ Some one
  other_is : slice_get runs j ≡ Some other
  broken : breaks locality x one other ≡ true
  different : i ≢ j

clash-found : (locality : Locality) (x : ElementId) (runs : List (List Entry)) → clashes locality x runs ≡ true → Clash locality x runs
clash-found locality x [] clash = absurd (false≢true clash)
clash-found locality x (run ∷ runs) clash = by_first (list_any (breaks locality x run) runs) refl clash (λ rest. clash-found locality x runs rest)
  where
    with_first : HoldsSomewhere (breaks locality x run) runs → Clash locality x (run ∷ runs)
    with_first h = record { i = 0; j = suc h.k; one = run; other = h.it.run; one_is = refl; other_is = h.it.is; broken = h.it.holds; different = λ same. omega arith }

    among_others : Clash locality x runs → Clash locality x (run ∷ runs)
    among_others c = record { i = suc c.i; j = suc c.j; one = c.one; other = c.other; one_is = c.one_is; other_is = c.other_is; broken = c.broken; different = λ same. c.different (omega arith) }

    by_first : (b : Bool) → list_any (breaks locality x run) runs ≡ b → (b || clashes locality x runs) ≡ true → (clashes locality x runs ≡ true → Clash locality x runs) → Clash locality x (run ∷ runs)
    by_first true same clash rest = with_first (any-holds (breaks locality x run) runs same)
    by_first false same clash rest = among_others (rest clash)

-- ---- of booleans, numbers and entries

pub or-either : (a b : Bool) → (a || b) ≡ true → (a ≡ true) ⊎ (b ≡ true)
or-either true b either = inl refl
or-either false b either = inr either

pub and-both : (a b : Bool) → (a && b) ≡ true → (a ≡ true) × (b ≡ true)
and-both true b both = (refl, both)
and-both false b both = absurd (false≢true both)

pub and-true : (a b : Bool) → a ≡ true → b ≡ true → (a && b) ≡ true
and-true true b a_is b_is = b_is
and-true false b a_is b_is = absurd (false≢true a_is)

pub or-left : (a b : Bool) → a ≡ true → (a || b) ≡ true
or-left true b a_is = refl
or-left false b a_is = absurd (false≢true a_is)

pub or-right : (a b : Bool) → b ≡ true → (a || b) ≡ true
or-right true b b_is = refl
or-right false b b_is = b_is

pub same-differs : (m n : ℕ) → same m n ≡ false → m ≢ n
same-differs zero zero apart = absurd (false≢true (sym apart))
same-differs zero (suc n) apart = λ equal. omega arith
same-differs (suc m) zero apart = λ equal. omega arith
same-differs (suc m) (suc n) apart = λ equal. same-differs m n apart (omega arith)

-- An exposed read is a read.
pub exposed-is_read : (x : ElementId) (entries : List Entry) → exposes x entries ≡ true → reads x entries ≡ true
exposed-is_read x [] exposed = exposed
exposed-is_read x (entry ∷ entries) exposed = by_read (is_read_of x entry) (is_touch_of x entry) exposed (exposed-is_read x entries)
  where
    by_read : (b c : Bool) → (b || (not c && exposes x entries)) ≡ true → (exposes x entries ≡ true → reads x entries ≡ true) → (b || reads x entries) ≡ true
    by_read true c exposed rest = refl
    by_read false true exposed rest = absurd (false≢true exposed)
    by_read false false exposed rest = rest exposed

-- A read of what is not touched is exposed.
untouched-is_exposed : (x : ElementId) (entries : List Entry) → reads x entries ≡ true → touches x entries ≡ false → exposes x entries ≡ true
untouched-is_exposed x [] read untouched = read
untouched-is_exposed x (entry ∷ entries) read untouched =
    by_read (is_read_of x entry) (is_touch_of x entry) read untouched (untouched-is_exposed x entries)
  where
    by_read
        : (b c : Bool) → (b || reads x entries) ≡ true → (c || touches x entries) ≡ false
        → (reads x entries ≡ true → touches x entries ≡ false → exposes x entries ≡ true) → (b || (not c && exposes x entries)) ≡ true
    by_read true c read untouched rest = refl
    by_read false true read untouched rest = absurd (false≢true (sym untouched))
    by_read false false read untouched rest = rest read untouched

-- ---- the pair

-- A toucher and another iteration that is an exposed reader.
record Sides (x : ElementId) (runs : List (List Entry)) : Type 0 where
  toucher : ℕ
  reader : ℕ
  touch : Holds (touches x) runs toucher
  read : Holds (exposes x) runs reader
  different : toucher ≢ reader

-- A pair is named, and it breaks the restriction.
record Named (locality : Locality) (x : ElementId) (runs : List (List Entry)) (given : Option (ℕ × ℕ)) : Type 0 where
  i : ℕ
  j : ℕ
  named : given ≡ Some (i, j)
  together : BreakTogether locality x runs i j

-- Whoever touches and another who has an exposed read break the restriction.
abbrev IsBroken : Locality → ElementId → Type 0
IsBroken locality x = (one other : List Entry) → touches x one ≡ true → exposes x other ≡ true → breaks locality x one other ≡ true

broken-plain : (x : ElementId) → IsBroken Locality.Plain x
broken-plain x one other touch read =
    or-left (touches x one && exposes x other) (touches x other && exposes x one) (and-true (touches x one) (exposes x other) touch read)

broken-shared : (x : ElementId) → IsBroken Locality.Shared x
broken-shared x one other touch read =
    let access : accesses x other ≡ true = or-left (reads x other) (touches x other) (exposed-is_read x other read) in
    or-left (touches x one && accesses x other) (touches x other && accesses x one) (and-true (touches x one) (accesses x other) touch access)

together-at : (locality : Locality) (x : ElementId) (runs : List (List Entry)) (i j : ℕ) → IsBroken locality x → Holds (touches x) runs i → Holds (exposes x) runs j → i ≢ j → BreakTogether locality x runs i j
together-at locality x runs i j broken touch read different =
    record { different = different; one = touch.run; other = read.run; one_is = touch.is; other_is = read.is; broken = broken touch.run read.run touch.holds read.holds }

named-reader
    : (locality : Locality) (x : ElementId) (runs : List (List Entry)) (t r : Ends) → IsBroken locality x → AreEnds (touches x) runs t → AreEnds (exposes x) runs r → Sides x runs
    → Named locality x runs (Some (with_reader t r))
named-reader locality x runs t r broken touchers readers sides = choose (same r.least t.least) (same r.greatest t.least) refl refl
  where
    choose
        : (b c : Bool) → same r.least t.least ≡ b → same r.greatest t.least ≡ c
        → Named locality x runs (Some (if not b then (t.least, r.least) else if not c then (t.least, r.greatest) else (t.greatest, r.least)))
    choose false c least_is greatest_is =
        let apart = same-differs r.least t.least least_is in
        record { i = t.least; j = r.least; named = refl; together = together-at locality x runs t.least r.least broken touchers.least readers.least (λ equal. apart (sym equal)) }
    choose true false least_is greatest_is =
        let apart = same-differs r.greatest t.least greatest_is in
        record { i = t.least; j = r.greatest; named = refl; together = together-at locality x runs t.least r.greatest broken touchers.least readers.greatest (λ equal. apart (sym equal)) }
    choose true true least_is greatest_is =
        let first : r.least ≡ t.least = same-is r.least t.least least_is in
        let last : r.greatest ≡ t.least = same-is r.greatest t.least greatest_is in
        let touch = touchers.within sides.toucher sides.touch in
        let read = readers.within sides.reader sides.read in
        let a : t.least ≤ sides.toucher = touch.0 in
        let b : sides.toucher ≤ t.greatest = touch.1 in
        let c : r.least ≤ sides.reader = read.0 in
        let d : sides.reader ≤ r.greatest = read.1 in
        record { i = t.greatest; j = r.least; named = refl; together = together-at locality x runs t.greatest r.least broken touchers.greatest readers.least (λ equal. sides.different (omega arith)) }

-- two different iterations that touch
record Touchers (x : ElementId) (runs : List (List Entry)) : Type 0 where
  i : ℕ
  j : ℕ
  one : Holds (touches x) runs i
  other : Holds (touches x) runs j
  different : i ≢ j

sides-of
    : (x : ElementId) (runs : List (List Entry)) (i j : ℕ) (one other : List Entry) → slice_get runs i ≡ Some one → slice_get runs j ≡ Some other → i ≢ j
    → touches x one ≡ true → exposes x other ≡ true → Sides x runs
sides-of x runs i j one other one_is other_is different touch read =
    record { toucher = i; reader = j; touch = record { run = one; is = one_is; holds = touch }; read = record { run = other; is = other_is; holds = read }; different = different }

plain-sides : (x : ElementId) (runs : List (List Entry)) → Clash Locality.Plain x runs → Sides x runs
plain-sides x runs c = by_side (or-either (touches x c.one && exposes x c.other) (touches x c.other && exposes x c.one) c.broken)
  where
    by_side : ((touches x c.one && exposes x c.other) ≡ true) ⊎ ((touches x c.other && exposes x c.one) ≡ true) → Sides x runs
    by_side (inl both) =
        let each = and-both (touches x c.one) (exposes x c.other) both in sides-of x runs c.i c.j c.one c.other c.one_is c.other_is c.different each.0 each.1
    by_side (inr both) =
        let each = and-both (touches x c.other) (exposes x c.one) both in
        sides-of x runs c.j c.i c.other c.one c.other_is c.one_is (λ equal. c.different (sym equal)) each.0 each.1

shared-side
    : (x : ElementId) (runs : List (List Entry)) (i j : ℕ) (one other : List Entry) → slice_get runs i ≡ Some one → slice_get runs j ≡ Some other → i ≢ j
    → touches x one ≡ true → accesses x other ≡ true → Touchers x runs ⊎ Sides x runs
shared-side x runs i j one other one_is other_is different touch access = by_touch (touches x other) refl
  where
    by_touch : (b : Bool) → touches x other ≡ b → Touchers x runs ⊎ Sides x runs
    by_touch true touched =
        inl (record { i = i; j = j; one = record { run = one; is = one_is; holds = touch }; other = record { run = other; is = other_is; holds = touched }; different = different })
    by_touch false untouched = inr (sides-of x runs i j one other one_is other_is different touch (untouched-is_exposed x other (only_read (or-either (reads x other) (touches x other) access)) untouched))
      where
        only_read : (reads x other ≡ true) ⊎ (touches x other ≡ true) → reads x other ≡ true
        only_read (inl read) = read
        only_read (inr touched) = absurd (false≢true (sym untouched ∙ touched))

shared-sides : (x : ElementId) (runs : List (List Entry)) → Clash Locality.Shared x runs → Touchers x runs ⊎ Sides x runs
shared-sides x runs c = by_side (or-either (touches x c.one && accesses x c.other) (touches x c.other && accesses x c.one) c.broken)
  where
    by_side : ((touches x c.one && accesses x c.other) ≡ true) ⊎ ((touches x c.other && accesses x c.one) ≡ true) → Touchers x runs ⊎ Sides x runs
    by_side (inl both) =
        let each = and-both (touches x c.one) (accesses x c.other) both in shared-side x runs c.i c.j c.one c.other c.one_is c.other_is c.different each.0 each.1
    by_side (inr both) =
        let each = and-both (touches x c.other) (accesses x c.one) both in
        shared-side x runs c.j c.i c.other c.one c.other_is c.one_is (λ equal. c.different (sym equal)) each.0 each.1

plain-named
    : (x : ElementId) (runs : List (List Entry)) (touchers readers : Option Ends) → IsFound (touches x) runs touchers → IsFound (exposes x) runs readers → Sides x runs
    → Named Locality.Plain x runs (pair_of Locality.Plain touchers readers)
plain-named x runs None readers none read sides = absurd (none sides.toucher sides.touch)
plain-named x runs (Some t) None touch none sides = absurd (none sides.reader sides.read)
plain-named x runs (Some t) (Some r) touch read sides = named-reader Locality.Plain x runs t r (broken-plain x) touch read sides

shared-named
    : (x : ElementId) (runs : List (List Entry)) (touchers readers : Option Ends) → IsFound (touches x) runs touchers → IsFound (exposes x) runs readers
    → Touchers x runs ⊎ Sides x runs → Named Locality.Shared x runs (pair_of Locality.Shared touchers readers)
shared-named x runs None readers none read (inl two) = absurd (none two.i two.one)
shared-named x runs None readers none read (inr sides) = absurd (none sides.toucher sides.touch)
shared-named x runs (Some t) readers touch read given = by_ends (same t.least t.greatest) refl given readers read
  where
    two_named : (readers : Option Ends) → same t.least t.greatest ≡ false → Named Locality.Shared x runs (Some (t.least, t.greatest))
    two_named readers apart =
        let access : accesses x touch.greatest.run ≡ true = or-right (reads x touch.greatest.run) (touches x touch.greatest.run) touch.greatest.holds in
        record { i = t.least; j = t.greatest; named = refl; together = record { different = same-differs t.least t.greatest apart; one = touch.least.run; other = touch.greatest.run; one_is = touch.least.is; other_is = touch.greatest.is; broken = or-left (touches x touch.least.run && accesses x touch.greatest.run) (touches x touch.greatest.run && accesses x touch.least.run) (and-true (touches x touch.least.run) (accesses x touch.greatest.run) touch.least.holds access) } }

    one_toucher : same t.least t.greatest ≡ true → Touchers x runs → ⊥
    one_toucher equal two =
        let ends : t.least ≡ t.greatest = same-is t.least t.greatest equal in
        let first = touch.within two.i two.one in
        let second = touch.within two.j two.other in
        let a : t.least ≤ two.i = first.0 in
        let b : two.i ≤ t.greatest = first.1 in
        let c : t.least ≤ two.j = second.0 in
        let d : two.j ≤ t.greatest = second.1 in
        two.different (omega arith)

    by_ends
        : (b : Bool) → same t.least t.greatest ≡ b → Touchers x runs ⊎ Sides x runs → (readers : Option Ends) → IsFound (exposes x) runs readers
        → Named Locality.Shared x runs (if not b then Some (t.least, t.greatest) else option_map (with_reader t) readers)
    by_ends false apart given readers read = two_named readers apart
    by_ends true equal (inl two) readers read = absurd (one_toucher equal two)
    by_ends true equal (inr sides) None none = absurd (none sides.reader sides.read)
    by_ends true equal (inr sides) (Some r) read = named-reader Locality.Shared x runs t r (broken-shared x) touch read sides

as_names : (locality : Locality) (x : ElementId) (runs : List (List Entry)) → Named locality x runs (pair locality x runs) → NamesBreak locality x runs
as_names locality x runs n = record { i = n.i; j = n.j; named = n.named; together = n.together }

-- The pair of a clashing element breaks its restriction.
pub pair-breaks : (locality : Locality) (x : ElementId) (runs : List (List Entry)) → clashes locality x runs ≡ true → NamesBreak locality x runs
pair-breaks Locality.Plain x runs clash =
    as_names Locality.Plain x runs (plain-named x runs (ends_of (touches x) runs) (ends_of (exposes x) runs) (found (touches x) runs) (found (exposes x) runs) (plain-sides x runs (clash-found Locality.Plain x runs clash)))
pair-breaks Locality.Shared x runs clash =
    as_names Locality.Shared x runs (shared-named x runs (ends_of (touches x) runs) (ends_of (exposes x) runs) (found (touches x) runs) (found (exposes x) runs) (shared-sides x runs (clash-found Locality.Shared x runs clash)))
pair-breaks other x runs clash = absurd (false≢true ((clash-found other x runs clash).broken))
