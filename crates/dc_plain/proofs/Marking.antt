-- What the marks are after the iterations: for each element the ends of its touchers and of its exposed
-- readers.
use Rattle.std.proofs.Common.{◌≡◌, ℕ, suc, ◌+◌, ◌<◌, Bool, true, false, cond, not, ◌&&◌, ◌||◌, List, [], ◌∷◌, Option, Some, None, refl, ap, ◌∙◌, arith, slice_get}
use Rattle.std.specs.Prelude.{option_map, option_and_then, if◌then◌else◌, nat_eq}
use Rattle.dc_int.specs.declared.access.ElementId.{ElementId}
use Rattle.dc_int.specs.Entries.{Entry, Reads, Defines, Undefines, Contributes, touches, exposes}
use Rattle.dc_int.specs.Store.{same, same_element, changed_at}
use Rattle.dc_code.specs.Pairs.{Ends, widened, ends_of}
use Rattle.dc_plain.specs.Marks.{Mark, Marks, with_iteration, is_last, touched_in, read_in, changed_by, changed_in, marked, marked_all, marked_runs}
use Rattle.dc_plain.proofs.Changes.{get-changed}
use Rattle.dc_plain.proofs.Sames.{same-back}

-- ---- one element

-- the mark of an element, among all marks
abbrev pub mark_in : Marks → ElementId → Option Mark
mark_in marks x = option_and_then (λ row. slice_get row x.position) (slice_get marks x.variable)

-- what one entry does to the mark of an element
abbrev pub by_entry : ElementId → ℕ → Entry → Mark → Mark
by_entry x n (Reads y line) mark = if same_element x y then read_in n mark else mark
by_entry x n (Defines y value line) mark = if same_element x y then touched_in n mark else mark
by_entry x n (Undefines y line) mark = if same_element x y then touched_in n mark else mark
by_entry x n (Contributes y op value) mark = mark

abbrev pub by_entries : ElementId → ℕ → List Entry → Mark → Mark
by_entries x n [] mark = mark
by_entries x n (entry ∷ entries) mark = by_entries x n entries (by_entry x n entry mark)

some-map : (b : Bool) (change : Mark → Mark) (mark : Option Mark) → cond b (option_map change mark) mark ≡ option_map (λ m. if b then change m else m) mark
some-map true change None = refl
some-map true change (Some m) = refl
some-map false change None = refl
some-map false change (Some m) = refl

in-row : (b c : Bool) (change : Mark → Mark) (row : Option (List Mark)) (p : ℕ) (changed : List Mark → List Mark)
    → ((r : List Mark) → slice_get (changed r) p ≡ option_map (λ m. if c then change m else m) (slice_get r p))
    → option_and_then (λ r. slice_get r p) (cond b (option_map changed row) row) ≡ option_map (λ m. if b && c then change m else m) (option_and_then (λ r. slice_get r p) row)
in-row true c change None p changed is = refl
in-row true c change (Some r) p changed is = is r
in-row false c change None p changed is = refl
in-row false c change (Some r) p changed is = kept (slice_get r p)
  where
    kept : (m : Option Mark) → m ≡ option_map (λ x. x) m
    kept None = refl
    kept (Some m) = refl

change-is : (x y : ElementId) (n : ℕ) (is_touch : Bool) (marks : Marks)
    → mark_in (changed_in is_touch n y marks) x ≡ option_map (λ m. if same_element x y then changed_by is_touch n m else m) (mark_in marks x)
change-is x y n is_touch marks =
    let change = changed_by is_touch n in
    let changed : List Mark → List Mark = λ row. changed_at change row y.position in
    ap (λ row. option_and_then (λ r. slice_get r x.position) row) (get-changed changed marks y.variable x.variable ∙ ap (λ b. cond b (option_map changed (slice_get marks x.variable)) (slice_get marks x.variable)) (same-back y.variable x.variable))
    ∙ in-row (same x.variable y.variable) (same x.position y.position) change (slice_get marks x.variable) x.position changed
    (λ r. get-changed change r y.position x.position ∙ ap (λ b. cond b (option_map change (slice_get r x.position)) (slice_get r x.position)) (same-back y.position x.position)
    ∙ some-map (same x.position y.position) change (slice_get r x.position))

mark-entry : (x : ElementId) (n : ℕ) (entry : Entry) (marks : Marks) → mark_in (marked n entry marks) x ≡ option_map (by_entry x n entry) (mark_in marks x)
mark-entry x n (Reads y line) marks = change-is x y n false marks
mark-entry x n (Defines y value line) marks = change-is x y n true marks
mark-entry x n (Undefines y line) marks = change-is x y n true marks
mark-entry x n (Contributes y op value) marks = kept (mark_in marks x)
  where
    kept : (m : Option Mark) → m ≡ option_map (λ z. z) m
    kept None = refl
    kept (Some m) = refl

map-map : {A B C : Type 0} (f : A → B) (g : B → C) (o : Option A) → option_map g (option_map f o) ≡ option_map (λ a. g (f a)) o
map-map f g None = refl
map-map f g (Some a) = refl

map-itself : {A : Type 0} (o : Option A) → o ≡ option_map (λ a. a) o
map-itself None = refl
map-itself (Some a) = refl

pub mark-entries : (x : ElementId) (n : ℕ) (entries : List Entry) (marks : Marks) → mark_in (marked_all n entries marks) x ≡ option_map (by_entries x n entries) (mark_in marks x)
mark-entries x n [] marks = map-itself (mark_in marks x)
mark-entries x n (entry ∷ entries) marks =
    mark-entries x n entries (marked n entry marks) ∙ ap (option_map (by_entries x n entries)) (mark-entry x n entry marks)
    ∙ map-map (by_entry x n entry) (by_entries x n entries) (mark_in marks x)

-- ---- one iteration

nat_eq-itself : (n : ℕ) → nat_eq n n ≡ true
nat_eq-itself n = search (arith)

last-with : (n : ℕ) (t : Option Ends) → is_last n (with_iteration n t) ≡ true
last-with n None = nat_eq-itself n
last-with n (Some e) = nat_eq-itself n

again : (n : ℕ) (t : Option Ends) → with_iteration n (with_iteration n t) ≡ with_iteration n t
again n None = refl
again n (Some e) = refl

-- where the iteration has touched the element, nothing more is marked
settled : (x : ElementId) (n : ℕ) (entries : List Entry) (t r : Option Ends)
    → by_entries x n entries (record { touchers = with_iteration n t; readers = r }) ≡ record { touchers = with_iteration n t; readers = r }
settled x n [] t r = refl
settled x n (Reads y line ∷ entries) t r = ap (by_entries x n entries) (by_same (same_element x y)) ∙ settled x n entries t r
  where
    mark : Mark
    mark = record { touchers = with_iteration n t; readers = r }

    by_same : (b : Bool) → (if b then read_in n mark else mark) ≡ mark
    by_same true = λ i. if last-with n t i then mark else record { touchers = with_iteration n t; readers = with_iteration n r }
    by_same false = refl
settled x n (Defines y value line ∷ entries) t r = ap (by_entries x n entries) (by_same (same_element x y)) ∙ settled x n entries t r
  where
    mark : Mark
    mark = record { touchers = with_iteration n t; readers = r }

    by_same : (b : Bool) → (if b then touched_in n mark else mark) ≡ mark
    by_same true = λ i. record { touchers = again n t i; readers = r }
    by_same false = refl
settled x n (Undefines y line ∷ entries) t r = ap (by_entries x n entries) (by_same (same_element x y)) ∙ settled x n entries t r
  where
    mark : Mark
    mark = record { touchers = with_iteration n t; readers = r }

    by_same : (b : Bool) → (if b then touched_in n mark else mark) ≡ mark
    by_same true = λ i. record { touchers = again n t i; readers = r }
    by_same false = refl
settled x n (Contributes y op value ∷ entries) t r = settled x n entries t r

-- what an iteration adds to the touchers or readers
abbrev pub with_if : Bool → ℕ → Option Ends → Option Ends
with_if b n ends = if b then with_iteration n ends else ends

with_if-again : (b : Bool) (n : ℕ) (r : Option Ends) → with_if b n (with_iteration n r) ≡ with_iteration n r
with_if-again true n r = again n r
with_if-again false n r = refl

pub one-iteration : (x : ElementId) (n : ℕ) (entries : List Entry) (t r : Option Ends) → is_last n t ≡ false
    → by_entries x n entries (record { touchers = t; readers = r }) ≡ record { touchers = with_if (touches x entries) n t; readers = with_if (exposes x entries) n r }
one-iteration x n [] t r fresh = refl
one-iteration x n (Reads y line ∷ entries) t r fresh = by_same (same_element x y) (λ z. one-iteration x n entries t z fresh)
  where
    mark : Mark
    mark = record { touchers = t; readers = r }

    by_same : (b : Bool)
        → ((z : Option Ends) → by_entries x n entries (record { touchers = t; readers = z }) ≡ record { touchers = with_if (touches x entries) n t; readers = with_if (exposes x entries) n z })
        → by_entries x n entries (if b then read_in n mark else mark)
        ≡ record { touchers = with_if (touches x entries) n t; readers = with_if (b || (not false && exposes x entries)) n r }
    by_same true rest =
        ap (λ l. by_entries x n entries (if l then mark else record { touchers = t; readers = with_iteration n r })) fresh
        ∙ rest (with_iteration n r) ∙ (λ i. record { touchers = with_if (touches x entries) n t; readers = with_if-again (exposes x entries) n r i })
    by_same false rest = rest r
one-iteration x n (Defines y value line ∷ entries) t r fresh = by_same (same_element x y) (one-iteration x n entries t r fresh)
  where
    mark : Mark
    mark = record { touchers = t; readers = r }

    by_same : (b : Bool) → by_entries x n entries mark ≡ record { touchers = with_if (touches x entries) n t; readers = with_if (exposes x entries) n r }
        → by_entries x n entries (if b then touched_in n mark else mark)
        ≡ record { touchers = with_if (b || touches x entries) n t; readers = with_if (false || (not b && exposes x entries)) n r }
    by_same true rest = settled x n entries t r
    by_same false rest = rest
one-iteration x n (Undefines y line ∷ entries) t r fresh = by_same (same_element x y) (one-iteration x n entries t r fresh)
  where
    mark : Mark
    mark = record { touchers = t; readers = r }

    by_same : (b : Bool) → by_entries x n entries mark ≡ record { touchers = with_if (touches x entries) n t; readers = with_if (exposes x entries) n r }
        → by_entries x n entries (if b then touched_in n mark else mark)
        ≡ record { touchers = with_if (b || touches x entries) n t; readers = with_if (false || (not b && exposes x entries)) n r }
    by_same true rest = settled x n entries t r
    by_same false rest = rest
one-iteration x n (Contributes y op value ∷ entries) t r fresh = one-iteration x n entries t r fresh

-- ---- all iterations

abbrev counted : (List Entry → Bool) → ℕ → List (List Entry) → Option Ends → Option Ends
counted test n [] ends = ends
counted test n (run ∷ runs) ends = counted test (suc n) runs (with_if (test run) n ends)

abbrev moved : ℕ → Ends → Ends
moved n ends = record { least = n + ends.least; greatest = n + ends.greatest }

abbrev merged : Option Ends → Option Ends → Option Ends
merged None later = later
merged (Some e) None = Some e
merged (Some e) (Some f) = Some (record { least = e.least; greatest = f.greatest })

abbrev some_ends : ℕ → ℕ → Option Ends
some_ends l g = Some (record { least = l; greatest = g })

same_ends : (l l' g g' : ℕ) → l ≡ l' → g ≡ g' → some_ends l g ≡ some_ends l' g'
same_ends l l' g g' p q = λ i. some_ends (p i) (q i)

counted-is : (test : List Entry → Bool) (n : ℕ) (runs : List (List Entry)) (ends : Option Ends) → counted test n runs ends ≡ merged ends (option_map (moved n) (ends_of test runs))
counted-is test n [] None = refl
counted-is test n [] (Some e) = refl
counted-is test n (run ∷ runs) ends = counted-is test (suc n) runs (with_if (test run) n ends) ∙ by_test (test run) (ends_of test runs) ends
  where
    by_test : (b : Bool) (later ends : Option Ends) → merged (with_if b n ends) (option_map (moved (suc n)) later) ≡ merged ends (option_map (moved n) (widened b later))
    by_test true None None = same_ends n (n + 0) n (n + 0) (omega arith) (omega arith)
    by_test true None (Some e) = same_ends e.least e.least n (n + 0) refl (omega arith)
    by_test true (Some f) None = same_ends n (n + 0) (suc n + f.greatest) (n + suc f.greatest) (omega arith) (omega arith)
    by_test true (Some f) (Some e) = same_ends e.least e.least (suc n + f.greatest) (n + suc f.greatest) refl (omega arith)
    by_test false None None = refl
    by_test false None (Some e) = refl
    by_test false (Some f) None = same_ends (suc n + f.least) (n + suc f.least) (suc n + f.greatest) (n + suc f.greatest) (omega arith) (omega arith)
    by_test false (Some f) (Some e) = same_ends e.least e.least (suc n + f.greatest) (n + suc f.greatest) refl (omega arith)

-- no iteration from a number on has touched the element
abbrev IsBelow : ℕ → Option Ends → Type 0
IsBelow n None = Unit {0}
IsBelow n (Some e) = e.greatest < n

below-last : (n : ℕ) (t : Option Ends) → IsBelow n t → is_last n t ≡ false
below-last n None below = refl
below-last n (Some e) below = search (arith)

below-with : (b : Bool) (n : ℕ) (t : Option Ends) → IsBelow n t → IsBelow (suc n) (with_if b n t)
below-with true n None below = omega arith
below-with true n (Some e) below = omega arith
below-with false n None below = tt
below-with false n (Some e) below = omega (arith, below)

runs-counted : (x : ElementId) (n : ℕ) (runs : List (List Entry)) (marks : Marks) (t r : Option Ends) → IsBelow n t
    → mark_in marks x ≡ Some (record { touchers = t; readers = r })
    → mark_in (marked_runs n runs marks) x ≡ Some (record { touchers = counted (touches x) n runs t; readers = counted (exposes x) n runs r })
runs-counted x n [] marks t r below is = is
runs-counted x n (run ∷ runs) marks t r below is =
    runs-counted x (suc n) runs (marked_all n run marks) (with_if (touches x run) n t) (with_if (exposes x run) n r) (below-with (touches x run) n t below)
    (mark-entries x n run marks ∙ ap (option_map (by_entries x n run)) is ∙ ap (λ m. Some m) (one-iteration x n run t r (below-last n t below)))

abbrev pub mark_of_runs : ElementId → List (List Entry) → Mark
mark_of_runs x runs = record { touchers = ends_of (touches x) runs; readers = ends_of (exposes x) runs }

unmoved : (ends : Option Ends) → merged None (option_map (moved 0) ends) ≡ ends
unmoved None = refl
unmoved (Some e) = same_ends (0 + e.least) e.least (0 + e.greatest) e.greatest (omega arith) (omega arith)

-- After the iterations, counted from 0 and from blank marks on, an element's mark tells its touchers and its
-- exposed readers.
pub marks-are : (x : ElementId) (runs : List (List Entry)) (marks : Marks) → mark_in marks x ≡ Some (record { touchers = None; readers = None })
    → mark_in (marked_runs 0 runs marks) x ≡ Some (mark_of_runs x runs)
marks-are x runs marks blank =
    runs-counted x 0 runs marks None None tt blank
    ∙ (λ i. Some (record { touchers = (counted-is (touches x) 0 runs None ∙ unmoved (ends_of (touches x) runs)) i; readers = (counted-is (exposes x) 0 runs None ∙ unmoved (ends_of (exposes x) runs)) i }))
