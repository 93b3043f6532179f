-- A first break is a break, and one access of each iteration is named for it.
use Rattle.std.proofs.Common.{◌≡◌, ℕ, suc, Bool, true, false, not, ◌&&◌, ◌||◌, List, [], ◌∷◌, ◌++◌, Option, Some, refl, sym, ap, ◌∙◌, subst}
use Rattle.std.proofs.lemmas.Bool.{false≢true}
use Rattle.std.proofs.lemmas.List.{append-nil, append_assoc}
use Rattle.std.proofs.lemmas.Option.{none-some, same_Some}
use Rattle.std.specs.Prelude.{find, option_and_then, if◌then◌else◌}
use Rattle.std.specs.List.{list_any}
use Rattle.dc_int.specs.declared.access.Access.{Access}
use Rattle.dc_int.specs.declared.access.ElementId.{ElementId}
use Rattle.dc_int.specs.declared.variable.Locality.{Locality}
use Rattle.dc_int.specs.Entries.{Entry, Reads, Defines, Undefines, Contributes, is_read_of, is_touch_of, reads, touches, exposes, access_of}
use Rattle.dc_int.proofs.Stores.{same_element-is, same_element-itself}
use Rattle.dc_code.specs.declared.verdict.Race.{Race}
use Rattle.dc_code.specs.Breaks.{breaks, accesses, reading_breaks, touching_breaks, entry_breaks, break_after, first_break, first_read, first_touch, other_side, named_beside}
use Rattle.dc_code.specs.Laws.{Made, IsReal, is_touching}
use Rattle.dc_code.specs.Verdicts.{party, race_of}
use Rattle.dc_code.proofs.Pairs.{and-both, and-true, or-left, or-right}
use Rattle.dc_code.proofs.Verdicts.{handed_on}

-- ---- lists with an entry in the middle

any-at
    : {A : Type 0} (test : A → Bool) (before : List A) (item : A) (after : List A) → test item ≡ true → list_any test (before ++ item ∷ after) ≡ true
any-at test [] item after holds = or-left (test item) (list_any test after) holds
any-at test (first ∷ before) item after holds = or-right (test first) (list_any test (before ++ item ∷ after)) (any-at test before item after holds)

exposes-at
    : (x : ElementId) (before : List Entry) (entry : Entry) (after : List Entry) → touches x before ≡ false → is_read_of x entry ≡ true
    → exposes x (before ++ entry ∷ after) ≡ true
exposes-at x [] entry after fresh read = or-left (is_read_of x entry) (not (is_touch_of x entry) && exposes x after) read
exposes-at x (first ∷ before) entry after fresh read = by (is_touch_of x first) fresh (exposes-at x before entry after)
  where
    by
        : (b : Bool) → (b || touches x before) ≡ false
        → (touches x before ≡ false → is_read_of x entry ≡ true → exposes x (before ++ entry ∷ after) ≡ true)
        → (is_read_of x first || (not b && exposes x (before ++ entry ∷ after))) ≡ true
    by true fresh later = absurd (false≢true (sym fresh))
    by false fresh later = or-right (is_read_of x first) (exposes x (before ++ entry ∷ after)) (later fresh read)

-- ---- the first break

-- The entry breaks, where it stands behind others.
pub record BreaksAt (locality : ℕ → Locality) (first before later : List Entry) (entry : Entry) : Type 0 where
  pub middle : List Entry
  pub after : List Entry
  pub is : later ≡ middle ++ entry ∷ after
  pub broken : entry_breaks locality first (before ++ middle) entry ≡ true

pub break-at
    : (locality : ℕ → Locality) (first before later : List Entry) (entry : Entry) → break_after locality first before later ≡ Some entry
    → BreaksAt locality first before later entry
break-at locality first before [] entry e = absurd (none-some entry e)
break-at locality first before (other ∷ later) entry e =
    by (entry_breaks locality first before other) refl e (break-at locality first (before ++ other ∷ []) later entry)
  where
    by
        : (b : Bool) → entry_breaks locality first before other ≡ b
        → (if b then Some other else break_after locality first (before ++ other ∷ []) later) ≡ Some entry
        → (break_after locality first (before ++ other ∷ []) later ≡ Some entry → BreaksAt locality first (before ++ other ∷ []) later entry)
        → BreaksAt locality first before (other ∷ later) entry
    by true broken e rest =
        let same : other ≡ entry = same_Some other entry e in
        record {
          middle = [];
          after = later;
          is = ap (λ item. item ∷ later) same;
          broken = ap (λ entries. entry_breaks locality first entries entry) (append-nil before)
              ∙ ap (entry_breaks locality first before) (sym same) ∙ broken;
        }
    by false none e rest =
        let found = rest e in
        record {
          middle = other ∷ found.middle;
          after = found.after;
          is = ap (λ entries. other ∷ entries) found.is;
          broken = ap (λ entries. entry_breaks locality first entries entry) (sym (append_assoc before (other ∷ []) found.middle)) ∙ found.broken;
        }

reading-is_break
    : (locality : Locality) (x : ElementId) (first before after : List Entry) (line : ℕ) → reading_breaks locality x first before ≡ true
    → breaks locality x first (before ++ Reads x line ∷ after) ≡ true
reading-is_break Locality.Plain x first before after line broken =
    let both = and-both (touches x first) (not (touches x before)) broken in
    let fresh : touches x before ≡ false = not-true (touches x before) both.1 in
    let exposed = exposes-at x before (Reads x line) after fresh (same_element-itself x) in
    or-left (touches x first && exposes x (before ++ Reads x line ∷ after)) (touches x (before ++ Reads x line ∷ after) && exposes x first)
    (and-true (touches x first) (exposes x (before ++ Reads x line ∷ after)) both.0 exposed)
  where
    not-true : (b : Bool) → not b ≡ true → b ≡ false
    not-true true e = absurd (false≢true e)
    not-true false e = refl
reading-is_break Locality.Shared x first before after line touched =
    let read = any-at (is_read_of x) before (Reads x line) after (same_element-itself x) in
    let access = or-left (reads x (before ++ Reads x line ∷ after)) (touches x (before ++ Reads x line ∷ after)) read in
    or-left (touches x first && accesses x (before ++ Reads x line ∷ after)) (touches x (before ++ Reads x line ∷ after) && accesses x first)
    (and-true (touches x first) (accesses x (before ++ Reads x line ∷ after)) touched access)
reading-is_break other x first before after line broken = absurd (false≢true broken)

touching-is_break
    : (locality : Locality) (x : ElementId) (first second : List Entry) → touching_breaks locality x first ≡ true → touches x second ≡ true
    → breaks locality x first second ≡ true
touching-is_break Locality.Plain x first second exposed touched =
    or-right (touches x first && exposes x second) (touches x second && exposes x first)
    (and-true (touches x second) (exposes x first) touched exposed)
touching-is_break Locality.Shared x first second accessed touched =
    or-right (touches x first && accesses x second) (touches x second && accesses x first)
    (and-true (touches x second) (accesses x first) touched accessed)
touching-is_break other x first second broken touched = absurd (false≢true broken)

-- An entry that breaks is an access, and it breaks the restriction of its element.
pub record BreaksWith (locality : ℕ → Locality) (first second : List Entry) (entry : Entry) : Type 0 where
  pub access : Access
  pub is : access_of entry ≡ Some access
  pub broken : breaks (locality access.element.variable) access.element first second ≡ true

entry-breaks
    : (locality : ℕ → Locality) (first before after : List Entry) (entry : Entry) → entry_breaks locality first before entry ≡ true
    → BreaksWith locality first (before ++ entry ∷ after) entry
entry-breaks locality first before after (Reads x line) broken =
    record { access = _; is = refl; broken = reading-is_break (locality x.variable) x first before after line broken }
entry-breaks locality first before after (Defines x value line) broken =
    let touched = any-at (is_touch_of x) before (Defines x value line) after (same_element-itself x) in
    record { access = _; is = refl; broken = touching-is_break (locality x.variable) x first (before ++ Defines x value line ∷ after) broken touched }
entry-breaks locality first before after (Undefines x line) broken =
    let touched = any-at (is_touch_of x) before (Undefines x line) after (same_element-itself x) in
    record { access = _; is = refl; broken = touching-is_break (locality x.variable) x first (before ++ Undefines x line ∷ after) broken touched }
entry-breaks locality first before after (Contributes x op value) broken = absurd (false≢true broken)

-- ---- accesses of a run

made-here : (entry : Entry) (run : List Entry) (access : Access) → access_of entry ≡ Some access → Made access (entry ∷ run)
made-here (Reads x line) run access e = record { place = 0; is = e }
made-here (Defines x value line) run access e = record { place = 0; is = e }
made-here (Undefines x line) run access e = record { place = 0; is = e }
made-here (Contributes x op value) run access e = absurd (none-some access e)

made-later : (entry : Entry) (run : List Entry) (access : Access) → Made access run → Made access (entry ∷ run)
made-later (Reads x line) run access made = record { place = suc made.place; is = made.is }
made-later (Defines x value line) run access made = record { place = suc made.place; is = made.is }
made-later (Undefines x line) run access made = record { place = suc made.place; is = made.is }
made-later (Contributes x op value) run access made = record { place = made.place; is = made.is }

made-at
    : (before : List Entry) (entry : Entry) (after : List Entry) (access : Access) → access_of entry ≡ Some access
    → Made access (before ++ entry ∷ after)
made-at [] entry after access e = made-here entry after access e
made-at (first ∷ before) entry after access e = made-later first (before ++ entry ∷ after) access (made-at before entry after access e)

-- The first entry that passes a test passes it, and is one of the run.
record IsFound (test : Entry → Bool) (run : List Entry) (entry : Entry) : Type 0 where
  passes : test entry ≡ true
  made : (access : Access) → access_of entry ≡ Some access → Made access run

is-found : (test : Entry → Bool) (run : List Entry) (entry : Entry) → find test run ≡ Some entry → IsFound test run entry
is-found test [] entry e = absurd (none-some entry e)
is-found test (first ∷ run) entry e = by (test first) refl e (is-found test run entry)
  where
    by
        : (b : Bool) → test first ≡ b → (if b then Some first else find test run) ≡ Some entry
        → (find test run ≡ Some entry → IsFound test run entry) → IsFound test (first ∷ run) entry
    by true passes e rest =
        let same : first ≡ entry = same_Some first entry e in
        subst (IsFound test (first ∷ run)) same (record { passes = passes; made = λ access is. made-here first run access is })
    by false fails e rest =
        let found = rest e in record { passes = found.passes; made = λ access is. made-later first run access (found.made access is) }

-- what the named entry is an access of
record NamesAccess (x : ElementId) (run : List Entry) (entry : Entry) : Type 0 where
  same : (access : Access) → access_of entry ≡ Some access → access.element ≡ x
  made : (access : Access) → access_of entry ≡ Some access → Made access run

element-read : (x : ElementId) (entry : Entry) (access : Access) → is_read_of x entry ≡ true → access_of entry ≡ Some access → access.element ≡ x
element-read x (Reads y line) access is e = ap (λ a. a.element) (sym (same_Some _ access e)) ∙ sym (same_element-is x y is)
element-read x (Defines y value line) access is e = absurd (false≢true is)
element-read x (Undefines y line) access is e = absurd (false≢true is)
element-read x (Contributes y op value) access is e = absurd (false≢true is)

element-touched : (x : ElementId) (entry : Entry) (access : Access) → is_touch_of x entry ≡ true → access_of entry ≡ Some access → access.element ≡ x
element-touched x (Reads y line) access is e = absurd (false≢true is)
element-touched x (Defines y value line) access is e = ap (λ a. a.element) (sym (same_Some _ access e)) ∙ sym (same_element-is x y is)
element-touched x (Undefines y line) access is e = ap (λ a. a.element) (sym (same_Some _ access e)) ∙ sym (same_element-is x y is)
element-touched x (Contributes y op value) access is e = absurd (false≢true is)

names-read : (x : ElementId) (run : List Entry) (entry : Entry) → first_read x run ≡ Some entry → NamesAccess x run entry
names-read x run entry e =
    let found = is-found (is_read_of x) run entry e in
    record { same = λ access is. element-read x entry access found.passes is; made = found.made }

names-touch : (x : ElementId) (run : List Entry) (entry : Entry) → first_touch x run ≡ Some entry → NamesAccess x run entry
names-touch x run entry e =
    let found = is-found (is_touch_of x) run entry e in
    record { same = λ access is. element-touched x entry access found.passes is; made = found.made }

names-side
    : (locality : Locality) (x : ElementId) (run : List Entry) (entry : Entry) → other_side locality x run ≡ Some entry → NamesAccess x run entry
names-side Locality.Shared x run entry e = by (touches x run) e
  where
    by : (b : Bool) → (if b then first_touch x run else first_read x run) ≡ Some entry → NamesAccess x run entry
    by true e = names-touch x run entry e
    by false e = names-read x run entry e
names-side other x run entry e = names-read x run entry e

-- Beside an access an access of the same element is named, of the first run.
names-beside
    : (locality : ℕ → Locality) (run : List Entry) (entry beside : Entry) (access : Access) → access_of entry ≡ Some access
    → named_beside locality run entry ≡ Some beside
    → NamesAccess access.element run beside
names-beside locality run (Reads x line) beside access is e =
    subst (λ y. NamesAccess y run beside) (ap (λ a. a.element) (same_Some _ access is)) (names-touch x run beside e)
names-beside locality run (Defines x value line) beside access is e =
    subst (λ y. NamesAccess y run beside) (ap (λ a. a.element) (same_Some _ access is)) (names-side (locality x.variable) x run beside e)
names-beside locality run (Undefines x line) beside access is e =
    subst (λ y. NamesAccess y run beside) (ap (λ a. a.element) (same_Some _ access is)) (names-side (locality x.variable) x run beside e)
names-beside locality run (Contributes x op value) beside access is e = absurd (none-some beside e)

-- the access that is an entry which touches
action-touched
    : (x : ElementId) (entry : Entry) (access : Access) → is_touch_of x entry ≡ true → access_of entry ≡ Some access
    → is_touching access.action ≡ true
action-touched x (Reads y line) access is e = absurd (false≢true is)
action-touched x (Defines y value line) access is e = ap (λ a. is_touching a.action) (sym (same_Some _ access e))
action-touched x (Undefines y line) access is e = ap (λ a. is_touching a.action) (sym (same_Some _ access e))
action-touched x (Contributes y op value) access is e = absurd (false≢true is)

-- Of an access and the one that is named beside it at least one is a touch.
one-touches
    : (locality : ℕ → Locality) (run : List Entry) (entry beside : Entry) (access other : Access) → access_of entry ≡ Some access
    → named_beside locality run entry ≡ Some beside → access_of beside ≡ Some other
    → (is_touching other.action || is_touching access.action) ≡ true
one-touches locality run (Reads x line) beside access other is named other_is =
    or-left (is_touching other.action) (is_touching access.action)
    (action-touched x beside other (is-found (is_touch_of x) run beside named).passes other_is)
one-touches locality run (Defines x value line) beside access other is named other_is =
    or-right (is_touching other.action) (is_touching access.action) (ap (λ a. is_touching a.action) (sym (same_Some _ access is)))
one-touches locality run (Undefines x line) beside access other is named other_is =
    or-right (is_touching other.action) (is_touching access.action) (ap (λ a. is_touching a.action) (sym (same_Some _ access is)))
one-touches locality run (Contributes x op value) beside access other is named other_is = absurd (none-some beside named)

-- ---- the race

-- A race that is told of two runs is real in them, and has these numbers.
pub record IsRaceOf (locality : ℕ → Locality) (i j : ℕ) (first second : List Entry) (found : Race) : Type 0 where
  pub real : IsReal locality found first second
  pub first_is : found.first.iteration ≡ i
  pub second_is : found.second.iteration ≡ j

-- the steps of `race_of`, each behind what the one before it found
abbrev pub behind_other : ℕ → ℕ → Access → Access → Option Race
behind_other i j access other = Some (record { element = access.element; first = party i other; second = party j access })

abbrev pub behind_access : ℕ → ℕ → Entry → Access → Option Race
behind_access i j beside access = option_and_then (behind_other i j access) (access_of beside)

abbrev pub behind_beside : ℕ → ℕ → Entry → Entry → Option Race
behind_beside i j breaking beside = option_and_then (behind_access i j beside) (access_of breaking)

abbrev pub behind_break : (ℕ → Locality) → ℕ → ℕ → List Entry → Entry → Option Race
behind_break locality i j first breaking = option_and_then (behind_beside i j breaking) (named_beside locality first breaking)

pub race-is_real
    : (locality : ℕ → Locality) (i j : ℕ) (first second : List Entry) (found : Race) → race_of locality i j first second ≡ Some found
    → IsRaceOf locality i j first second found
race-is_real locality i j first second found e =
    let one = handed_on (first_break locality first second) (behind_break locality i j first) found e in
    let two = handed_on (named_beside locality first one.item) (behind_beside i j one.item) found one.next_is in
    let three = handed_on (access_of one.item) (behind_access i j two.item) found two.next_is in
    let four = handed_on (access_of two.item) (behind_other i j three.item) found three.next_is in
    let same = same_Some (record { element = three.item.element; first = party i four.item; second = party j three.item }) found four.next_is in
    let at = break-at locality first [] second one.item one.is in
    let broken = entry-breaks locality first at.middle at.after one.item at.broken in
    let same_access : broken.access ≡ three.item = same_Some broken.access three.item (sym broken.is ∙ three.is) in
    let beside = names-beside locality first one.item two.item three.item three.is two.is in
    let of_x : four.item.element ≡ three.item.element = beside.same four.item four.is in
    let real : IsReal locality (record { element = three.item.element; first = party i four.item; second = party j three.item }) first second =
    record {
      broken = ap (breaks (locality three.item.element.variable) three.item.element first) at.is
          ∙ subst (λ (access : Access). breaks (locality access.element.variable) access.element first (at.middle ++ one.item ∷ at.after)
          ≡ true) same_access broken.broken;
      first_does = subst (λ x. Made (record { action = four.item.action; element = x; line = four.item.line }) first) of_x
          (beside.made four.item four.is);
      second_does = subst (Made three.item) (sym at.is) (made-at at.middle one.item at.after three.item three.is);
      one_touches = one-touches locality first one.item two.item three.item four.item three.is two.is four.is;
    } in
    subst (IsRaceOf locality i j first second) same (record { real = real; first_is = refl; second_is = refl })
