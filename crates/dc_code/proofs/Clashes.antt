-- Two runs that break a restriction have a first break, and for each something is named beside it.
use Rattle.std.proofs.Common.{◌≡◌, ◌⊎◌, inl, inr, ℕ, Bool, true, false, not, ◌&&◌, ◌||◌, List, [], ◌∷◌, ◌++◌, Option, Some, refl, sym, ap, ◌∙◌, subst}
use Rattle.std.proofs.lemmas.Bool.{false≢true}
use Rattle.std.proofs.lemmas.List.{append-nil, append_assoc}
use Rattle.std.specs.Prelude.{find, option_and_then, if◌then◌else◌}
use Rattle.std.specs.List.{list_any}
use Rattle.dc_int.specs.declared.access.Access.{Access}
use Rattle.dc_int.specs.declared.access.ElementId.{ElementId}
use Rattle.dc_int.specs.declared.variable.Locality.{Locality}
use Rattle.dc_int.specs.Entries.{Entry, Reads, Defines, Undefines, Contributes, is_read_of, is_touch_of, reads, touches, exposes, access_of}
use Rattle.dc_int.proofs.Stores.{same_element-is}
use Rattle.dc_code.specs.declared.verdict.Race.{Race}
use Rattle.dc_code.specs.Breaks.{breaks, accesses, reading_breaks, touching_breaks, entry_breaks, break_after, first_break, first_read, first_touch, other_side, named_beside}
use Rattle.dc_code.specs.Verdicts.{party, race_of}
use Rattle.dc_code.proofs.Pairs.{or-either, and-both, and-true, or-right, exposed-is_read}
use Rattle.dc_code.proofs.Races.{break-at, behind_other, behind_access, behind_beside, behind_break}

-- ---- where a run reads or touches

-- An entry of the list passes the test.
pub record SplitAt (test : Entry → Bool) (entries : List Entry) : Type 0 where
  pub before : List Entry
  pub entry : Entry
  pub after : List Entry
  pub is : entries ≡ before ++ entry ∷ after
  pub passes : test entry ≡ true

pub any-split : (test : Entry → Bool) (entries : List Entry) → list_any test entries ≡ true → SplitAt test entries
any-split test [] any = absurd (false≢true any)
any-split test (entry ∷ entries) any = by (test entry) refl any (any-split test entries)
  where
    by
        : (b : Bool) → test entry ≡ b → (b || list_any test entries) ≡ true → (list_any test entries ≡ true → SplitAt test entries)
        → SplitAt test (entry ∷ entries)
    by true passes any later = record { before = []; entry = entry; after = entries; is = refl; passes = passes }
    by false fails any later =
        let rest = later any in record {
          before = entry ∷ rest.before;
          entry = rest.entry;
          after = rest.after;
          is =
              ap (λ es. entry ∷ es) rest.is;
          passes = rest.passes;
        }

-- An exposed read comes before any touch.
pub record ExposedAt (x : ElementId) (entries : List Entry) : Type 0 where
  pub split : SplitAt (is_read_of x) entries
  pub fresh : touches x split.before ≡ false

pub exposed-split : (x : ElementId) (entries : List Entry) → exposes x entries ≡ true → ExposedAt x entries
exposed-split x [] exposed = absurd (false≢true exposed)
exposed-split x (entry ∷ entries) exposed = by (is_read_of x entry) (is_touch_of x entry) refl refl exposed (exposed-split x entries)
  where
    by
        : (b c : Bool) → is_read_of x entry ≡ b → is_touch_of x entry ≡ c → (b || (not c && exposes x entries)) ≡ true
        → (exposes x entries ≡ true → ExposedAt x entries)
        → ExposedAt x (entry ∷ entries)
    by true c read touch exposed later =
        record { split = record { before = []; entry = entry; after = entries; is = refl; passes = read }; fresh = refl }
    by false true read touch exposed later = absurd (false≢true exposed)
    by false false read touch exposed later =
        let rest = later exposed in
        record {
          split = record {
            before = entry ∷ rest.split.before;
            entry = rest.split.entry;
            after = rest.split.after;
            is = ap
                (λ es. entry ∷ es) rest.split.is;
            passes = rest.split.passes;
          };
          fresh = ap (λ b. b || touches x rest.split.before) touch ∙ rest.fresh;
        }

-- ---- a first break

-- There is a first break.
pub record HasBreak (locality : ℕ → Locality) (first second : List Entry) : Type 0 where
  pub breaking : Entry
  pub is : first_break locality first second ≡ Some breaking

record HasBreakAfter (locality : ℕ → Locality) (first before later : List Entry) : Type 0 where
  breaking : Entry
  is : break_after locality first before later ≡ Some breaking

break-after
    : (locality : ℕ → Locality) (first before middle : List Entry) (entry : Entry) (after : List Entry)
    → entry_breaks locality first (before ++ middle) entry ≡ true
    → HasBreakAfter locality first before (middle ++ entry ∷ after)
break-after locality first before [] entry after broken =
    let here : entry_breaks locality first before entry ≡ true =
    ap (λ entries. entry_breaks locality first entries entry) (sym (append-nil before)) ∙ broken in
    record { breaking = entry; is = ap (λ b. if b then Some entry else break_after locality first (before ++ entry ∷ []) after) here }
break-after locality first before (other ∷ middle) entry after broken =
    by (entry_breaks locality first before other) refl
    (break-after locality first (before ++ other ∷ []) middle entry after
    (ap (λ entries. entry_breaks locality first entries entry) (append_assoc before (other ∷ []) middle) ∙ broken))
  where
    by
        : (b : Bool) → entry_breaks locality first before other ≡ b → HasBreakAfter locality first (before ++ other ∷ []) (middle ++ entry ∷ after)
        → HasBreakAfter locality first before (other ∷ (middle ++ entry ∷ after))
    by true here rest =
        record {
          breaking = other;
          is = ap (λ b. if b then Some other else break_after locality first (before ++ other ∷ [])
              (middle ++ entry ∷ after)) here;
        }
    by false here rest =
        record {
          breaking = rest.breaking;
          is = ap
              (λ b. if b then Some other else break_after locality first (before ++ other ∷ []) (middle ++ entry ∷ after)) here ∙ rest.is;
        }

-- An entry that breaks, wherever it stands, shows a first break.
pub breaks-somewhere
    : (locality : ℕ → Locality) (first second before : List Entry) (entry : Entry) (after : List Entry) → second ≡ before ++ entry ∷ after
    → entry_breaks locality first before entry ≡ true → HasBreak locality first second
breaks-somewhere locality first second before entry after is broken =
    let found = break-after locality first [] before entry after broken in
    record { breaking = found.breaking; is = ap (first_break locality first) is ∙ found.is }

-- ---- what a broken restriction shows

read-breaks
    : (locality : ℕ → Locality) (x : ElementId) (first before : List Entry) (entry : Entry) → is_read_of x entry ≡ true
    → reading_breaks (locality x.variable) x first before ≡ true → entry_breaks locality first before entry ≡ true
read-breaks locality x first before (Reads y line) is broken =
    subst (λ z. reading_breaks (locality z.variable) z first before ≡ true) (same_element-is x y is) broken
read-breaks locality x first before (Defines y value line) is broken = absurd (false≢true is)
read-breaks locality x first before (Undefines y line) is broken = absurd (false≢true is)
read-breaks locality x first before (Contributes y op value) is broken = absurd (false≢true is)

touch-breaks
    : (locality : ℕ → Locality) (x : ElementId) (first before : List Entry) (entry : Entry) → is_touch_of x entry ≡ true
    → touching_breaks (locality x.variable) x first ≡ true → entry_breaks locality first before entry ≡ true
touch-breaks locality x first before (Reads y line) is broken = absurd (false≢true is)
touch-breaks locality x first before (Defines y value line) is broken =
    subst (λ z. touching_breaks (locality z.variable) z first ≡ true) (same_element-is x y is) broken
touch-breaks locality x first before (Undefines y line) is broken =
    subst (λ z. touching_breaks (locality z.variable) z first ≡ true) (same_element-is x y is) broken
touch-breaks locality x first before (Contributes y op value) is broken = absurd (false≢true is)

by_touch
    : (locality : ℕ → Locality) (x : ElementId) (first second : List Entry) → touches x second ≡ true
    → touching_breaks (locality x.variable) x first ≡ true
    → HasBreak locality first second
by_touch locality x first second touched broken =
    let at = any-split (is_touch_of x) second touched in
    breaks-somewhere locality first second at.before at.entry at.after at.is (touch-breaks locality x first at.before at.entry at.passes broken)

-- Where two runs break the restriction of an element, the second has a first break with the first.
pub broken-has_break
    : (locality : ℕ → Locality) (x : ElementId) (first second : List Entry) → breaks (locality x.variable) x first second ≡ true
    → HasBreak locality first second
broken-has_break locality x first second broken = by (locality x.variable) refl broken
  where
    plain-read : locality x.variable ≡ Locality.Plain → touches x first ≡ true → exposes x second ≡ true → HasBreak locality first second
    plain-read is touched exposed =
        let at = exposed-split x second exposed in
        let here : reading_breaks (locality x.variable) x first at.split.before ≡ true =
        ap (λ l. reading_breaks l x first at.split.before) is
        ∙ and-true (touches x first) (not (touches x at.split.before)) touched (ap not at.fresh) in
        breaks-somewhere locality first second at.split.before at.split.entry at.split.after at.split.is
        (read-breaks locality x first at.split.before at.split.entry at.split.passes here)

    shared-read : locality x.variable ≡ Locality.Shared → touches x first ≡ true → reads x second ≡ true → HasBreak locality first second
    shared-read is touched read =
        let at = any-split (is_read_of x) second read in
        let here : reading_breaks (locality x.variable) x first at.before ≡ true = ap (λ l. reading_breaks l x first at.before) is ∙ touched in
        breaks-somewhere locality first second at.before at.entry at.after at.is (read-breaks locality x first at.before at.entry at.passes here)

    shared-touch : locality x.variable ≡ Locality.Shared → accesses x first ≡ true → touches x second ≡ true → HasBreak locality first second
    shared-touch is accessed touched = by_touch locality x first second touched (ap (λ l. touching_breaks l x first) is ∙ accessed)

    shared : locality x.variable ≡ Locality.Shared → (touches x first && accesses x second) ≡ true → HasBreak locality first second
    shared is both =
        let each = and-both (touches x first) (accesses x second) both in
        elim (or-either (reads x second) (touches x second) each.1) [
          | inl read ↦ shared-read is each.0 read
          | inr touched ↦ shared-touch is (or-right (reads x first) (touches x first) each.0) touched
        ]

    by : (l : Locality) → locality x.variable ≡ l → breaks l x first second ≡ true → HasBreak locality first second
    by Locality.Plain is broken =
        elim (or-either (touches x first && exposes x second) (touches x second && exposes x first) broken) [
          | inl both ↦ let each = and-both (touches x first) (exposes x second) both in plain-read is each.0 each.1
          | inr both ↦
              let each = and-both (touches x second) (exposes x first) both in
              by_touch locality x first second each.0 (ap (λ l. touching_breaks l x first) is ∙ each.1)
        ]
    by Locality.Shared is broken =
        elim (or-either (touches x first && accesses x second) (touches x second && accesses x first) broken) [
          | inl both ↦ shared is both
          | inr both ↦ let each = and-both (touches x second) (accesses x first) both in shared-touch is each.1 each.0
        ]
    by other is broken = absurd (false≢true broken)

-- ---- what is named beside it

-- Something is named beside the entry, and it is an access.
record NamesBeside (named : Option Entry) : Type 0 where
  beside : Entry
  access : Access
  is : named ≡ Some beside
  access_is : access_of beside ≡ Some access

access-read : (x : ElementId) (entry : Entry) → is_read_of x entry ≡ true → NamesBeside (Some entry)
access-read x (Reads y line) is = record { beside = Reads y line; access = _; is = refl; access_is = refl }
access-read x (Defines y value line) is = absurd (false≢true is)
access-read x (Undefines y line) is = absurd (false≢true is)
access-read x (Contributes y op value) is = absurd (false≢true is)

access-touch : (x : ElementId) (entry : Entry) → is_touch_of x entry ≡ true → NamesBeside (Some entry)
access-touch x (Reads y line) is = absurd (false≢true is)
access-touch x (Defines y value line) is = record { beside = Defines y value line; access = _; is = refl; access_is = refl }
access-touch x (Undefines y line) is = record { beside = Undefines y line; access = _; is = refl; access_is = refl }
access-touch x (Contributes y op value) is = absurd (false≢true is)

find-names
    : (test : Entry → Bool) → ((entry : Entry) → test entry ≡ true → NamesBeside (Some entry)) → (run : List Entry) → list_any test run ≡ true
    → NamesBeside (find test run)
find-names test named [] any = absurd (false≢true any)
find-names test named (entry ∷ run) any = by (test entry) refl any (find-names test named run)
  where
    by
        : (b : Bool) → test entry ≡ b → (b || list_any test run) ≡ true → (list_any test run ≡ true → NamesBeside (find test run))
        → NamesBeside (if b then Some entry else find test run)
    by true passes any later = named entry passes
    by false fails any later = later any

names-touch : (x : ElementId) (run : List Entry) → touches x run ≡ true → NamesBeside (first_touch x run)
names-touch x run touched = find-names (is_touch_of x) (access-touch x) run touched

names-read : (x : ElementId) (run : List Entry) → reads x run ≡ true → NamesBeside (first_read x run)
names-read x run read = find-names (is_read_of x) (access-read x) run read

names-for_read
    : (locality : Locality) (x : ElementId) (first before : List Entry) → reading_breaks locality x first before ≡ true
    → NamesBeside (first_touch x first)
names-for_read Locality.Plain x first before broken = names-touch x first (and-both (touches x first) (not (touches x before)) broken).0
names-for_read Locality.Shared x first before broken = names-touch x first broken
names-for_read other x first before broken = absurd (false≢true broken)

names-for_touch
    : (locality : Locality) (x : ElementId) (first : List Entry) → touching_breaks locality x first ≡ true → NamesBeside (other_side locality x first)
names-for_touch Locality.Plain x first exposed = names-read x first (exposed-is_read x first exposed)
names-for_touch Locality.Shared x first accessed = by (touches x first) refl (or-either (reads x first) (touches x first) accessed)
  where
    by
        : (b : Bool) → touches x first ≡ b → (reads x first ≡ true) ⊎ (touches x first ≡ true)
        → NamesBeside (if b then first_touch x first else first_read x first)
    by true touched side = names-touch x first touched
    by false untouched (inl read) = names-read x first read
    by false untouched (inr touched) = absurd (false≢true (sym untouched ∙ touched))
names-for_touch other x first broken = absurd (false≢true broken)

-- What is named beside an entry that breaks, with the access that this is.
record BreakIsTold (locality : ℕ → Locality) (first : List Entry) (entry : Entry) : Type 0 where
  access : Access
  access_is : access_of entry ≡ Some access
  beside : NamesBeside (named_beside locality first entry)

is_told
    : (locality : ℕ → Locality) (first before : List Entry) (entry : Entry) → entry_breaks locality first before entry ≡ true
    → BreakIsTold locality first entry
is_told locality first before (Reads x line) broken =
    record { access = _; access_is = refl; beside = names-for_read (locality x.variable) x first before broken }
is_told locality first before (Defines x value line) broken =
    record { access = _; access_is = refl; beside = names-for_touch (locality x.variable) x first broken }
is_told locality first before (Undefines x line) broken =
    record { access = _; access_is = refl; beside = names-for_touch (locality x.variable) x first broken }
is_told locality first before (Contributes x op value) broken = absurd (false≢true broken)

-- A race is told of two runs.
pub record HasRace (locality : ℕ → Locality) (i j : ℕ) (first second : List Entry) : Type 0 where
  pub found : Race
  pub is : race_of locality i j first second ≡ Some found

-- A first break is told as a race.
pub break-has_race
    : (locality : ℕ → Locality) (i j : ℕ) (first second : List Entry) → HasBreak locality first second → HasRace locality i j first second
break-has_race locality i j first second has =
    let at = break-at locality first [] second has.breaking has.is in
    let told = is_told locality first at.middle has.breaking at.broken in
    record {
      found = record { element = told.access.element; first = party i told.beside.access; second = party j told.access };
      is = ap (option_and_then (behind_break locality i j first)) has.is ∙ ap (option_and_then (behind_beside i j has.breaking)) told.beside.is
          ∙ ap (option_and_then (behind_access i j told.beside.beside)) told.access_is
          ∙ ap (option_and_then (behind_other i j told.access)) told.beside.access_is;
    }
