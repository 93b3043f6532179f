-- How the plain judge goes: for each element the least and the greatest iteration that touch it or have an
-- exposed read of it, kept while the iterations run one after another. No clause of a public call rests on it.
use Rattle.std.specs.Prelude.{ℕ, suc, ◌==◌, Bool, true, false, not, ◌&&◌, List, [], ◌∷◌, length, map, replicate, Option, Some, None, if◌then◌else◌}
use Rattle.dc_int.specs.declared.access.ElementId.{ElementId}
use Rattle.dc_int.specs.Entries.{Entry, Reads, Defines, Undefines, Contributes}
use Rattle.dc_int.specs.Store.{Store, Variable, changed_at, put_at}
use Rattle.dc_code.specs.Pairs.{Ends}

-- The touchers and the exposed readers of an element.
pub record Mark : Type 0 where
  pub touchers : Option Ends
  pub readers : Option Ends

abbrev pub Marks : Type 0
Marks = List (List Mark)

abbrev pub blank : Mark
blank = record { touchers = None; readers = None }

abbrev pub blank_row : Variable → List Mark
blank_row variable = replicate (length variable.cells) blank

-- No mark yet of each element of a store.
abbrev pub blank_marks : Store → Marks
blank_marks store = map blank_row store

-- One more iteration, which isn't less than those before.
abbrev pub with_iteration : ℕ → Option Ends → Option Ends
with_iteration iteration None = Some (record { least = iteration; greatest = iteration })
with_iteration iteration (Some ends) = Some (record { least = ends.least; greatest = iteration })

abbrev pub is_last : ℕ → Option Ends → Bool
is_last iteration None = false
is_last iteration (Some ends) = ends.greatest == iteration

abbrev pub touched_in : ℕ → Mark → Mark
touched_in iteration mark = record { touchers = with_iteration iteration mark.touchers; readers = mark.readers }

-- A read is exposed where its iteration hasn't touched the element yet.
abbrev pub read_in : ℕ → Mark → Mark
read_in iteration mark =
    if is_last iteration mark.touchers then mark else record { touchers = mark.touchers; readers = with_iteration iteration mark.readers }

-- by a touch, or by a read
abbrev pub changed_by : Bool → ℕ → Mark → Mark
changed_by true iteration mark = touched_in iteration mark
changed_by false iteration mark = read_in iteration mark

abbrev pub changed_in : Bool → ℕ → ElementId → Marks → Marks
changed_in is_touch iteration x marks = changed_at (λ row. changed_at (changed_by is_touch iteration) row x.position) marks x.variable

-- The marks with what an iteration did once more.
abbrev pub marked : ℕ → Entry → Marks → Marks
marked iteration (Reads x line) marks = changed_in false iteration x marks
marked iteration (Defines x value line) marks = changed_in true iteration x marks
marked iteration (Undefines x line) marks = changed_in true iteration x marks
marked iteration (Contributes x op value) marks = marks

abbrev pub marked_all : ℕ → List Entry → Marks → Marks
marked_all iteration [] marks = marks
marked_all iteration (entry ∷ entries) marks = marked_all iteration entries (marked iteration entry marks)

-- The marks after iterations that are counted from a number on.
abbrev pub marked_runs : ℕ → List (List Entry) → Marks → Marks
marked_runs n [] marks = marks
marked_runs n (run ∷ runs) marks = marked_runs (suc n) runs (marked_all n run marks)

-- A toucher and an exposed reader are different iterations.
abbrev pub are_one : Ends → Ends → Bool
are_one touchers readers = (touchers.least == touchers.greatest && readers.least == readers.greatest) && touchers.least == readers.least

-- The element of the first mark that is a clash, and the pair that it names.
pub record Named : Type 0 where
  pub element : ElementId
  pub pair : ℕ × ℕ

-- a toucher and a reader that are different
abbrev pub with_reader_of : Ends → Ends → ℕ × ℕ
with_reader_of touchers readers =
    if not (readers.least == touchers.least) then (touchers.least, readers.least)
    else (if not (readers.greatest == touchers.least) then (touchers.least, readers.greatest) else (touchers.greatest, readers.least))

abbrev pub named_by : ElementId → Mark → Option Named
named_by x mark = by mark.touchers mark.readers
  where
    by : Option Ends → Option Ends → Option Named
    by (Some touchers) (Some readers) =
        if are_one touchers readers then None else Some (record { element = x; pair = with_reader_of touchers readers })
    by touchers readers = None

abbrev pub or_named : Option Named → Option Named → Option Named
or_named (Some named) later = Some named
or_named None later = later

abbrev pub named_in_row : ℕ → ℕ → List Mark → Option Named
named_in_row variable position [] = None
named_in_row variable position (mark ∷ marks) = or_named (named_by (record { variable = variable; position = position }) mark) (named_in_row variable (suc position) marks)

abbrev pub named_from : ℕ → Marks → Option Named
named_from variable [] = None
named_from variable (row ∷ marks) = or_named (named_in_row variable 0 row) (named_from (suc variable) marks)

-- ---- elements that two iterations touch

abbrev pub is_twice : Mark → Bool
is_twice mark = by mark.touchers
  where
    by : Option Ends → Bool
    by None = false
    by (Some touchers) = not (touchers.least == touchers.greatest)

-- The store with those elements undefined, one after another.
abbrev pub forget_in_row : ℕ → ℕ → List Mark → Store → Store
forget_in_row variable position [] store = store
forget_in_row variable position (mark ∷ marks) store =
    forget_in_row variable (suc position) marks (if is_twice mark then put_at store (record { variable = variable; position = position }) None else store)

abbrev pub forget_from : ℕ → Marks → Store → Store
forget_from variable [] store = store
forget_from variable (row ∷ marks) store = forget_from (suc variable) marks (forget_in_row variable 0 row store)
