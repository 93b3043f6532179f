-- What PRINT and WRITE put on a line. List-directed formatting of ISO/IEC 1539-1:2023, clause 13.10.4,
-- leaves the widths and the blanks to the processor: the bytes are this project's own.
use Rattle.std.specs.Prelude.{ℕ, Bool, List, [], ◌∷◌, ◌++◌, if◌then◌else◌, ℤ}
use Rattle.std.specs.Fmt.{signed_decimal}
use Rattle.dc_int.specs.Kinds.{is_of_kind, is_truth_value}
use Rattle.dc_int.specs.Reductions.{truth}
use Rattle.dc_int.specs.Sorts.{Sort, whole, logical}

-- A value of this sort: a number in the range of its kind, or 0 or 1 for a LOGICAL.
abbrev pub is_of_sort : Sort → ℤ → Bool
is_of_sort (whole kind) z = is_of_kind kind z
is_of_sort logical z = is_truth_value z

-- A number in decimal digits, with `-` in front where it is negative; a LOGICAL as `T` or `F`.
abbrev pub written : Sort → ℤ → List ℕ
written (whole kind) z = signed_decimal z
written logical z = if truth z then 84 ∷ [] else 70 ∷ []

-- A value with its sort, as an item of a PRINT gives it.
abbrev pub Item : Type 0
Item = Sort × ℤ

-- its two parts
abbrev pub item_sort : Item → Sort
item_sort (sort, z) = sort

abbrev pub item_value : Item → ℤ
item_value (sort, z) = z

-- the value is one of the sort
abbrev pub item_fits : Item → Bool
item_fits (sort, z) = is_of_sort sort z

-- what the value writes
abbrev pub item_text : Item → List ℕ
item_text (sort, z) = written sort z

-- what stands behind a text: the others, each with a blank in front, and the line feed
abbrev pub rest_of_line : List (List ℕ) → List ℕ
rest_of_line [] = 10 ∷ []
rest_of_line (text ∷ texts) = 32 ∷ (text ++ rest_of_line texts)

-- A line of texts: one blank between them, and a line feed after the last. Where there is no text it
-- is the line feed alone. An empty text counts as one.
abbrev pub line_of : List (List ℕ) → List ℕ
line_of [] = 10 ∷ []
line_of (text ∷ texts) = text ++ rest_of_line texts

-- What a text adds to a line: a blank stands in front, unless it is the first of the line.
abbrev pub behind_blank : Bool → List ℕ → List ℕ
behind_blank first text = if first then text else 32 ∷ text
