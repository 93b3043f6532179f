-- A line of values is read back.
use Rattle.std.proofs.Common.{◌≡◌, ℕ, zero, suc, true, List, [], ◌∷◌, ◌++◌, map, length, Ok, refl, ap, ◌∙◌, append_assoc}
use Rattle.std.proofs.lemmas.Bool.{and_parts}
use Rattle.std.specs.Prelude.{ℤ}
use Rattle.std.specs.List.{list_all}
use Rattle.dc_int.specs.Sorts.{Sort}
use Rattle.dc_lists.specs.Input.{Taken, ◌>>=◌, past_separator, take_value, take_values, end_reading, whole_read}
use Rattle.dc_lists.specs.Output.{Item, item_sort, item_value, item_fits, item_text, is_of_sort, written, rest_of_line, line_of}
use Rattle.dc_lists.proofs.Texts.{stops, past_blank, value_taken}
use Rattle.dc_lists.proofs.Numbers.{written_is_value}

pub value_back : (sort : Sort) (z : ℤ) (left : List ℕ) → is_of_sort sort z ≡ true → take_value sort (written sort z ++ 10 ∷ left) ≡ Ok (z, 10 ∷ left)
value_back sort z left fits = value_taken sort z (written sort z) (10 ∷ left) (written_is_value sort z fits) refl

-- behind a text stands a blank or a line feed
rest_stops : (texts : List (List ℕ)) (left : List ℕ) → stops (rest_of_line texts ++ left) ≡ true
rest_stops [] left = refl
rest_stops (text ∷ texts) left = refl

-- One value is taken, and then the others.
one_more : (item : Item) (items : List Item) (tail left : List ℕ) → item_fits item ≡ true → stops tail ≡ true
    → take_values (map item_sort items) (past_separator tail) ≡ Ok (map item_value items, 10 ∷ left)
    → take_values (map item_sort (item ∷ items)) (item_text item ++ tail) ≡ Ok (map item_value (item ∷ items), 10 ∷ left)
one_more (sort, z) items tail left fits stop others =
    ap (λ (found : Taken ℤ). found >>= (λ one. take_values (map item_sort items) one.1 >>= (λ more. Ok (one.0 ∷ more.0, more.1))))
    (value_taken sort z (written sort z) tail (written_is_value sort z fits) stop)
    ∙ ap (λ (found : Taken (List ℤ)). found >>= (λ more. Ok (z ∷ more.0, more.1))) others

-- The rest of a line is read back from behind the blank with which it begins.
rest_back : (items : List Item) (left : List ℕ) → list_all item_fits items ≡ true
    → take_values (map item_sort items) (past_separator (rest_of_line (map item_text items) ++ left)) ≡ Ok (map item_value items, 10 ∷ left)
rest_back [] left fit = refl
rest_back ((sort, z) ∷ items) left fit =
    let fits = and_parts (is_of_sort sort z) (list_all item_fits items) fit in
    let text : List ℕ = written sort z in
    let is = written_is_value sort z fits.0 in
    let rest : List ℕ = rest_of_line (map item_text items) in
    let begins : past_separator (32 ∷ ((text ++ rest) ++ left)) ≡ text ++ (rest ++ left) =
    ap (λ bytes. past_separator (32 ∷ bytes)) (append_assoc text rest left) ∙ past_blank text (rest ++ left) is.some is.parts in
    ap (λ bytes. take_values (sort ∷ map item_sort items) bytes) begins
    ∙ one_more (sort, z) items (rest ++ left) left fits.0 (rest_stops (map item_text items) left) (rest_back items left fits.1)

values_back : (items : List Item) (left : List ℕ) → list_all item_fits items ≡ true
    → take_values (map item_sort items) (line_of (map item_text items) ++ left) ≡ Ok (map item_value items, 10 ∷ left)
values_back [] left fit = refl
values_back ((sort, z) ∷ items) left fit =
    let fits = and_parts (is_of_sort sort z) (list_all item_fits items) fit in
    let text : List ℕ = written sort z in
    let rest : List ℕ = rest_of_line (map item_text items) in
    ap (λ bytes. take_values (sort ∷ map item_sort items) bytes) (append_assoc text rest left)
    ∙ one_more (sort, z) items (rest ++ left) left fits.0 (rest_stops (map item_text items) left) (rest_back items left fits.1)

-- a line that is left to be ended
ended : (count : ℕ) (left : List ℕ) → end_reading count (10 ∷ left) ≡ Ok left
ended zero left = refl
ended (suc count) left = refl

pub line_back : (items : List Item) (left : List ℕ) → list_all item_fits items ≡ true
    → whole_read (map item_sort items) (line_of (map item_text items) ++ left) ≡ Ok (map item_value items, left)
line_back items left fit =
    let count : ℕ = length (map item_sort items) in
    ap (λ (found : Taken (List ℤ)). found >>= (λ taken. end_reading count taken.1 >>= (λ behind. Ok (taken.0, behind)))) (values_back items left fit)
    ∙ ap (λ found. found >>= (λ behind. Ok (map item_value items, behind))) (ended count left)
