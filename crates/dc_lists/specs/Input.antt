-- What READ takes from the input. An input is told by the bytes that are left of it. List-directed
-- formatting after ISO/IEC 1539-1:2023, clauses 13.10.2 and 13.10.3, without null values, repeat counts
-- and slashes; which bytes are passed, and the faults, are this project's own.
use Rattle.std.specs.Prelude.{ℕ, zero, ◌==◌, Bool, not, ◌||◌, List, [], ◌∷◌, length, Option, Some, None, option_map, Result, Ok, Err, if◌then◌else◌, ℤ, pos, neg_ℤ}
use Rattle.std.specs.Str.{all_ascii_digits}
use Rattle.std.specs.Str.Parse.{digits_value}
use Rattle.dc_int.specs.declared.fault.FaultKind.{FaultKind}
use Rattle.dc_int.specs.declared.kind.Kind.{Kind}
use Rattle.dc_int.specs.Kinds.{is_of_kind}
use Rattle.dc_int.specs.Sorts.{Sort, whole, logical}

-- What was taken, and the bytes that are then left; or the fault.
abbrev pub Taken : Type 0 → Type 0
Taken A = Result (A × List ℕ) FaultKind

-- What a result holds is handed on, for `do` blocks.
infixl 20 ◌>>=◌
abbrev pub ◌>>=◌ : {A B : Type 0} → Result A FaultKind → (A → Result B FaultKind) → Result B FaultKind
Ok given >>= next = next given
Err fault >>= next = Err fault

-- ---- bytes

-- a blank, a tab or a carriage return
abbrev pub is_space : ℕ → Bool
is_space byte = (byte == 32 || byte == 9) || byte == 13

-- what stands between values: one of these, or a line feed
abbrev pub is_gap : ℕ → Bool
is_gap byte = is_space byte || byte == 10

-- what a value is made of: none of these, and no comma
abbrev pub is_part : ℕ → Bool
is_part byte = not (is_gap byte || byte == 44)

-- The longest run of bytes in front that pass a test.
abbrev pub run_of : (ℕ → Bool) → List ℕ → List ℕ
run_of test [] = []
run_of test (byte ∷ left) = if test byte then byte ∷ run_of test left else []

-- what is left behind that run
abbrev pub past_run : (ℕ → Bool) → List ℕ → List ℕ
past_run test [] = []
past_run test (byte ∷ left) = if test byte then past_run test left else byte ∷ left

-- ---- the text of a value

-- what is left behind one comma, if it is there
abbrev pub past_comma : List ℕ → List ℕ
past_comma [] = []
past_comma (byte ∷ left) = if byte == 44 then left else byte ∷ left

-- What is left behind a value, once blanks, tabs and carriage returns are passed, and one comma.
abbrev pub past_separator : List ℕ → List ℕ
past_separator left = past_comma (past_run is_space left)

-- The text of a value that begins here.
abbrev pub text_here : List ℕ → Taken (List ℕ)
text_here [] = Err FaultKind.EndOfInput
text_here (byte ∷ left) =
    if is_part byte then Ok (run_of is_part (byte ∷ left), past_separator (past_run is_part (byte ∷ left))) else Err FaultKind.BadInput

-- The text of the next value: blanks, tabs, carriage returns and line feeds are passed first.
abbrev pub take_text : List ℕ → Taken (List ℕ)
take_text input = text_here (past_run is_gap input)

-- ---- numbers

-- The number that one or more digits write.
abbrev pub unsigned_in : List ℕ → Option ℕ
unsigned_in [] = None
unsigned_in (byte ∷ text) = if all_ascii_digits (byte ∷ text) then Some (digits_value 10 (byte ∷ text)) else None

-- minus a number
abbrev pub negative : ℕ → ℤ
negative n = neg_ℤ (pos n)

-- the number that digits write behind this byte, which may be a sign
abbrev pub signed_from : ℕ → List ℕ → Option ℤ
signed_from byte text =
    if byte == 45 then option_map negative (unsigned_in text)
    else (if byte == 43 then option_map pos (unsigned_in text) else option_map pos (unsigned_in (byte ∷ text)))

-- The number that an optional sign and one or more digits write.
abbrev pub signed_in : List ℕ → Option ℤ
signed_in [] = None
signed_in (byte ∷ text) = signed_from byte text

-- The number, where there is one and it is in the range of the kind.
abbrev pub of_kind : Kind → Option ℤ → Result ℤ FaultKind
of_kind kind None = Err FaultKind.BadInput
of_kind kind (Some z) = if is_of_kind kind z then Ok z else Err FaultKind.BadInput

-- ---- truths

-- the text behind a period, if it is there
abbrev pub past_period : List ℕ → List ℕ
past_period [] = []
past_period (byte ∷ text) = if byte == 46 then text else byte ∷ text

-- T or F, in either case, whatever stands behind it
abbrev pub truth_from : List ℕ → Result ℤ FaultKind
truth_from [] = Err FaultKind.BadInput
truth_from (byte ∷ text) =
    if byte == 84 || byte == 116 then Ok (pos 1) else (if byte == 70 || byte == 102 then Ok (pos 0) else Err FaultKind.BadInput)

-- ---- values

-- The value that a text gives for this sort: a number of its kind, or a truth behind an optional period.
abbrev pub value_of : Sort → List ℕ → Result ℤ FaultKind
value_of (whole kind) text = of_kind kind (signed_in text)
value_of logical text = truth_from (past_period text)

-- The next value, of this sort, and what is left behind it; or the fault, and nothing is taken.
abbrev pub take_value : Sort → List ℕ → Taken ℤ
take_value sort input = do
  (text, left) ← take_text input
  value ← value_of sort text
  Ok (value, left)

-- a number of this kind
abbrev pub take_number : Kind → List ℕ → Taken ℤ
take_number kind input = take_value (whole kind) input

-- a LOGICAL: 0 or 1
abbrev pub take_truth : List ℕ → Taken ℤ
take_truth input = take_value logical input

-- ---- the end of a READ

-- What is left behind the next line feed; nothing, where the last line has none.
abbrev pub past_line : List ℕ → List ℕ
past_line [] = []
past_line (byte ∷ left) = if byte == 10 then left else past_line left

-- The end of a READ of so many items: the rest of the line is passed. Where there is no item, there has
-- to be a line.
abbrev pub end_reading : ℕ → List ℕ → Result (List ℕ) FaultKind
end_reading zero [] = Err FaultKind.EndOfInput
end_reading items input = Ok (past_line input)

-- The values for items that are variables of these sorts, one after the other.
abbrev pub take_values : List Sort → List ℕ → Taken (List ℤ)
take_values [] input = Ok ([], input)
take_values (sort ∷ sorts) input = do
  (value, left) ← take_value sort input
  (values, behind) ← take_values sorts left
  Ok (value ∷ values, behind)

-- What such a READ takes as a whole: the rest of its last line is passed too.
abbrev pub whole_read : List Sort → List ℕ → Taken (List ℤ)
whole_read sorts input = do
  (values, behind) ← take_values sorts input
  left ← end_reading (length sorts) behind
  Ok (values, left)
