-- The words of a listing: a list of bytes each, and a line of them. This project's own.
use Rattle.std.specs.Prelude.{ℕ, zero, suc, ◌+◌, Bool, true, false, List, [], ◌∷◌, ◌++◌, map, flat_map, length, Option, Some, None, ℤ, pos, negsuc, codes}
use Rattle.std.specs.Int.Digits.{digits_of}
use Rattle.dc_int.specs.declared.kind.Kind.{Kind}
use Rattle.dc_int.specs.declared.operation.Op.{Op}
use Rattle.dc_int.specs.declared.operation.ReduceOp.{ReduceOp}
use Rattle.dc_int.specs.declared.variable.Locality.{Locality}
use Rattle.dc_code.specs.declared.instr.Folding.{Folding}
use Rattle.dc_code.specs.declared.instr.Relation.{Relation}
use Rattle.dc_code.specs.declared.plan.Passing.{Passing}

abbrev pub Word : Type 0
Word = List ℕ

-- ---- lines

-- a word behind a blank
abbrev pub field : Word → List ℕ
field word = 32 ∷ word

-- Words, a blank in front of each.
unfoldable pub fields : List Word → List ℕ
fields words = flat_map field words

-- A line: its first word, the others with blanks between them, and a line feed.
abbrev pub line : Word → List Word → List ℕ
line first others = first ++ (fields others ++ 10 ∷ [])

-- ---- numbers

-- A number in decimal digits.
unfoldable pub number : ℕ → Word
number zero = codes "0"
number (suc n) = map (λ digit. 48 + digit) (digits_of 10 (suc n))

-- A number with `-` in front where it is negative.
abbrev pub signed : ℤ → Word
signed (pos n) = number n
signed (negsuc n) = 45 ∷ number (suc n)

-- A number that may be missing: `-` where it is.
abbrev pub number_or_none : Option ℕ → Word
number_or_none None = codes "-"
number_or_none (Some n) = number n

-- ---- lists

-- How many items there are, and the words of each.
abbrev pub list_words : {A : Type 0} → (A → List Word) → List A → List Word
list_words words items = number (length items) ∷ flat_map words items

-- ---- names

abbrev pub truth_word : Bool → Word
truth_word true = codes "T"
truth_word false = codes "F"

-- a kind by its number of bytes
abbrev pub kind_word : Kind → Word
kind_word Kind.K1 = codes "1"
kind_word Kind.K2 = codes "2"
kind_word Kind.K4 = codes "4"
kind_word Kind.K8 = codes "8"

abbrev pub operation_word : Op → Word
operation_word Op.Add = codes "Add"
operation_word Op.Sub = codes "Sub"
operation_word Op.Mul = codes "Mul"
operation_word Op.Neg = codes "Neg"
operation_word Op.Abs = codes "Abs"
operation_word Op.Div = codes "Div"
operation_word Op.Mod = codes "Mod"
operation_word Op.Modulo = codes "Modulo"
operation_word Op.Pow = codes "Pow"
operation_word Op.Min = codes "Min"
operation_word Op.Max = codes "Max"
operation_word Op.Sign = codes "Sign"
operation_word Op.Dim = codes "Dim"
operation_word Op.Iand = codes "Iand"
operation_word Op.Ior = codes "Ior"
operation_word Op.Ieor = codes "Ieor"
operation_word Op.Not = codes "Not"
operation_word Op.Ishft = codes "Ishft"
operation_word Op.Shiftl = codes "Shiftl"
operation_word Op.Shiftr = codes "Shiftr"
operation_word Op.Shifta = codes "Shifta"
operation_word Op.Ibset = codes "Ibset"
operation_word Op.Ibclr = codes "Ibclr"
operation_word Op.Popcnt = codes "Popcnt"

abbrev pub reduction_word : ReduceOp → Word
reduction_word ReduceOp.Add = codes "Add"
reduction_word ReduceOp.Mul = codes "Mul"
reduction_word ReduceOp.And = codes "And"
reduction_word ReduceOp.Or = codes "Or"
reduction_word ReduceOp.Eqv = codes "Eqv"
reduction_word ReduceOp.Neqv = codes "Neqv"
reduction_word ReduceOp.Max = codes "Max"
reduction_word ReduceOp.Min = codes "Min"
reduction_word ReduceOp.Iand = codes "Iand"
reduction_word ReduceOp.Ior = codes "Ior"
reduction_word ReduceOp.Ieor = codes "Ieor"

abbrev pub relation_word : Relation → Word
relation_word Relation.Eq = codes "Eq"
relation_word Relation.Ne = codes "Ne"
relation_word Relation.Lt = codes "Lt"
relation_word Relation.Le = codes "Le"
relation_word Relation.Gt = codes "Gt"
relation_word Relation.Ge = codes "Ge"

abbrev pub folding_word : Folding → Word
folding_word Folding.Sum = codes "Sum"
folding_word Folding.Count = codes "Count"
folding_word Folding.Any = codes "Any"
folding_word Folding.All = codes "All"

abbrev pub passing_word : Passing → Word
passing_word Passing.Value = codes "Value"
passing_word Passing.Place = codes "Place"
passing_word Passing.OutPlace = codes "OutPlace"

-- a locality by its word, and behind `Reduce` the operation
abbrev pub locality_words : Locality → List Word
locality_words Locality.Plain = codes "Plain" ∷ []
locality_words Locality.Shared = codes "Shared" ∷ []
locality_words Locality.Local = codes "Local" ∷ []
locality_words Locality.LocalInit = codes "LocalInit" ∷ []
locality_words (Locality.Reduce op) = codes "Reduce" ∷ reduction_word op ∷ []
