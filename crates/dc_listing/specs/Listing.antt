-- A code as text. Its instructions come first, a line each: the place, the line of the source, the name and the
-- operands. Then there is a line for each text, shape, list of bounds, plan, entry and construct: the word for it, its
-- number, and its parts. This project's own.
use Rattle.std.specs.Prelude.{ℕ, suc, List, [], ◌∷◌, ◌++◌, ℤ, codes}
use Rattle.dc_int.specs.declared.kind.Kind.{Kind}
use Rattle.dc_int.specs.declared.variable.Shape.{Shape}
use Rattle.dc_int.specs.Store.{Bounds}
use Rattle.dc_code.specs.declared.instr.Instr.{Instr}
use Rattle.dc_code.specs.declared.plan.ConstructCode.{ConstructCode}
use Rattle.dc_code.specs.declared.plan.DummyPlan.{DummyPlan}
use Rattle.dc_code.specs.declared.plan.Group.{Group}
use Rattle.dc_code.specs.declared.plan.Plan.{Plan}
use Rattle.dc_code.specs.Codes.{CodeLists}
use Rattle.dc_listing.specs.Instructions.{name, operands}
use Rattle.dc_listing.specs.Words.{Word, line, number, signed, number_or_none, list_words, truth_word, kind_word, passing_word, locality_words}

-- ---- the words of each part

abbrev pub instruction_words : Instr → List Word
instruction_words instruction = number instruction.line ∷ name instruction.what ∷ operands instruction.what

abbrev pub byte_words : ℕ → List Word
byte_words byte = number byte ∷ []

-- a text by its bytes, whatever they are
abbrev pub text_words : List ℕ → List Word
text_words text = list_words byte_words text

abbrev pub shape_words : Shape → List Word
shape_words shape = kind_word shape.kind ∷ truth_word shape.logical ∷ number shape.elements ∷ []

-- the least and the greatest subscript of a dimension
abbrev pub dimension_words : ℤ × ℤ → List Word
dimension_words (low, high) = signed low ∷ signed high ∷ []

abbrev pub bounds_words : Bounds → List Word
bounds_words bounds = list_words dimension_words bounds

abbrev pub dummy_words : DummyPlan → List Word
dummy_words dummy = kind_word dummy.kind ∷ truth_word dummy.logical ∷ passing_word dummy.passing ∷ []

abbrev pub group_words : Group → List Word
group_words group = kind_word group.kind ∷ truth_word group.logical ∷ bounds_words group.bounds

abbrev pub plan_words : Plan → List Word
plan_words plan = list_words dummy_words plan.dummies ++ list_words group_words plan.groups

abbrev pub entry_words : ℕ → List Word
entry_words entry = number entry ∷ []

abbrev pub index_words : Kind → List Word
index_words kind = kind_word kind ∷ []

-- the line, the width and the indexes of a loop
abbrev pub header_words : ConstructCode → List Word
header_words construct = number construct.line ∷ number construct.width ∷ list_words index_words construct.kinds

-- where its parts begin, and its localities
abbrev pub parts_words : ConstructCode → List Word
parts_words construct =
    number construct.header ∷ number_or_none construct.mask ∷ number construct.body ∷ list_words locality_words construct.localities

abbrev pub construct_words : ConstructCode → List Word
construct_words construct = header_words construct ++ parts_words construct

-- ---- lines

-- A line for each item, by what the line of a numbered item is, from a number on.
abbrev pub section : {A : Type 0} → (ℕ → A → List ℕ) → ℕ → List A → List ℕ
section made from [] = []
section made from (item ∷ items) = made from item ++ section made (suc from) items

abbrev pub instruction_line : ℕ → Instr → List ℕ
instruction_line place instruction = line (number place) (instruction_words instruction)

-- the line of an item that is told by a word
abbrev pub told_line : {A : Type 0} → Word → (A → List Word) → ℕ → A → List ℕ
told_line word words place item = line word (number place ∷ words item)

-- The listing of a code.
abbrev pub listing : CodeLists → List ℕ
listing code =
    section instruction_line 0 code.instructions
    ++ section (told_line (codes "text") text_words) 0 code.texts
    ++ section (told_line (codes "shape") shape_words) 0 code.shapes
    ++ section (told_line (codes "bounds") bounds_words) 0 code.bounds
    ++ section (told_line (codes "plan") plan_words) 0 code.plans
    ++ section (told_line (codes "entry") entry_words) 0 code.entries
    ++ section (told_line (codes "construct") construct_words) 0 code.constructs
