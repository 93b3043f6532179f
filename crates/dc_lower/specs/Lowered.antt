-- The code of a whole program. This project's own.
use Rattle.std.specs.Prelude.{ℕ, ◌+◌, Bool, true, false, List, [], ◌∷◌, ◌++◌, length, map, flat_map, None}
use Rattle.dc_int.specs.declared.kind.Kind.{Kind}
use Rattle.dc_int.specs.declared.variable.Shape.{Shape}
use Rattle.dc_int.specs.Sorts.{Sort, whole, logical, kind_of}
use Rattle.dc_int.specs.Store.{elements_in}
use Rattle.dc_code.specs.declared.instr.Instr.{Instr}
use Rattle.dc_code.specs.declared.instr.What.{What}
use Rattle.dc_code.specs.declared.plan.ConstructCode.{ConstructCode}
use Rattle.dc_code.specs.declared.plan.Group.{Group}
use Rattle.dc_code.specs.declared.plan.Plan.{Plan}
use Rattle.dc_code.specs.Codes.{CodeLists}
use Rattle.dc_tree.specs.declared.symbols.Symbol.{Symbol}
use Rattle.dc_tree.specs.Blocks.{Source}
use Rattle.dc_tree.specs.Entities.{main_scope}
use Rattle.dc_tree.specs.Statements.{Ranging}
use Rattle.dc_meaning.specs.Concurrent.{Outside, Concurrent, Surroundings, index_sort, locality_of, block_scope}
use Rattle.dc_meaning.specs.Programs.{surroundings, program_loops}
use Rattle.dc_actions.specs.Deeds.{lined}
use Rattle.dc_lower.specs.Blocks.{part_code, texts_of_block, groups_of_block}
use Rattle.dc_actions.specs.Limits.{limits_code}

-- ---- outside variables

abbrev pub is_truth : Sort → Bool
is_truth (whole its_kind) = false
is_truth logical = true

abbrev pub shape_of : Outside → Shape
shape_of variable = record { kind = kind_of variable.sort; logical = is_truth variable.sort; elements = elements_in variable.bounds }

-- ---- loops

abbrev pub kind_of_index : Concurrent → Ranging → Kind
kind_of_index loop ranging = kind_of (index_sort loop.around loop.spec ranging)

abbrev pub header_code : Concurrent → List Instr
header_code loop =
    lined loop.line (flat_map (λ ranging. limits_code loop.around (kind_of_index loop ranging) ranging) loop.indexes ++ What.End ∷ [])

-- No text and no loop stands in the block of a loop.
abbrev pub body_code : Surroundings → Concurrent → List Instr
body_code within loop = part_code (block_scope within loop) 0 (block_scope within loop).groups 0 loop.body loop.line

abbrev pub loop_code : Surroundings → Concurrent → List Instr
loop_code within loop = header_code loop ++ body_code within loop

abbrev pub loops_code : Surroundings → List Concurrent → List Instr
loops_code within loops = flat_map (loop_code within) loops

-- ---- plans

abbrev pub no_slots : Plan
no_slots = record { dummies = []; groups = [] }

-- An index is a scalar.
abbrev pub index_group : Kind → Group
index_group its_kind = record { kind = its_kind; logical = false; bounds = [] }

abbrev pub kinds_of_indexes : Concurrent → List Kind
kinds_of_indexes loop = map (kind_of_index loop) loop.indexes

abbrev pub body_plan : Surroundings → Concurrent → Plan
body_plan within loop = record { dummies = []; groups = map index_group (kinds_of_indexes loop) ++ groups_of_block (block_scope within loop) loop.body }

-- A header has no slots.
abbrev pub plans_of_loops : Surroundings → List Concurrent → List Plan
plans_of_loops within [] = []
plans_of_loops within (loop ∷ loops) = no_slots ∷ (body_plan within loop ∷ plans_of_loops within loops)

-- ---- where the parts of a loop begin

abbrev pub construct_at : Surroundings → (at : ℕ) → Concurrent → ConstructCode
construct_at within at loop = record {
  line = loop.line;
  width = length loop.indexes;
  kinds = kinds_of_indexes loop;
  header = at;
  mask = None;
  body = at + length (header_code loop);
  localities = map (λ (variable : Outside). locality_of loop.locality variable.name) within.outsides;
}

abbrev pub constructs_from : Surroundings → (at : ℕ) → List Concurrent → List ConstructCode
constructs_from within at [] = []
constructs_from within at (loop ∷ loops) = construct_at within at loop ∷ constructs_from within (at + length (loop_code within loop)) loops

-- ---- programs

abbrev pub main_code : List Symbol → Source → List Instr
main_code symbols source = part_code (main_scope symbols) 0 0 0 source.body source.close.line

abbrev pub main_plan : List Symbol → Source → Plan
main_plan symbols source = record { dummies = []; groups = groups_of_block (main_scope symbols) source.body }

-- The main program, and behind it the header and the block of each loop.
abbrev pub lowered_with : List Symbol → Source → Surroundings → List Concurrent → CodeLists
lowered_with symbols source within loops = record {
  instructions = main_code symbols source ++ loops_code within loops;
  texts = texts_of_block source.body;
  shapes = map shape_of within.outsides;
  bounds = map (λ (variable : Outside). variable.bounds) within.outsides;
  plans = main_plan symbols source ∷ plans_of_loops within loops;
  entries = [];
  constructs = constructs_from within (length (main_code symbols source)) loops;
}

-- The code of a program. How many turns the loops have doesn't matter to it.
abbrev pub lowered : List Symbol → Source → CodeLists
lowered symbols source = lowered_with symbols source (surroundings symbols source 0) (program_loops symbols source 0)
