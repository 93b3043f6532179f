-- The lists of a program's code, as they are made. This project's own.
use Rattle.std.specs.Prelude.{◌≡◌, ℕ, Bool, true, ◌&&◌, List, [], ◌∷◌, ◌++◌, length, map}
use Rattle.dc_int.specs.declared.variable.Locality.{Locality}
use Rattle.dc_int.specs.declared.variable.Shape.{Shape}
use Rattle.dc_code.specs.Codes.{CodeLists}
use Rattle.dc_tree.specs.declared.symbols.Symbol.{Symbol}
use Rattle.dc_tree.specs.Blocks.{Source, Line, Item, Items, loop, none, and_then}
use Rattle.dc_tree.specs.Entities.{main_scope}
use Rattle.dc_meaning.specs.Calls.{callee, greatest_call_depth, procedures_from}
use Rattle.dc_meaning.specs.Concurrent.{Concurrent, Surroundings}
use Rattle.dc_meaning.specs.Numbering.{concurrent_at, loop_and_inside, loops_of, loops_of_all}
use Rattle.dc_meaning.specs.WalkScope.{index_scope}
use Rattle.dc_meaning.specs.Looping.{index_name}
use Rattle.dc_lower.specs.Held.{block_has_code}
use Rattle.dc_lower.specs.declared.program.Lists.{Lists}
use Rattle.dc_lower.specs.Blocks.{texts_of_block}
use Rattle.dc_lower.specs.Lowered.{main_code, main_plan, loops_code, plans_of_loops, constructs_from}
use Rattle.dc_lower.specs.Variables.{outsides_of, shapes_of, bounds_of_all}

abbrev pub lists_code : Lists → CodeLists
lists_code lists = record {
  instructions = lists.instructions;
  texts = lists.texts;
  shapes = lists.shapes;
  bounds = lists.bounds;
  plans = lists.plans;
  entries = lists.entries;
  constructs = lists.constructs;
}

-- What the loops of a program without procedures share.
abbrev pub within_of : List Symbol → Surroundings
within_of symbols = record { outsides = outsides_of symbols; call = callee (procedures_from symbols 1 []) greatest_call_depth; turns = 0 }

-- The loops of an item and of a block of the main program, before which there are so many.
abbrev pub loops_at : List Symbol → ℕ → Item → List Concurrent
loops_at symbols number item = loops_of (within_of symbols) (main_scope symbols) number item

abbrev pub loops_behind : List Symbol → ℕ → Items → List Concurrent
loops_behind symbols number block = loops_of_all (within_of symbols) (main_scope symbols) number block

-- Loops add their instructions, their plans and their constructs.
pub record AddsLoops (symbols : List Symbol) (before after : Lists) (loops : List Concurrent) : Type 0 where
  pub instructions : after.instructions ≡ before.instructions ++ loops_code (within_of symbols) loops
  pub plans : after.plans ≡ before.plans ++ plans_of_loops (within_of symbols) loops
  pub constructs : after.constructs ≡ before.constructs ++ constructs_from (within_of symbols) (length before.instructions) loops
  pub texts : after.texts ≡ before.texts
  pub shapes : after.shapes ≡ before.shapes
  pub bounds : after.bounds ≡ before.bounds
  pub entries : after.entries ≡ before.entries

-- The loop with this header and block, before which there are so many.
abbrev pub loop_at : List Symbol → ℕ → Line → Items → List Concurrent
loop_at symbols number head body =
    loop_and_inside (within_of symbols) (main_scope symbols) number (concurrent_at (main_scope symbols) number head body) (λ inner from. loops_of_all (within_of symbols) inner from body)

-- The block of a loop has instructions.
abbrev pub inside_has_code : List Symbol → Item → Bool
inside_has_code symbols (loop head body close) = block_has_code (index_scope symbols (index_name head.says)) body
inside_has_code symbols other = true

abbrev pub insides_have_code : List Symbol → Items → Bool
insides_have_code symbols none = true
insides_have_code symbols (and_then first rest) = inside_has_code symbols first && insides_have_code symbols rest

abbrev pub plain_localities : List Shape → List Locality
plain_localities shapes = map (λ shape. Locality.Plain) shapes

-- Lists with the main program alone.
pub record IsBegun (symbols : List Symbol) (source : Source) (lists : Lists) : Type 0 where
  pub instructions : lists.instructions ≡ main_code symbols source
  pub texts : lists.texts ≡ texts_of_block source.body
  pub shapes : lists.shapes ≡ shapes_of symbols
  pub bounds : lists.bounds ≡ bounds_of_all symbols
  pub plans : lists.plans ≡ main_plan symbols source ∷ []
  pub entries : lists.entries ≡ []
  pub constructs : lists.constructs ≡ []
