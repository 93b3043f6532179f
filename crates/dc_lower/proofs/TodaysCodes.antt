-- The code of a program takes nothing in, doesn't stop, and enters its loops alone.
use Rattle.std.proofs.Common.{◌≡◌, ◌≤◌, ℕ, zero, suc, ◌+◌, Bool, true, false, List, [], ◌∷◌, ◌++◌, length, map, Option, Some, None, refl, arith}
use Rattle.std.specs.Prelude.{ℤ, nat_lt, flat_map}
use Rattle.std.specs.List.{list_all}
use Rattle.std.proofs.lemmas.Bool.{false≢true, cond_both, lt-ltb}
use Rattle.dc_int.specs.declared.kind.Kind.{Kind}
use Rattle.dc_int.specs.declared.operation.Op.{Op}
use Rattle.dc_int.specs.Kinds.{bits_of}
use Rattle.dc_int.specs.Sorts.{Sort, whole, logical}
use Rattle.dc_int.specs.Store.{Bounds}
use Rattle.dc_code.specs.declared.instr.Folding.{Folding}
use Rattle.dc_code.specs.declared.instr.Instr.{Instr}
use Rattle.dc_code.specs.declared.instr.What.{What}
use Rattle.dc_tree.specs.declared.symbols.Symbol.{Symbol}
use Rattle.dc_tree.specs.declared.token.Mark.{Mark}
use Rattle.dc_tree.specs.Blocks as trees
use Rattle.dc_tree.specs.Blocks.{Items, Source, plain, none, and_then}
use Rattle.dc_tree.specs.Entities.{Entity, outside, constant, nothing, Scope, entity, main_scope}
use Rattle.dc_tree.specs.Intrinsics.{Intrinsic, operation, chosen, merge, converted, total, count, any, all, intrinsic}
use Rattle.dc_tree.specs.Statements.{Ranging, Deed, assign, fill, print, Statement, act}
use Rattle.dc_tree.specs.Syntax as syntax
use Rattle.dc_tree.specs.Syntax.{Tree, Args, chars, name, refer, paren, unary, binary, no_args, arg}
use Rattle.dc_tree.specs.Typing.{joined, sort_of, sorts_of, first_sort, sort_of_entity}
use Rattle.dc_meaning.specs.Actions.{is_array}
use Rattle.dc_meaning.specs.Concurrent.{Concurrent, Surroundings, block_scope}
use Rattle.dc_meaning.specs.Execution.{is_concurrent, loops_in, loops_in_all}
use Rattle.dc_meaning.specs.Programs.{surroundings, program_loops}
use Rattle.dc_meaning.specs.Values.{array_named}
use Rattle.dc_actions.specs.Assigning.{each_code, conversion_code, storing_code, assigned_code, slot_code, keeping_code, element_code, handing_code, filling_code}
use Rattle.dc_actions.specs.Deeds.{lined, deed_code}
use Rattle.dc_lower.specs.Blocks.{says_code, item_code, block_code, part_code, texts_of_item, groups_of_item, block_is_lowered}
use Rattle.dc_actions.specs.Expressions.{entity_code, led_code, joined_code, folding_code, operation_code, function_code, referred_code, value_code, values_code, first_code, chosen_code, further_code}
use Rattle.dc_lower.specs.Lowerable.{loop_is_lowered, IsLowerable}
use Rattle.dc_actions.specs.Limits.{limits_are_lowered, step_code, limits_code}
use Rattle.dc_lower.specs.Lowered.{kind_of_index, header_code, body_code, loop_code, loops_code, main_code, lowered}
use Rattle.dc_actions.specs.Printing as printing
use Rattle.dc_actions.specs.Printing.{put_code, whole_code, items_code}
use Rattle.dc_actions.specs.Subscripts.{subscripts_at}
use Rattle.dc_lower.specs.Today.{is_of_today}
use Rattle.dc_actions.proofs.Facts.{both-hold, both-true}
use Rattle.dc_lower.proofs.RunsOfBlocks.{one-of}
use Rattle.dc_lower.proofs.FittingLists.{all-both}
use Rattle.dc_lower.proofs.SimpleLoops.{all-counted}
use Rattle.dc_lower.proofs.WellFormedCodes.{is-built}

abbrev AreOfToday : ℕ → List What → Type 0
AreOfToday loops whats = list_all (is_of_today loops) whats ≡ true

both : (loops : ℕ) (first second : List What) → AreOfToday loops first → AreOfToday loops second → AreOfToday loops (first ++ second)
both loops first second a b = all-both (is_of_today loops) first second a b

-- ---- expressions

entity-today : (loops : ℕ) (found : Entity) → AreOfToday loops (entity_code found)
entity-today loops (constant (whole kind) z) = refl
entity-today loops (constant logical z) = refl
entity-today loops found = refl

led-today : (loops : ℕ) (mark : Mark) (sort : Sort) → AreOfToday loops (led_code mark sort)
led-today loops Mark.Minus sort = refl
led-today loops mark sort = refl

joined-today : (loops : ℕ) (mark : Mark) (sort : Sort) → AreOfToday loops (joined_code mark sort)
joined-today loops Mark.Plus sort = refl
joined-today loops mark sort = refl

folding-today : (loops : ℕ) (folding : Folding) (found : Entity) → AreOfToday loops (folding_code folding found)
folding-today loops folding (outside variable sort bounds) = refl
folding-today loops folding found = refl

operation-today : (loops : ℕ) (op : Op) (kind : Kind) → AreOfToday loops (operation_code op kind)
operation-today loops Op.Popcnt kind = refl
operation-today loops op kind = refl

function-today : (loops : ℕ) (scope : Scope) (function : Intrinsic) (args : Args) (sort : Sort) (given first : List What) (each : Op → Kind → List What)
    → AreOfToday loops given → AreOfToday loops first → ((op : Op) (kind : Kind) → AreOfToday loops (each op kind)) → AreOfToday loops (function_code scope function args sort given first each)
function-today loops scope (operation op) args sort given first each a b c = both loops given (operation_code op _) a (operation-today loops op _)
function-today loops scope (chosen op) args sort given first each a b c = c op _
function-today loops scope merge args sort given first each a b c = both loops given (What.Merge ∷ []) a refl
function-today loops scope converted args sort given first each a b c = both loops first (What.Wrap _ ∷ []) b refl
function-today loops scope total args sort given first each a b c = folding-today loops Folding.Sum (array_named scope args)
function-today loops scope count args sort given first each a b c = folding-today loops Folding.Count (array_named scope args)
function-today loops scope any args sort given first each a b c = folding-today loops Folding.Any (array_named scope args)
function-today loops scope all args sort given first each a b c = folding-today loops Folding.All (array_named scope args)
function-today loops scope inquiry args sort given first each a b c = refl

referred-today : (loops : ℕ) (scope : Scope) (found : Entity) (function : Option Intrinsic) (args : Args) (given first : List What) (each : Op → Kind → List What)
    → AreOfToday loops given → AreOfToday loops first → ((op : Op) (kind : Kind) → AreOfToday loops (each op kind)) → AreOfToday loops (referred_code scope found function args given first each)
referred-today loops scope nothing (Some function) args given first each a b c = function-today loops scope function args (first_sort (sorts_of scope args)) given first each a b c
referred-today loops scope found function args given first each a b c = both loops given (entity_code found) a (entity-today loops found)

mutual
  value-today : (loops : ℕ) (scope : Scope) (tree : Tree) → AreOfToday loops (value_code scope tree)
  value-today loops scope (name text) = entity-today loops (entity scope text)
  value-today loops scope (refer text args) =
      referred-today loops scope (entity scope text) (intrinsic text) args (values_code scope args) (first_code scope args) (λ op kind. chosen_code scope op kind args)
      (values-today loops scope args) (first-today loops scope args) (λ op kind. chosen-today loops scope args op kind)
  value-today loops scope (paren inside) = value-today loops scope inside
  value-today loops scope (unary mark right) = both loops (value_code scope right) (led_code mark (sort_of scope right)) (value-today loops scope right) (led-today loops mark (sort_of scope right))
  value-today loops scope (binary mark left right) =
      let behind = joined_code mark (joined (sort_of scope left) (sort_of scope right)) in
      both loops (value_code scope left) (value_code scope right ++ behind) (value-today loops scope left)
      (both loops (value_code scope right) behind (value-today loops scope right) (joined-today loops mark (joined (sort_of scope left) (sort_of scope right))))
  value-today loops scope (syntax.number digits suffix) = refl
  value-today loops scope (syntax.truth given) = refl
  value-today loops scope (chars text) = refl

  values-today : (loops : ℕ) (scope : Scope) (args : Args) → AreOfToday loops (values_code scope args)
  values-today loops scope no_args = refl
  values-today loops scope (arg keyed given rest) = both loops (value_code scope given) (values_code scope rest) (value-today loops scope given) (values-today loops scope rest)

  first-today : (loops : ℕ) (scope : Scope) (args : Args) → AreOfToday loops (first_code scope args)
  first-today loops scope no_args = refl
  first-today loops scope (arg keyed given rest) = value-today loops scope given

  chosen-today : (loops : ℕ) (scope : Scope) (args : Args) (op : Op) (kind : Kind) → AreOfToday loops (chosen_code scope op kind args)
  chosen-today loops scope no_args op kind = refl
  chosen-today loops scope (arg keyed given rest) op kind = both loops (value_code scope given) (further_code scope op kind rest) (value-today loops scope given) (further-today loops scope rest op kind)

  further-today : (loops : ℕ) (scope : Scope) (args : Args) (op : Op) (kind : Kind) → AreOfToday loops (further_code scope op kind args)
  further-today loops scope no_args op kind = refl
  further-today loops scope (arg keyed given rest) op kind =
      both loops (value_code scope given) (What.Arith op kind ∷ further_code scope op kind rest) (value-today loops scope given) (further-today loops scope rest op kind)

-- ---- assignments

each-today : (loops : ℕ) (scope : Scope) (given : List Tree) → AreOfToday loops (each_code scope given)
each-today loops scope [] = refl
each-today loops scope (tree ∷ rest) = both loops (value_code scope tree) (each_code scope rest) (value-today loops scope tree) (each-today loops scope rest)

conversion-today : (loops : ℕ) (given taken : Sort) → AreOfToday loops (conversion_code given taken)
conversion-today loops (whole given) (whole taken) =
    cond_both (nat_lt (bits_of taken) (bits_of given)) (What.Wrap taken ∷ []) [] (AreOfToday loops) (λ e. refl) (λ e. refl)
conversion-today loops (whole given) logical = refl
conversion-today loops logical taken = refl

storing-today : (loops : ℕ) (scope : Scope) (found : Entity) (subscripts : Option (List Tree)) → AreOfToday loops (storing_code scope found subscripts)
storing-today loops scope (outside variable sort bounds) None = refl
storing-today loops scope (outside variable sort bounds) (Some given) = both loops (each_code scope given) (What.Subscript variable ∷ What.Store variable ∷ []) (each-today loops scope given) refl
storing-today loops scope found subscripts = refl

assigned-today : (loops : ℕ) (scope : Scope) (found : Entity) (subscripts : Option (List Tree)) (tree : Tree) → AreOfToday loops (assigned_code scope found subscripts tree)
assigned-today loops scope found subscripts tree =
    both loops (value_code scope tree) (conversion_code (sort_of scope tree) (sort_of_entity found) ++ storing_code scope found subscripts) (value-today loops scope tree)
    (both loops (conversion_code (sort_of scope tree) (sort_of_entity found)) (storing_code scope found subscripts) (conversion-today loops (sort_of scope tree) (sort_of_entity found))
    (storing-today loops scope found subscripts))

keeping-today : (loops : ℕ) (scope : Scope) (sort : Sort) (group before : ℕ) (given : List Tree) → AreOfToday loops (keeping_code scope sort group before given)
keeping-today loops scope sort group before [] = refl
keeping-today loops scope sort group before (tree ∷ rest) =
    let others = slot_code group before ++ (What.StoreSlot group ∷ keeping_code scope sort group (suc before) rest) in
    both loops (value_code scope tree) (conversion_code (sort_of scope tree) sort ++ others) (value-today loops scope tree)
    (both loops (conversion_code (sort_of scope tree) sort) others (conversion-today loops (sort_of scope tree) sort) (keeping-today loops scope sort group (suc before) rest))

consts-today : (loops : ℕ) (zs : List ℤ) → AreOfToday loops (map (λ z. What.Const Kind.K8 z) zs)
consts-today loops [] = refl
consts-today loops (z ∷ zs) = consts-today loops zs

handing-today : (loops variable : ℕ) (bounds : Bounds) (group before many : ℕ) → AreOfToday loops (handing_code variable bounds group before many)
handing-today loops variable bounds group before zero = refl
handing-today loops variable bounds group before (suc many) =
    both loops (element_code variable bounds before) (What.Store variable ∷ handing_code variable bounds group (suc before) many)
    (both loops (map (λ z. What.Const Kind.K8 z) (subscripts_at bounds before)) (What.Subscript variable ∷ []) (consts-today loops (subscripts_at bounds before)) refl)
    (handing-today loops variable bounds group (suc before) many)

filling-today : (loops : ℕ) (scope : Scope) (group : ℕ) (given : List Tree) (found : Entity) → AreOfToday loops (filling_code scope group given found)
filling-today loops scope group given (outside variable sort bounds) =
    both loops (keeping_code scope sort group 0 given) (handing_code variable bounds group 0 (length given)) (keeping-today loops scope sort group 0 given)
    (handing-today loops variable bounds group 0 (length given))
filling-today loops scope group given found = refl

-- ---- output

put-today : (loops : ℕ) (sort : Sort) → AreOfToday loops (put_code sort ∷ [])
put-today loops (whole kind) = refl
put-today loops logical = refl

single-today : (loops : ℕ) (scope : Scope) (tree : Tree) (sort : Sort) → AreOfToday loops (value_code scope tree ++ put_code sort ∷ [])
single-today loops scope tree sort = both loops (value_code scope tree) (put_code sort ∷ []) (value-today loops scope tree) (put-today loops sort)

whole-today : (loops : ℕ) (found : Entity) → AreOfToday loops (whole_code found)
whole-today loops (outside variable sort bounds) = refl
whole-today loops found = refl

item-today : (loops : ℕ) (scope : Scope) (next : ℕ) (tree : Tree) → AreOfToday loops (printing.item_code scope next tree)
item-today loops scope next (chars text) = refl
item-today loops scope next (name text) =
    cond_both (is_array (entity scope text)) (whole_code (entity scope text)) (value_code scope (name text) ++ put_code (sort_of_entity (entity scope text)) ∷ []) (AreOfToday loops)
    (λ e. whole-today loops (entity scope text)) (λ e. single-today loops scope (name text) (sort_of_entity (entity scope text)))
item-today loops scope next tree = single-today loops scope tree (sort_of scope tree)

items-today : (loops : ℕ) (scope : Scope) (next : ℕ) (given : List Tree) → AreOfToday loops (items_code scope next given)
items-today loops scope next [] = refl
items-today loops scope next (tree ∷ rest) =
    let behind = next + length (printing.texts_of_item tree) in
    both loops (printing.item_code scope next tree) (items_code scope behind rest) (item-today loops scope next tree) (items-today loops scope behind rest)

-- ---- blocks

deed-today : (loops : ℕ) (scope : Scope) (next free : ℕ) (deed : Deed) → AreOfToday loops (deed_code scope next free deed)
deed-today loops scope next free (assign target tree) = assigned-today loops scope (entity scope target.name) target.subscripts tree
deed-today loops scope next free (fill text given) = filling-today loops scope free given (entity scope text)
deed-today loops scope next free (print written given) = both loops (items_code scope next given) (What.PutEnd ∷ []) (items-today loops scope next given) refl
deed-today loops scope next free deed = refl

says-today : (loops : ℕ) (scope : Scope) (next free : ℕ) (says : Statement) → AreOfToday loops (says_code scope next free says)
says-today loops scope next free (act deed) = deed-today loops scope next free deed
says-today loops scope next free says = refl

abbrev today : ℕ → Instr → Bool
today loops instr = is_of_today loops instr.what

lined-today : (loops line : ℕ) (whats : List What) → AreOfToday loops whats → list_all (today loops) (lined line whats) ≡ true
lined-today loops line [] are = refl
lined-today loops line (what ∷ whats) are = both-hold (both-true are).0 (lined-today loops line whats (both-true are).1)

block-today : (loops : ℕ) (scope : Scope) (main : Bool) (next free number : ℕ) (block : Items) → block_is_lowered scope main block ≡ true → (main ≡ true → number + loops_in_all block ≤ loops)
    → list_all (today loops) (block_code scope next free number block) ≡ true
block-today loops scope main next free number none so few = refl
block-today loops scope main next free number (and_then (plain line) rest) so few =
    let others = block_code scope (next + length (texts_of_item (plain line))) (free + length (groups_of_item scope (plain line))) (number + 0) rest in
    all-both (today loops) (item_code scope next free number (plain line)) others (lined-today loops line.line (says_code scope next free line.says) (says-today loops scope next free line.says))
    (block-today loops scope main (next + length (texts_of_item (plain line))) (free + length (groups_of_item scope (plain line))) (number + 0) rest (both-true so).1
    (λ is. let some = few is in omega (arith, some)))
block-today loops scope true next free number (and_then (trees.loop head inside close) rest) so few =
    let some = few refl in
    both-hold
    (lt-ltb number loops (one-of (is_concurrent head.says) (loops_in_all inside + loops_in_all rest) number loops (both-true so).0 (omega (arith, some))))
    (block-today loops scope true (next + 0) (free + 0) (number + loops_in (trees.loop head inside close)) rest (both-true so).1 (λ is. omega (arith, some)))
block-today loops scope false next free number (and_then (trees.loop head inside close) rest) so few = absurd (false≢true so)
block-today loops scope main next free number (and_then other rest) so few = absurd (false≢true so)

part-today : (loops : ℕ) (scope : Scope) (main : Bool) (next free number : ℕ) (block : Items) (line : ℕ) → block_is_lowered scope main block ≡ true
    → (main ≡ true → number + loops_in_all block ≤ loops) → list_all (today loops) (part_code scope next free number block line) ≡ true
part-today loops scope main next free number block line so few =
    all-both (today loops) (block_code scope next free number block) (lined line (What.End ∷ [])) (block-today loops scope main next free number block so few) refl

-- ---- loops

step-today : (loops : ℕ) (scope : Scope) (kind : Kind) (step : Option Tree) → AreOfToday loops (step_code scope kind step)
step-today loops scope kind None = refl
step-today loops scope kind (Some tree) = both loops (value_code scope tree) (What.Wrap kind ∷ []) (value-today loops scope tree) refl

limits-today : (loops : ℕ) (scope : Scope) (kind : Kind) (ranging : Ranging) → AreOfToday loops (limits_code scope kind ranging)
limits-today loops scope kind ranging =
    let step = step_code scope kind ranging.step in
    both loops (value_code scope ranging.first) (What.Wrap kind ∷ (value_code scope ranging.last ++ (What.Wrap kind ∷ step))) (value-today loops scope ranging.first)
    (both loops (value_code scope ranging.last) (What.Wrap kind ∷ step) (value-today loops scope ranging.last) (step-today loops scope kind ranging.step))

all-limits-today : (loops : ℕ) (found : Concurrent) (indexes : List Ranging)
    → AreOfToday loops (flat_map (λ ranging. limits_code found.around (kind_of_index found ranging) ranging) indexes)
all-limits-today loops found [] = refl
all-limits-today loops found (ranging ∷ rest) =
    both loops (limits_code found.around (kind_of_index found ranging) ranging) (flat_map (λ ranging. limits_code found.around (kind_of_index found ranging) ranging) rest)
    (limits-today loops found.around (kind_of_index found ranging) ranging) (all-limits-today loops found rest)

header-today : (loops : ℕ) (found : Concurrent) → list_all (today loops) (header_code found) ≡ true
header-today loops found =
    let limits = flat_map (λ ranging. limits_code found.around (kind_of_index found ranging) ranging) found.indexes in
    lined-today loops found.line (limits ++ What.End ∷ []) (both loops limits (What.End ∷ []) (all-limits-today loops found found.indexes) refl)

body-today : (loops : ℕ) (within : Surroundings) (found : Concurrent) → loop_is_lowered within found ≡ true → list_all (today loops) (body_code within found) ≡ true
body-today loops within found so =
    part-today loops (block_scope within found) false 0 (block_scope within found).groups 0 found.body found.line
    (both-true (both-true {a = list_all (limits_are_lowered found.around) found.indexes} so).1).0 (λ e. absurd (false≢true e))

loops-today : (loops : ℕ) (within : Surroundings) (given : List Concurrent) → list_all (loop_is_lowered within) given ≡ true → list_all (today loops) (loops_code within given) ≡ true
loops-today loops within [] so = refl
loops-today loops within (found ∷ rest) so =
    all-both (today loops) (loop_code within found) (loops_code within rest)
    (all-both (today loops) (header_code found) (body_code within found) (header-today loops found) (body-today loops within found (both-true so).0))
    (loops-today loops within rest (both-true so).1)

pub code-enters-its-loops : (symbols : List Symbol) (source : Source) → IsLowerable symbols source
    → list_all (λ (instr : Instr). is_of_today (length (program_loops symbols source 0)) instr.what) (lowered symbols source).instructions ≡ true
code-enters-its-loops symbols source able =
    all-both (today many) (main_code symbols source) (loops_code within given)
    (part-today many (main_scope symbols) true 0 0 0 source.body source.close.line able.lowered (λ e. omega (arith, entered)))
    (loops-today many within given able.loops)
  where
    within : Surroundings
    within = surroundings symbols source 0

    given : List Concurrent
    given = program_loops symbols source 0

    many : ℕ
    many = length given

    entered : loops_in_all source.body ≡ many
    entered = all-counted within (main_scope symbols) 0 source.body (is-built symbols source able.built).items
