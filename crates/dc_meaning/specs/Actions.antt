-- What single statements do: assignments, calls, output and input. After ISO/IEC 1539-1:2023, clauses
-- 10.2.1, 12.6 and 15.5; the order of evaluation and the forms of an update are this project's own.
use Rattle.std.specs.Prelude.{ℕ, Bool, true, false, List, [], ◌∷◌, ◌++◌, map, length, zip, flat_map, bytes_eq, Option, Some, None, if◌then◌else◌, ℤ}
use Rattle.std.specs.List.{range_with_len}
use Rattle.dc_int.specs.declared.access.ElementId.{ElementId}
use Rattle.dc_int.specs.declared.fault.FaultKind.{FaultKind}
use Rattle.dc_int.specs.declared.operation.ReduceOp.{ReduceOp}
use Rattle.dc_int.specs.Sorts.{Sort, fitted}
use Rattle.dc_int.specs.Store.{Bounds, elements_in}
use Rattle.dc_code.specs.declared.frame.Passed.{Passed}
use Rattle.dc_code.specs.declared.frame.Place.{Place}
use Rattle.dc_code.specs.Computation.{give, contribute, pause}
use Rattle.dc_code.specs.Troubles.{Event, write_line, take_value, take_elements, end_reading, stop}
use Rattle.dc_lists.specs.Output.{line_of}
use Rattle.dc_tree.specs.declared.stmt.Intent.{Intent}
use Rattle.dc_tree.specs.Entities.{Entity, outside, subroutine, reduction, Scope, entity}
use Rattle.dc_tree.specs.Statements as statements
use Rattle.dc_tree.specs.Statements.{Name, Target, Deed}
use Rattle.dc_tree.specs.Syntax.{Tree, name, refer, chars, binary, no_args, arg}
use Rattle.dc_tree.specs.Typing.{sort_of, sort_of_entity}
use Rattle.dc_meaning.specs.Acts.{Act, ◌>>=◌, just, doing, wrong, store, for_each}
use Rattle.dc_meaning.specs.OutputPieces as output_pieces
use Rattle.dc_meaning.specs.OutputPieces.{Piece, piece_text}
use Rattle.dc_meaning.specs.Places.{bounds_of_entity, position_at, element_at, whole_of, whole_values}
use Rattle.dc_meaning.specs.Values.{Callee, value, values, all_values}

-- Where the execution of a block goes on: behind it, at the end of its procedure, or by CYCLE or EXIT at a
-- loop, which a name may tell. After clauses 11.1.7.4 and 11.1.12.
pub data Flow : Type 0 where
  on : Flow
  returns : Flow
  cycles : Option Name → Flow
  exits : Option Name → Flow

-- one act behind another, whose result doesn't matter
infixl 20 ◌>>◌
abbrev pub ◌>>◌ : {A B : Type 0} → Act A → Act B → Act B
first >> second = first >>= (λ done. second)

-- ---- assignments

abbrev pub subscripts_of : Scope → Callee → ℕ → Option (List Tree) → Act (List ℤ)
subscripts_of scope call line None = just []
subscripts_of scope call line (Some trees) = all_values scope call line trees

-- The places of a target: the element with its subscripts, or all elements of a whole variable.
abbrev pub places_of : Scope → Callee → ℕ → Entity → Option (List Tree) → Act (List Place)
places_of scope call line variable None = whole_of line variable
places_of scope call line variable (Some trees) = do
  subscripts ← all_values scope call line trees
  place ← element_at line variable subscripts
  just (place ∷ [])

abbrev pub refers_to : Name → Tree → Bool
refers_to text (name other) = bytes_eq other text
refers_to text (refer other args) = bytes_eq other text
refers_to text tree = false

-- The operands of an update of a variable: all of `v op e1 op e2 ..`, or the one beside it in `e op v`,
-- `f(v, e)` and `f(e, v)`. After clause 11.1.7.5.
abbrev pub operands : Name → Tree → List Tree
operands text (binary mark left right) = if refers_to text right then left ∷ [] else operands text left ++ right ∷ []
operands text (refer other (arg keyed first (arg keyed_second second no_args))) =
    if bytes_eq other text then [] else (if refers_to text first then second ∷ [] else first ∷ [])
operands text tree = []

abbrev pub contribution : ElementId → ReduceOp → ℤ → Act Unit
contribution x op value = doing (contribute x op value (give tt))

-- An update of a REDUCE variable: the operands, then the subscripts, and then a contribution for each
-- operand, at the variable's kind.
abbrev pub update : Scope → Callee → ℕ → Target → Tree → ℕ → ReduceOp → Sort → Bounds → Act Flow
update scope call line target tree variable op sort bounds = do
  given ← all_values scope call line (operands target.name tree)
  subscripts ← subscripts_of scope call line target.subscripts
  position ← position_at line bounds subscripts
  for_each (λ z. contribution (record { variable = variable; position = position }) op (fitted sort z)) given >> just on

-- An assignment: the value, then the places, and then the value is stored in each.
abbrev pub assignment : Scope → Callee → ℕ → Target → Tree → Entity → Act Flow
assignment scope call line target tree (reduction variable op sort bounds) = update scope call line target tree variable op sort bounds
assignment scope call line target tree variable = do
  given ← value scope call line tree
  places ← places_of scope call line variable target.subscripts
  for_each (λ place. store line place (fitted (sort_of_entity variable) given)) places >> just on

-- `a = [list]`: all values, and then each is stored in its element.
abbrev pub filling : Scope → Callee → ℕ → List Tree → Entity → Act Flow
filling scope call line trees variable = do
  given ← all_values scope call line trees
  places ← whole_of line variable
  for_each (λ w. store line w.0 (fitted (sort_of_entity variable) w.1)) (zip places given) >> just on

-- ---- calls

-- The place of an argument, which is a variable or an element of one.
abbrev pub argument_place : Scope → Callee → ℕ → Tree → Act Place
argument_place scope call line (name text) = element_at line (entity scope text) []
argument_place scope call line (refer text args) = values scope call line args >>= element_at line (entity scope text)
argument_place scope call line tree = wrong FaultKind.Undefined line

-- What a dummy of an intent is associated with.
abbrev pub passed : Scope → Callee → ℕ → Intent × Tree → Act Passed
passed scope call line (Intent.Into, tree) = value scope call line tree >>= (λ z. just (Passed.ByValue z))
passed scope call line (other, tree) = argument_place scope call line tree >>= (λ place. just (Passed.AtPlace place))

abbrev pub calling : Scope → Callee → ℕ → List Tree → Entity → Act Flow
calling scope call line trees (subroutine procedure intents) = do
  given ← for_each (passed scope call line) (zip intents trees)
  call procedure line given >> just on
calling scope call line trees other = just on

-- ---- output and input

abbrev pub is_array : Entity → Bool
is_array variable = by (bounds_of_entity variable)
  where
    by : Bounds → Bool
    by [] = false
    by bounds = true

abbrev pub piece : Sort → ℤ → Piece
piece sort z = output_pieces.value sort z

abbrev pub named_pieces : ℕ → Entity → Act ℤ → Act (List Piece)
named_pieces line variable single =
    if is_array variable then (whole_values line variable >>= (λ zs. just (map (piece (sort_of_entity variable)) zs)))
    else (single >>= (λ z. just (piece (sort_of_entity variable) z ∷ [])))

-- The pieces of an output item: a literal, each element of a whole array, or a value.
abbrev pub pieces : Scope → Callee → ℕ → Tree → Act (List Piece)
pieces scope call line (chars text) = just (output_pieces.text text ∷ [])
pieces scope call line (name text) = named_pieces line (entity scope text) (value scope call line (name text))
pieces scope call line tree = value scope call line tree >>= (λ z. just (piece (sort_of scope tree) z ∷ []))

abbrev pub paused_for : Event → Act ℤ
paused_for event = doing (pause event (λ told. give told))

-- All items are evaluated before the line is written.
abbrev pub printing : Scope → Callee → ℕ → List Tree → Act Flow
printing scope call line trees = do
  given ← for_each (pieces scope call line) trees
  paused_for (write_line line (line_of (map piece_text (flat_map (λ items. items) given)))) >> just on

-- An input item: a whole array, or one value, which is stored in its place.
abbrev pub take_in : Scope → Callee → ℕ → Option (List Tree) → Entity → Act Unit
take_in scope call line None (outside variable sort (dimension ∷ bounds)) =
    let count = elements_in (dimension ∷ bounds) in
    paused_for (take_elements line sort (map (λ position. record { variable = variable; position = position }) (range_with_len 0 count))) >> just tt
take_in scope call line subscripts variable = do
  places ← places_of scope call line variable subscripts
  z ← paused_for (take_value line (sort_of_entity variable))
  for_each (λ place. store line place z) places >> just tt

abbrev pub reading : Scope → Callee → ℕ → List Target → Act Flow
reading scope call line targets = do
  taken ← for_each (λ target. take_in scope call line target.subscripts (entity scope target.name)) targets
  paused_for (end_reading line (length targets)) >> just on

-- ---- a statement

abbrev pub act : Scope → Callee → ℕ → Deed → Act Flow
act scope call line (statements.assign target tree) = assignment scope call line target tree (entity scope target.name)
act scope call line (statements.fill text trees) = filling scope call line trees (entity scope text)
act scope call line (statements.call text brackets trees) = calling scope call line trees (entity scope text)
act scope call line (statements.cycle label) = just (cycles label)
act scope call line (statements.exit label) = just (exits label)
act scope call line statements.return = just returns
act scope call line statements.continue = just on
act scope call line statements.stop = paused_for stop >> just on
act scope call line statements.error_stop = wrong FaultKind.ErrorStop line
act scope call line (statements.print written trees) = printing scope call line trees
act scope call line (statements.read bracketed targets) = reading scope call line targets
