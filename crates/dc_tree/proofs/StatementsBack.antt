-- The view of a statement loses nothing.
use Rattle.std.proofs.Common.{◌≡◌, List, [], ◌∷◌, map, Option, None, Some, refl, sym, ap, ◌∙◌}
use Rattle.std.specs.Prelude.{option_map}
use Rattle.dc_tree.specs.declared.expr.Expr.{Expr}
use Rattle.dc_tree.specs.declared.stmt.TypeSpec.{TypeSpec}
use Rattle.dc_tree.specs.declared.stmt.Bound.{Bound}
use Rattle.dc_tree.specs.declared.stmt.Attr.{Attr}
use Rattle.dc_tree.specs.declared.stmt.Init.{Init}
use Rattle.dc_tree.specs.declared.stmt.Entity.{Entity}
use Rattle.dc_tree.specs.declared.stmt.Index.{Index}
use Rattle.dc_tree.specs.declared.stmt.Range.{Range}
use Rattle.dc_tree.specs.declared.stmt.Prefix.{Prefix}
use Rattle.dc_tree.specs.declared.stmt.Target as targets
use Rattle.dc_tree.specs.declared.stmt.Counted.{Counted}
use Rattle.dc_tree.specs.declared.stmt.Action.{Action}
use Rattle.dc_tree.specs.declared.stmt.Stmt.{Stmt}
use Rattle.dc_tree.specs.Syntax.{tree}
use Rattle.dc_tree.specs.Back.{back}
use Rattle.dc_tree.specs.Statements.{type_form, dimension_of, attribute, initial, declared_of, index_ranging, counted_ranging}
use Rattle.dc_tree.specs.Statements.{case_range, prefixed, target_of, deed, statement}
use Rattle.dc_tree.specs.StatementsBack.{back_type, back_dimension, back_attribute, back_initial, back_declared, back_index, back_counted}
use Rattle.dc_tree.specs.StatementsBack.{back_case, back_prefix, back_target, back_deed, back_statement, IsStatementToldApart}
use Rattle.dc_tree.proofs.Back.{back-tree}

-- A view that loses nothing of an item loses nothing of a list of them, nor of one that may be absent.
pub map-back : {A B : Type 0} (view : A → B) (undo : B → A) → ((a : A) → undo (view a) ≡ a) → (items : List A) → map undo (map view items) ≡ items
map-back view undo same [] = refl
map-back view undo same (a ∷ items) = λ i. same a i ∷ map-back view undo same items i

pub option-back : {A B : Type 0} (view : A → B) (undo : B → A) → ((a : A) → undo (view a) ≡ a)
    → (o : Option A) → option_map undo (option_map view o) ≡ o
option-back view undo same None = refl
option-back view undo same (Some a) = ap Some (same a)

trees-back : (es : List Expr) → map back (map tree es) ≡ es
trees-back = map-back tree back back-tree

tree_option-back : (o : Option Expr) → option_map back (option_map tree o) ≡ o
tree_option-back = option-back tree back back-tree

type-back : (form : TypeSpec) → back_type (type_form form) ≡ form
type-back TypeSpec.Logical = refl
type-back (TypeSpec.Integer keyed kind) = λ i. TypeSpec.Integer keyed (tree_option-back kind i)

type_option-back : (o : Option TypeSpec) → option_map back_type (option_map type_form o) ≡ o
type_option-back = option-back type_form back_type type-back

dimension-back : (bound : Bound) → back_dimension (dimension_of bound) ≡ bound
dimension-back bound = λ i. record { low = tree_option-back bound.low i; high = back-tree bound.high i }

dimensions-back : (bounds : List Bound) → map back_dimension (map dimension_of bounds) ≡ bounds
dimensions-back = map-back dimension_of back_dimension dimension-back

attribute-back : (attr : Attr) → back_attribute (attribute attr) ≡ attr
attribute-back Attr.Parameter = refl
attribute-back (Attr.Dimension bounds) = λ i. Attr.Dimension (dimensions-back bounds i)
attribute-back (Attr.Intent given) = refl

attributes-back : (attrs : List Attr) → map back_attribute (map attribute attrs) ≡ attrs
attributes-back = map-back attribute back_attribute attribute-back

initial-back : (init : Init) → back_initial (initial init) ≡ init
initial-back Init.Absent = refl
initial-back (Init.Scalar value) = λ i. Init.Scalar (back-tree value i)
initial-back (Init.Listed values) = λ i. Init.Listed (trees-back values i)

declared-back : (entity : Entity) → back_declared (declared_of entity) ≡ entity
declared-back entity = λ i. record {
  name = entity.name;
  bounds = option-back (map dimension_of) (map back_dimension) dimensions-back entity.bounds i;
  init = initial-back entity.init i;
}

index-back : (index : Index) → back_index (index_ranging index) ≡ index
index-back index = λ i. record
    { name = index.name; first = back-tree index.first i; last = back-tree index.last i; step = tree_option-back index.step i }

counted-back : (counted : Counted) → back_counted (counted_ranging counted) ≡ counted
counted-back counted = λ i. record
    { name = counted.name; first = back-tree counted.first i; last = back-tree counted.last i; step = tree_option-back counted.step i }

case-back : (range : Range) → back_case (case_range range) ≡ range
case-back (Range.One value) = λ i. Range.One (back-tree value i)
case-back (Range.From low) = λ i. Range.From (back-tree low i)
case-back (Range.To high) = λ i. Range.To (back-tree high i)
case-back (Range.Both low high) = λ i. Range.Both (back-tree low i) (back-tree high i)

prefix-back : (prefix : Prefix) → back_prefix (prefixed prefix) ≡ prefix
prefix-back Prefix.Pure = refl
prefix-back Prefix.Recursive = refl
prefix-back (Prefix.Typed form) = λ i. Prefix.Typed (type-back form i)

target-back : (target : targets.Target) → back_target (target_of target) ≡ target
target-back target = λ i. record { name = target.name; subscripts = option-back (map tree) (map back) trees-back target.subscripts i }

deed-back : (action : Action) → back_deed (deed action) ≡ action
deed-back (Action.Assign left right) = λ i. Action.Assign (target-back left i) (back-tree right i)
deed-back (Action.Fill name values) = λ i. Action.Fill name (trees-back values i)
deed-back (Action.Call name brackets args) = λ i. Action.Call name brackets (trees-back args i)
deed-back (Action.Cycle label) = refl
deed-back (Action.Exit label) = refl
deed-back Action.Return = refl
deed-back Action.Continue = refl
deed-back Action.Stop = refl
deed-back Action.ErrorStop = refl
deed-back (Action.Print written values) = λ i. Action.Print written (trees-back values i)
deed-back (Action.Read bracketed places) = λ i. Action.Read bracketed (map-back target_of back_target target-back places i)

pub statement-back : (stmt : Stmt) → back_statement (statement stmt) ≡ stmt
statement-back (Stmt.Program name) = refl
statement-back (Stmt.Use form taken names) = refl
statement-back Stmt.ImplicitNone = refl
statement-back (Stmt.Declare spec attrs colons names) =
    λ i. Stmt.Declare (type-back spec i) (attributes-back attrs i) colons (map-back declared_of back_declared declared-back names i)
statement-back Stmt.Contains = refl
statement-back (Stmt.Procedure prefix function name brackets dummies result) =
    λ i. Stmt.Procedure (map-back prefixed back_prefix prefix-back prefix i) function name brackets dummies result
statement-back (Stmt.End unit name) = refl
statement-back (Stmt.IfThen test) = λ i. Stmt.IfThen (back-tree test i)
statement-back (Stmt.ElseIf test) = λ i. Stmt.ElseIf (back-tree test i)
statement-back Stmt.Else = refl
statement-back Stmt.EndIf = refl
statement-back (Stmt.IfAction test action) = λ i. Stmt.IfAction (back-tree test i) (deed-back action i)
statement-back (Stmt.Select selector) = λ i. Stmt.Select (back-tree selector i)
statement-back (Stmt.Case values) = λ i. Stmt.Case (map-back case_range back_case case-back values i)
statement-back Stmt.CaseDefault = refl
statement-back Stmt.EndSelect = refl
statement-back (Stmt.Do label counted) = λ i. Stmt.Do label (option-back counted_ranging back_counted counted-back counted i)
statement-back (Stmt.DoWhile label test) = λ i. Stmt.DoWhile label (back-tree test i)
statement-back (Stmt.Concurrent label spec names mask locality) =
    λ i. Stmt.Concurrent label (type_option-back spec i) (map-back index_ranging back_index index-back names i) (tree_option-back mask i) locality
statement-back (Stmt.EndDo label) = refl
statement-back (Stmt.Act action) = λ i. Stmt.Act (deed-back action i)

pub statement-told_apart : (a b : Stmt) → IsStatementToldApart a b
statement-told_apart a b same = sym (statement-back a) ∙ ap back_statement same ∙ statement-back b
