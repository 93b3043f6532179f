-- An assignment or output that the rules let pass has instructions, and its values the sorts that these take.
use Rattle.std.proofs.Common.{◌≡◌, ℕ, Bool, true, false, not, List, [], ◌∷◌, ◌++◌, length, Option, Some, None, refl, sym, ap, ◌∙◌, subst}
use Rattle.std.proofs.lemmas.Bool.{and_parts, and_from, or_parts, false≢true}
use Rattle.std.specs.Prelude.{nat_eq}
use Rattle.std.specs.List.{list_all}
use Rattle.dc_int.specs.Sorts.{Sort, whole, logical}
use Rattle.dc_int.specs.Store.{Bounds, elements_in}
use Rattle.dc_tree.specs.declared.symbols.Role as roles
use Rattle.dc_tree.specs.declared.symbols.Symbol.{Symbol}
use Rattle.dc_form.specs.BuiltPrograms.{is_built_deed}
use Rattle.dc_tree.specs.Entities.{Scope, entity}
use Rattle.dc_tree.specs.Findings.{finding_if}
use Rattle.dc_tree.specs.Statements.{Name, Target, Deed, assign, fill, print}
use Rattle.dc_tree.specs.Syntax as syntax
use Rattle.dc_tree.specs.Syntax.{Tree, number, chars, name, refer, paren, unary, binary}
use Rattle.dc_tree.specs.Typing.{sort_of, sort_of_entity}
use Rattle.dc_sorts.specs.declared.form.Form.{Form}
use Rattle.dc_sorts.specs.Forms.{form_of_sort}
use Rattle.dc_sorts.specs.Meanings.{symbol_seen, is_fixed_meaning}
use Rattle.dc_sorts.specs.Standing.{Standing, meaning, is_counted, is_fixed}
use Rattle.dc_operands.specs.Arguments.{is_whole, form_in, none_keyed}
use Rattle.dc_operands.specs.Operands.{number_findings, operand_findings, each_number_findings, each_operand_findings, argument_of, plain_arguments, all_whole, subscript_findings}
use Rattle.dc_uses.specs.Uses.{array_findings, use_findings}
use Rattle.dc_scope.specs.Deeds as scopes
use Rattle.dc_scope.specs.Deeds.{uses_in, whole_findings, item_findings, items_in, element_findings, placed_findings, bounds_of_role, bounds_of_symbol, bounds_at, holds, count_findings}
use Rattle.dc_types.specs.Actions as types
use Rattle.dc_types.specs.Actions.{form_at, expression_findings, each_findings, same_type, value_findings, defined_findings, place_findings, all_of_type}
use Rattle.dc_actions.specs.Assigning.{all_usable, takes_values, takes_list}
use Rattle.dc_actions.specs.Deeds.{deed_is_lowered}
use Rattle.dc_actions.specs.Expressions.{is_usable, is_number}
use Rattle.dc_actions.specs.Printing.{gives_item, give_items}
use Rattle.dc_actions.specs.Typed.{is_same_type, is_typed, is_typed_number, subscripts_typed, is_typed_value, item_is_typed, deed_is_typed}
use Rattle.dc_actions.proofs.Naming.{form-given}
use Rattle.dc_actions.proofs.Sorting.{tree-typed}
use Rattle.dc_actions.proofs.Taking.{number-form}
use Rattle.dc_actions.proofs.Things.{Thing, a_variable, an_index, a_counter, a_constant, undeclared, entity_of, meaning_of, is_declared, bounds_in, role_bounds, symbol_bounds, Knows, form-known}
use Rattle.dc_actions.proofs.Unbroken.{some-finding, both-none, not-found, found-not, fits-rank, same-numbers}
use Rattle.dc_actions.proofs.Using.{tree-usable}

-- ---- forms

type-so : (a b : Sort) → same_type (form_of_sort a) (form_of_sort b) ≡ is_same_type a b
type-so (whole a) (whole b) = refl
type-so (whole a) logical = refl
type-so logical (whole b) = refl
type-so logical logical = refl

roles-bounded : (role : roles.Role) → bounds_of_role role ≡ role_bounds role
roles-bounded (roles.Role.Variable is_logical its_kind bounds initial) = refl
roles-bounded (roles.Role.Constant is_logical its_kind z) = refl
roles-bounded (roles.Role.Function procedure) = refl
roles-bounded (roles.Role.Subroutine procedure) = refl
roles-bounded (roles.Role.Dummy place is_logical its_kind intent) = refl
roles-bounded (roles.Role.Result is_logical its_kind) = refl

symbols-bounded : (symbol : Option Symbol) → bounds_of_symbol symbol ≡ symbol_bounds symbol
symbols-bounded None = refl
symbols-bounded (Some symbol) = roles-bounded symbol.role

-- What may not be defined is neither an index nor a constant.
not-fixed : (standing : Standing) (line : ℕ) (text : Name) → defined_findings standing line text ≡ [] → is_fixed_meaning (meaning standing text) ≡ false
not-fixed standing line text h =
    (or_parts (is_fixed_meaning (meaning standing text)) (is_counted standing.counted text) (not-found (is_fixed standing text) 31 line h)).0

-- ---- what the rules leave

-- an expression that no rule forbids
pub record Passes (scope : Scope) (tree : Tree) : Type 0 where
  pub usable : is_usable scope tree ≡ true
  pub typed : is_typed scope tree ≡ true

-- A statement of which no rule is broken.
pub record DeedPasses (scope : Scope) (deed : Deed) : Type 0 where
  pub lowered : deed_is_lowered scope deed ≡ true
  pub typed : deed_is_typed scope deed ≡ true

pub record ItemPasses (scope : Scope) (tree : Tree) : Type 0 where
  pub given : gives_item scope tree ≡ true
  pub typed : item_is_typed scope tree ≡ true

pub record ItemsPass (scope : Scope) (trees : List Tree) : Type 0 where
  pub given : give_items scope trees ≡ true
  pub typed : list_all (item_is_typed scope) trees ≡ true

module _ (standing : Standing) (scope : Scope) (knows : Knows standing scope) (line : ℕ) where
  -- ---- expressions

  pub tree-passes : (tree : Tree) → use_findings standing line tree ≡ [] → expression_findings standing line tree ≡ [] → Passes scope tree
  tree-passes tree u h =
      let parts = both-none (number_findings standing line tree) (operand_findings standing line tree) h in
      record { usable = tree-usable standing scope knows line tree u parts.1; typed = tree-typed standing scope knows line tree u parts.0 parts.1 }

  form-is : (tree : Tree) → form_at standing tree ≡ form_of_sort (sort_of scope tree)
  form-is tree = form-known standing scope knows tree

  all-usable : (trees : List Tree) → uses_in standing line trees ≡ [] → each_operand_findings standing line trees ≡ [] → all_usable scope trees ≡ true
  all-usable [] u o = refl
  all-usable (tree ∷ rest) u o =
      let found = both-none (use_findings standing line tree) (uses_in standing line rest) u in
      let operands = both-none (operand_findings standing line tree) (each_operand_findings standing line rest) o in
      and_from (is_usable scope tree) (all_usable scope rest) (tree-usable standing scope knows line tree found.0 operands.0) (all-usable rest found.1 operands.1)

  whole-number : (tree : Tree) → is_whole (form_in (argument_of standing false tree)) ≡ true → is_number (sort_of scope tree) ≡ true
  whole-number tree h = sym (number-form (sort_of scope tree)) ∙ sym (ap is_whole (form-given standing scope knows false tree)) ∙ h

  all-numbers : (trees : List Tree) → uses_in standing line trees ≡ [] → each_number_findings standing line trees ≡ [] → each_operand_findings standing line trees ≡ []
      → all_whole (plain_arguments standing trees) ≡ true → list_all (is_typed_number scope) trees ≡ true
  all-numbers [] u n o h = refl
  all-numbers (tree ∷ rest) u n o h =
      let found = both-none (use_findings standing line tree) (uses_in standing line rest) u in
      let numbers = both-none (number_findings standing line tree) (each_number_findings standing line rest) n in
      let operands = both-none (operand_findings standing line tree) (each_operand_findings standing line rest) o in
      let parts = and_parts (is_whole (form_in (argument_of standing false tree))) (all_whole (plain_arguments standing rest)) h in
      and_from (is_typed_number scope tree) (list_all (is_typed_number scope) rest)
      (and_from (is_typed scope tree) (is_number (sort_of scope tree)) (tree-typed standing scope knows line tree found.0 numbers.0 operands.0) (whole-number tree parts.0))
      (all-numbers rest found.1 numbers.1 operands.1 parts.1)

  -- a value of the type of a name
  same-so : (text : Name) (tree : Tree) (form : Form) → form ≡ form_of_sort (sort_of scope tree) → same_type (form_at standing (name text)) form ≡ true
      → is_same_type (sort_of_entity (entity scope text)) (sort_of scope tree) ≡ true
  same-so text tree form is h =
      sym (type-so (sort_of_entity (entity scope text)) (sort_of scope tree))
      ∙ sym (ap (λ (given : Form). same_type given (form_of_sort (sort_of scope tree))) (form-is (name text)))
      ∙ sym (ap (λ (given : Form). same_type (form_at standing (name text)) given) is) ∙ h

  all-values : (text : Name) (trees : List Tree) → uses_in standing line trees ≡ [] → each_number_findings standing line trees ≡ [] → each_operand_findings standing line trees ≡ []
      → all_of_type (form_at standing (name text)) (plain_arguments standing trees) ≡ true
      → list_all (is_typed_value scope (sort_of_entity (entity scope text))) trees ≡ true
  all-values text [] u n o h = refl
  all-values text (tree ∷ rest) u n o h =
      let sort = sort_of_entity (entity scope text) in
      let found = both-none (use_findings standing line tree) (uses_in standing line rest) u in
      let numbers = both-none (number_findings standing line tree) (each_number_findings standing line rest) n in
      let operands = both-none (operand_findings standing line tree) (each_operand_findings standing line rest) o in
      let parts = and_parts (same_type (form_at standing (name text)) (form_in (argument_of standing false tree))) (all_of_type (form_at standing (name text)) (plain_arguments standing rest)) h in
      and_from (is_typed_value scope sort tree) (list_all (is_typed_value scope sort) rest)
      (and_from (is_typed scope tree) (is_same_type sort (sort_of scope tree)) (tree-typed standing scope knows line tree found.0 numbers.0 operands.0)
      (same-so text tree (form_in (argument_of standing false tree)) (form-given standing scope knows false tree) parts.0))
      (all-values text rest found.1 numbers.1 operands.1 parts.1)

  -- ---- targets

  takes-by : (text : Name) (subscripts : Option (List Tree)) (t : Thing) → entity scope text ≡ entity_of t → meaning standing text ≡ meaning_of t
      → placed_findings standing line text subscripts ≡ [] → place_findings standing line subscripts ≡ [] → defined_findings standing line text ≡ []
      → takes_values scope (entity scope text) subscripts ≡ true
  takes-by text None (a_variable variable is_logical its_kind bounds) e m placed places defined = rw e refl
  takes-by text (Some trees) (a_variable variable is_logical its_kind bounds) e m placed places defined =
      let found = both-none (element_findings standing line text (length trees)) (uses_in standing line trees) placed in
      let each = both-none (each_findings standing line trees) (subscript_findings line (plain_arguments standing trees)) places in
      let operands = both-none (each_number_findings standing line trees) (each_operand_findings standing line trees) each.0 in
      rw e
      (and_from (nat_eq (length bounds) (length trees)) (all_usable scope trees) (fits-rank (length bounds) (length trees) line (rw m at (found.0))) (all-usable trees found.1 operands.1))
  takes-by text subscripts (an_index group its_kind) e m placed places defined = absurd (false≢true (sym (rw m at (not-fixed standing line text defined))))
  takes-by text subscripts (a_counter variable its_kind) e m placed places defined = absurd (false≢true (sym (rw m at (not-fixed standing line text defined))))
  takes-by text subscripts (a_constant is_logical its_kind z) e m placed places defined = absurd (false≢true (sym (rw m at (not-fixed standing line text defined))))
  takes-by text None undeclared e m placed places defined = absurd (some-finding _ [] (rw m at placed))
  takes-by text (Some trees) undeclared e m placed places defined =
      absurd (some-finding _ [] (rw m at ((both-none (element_findings standing line text (length trees)) (uses_in standing line trees) placed).0)))

  subscripts-pass : (text : Name) (subscripts : Option (List Tree)) → placed_findings standing line text subscripts ≡ [] → place_findings standing line subscripts ≡ []
      → subscripts_typed scope subscripts ≡ true
  subscripts-pass text None placed places = refl
  subscripts-pass text (Some trees) placed places =
      let found = both-none (element_findings standing line text (length trees)) (uses_in standing line trees) placed in
      let given = plain_arguments standing trees in
      let each = both-none (each_findings standing line trees) (subscript_findings line given) places in
      let operands = both-none (each_number_findings standing line trees) (each_operand_findings standing line trees) each.0 in
      let kinds = both-none (finding_if (not (all_whole given)) 28 line) (finding_if (not (none_keyed given)) 30 line) each.1 in
      all-numbers trees found.1 operands.0 operands.1 (found-not (all_whole given) 28 line kinds.0)

  -- ---- statements

  assign-passes : (target : Target) (tree : Tree) → scopes.deed_findings standing line (assign target tree) ≡ [] → types.deed_findings standing line (assign target tree) ≡ []
      → DeedPasses scope (assign target tree)
  assign-passes target tree s t =
      let found = both-none (placed_findings standing line target.name target.subscripts) (use_findings standing line tree) s in
      let its_form = form_at standing (name target.name) in
      let parts = both-none (types.target_findings standing line target) (value_findings standing line its_form tree) t in
      let placed = both-none (place_findings standing line target.subscripts) (defined_findings standing line target.name) parts.0 in
      let given = both-none (expression_findings standing line tree) (finding_if (not (same_type its_form (form_at standing tree))) 28 line) parts.1 in
      let passes = tree-passes tree found.1 given.0 in
      let its = knows.names target.name in
      let sort = sort_of_entity (entity scope target.name) in
      record {
        lowered =
            and_from (is_usable scope tree) (takes_values scope (entity scope target.name) target.subscripts) passes.usable
            (takes-by target.name target.subscripts its.thing its.stands its.means found.0 placed.0 placed.1);
        typed =
            and_from (is_typed_value scope sort tree) (subscripts_typed scope target.subscripts)
            (and_from (is_typed scope tree) (is_same_type sort (sort_of scope tree)) passes.typed
            (same-so target.name tree (form_at standing tree) (form-is tree) (found-not (same_type its_form (form_at standing tree)) 28 line given.1)))
            (subscripts-pass target.name target.subscripts found.0 placed.0);
      }

  -- as many values as the array has elements
  list-by : (text : Name) (values : ℕ) (t : Thing) → entity scope text ≡ entity_of t → meaning standing text ≡ meaning_of t
      → (is_declared t ≡ true → symbol_bounds (symbol_seen standing.symbols standing.unit text) ≡ bounds_in t) → array_findings standing line text ≡ [] → count_findings standing line text values ≡ []
      → takes_list (entity scope text) values ≡ true
  list-by text values (a_variable variable is_logical its_kind []) e m bounded array counts = absurd (some-finding _ [] (rw m at array))
  list-by text values (a_variable variable is_logical its_kind (first ∷ rest)) e m bounded array counts =
      let held : holds (bounds_at standing text) values ≡ true = found-not (holds (bounds_at standing text) values) 25 line (rw m at counts) in
      rw e (same-numbers values (elements_in (first ∷ rest)) (subst (λ (bounds : Bounds). holds bounds values ≡ true) (symbols-bounded (symbol_seen standing.symbols standing.unit text) ∙ bounded refl) held))
  list-by text values (an_index group its_kind) e m bounded array counts = absurd (some-finding _ [] (rw m at array))
  list-by text values (a_counter variable its_kind) e m bounded array counts = absurd (some-finding _ [] (rw m at array))
  list-by text values (a_constant is_logical its_kind z) e m bounded array counts = absurd (some-finding _ [] (rw m at array))
  list-by text values undeclared e m bounded array counts = absurd (some-finding _ [] (rw m at array))

  fill-passes : (text : Name) (trees : List Tree) → scopes.deed_findings standing line (fill text trees) ≡ [] → types.deed_findings standing line (fill text trees) ≡ []
      → DeedPasses scope (fill text trees)
  fill-passes text trees s t =
      let its = knows.names text in
      let its_form = form_at standing (name text) in
      let given = plain_arguments standing trees in
      let found = both-none (array_findings standing line text) (uses_in standing line trees ++ count_findings standing line text (length trees)) s in
      let others = both-none (uses_in standing line trees) (count_findings standing line text (length trees)) found.1 in
      let wrong = finding_if (not (all_of_type its_form given)) 28 line in
      let parts = both-none (each_findings standing line trees) (wrong ++ defined_findings standing line text) t in
      let each = both-none (each_number_findings standing line trees) (each_operand_findings standing line trees) parts.0 in
      let kinds = both-none wrong (defined_findings standing line text) parts.1 in
      record {
        lowered =
            and_from (all_usable scope trees) (takes_list (entity scope text) (length trees)) (all-usable trees others.0 each.1)
            (list-by text (length trees) its.thing its.stands its.means its.bounded found.0 others.1);
        typed = all-values text trees others.0 each.0 each.1 (found-not (all_of_type its_form given) 28 line kinds.0);
      }

  -- ---- output

  name-item-by : (text : Name) (t : Thing) → entity scope text ≡ entity_of t → meaning standing text ≡ meaning_of t → whole_findings standing line text ≡ []
      → gives_item scope (name text) ≡ true
  name-item-by text (a_variable variable is_logical its_kind []) e m h = rw e refl
  name-item-by text (a_variable variable is_logical its_kind (first ∷ rest)) e m h = rw e refl
  name-item-by text (an_index group its_kind) e m h = rw e refl
  name-item-by text (a_counter variable its_kind) e m h = rw e refl
  name-item-by text (a_constant is_logical its_kind z) e m h = rw e refl
  name-item-by text undeclared e m h = absurd (some-finding _ [] (rw m at h))

  item-passes : (tree : Tree) → item_findings standing line tree ≡ [] → number_findings standing line tree ≡ [] → operand_findings standing line tree ≡ [] → ItemPasses scope tree
  item-passes (chars text) u n o = record { given = refl; typed = refl }
  item-passes (name text) u n o = let its = knows.names text in record { given = name-item-by text its.thing its.stands its.means u; typed = refl }
  item-passes (number digits suffix) u n o = record { given = tree-usable standing scope knows line (number digits suffix) u o; typed = tree-typed standing scope knows line (number digits suffix) u n o }
  item-passes (syntax.truth given) u n o = record { given = tree-usable standing scope knows line (syntax.truth given) u o; typed = tree-typed standing scope knows line (syntax.truth given) u n o }
  item-passes (refer text args) u n o = record { given = tree-usable standing scope knows line (refer text args) u o; typed = tree-typed standing scope knows line (refer text args) u n o }
  item-passes (paren inside) u n o = record { given = tree-usable standing scope knows line (paren inside) u o; typed = tree-typed standing scope knows line (paren inside) u n o }
  item-passes (unary mark right) u n o = record { given = tree-usable standing scope knows line (unary mark right) u o; typed = tree-typed standing scope knows line (unary mark right) u n o }
  item-passes (binary mark left right) u n o = record { given = tree-usable standing scope knows line (binary mark left right) u o; typed = tree-typed standing scope knows line (binary mark left right) u n o }

  items-pass : (trees : List Tree) → items_in standing line trees ≡ [] → each_number_findings standing line trees ≡ [] → each_operand_findings standing line trees ≡ [] → ItemsPass scope trees
  items-pass [] u n o = record { given = refl; typed = refl }
  items-pass (tree ∷ rest) u n o =
      let found = both-none (item_findings standing line tree) (items_in standing line rest) u in
      let numbers = both-none (number_findings standing line tree) (each_number_findings standing line rest) n in
      let operands = both-none (operand_findings standing line tree) (each_operand_findings standing line rest) o in
      let one = item-passes tree found.0 numbers.0 operands.0 in
      let others = items-pass rest found.1 numbers.1 operands.1 in
      record {
        given = and_from (gives_item scope tree) (give_items scope rest) one.given others.given;
        typed = and_from (item_is_typed scope tree) (list_all (item_is_typed scope) rest) one.typed others.typed;
      }

  print-passes : (written : Bool) (trees : List Tree) → scopes.deed_findings standing line (print written trees) ≡ [] → types.deed_findings standing line (print written trees) ≡ []
      → DeedPasses scope (print written trees)
  print-passes written trees s t =
      let each = both-none (each_number_findings standing line trees) (each_operand_findings standing line trees) t in
      let all = items-pass trees s each.0 each.1 in
      record { lowered = all.given; typed = all.typed }

  -- A statement that is built.
  pub deed-passes : (deed : Deed) → is_built_deed deed ≡ true → scopes.deed_findings standing line deed ≡ [] → types.deed_findings standing line deed ≡ [] → DeedPasses scope deed
  deed-passes (assign target tree) built s t = assign-passes target tree s t
  deed-passes (fill text trees) built s t = fill-passes text trees s t
  deed-passes (print written trees) built s t = print-passes written trees s t
  deed-passes other built s t = absurd (false≢true built)
