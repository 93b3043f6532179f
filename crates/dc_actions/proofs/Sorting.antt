-- An expression that the rules let pass has operands and arguments of the sorts that the instructions take, and its numbers are of their kinds.
use Rattle.std.proofs.Common.{◌≡◌, ℕ, Bool, true, false, not, ◌&&◌, cond, List, [], ◌∷◌, ◌++◌, map, Option, Some, None, is_some, is_none, option_map, option_and_then, refl, sym, ap, ◌∙◌, subst}
use Rattle.std.proofs.lemmas.Bool.{and_parts, and_from, false≢true}
use Rattle.std.specs.Prelude.{ℤ, pos, int_le}
use Rattle.std.specs.List.{list_all}
use Rattle.dc_int.specs.declared.kind.Kind.{Kind}
use Rattle.dc_int.specs.Kinds.{greatest_of}
use Rattle.dc_int.specs.Sorts.{Sort}
use Rattle.dc_tree.specs.declared.token.Mark.{Mark}
use Rattle.dc_tree.specs.declared.token.Suffix.{Suffix}
use Rattle.dc_tree.specs.Entities.{Entity, nothing, Scope, entity}
use Rattle.dc_tree.specs.Findings.{finding, finding_if}
use Rattle.dc_tree.specs.Intrinsics.{Intrinsic, operation, chosen, merge, converted, huge, bit_size, kind, size, lower_bound, upper_bound, total, count, any, all, intrinsic}
use Rattle.dc_tree.specs.Literals.{number_of}
use Rattle.dc_tree.specs.Statements.{Name}
use Rattle.dc_tree.specs.Syntax as syntax
use Rattle.dc_tree.specs.Syntax.{Tree, Args, number, chars, name, refer, paren, unary, binary, no_args, arg}
use Rattle.dc_tree.specs.Typing.{kind_with_suffix, is_constant_suffix, literal_value, sort_of, sorts_of, first_sort, sort_of_entity}
use Rattle.dc_sorts.specs.declared.form.Form.{Form}
use Rattle.dc_sorts.specs.Forms.{form_of_sort}
use Rattle.dc_sorts.specs.Standing.{Standing, meaning}
use Rattle.dc_operands.specs.Arguments.{is_whole, form_in, none_keyed, takes, takes_forms}
use Rattle.dc_operands.specs.Operands.{known_at, is_out_of_kind, number_findings, number_findings_in, takes_one, takes_two, all_whole, argument_of, arguments_of, function_findings, reference_findings, operand_findings, operand_findings_in}
use Rattle.dc_uses.specs.declared.reading.Reading.{Reading}
use Rattle.dc_uses.specs.Constants.{constant_with, whole_value, kind_value_findings, kind_findings}
use Rattle.dc_uses.specs.Uses as uses
use Rattle.dc_uses.specs.Uses.{name_findings, suffix_findings, head_findings, reading_of, reading_undeclared, value_findings, use_findings, argument_findings}
use Rattle.dc_meaning.specs.Values.{array_named}
use Rattle.dc_actions.specs.Expressions.{is_number}
use Rattle.dc_actions.specs.Typed.{is_logical, leads, joins, operates_on, chooses_among, merges, takes_sorts, refers_typed, is_typed, are_typed, first_typed}
use Rattle.dc_actions.proofs.Naming.{form-given, sorts-taken, value-read, NamesWhole, names-whole}
use Rattle.dc_actions.proofs.Taking.{number-form, truth-form, leads-so, joins-so, is_named_function, is_named_option, named-function, operation-taken, chosen-taken, merge-taken}
use Rattle.dc_actions.proofs.Things.{Thing, a_variable, an_index, a_counter, a_constant, undeclared, entity_of, meaning_of, Knows, form-known, constant-known}
use Rattle.dc_actions.proofs.Unbroken.{some-finding, both-none, not-found, found-not}

-- ---- numbers

in-kind : (fits : Bool) (z : ℤ) → is_none (cond fits (Some z) None) ≡ false → fits ≡ true
in-kind true z h = refl
in-kind false z h = absurd (false≢true (sym h))

-- a constant number that isn't out of its kind
number-in-kind : (constant : Bool) (its_kind : Kind) (n : ℕ) → constant ≡ true → (constant && is_none (cond constant (literal_value its_kind n) None)) ≡ false
    → int_le (pos n) (greatest_of its_kind) ≡ true
number-in-kind true its_kind n is h = in-kind (int_le (pos n) (greatest_of its_kind)) (pos n) h
number-in-kind false its_kind n is h = absurd (false≢true is)

-- a kind that is told is a constant expression
kind-told : (line : ℕ) (constant : Bool) (form : Form) (value : Option ℤ)
    → kind_value_findings line (option_and_then whole_value (cond constant (option_map (constant_with form) value) None)) ≡ [] → constant ≡ true
kind-told line true form value h = refl
kind-told line false form value h = absurd (some-finding (finding 23 line) [] h)

first-whole-sort : (sorts : List Sort) → takes_forms converted (map form_of_sort sorts) ≡ true → is_number (first_sort sorts) ≡ true
first-whole-sort [] h = absurd (false≢true h)
first-whole-sort (a ∷ []) h = sym (number-form a) ∙ h
first-whole-sort (a ∷ its_kind ∷ []) h = sym (number-form a) ∙ h
first-whole-sort (a ∷ its_kind ∷ more ∷ rest) h = absurd (false≢true h)

count-truths : (sorts : List Sort) → takes_forms count (map form_of_sort sorts) ≡ true → is_logical (first_sort sorts) ≡ true
count-truths [] h = absurd (false≢true h)
count-truths (a ∷ []) h = sym (truth-form a) ∙ h
count-truths (a ∷ b ∷ rest) h = absurd (false≢true h)

any-truths : (sorts : List Sort) → takes_forms any (map form_of_sort sorts) ≡ true → is_logical (first_sort sorts) ≡ true
any-truths [] h = absurd (false≢true h)
any-truths (a ∷ []) h = sym (truth-form a) ∙ h
any-truths (a ∷ b ∷ rest) h = absurd (false≢true h)

all-truths : (sorts : List Sort) → takes_forms all (map form_of_sort sorts) ≡ true → is_logical (first_sort sorts) ≡ true
all-truths [] h = absurd (false≢true h)
all-truths (a ∷ []) h = sym (truth-form a) ∙ h
all-truths (a ∷ b ∷ rest) h = absurd (false≢true h)

module _ (standing : Standing) (scope : Scope) (knows : Knows standing scope) (line : ℕ) where
  suffix-constant : (suffix : Suffix) → suffix_findings standing line suffix ≡ [] → is_constant_suffix scope suffix ≡ true
  suffix-constant Suffix.Absent h = refl
  suffix-constant (Suffix.Digits digits) h = refl
  suffix-constant (Suffix.Named text) h =
      let parts = both-none (name_findings standing line text) (kind_findings standing line (name text)) h in
      let known = known_at standing (name text) in
      sym (constant-known standing scope knows (name text)) ∙ kind-told line known.constant known.form known.value parts.1

  pub number-typed : (digits : List ℕ) (suffix : Suffix) → suffix_findings standing line suffix ≡ [] → number_findings standing line (number digits suffix) ≡ []
      → is_typed scope (number digits suffix) ≡ true
  number-typed digits suffix u n =
      number-in-kind (is_constant_suffix scope suffix) (kind_with_suffix scope suffix) (number_of digits) (suffix-constant suffix u)
      (sym (ap is_out_of_kind (knows.sorts (number digits suffix))) ∙ not-found (is_out_of_kind (known_at standing (number digits suffix))) 29 line n)

  -- subscripts are numbers
  pub whole-arguments : (args : Args) → all_whole (arguments_of standing args) ≡ true → list_all is_number (sorts_of scope args) ≡ true
  whole-arguments no_args h = refl
  whole-arguments (arg keyed given rest) h =
      let parts = and_parts (is_whole (form_in (argument_of standing keyed given))) (all_whole (arguments_of standing rest)) h in
      and_from (is_number (sort_of scope given)) (list_all is_number (sorts_of scope rest))
      (sym (number-form (sort_of scope given)) ∙ sym (ap is_whole (form-given standing scope knows keyed given)) ∙ parts.0) (whole-arguments rest parts.1)

  module _ (args : Args) where
    array-truths : (function : Intrinsic) → NamesWhole scope args → is_logical (first_sort (sorts_of scope args)) ≡ true
        → is_logical (sort_of_entity (array_named scope args)) ≡ true
    array-truths function its h = ap is_logical (sym its.its_sort) ∙ h

    function-typed : (function : Intrinsic) → is_named_function function ≡ true → takes function (arguments_of standing args) ≡ true
        → argument_findings standing line (uses.reading_by function) args ≡ []
        → (argument_findings standing line Reading.Value args ≡ [] → are_typed scope args ≡ true)
        → (argument_findings standing line Reading.Converted args ≡ [] → first_typed scope args ≡ true)
        → takes_sorts scope function args (are_typed scope args) (first_typed scope args) ≡ true
    function-typed (operation op) named taken read each first =
        and_from (are_typed scope args) (operates_on op (sorts_of scope args)) (each read)
        ((operation-taken op (sorts_of scope args) named (sorts-taken standing scope knows (operation op) args taken)).1)
    function-typed (chosen op) named taken read each first =
        and_from (are_typed scope args) (chooses_among (sorts_of scope args)) (each read)
        (chosen-taken op (sorts_of scope args) (sorts-taken standing scope knows (chosen op) args taken))
    function-typed merge named taken read each first =
        and_from (are_typed scope args) (merges (sorts_of scope args)) (each read)
        ((merge-taken (sorts_of scope args) (sorts-taken standing scope knows merge args taken)).1)
    function-typed converted named taken read each first =
        and_from (first_typed scope args) (is_number (first_sort (sorts_of scope args))) (first read)
        (first-whole-sort (sorts_of scope args) (sorts-taken standing scope knows converted args taken))
    function-typed huge named taken read each first = refl
    function-typed bit_size named taken read each first = refl
    function-typed kind named taken read each first = refl
    function-typed size named taken read each first = refl
    function-typed lower_bound named taken read each first = refl
    function-typed upper_bound named taken read each first = refl
    function-typed total named taken read each first = refl
    function-typed count named taken read each first =
        array-truths count (names-whole standing scope knows line count args refl refl taken read) (count-truths (sorts_of scope args) (sorts-taken standing scope knows count args taken))
    function-typed any named taken read each first =
        array-truths any (names-whole standing scope knows line any args refl refl taken read) (any-truths (sorts_of scope args) (sorts-taken standing scope knows any args taken))
    function-typed all named taken read each first =
        array-truths all (names-whole standing scope knows line all args refl refl taken read) (all-truths (sorts_of scope args) (sorts-taken standing scope knows all args taken))

    undeclared-typed : (function : Option Intrinsic) → is_named_option function ≡ true → finding_if (not (is_some function)) 20 line ≡ []
        → function_findings line function (arguments_of standing args) ≡ []
        → argument_findings standing line (reading_undeclared function) args ≡ []
        → (argument_findings standing line Reading.Value args ≡ [] → are_typed scope args ≡ true)
        → (argument_findings standing line Reading.Converted args ≡ [] → first_typed scope args ≡ true)
        → refers_typed scope nothing function args (are_typed scope args) (first_typed scope args) ≡ true
    undeclared-typed None named head operands read each first = absurd (some-finding _ [] head)
    undeclared-typed (Some function) named head operands read each first =
        function-typed function named (found-not (takes function (arguments_of standing args)) 30 line operands) read each first

    subscripts-whole : finding_if (not (all_whole (arguments_of standing args))) 28 line ++ finding_if (not (none_keyed (arguments_of standing args))) 30 line ≡ []
        → list_all is_number (sorts_of scope args) ≡ true
    subscripts-whole h =
        let given = arguments_of standing args in
        let parts = both-none (finding_if (not (all_whole given)) 28 line) (finding_if (not (none_keyed given)) 30 line) h in
        whole-arguments args (found-not (all_whole given) 28 line parts.0)

    refers-typed : (text : Name) (t : Thing) → entity scope text ≡ entity_of t → meaning standing text ≡ meaning_of t
        → head_findings standing line text (uses.count_of args) ≡ []
        → reference_findings standing line text (arguments_of standing args) ≡ []
        → argument_findings standing line (reading_of standing text) args ≡ []
        → (argument_findings standing line Reading.Value args ≡ [] → are_typed scope args ≡ true)
        → (argument_findings standing line Reading.Converted args ≡ [] → first_typed scope args ≡ true)
        → refers_typed scope (entity scope text) (intrinsic text) args (are_typed scope args) (first_typed scope args) ≡ true
    refers-typed text (a_variable variable is_logical its_kind bounds) e m head operands read each first =
        subst (λ (its : Entity). refers_typed scope its (intrinsic text) args (are_typed scope args) (first_typed scope args) ≡ true) (sym e)
        (and_from (are_typed scope args) (list_all is_number (sorts_of scope args)) (each (rw m at read)) (subscripts-whole (rw m at operands)))
    refers-typed text (an_index group its_kind) e m head operands read each first = absurd (some-finding _ [] (rw m at head))
    refers-typed text (a_counter variable its_kind) e m head operands read each first = absurd (some-finding _ [] (rw m at head))
    refers-typed text (a_constant is_logical its_kind z) e m head operands read each first = absurd (some-finding _ [] (rw m at head))
    refers-typed text undeclared e m head operands read each first =
        subst (λ (its : Entity). refers_typed scope its (intrinsic text) args (are_typed scope args) (first_typed scope args) ≡ true) (sym e)
        (undeclared-typed (intrinsic text) (named-function text) (rw m at head) (rw m at operands) (rw m at read) each first)

  -- ---- expressions

  pub leads-typed : (mark : Mark) (right : Tree) → finding_if (not (takes_one mark (known_at standing right).form)) 28 line ≡ [] → leads mark (sort_of scope right) ≡ true
  leads-typed mark right h =
      sym (leads-so mark (sort_of scope right)) ∙ sym (ap (takes_one mark) (form-known standing scope knows right))
      ∙ found-not (takes_one mark (known_at standing right).form) 28 line h

  pub joins-typed : (mark : Mark) (left right : Tree) → finding_if (not (takes_two mark (known_at standing left).form (known_at standing right).form)) 28 line ≡ []
      → joins mark (sort_of scope left) (sort_of scope right) ≡ true
  joins-typed mark left right h =
      sym (joins-so mark (sort_of scope left) (sort_of scope right))
      ∙ sym (ap (λ (form : Form). takes_two mark form (form_of_sort (sort_of scope right))) (form-known standing scope knows left))
      ∙ sym (ap (λ (form : Form). takes_two mark (known_at standing left).form form) (form-known standing scope knows right))
      ∙ found-not (takes_two mark (known_at standing left).form (known_at standing right).form) 28 line h

  mutual
    pub tree-typed : (tree : Tree) → use_findings standing line tree ≡ [] → number_findings standing line tree ≡ [] → operand_findings standing line tree ≡ []
        → is_typed scope tree ≡ true
    tree-typed (number digits suffix) u n o = number-typed digits suffix u n
    tree-typed (syntax.truth given) u n o = refl
    tree-typed (chars text) u n o = refl
    tree-typed (name text) u n o = refl
    tree-typed (refer text args) u n o =
        let its = knows.names text in
        let found = both-none (head_findings standing line text (uses.count_of args)) (argument_findings standing line (reading_of standing text) args) u in
        let operands = both-none (operand_findings_in standing line args) (reference_findings standing line text (arguments_of standing args)) o in
        refers-typed args text its.thing its.stands its.means found.0 operands.1 found.1 (λ read. args-typed args read n operands.0)
        (λ read. first-is-typed args read n operands.0)
    tree-typed (paren inside) u n o = tree-typed inside u n o
    tree-typed (unary mark right) u n o =
        let operands = both-none (operand_findings standing line right) (finding_if (not (takes_one mark (known_at standing right).form)) 28 line) o in
        and_from (is_typed scope right) (leads mark (sort_of scope right)) (tree-typed right u n operands.0) (leads-typed mark right operands.1)
    tree-typed (binary mark left right) u n o =
        let found = both-none (use_findings standing line left) (use_findings standing line right) u in
        let numbers = both-none (number_findings standing line left) (number_findings standing line right) n in
        let joined = finding_if (not (takes_two mark (known_at standing left).form (known_at standing right).form)) 28 line in
        let operands = both-none (operand_findings standing line left) (operand_findings standing line right ++ joined) o in
        let others = both-none (operand_findings standing line right) joined operands.1 in
        and_from (is_typed scope left) (is_typed scope right && joins mark (sort_of scope left) (sort_of scope right)) (tree-typed left found.0 numbers.0 operands.0)
        (and_from (is_typed scope right) (joins mark (sort_of scope left) (sort_of scope right)) (tree-typed right found.1 numbers.1 others.0)
        (joins-typed mark left right others.1))

    args-typed : (args : Args) → argument_findings standing line Reading.Value args ≡ [] → number_findings_in standing line args ≡ []
        → operand_findings_in standing line args ≡ [] → are_typed scope args ≡ true
    args-typed no_args u n o = refl
    args-typed (arg keyed given rest) u n o =
        let found = both-none (value_findings standing line (uses.array_named Reading.Value given) (use_findings standing line given)) (argument_findings standing line Reading.Value rest) u in
        let numbers = both-none (number_findings standing line given) (number_findings_in standing line rest) n in
        let operands = both-none (operand_findings standing line given) (operand_findings_in standing line rest) o in
        and_from (is_typed scope given) (are_typed scope rest) (tree-typed given (value-read standing line Reading.Value given refl found.0) numbers.0 operands.0)
        (args-typed rest found.1 numbers.1 operands.1)

    first-is-typed : (args : Args) → argument_findings standing line Reading.Converted args ≡ [] → number_findings_in standing line args ≡ []
        → operand_findings_in standing line args ≡ [] → first_typed scope args ≡ true
    first-is-typed no_args u n o = refl
    first-is-typed (arg keyed given rest) u n o =
        let found = both-none (value_findings standing line (uses.array_named Reading.Converted given) (use_findings standing line given)) (argument_findings standing line Reading.Kind rest) u in
        let numbers = both-none (number_findings standing line given) (number_findings_in standing line rest) n in
        let operands = both-none (operand_findings standing line given) (operand_findings_in standing line rest) o in
        tree-typed given (value-read standing line Reading.Converted given refl found.0) numbers.0 operands.0
