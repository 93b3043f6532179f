-- An expression that the rules let pass is used as the instructions take it: its names have the ranks and its functions the arguments.
use Rattle.std.proofs.Common.{◌≡◌, ℕ, suc, true, not, ◌&&◌, List, [], ◌∷◌, ◌++◌, length, map, Option, Some, None, is_some, refl, sym, ap, ◌∙◌, subst, arith}
use Rattle.std.proofs.lemmas.Bool.{and_from, false≢true, lt-ltb}
use Rattle.std.specs.Prelude.{nat_eq, nat_lt}
use Rattle.dc_int.specs.declared.operation.Op.{Op}
use Rattle.dc_int.specs.Sorts.{Sort}
use Rattle.dc_tree.specs.Entities.{Entity, nothing, Scope, entity}
use Rattle.dc_tree.specs.Findings.{finding_if}
use Rattle.dc_tree.specs.Intrinsics.{Intrinsic, operation, chosen, merge, converted, huge, bit_size, kind, size, lower_bound, upper_bound, total, count, any, all, intrinsic}
use Rattle.dc_tree.specs.Statements.{Name}
use Rattle.dc_tree.specs.Syntax as syntax
use Rattle.dc_tree.specs.Syntax.{Tree, Args, number, chars, name, refer, paren, unary, binary, no_args, arg}
use Rattle.dc_tree.specs.Typing.{sorts_of, first_sort, sort_of_entity}
use Rattle.dc_sorts.specs.Forms.{form_of_sort}
use Rattle.dc_sorts.specs.Standing.{Standing, meaning}
use Rattle.dc_operands.specs.Arguments.{takes, takes_forms}
use Rattle.dc_operands.specs.Operands.{known_at, takes_one, takes_two, arguments_of, function_findings, reference_findings, operand_findings, operand_findings_in}
use Rattle.dc_uses.specs.declared.reading.Reading.{Reading}
use Rattle.dc_uses.specs.Uses as uses
use Rattle.dc_uses.specs.Uses.{head_findings, reading_of, reading_undeclared, value_findings, use_findings, argument_findings}
use Rattle.dc_meaning.specs.Values.{array_named}
use Rattle.dc_actions.specs.Expressions.{is_whole_variable, is_number, count_of, has_one_or_two, chooses, takes_so, refers_so, is_usable, are_usable, first_usable}
use Rattle.dc_actions.proofs.Naming.{name-gives, counted, sorts-taken, value-read, names-whole}
use Rattle.dc_actions.proofs.Taking.{number-form, is_named_function, is_named_option, named-function, operation-taken, merge-taken}
use Rattle.dc_actions.proofs.Things.{Thing, a_variable, an_index, a_counter, a_constant, undeclared, entity_of, meaning_of, Knows}
use Rattle.dc_actions.proofs.Unbroken.{some-finding, both-none, found-not, fits-rank}
use Rattle.dc_actions.proofs.RunsOfValues.{sorts-count}

-- ---- the functions of the language

first-number : (sorts : List Sort) → takes_forms total (map form_of_sort sorts) ≡ true → is_number (first_sort sorts) ≡ true
first-number [] h = absurd (false≢true h)
first-number (a ∷ []) h = sym (number-form a) ∙ h
first-number (a ∷ b ∷ rest) h = absurd (false≢true h)

some-arguments : (op : Op) (sorts : List Sort) → takes_forms (chosen op) (map form_of_sort sorts) ≡ true → nat_lt 0 (length sorts) ≡ true
some-arguments op [] h = absurd (false≢true h)
some-arguments op (a ∷ rest) h = lt-ltb 0 (suc (length rest)) (omega arith)

one-converted : (sorts : List Sort) → takes_forms converted (map form_of_sort sorts) ≡ true → nat_lt 0 (length sorts) ≡ true
one-converted [] h = absurd (false≢true h)
one-converted (a ∷ rest) h = lt-ltb 0 (suc (length rest)) (omega arith)

module _ (standing : Standing) (scope : Scope) (knows : Knows standing scope) (line : ℕ) (args : Args) where
  -- what is asked of a function of the language
  function-so : (function : Intrinsic) → is_named_function function ≡ true → takes function (arguments_of standing args) ≡ true
      → argument_findings standing line (uses.reading_by function) args ≡ []
      → (argument_findings standing line Reading.Value args ≡ [] → are_usable scope args ≡ true)
      → (argument_findings standing line Reading.Converted args ≡ [] → first_usable scope args ≡ true)
      → takes_so scope function args (are_usable scope args) (first_usable scope args) ≡ true
  function-so (operation op) named taken read each first =
      and_from (has_one_or_two op (count_of args)) (are_usable scope args)
      (subst (λ (n : ℕ). has_one_or_two op n ≡ true) (sorts-count scope args) ((operation-taken op (sorts_of scope args) named (sorts-taken standing scope knows (operation op) args taken)).0))
      (each read)
  function-so (chosen op) named taken read each first =
      and_from (chooses op) (nat_lt 0 (count_of args) && are_usable scope args) named
      (and_from (nat_lt 0 (count_of args)) (are_usable scope args)
      (subst (λ (n : ℕ). nat_lt 0 n ≡ true) (sorts-count scope args) (some-arguments op (sorts_of scope args) (sorts-taken standing scope knows (chosen op) args taken)))
      (each read))
  function-so merge named taken read each first =
      and_from (nat_eq (count_of args) 3) (are_usable scope args)
      (subst (λ (n : ℕ). nat_eq n 3 ≡ true) (sorts-count scope args) ((merge-taken (sorts_of scope args) (sorts-taken standing scope knows merge args taken)).0))
      (each read)
  function-so converted named taken read each first =
      and_from (nat_lt 0 (count_of args)) (first_usable scope args)
      (subst (λ (n : ℕ). nat_lt 0 n ≡ true) (sorts-count scope args) (one-converted (sorts_of scope args) (sorts-taken standing scope knows converted args taken)))
      (first read)
  function-so huge named taken read each first = refl
  function-so bit_size named taken read each first = refl
  function-so kind named taken read each first = refl
  function-so size named taken read each first = refl
  function-so lower_bound named taken read each first = refl
  function-so upper_bound named taken read each first = refl
  function-so total named taken read each first =
      let its = names-whole standing scope knows line total args refl refl taken read in
      and_from (is_whole_variable (array_named scope args)) (is_number (sort_of_entity (array_named scope args))) its.is_whole
      (ap is_number (sym its.its_sort) ∙ first-number (sorts_of scope args) (sorts-taken standing scope knows total args taken))
  function-so count named taken read each first = (names-whole standing scope knows line count args refl refl taken read).is_whole
  function-so any named taken read each first = (names-whole standing scope knows line any args refl refl taken read).is_whole
  function-so all named taken read each first = (names-whole standing scope knows line all args refl refl taken read).is_whole

  -- a name that isn't declared
  undeclared-so : (function : Option Intrinsic) → is_named_option function ≡ true → finding_if (not (is_some function)) 20 line ≡ []
      → function_findings line function (arguments_of standing args) ≡ []
      → argument_findings standing line (reading_undeclared function) args ≡ []
      → (argument_findings standing line Reading.Value args ≡ [] → are_usable scope args ≡ true)
      → (argument_findings standing line Reading.Converted args ≡ [] → first_usable scope args ≡ true)
      → refers_so scope nothing function args (are_usable scope args) (first_usable scope args) ≡ true
  undeclared-so None named head operands read each first = absurd (some-finding _ [] head)
  undeclared-so (Some function) named head operands read each first =
      function-so function named (found-not (takes function (arguments_of standing args)) 30 line operands) read each first

  -- a name with arguments or subscripts
  refers-so : (text : Name) (t : Thing) → entity scope text ≡ entity_of t → meaning standing text ≡ meaning_of t
      → head_findings standing line text (uses.count_of args) ≡ []
      → reference_findings standing line text (arguments_of standing args) ≡ []
      → argument_findings standing line (reading_of standing text) args ≡ []
      → (argument_findings standing line Reading.Value args ≡ [] → are_usable scope args ≡ true)
      → (argument_findings standing line Reading.Converted args ≡ [] → first_usable scope args ≡ true)
      → refers_so scope (entity scope text) (intrinsic text) args (are_usable scope args) (first_usable scope args) ≡ true
  refers-so text (a_variable variable is_logical its_kind bounds) e m head operands read each first =
      subst (λ (its : Entity). refers_so scope its (intrinsic text) args (are_usable scope args) (first_usable scope args) ≡ true) (sym e)
      (and_from (nat_eq (length bounds) (count_of args)) (are_usable scope args)
      (subst (λ (n : ℕ). nat_eq (length bounds) n ≡ true) (counted args) (fits-rank (length bounds) (uses.count_of args) line (rw m at head)))
      (each (rw m at read)))
  refers-so text (an_index group its_kind) e m head operands read each first = absurd (some-finding _ [] (rw m at head))
  refers-so text (a_counter variable its_kind) e m head operands read each first = absurd (some-finding _ [] (rw m at head))
  refers-so text (a_constant is_logical its_kind z) e m head operands read each first = absurd (some-finding _ [] (rw m at head))
  refers-so text undeclared e m head operands read each first =
      subst (λ (its : Entity). refers_so scope its (intrinsic text) args (are_usable scope args) (first_usable scope args) ≡ true) (sym e)
      (undeclared-so (intrinsic text) (named-function text) (rw m at head) (rw m at operands) (rw m at read) each first)

-- ---- expressions

module _ (standing : Standing) (scope : Scope) (knows : Knows standing scope) (line : ℕ) where
  mutual
    pub tree-usable : (tree : Tree) → use_findings standing line tree ≡ [] → operand_findings standing line tree ≡ [] → is_usable scope tree ≡ true
    tree-usable (number digits suffix) u o = refl
    tree-usable (syntax.truth given) u o = refl
    tree-usable (chars text) u o = refl
    tree-usable (name text) u o = name-gives standing scope line text (knows.names text) u
    tree-usable (refer text args) u o =
        let its = knows.names text in
        let found = both-none (head_findings standing line text (uses.count_of args)) (argument_findings standing line (reading_of standing text) args) u in
        let operands = both-none (operand_findings_in standing line args) (reference_findings standing line text (arguments_of standing args)) o in
        refers-so standing scope knows line args text its.thing its.stands its.means found.0 operands.1 found.1 (λ read. args-usable args read operands.0)
        (λ read. first-is-usable args read operands.0)
    tree-usable (paren inside) u o = tree-usable inside u o
    tree-usable (unary mark right) u o =
        let operands = both-none (operand_findings standing line right) (finding_if (not (takes_one mark (known_at standing right).form)) 28 line) o in
        tree-usable right u operands.0
    tree-usable (binary mark left right) u o =
        let found = both-none (use_findings standing line left) (use_findings standing line right) u in
        let joined = finding_if (not (takes_two mark (known_at standing left).form (known_at standing right).form)) 28 line in
        let operands = both-none (operand_findings standing line left) (operand_findings standing line right ++ joined) o in
        let others = both-none (operand_findings standing line right) joined operands.1 in
        and_from (is_usable scope left) (is_usable scope right) (tree-usable left found.0 operands.0) (tree-usable right found.1 others.0)

    pub args-usable : (args : Args) → argument_findings standing line Reading.Value args ≡ [] → operand_findings_in standing line args ≡ [] → are_usable scope args ≡ true
    args-usable no_args u o = refl
    args-usable (arg keyed given rest) u o =
        let found = both-none (value_findings standing line (uses.array_named Reading.Value given) (use_findings standing line given)) (argument_findings standing line Reading.Value rest) u in
        let operands = both-none (operand_findings standing line given) (operand_findings_in standing line rest) o in
        and_from (is_usable scope given) (are_usable scope rest) (tree-usable given (value-read standing line Reading.Value given refl found.0) operands.0) (args-usable rest found.1 operands.1)

    first-is-usable : (args : Args) → argument_findings standing line Reading.Converted args ≡ [] → operand_findings_in standing line args ≡ [] → first_usable scope args ≡ true
    first-is-usable no_args u o = refl
    first-is-usable (arg keyed given rest) u o =
        let found = both-none (value_findings standing line (uses.array_named Reading.Converted given) (use_findings standing line given)) (argument_findings standing line Reading.Kind rest) u in
        let operands = both-none (operand_findings standing line given) (operand_findings_in standing line rest) o in
        tree-usable given (value-read standing line Reading.Converted given refl found.0) operands.0
