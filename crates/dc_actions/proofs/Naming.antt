-- Names, and the functions of the language, that the rules let pass are used as the instructions take them.
use Rattle.std.proofs.Common.{◌≡◌, ℕ, suc, Bool, true, false, not, ◌&&◌, ◌||◌, cond, List, [], ◌∷◌, length, map, Option, Some, None, refl, sym, ap, ◌∙◌, subst}
use Rattle.std.proofs.lemmas.Bool.{and_parts, false≢true}
use Rattle.std.specs.Prelude.{nat_eq}
use Rattle.dc_tree.specs.Entities.{Scope, entity}
use Rattle.dc_tree.specs.Intrinsics.{Intrinsic}
use Rattle.dc_tree.specs.Statements.{Name}
use Rattle.dc_tree.specs.Syntax as syntax
use Rattle.dc_tree.specs.Syntax.{Tree, Args, number, chars, name, refer, paren, unary, binary, no_args, arg}
use Rattle.dc_tree.specs.Typing.{sort_of, sorts_of, first_sort, sort_of_entity}
use Rattle.dc_sorts.specs.declared.form.Form.{Form}
use Rattle.dc_sorts.specs.Forms.{form_of_sort}
use Rattle.dc_sorts.specs.Standing.{Standing, meaning}
use Rattle.dc_operands.specs.declared.argument.Argument.{Argument}
use Rattle.dc_operands.specs.Arguments.{form_in, is_about_array, takes, takes_keys, takes_first, takes_forms}
use Rattle.dc_operands.specs.Operands.{known_at, argument_with, argument_of, arguments_of}
use Rattle.dc_uses.specs.declared.reading.Reading.{Reading}
use Rattle.dc_uses.specs.Uses as uses
use Rattle.dc_uses.specs.Uses.{name_findings, array_findings, value_findings, asks_array, use_findings, argument_findings}
use Rattle.dc_meaning.specs.Values.{array_named}
use Rattle.dc_actions.specs.Expressions.{gives_value, is_whole_variable, count_of}
use Rattle.dc_actions.specs.Typed.{is_logical}
use Rattle.dc_actions.proofs.Things.{Thing, a_variable, an_index, a_counter, a_constant, undeclared, entity_of, meaning_of, IsThing, Knows, form-known}
use Rattle.dc_actions.proofs.Unbroken.{some-finding, both-none, found-not}

-- ---- names

scalar-fits : (standing : Standing) (scope : Scope) (line : ℕ) (text : Name) (t : Thing) → entity scope text ≡ entity_of t → meaning standing text ≡ meaning_of t
    → name_findings standing line text ≡ [] → gives_value (entity scope text) 0 ≡ true
scalar-fits standing scope line text (a_variable variable is_logical its_kind bounds) e m h = rw e (found-not (nat_eq (length bounds) 0) 21 line (rw m at h))
scalar-fits standing scope line text (an_index group its_kind) e m h = rw e refl
scalar-fits standing scope line text (a_counter variable its_kind) e m h = rw e refl
scalar-fits standing scope line text (a_constant is_logical its_kind z) e m h = rw e refl
scalar-fits standing scope line text undeclared e m h = absurd (some-finding _ [] (rw m at h))

-- A name where a scalar is asked gives a value.
pub name-gives : (standing : Standing) (scope : Scope) (line : ℕ) (text : Name) → IsThing standing scope text → name_findings standing line text ≡ []
    → gives_value (entity scope text) 0 ≡ true
name-gives standing scope line text its h = scalar-fits standing scope line text its.thing its.stands its.means h

array-fits : (standing : Standing) (scope : Scope) (line : ℕ) (text : Name) (t : Thing) → entity scope text ≡ entity_of t → meaning standing text ≡ meaning_of t
    → array_findings standing line text ≡ [] → is_whole_variable (entity scope text) ≡ true
array-fits standing scope line text (a_variable variable is_logical its_kind bounds) e m h = rw e refl
array-fits standing scope line text (an_index group its_kind) e m h = absurd (some-finding _ [] (rw m at h))
array-fits standing scope line text (a_counter variable its_kind) e m h = absurd (some-finding _ [] (rw m at h))
array-fits standing scope line text (a_constant is_logical its_kind z) e m h = absurd (some-finding _ [] (rw m at h))
array-fits standing scope line text undeclared e m h = absurd (some-finding _ [] (rw m at h))

-- A name where an array is asked is that of a variable.
pub array-whole : (standing : Standing) (scope : Scope) (line : ℕ) (text : Name) → IsThing standing scope text → array_findings standing line text ≡ []
    → is_whole_variable (entity scope text) ≡ true
array-whole standing scope line text its h = array-fits standing scope line text its.thing its.stands its.means h

-- ---- arguments

pub counted : (args : Args) → uses.count_of args ≡ count_of args
counted no_args = refl
counted (arg keyed given rest) = ap suc (counted rest)

argument-form : (standing : Standing) (keyed : Bool) (form : Form) (tree : Tree) → form_in (argument_with standing keyed form tree) ≡ form
argument-form standing keyed form (number digits suffix) = refl
argument-form standing keyed form (syntax.truth given) = refl
argument-form standing keyed form (chars text) = refl
argument-form standing keyed form (name text) = refl
argument-form standing keyed form (refer text args) = refl
argument-form standing keyed form (paren inside) = refl
argument-form standing keyed form (unary mark right) = refl
argument-form standing keyed form (binary mark left right) = refl

-- the form of an argument is that of its sort
pub form-given : (standing : Standing) (scope : Scope) → Knows standing scope → (keyed : Bool) (tree : Tree)
    → form_in (argument_of standing keyed tree) ≡ form_of_sort (sort_of scope tree)
form-given standing scope knows keyed tree = argument-form standing keyed (known_at standing tree).form tree ∙ form-known standing scope knows tree

pub forms-given : (standing : Standing) (scope : Scope) → Knows standing scope → (args : Args) → map form_in (arguments_of standing args) ≡ map form_of_sort (sorts_of scope args)
forms-given standing scope knows no_args = refl
forms-given standing scope knows (arg keyed given rest) =
    ap (λ (form : Form). form ∷ map form_in (arguments_of standing rest)) (form-given standing scope knows keyed given)
    ∙ ap (λ (forms : List Form). form_of_sort (sort_of scope given) ∷ forms) (forms-given standing scope knows rest)

-- What a function takes, by the sorts.
pub sorts-taken : (standing : Standing) (scope : Scope) → Knows standing scope → (function : Intrinsic) (args : Args) → takes function (arguments_of standing args) ≡ true
    → takes_forms function (map form_of_sort (sorts_of scope args)) ≡ true
sorts-taken standing scope knows function args h =
    let arguments = arguments_of standing args in
    let one = and_parts (takes_keys function arguments) (takes_first function arguments && takes_forms function (map form_in arguments)) h in
    let two = and_parts (takes_first function arguments) (takes_forms function (map form_in arguments)) one.1 in
    subst (λ (forms : List Form). takes_forms function forms ≡ true) (forms-given standing scope knows args) two.1

pub first-taken : (standing : Standing) (function : Intrinsic) (args : Args) → takes function (arguments_of standing args) ≡ true
    → takes_first function (arguments_of standing args) ≡ true
first-taken standing function args h =
    let arguments = arguments_of standing args in
    let one = and_parts (takes_keys function arguments) (takes_first function arguments && takes_forms function (map form_in arguments)) h in
    (and_parts (takes_first function arguments) (takes_forms function (map form_in arguments)) one.1).0

-- ---- how arguments are read

pub read-plainly : (reading : Reading) (tree : Tree) → asks_array reading ≡ false → uses.array_named reading tree ≡ None
read-plainly reading (number digits suffix) plainly = refl
read-plainly reading (syntax.truth given) plainly = refl
read-plainly reading (chars text) plainly = refl
read-plainly reading (name text) plainly = ap (λ asks. cond asks (Some text) None) plainly
read-plainly reading (refer text args) plainly = refl
read-plainly reading (paren inside) plainly = refl
read-plainly reading (unary mark right) plainly = refl
read-plainly reading (binary mark left right) plainly = refl

-- What is read as a value breaks what its names break.
pub value-read : (standing : Standing) (line : ℕ) (reading : Reading) (tree : Tree) → asks_array reading ≡ false
    → value_findings standing line (uses.array_named reading tree) (use_findings standing line tree) ≡ [] → use_findings standing line tree ≡ []
value-read standing line reading tree plainly h =
    subst (λ (asked : Option Name). value_findings standing line asked (use_findings standing line tree) ≡ []) (read-plainly reading tree plainly) h

-- ---- a whole array as an argument

-- The first argument names a variable, whose sort is that of the argument.
pub record NamesWhole (scope : Scope) (args : Args) : Type 0 where
  pub is_whole : is_whole_variable (array_named scope args) ≡ true
  pub its_sort : first_sort (sorts_of scope args) ≡ sort_of_entity (array_named scope args)

first-whole : (standing : Standing) (scope : Scope) → Knows standing scope → (line : ℕ) (keyed : Bool) (tree : Tree) (rest : Args)
    → (argument_of standing keyed tree).is_name ≡ true → argument_findings standing line Reading.Array (arg keyed tree rest) ≡ []
    → NamesWhole scope (arg keyed tree rest)
first-whole standing scope knows line keyed (name text) rest named h = record {
  is_whole = array-whole standing scope line text (knows.names text) ((both-none (array_findings standing line text) _ h).0);
  its_sort = refl;
}
first-whole standing scope knows line keyed (number digits suffix) rest named h = absurd (false≢true named)
first-whole standing scope knows line keyed (syntax.truth given) rest named h = absurd (false≢true named)
first-whole standing scope knows line keyed (chars text) rest named h = absurd (false≢true named)
first-whole standing scope knows line keyed (refer text args) rest named h = absurd (false≢true named)
first-whole standing scope knows line keyed (paren inside) rest named h = absurd (false≢true named)
first-whole standing scope knows line keyed (unary mark right) rest named h = absurd (false≢true named)
first-whole standing scope knows line keyed (binary mark left right) rest named h = absurd (false≢true named)

about-first : (function : Intrinsic) (first : Argument) (rest : List Argument) → is_about_array function ≡ true → takes_first function (first ∷ rest) ≡ true → first.is_name ≡ true
about-first function first rest asks h = subst (λ (about : Bool). (not about || first.is_name) ≡ true) asks h

pub names-whole : (standing : Standing) (scope : Scope) → Knows standing scope → (line : ℕ) (function : Intrinsic) (args : Args)
    → is_about_array function ≡ true → takes_forms function [] ≡ false → takes function (arguments_of standing args) ≡ true
    → argument_findings standing line Reading.Array args ≡ [] → NamesWhole scope args
names-whole standing scope knows line function no_args asks empty taken h =
    absurd (false≢true (sym empty ∙ sorts-taken standing scope knows function no_args taken))
names-whole standing scope knows line function (arg keyed given rest) asks empty taken h =
    first-whole standing scope knows line keyed given rest
    (about-first function (argument_of standing keyed given) (arguments_of standing rest) asks (first-taken standing function (arg keyed given rest) taken)) h
