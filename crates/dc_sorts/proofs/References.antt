-- References by the form of what their name stands for, and the values of their arguments.
use Rattle.std.proofs.Common.{◌≡◌, ℕ, ◌+◌, ◌<◌, length, drop, get_or, Bool, true, false, ◌&&◌, List, [], ◌∷◌, map, Option, Some, None, option_map, option_and_then, is_some, if◌then◌else◌, IsTrue, ℤ, Ok, Err, refl, sym, ap, ◌∙◌}
use Rattle.std.specs.List.{list_all}
use Rattle.std.proofs.lemmas.List.{drop_more}
use Rattle.dc_int.specs.declared.operation.Op.{Op}
use Rattle.dc_int.specs.declared.operation.OpFault.{OpFault}
use Rattle.dc_int.specs.Operations.{Outcome, applied}
use Rattle.dc_int.specs.Sorts.{Sort, kind_of}
use Rattle.dc_tree.specs.Entities.{Entity, outside, slots, dummy, constant, function, subroutine, reduction, nothing, Scope, entity}
use Rattle.dc_tree.specs.Intrinsics.{Intrinsic, intrinsic}
use Rattle.dc_tree.specs.Operating.{chosen_from}
use Rattle.dc_tree.specs.Statements.{Name}
use Rattle.dc_tree.specs.Symbols.{is_sound}
use Rattle.dc_tree.specs.Typing.{sort_of_entity, value_of, where_each, sort_referred, is_constant_function}
use Rattle.dc_sorts.specs.declared.form.Form.{Form}
use Rattle.dc_sorts.specs.declared.known.Known.{Known}
use Rattle.dc_sorts.specs.declared.meaning.Meaning.{Meaning}
use Rattle.dc_sorts.specs.Forms.{sort_of_form, form_of_sort}
use Rattle.dc_sorts.specs.Knowing.{known_sort, known_value, known_referred}
use Rattle.dc_sorts.specs.Meanings.{form_of_meaning, is_nothing}
use Rattle.dc_sorts.specs.References.{form_of_entity, form_referred, is_constant_call, form_declared, referred, has_value, number_in, number_given}
use Rattle.dc_sorts.specs.Standing.{Standing, meaning, scope_at}
use Rattle.dc_sorts.proofs.Entities.{Agrees, is_no_entity, meaning-agrees}
use Rattle.dc_sorts.proofs.Knowing.{form-back}

-- A form is that of its sort.
pub form-there : (form : Form) → form_of_sort (sort_of_form form) ≡ form
form-there (Form.Whole kind) = refl
form-there Form.Logical = refl

pub ruleset forms = (form-back, form-there)

-- ---- from what a name stands for

form_there : (its : Entity) (function_of : Option Intrinsic) (args : List Known)
    → form_referred (form_of_entity its) function_of args ≡ form_of_sort (sort_referred its function_of (map known_sort args) (map known_value args))
form_there nothing (Some function_of) args = refl
form_there nothing None args = refl
form_there (outside number sort bounds) function_of args = refl
form_there (slots group sort bounds) function_of args = refl
form_there (dummy place sort) function_of args = refl
form_there (constant sort value) function_of args = refl
form_there (function procedure sort) function_of args = refl
form_there (subroutine procedure intents) function_of args = refl
form_there (reduction number op sort bounds) function_of args = refl

constant_there : (its : Entity) (function_of : Option Intrinsic) → is_constant_call (form_of_entity its) function_of ≡ is_constant_function its function_of
constant_there nothing (Some function_of) = refl
constant_there nothing None = refl
constant_there (outside number sort bounds) function_of = refl
constant_there (slots group sort bounds) function_of = refl
constant_there (dummy place sort) function_of = refl
constant_there (constant sort value) function_of = refl
constant_there (function procedure sort) function_of = refl
constant_there (subroutine procedure intents) function_of = refl
constant_there (reduction number op sort bounds) function_of = refl

-- What is known of a reference depends on its name's entity by its form alone.
pub referred-there : (scope : Scope) (text : Name) (args : List Known) → referred (form_of_entity (entity scope text)) text args ≡ known_referred scope text args
referred-there scope text args =
    rw (form_there (entity scope text) (intrinsic text) args)
    (rw (constant_there (entity scope text) (intrinsic text))
    (rw (form-back (sort_referred (entity scope text) (intrinsic text) (map known_sort args) (map known_value args))) refl))

entity_form : (its : Entity) → form_of_entity its ≡ (if is_no_entity its then None else Some (form_of_sort (sort_of_entity its)))
entity_form (outside number sort bounds) = refl
entity_form (slots group sort bounds) = refl
entity_form (dummy place sort) = refl
entity_form (constant sort value) = refl
entity_form (function procedure sort) = refl
entity_form (subroutine procedure intents) = refl
entity_form (reduction number op sort bounds) = refl
entity_form nothing = refl

meaning_form : (meaning : Meaning) → form_declared meaning ≡ (if is_nothing meaning then None else Some (form_of_meaning meaning))
meaning_form (Meaning.Index kind) = refl
meaning_form (Meaning.Variable form rank) = refl
meaning_form (Meaning.Result form) = refl
meaning_form (Meaning.Dummy form intent) = refl
meaning_form (Meaning.Constant form value) = refl
meaning_form (Meaning.Procedure gives number result) = refl
meaning_form Meaning.Nothing = refl

declared_there : (its : Entity) (meaning : Meaning) → Agrees its meaning → form_declared meaning ≡ form_of_entity its
declared_there its meaning agrees =
    meaning_form meaning ∙ sym (entity_form its
    ∙ ap (λ (none : Bool). if none then None else Some (form_of_sort (sort_of_entity its))) agrees.is_nothing
    ∙ ap (λ (sort : Sort). if is_nothing meaning then None else Some (form_of_sort sort)) agrees.sort
    ∙ ap (λ (form : Form). if is_nothing meaning then None else Some form) (form-there (form_of_meaning meaning)))

-- A reference by what its name means where it stands.
pub referred-by : (standing : Standing) (text : Name) (args : List Known) → IsTrue (list_all is_sound standing.symbols)
    → referred (form_declared (meaning standing text)) text args ≡ known_referred (scope_at standing) text args
referred-by standing text args sound =
    ap (λ (declared : Option Form). referred declared text args)
    (declared_there (entity (scope_at standing) text) (meaning standing text) (meaning-agrees standing text sound))
    ∙ referred-there (scope_at standing) text args

-- ---- the values of arguments

others_there : (rest : List Known) (z : ℤ) (each : Bool)
    → option_map (λ zs. z ∷ zs) (if each then Some (map number_given rest) else None) ≡ (if each then Some (z ∷ map number_given rest) else None)
others_there rest z true = refl
others_there rest z false = refl

one_there : (value : Option ℤ) (rest : List Known) → where_each (map known_value rest) ≡ (if list_all has_value rest then Some (map number_given rest) else None)
    → option_and_then (λ z. option_map (λ zs. z ∷ zs) (where_each (map known_value rest))) value
    ≡ (if is_some value && list_all has_value rest then Some (number_in value ∷ map number_given rest) else None)
one_there None rest before = refl
one_there (Some z) rest before = ap (λ (zs : Option (List ℤ)). option_map (λ zs. z ∷ zs) zs) before ∙ others_there rest z (list_all has_value rest)

-- The values are there together or not at all.
pub where_each-known : (args : List Known) → where_each (map known_value args) ≡ (if list_all has_value args then Some (map number_given args) else None)
where_each-known [] = refl
where_each-known (known ∷ rest) = one_there known.value rest (where_each-known rest)

-- MIN or MAX goes on from what it has chosen, or stops at a fault.
abbrev behind : Outcome → (ℤ → Outcome) → Outcome
behind (Ok z) next = next z
behind (Err fault) next = Err fault

outcome_is : (outcome : Outcome) (value : ℤ) → Some value ≡ value_of outcome → outcome ≡ Ok value
outcome_is (Ok z) value is = cc
outcome_is (Err fault) value is = cc

outcome_fails : (outcome : Outcome) (next : ℤ → Outcome) → None ≡ value_of outcome → None ≡ value_of (behind outcome next)
outcome_fails (Ok z) next is = cc
outcome_fails (Err fault) next is = refl

pub chosen_from-value : (op : Op) (sort : Sort) (a b value : ℤ) (rest : List ℤ)
    → Some value ≡ value_of (applied op (kind_of sort) a b) → value_of (chosen_from op sort a (b ∷ rest)) ≡ value_of (chosen_from op sort value rest)
chosen_from-value op sort a b value rest is =
    ap (λ (outcome : Outcome). value_of (behind outcome (λ z. chosen_from op sort z rest))) (outcome_is (applied op (kind_of sort) a b) value is)

pub chosen_from-fault : (op : Op) (sort : Sort) (a b : ℤ) (rest : List ℤ)
    → None ≡ value_of (applied op (kind_of sort) a b) → None ≡ value_of (chosen_from op sort a (b ∷ rest))
chosen_from-fault op sort a b rest is = outcome_fails (applied op (kind_of sort) a b) (λ z. chosen_from op sort z rest) is

pub chosen_from-next : (op : Op) (sort : Sort) (a number value : ℤ) (args : List Known) (i : ℕ) (d : Known)
    → i < length args → number ≡ number_given (get_or args i d) → Some value ≡ value_of (applied op (kind_of sort) a number)
    → value_of (chosen_from op sort a (map number_given (drop i args))) ≡ value_of (chosen_from op sort value (map number_given (drop (i + 1) args)))
chosen_from-next op sort a number value args i d within is gives =
    ap (λ (l : List Known). value_of (chosen_from op sort a (map number_given l))) (drop_more args i d within)
    ∙ ap (λ (z : ℤ). value_of (chosen_from op sort a (z ∷ map number_given (drop (i + 1) args)))) (sym is)
    ∙ chosen_from-value op sort a number value (map number_given (drop (i + 1) args)) gives

-- the same with the fault
pub chosen_from-ok : (op : Op) (sort : Sort) (a b value : ℤ) (rest : List ℤ)
    → Ok value ≡ applied op (kind_of sort) a b → chosen_from op sort a (b ∷ rest) ≡ chosen_from op sort value rest
chosen_from-ok op sort a b value rest is = ap (λ (outcome : Outcome). behind outcome (λ z. chosen_from op sort z rest)) (sym is)

pub chosen_from-err : (op : Op) (sort : Sort) (a b : ℤ) (fault : OpFault) (rest : List ℤ)
    → Err fault ≡ applied op (kind_of sort) a b → Err fault ≡ chosen_from op sort a (b ∷ rest)
chosen_from-err op sort a b fault rest is = ap (λ (outcome : Outcome). behind outcome (λ z. chosen_from op sort z rest)) is

pub chosen_from-on : (op : Op) (sort : Sort) (a number value : ℤ) (values : List ℤ) (i : ℕ) (d : ℤ)
    → i < length values → number ≡ get_or values i d → Ok value ≡ applied op (kind_of sort) a number → chosen_from op sort a (drop i values) ≡ chosen_from op sort value (drop (i + 1) values)
chosen_from-on op sort a number value values i d within is gives =
    ap (λ (l : List ℤ). chosen_from op sort a l) (drop_more values i d within) ∙ ap (λ (z : ℤ). chosen_from op sort a (z ∷ drop (i + 1) values)) (sym is)
    ∙ chosen_from-ok op sort a number value (drop (i + 1) values) gives

pub chosen_from-stop : (op : Op) (sort : Sort) (a number : ℤ) (fault : OpFault) (values : List ℤ) (i : ℕ) (d : ℤ)
    → i < length values → number ≡ get_or values i d → Err fault ≡ applied op (kind_of sort) a number → Err fault ≡ chosen_from op sort a (drop i values)
chosen_from-stop op sort a number fault values i d within is gives =
    chosen_from-err op sort a number fault (drop (i + 1) values) gives ∙ ap (λ (z : ℤ). chosen_from op sort a (z ∷ drop (i + 1) values)) is
    ∙ sym (ap (λ (l : List ℤ). chosen_from op sort a l) (drop_more values i d within))

pub ruleset choices = (chosen_from-value, chosen_from-fault, drop_more)

pub ruleset arguments = (where_each-known)
