-- What is known of a reference, from what is known of its arguments and the form of what its name stands for,
-- if something of that name is declared. After ISO/IEC 1539-1:2023, clauses 10.1.9, 10.1.12 and 19.3.1.
use Rattle.std.specs.Prelude.{Bool, false, ◌&&◌, List, map, Option, Some, None, is_some, ℤ, pos}
use Rattle.std.specs.List.{list_all}
use Rattle.dc_tree.specs.Entities.{Entity, nothing}
use Rattle.dc_tree.specs.Intrinsics.{Intrinsic, intrinsic}
use Rattle.dc_tree.specs.Statements.{Name}
use Rattle.dc_tree.specs.Typing.{sort_of_entity, sort_called, first_sort, may_be_constant, constant_referred}
use Rattle.dc_sorts.specs.declared.form.Form.{Form}
use Rattle.dc_sorts.specs.declared.known.Known.{Known}
use Rattle.dc_sorts.specs.declared.meaning.Meaning.{Meaning}
use Rattle.dc_sorts.specs.Forms.{sort_of_form, form_of_sort}
use Rattle.dc_sorts.specs.Knowing.{known_sort, known_value, known_constant}
use Rattle.dc_sorts.specs.Meanings.{form_of_meaning}

-- The form of what a name stands for, where something of that name is declared; and by what it means.
abbrev pub form_of_entity : Entity → Option Form
form_of_entity nothing = None
form_of_entity entity = Some (form_of_sort (sort_of_entity entity))

abbrev pub form_declared : Meaning → Option Form
form_declared Meaning.Nothing = None
form_declared meaning = Some (form_of_meaning meaning)

-- The form of a function of the language at arguments.
abbrev pub form_called : Intrinsic → List Known → Form
form_called function_of args = form_of_sort (sort_called function_of (first_sort (map known_sort args)) (map known_value args))

-- A declared name is no function of the language.
abbrev pub form_referred : Option Form → Option Intrinsic → List Known → Form
form_referred None (Some function_of) args = form_called function_of args
form_referred None None args = Form.Logical
form_referred (Some form) function_of args = form

abbrev pub is_constant_call : Option Form → Option Intrinsic → Bool
is_constant_call None (Some function_of) = may_be_constant function_of
is_constant_call declared function_of = false

abbrev pub referred : Option Form → Name → List Known → Known
referred declared text args =
    let form = form_referred declared (intrinsic text) args in
    let allowed = is_constant_call declared (intrinsic text) && list_all known_constant args in
    record { form = form; constant = allowed; value = constant_referred allowed (intrinsic text) (map known_sort args) (sort_of_form form) (map known_value args) }

-- ---- the values of arguments

abbrev pub has_value : Known → Bool
has_value known = is_some known.value

-- The value where there is one.
abbrev pub number_in : Option ℤ → ℤ
number_in (Some value) = value
number_in None = pos 0

abbrev pub number_given : Known → ℤ
number_given known = number_in known.value
