-- What is known of an expression without evaluating it: its sort, whether it is a constant expression, and its
-- value where that can be told. After ISO/IEC 1539-1:2023, clauses 10.1.9 and 10.1.12.
use Rattle.std.specs.Prelude.{Bool, ◌&&◌, List, [], ◌∷◌, map, Option, option_and_then, ℤ}
use Rattle.std.specs.List.{list_all}
use Rattle.dc_int.specs.Sorts.{Sort}
use Rattle.dc_tree.specs.declared.token.Mark.{Mark}
use Rattle.dc_tree.specs.Entities.{Scope, entity}
use Rattle.dc_tree.specs.Intrinsics.{intrinsic}
use Rattle.dc_tree.specs.Operating.{joined_by, led_by}
use Rattle.dc_tree.specs.Statements.{Name}
use Rattle.dc_tree.specs.Syntax.{Tree, Args, no_args, arg}
use Rattle.dc_tree.specs.Typing.{joined, sort_joined_by, sort_led_by, sort_referred, is_constant_function, constant_referred, value_of, sort_of, is_constant, constant_value}
use Rattle.dc_sorts.specs.declared.known.Known.{Known}
use Rattle.dc_sorts.specs.Forms.{sort_of_form, form_of_sort}

abbrev pub known_with : Sort → Bool → Option ℤ → Known
known_with sort constant value = record { form = form_of_sort sort; constant = constant; value = value }

-- What is known of an expression, and of each of some arguments.
abbrev pub known_of : Scope → Tree → Known
known_of scope tree = known_with (sort_of scope tree) (is_constant scope tree) (constant_value scope tree)

abbrev pub known_args : Scope → Args → List Known
known_args scope no_args = []
known_args scope (arg keyed value rest) = known_of scope value ∷ known_args scope rest

-- ---- the same, from what is known of the parts

abbrev pub known_sort : Known → Sort
known_sort known = sort_of_form known.form

abbrev pub known_value : Known → Option ℤ
known_value known = known.value

abbrev pub known_constant : Known → Bool
known_constant known = known.constant

-- behind a mark
abbrev pub known_led : Mark → Known → Known
known_led mark right =
    known_with (sort_led_by mark (known_sort right)) right.constant (option_and_then (λ a. value_of (led_by mark (known_sort right) a)) right.value)

-- between two operands
abbrev pub known_joined : Mark → Known → Known → Known
known_joined mark left right =
    known_with (sort_joined_by mark (known_sort left) (known_sort right)) (left.constant && right.constant)
    (option_and_then (λ a. option_and_then (λ b. value_of (joined_by mark (joined (known_sort left) (known_sort right)) a b)) right.value) left.value)

-- a name with arguments in brackets
abbrev pub known_referred : Scope → Name → List Known → Known
known_referred scope text args =
    let sorts = map known_sort args in
    let values = map known_value args in
    let sort = sort_referred (entity scope text) (intrinsic text) sorts values in
    let allowed = is_constant_function (entity scope text) (intrinsic text) && list_all known_constant args in
    known_with sort allowed (constant_referred allowed (intrinsic text) sorts sort values)
