-- What a declared name means where it is used. After ISO/IEC 1539-1:2023, clause 19.3.1.
use Rattle.std.specs.Prelude.{ℕ, Bool, true, false, List, length, Option, Some, None, option_map, ℤ}
use Rattle.dc_tree.specs.declared.stmt.Intent.{Intent}
use Rattle.dc_tree.specs.declared.symbols.Role as roles
use Rattle.dc_tree.specs.declared.symbols.Symbol.{Symbol}
use Rattle.dc_tree.specs.Entities.{result_in, symbols_in}
use Rattle.dc_tree.specs.Symbols.{symbol_at}
use Rattle.dc_tree.specs.Statements.{Name}
use Rattle.dc_sorts.specs.declared.form.Form.{Form}
use Rattle.dc_sorts.specs.declared.meaning.Meaning.{Meaning}
use Rattle.dc_sorts.specs.Forms.{form_with, form_of_sort}

-- The meaning of a role, where these are all symbols. A function's result is declared among the names of the
-- function.
abbrev pub meaning_of_role : List Symbol → roles.Role → Meaning
meaning_of_role symbols (roles.Role.Variable logical kind bounds initial) = Meaning.Variable (form_with logical kind) (length bounds)
meaning_of_role symbols (roles.Role.Constant logical kind value) = Meaning.Constant (form_with logical kind) value
meaning_of_role symbols (roles.Role.Dummy place logical kind intent) = Meaning.Dummy (form_with logical kind) intent
meaning_of_role symbols (roles.Role.Result logical kind) = Meaning.Result (form_with logical kind)
meaning_of_role symbols (roles.Role.Function number) =
    Meaning.Procedure true number (option_map form_of_sort (result_in (symbols_in number symbols)))
meaning_of_role symbols (roles.Role.Subroutine number) =
    Meaning.Procedure false number (option_map form_of_sort (result_in (symbols_in number symbols)))

abbrev pub meaning_of_symbol : List Symbol → Option Symbol → Meaning
meaning_of_symbol symbols None = Meaning.Nothing
meaning_of_symbol symbols (Some symbol) = meaning_of_role symbols symbol.role

abbrev pub or_symbol : Option Symbol → Option Symbol → Option Symbol
or_symbol (Some symbol) other = Some symbol
or_symbol None other = other

abbrev pub or_meaning : Option Meaning → Meaning → Meaning
or_meaning (Some meaning) other = meaning
or_meaning None other = other

-- The meaning of a name in one unit alone.
abbrev pub symbol_meaning : List Symbol → ℕ → Name → Option Meaning
symbol_meaning symbols unit name = option_map (λ symbol. meaning_of_role symbols symbol.role) (symbol_at symbols unit name)

-- The symbol of a name in a unit: the unit's own, and else that of the main program.
abbrev pub symbol_seen : List Symbol → ℕ → Name → Option Symbol
symbol_seen symbols unit name = or_symbol (symbol_at symbols unit name) (symbol_at symbols 0 name)

-- The meaning of a name in a unit.
abbrev pub declared_meaning : List Symbol → ℕ → Name → Meaning
declared_meaning symbols unit name = meaning_of_symbol symbols (symbol_seen symbols unit name)

-- The form of what a name stands for, and the value of a named constant.
abbrev pub form_of_meaning : Meaning → Form
form_of_meaning (Meaning.Index kind) = Form.Whole kind
form_of_meaning (Meaning.Variable form rank) = form
form_of_meaning (Meaning.Result form) = form
form_of_meaning (Meaning.Dummy form intent) = form
form_of_meaning (Meaning.Constant form value) = form
form_of_meaning (Meaning.Procedure function number (Some form)) = form
form_of_meaning other = Form.Logical

abbrev pub constant_of_meaning : Meaning → Option ℤ
constant_of_meaning (Meaning.Constant form value) = Some value
constant_of_meaning other = None

-- Whether nothing of that name is declared.
abbrev pub is_nothing : Meaning → Bool
is_nothing Meaning.Nothing = true
is_nothing other = false

-- What may not be defined: a constant, an index, and a dummy of INTENT(IN). After clauses 8.5.10 and 11.1.7.2.
abbrev pub is_fixed_meaning : Meaning → Bool
is_fixed_meaning (Meaning.Index kind) = true
is_fixed_meaning (Meaning.Constant form value) = true
is_fixed_meaning (Meaning.Dummy form Intent.Into) = true
is_fixed_meaning other = false
