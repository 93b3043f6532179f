-- Names and what is known of expressions, each written in full. The main program declares the constants n = 7
-- and k = 1, the variables x of kind 2 and abs, and the function twice of kind 8; the procedure 1, twice, has
-- the dummies a and b, of which it may not define a, and a variable k of its own. In it stand a loop over an
-- index n and one inside over an index n of kind 8.
use Rattle.std.proofs.Common.{◌≡◌, true, false, List, [], ◌∷◌, Some, None, refl}
use Rattle.std.specs.Prelude.{ℕ, ℤ, pos, negsuc, codes}
use Rattle.std.specs.Int.{int_wrap}
use Rattle.dc_int.specs.declared.kind.Kind.{Kind}
use Rattle.dc_tree.specs.declared.stmt.Intent.{Intent}
use Rattle.dc_tree.specs.declared.symbols.Role as roles
use Rattle.dc_tree.specs.declared.symbols.Symbol.{Symbol}
use Rattle.dc_tree.specs.declared.token.Mark.{Mark}
use Rattle.dc_tree.specs.declared.token.Suffix.{Suffix}
use Rattle.dc_tree.specs.Statements.{Name}
use Rattle.dc_tree.specs.Syntax.{Tree, number, truth, name, refer, unary, binary, no_args, arg}
use Rattle.dc_sorts.specs.declared.form.Form.{Form}
use Rattle.dc_sorts.specs.declared.known.Known.{Known}
use Rattle.dc_sorts.specs.declared.meaning.Meaning.{Meaning}
use Rattle.dc_sorts.specs.declared.standing.IndexName.{IndexName}
use Rattle.dc_sorts.specs.Knowing.{known_of}
use Rattle.dc_sorts.specs.References.{referred}
use Rattle.dc_sorts.specs.Standing.{Standing, meaning, is_fixed, scope_at}

abbrev symbol : ℕ → Name → roles.Role → Symbol
symbol scope its_name role = record { scope = scope; name = its_name; role = role }

abbrev symbols : List Symbol
symbols =
    symbol 0 (codes "twice") (roles.Role.Function 1) ∷ symbol 0 (codes "n") (roles.Role.Constant false Kind.K4 (pos 7))
    ∷ symbol 0 (codes "k") (roles.Role.Constant false Kind.K4 (pos 1)) ∷ symbol 0 (codes "x") (roles.Role.Variable false Kind.K2 [] [])
    ∷ symbol 0 (codes "abs") (roles.Role.Variable false Kind.K4 [] []) ∷ symbol 1 (codes "twice") (roles.Role.Result false Kind.K8)
    ∷ symbol 1 (codes "a") (roles.Role.Dummy 0 false Kind.K4 Intent.Into) ∷ symbol 1 (codes "b") (roles.Role.Dummy 1 true Kind.K4 Intent.InOut)
    ∷ symbol 1 (codes "k") (roles.Role.Variable false Kind.K8 ((pos 1, pos 3) ∷ []) []) ∷ []

abbrev index : Name → Kind → IndexName
index its_name kind = record { name = its_name; kind = kind }

-- in the main program, in twice, and in the loops there
abbrev outside : Standing
outside = record { symbols = symbols; unit = 0; indexes = []; counted = []; callees = [] }

abbrev inside : Standing
inside = record { symbols = symbols; unit = 1; indexes = []; counted = codes "x" ∷ []; callees = [] }

abbrev looping : Standing
looping = record inside { indexes = index (codes "n") Kind.K8 ∷ index (codes "n") Kind.K4 ∷ index (codes "abs") Kind.K4 ∷ [] }

-- ---- names

a_constant : meaning outside (codes "n") ≡ Meaning.Constant (Form.Whole Kind.K4) (pos 7)
a_constant = refl

a_function : meaning outside (codes "twice") ≡ Meaning.Procedure true 1 (Some (Form.Whole Kind.K8))
a_function = refl

not_declared_there : meaning outside (codes "a") ≡ Meaning.Nothing
not_declared_there = refl

the_result_in_the_function : meaning inside (codes "twice") ≡ Meaning.Result (Form.Whole Kind.K8)
the_result_in_the_function = refl

its_own_hides : meaning inside (codes "k") ≡ Meaning.Variable (Form.Whole Kind.K8) 1
its_own_hides = refl

an_outer_one_is_seen : meaning inside (codes "n") ≡ Meaning.Constant (Form.Whole Kind.K4) (pos 7)
an_outer_one_is_seen = refl

an_index_hides_a_constant : meaning looping (codes "n") ≡ Meaning.Index Kind.K8
an_index_hides_a_constant = refl

known_name_outside : known_of (scope_at inside) (name (codes "n")) ≡ record { form = Form.Whole Kind.K4; constant = true; value = Some (pos 7) }
known_name_outside = refl

an_index_is_no_constant : known_of (scope_at looping) (name (codes "n")) ≡ record { form = Form.Whole Kind.K8; constant = false; value = None }
an_index_is_no_constant = refl

-- ---- what may not be defined

the_constant : is_fixed outside (codes "n") ≡ true
the_constant = refl

the_variable : is_fixed outside (codes "x") ≡ false
the_variable = refl

counted_there : is_fixed inside (codes "x") ≡ true
counted_there = refl

the_dummy_in : is_fixed inside (codes "a") ≡ true
the_dummy_in = refl

the_dummy_in_and_out : is_fixed inside (codes "b") ≡ false
the_dummy_in_and_out = refl

the_index : is_fixed looping (codes "abs") ≡ true
the_index = refl

-- ---- expressions

abbrev plain : List ℕ → Tree
plain digits = number digits Suffix.Absent

abbrev of_kind : List ℕ → List ℕ → Tree
of_kind digits form = number digits (Suffix.Digits form)

abbrev of_one : Name → Tree → Tree
of_one text first = refer text (arg false first no_args)

abbrev of_two : Name → Tree → Tree → Tree
of_two text first second = refer text (arg false first (arg false second no_args))

abbrev whole : Kind → ℤ → Known
whole kind value = record { form = Form.Whole kind; constant = true; value = Some value }

-- a constant expression that has no value
abbrev failing : Form → Known
failing form = record { form = form; constant = true; value = None }

-- no constant expression
abbrev computed : Form → Known
computed form = record { form = form; constant = false; value = None }

abbrev known : Tree → Known
known = known_of (scope_at outside)

the_wider_kind : known (binary Mark.Plus (of_kind (codes "1") (codes "2")) (plain (codes "3"))) ≡ whole Kind.K4 (pos 4)
unfolding int_wrap
the_wider_kind = refl

wrapped_to_the_wider_kind : known (binary Mark.Plus (of_kind (codes "127") (codes "1")) (of_kind (codes "1") (codes "1"))) ≡ whole Kind.K1 (negsuc 127)
unfolding int_wrap
wrapped_to_the_wider_kind = refl

a_relation : known (binary Mark.Lt (of_kind (codes "1") (codes "8")) (plain (codes "3"))) ≡ record { form = Form.Logical; constant = true; value = Some (pos 1) }
a_relation = refl

a_conjunction : known (binary Mark.And (truth true) (truth false)) ≡ record { form = Form.Logical; constant = true; value = Some (pos 0) }
a_conjunction = refl

a_negation : known (unary Mark.Not (truth false)) ≡ record { form = Form.Logical; constant = true; value = Some (pos 1) }
a_negation = refl

a_sign : known (unary Mark.Minus (of_kind (codes "5") (codes "8"))) ≡ whole Kind.K8 (negsuc 4)
unfolding int_wrap
a_sign = refl

by_zero : known (binary Mark.Slash (plain (codes "1")) (plain (codes "0"))) ≡ failing (Form.Whole Kind.K4)
by_zero = refl

out_of_its_kind : known (of_kind (codes "300") (codes "1")) ≡ failing (Form.Whole Kind.K1)
out_of_its_kind = refl

over_every_kind : known (of_kind (codes "9223372036854775808") (codes "8")) ≡ failing (Form.Whole Kind.K8)
over_every_kind = refl

of_a_variable : known (binary Mark.Plus (name (codes "x")) (plain (codes "1"))) ≡ computed (Form.Whole Kind.K4)
of_a_variable = refl

of_another_kind : known (number (codes "1") (Suffix.Named (codes "x"))) ≡ computed (Form.Whole Kind.K4)
of_another_kind = refl

-- ---- functions of the language

huge_of_no_value : known (of_one (codes "huge") (of_kind (codes "300") (codes "1"))) ≡ whole Kind.K1 (pos 127)
huge_of_no_value = refl

huge_of_a_variable : known (of_one (codes "huge") (name (codes "x"))) ≡ computed (Form.Whole Kind.K2)
huge_of_a_variable = refl

int_with_a_kind : known (refer (codes "int") (arg false (plain (codes "5")) (arg true (plain (codes "8")) no_args))) ≡ whole Kind.K8 (pos 5)
unfolding int_wrap
int_with_a_kind = refl

int_wraps : known (of_two (codes "int") (plain (codes "300")) (plain (codes "1"))) ≡ whole Kind.K1 (pos 44)
unfolding int_wrap
int_wraps = refl

merge_of_three : known (refer (codes "merge") (arg false (plain (codes "1")) (arg false (plain (codes "2")) (arg false (truth true) no_args)))) ≡ whole Kind.K4 (pos 1)
merge_of_three = refl

least_of_three : known (refer (codes "min") (arg false (plain (codes "3")) (arg false (plain (codes "1")) (arg false (plain (codes "2")) no_args)))) ≡ whole Kind.K4 (pos 1)
unfolding int_wrap
least_of_three = refl

bits_that_are_one : known (of_one (codes "popcnt") (of_kind (codes "7") (codes "1"))) ≡ whole Kind.K4 (pos 3)
unfolding int_wrap
bits_that_are_one = refl

mod_by_zero : known (of_two (codes "mod") (plain (codes "7")) (plain (codes "0"))) ≡ failing (Form.Whole Kind.K4)
mod_by_zero = refl

about_an_array : known (of_one (codes "size") (plain (codes "1"))) ≡ computed (Form.Whole Kind.K4)
about_an_array = refl

a_variable_hides_abs : known (of_one (codes "abs") (plain (codes "1"))) ≡ computed (Form.Whole Kind.K4)
a_variable_hides_abs = refl

a_call : known (of_one (codes "twice") (plain (codes "1"))) ≡ computed (Form.Whole Kind.K8)
a_call = refl

-- ---- at a LOGICAL, a function that takes INTEGERs gives an INTEGER; MERGE takes it

huge_of_a_truth : known (of_one (codes "huge") (truth true)) ≡ whole Kind.K4 (pos 2147483647)
huge_of_a_truth = refl

total_of_truths : known (of_one (codes "sum") (truth true)) ≡ computed (Form.Whole Kind.K4)
total_of_truths = refl

least_of_truths : known (of_two (codes "min") (truth true) (truth false)) ≡ whole Kind.K4 (pos 0)
unfolding int_wrap
least_of_truths = refl

merge_of_truths : known (refer (codes "merge") (arg false (truth false) (arg false (truth true) (arg false (truth true) no_args))))
    ≡ record { form = Form.Logical; constant = true; value = Some (pos 0) }
merge_of_truths = refl

-- ---- the same from what is known of the arguments

by_what_is_known : referred None (codes "huge") (failing (Form.Whole Kind.K1) ∷ []) ≡ whole Kind.K1 (pos 127)
by_what_is_known = refl

by_what_is_declared : referred (Some Form.Logical) (codes "huge") (failing (Form.Whole Kind.K1) ∷ []) ≡ computed Form.Logical
by_what_is_declared = refl
