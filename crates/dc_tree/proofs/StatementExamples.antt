-- What statements spell, which are ranked, and the statement list of a small program.
use Rattle.std.proofs.Common.{◌≡◌, ℕ, List, [], ◌∷◌, Bool, true, false, refl, arith}
use Rattle.std.specs.Prelude.{codes, Option, None, Some}
use Rattle.std.specs.List.{list_all}
use Rattle.std.proofs.lemmas.Bool.{false≢true, true≢false}
use Rattle.dc_int.specs.declared.operation.ReduceOp.{ReduceOp}
use Rattle.dc_tree.specs.declared.token.Mark.{Mark}
use Rattle.dc_tree.specs.declared.token.Token.{Token}
use Rattle.dc_tree.specs.declared.token.Suffix.{Suffix}
use Rattle.dc_tree.specs.declared.stmt.Intent.{Intent}
use Rattle.dc_tree.specs.declared.stmt.Local.{Local}
use Rattle.dc_tree.specs.declared.stmt.UseForm.{UseForm}
use Rattle.dc_tree.specs.declared.stmt.Unit as units
use Rattle.dc_tree.specs.Names.{is_name}
use Rattle.dc_tree.specs.Syntax.{Tree, number, chars, name, refer, unary, binary, no_args, arg}
use Rattle.dc_tree.specs.Statements.{Name, TypeForm, Dimension, Declared, Ranging, Prefixed, Target, Statement}
use Rattle.dc_tree.specs.Statements.{logical, integer, parameter, dimension, intent, absent, scalar, listed, pure, recursive, typed}
use Rattle.dc_tree.specs.Statements.{only, from, up_to, between}
use Rattle.dc_tree.specs.Statements.{assign, fill, call, cycle, exit, return, continue, stop, error_stop, print, read}
use Rattle.dc_tree.specs.Statements.{program_line, use_line, implicit_none, declare, contains_line, procedure_line, end_line}
use Rattle.dc_tree.specs.Statements.{if_then, else_if, else_line, end_if, if_action, select_case, case, case_default, end_select}
use Rattle.dc_tree.specs.Statements.{do_line, do_while, concurrent, end_do, act}
use Rattle.dc_tree.specs.Spelling.{word, comma, colon, colons, equals, star, spell_statement}
use Rattle.dc_tree.specs.Ranking.{RankedStatement}
use Rattle.dc_tree.specs.Blocks.{Line, Item, Arms, plain, branch, loop, none, and_then, no_arms, arm, Subprogram, Source}
use Rattle.dc_tree.specs.Listing.{lines_of}
use Rattle.dc_tree.specs.Listing as listing
use Rattle.dc_tree.proofs.Names.{letter-is_name}

abbrev opening : Token
opening = Token.Mark Mark.Open

abbrev closing : Token
closing = Token.Mark Mark.Close

abbrev a : Tree
a = name (codes "a")

abbrev n : Tree
n = name (codes "n")

abbrev x : Tree
x = name (codes "x")

abbrev constant : List ℕ → Tree
constant digits = number digits Suffix.Absent

abbrev zero : Tree
zero = constant (codes "0")

abbrev one : Tree
one = constant (codes "1")

abbrev two : Tree
two = constant (codes "2")

abbrev digit : List ℕ → Token
digit digits = Token.Number digits Suffix.Absent

-- the element `a(i)`
abbrev element : Tree
element = refer (codes "a") (arg false (name (codes "i")) no_args)

abbrev target_a : Target
target_a = record { name = codes "a"; subscripts = Some (name (codes "i") ∷ []) }

abbrev whole_b : Target
whole_b = record { name = codes "b"; subscripts = None }

-- ---- heads, ends and declarations

spell-program : spell_statement (program_line (codes "p")) ≡ word "program" ∷ word "p" ∷ []
spell-program = refl

-- `use, intrinsic :: iso_fortran_env, only: int8, int64`
abbrev kinds : Statement
kinds = use_line UseForm.Intrinsic (codes "iso_fortran_env") (codes "int8" ∷ codes "int64" ∷ [])

spell-kinds : spell_statement kinds
    ≡ word "use" ∷ comma ∷ word "intrinsic" ∷ colons ∷ word "iso_fortran_env" ∷ comma ∷ word "only" ∷ colon ∷ word "int8" ∷ comma ∷ word "int64" ∷ []
spell-kinds = refl

ranked-kinds : RankedStatement kinds
unfolding is_name
ranked-kinds = (refl, (refl, (refl, tt)))

-- `use m, only: k`, and with no name
spell-use : spell_statement (use_line UseForm.Plain (codes "m") (codes "k" ∷ []))
    ≡ word "use" ∷ word "m" ∷ comma ∷ word "only" ∷ colon ∷ word "k" ∷ []
spell-use = refl

unranked-use : RankedStatement (use_line UseForm.Plain (codes "m") []) → ⊥
unranked-use given = given.1

spell-implicit : spell_statement implicit_none ≡ word "implicit" ∷ word "none" ∷ []
spell-implicit = refl

-- `integer(kind = 8), parameter :: n = 3, m(2) = [1, 2]`
abbrev entity_n : Declared
entity_n = record { name = codes "n"; bounds = None; initial = scalar (constant (codes "3")) }

abbrev entity_m : Declared
entity_m = record { name = codes "m"; bounds = Some (record { low = None; high = two } ∷ []); initial = listed (one ∷ two ∷ []) }

abbrev constants : Bool → Statement
constants with_colons = declare (integer true (Some (constant (codes "8")))) (parameter ∷ []) with_colons (entity_n ∷ entity_m ∷ [])

spell-constants : spell_statement (constants true)
    ≡ word "integer" ∷ opening ∷ word "kind" ∷ equals ∷ digit (codes "8") ∷ closing ∷ comma ∷ word "parameter" ∷ colons
    ∷ word "n" ∷ equals ∷ digit (codes "3") ∷ comma
    ∷ word "m" ∷ opening ∷ digit (codes "2") ∷ closing ∷ equals
    ∷ Token.Mark Mark.OpenList ∷ digit (codes "1") ∷ comma ∷ digit (codes "2") ∷ Token.Mark Mark.CloseList ∷ []
spell-constants = refl

ranked-constants : RankedStatement (constants true)
ranked-constants = (tt, (tt, tt), ((letter-is_name 110, tt, tt), ((letter-is_name 109, ((tt, tt), tt), (tt, (tt, tt))), tt)), refl)

-- the same without `::`
unranked-constants : RankedStatement (constants false) → ⊥
unranked-constants given = false≢true given.3

-- `integer, dimension(0:9), intent(in out) :: a`, and `logical x`
abbrev ten : Dimension
ten = record { low = Some zero; high = constant (codes "9") }

abbrev plain_entity : Name → Declared
plain_entity text = record { name = text; bounds = None; initial = absent }

abbrev intent_a : Statement
intent_a = declare (integer false None) (dimension (ten ∷ []) ∷ intent Intent.InOutApart ∷ []) true (plain_entity (codes "a") ∷ [])

spell-intent_a : spell_statement intent_a
    ≡ word "integer" ∷ comma ∷ word "dimension" ∷ opening ∷ digit (codes "0") ∷ colon ∷ digit (codes "9") ∷ closing
    ∷ comma ∷ word "intent" ∷ opening ∷ word "in" ∷ word "out" ∷ closing ∷ colons ∷ word "a" ∷ []
spell-intent_a = refl

ranked-intent_a : RankedStatement intent_a
ranked-intent_a = (refl, (((tt, tt), tt), (tt, tt)), ((letter-is_name 97, tt, tt), tt), refl)

spell-logical : spell_statement (declare logical [] false (plain_entity (codes "x") ∷ [])) ≡ word "logical" ∷ word "x" ∷ []
spell-logical = refl

ranked-logical : RankedStatement (declare logical [] false (plain_entity (codes "x") ∷ []))
ranked-logical = (tt, tt, ((letter-is_name 120, tt, tt), tt), refl)

-- words that have a meaning in their place alone may be names
abbrev places : List Name
places = codes "kind" ∷ codes "only" ∷ codes "none" ∷ codes "concurrent" ∷ codes "local" ∷ codes "result" ∷ codes "default" ∷ []

free-words : list_all is_name places ≡ true
unfolding is_name
free-words = refl

-- no name, a reserved word as a name, brackets with nothing inside, and `kind =` without a kind
unranked-no_entity : RankedStatement (declare logical [] true []) → ⊥
unranked-no_entity given = given.2

unranked-reserved : RankedStatement (declare logical [] true (plain_entity (codes "if") ∷ [])) → ⊥
unfolding is_name
unranked-reserved given = false≢true given.2.0.0

unranked-bounds : RankedStatement (declare logical [] true (record { name = codes "x"; bounds = Some []; initial = absent } ∷ [])) → ⊥
unranked-bounds given = given.2.0.1

unranked-keyed : RankedStatement (declare (integer true None) [] true (plain_entity (codes "x") ∷ [])) → ⊥
unranked-keyed given = true≢false given.0

spell-contains : spell_statement contains_line ≡ word "contains" ∷ []
spell-contains = refl

-- `pure integer function f(x) result(r)`
abbrev function_f : Statement
function_f = procedure_line (pure ∷ typed (integer false None) ∷ []) true (codes "f") true (codes "x" ∷ []) (Some (codes "r"))

spell-function : spell_statement function_f
    ≡ word "pure" ∷ word "integer" ∷ word "function" ∷ word "f" ∷ opening ∷ word "x" ∷ closing ∷ word "result" ∷ opening ∷ word "r" ∷ closing ∷ []
spell-function = refl

ranked-function : RankedStatement function_f
ranked-function = ((tt, (refl, tt)), refl, letter-is_name 102, (letter-is_name 120, tt), letter-is_name 114, refl)

-- `subroutine s`, and `recursive subroutine s(x, y)`
abbrev subroutine : List Prefixed → Bool → List Name → Option Name → Statement
subroutine prefixes brackets dummies result = procedure_line prefixes false (codes "s") brackets dummies result

spell-subroutine : spell_statement (subroutine [] false [] None) ≡ word "subroutine" ∷ word "s" ∷ []
spell-subroutine = refl

spell-dummies : spell_statement (subroutine (recursive ∷ []) true (codes "x" ∷ codes "y" ∷ []) None)
    ≡ word "recursive" ∷ word "subroutine" ∷ word "s" ∷ opening ∷ word "x" ∷ comma ∷ word "y" ∷ closing ∷ []
spell-dummies = refl

ranked-subroutine : RankedStatement (subroutine [] false [] None)
ranked-subroutine = (tt, refl, letter-is_name 115, tt, tt, refl)

-- a subroutine with a result, with a type, with dummies and no brackets; a function without
-- brackets; and a prefix that stands twice
unranked-result : RankedStatement (subroutine [] true [] (Some (codes "r"))) → ⊥
unranked-result given = false≢true given.5

unranked-typed : RankedStatement (subroutine (typed logical ∷ []) true [] None) → ⊥
unranked-typed given = false≢true given.5

unranked-dummies : RankedStatement (subroutine [] false (codes "x" ∷ []) None) → ⊥
unranked-dummies given = false≢true given.5

unranked-function : RankedStatement (procedure_line [] true (codes "f") false [] None) → ⊥
unranked-function given = false≢true given.5

unranked-twice : RankedStatement (subroutine (pure ∷ recursive ∷ pure ∷ []) false [] None) → ⊥
unranked-twice given = false≢true given.1

unranked-two_types : RankedStatement (procedure_line (typed logical ∷ typed (integer false None) ∷ []) true (codes "f") true [] None) → ⊥
unranked-two_types given = false≢true given.1

-- `end` and `end program p`; and a name without a word before it
spell-end : spell_statement (end_line None None) ≡ word "end" ∷ []
spell-end = refl

spell-end_program : spell_statement (end_line (Some units.Unit.Program) (Some (codes "p"))) ≡ word "end" ∷ word "program" ∷ word "p" ∷ []
spell-end_program = refl

unranked-end : RankedStatement (end_line None (Some (codes "p"))) → ⊥
unranked-end given = false≢true given

-- ---- constructs

-- `if (x) then`, `else if (x) then`, `else`, `end if`
spell-if : spell_statement (if_then x) ≡ word "if" ∷ opening ∷ word "x" ∷ closing ∷ word "then" ∷ []
spell-if = refl

spell-else_if : spell_statement (else_if x) ≡ word "else" ∷ word "if" ∷ opening ∷ word "x" ∷ closing ∷ word "then" ∷ []
spell-else_if = refl

spell-else : spell_statement else_line ≡ word "else" ∷ []
spell-else = refl

spell-end_if : spell_statement end_if ≡ word "end" ∷ word "if" ∷ []
spell-end_if = refl

-- `if (x) a(i) = 1`
spell-if_action : spell_statement (if_action x (assign target_a one))
    ≡ word "if" ∷ opening ∷ word "x" ∷ closing ∷ word "a" ∷ opening ∷ word "i" ∷ closing ∷ equals ∷ digit (codes "1") ∷ []
spell-if_action = refl

ranked-if_action : RankedStatement (if_action x (assign target_a one))
ranked-if_action = (letter-is_name 120, ((letter-is_name 97, (letter-is_name 105, tt)), tt))

-- `select case (n)`, `case (1, 3:5, :0, 9:)`, `case default`, `end select`
spell-select : spell_statement (select_case n) ≡ word "select" ∷ word "case" ∷ opening ∷ word "n" ∷ closing ∷ []
spell-select = refl

abbrev some_values : Statement
some_values = case (only one ∷ between (constant (codes "3")) (constant (codes "5")) ∷ up_to zero ∷ from (constant (codes "9")) ∷ [])

spell-case : spell_statement some_values
    ≡ word "case" ∷ opening ∷ digit (codes "1") ∷ comma ∷ digit (codes "3") ∷ colon ∷ digit (codes "5") ∷ comma ∷ colon ∷ digit (codes "0") ∷ comma
    ∷ digit (codes "9") ∷ colon ∷ closing ∷ []
spell-case = refl

ranked-case : RankedStatement some_values
ranked-case = (tt, ((tt, tt), (tt, (tt, tt))))

unranked-case : RankedStatement (case []) → ⊥
unranked-case given = given

spell-default : spell_statement case_default ≡ word "case" ∷ word "default" ∷ []
spell-default = refl

spell-end_select : spell_statement end_select ≡ word "end" ∷ word "select" ∷ []
spell-end_select = refl

-- `do`, `outer: do i = 1, n`, `do i = n, 1, -1`, `do while (x)`
spell-do : spell_statement (do_line None None) ≡ word "do" ∷ []
spell-do = refl

abbrev range_i : Tree → Tree → Option Tree → Ranging
range_i first last step = record { name = codes "i"; first = first; last = last; step = step }

spell-counted : spell_statement (do_line (Some (codes "outer")) (Some (range_i one n None)))
    ≡ word "outer" ∷ colon ∷ word "do" ∷ word "i" ∷ equals ∷ digit (codes "1") ∷ comma ∷ word "n" ∷ []
spell-counted = refl

ranked-counted : RankedStatement (do_line (Some (codes "outer")) (Some (range_i one n None)))
unfolding is_name
ranked-counted = (refl, (refl, tt, refl, tt))

spell-step : spell_statement (do_line None (Some (range_i n one (Some (unary Mark.Minus one)))))
    ≡ word "do" ∷ word "i" ∷ equals ∷ word "n" ∷ comma ∷ digit (codes "1") ∷ comma ∷ Token.Mark Mark.Minus ∷ digit (codes "1") ∷ []
spell-step = refl

spell-while : spell_statement (do_while None x) ≡ word "do" ∷ word "while" ∷ opening ∷ word "x" ∷ closing ∷ []
spell-while = refl

-- `do concurrent (i = 1:n, a(i) > 0) local(t) reduce(+:s)`
abbrev over_a : Statement
over_a = concurrent None None (range_i one n None ∷ []) (Some (binary Mark.Gt element zero))
    (Local.Locals (codes "t" ∷ []) ∷ Local.Reduce ReduceOp.Add (codes "s" ∷ []) ∷ [])

spell-over_a : spell_statement over_a
    ≡ word "do" ∷ word "concurrent" ∷ opening ∷ word "i" ∷ equals ∷ digit (codes "1") ∷ colon ∷ word "n"
    ∷ comma ∷ word "a" ∷ opening ∷ word "i" ∷ closing ∷ Token.Mark Mark.Gt ∷ digit (codes "0") ∷ closing
    ∷ word "local" ∷ opening ∷ word "t" ∷ closing ∷ word "reduce" ∷ opening ∷ Token.Mark Mark.Plus ∷ colon ∷ word "s" ∷ closing ∷ []
spell-over_a = refl

ranked-over_a : RankedStatement over_a
ranked-over_a = (
  tt,
  tt,
  ((letter-is_name 105, tt, letter-is_name 110, tt), tt),
  (refl, omega arith, omega arith, (letter-is_name 97, (letter-is_name 105, tt)), tt),
  ((letter-is_name 116, tt), ((letter-is_name 115, tt), tt)),
)

-- `do concurrent (integer :: i = 1:n:2) default(none) shared(a, n) local_init(b) reduce(max:m)`
abbrev by_two : TypeForm → Statement
by_two form = concurrent None (Some form) (range_i one n (Some two) ∷ []) None
    (Local.DefaultNone ∷ Local.Shared (codes "a" ∷ codes "n" ∷ []) ∷ Local.Inits (codes "b" ∷ []) ∷ Local.Reduce ReduceOp.Max (codes "m" ∷ []) ∷ [])

spell-by_two : spell_statement (by_two (integer false None))
    ≡ word "do" ∷ word "concurrent" ∷ opening ∷ word "integer" ∷ colons ∷ word "i" ∷ equals
    ∷ digit (codes "1") ∷ colon ∷ word "n" ∷ colon ∷ digit (codes "2") ∷ closing
    ∷ word "default" ∷ opening ∷ word "none" ∷ closing ∷ word "shared" ∷ opening ∷ word "a" ∷ comma ∷ word "n" ∷ closing
    ∷ word "local_init" ∷ opening ∷ word "b" ∷ closing ∷ word "reduce" ∷ opening ∷ word "max" ∷ colon ∷ word "m" ∷ closing ∷ []
spell-by_two = refl

ranked-by_two : RankedStatement (by_two (integer false None))
ranked-by_two = (
  tt,
  refl,
  ((letter-is_name 105, tt, letter-is_name 110, tt), tt),
  tt,
  (tt, ((letter-is_name 97, (letter-is_name 110, tt)), ((letter-is_name 98, tt), ((letter-is_name 109, tt), tt)))),
)

-- indexes of type LOGICAL, no index, and a locality without names
unranked-index_type : RankedStatement (by_two logical) → ⊥
unranked-index_type given = given.1

unranked-no_index : RankedStatement (concurrent None None [] None []) → ⊥
unranked-no_index given = given.2

unranked-locals : RankedStatement (concurrent None None (range_i one n None ∷ []) None (Local.Locals [] ∷ [])) → ⊥
unranked-locals given = given.4.0

-- `end do outer`
spell-end_do : spell_statement (end_do (Some (codes "outer"))) ≡ word "end" ∷ word "do" ∷ word "outer" ∷ []
spell-end_do = refl

-- ---- actions

-- `b = [1, 2]`
spell-fill : spell_statement (act (fill (codes "b") (one ∷ two ∷ [])))
    ≡ word "b" ∷ equals ∷ Token.Mark Mark.OpenList ∷ digit (codes "1") ∷ comma ∷ digit (codes "2") ∷ Token.Mark Mark.CloseList ∷ []
spell-fill = refl

unranked-fill : RankedStatement (act (fill (codes "b") [])) → ⊥
unranked-fill given = given.1

-- `call s`, `call s()`, `call s(1, x)`; and arguments without brackets
spell-call : spell_statement (act (call (codes "s") false [])) ≡ word "call" ∷ word "s" ∷ []
spell-call = refl

spell-call_empty : spell_statement (act (call (codes "s") true [])) ≡ word "call" ∷ word "s" ∷ opening ∷ closing ∷ []
spell-call_empty = refl

spell-call_two : spell_statement (act (call (codes "s") true (one ∷ x ∷ [])))
    ≡ word "call" ∷ word "s" ∷ opening ∷ digit (codes "1") ∷ comma ∷ word "x" ∷ closing ∷ []
spell-call_two = refl

ranked-call : RankedStatement (act (call (codes "s") true (one ∷ x ∷ [])))
ranked-call = (letter-is_name 115, refl, (tt, (letter-is_name 120, tt)))

unranked-call : RankedStatement (act (call (codes "s") false (one ∷ []))) → ⊥
unranked-call given = false≢true given.1

-- `cycle`, `exit outer`, `return`, `continue`, `stop`, `error stop`
spell-cycle : spell_statement (act (cycle None)) ≡ word "cycle" ∷ []
spell-cycle = refl

spell-exit : spell_statement (act (exit (Some (codes "outer")))) ≡ word "exit" ∷ word "outer" ∷ []
spell-exit = refl

spell-return : spell_statement (act return) ≡ word "return" ∷ []
spell-return = refl

spell-continue : spell_statement (act continue) ≡ word "continue" ∷ []
spell-continue = refl

spell-stop : spell_statement (act stop) ≡ word "stop" ∷ []
spell-stop = refl

spell-error_stop : spell_statement (act error_stop) ≡ word "error" ∷ word "stop" ∷ []
spell-error_stop = refl

-- `print *, 'a', x`, `print *`, `write (*, *) x`
spell-print : spell_statement (act (print false (chars (codes "a") ∷ x ∷ [])))
    ≡ word "print" ∷ star ∷ comma ∷ Token.Chars (codes "a") ∷ comma ∷ word "x" ∷ []
spell-print = refl

ranked-print : RankedStatement (act (print false (chars (codes "a") ∷ x ∷ [])))
ranked-print = (tt, (letter-is_name 120, tt))

spell-print_empty : spell_statement (act (print false [])) ≡ word "print" ∷ star ∷ []
spell-print_empty = refl

spell-write : spell_statement (act (print true (x ∷ []))) ≡ word "write" ∷ opening ∷ star ∷ comma ∷ star ∷ closing ∷ word "x" ∷ []
spell-write = refl

-- characters are assigned to nothing
unranked-assign : RankedStatement (act (assign whole_b (chars (codes "a")))) → ⊥
unranked-assign given = given.1

-- `read *, a(i)`, `read (*, *) a(i), b`
spell-read : spell_statement (act (read false (target_a ∷ []))) ≡ word "read" ∷ star ∷ comma ∷ word "a" ∷ opening ∷ word "i" ∷ closing ∷ []
spell-read = refl

spell-read_two : spell_statement (act (read true (target_a ∷ whole_b ∷ [])))
    ≡ word "read" ∷ opening ∷ star ∷ comma ∷ star ∷ closing ∷ word "a" ∷ opening ∷ word "i" ∷ closing ∷ comma ∷ word "b" ∷ []
spell-read_two = refl

ranked-read : RankedStatement (act (read true (target_a ∷ whole_b ∷ [])))
ranked-read = ((letter-is_name 97, (letter-is_name 105, tt)), ((letter-is_name 98, tt), tt))

unranked-read : RankedStatement (act (read true (record { name = codes "a"; subscripts = Some [] } ∷ []))) → ⊥
unranked-read given = given.0.1

-- ---- a program

abbrev at : ℕ → Statement → Line
at line says = record { line = line; says = says }

abbrev calls : Statement
calls = act (call (codes "s") false [])

abbrev subroutine_s : Subprogram
subroutine_s = record {
  head = at 12 (subroutine [] false [] None);
  front = [];
  body = and_then (plain (at 13 (act return))) none;
  close = at 14 (end_line None None);
}

-- IF and ELSE, and a DO around them
abbrev arms : Arms
arms = arm (at 5 (if_then x)) (and_then (plain (at 6 calls)) none) (arm (at 7 else_line) (and_then (plain (at 8 (act (cycle None)))) none) no_arms)

abbrev while_x : Item
while_x = loop (at 4 (do_while None x)) (and_then (branch arms (at 9 end_if)) none) (at 10 (end_do None))

-- a program of these and a subroutine
abbrev small : Source
small = record {
  head = at 1 (program_line (codes "p"));
  front = at 2 implicit_none ∷ at 3 (declare logical [] false (plain_entity (codes "x") ∷ [])) ∷ [];
  body = and_then while_x none;
  contains = Some 11;
  procedures = subroutine_s ∷ [];
  close = at 15 (end_line (Some units.Unit.Program) None);
}

listed-small : listing.listed small
    ≡ at 1 (program_line (codes "p")) ∷ at 2 implicit_none ∷ at 3 (declare logical [] false (plain_entity (codes "x") ∷ [])) ∷ at 4 (do_while None x)
    ∷ at 5 (if_then x) ∷ at 6 calls ∷ at 7 else_line ∷ at 8 (act (cycle None)) ∷ at 9 end_if ∷ at 10 (end_do None) ∷ at 11 contains_line
    ∷ at 12 (subroutine [] false [] None) ∷ at 13 (act return) ∷ at 14 (end_line None None) ∷ at 15 (end_line (Some units.Unit.Program) None) ∷ []
listed-small = refl
