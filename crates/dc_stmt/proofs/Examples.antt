-- Statements that are read, and near misses.
use Rattle.std.proofs.Common.{◌≡◌, ℕ, List, [], ◌∷◌, true, false, Some, None, refl}
use Rattle.std.specs.Prelude.{codes}
use Rattle.dc_int.specs.declared.operation.ReduceOp.{ReduceOp}
use Rattle.dc_tree.specs.declared.token.Mark.{Mark}
use Rattle.dc_tree.specs.declared.token.Suffix.{Suffix}
use Rattle.dc_tree.specs.declared.token.Token.{Token}
use Rattle.dc_tree.specs.declared.stmt.Local.{Local}
use Rattle.dc_tree.specs.declared.stmt.UseForm.{UseForm}
use Rattle.dc_tree.specs.declared.stmt.Unit as units
use Rattle.dc_tree.specs.Names.{is_name}
use Rattle.dc_tree.specs.Syntax.{Tree, number, name, chars}
use Rattle.dc_tree.specs.Statements.{logical, integer, absent, listed, pure, typed, between, assign, print}
use Rattle.dc_tree.specs.Statements.{use_line, declare, procedure_line, end_line, if_action, case, do_line, concurrent, act}
use Rattle.dc_tree.specs.Spelling.{word, comma, colon, colons, equals, star}
use Rattle.dc_slices.specs.Words.{keyword}
use Rattle.dc_slices.specs.Finding.{expr}
use Rattle.dc_stmt.specs.Reading.{statement_reading}

abbrev opening : Token
opening = Token.Mark Mark.Open

abbrev closing : Token
closing = Token.Mark Mark.Close

abbrev digit : List ℕ → Token
digit digits = Token.Number digits Suffix.Absent

abbrev constant : List ℕ → Tree
constant digits = number digits Suffix.Absent

abbrev one : Token
one = digit (codes "1")

abbrev two : Token
two = digit (codes "2")

abbrev first : Tree
first = constant (codes "1")

abbrev second : Tree
second = constant (codes "2")

-- `recursive = 1` assigns to a variable of that name
recursive-assigned : statement_reading (word "recursive" ∷ equals ∷ one ∷ [])
    ≡ Some (act (assign (record { name = codes "recursive"; subscripts = None }) first), 1)
unfolding keyword expr is_name
recursive-assigned = refl

-- `do concurrent = 1, 2` counts a variable of that name
concurrent-counted : statement_reading (word "do" ∷ word "concurrent" ∷ equals ∷ one ∷ comma ∷ two ∷ [])
    ≡ Some (do_line None (Some (record { name = codes "concurrent"; first = first; last = second; step = None })), 1)
unfolding keyword expr is_name
concurrent-counted = refl

-- `do concurrent (i = 1:2, a) local(t) reduce(+:s)`
header-read : statement_reading
    (word "do" ∷ word "concurrent" ∷ opening ∷ word "i" ∷ equals ∷ one ∷ colon ∷ two ∷ comma ∷ word "a" ∷ closing ∷ word "local" ∷ opening ∷ word "t" ∷ closing
    ∷ word "reduce" ∷ opening ∷ Token.Mark Mark.Plus ∷ colon ∷ word "s" ∷ closing ∷ [])
    ≡ Some (
      concurrent None None (record { name = codes "i"; first = first; last = second; step = None } ∷ []) (Some (name (codes "a")))
          (Local.Locals (codes "t" ∷ []) ∷ Local.Reduce ReduceOp.Add (codes "s" ∷ []) ∷ []),
      1,
    )
unfolding keyword expr is_name
header-read = refl

-- a header without an index is none
header-refused : statement_reading (word "do" ∷ word "concurrent" ∷ opening ∷ word "a" ∷ closing ∷ []) ≡ None
unfolding keyword expr is_name
header-refused = refl

-- `if (e) then = 1` is no statement, since `then` is no name
then-refused : statement_reading (word "if" ∷ opening ∷ word "e" ∷ closing ∷ word "then" ∷ equals ∷ one ∷ []) ≡ None
unfolding keyword expr is_name
then-refused = refl

-- `if (e) x(1) = 2`
action-read : statement_reading (word "if" ∷ opening ∷ word "e" ∷ closing ∷ word "x" ∷ opening ∷ one ∷ closing ∷ equals ∷ two ∷ [])
    ≡ Some (if_action (name (codes "e")) (assign (record { name = codes "x"; subscripts = Some (first ∷ []) }) second), 1)
unfolding keyword expr is_name
action-read = refl

-- `case (1:2)`, and `case (1::2)`, where `::` is one token
case-read : statement_reading (word "case" ∷ opening ∷ one ∷ colon ∷ two ∷ closing ∷ []) ≡ Some (case (between first second ∷ []), 1)
unfolding keyword expr is_name
case-read = refl

case-refused : statement_reading (word "case" ∷ opening ∷ one ∷ colons ∷ two ∷ closing ∷ []) ≡ None
unfolding keyword expr is_name
case-refused = refl

-- a character literal stands alone
print-read : statement_reading (word "print" ∷ star ∷ comma ∷ Token.Chars (codes "a") ∷ []) ≡ Some (act (print false (chars (codes "a") ∷ [])), 1)
unfolding keyword expr is_name
print-read = refl

print-refused : statement_reading (word "print" ∷ star ∷ comma ∷ opening ∷ Token.Chars (codes "a") ∷ closing ∷ []) ≡ None
unfolding keyword expr is_name
print-refused = refl

-- `integer a = 1` wants `::`
value-refused : statement_reading (word "integer" ∷ word "a" ∷ equals ∷ one ∷ []) ≡ None
unfolding keyword expr is_name
value-refused = refl

-- `integer :: a(2) = [1, 2], b`
declared-read : statement_reading
    (word "integer" ∷ colons ∷ word "a" ∷ opening ∷ two ∷ closing ∷ equals ∷ Token.Mark Mark.OpenList ∷ one ∷ comma ∷ two ∷ Token.Mark Mark.CloseList ∷ comma ∷ word "b" ∷ [])
    ≡ Some (
      declare (integer false None) [] true
          (record { name = codes "a"; bounds = Some (record { low = None; high = second } ∷ []); initial = listed (first ∷ second ∷ []) }
          ∷ record { name = codes "b"; bounds = None; initial = absent } ∷ []),
      1,
    )
unfolding keyword expr is_name
declared-read = refl

-- `integer recursive` declares a variable, and `pure logical function f(x)` is a heading
recursive-declared : statement_reading (word "integer" ∷ word "recursive" ∷ [])
    ≡ Some (declare (integer false None) [] false (record { name = codes "recursive"; bounds = None; initial = absent } ∷ []), 0)
unfolding keyword expr is_name
recursive-declared = refl

heading-read : statement_reading (word "pure" ∷ word "logical" ∷ word "function" ∷ word "f" ∷ opening ∷ word "x" ∷ closing ∷ [])
    ≡ Some (procedure_line (pure ∷ typed logical ∷ []) true (codes "f") true (codes "x" ∷ []) None, 0)
unfolding keyword expr is_name
heading-read = refl

-- a function has brackets, and each prefix stands once
heading-refused : statement_reading (word "function" ∷ word "f" ∷ []) ≡ None
unfolding keyword expr is_name
heading-refused = refl

prefix-refused : statement_reading (word "pure" ∷ word "pure" ∷ word "subroutine" ∷ word "s" ∷ []) ≡ None
unfolding keyword expr is_name
prefix-refused = refl

-- `end function f`, and `use, intrinsic :: m, only: k`
end-read : statement_reading (word "end" ∷ word "function" ∷ word "f" ∷ []) ≡ Some (end_line (Some units.Unit.Function) (Some (codes "f")), 0)
unfolding keyword expr is_name
end-read = refl

use-read : statement_reading (word "use" ∷ comma ∷ word "intrinsic" ∷ colons ∷ word "m" ∷ comma ∷ word "only" ∷ colon ∷ word "k" ∷ [])
    ≡ Some (use_line UseForm.Intrinsic (codes "m") (codes "k" ∷ []), 0)
unfolding keyword expr is_name
use-read = refl
