-- Sources for examples, written with a few helpers in the place of the text.
use Rattle.std.specs.Prelude.{ℕ, true, false, List, [], ◌∷◌, Option, Some, None, codes, ℤ, pos}
use Rattle.dc_int.specs.declared.kind.Kind.{Kind}
use Rattle.dc_int.specs.Store.{Bounds}
use Rattle.dc_tree.specs.declared.stmt.Intent.{Intent}
use Rattle.dc_tree.specs.declared.stmt.Local.{Local}
use Rattle.dc_tree.specs.declared.symbols.Role as roles
use Rattle.dc_tree.specs.declared.symbols.Symbol.{Symbol}
use Rattle.dc_tree.specs.declared.token.Mark.{Mark}
use Rattle.dc_tree.specs.declared.token.Suffix.{Suffix}
use Rattle.dc_tree.specs.Blocks as blocks
use Rattle.dc_tree.specs.Blocks.{Line, Item, Items, Arms, Subprogram, Source, plain, branch, items_from, arms_from}
use Rattle.dc_tree.specs.Statements as statements
use Rattle.dc_tree.specs.Statements.{Name, Ranging, CaseRange, Target, Deed, Statement}
use Rattle.dc_tree.specs.Syntax as syntax
use Rattle.dc_tree.specs.Syntax.{Tree, Args, no_args, arg}

-- ---- names and expressions

abbrev pub a : Name
a = codes "a"

abbrev pub b : Name
b = codes "b"

abbrev pub f : Name
f = codes "f"

abbrev pub g : Name
g = codes "g"

abbrev pub i : Name
i = codes "i"

abbrev pub j : Name
j = codes "j"

abbrev pub k : Name
k = codes "k"

abbrev pub m : Name
m = codes "m"

abbrev pub n : Name
n = codes "n"

abbrev pub q : Name
q = codes "q"

abbrev pub r : Name
r = codes "r"

abbrev pub s : Name
s = codes "s"

abbrev pub t : Name
t = codes "t"

abbrev pub u : Name
u = codes "u"

abbrev pub v : Name
v = codes "v"

abbrev pub x : Name
x = codes "x"

abbrev pub y : Name
y = codes "y"

-- a number by its digits, and with its kind behind them
abbrev pub num : List ℕ → Tree
num digits = syntax.number digits Suffix.Absent

abbrev pub num_of_kind : List ℕ → List ℕ → Tree
num_of_kind kind digits = syntax.number digits (Suffix.Digits kind)

abbrev pub zero : Tree
zero = num (codes "0")

abbrev pub one : Tree
one = num (codes "1")

abbrev pub two : Tree
two = num (codes "2")

abbrev pub three : Tree
three = num (codes "3")

abbrev pub four : Tree
four = num (codes "4")

abbrev pub nine : Tree
nine = num (codes "9")

abbrev pub ten : Tree
ten = num (codes "10")

abbrev pub yes : Tree
yes = syntax.truth true

abbrev pub no : Tree
no = syntax.truth false

abbrev pub literal : List ℕ → Tree
literal text = syntax.chars text

abbrev pub var : Name → Tree
var name = syntax.name name

abbrev pub args_of : List Tree → Args
args_of [] = no_args
args_of (first ∷ rest) = arg false first (args_of rest)

-- an element, or a function of arguments
abbrev pub of : Name → List Tree → Tree
of name trees = syntax.refer name (args_of trees)

-- a function of a value and of a kind behind `kind=`
abbrev pub of_kind : Name → Tree → Tree → Tree
of_kind name value kind = syntax.refer name (arg false value (arg true kind no_args))

infixl 80 ◌plus◌
abbrev pub ◌plus◌ : Tree → Tree → Tree
left plus right = syntax.binary Mark.Plus left right

infixl 80 ◌minus◌
abbrev pub ◌minus◌ : Tree → Tree → Tree
left minus right = syntax.binary Mark.Minus left right

infixl 85 ◌times◌
abbrev pub ◌times◌ : Tree → Tree → Tree
left times right = syntax.binary Mark.Times left right

infixl 85 ◌over◌
abbrev pub ◌over◌ : Tree → Tree → Tree
left over right = syntax.binary Mark.Slash left right

abbrev pub joined : Mark → Tree → Tree → Tree
joined mark left right = syntax.binary mark left right

abbrev pub minus_of : Tree → Tree
minus_of right = syntax.unary Mark.Minus right

abbrev pub not_of : Tree → Tree
not_of right = syntax.unary Mark.Not right

abbrev pub in_brackets : Tree → Tree
in_brackets inside = syntax.paren inside

-- ---- statements

abbrev pub doing : ℕ → Deed → Item
doing line deed = plain (record { line = line; says = statements.act deed })

-- IF with one statement on its line
abbrev pub if_doing : ℕ → Tree → Deed → Item
if_doing line test deed = plain (record { line = line; says = statements.if_action test deed })

-- a variable, or an element of one, is assigned a value
abbrev pub whole : Name → Target
whole name = record { name = name; subscripts = None }

abbrev pub element : Name → List Tree → Target
element name subscripts = record { name = name; subscripts = Some subscripts }

abbrev pub set : ℕ → Name → Tree → Item
set line name value = doing line (statements.assign (whole name) value)

abbrev pub set_at : ℕ → Name → List Tree → Tree → Item
set_at line name subscripts value = doing line (statements.assign (element name subscripts) value)

-- IF with an assignment on its line
abbrev pub if_set : ℕ → Tree → Name → Tree → Item
if_set line test name value = if_doing line test (statements.assign (whole name) value)

-- the elements of an array are assigned the values of a list
abbrev pub set_all : ℕ → Name → List Tree → Item
set_all line name values = doing line (statements.fill name values)

abbrev pub print : ℕ → List Tree → Item
print line trees = doing line (statements.print false trees)

abbrev pub read : ℕ → List Target → Item
read line targets = doing line (statements.read false targets)

abbrev pub call : ℕ → Name → List Tree → Item
call line name args = doing line (statements.call name true args)

abbrev pub cycle : ℕ → Option Name → Item
cycle line label = doing line (statements.cycle label)

abbrev pub exit : ℕ → Option Name → Item
exit line label = doing line (statements.exit label)

abbrev pub from_to : Name → Tree → Tree → Ranging
from_to name first last = record { name = name; first = first; last = last; step = None }

abbrev pub by_step : Name → Tree → Tree → Tree → Ranging
by_step name first last step = record { name = name; first = first; last = last; step = Some step }

abbrev pub line_with : ℕ → Statement → Line
line_with line statement = record { line = line; says = statement }

abbrev pub loop_with : ℕ → Statement → List Item → Item
loop_with line head items = blocks.loop (line_with line head) (items_from items) (line_with line (statements.end_do None))

-- a DO CONCURRENT without a type and a mask, with a mask, and with a type, which INTEGER of a kind is
abbrev pub concurrent : ℕ → List Ranging → List Local → List Item → Item
concurrent line indexes locality items = loop_with line (statements.concurrent None None indexes None locality) items

abbrev pub masked : ℕ → List Ranging → Tree → List Local → List Item → Item
masked line indexes mask locality items = loop_with line (statements.concurrent None None indexes (Some mask) locality) items

abbrev pub typed : ℕ → Option Tree → List Ranging → Option Tree → List Local → List Item → Item
typed line kind indexes mask locality items =
    loop_with line (statements.concurrent None (Some (statements.integer false kind)) indexes mask locality) items

abbrev pub counted : ℕ → Option Name → Ranging → List Item → Item
counted line label ranging items = loop_with line (statements.do_line label (Some ranging)) items

abbrev pub forever : ℕ → Option Name → List Item → Item
forever line label items = loop_with line (statements.do_line label None) items

abbrev pub while : ℕ → Option Name → Tree → List Item → Item
while line label test items = loop_with line (statements.do_while label test) items

-- an arm of IF, the ones behind it, and the construct
abbrev pub arm_if : ℕ → Tree → List Item → Line × Items
arm_if line test items = (line_with line (statements.if_then test), items_from items)

abbrev pub arm_else_if : ℕ → Tree → List Item → Line × Items
arm_else_if line test items = (line_with line (statements.else_if test), items_from items)

abbrev pub arm_else : ℕ → List Item → Line × Items
arm_else line items = (line_with line statements.else_line, items_from items)

abbrev pub if_arms : List (Line × Items) → Item
if_arms arms = branch (arms_from arms) (line_with 0 statements.end_if)

abbrev pub if_then : ℕ → Tree → List Item → Item
if_then line test items = if_arms (arm_if line test items ∷ [])

abbrev pub if_else : ℕ → Tree → List Item → List Item → Item
if_else line test items others = if_arms (arm_if line test items ∷ arm_else line others ∷ [])

-- an arm of SELECT CASE, its default, and the construct
abbrev pub case : ℕ → List CaseRange → List Item → Line × Items
case line ranges items = (line_with line (statements.case ranges), items_from items)

abbrev pub default : ℕ → List Item → Line × Items
default line items = (line_with line statements.case_default, items_from items)

abbrev pub select : ℕ → Tree → List (Line × Items) → Item
select line selector arms = blocks.select (line_with line (statements.select_case selector)) (arms_from arms) (line_with line statements.end_select)

-- ---- declared names

abbrev pub numbers : Kind → Bounds → List ℤ → roles.Role
numbers kind bounds initial = roles.Role.Variable false kind bounds initial

abbrev pub truths : Bounds → List ℤ → roles.Role
truths bounds initial = roles.Role.Variable true Kind.K4 bounds initial

abbrev pub scalar : roles.Role
scalar = numbers Kind.K4 [] []

abbrev pub scalar_with : ℤ → roles.Role
scalar_with value = numbers Kind.K4 [] (value ∷ [])

abbrev pub array : ℕ → roles.Role
array count = numbers Kind.K4 ((pos 1, pos count) ∷ []) []

abbrev pub array_with : ℕ → List ℤ → roles.Role
array_with count initial = numbers Kind.K4 ((pos 1, pos count) ∷ []) initial

abbrev pub declared_in : ℕ → Name → roles.Role → Symbol
declared_in scope name role = record { scope = scope; name = name; role = role }

abbrev pub declared : Name → roles.Role → Symbol
declared name role = declared_in 0 name role

-- the names of the scope of a procedure: what is given, and its result
abbrev pub result : roles.Role
result = roles.Role.Result false Kind.K4

abbrev pub dummy : ℕ → Intent → roles.Role
dummy place intent = roles.Role.Dummy place false Kind.K4 intent

-- ---- programs

abbrev pub subprogram : List Item → Subprogram
subprogram items = record {
  head = line_with 0 statements.contains_line;
  front = [];
  body = items_from items;
  close = line_with 0 (statements.end_line None None);
}

abbrev pub program_with : List Item → List Subprogram → Source
program_with items procedures = record {
  head = line_with 1 (statements.program_line (codes "p"));
  front = [];
  body = items_from items;
  contains = None;
  procedures = procedures;
  close = line_with 0 (statements.end_line None None);
}

abbrev pub program : List Item → Source
program items = program_with items []
