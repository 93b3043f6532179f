-- Small trees, and the instructions that they have.
use Rattle.std.proofs.Common.{◌≡◌, [], ◌∷◌, false, true, Some, None, refl}
use Rattle.std.specs.Int.{int_wrap}
use Rattle.std.specs.Prelude.{codes, pos, negsuc}
use Rattle.dc_int.specs.declared.kind.Kind.{Kind}
use Rattle.dc_int.specs.declared.operation.Op.{Op}
use Rattle.dc_int.specs.Sorts.{whole, logical}
use Rattle.dc_code.specs.declared.frame.Item.{Item}
use Rattle.dc_code.specs.declared.instr.Folding.{Folding}
use Rattle.dc_code.specs.declared.instr.Relation.{Relation}
use Rattle.dc_code.specs.declared.instr.What.{What}
use Rattle.dc_code.specs.Combinations.{Span}
use Rattle.dc_tree.specs.declared.token.Mark.{Mark}
use Rattle.dc_tree.specs.declared.token.Suffix.{Suffix}
use Rattle.dc_tree.specs.Blocks.{Items, plain, none, and_then}
use Rattle.dc_tree.specs.Entities.{Scope, outside, slots, constant}
use Rattle.dc_tree.specs.Statements.{fill, print, act}
use Rattle.dc_tree.specs.Syntax.{Tree, number, chars, name, refer, paren, unary, binary, no_args, arg}
use Rattle.dc_actions.specs.Assigning.{assignment_code, filling_code}
use Rattle.dc_lower.specs.Blocks.{groups_of_block, part_code}
use Rattle.dc_actions.specs.Expressions.{value_code}
use Rattle.dc_lower.specs.Heading.{items_of, stack_of}
use Rattle.dc_actions.specs.Printing.{printing_code}

-- an array `a` of four elements, a scalar `t` of kind 8, an index `i`, a constant `n`, and truths `q`
abbrev small : Scope
small = record {
  names =
      (codes "a", outside 0 (whole Kind.K4) ((pos 1, pos 4) ∷ [])) ∷ (codes "t", outside 1 (whole Kind.K8) []) ∷ (codes "i", slots 0 (whole Kind.K4) [])
      ∷ (codes "n", constant (whole Kind.K4) (pos 7)) ∷ (codes "q", outside 2 logical ((pos 1, pos 2) ∷ [])) ∷ [];
  groups = 1;
}

abbrev one : Tree
one = number (codes "1") Suffix.Absent

abbrev named : Tree
named = name (codes "t")

-- a(i) + 1
sum : value_code small (binary Mark.Plus (refer (codes "a") (arg false (name (codes "i")) no_args)) one)
    ≡ What.SubscriptSlot 0 ∷ What.LoadSlot 0 ∷ What.Subscript 0 ∷ What.Load 0 ∷ What.Const Kind.K4 (pos 1) ∷ What.Arith Op.Add Kind.K4 ∷ []
sum = refl

-- the left operand comes first, and the wider kind counts: 1 - t
wider_operand : value_code small (binary Mark.Minus one named) ≡ What.Const Kind.K4 (pos 1) ∷ What.Subscript 1 ∷ What.Load 1 ∷ What.Arith Op.Sub Kind.K8 ∷ []
wider_operand = refl

-- -(n) >= 1
relation : value_code small (binary Mark.Ge (unary Mark.Minus (paren (name (codes "n")))) one)
    ≡ What.Const Kind.K4 (pos 7) ∷ What.Arith Op.Neg Kind.K4 ∷ What.Const Kind.K4 (pos 1) ∷ What.Compare Relation.Ge ∷ []
relation = refl

-- max(1, n, 1), from the left
greatest : value_code small (refer (codes "max") (arg false one (arg false (name (codes "n")) (arg false one no_args))))
    ≡ What.Const Kind.K4 (pos 1) ∷ What.Const Kind.K4 (pos 7) ∷ What.Arith Op.Max Kind.K4 ∷ What.Const Kind.K4 (pos 1) ∷ What.Arith Op.Max Kind.K4 ∷ []
greatest = refl

-- count(q) and size(a)
counted : value_code small (refer (codes "count") (arg false (name (codes "q")) no_args)) ≡ What.Fold Folding.Count 2 ∷ []
counted = refl

sized : value_code small (refer (codes "size") (arg false (name (codes "a")) no_args)) ≡ What.Const Kind.K4 (pos 4) ∷ []
unfolding int_wrap
sized = refl

-- a(i) = 1: the value before the subscripts
element_assigned : assignment_code small (record { name = codes "a"; subscripts = Some (name (codes "i") ∷ []) }) one
    ≡ What.Const Kind.K4 (pos 1) ∷ What.SubscriptSlot 0 ∷ What.LoadSlot 0 ∷ What.Subscript 0 ∷ What.Store 0 ∷ []
element_assigned = refl

-- a = 1
array_assigned : assignment_code small (record { name = codes "a"; subscripts = None }) one ≡ What.Const Kind.K4 (pos 1) ∷ What.Fill 0 ∷ []
array_assigned = refl

-- print *, 'x', a, t, where two texts stand before
printed : printing_code small 2 (chars (codes "x") ∷ name (codes "a") ∷ named ∷ [])
    ≡ What.PutChars 2 ∷ What.PutAll 0 ∷ What.Subscript 1 ∷ What.Load 1 ∷ What.PutNumber ∷ What.PutEnd ∷ []
printed = refl

-- a(i) = t: a number of kind 8 is wrapped to kind 4, before the subscripts
narrowed : assignment_code small (record { name = codes "a"; subscripts = Some (name (codes "i") ∷ []) }) named
    ≡ What.Subscript 1 ∷ What.Load 1 ∷ What.Wrap Kind.K4 ∷ What.SubscriptSlot 0 ∷ What.LoadSlot 0 ∷ What.Subscript 0 ∷ What.Store 0 ∷ []
narrowed = refl

-- t = a(i): a wider kind takes the number as it is
widened : assignment_code small (record { name = codes "t"; subscripts = Some [] }) (refer (codes "a") (arg false (name (codes "i")) no_args))
    ≡ What.SubscriptSlot 0 ∷ What.LoadSlot 0 ∷ What.Subscript 0 ∷ What.Load 0 ∷ What.Subscript 1 ∷ What.Store 1 ∷ []
widened = refl

-- popcnt(t), which has kind 4
bits : value_code small (refer (codes "popcnt") (arg false named no_args)) ≡ What.Subscript 1 ∷ What.Load 1 ∷ What.Arith Op.Popcnt Kind.K8 ∷ What.Wrap Kind.K4 ∷ []
bits = refl

-- b = [1, t], where an array `b` of two elements begins at 3 and one group stands before: each value is kept in its
-- slot, and then each element is defined
listed : filling_code small 1 (one ∷ named ∷ []) (outside 3 (whole Kind.K4) ((pos 3, pos 4) ∷ []))
    ≡ What.Const Kind.K4 (pos 1) ∷ What.Const Kind.K4 (pos 1) ∷ What.SubscriptSlot 1 ∷ What.StoreSlot 1
    ∷ What.Subscript 1 ∷ What.Load 1 ∷ What.Wrap Kind.K4 ∷ What.Const Kind.K4 (pos 2) ∷ What.SubscriptSlot 1 ∷ What.StoreSlot 1
    ∷ What.Const Kind.K4 (pos 1) ∷ What.SubscriptSlot 1 ∷ What.LoadSlot 1 ∷ What.Const Kind.K8 (pos 3) ∷ What.Subscript 3 ∷ What.Store 3
    ∷ What.Const Kind.K4 (pos 2) ∷ What.SubscriptSlot 1 ∷ What.LoadSlot 1 ∷ What.Const Kind.K8 (pos 4) ∷ What.Subscript 3 ∷ What.Store 3 ∷ []
listed = refl

-- a block of one statement, on line 3, that ends on line 4
part : part_code small 0 1 0 (and_then (plain (record { line = 3; says = act (print false []) })) none) 4 ≡ record { line = 3; what = What.PutEnd } ∷ record { line = 4; what = What.End } ∷ []
part = refl

-- a block that assigns two lists, of four numbers and of no truths, has a group for each
lists : Items
lists =
    and_then (plain (record { line = 3; says = act (fill (codes "a") (one ∷ one ∷ one ∷ one ∷ [])) }))
    (and_then (plain (record { line = 4; says = act (print false []) })) (and_then (plain (record { line = 5; says = act (fill (codes "q") []) })) none))

added : groups_of_block small lists
    ≡ record { kind = Kind.K4; logical = false; bounds = (pos 1, pos 4) ∷ [] } ∷ record { kind = Kind.K4; logical = true; bounds = (pos 1, pos 0) ∷ [] } ∷ []
unfolding lists
added = refl

-- the limits and the steps of (i = 2:9, j = 8:1:-3): the first limit is pushed first, and the last step is on top
first_span : Span
first_span = record { first = pos 2; last = pos 9; step = pos 1 }

second_span : Span
second_span = record { first = pos 8; last = pos 1; step = negsuc 2 }

pushed_items : items_of (first_span ∷ second_span ∷ [])
    ≡ Item.Value (pos 2) ∷ Item.Value (pos 9) ∷ Item.Value (pos 1) ∷ Item.Value (pos 8) ∷ Item.Value (pos 1) ∷ Item.Value (negsuc 2) ∷ []
unfolding first_span second_span
pushed_items = refl

stacked : stack_of (first_span ∷ second_span ∷ [])
    ≡ Item.Value (negsuc 2) ∷ Item.Value (pos 1) ∷ Item.Value (pos 8) ∷ Item.Value (pos 1) ∷ Item.Value (pos 9) ∷ Item.Value (pos 2) ∷ []
unfolding first_span second_span
stacked = refl
