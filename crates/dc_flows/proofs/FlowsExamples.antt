-- Small blocks with branches and loops, and the instructions that they have.
use Rattle.std.proofs.Common.{◌≡◌, ℕ, List, [], ◌∷◌, true, false, Some, None, refl}
use Rattle.std.specs.Prelude.{codes, pos}
use Rattle.dc_int.specs.declared.kind.Kind.{Kind}
use Rattle.dc_int.specs.declared.operation.Op.{Op}
use Rattle.dc_int.specs.Sorts.{whole}
use Rattle.dc_code.specs.declared.instr.Instr.{Instr}
use Rattle.dc_code.specs.declared.instr.Relation.{Relation}
use Rattle.dc_code.specs.declared.instr.What.{What}
use Rattle.dc_tree.specs.declared.token.Suffix.{Suffix}
use Rattle.dc_tree.specs.Blocks.{Line, Items, plain, branch, select, loop, none, and_then, no_arms, arm}
use Rattle.dc_tree.specs.Entities.{Scope, outside}
use Rattle.dc_tree.specs.Statements as statements
use Rattle.dc_tree.specs.Statements.{Statement}
use Rattle.dc_tree.specs.Syntax as syntax
use Rattle.dc_tree.specs.Syntax.{Tree, number}
use Rattle.dc_flows.specs.Flows.{Before, block_code, block_size, groups_of_block}

-- an INTEGER scalar `i`
abbrev small : Scope
small = record { names = (codes "i", outside 0 (whole Kind.K4) []) ∷ []; groups = 0 }

abbrev ten : Before
ten = record { at = 10; texts = 0; groups = 0; loops = 0 }

abbrev line : ℕ → Statement → Line
line at says = record { line = at; says = says }

abbrev at_line : ℕ → What → Instr
at_line at what = record { line = at; what = what }

abbrev literal : List ℕ → Tree
literal digits = number digits Suffix.Absent

abbrev single : ℕ → statements.Deed → Items
single at deed = and_then (plain (line at (statements.act deed))) none

-- `if (.true.) then`, `stop`, `else`, `error stop`: the first arm jumps over the second.
abbrev branched : Items
branched =
    and_then (branch (arm (line 2 (statements.if_then (syntax.truth true))) (single 3 statements.stop) (arm (line 4 statements.else_line) (single 5 statements.error_stop) no_arms)) (line 6 statements.end_if))
    none

branch_code : block_code small ten [] branched
    ≡ at_line 2 (What.Truth true) ∷ at_line 2 (What.JumpFalse 14) ∷ at_line 3 What.Stop ∷ at_line 2 (What.Jump 15) ∷ at_line 5 What.ErrorStop ∷ []
branch_code = refl

branch_size : block_size small branched ≡ 5
branch_size = refl

-- `outer: do`, `do`, `exit outer`: the EXIT leaves both, and the test stands before the first round and behind each.
abbrev nested : Items
nested =
    and_then (loop (line 2 (statements.do_line (Some (codes "outer")) None)) (and_then (loop (line 3 (statements.do_line None None)) (single 4 (statements.exit (Some (codes "outer")))) (line 5 (statements.end_do None))) none) (line 6 (statements.end_do (Some (codes "outer")))))
    none

loops_code : block_code small ten [] nested
    ≡ at_line 2 (What.Truth true) ∷ at_line 2 (What.JumpFalse 23) ∷ at_line 2 What.Turn
    ∷ at_line 3 (What.Truth true) ∷ at_line 3 (What.JumpFalse 20) ∷ at_line 3 What.Turn ∷ at_line 4 (What.Jump 23)
    ∷ at_line 3 (What.Truth true) ∷ at_line 3 (What.JumpFalse 20) ∷ at_line 3 (What.Back 16)
    ∷ at_line 2 (What.Truth true) ∷ at_line 2 (What.JumpFalse 23) ∷ at_line 2 (What.Back 13) ∷ []
loops_code = refl

-- `select case (1)`, `case default`, `stop`, `case (2:)`, `error stop`: the default stands last.
abbrev chosen : Items
chosen =
    and_then (select (line 2 (statements.select_case (literal (codes "1")))) (arm (line 3 statements.case_default) (single 4 statements.stop) (arm (line 5 (statements.case (statements.from (literal (codes "2")) ∷ []))) (single 6 statements.error_stop) no_arms)) (line 7 statements.end_select))
    none

case_code : block_code small ten [] chosen
    ≡ at_line 2 (What.Const Kind.K4 (pos 1)) ∷ at_line 2 (What.SubscriptSlot 0) ∷ at_line 2 (What.StoreSlot 0)
    ∷ at_line 5 (What.Truth false) ∷ at_line 5 (What.SubscriptSlot 0) ∷ at_line 5 (What.LoadSlot 0) ∷ at_line 5 (What.Const Kind.K8 (pos 2)) ∷ at_line 5 (What.Compare Relation.Ge) ∷ at_line 5 What.Or
    ∷ at_line 5 (What.JumpFalse 22) ∷ at_line 6 What.ErrorStop ∷ at_line 5 (What.Jump 23) ∷ at_line 4 What.Stop ∷ []
case_code = refl

-- `do i = 1, 3`, `cycle`: the groups keep 1, the step, and how many rounds are left, and the CYCLE goes to the step.
abbrev counted : Items
counted =
    and_then (loop (line 2 (statements.do_line None (Some (record { name = codes "i"; first = literal (codes "1"); last = literal (codes "3"); step = None })))) (single 3 (statements.cycle None)) (line 4 (statements.end_do None)))
    none

counted_code : block_code small ten [] counted
    ≡ at_line 2 (What.Const Kind.K4 (pos 1)) ∷ at_line 2 (What.Wrap Kind.K4) ∷ at_line 2 (What.SubscriptSlot 0) ∷ at_line 2 (What.StoreSlot 0) ∷ at_line 2 (What.SubscriptSlot 0) ∷ at_line 2 (What.LoadSlot 0)
    ∷ at_line 2 (What.Const Kind.K4 (pos 3)) ∷ at_line 2 (What.Wrap Kind.K4)
    ∷ at_line 2 (What.Const Kind.K4 (pos 1)) ∷ at_line 2 (What.SubscriptSlot 1) ∷ at_line 2 (What.StoreSlot 1) ∷ at_line 2 (What.SubscriptSlot 1) ∷ at_line 2 (What.LoadSlot 1)
    ∷ at_line 2 (What.Count Kind.K4) ∷ at_line 2 (What.SubscriptSlot 2) ∷ at_line 2 (What.StoreSlot 2)
    ∷ at_line 2 (What.SubscriptSlot 0) ∷ at_line 2 (What.LoadSlot 0) ∷ at_line 2 (What.Subscript 0) ∷ at_line 2 (What.Store 0)
    ∷ at_line 2 (What.SubscriptSlot 2) ∷ at_line 2 (What.LoadSlot 2) ∷ at_line 2 (What.Const Kind.K8 (pos 0)) ∷ at_line 2 (What.Compare Relation.Gt) ∷ at_line 2 (What.JumpFalse 56) ∷ at_line 2 What.Turn
    ∷ at_line 3 (What.Jump 37)
    ∷ at_line 2 (What.Subscript 0) ∷ at_line 2 (What.Load 0) ∷ at_line 2 (What.SubscriptSlot 1) ∷ at_line 2 (What.LoadSlot 1) ∷ at_line 2 (What.Arith Op.Add Kind.K4) ∷ at_line 2 (What.Subscript 0) ∷ at_line 2 (What.Store 0)
    ∷ at_line 2 (What.SubscriptSlot 2) ∷ at_line 2 (What.LoadSlot 2) ∷ at_line 2 (What.Const Kind.K8 (pos 1)) ∷ at_line 2 (What.Arith Op.Sub Kind.K8) ∷ at_line 2 (What.SubscriptSlot 2) ∷ at_line 2 (What.StoreSlot 2)
    ∷ at_line 2 (What.SubscriptSlot 2) ∷ at_line 2 (What.LoadSlot 2) ∷ at_line 2 (What.Const Kind.K8 (pos 0)) ∷ at_line 2 (What.Compare Relation.Gt) ∷ at_line 2 (What.JumpFalse 56) ∷ at_line 2 (What.Back 36) ∷ []
counted_code = refl
