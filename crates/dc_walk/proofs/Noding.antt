-- Nodes and loops as the code has them.
use Rattle.std.proofs.Common.{◌≡◌, ℕ, zero, suc, ◌<◌, true, ◌&&◌, List, [], ◌∷◌, map, length, get_or, Option, Some, None, sym, ap, ◌∙◌, arith}
use Rattle.std.proofs.lemmas.Bool.{and_parts}
use Rattle.dc_tree.specs.declared.expr.Expr.{Expr}
use Rattle.dc_tree.specs.declared.program.Block.{Block}
use Rattle.dc_tree.specs.declared.program.Lined.{Lined}
use Rattle.dc_tree.specs.declared.program.Node.{Node, Plain, If, Select, Loop}
use Rattle.dc_tree.specs.declared.program.Part.{Part}
use Rattle.dc_tree.specs.declared.stmt.Counted.{Counted}
use Rattle.dc_tree.specs.declared.stmt.Stmt.{Stmt}
use Rattle.dc_tree.specs.Blocks.{line_of, item, items, arms_from, part_items}
use Rattle.dc_tree.specs.Entities.{Scope, entity}
use Rattle.dc_tree.specs.Statements.{Name, counted_ranging, statement}
use Rattle.dc_tree.specs.Syntax.{tree}
use Rattle.dc_tree.proofs.Views.{item-Plain, item-If, item-Select, item-Loop}
use Rattle.dc_meaning.specs.Acts.{Act, ◌>>=◌, just}
use Rattle.dc_meaning.specs.Actions.{Flow, on}
use Rattle.dc_meaning.specs.Execution.{plain_line, selector_of, loop_of, counted_do, while_do, exec, exec_all, exec_arms, exec_cases}
use Rattle.dc_meaning.specs.Values.{Callee}
use Rattle.dc_walk.specs.Arms.{test_of}
use Rattle.dc_walk.specs.Rounds.{test_value}
use Rattle.dc_walk.specs.Walked.{is_held_or_absent, is_walked_loop, is_walked, is_walked_block, are_walked_arms}

-- ---- nodes

module _ (scope : Scope) (call : Callee) (number : ℕ) (node : Node) where
  pub exec-plain : (lined : Lined) → node ≡ Plain lined → exec scope call number (item node) ≡ plain_line scope call (line_of lined)
  exec-plain lined is = ap (exec scope call number) (ap item is ∙ item-Plain lined)

  pub exec-if : (arms shown : List Part) (close : Lined) → node ≡ If arms close → shown ≡ arms → exec scope call number (item node) ≡ exec_arms scope call number (arms_from (map part_items shown))
  exec-if arms shown close is same =
      ap (exec scope call number) (ap item is ∙ item-If arms close) ∙ ap (λ parts. exec_arms scope call number (arms_from (map part_items parts))) (sym same)

  pub exec-select : (head : Lined) (arms shown : List Part) (close : Lined) → node ≡ Select head arms close → shown ≡ arms
      → exec scope call number (item node) ≡ (selector_of scope call (line_of head) >>= (λ z. exec_cases scope call number z (arms_from (map part_items shown)) (just on)))
  exec-select head arms shown close is same =
      ap (exec scope call number) (ap item is ∙ item-Select head arms close)
      ∙ ap (λ parts. selector_of scope call (line_of head) >>= (λ z. exec_cases scope call number z (arms_from (map part_items parts)) (just on))) (sym same)

  pub exec-loop : (head : Lined) (body : Block) (close : Lined) → node ≡ Loop head body close
      → exec scope call number (item node) ≡ loop_of scope call number (line_of head) (exec_all scope call number (items body))
  exec-loop head body close is = ap (exec scope call number) (ap item is ∙ item-Loop head body close)

pub loop-walked : (scope : Scope) (indexes : List Name) (node : Node) (head : Lined) (body : Block) (close : Lined) → node ≡ Loop head body close → is_walked scope indexes (item node) ≡ true
    → (is_walked_loop scope (statement head.stmt) ≡ true) × (is_walked_block scope indexes (items body) ≡ true)
loop-walked scope indexes node head body close is walked =
    and_parts (is_walked_loop scope (statement head.stmt)) (is_walked_block scope indexes (items body)) (ap (is_walked scope indexes) (sym (ap item is ∙ item-Loop head body close)) ∙ walked)

-- ---- loops

module _ (scope : Scope) (call : Callee) (number : ℕ) (head : Lined) (label : Option Name) (body : Act Flow) where
  abbrev loop-with : Stmt → Act Flow
  loop-with says = loop_of scope call number (line_of (record { line = head.line; stmt = says })) body

  pub loop-counted : (limits : Option Counted) (counted : Counted) → head.stmt ≡ Stmt.Do label limits → limits ≡ Some counted
      → loop_of scope call number (line_of head) body ≡ counted_do scope call head.line label (counted_ranging counted) (entity scope counted.name) body
  loop-counted limits counted is some = ap loop-with is ∙ ap (λ l. loop-with (Stmt.Do label l)) some

  pub loop-forever : (limits : Option Counted) → head.stmt ≡ Stmt.Do label limits → limits ≡ None
      → loop_of scope call number (line_of head) body ≡ while_do head.line label (test_value scope call head.line None) body
  loop-forever limits is none = ap loop-with is ∙ ap (λ l. loop-with (Stmt.Do label l)) none

  pub loop-while : (test : Expr) → head.stmt ≡ Stmt.DoWhile label test
      → loop_of scope call number (line_of head) body ≡ while_do head.line label (test_value scope call head.line (Some (tree test))) body
  loop-while test is = ap loop-with is

-- ---- the arm at a place

pub place-walked : (scope : Scope) (indexes : List Name) (parts : List Part) (place : ℕ) (part : Part) → place < length parts → part ≡ get_or parts place part
    → are_walked_arms scope indexes (arms_from (map part_items parts)) ≡ true → is_walked_block scope indexes (part_items part).1 ≡ true
place-walked scope indexes [] place part below is walked = absurd (omega (arith, below))
place-walked scope indexes (first ∷ parts) zero part below is walked =
    let rest = is_walked_block scope indexes (part_items first).1 && are_walked_arms scope indexes (arms_from (map part_items parts)) in
    let all = and_parts (is_held_or_absent (test_of (part_items first).0.says)) rest walked in
    ap (λ (p : Part). is_walked_block scope indexes (part_items p).1) is
    ∙ (and_parts (is_walked_block scope indexes (part_items first).1) (are_walked_arms scope indexes (arms_from (map part_items parts))) all.1).0
place-walked scope indexes (first ∷ parts) (suc place) part below is walked =
    let rest = is_walked_block scope indexes (part_items first).1 && are_walked_arms scope indexes (arms_from (map part_items parts)) in
    let all = and_parts (is_held_or_absent (test_of (part_items first).0.says)) rest walked in
    place-walked scope indexes parts place part (omega (arith, below)) is
    (and_parts (is_walked_block scope indexes (part_items first).1) (are_walked_arms scope indexes (arms_from (map part_items parts))) all.1).1
