-- The equations of the views, at each form of the code's trees.
use Rattle.std.proofs.Common.{◌≡◌, ℕ, Bool, List, map, sym, ap, ◌∙◌}
use Rattle.dc_tree.specs.declared.token.Mark.{Mark}
use Rattle.dc_tree.specs.declared.token.Suffix.{Suffix}
use Rattle.dc_tree.specs.declared.expr.Arg.{Arg, roll-Arg, fold-roll-Arg}
use Rattle.dc_tree.specs.declared.expr.Expr.{Expr, Expr-F, fold-roll-Expr, Number, Truth, Chars, Name, Refer, Paren, Unary, Binary}
use Rattle.dc_tree.specs.declared.expr.Expr.TheVariants as variants
use Rattle.dc_tree.specs.declared.program.Lined.{Lined}
use Rattle.dc_tree.specs.declared.program.Block.{Block, roll-Block, fold-roll-Block}
use Rattle.dc_tree.specs.declared.program.Node.{Node, Node-F, fold-roll-Node, Plain, If, Select, Loop}
use Rattle.dc_tree.specs.declared.program.Node.TheVariants as nodes
use Rattle.dc_tree.specs.declared.program.Part.{Part, roll-Part, fold-roll-Part}
use Rattle.dc_tree.specs.Syntax.{Tree, number, truth, chars, name, refer, paren, unary, binary, args_from, tree, arg_tree, tree_step, arg_step}
use Rattle.dc_tree.specs.Blocks.{Line, Item, Items, plain, branch, select, loop, items_from, arms_from, line_of, item, items, part_items, item_step, items_step, part_step}

pub tree-Number : (digits : List ℕ) (suffix : Suffix) → tree (Number digits suffix) ≡ number digits suffix
tree-Number digits suffix = ap tree (sym (variants.rolls-Number digits suffix)) ∙ fold-roll-Expr Tree (Bool × Tree) tree_step arg_step (Expr-F.Number digits suffix)

pub tree-Truth : (value : Bool) → tree (Truth value) ≡ truth value
tree-Truth value = ap tree (sym (variants.rolls-Truth value)) ∙ fold-roll-Expr Tree (Bool × Tree) tree_step arg_step (Expr-F.Truth value)

pub tree-Chars : (text : List ℕ) → tree (Chars text) ≡ chars text
tree-Chars text = ap tree (sym (variants.rolls-Chars text)) ∙ fold-roll-Expr Tree (Bool × Tree) tree_step arg_step (Expr-F.Chars text)

pub tree-Name : (text : List ℕ) → tree (Name text) ≡ name text
tree-Name text = ap tree (sym (variants.rolls-Name text)) ∙ fold-roll-Expr Tree (Bool × Tree) tree_step arg_step (Expr-F.Name text)

pub tree-Refer : (text : List ℕ) (args : List Arg) → tree (Refer text args) ≡ refer text (args_from (map arg_tree args))
tree-Refer text args = ap tree (sym (variants.rolls-Refer text args)) ∙ fold-roll-Expr Tree (Bool × Tree) tree_step arg_step (Expr-F.Refer text args)

pub tree-Paren : (inside : Expr) → tree (Paren inside) ≡ paren (tree inside)
tree-Paren inside = ap tree (sym (variants.rolls-Paren inside)) ∙ fold-roll-Expr Tree (Bool × Tree) tree_step arg_step (Expr-F.Paren inside)

pub tree-Unary : (mark : Mark) (right : Expr) → tree (Unary mark right) ≡ unary mark (tree right)
tree-Unary mark right = ap tree (sym (variants.rolls-Unary mark right)) ∙ fold-roll-Expr Tree (Bool × Tree) tree_step arg_step (Expr-F.Unary mark right)

pub tree-Binary : (mark : Mark) (left right : Expr) → tree (Binary mark left right) ≡ binary mark (tree left) (tree right)
tree-Binary mark left right =
    ap tree (sym (variants.rolls-Binary mark left right)) ∙ fold-roll-Expr Tree (Bool × Tree) tree_step arg_step (Expr-F.Binary mark left right)

pub arg_tree-Arg : (keyed : Bool) (value : Expr) → arg_tree (roll-Arg (record { keyed = keyed; value = value })) ≡ (keyed, tree value)
arg_tree-Arg keyed value = fold-roll-Arg Tree (Bool × Tree) tree_step arg_step (record { keyed = keyed; value = value })

-- all of them on expressions
pub ruleset expression_views = (tree-Number, tree-Truth, tree-Chars, tree-Name, tree-Refer, tree-Paren, tree-Unary, tree-Binary, arg_tree-Arg)

pub items-Block : (inside : List Node) → items (roll-Block (record { nodes = inside })) ≡ items_from (map item inside)
items-Block inside = fold-roll-Block Item Items (Line × Items) item_step items_step part_step (record { nodes = inside })

pub item-Plain : (lined : Lined) → item (Plain lined) ≡ plain (line_of lined)
item-Plain lined = ap item (sym (nodes.rolls-Plain lined)) ∙ fold-roll-Node Item Items (Line × Items) item_step items_step part_step (Node-F.Plain lined)

pub item-If : (arms : List Part) (close : Lined) → item (If arms close) ≡ branch (arms_from (map part_items arms)) (line_of close)
item-If arms close = ap item (sym (nodes.rolls-If arms close)) ∙ fold-roll-Node Item Items (Line × Items) item_step items_step part_step (Node-F.If arms close)

pub item-Select : (head : Lined) (arms : List Part) (close : Lined) → item (Select head arms close) ≡ select (line_of head) (arms_from (map part_items arms)) (line_of close)
item-Select head arms close =
    ap item (sym (nodes.rolls-Select head arms close)) ∙ fold-roll-Node Item Items (Line × Items) item_step items_step part_step (Node-F.Select head arms close)

pub item-Loop : (head : Lined) (body : Block) (close : Lined) → item (Loop head body close) ≡ loop (line_of head) (items body) (line_of close)
item-Loop head body close =
    ap item (sym (nodes.rolls-Loop head body close)) ∙ fold-roll-Node Item Items (Line × Items) item_step items_step part_step (Node-F.Loop head body close)

pub part_items-Part : (head : Lined) (body : Block) → part_items (roll-Part (record { head = head; body = body })) ≡ (line_of head, items body)
part_items-Part head body = fold-roll-Part Item Items (Line × Items) item_step items_step part_step (record { head = head; body = body })

-- all of them on statements
pub ruleset statement_views = (items-Block, item-Plain, item-If, item-Select, item-Loop, part_items-Part)
