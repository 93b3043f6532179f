-- The view of a program loses nothing.
use Rattle.std.proofs.Common.{◌≡◌, List, [], ◌∷◌, map, refl, sym, ap, subst, ◌∙◌}
use Rattle.dc_tree.specs.declared.program.Lined.{Lined}
use Rattle.dc_tree.specs.declared.program.Block.{Block, roll-Block}
use Rattle.dc_tree.specs.declared.program.Node.{Node, Node-F, roll-Node, map-Node, fold-roll-Node, Plain, If, Select, Loop}
use Rattle.dc_tree.specs.declared.program.Node.TheVariants as variants
use Rattle.dc_tree.specs.declared.program.Block.{ind-Block}
use Rattle.dc_tree.specs.declared.program.Part.{Part, roll-Part}
use Rattle.dc_tree.specs.declared.program.Procedure.{Procedure}
use Rattle.dc_tree.specs.declared.program.Program.{Program}
use Rattle.dc_tree.specs.Blocks.{Line, Item, Items, items_from, arms_from, line_of, item, items, part_items, item_step, items_step, part_step}
use Rattle.dc_tree.specs.Blocks.{subprogram_of, source_of}
use Rattle.dc_tree.specs.StatementsBack.{back_line, back_item, back_items, back_arms, back_block, back_subprogram, back_source, IsProgramToldApart}
use Rattle.dc_tree.proofs.StatementsBack.{map-back, statement-back}
use Rattle.dc_tree.proofs.Views.{items-Block, part_items-Part}

line-back : (lined : Lined) → back_line (line_of lined) ≡ lined
line-back lined = λ i. record { line = lined.line; stmt = statement-back lined.stmt i }

lines-back : (front : List Lined) → map back_line (map line_of front) ≡ front
lines-back = map-back line_of back_line line-back

abbrev IsNodeBack : Node → Type 0
IsNodeBack node = back_item (item node) ≡ node

abbrev IsBlockBack : Block → Type 0
IsBlockBack block = back_block (items block) ≡ block

abbrev part_from : Line × Items → Part
part_from seen = roll-Part (record { head = back_line seen.0; body = back_block seen.1 })

abbrev IsPartBack : Part → Type 0
IsPartBack part = part_from (part_items part) ≡ part

-- a node, a block and an arm beside their proofs
abbrev BackNode : Type 0
BackNode = (node : Node) × IsNodeBack node

abbrev BackBlock : Type 0
BackBlock = (block : Block) × IsBlockBack block

abbrev BackPart : Type 0
BackPart = (part : Part) × IsPartBack part

abbrev plain_nodes : List BackNode → List Node
plain_nodes nodes = map (λ n. n.0) nodes

abbrev plain_parts : List BackPart → List Part
plain_parts parts = map (λ p. p.0) parts

nodes-back : (nodes : List BackNode) → back_items (items_from (map item (plain_nodes nodes))) ≡ plain_nodes nodes
nodes-back [] = refl
nodes-back (first ∷ rest) = λ i. first.1 i ∷ nodes-back rest i

arms-back : (arms : List BackPart) → back_arms (arms_from (map part_items (plain_parts arms))) ≡ plain_parts arms
arms-back [] = refl
arms-back (first ∷ rest) = λ i. first.1 i ∷ arms-back rest i

abbrev plain_level : Node-F BackNode BackBlock BackPart → Node-F Node Block Part
plain_level = map-Node BackNode BackBlock BackPart Node Block Part (λ n. n.0) (λ b. b.0) (λ p. p.0)

-- one level, whose parts are got back
opened : (x : Node-F Node Block Part)
    → back_item (item (roll-Node x)) ≡ back_item (item_step (map-Node Node Block Part Item Items (Line × Items) item items part_items x))
opened x = ap back_item (fold-roll-Node Item Items (Line × Items) item_step items_step part_step x)

level-back : (y : Node-F BackNode BackBlock BackPart) → IsNodeBack (roll-Node (plain_level y))
level-back (Node-F.Plain lined) = opened (Node-F.Plain lined) ∙ (λ i. Plain (line-back lined i)) ∙ sym (variants.rolls-Plain lined)
level-back (Node-F.If arms close) =
    opened (Node-F.If (plain_parts arms) close) ∙ (λ i. If (arms-back arms i) (line-back close i)) ∙ sym (variants.rolls-If (plain_parts arms) close)
level-back (Node-F.Select head arms close) =
    opened (Node-F.Select head (plain_parts arms) close) ∙ (λ i. Select (line-back head i) (arms-back arms i) (line-back close i))
    ∙ sym (variants.rolls-Select head (plain_parts arms) close)
level-back (Node-F.Loop head body close) =
    opened (Node-F.Loop head body.0 close) ∙ (λ i. Loop (line-back head i) (body.1 i) (line-back close i))
    ∙ sym (variants.rolls-Loop head body.0 close)

block_level-back : (nodes : List BackNode) → IsBlockBack (roll-Block (record { nodes = plain_nodes nodes }))
block_level-back nodes =
    ap back_block (items-Block (plain_nodes nodes)) ∙ ap (λ (inside : List Node). roll-Block (record { nodes = inside })) (nodes-back nodes)

part_level-back : (head : Lined) (body : BackBlock) → IsPartBack (roll-Part (record { head = head; body = body.0 }))
part_level-back head body = ap part_from (part_items-Part head body.0) ∙ (λ i. roll-Part (record { head = line-back head i; body = body.1 i }))

block-back : (block : Block) → back_block (items block) ≡ block
block-back = ind-Block IsNodeBack IsBlockBack IsPartBack
    (λ x y is. subst (λ z. IsNodeBack (roll-Node z)) is (level-back y))
    (λ x y is. subst (λ z. IsBlockBack (roll-Block z)) is (block_level-back y.nodes))
    (λ x y is. subst (λ z. IsPartBack (roll-Part z)) is (part_level-back y.head y.body))

procedure-back : (procedure : Procedure) → back_subprogram (subprogram_of procedure) ≡ procedure
procedure-back procedure = λ i. record {
  head = line-back procedure.head i;
  front = lines-back procedure.front i;
  body = block-back procedure.body i;
  close = line-back procedure.close i;
}

program-back : (program : Program) → back_source (source_of program) ≡ program
program-back program = λ i. record {
  head = line-back program.head i;
  front = lines-back program.front i;
  body = block-back program.body i;
  contains = program.contains;
  procedures = map-back subprogram_of back_subprogram procedure-back program.procedures i;
  close = line-back program.close i;
}

pub program-told_apart : (a b : Program) → IsProgramToldApart a b
program-told_apart a b same = sym (program-back a) ∙ ap back_source same ∙ program-back b
