use Rattle.std.proofs.Common.{◌≡◌, List, [], ◌∷◌, ◌++◌, length, ap, sym, ◌∙◌}
use Rattle.dc_code.specs.declared.instr.Instr.{Instr}
use Rattle.dc_code.specs.declared.plan.Group.{Group}
use Rattle.dc_tree.specs.Blocks.{Line, items, line_of}
use Rattle.dc_tree.specs.Entities.{main_scope}
use Rattle.dc_tree.specs.Statements.{Ranging, statement, index_ranging}
use Rattle.dc_meaning.specs.WalkScope.{kind_of_index, index_scope}
use Rattle.dc_meaning.proofs.Looping.{BuiltLoop, built-loop}
use Rattle.dc_lower.specs.Blocks.{part_code, groups_of_block}
use Rattle.dc_actions.specs.Naming.{scope_of}
use Rattle.dc_lower.proofs.LoweredLoops.{index-is, index-held, inner-scope, its-kind, its-scope, header-is, block-scope-is, body-is, plan-is, construct-is, loop-added}
use Rattle.dc_lower.proofs.program.Lists.add_loop.Goals as goal

pub header-requires-clause-held : goal.header-requires-clause-held
header-requires-clause-held c =
    let scope = main_scope c.args.symbols.now in
    let says = statement (c.args.head.now).stmt in
    let body = items c.args.body.now in
    let built = built-loop scope says body c.requires.built in
    let asked = index_ranging c.first_index-index.result.now in
    index-held scope says body built asked (index-is scope says body built asked c.first_index-index.ensures)

pub returns : goal.returns
returns c =
    let symbols = c.args.symbols.now in
    let scope = main_scope symbols in
    let head : Line = line_of c.args.head.now in
    let body = items c.args.body.now in
    let before = c.args.self.now in
    let number = length before.constructs in
    let built : BuiltLoop scope head.says body = built-loop scope head.says body c.requires.built in
    let asked : Ranging = index_ranging c.first_index-index.result.now in
    let kind = c.index_kind-kind.result in
    let ranging : built.ranging ≡ asked = index-is scope head.says body built asked c.first_index-index.ensures in
    let named : kind ≡ kind_of_index symbols asked.name = c.index_kind-kind.ensures ∙ ap (kind_of_index symbols) c.as_bytes.ensures in
    let kinds : kind ≡ its-kind symbols number head body built = named ∙ ap (λ (r : Ranging). kind_of_index symbols r.name) (sym ranging) in
    let outer = scope_of c.names_within-outer.result in
    let inner = scope_of c.names_within-inner.result in
    let indexes : c.as_slice.result.now ≡ record { name = asked.name; kind = kind } ∷ [] = c.as_slice.ensures ∙ c.in_ok-indexes.ensures in
    let within : inner ≡ its-scope symbols number head body built =
    block-scope-is symbols number head body built inner
    (c.names_within-inner.ensures.scope ∙ inner-scope symbols c.as_slice.result.now asked.name kind indexes named ∙ ap (λ (r : Ranging). index_scope symbols r.name) (sym ranging)) in
    let header = c.in_ok-header.ensures ∙ header-is symbols number head body built kind asked outer kinds ranging c.names_within-outer.ensures.scope in
    let groups = c.in_ok-index_groups.ensures in
    let instrs = c.in_ok-block.ensures.instructions ∙ ap (λ (g : List Group). part_code inner 0 (length g) 0 body head.line) groups ∙ body-is symbols number head body built inner within in
    let plan = plan-is symbols number head body built (c.in_ok-block.block).groups kind inner kinds within (c.in_ok-block.ensures.groups ∙ ap (λ (g : List Group). g ++ groups_of_block inner body) groups) in
    let construct = c.in_ok-construct.ensures ∙ construct-is symbols number head body built kind before.shapes (length before.instructions) c.len.result kinds c.requires.shapes (c.len.ensures ∙ ap (λ (l : List Instr). length l) header) in
    let added = c.in_ok-add_parts.ensures in
    loop-added symbols number head body built before c.add_parts.new.self c.in_ok-header.header (c.in_ok-block.block).instructions _ c.in_ok-construct.construct header instrs plan construct added.instructions
    added.plans added.constructs added.texts added.shapes added.bounds added.entries
