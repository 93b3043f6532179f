use Rattle.std.proofs.Common.{◌≡◌, ◌∷◌, [], refl, ap, ◌∙◌, rules}
use Rattle.dc_int.specs.declared.kind.Kind.{Kind}
use Rattle.dc_tree.specs.Blocks.{items}
use Rattle.dc_tree.specs.Statements.{statement, index_ranging}
use Rattle.dc_walk.specs.declared.task.Task.{Task}
use Rattle.dc_meaning.specs.WalkScope.{kind_of_index}
use Rattle.dc_walk.proofs.Tasks.{IsTaskOf, task-is}
use Rattle.dc_walk.proofs.visits.visit.Goals as goal

pub visit_between-requires : goal.visit_between-requires
visit_between-requires g c =
    let symbols = c.args.symbols.now in
    let block = items c.args.body.now in
    let ranging = index_ranging c.first_index-index.result.now in
    let task : Task = record { standing = c.block_standing.result; numbering = c.args.numbering; body = c.args.body; turns = c.args.turns } in
    let text : c.as_bytes.result.now ≡ ranging.name = search rules in
    let kind : c.index_kind-kind.result ≡ kind_of_index symbols ranging.name = c.index_kind-kind.ensures ∙ ap (kind_of_index symbols) text in
    let made : c.as_slice.result.now ≡ record { name = ranging.name; kind = c.index_kind-kind.result } ∷ [] = search rules in
    let of : IsTaskOf task symbols ranging block = record {
      names = c.block_standing.ensures.symbols;
      unit = c.block_standing.ensures.unit;
      indexes = c.block_standing.ensures.indexes ∙ made ∙ ap (λ (k : Kind). record { name = ranging.name; kind = k } ∷ []) kind;
      numbers = c.requires.1;
      body = refl;
    } in
    task-is g.parts symbols c.args.turns c.args.head.now.line (statement c.args.head.now.stmt) block ranging task c.requires.0 c.first_index-index.ensures of refl
