use Rattle.std.proofs.Common.{◌≡◌, Some, [], ◌∷◌, refl, ap, sym, ◌∙◌, rules}
use Rattle.std.specs.Prelude.{ℤ}
use Rattle.std.specs.Int.{w64}
use Rattle.std.proofs.lemmas.Int.{to_z-of_z}
use Rattle.dc_int.specs.declared.kind.Kind.{Kind}
use Rattle.dc_tree.specs.Blocks.{items}
use Rattle.dc_tree.specs.Entities.{Scope}
use Rattle.dc_tree.specs.Statements.{statement, index_ranging}
use Rattle.dc_walk.specs.declared.task.Task.{Task}
use Rattle.dc_meaning.specs.Execution.{exec_all}
use Rattle.dc_meaning.specs.WalkScope.{index_scope, kind_of_index}
use Rattle.dc_walk.proofs.Tasks.{index-named, block-walked, IsTaskOf, task-scope, task-walked, finishes-in, finishes-as}
use Rattle.dc_walk.proofs.iteration.perform_one.Goals as goal

pub perform_iteration-requires-clause-walked : goal.perform_iteration-requires-clause-walked
perform_iteration-requires-clause-walked c =
    let symbols = c.args.symbols.now in
    let head = statement c.args.head.now in
    let block = items c.args.body.now in
    let ranging = index_ranging c.first_index-index.result.now in
    let task : Task = record { standing = c.block_standing.result; numbering = c.args.numbering; body = c.args.body; turns = c.args.turns } in
    let text : c.as_bytes.result.now ≡ ranging.name = search rules in
    let kind : c.index_kind-kind.result ≡ kind_of_index symbols ranging.name = c.index_kind-kind.ensures ∙ ap (kind_of_index symbols) text in
    let made : c.as_slice.result.now ≡ record { name = ranging.name; kind = c.index_kind-kind.result } ∷ [] = search rules in
    let of : IsTaskOf task symbols ranging block = record {
      names = c.block_standing.ensures.symbols;
      unit = c.block_standing.ensures.unit;
      indexes = c.block_standing.ensures.indexes ∙ made ∙ ap (λ (k : Kind). record { name = ranging.name; kind = k } ∷ []) kind;
      numbers = c.requires.numbers;
      body = refl;
    } in
    task-walked task symbols ranging block of (block-walked symbols head block c.requires.built ranging c.first_index-index.ensures)

pub returns : goal.returns
returns c = λ number.
    let symbols = c.args.symbols.now in
    let head = statement c.args.head.now in
    let block = items c.args.body.now in
    let ranging = index_ranging c.first_index-index.result.now in
    let task : Task = record { standing = c.block_standing.result; numbering = c.args.numbering; body = c.args.body; turns = c.args.turns } in
    let text : c.as_bytes.result.now ≡ ranging.name = search rules in
    let kind : c.index_kind-kind.result ≡ kind_of_index symbols ranging.name = c.index_kind-kind.ensures ∙ ap (kind_of_index symbols) text in
    let made : c.as_slice.result.now ≡ record { name = ranging.name; kind = c.index_kind-kind.result } ∷ [] = search rules in
    let of : IsTaskOf task symbols ranging block = record {
      names = c.block_standing.ensures.symbols;
      unit = c.block_standing.ensures.unit;
      indexes = c.block_standing.ensures.indexes ∙ made ∙ ap (λ (k : Kind). record { name = ranging.name; kind = k } ∷ []) kind;
      numbers = c.requires.numbers;
      body = refl;
    } in
    let same = ap (index_scope symbols) (index-named symbols head block c.requires.built ranging c.first_index-index.ensures) ∙ sym (task-scope task symbols ranging block of) in
    let told = to_z-of_z w64 c.args.value (search rules) in
    finishes-in (ap (λ (z : ℤ). (Some z ∷ []) ∷ []) told) (finishes-as (λ call. ap (λ (s : Scope). exec_all s call number block) same) (c.perform_iteration.ensures number))
