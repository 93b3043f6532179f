use Rattle.std.proofs.Common.{◌≡◌, ℕ, List, [], ◌∷◌, refl, sym, ap, ◌∙◌, subst, rules}
use Rattle.std.specs.Prelude.{ℤ}
use Rattle.dc_int.specs.declared.kind.Kind.{Kind}
use Rattle.dc_int.specs.Store.{Store}
use Rattle.dc_plain.specs.Views.{View}
use Rattle.dc_tree.specs.declared.symbols.Symbol.{Symbol}
use Rattle.dc_tree.specs.Blocks.{Source, source_of, items, line_of}
use Rattle.dc_tree.specs.Entities.{main_scope}
use Rattle.dc_tree.specs.Statements.{index_ranging}
use Rattle.dc_walk.specs.declared.plain.PlainVerdict.{PlainVerdict}
use Rattle.dc_walk.specs.declared.task.Task.{Task}
use Rattle.dc_meaning.specs.Looping.{nth_loop, has_index}
use Rattle.dc_walk.specs.Judging.{IsTask}
use Rattle.dc_walk.specs.PlainVerdicts.{IsSaid}
use Rattle.dc_walk.specs.Visiting.{loop_parts}
use Rattle.dc_meaning.specs.WalkScope.{kind_of_index}
use Rattle.dc_meaning.proofs.Looping.{block-items, built-loop}
use Rattle.dc_meaning.proofs.ProgramLoops.{loop-built}
use Rattle.dc_walk.proofs.Tasks.{task-is}
use Rattle.dc_walk.proofs.Visitable.{visitable}
use Rattle.dc_walk.proofs.plain.plain_verdict.Goals as goal

-- the task of a loop, and what is said of it, with the names of the task
task-in : (task : Task) (source : Source) (turns number : ℕ) (symbols other : List Symbol) → other ≡ symbols → IsTask (loop_parts symbols source turns number) task
    → IsTask (loop_parts other source turns number) task
task-in task source turns number symbols other same is = subst (λ (s : List Symbol). IsTask (loop_parts s source turns number) task) (sym same) is

said-in : (store : Store) (active : List ℤ) (said : PlainVerdict) (source : Source) (turns number : ℕ) (symbols other : List Symbol) → other ≡ symbols
    → IsSaid (loop_parts other source turns number) store active said → IsSaid (loop_parts symbols source turns number) store active said
said-in store active said source turns number symbols other same is = subst (λ (s : List Symbol). IsSaid (loop_parts s source turns number) store active said) same is

pub first_index-index-requires : goal.first_index-index-requires
first_index-index-requires c =
    let symbols = c.args.symbols.now in
    let body = sym (block-items c.args.program.now.body c.as_slice.result.now c.as_slice.ensures) in
    let head = line_of c.in-Some.found.head.now in
    let block = items c.in-Some.found.body.now in
    let built = loop-built symbols (source_of c.args.program.now) c.requires.form c.args.construct head block (c.in-Some.ensures ∙ ap (nth_loop c.args.construct) body) in
    ap has_index (built-loop (main_scope symbols) head.says block built).is

pub told_of_loop-requires : goal.told_of_loop-requires
told_of_loop-requires c =
    let symbols = c.args.symbols.now in
    let source = source_of c.args.program.now in
    let body = sym (block-items c.args.program.now.body c.as_slice.result.now c.as_slice.ensures) in
    let head = line_of c.in-Some.found.head.now in
    let block = items c.in-Some.found.body.now in
    let loop = visitable symbols source c.args.turns c.args.construct head block c.requires.form (sym (c.in-Some.ensures ∙ ap (nth_loop c.args.construct) body)) in
    let ranging = index_ranging c.first_index-index.result.now in
    let text : c.as_bytes.result.now ≡ ranging.name = search rules in
    let kind : c.index_kind-kind.result ≡ kind_of_index symbols ranging.name = c.index_kind-kind.ensures ∙ ap (kind_of_index symbols) text in
    let made : c.as_slice-in-Some.result.now ≡ record { name = ranging.name; kind = c.index_kind-kind.result } ∷ [] = search rules in (
      task-in _ source c.args.turns c.args.construct symbols c.block_standing.result.symbols.now c.block_standing.ensures.symbols
          (task-is (loop_parts symbols source c.args.turns c.args.construct) symbols c.args.turns head.line head.says block ranging _ loop c.first_index-index.ensures
          (record {
            names = c.block_standing.ensures.symbols;
            unit = c.block_standing.ensures.unit;
            indexes = c.block_standing.ensures.indexes ∙ made ∙ ap (λ (k : Kind). record { name = ranging.name; kind = k } ∷ []) kind;
            numbers = c.in_ok-numbering.ensures;
            body = refl;
          }) refl),
      c.requires.few,
    )

pub returns-in-Some : goal.returns-in-Some
returns-in-Some c =
    let symbols = c.args.symbols.now in
    let source = source_of c.args.program.now in
    let active = c.args.active.now in
    let said = c.in_ok-said-in-Some.said in
    subst (λ (v : View). IsSaid (loop_parts symbols source c.args.turns c.args.construct) v.store active said) c.in_ok-ledger.ensures
    (said-in c.in_ok-ledger.ledger.store active said source c.args.turns c.args.construct symbols c.block_standing.result.symbols.now c.block_standing.ensures.symbols c.in_ok-said-in-Some.ensures)
