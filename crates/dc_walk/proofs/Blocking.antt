-- The statements and constructs of a block, one after the other.
use Rattle.std.proofs.Common.{◌≡◌, ℕ, ◌+◌, ◌<◌, ◌≤◌, true, List, map, length, drop, get_or, refl, sym, ap, ◌∙◌, arith}
use Rattle.std.specs.Prelude.{Result, Ok, Err}
use Rattle.std.proofs.lemmas.Bool.{and_parts}
use Rattle.std.proofs.lemmas.List.{drop_all}
use Rattle.dc_code.specs.Troubles.{Slots}
use Rattle.dc_plain.specs.Views.{View}
use Rattle.dc_tree.specs.declared.program.Node.{Node}
use Rattle.dc_tree.specs.Blocks.{Item, Items, and_then, item, items_from}
use Rattle.dc_tree.specs.Entities.{Scope}
use Rattle.dc_tree.specs.Statements.{Name}
use Rattle.dc_meaning.specs.declared.stop.Stop.{Stop}
use Rattle.dc_meaning.specs.Acts.{◌>>=◌}
use Rattle.dc_meaning.specs.Execution.{loops_in, exec, exec_all, behind_item}
use Rattle.dc_meaning.specs.Values.{Callee}
use Rattle.dc_meaning.proofs.Gathering.{next-is}
use Rattle.dc_walk.specs.declared.flow.Flow as code
use Rattle.dc_walk.specs.Flows.{flow_of, Spends}
use Rattle.dc_walk.specs.Walked.{is_walked, is_walked_block}
use Rattle.dc_walk.proofs.Spending.{spends-as, spends-then, spends-stopped, spends-just}
use Rattle.dc_walk.proofs.Unnumbered.{none-inside}

exec-next : (scope : Scope) (call : Callee) (number : ℕ) (first : Item) (rest : Items) → loops_in first ≡ 0
    → exec_all scope call number (and_then first rest) ≡ (exec scope call number first >>= behind_item (exec_all scope call number rest))
exec-next scope call number first rest few =
    let same : number + loops_in first ≡ number = omega (arith, few) in
    ap (λ n. exec scope call number first >>= behind_item (exec_all scope call n rest)) same

module _ (scope : Scope) (indexes : List Name) (nodes : List Node) (at : ℕ) (node : Node) (below : at < length nodes) (is : node ≡ get_or nodes at node)
    (walked : is_walked_block scope indexes (items_from (map item (drop at nodes))) ≡ true) where
  abbrev others : Items
  others = items_from (map item (drop (at + 1) nodes))

  next-items : items_from (map item (drop at nodes)) ≡ and_then (item node) others
  next-items = ap (λ ns. items_from (map item ns)) (next-is nodes at node below is)

  both-walked : (is_walked scope indexes (item node) ≡ true) × (is_walked_block scope indexes others ≡ true)
  both-walked = and_parts (is_walked scope indexes (item node)) (is_walked_block scope indexes others) (ap (is_walked_block scope indexes) (sym next-items) ∙ walked)

  pub node-walked : is_walked scope indexes (item node) ≡ true
  node-walked = both-walked.0

  pub rest-walked : is_walked_block scope indexes others ≡ true
  rest-walked = both-walked.1

  block-is : (number : ℕ) (call : Callee) → exec_all scope call number (items_from (map item (drop at nodes)))
      ≡ (exec scope call number (item node) >>= behind_item (exec_all scope call number others))
  block-is number call = ap (exec_all scope call number) next-items ∙ exec-next scope call number (item node) others (none-inside scope indexes (item node) node-walked)

  pub block-next : {own : Slots} {turns mid left : ℕ} {before between after : View} {r : Result code.Flow Stop} (number : ℕ)
      → (flow : code.Flow) → flow ≡ code.Flow.On → Spends own turns before (λ call. exec scope call number (item node)) mid between (Ok flow)
      → Spends own mid between (λ call. exec_all scope call number others) left after r
      → Spends own turns before (λ call. exec_all scope call number (items_from (map item (drop at nodes)))) left after r
  block-next number flow on first rest =
      spends-as (block-is number)
      (spends-then (λ call. behind_item (exec_all scope call number others)) first (spends-as (λ call. ap (λ f. behind_item (exec_all scope call number others) (flow_of f)) on) rest))

  pub block-left : {own : Slots} {turns left : ℕ} {before after : View} (number : ℕ) (flow : code.Flow) → (flow ≡ code.Flow.On → ⊥)
      → Spends own turns before (λ call. exec scope call number (item node)) left after (Ok flow)
      → Spends own turns before (λ call. exec_all scope call number (items_from (map item (drop at nodes)))) left after (Ok flow)
  block-left number code.Flow.On elsewhere first = absurd (elsewhere refl)
  block-left number (code.Flow.Cycle label) elsewhere first =
      spends-as (block-is number) (spends-then (λ call. behind_item (exec_all scope call number others)) first (spends-just (code.Flow.Cycle label) (λ call. refl)))
  block-left number (code.Flow.Exit label) elsewhere first =
      spends-as (block-is number) (spends-then (λ call. behind_item (exec_all scope call number others)) first (spends-just (code.Flow.Exit label) (λ call. refl)))

  pub block-bad : {own : Slots} {turns mid left : ℕ} {before after : View} {e : Stop} (number : ℕ)
      → Spends own turns before (λ call. exec scope call number (item node)) mid after (Err e)
      → Spends own turns before (λ call. exec_all scope call number (items_from (map item (drop at nodes)))) left after (Err e)
  block-bad number first = spends-as (block-is number) (spends-stopped (λ call. behind_item (exec_all scope call number others)) first)

pub block-none : {own : Slots} {turns : ℕ} {view : View} (scope : Scope) (number : ℕ) (nodes : List Node) (at : ℕ) → length nodes ≤ at
    → Spends own turns view (λ call. exec_all scope call number (items_from (map item (drop at nodes)))) turns view (Ok code.Flow.On)
block-none scope number nodes at past = spends-just code.Flow.On (λ call. ap (λ ns. exec_all scope call number (items_from (map item ns))) (drop_all at nodes past))
