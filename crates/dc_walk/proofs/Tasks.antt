-- The index of a loop that can be run, and the task of judging the loop.
use Rattle.std.proofs.Common.{◌≡◌, ◌≤◌, ℕ, Bool, true, List, [], ◌∷◌, length, map, sym, ap, subst, ◌∙◌, arith}
use Rattle.std.specs.Prelude.{Result}
use Rattle.dc_code.specs.Loops.{Loop}
use Rattle.dc_code.specs.Troubles.{Slots}
use Rattle.dc_entities.specs.Found.{IsNamed}
use Rattle.dc_entities.specs.Numbering.{numbers_of}
use Rattle.dc_plain.specs.Views.{View}
use Rattle.dc_sorts.specs.declared.standing.IndexName.{IndexName}
use Rattle.dc_sorts.specs.Standing.{standing_of, scope_at, index_entity, unit_scope}
use Rattle.dc_tree.specs.declared.symbols.Symbol.{Symbol}
use Rattle.dc_tree.specs.Blocks.{Items, items}
use Rattle.dc_form.specs.BuiltPrograms.{all_spare, are_built_symbols, is_built_loop}
use Rattle.dc_tree.specs.Entities.{Scope, main_scope, with_names}
use Rattle.dc_tree.specs.Statements.{Ranging, Statement}
use Rattle.dc_meaning.specs.declared.stop.Stop.{Stop}
use Rattle.dc_walk.specs.declared.task.Task.{Task}
use Rattle.dc_meaning.specs.Acts.{Act}
use Rattle.dc_meaning.specs.Looping.{index_name, first_index}
use Rattle.dc_walk.specs.Judging.{IsRunBy, IsTask}
use Rattle.dc_meaning.specs.Values.{Callee}
use Rattle.dc_walk.specs.Visiting.{IsVisitable}
use Rattle.dc_meaning.specs.Actions.{Flow}
use Rattle.dc_meaning.specs.WalkScope.{index_names, kind_of_index, index_scope}
use Rattle.dc_meaning.proofs.Walking.{walks-as}
use Rattle.dc_walk.specs.Flows.{Finishes}
use Rattle.dc_walk.specs.Walked.{is_walked_block}
use Rattle.dc_walk.proofs.Walkable.{built-walked}
use Rattle.dc_meaning.proofs.Looping.{BuiltLoop, built-loop}

-- ---- the index

module _ (symbols : List Symbol) (head : Statement) (block : Items) (built : is_built_loop (main_scope symbols) head block ≡ true) (ranging : Ranging) (first : first_index head ranging) where
  here : BuiltLoop (main_scope symbols) head block
  here = built-loop (main_scope symbols) head block built

  same : here.ranging ≡ ranging
  same = subst (λ (s : Statement). first_index s ranging) here.is first

  pub index-named : index_name head ≡ ranging.name
  index-named = ap index_name here.is ∙ ap (λ (r : Ranging). r.name) same

  pub block-walked : (scope : Scope) → is_walked_block scope (ranging.name ∷ []) block ≡ true
  block-walked scope = built-walked scope ranging.name block here.block (ap (λ (r : Ranging). all_spare r.name block) (sym same) ∙ here.spared)

-- ---- the task

-- The task is of a block, with the index of a header among the names of a program.
pub record IsTaskOf (task : Task) (symbols : List Symbol) (ranging : Ranging) (block : Items) : Type 0 where
  pub names : task.standing.symbols.now ≡ symbols
  pub unit : task.standing.unit ≡ 0
  pub indexes : task.standing.indexes.now ≡ record { name = ranging.name; kind = kind_of_index symbols ranging.name } ∷ []
  pub numbers : task.numbering.now ≡ numbers_of symbols
  pub body : items task.body.now ≡ block

module _ (task : Task) (symbols : List Symbol) (ranging : Ranging) (block : Items) (of : IsTaskOf task symbols ranging block) where
  -- what the names of the block stand for
  pub task-scope : scope_at (standing_of task.standing) ≡ index_scope symbols ranging.name
  task-scope = λ i. with_names (map index_entity (of.indexes i)) (length (of.indexes i)) (unit_scope (of.names i) (of.unit i))

  pub task-named : are_built_symbols symbols ≡ true → IsNamed task.standing task.numbering.now
  task-named built = record {
    symbols = ap are_built_symbols of.names ∙ built;
    numbers = of.numbers ∙ ap numbers_of (sym of.names);
    unit = of.unit;
    one = one;
  }
    where
      counted : length task.standing.indexes.now ≡ 1
      counted = ap length of.indexes

      one : length task.standing.indexes.now ≤ 1
      one = omega (arith, counted)

  abbrev pub walked-with : Scope → List IndexName → Items → Bool
  walked-with scope indexes body = is_walked_block scope (map (λ (index : IndexName). index.name) indexes) body

  pub task-walked : ((scope : Scope) → is_walked_block scope (ranging.name ∷ []) block ≡ true)
      → is_walked_block (scope_at (standing_of task.standing)) (index_names task.standing) (items task.body.now) ≡ true
  task-walked walked =
      (λ i. walked-with (scope_at (standing_of task.standing)) (of.indexes i) (of.body i)) ∙ walked (scope_at (standing_of task.standing))

-- The task of a loop that can be visited.
pub task-is : (parts : Loop) (symbols : List Symbol) (turns line : ℕ) (head : Statement) (block : Items) (ranging : Ranging) (task : Task) → IsVisitable parts symbols turns line head block
    → first_index head ranging → IsTaskOf task symbols ranging block → task.turns ≡ turns → IsTask parts task
task-is parts symbols turns line head block ranging task loop first of given =
    let scope = task-scope task symbols ranging block of ∙ ap (index_scope symbols) (sym (index-named symbols head block loop.built ranging first)) in
    record {
      named = task-named task symbols ranging block of loop.names;
      walked = task-walked task symbols ranging block of (block-walked symbols head block loop.built ranging first);
      run =
          subst (λ (t : ℕ). IsRunBy parts t (scope_at (standing_of task.standing)) (items task.body.now)) (sym given)
          (subst (λ (s : Scope). IsRunBy parts turns s (items task.body.now)) (sym scope) (subst (IsRunBy parts turns (index_scope symbols (index_name head))) (sym of.body) loop.run));
      plainly = loop.plainly;
    }

-- ---- the entities of an iteration

-- a block in entities that are others
pub finishes-in : {own other : Slots} {turns : ℕ} {before after : View} {act : Callee → Act Flow} {r : Result (Unit {0}) Stop} → own ≡ other → Finishes own turns before act after r
    → Finishes other turns before act after r
finishes-in {turns = turns} {before = before} {after = after} {act = act} {r = r} same finishes = subst (λ (o : Slots). Finishes o turns before act after r) same finishes

-- and with what it does told otherwise
pub finishes-as : {own : Slots} {turns : ℕ} {before after : View} {act other : Callee → Act Flow} {r : Result (Unit {0}) Stop} → ((call : Callee) → act call ≡ other call)
    → Finishes own turns before other after r → Finishes own turns before act after r
finishes-as same finishes = record { flow = finishes.flow; left = finishes.left; walks = walks-as same finishes.walks }
