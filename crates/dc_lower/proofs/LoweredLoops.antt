-- The code of a loop that is run today, and what loops add one after the other.
use Rattle.std.proofs.Common.{◌≡◌, ℕ, suc, ◌+◌, ◌<◌, true, false, ◌&&◌, List, [], ◌∷◌, ◌++◌, length, map, drop, get_or, drop-cons, None, refl, sym, ap, ap₂, subst, ◌∙◌, append_assoc, append-nil, length-append, arith}
use Rattle.std.proofs.lemmas.Grind.{flat_map-append}
use Rattle.dc_int.specs.declared.kind.Kind.{Kind}
use Rattle.dc_int.specs.declared.variable.Locality.{Locality}
use Rattle.dc_int.specs.declared.variable.Shape.{Shape}
use Rattle.dc_code.specs.declared.instr.Instr.{Instr}
use Rattle.dc_code.specs.declared.instr.What.{What}
use Rattle.dc_code.specs.declared.plan.ConstructCode.{ConstructCode}
use Rattle.dc_code.specs.declared.plan.Group.{Group}
use Rattle.dc_code.specs.declared.plan.Plan.{Plan}
use Rattle.dc_tree.specs.declared.program.Node.{Node}
use Rattle.dc_tree.specs.declared.symbols.Symbol.{Symbol}
use Rattle.dc_tree.specs.Blocks.{Line, Item, Items, and_then, item, items_from}
use Rattle.dc_tree.specs.Entities.{Scope, main_scope, with_names}
use Rattle.dc_tree.specs.Statements.{Name, Ranging, Statement}
use Rattle.dc_sorts.specs.declared.standing.IndexName.{IndexName}
use Rattle.dc_sorts.specs.Standing.{index_entity}
use Rattle.dc_meaning.specs.Looping.{index_name, first_index}
use Rattle.dc_meaning.specs.Concurrent.{Outside, Concurrent, Surroundings, locality_of, block_scope}
use Rattle.dc_meaning.specs.WalkScope.{kind_of_index, index_scope}
use Rattle.dc_meaning.proofs.Gathering.{next-is}
use Rattle.dc_meaning.proofs.Looping.{BuiltLoop, concurrent-with, one-loop, scope-is}
use Rattle.dc_lower.specs.declared.program.Lists.{Lists}
use Rattle.dc_actions.specs.Deeds.{lined}
use Rattle.dc_lower.specs.Blocks.{part_code, groups_of_block}
use Rattle.dc_actions.specs.Limits.{is_held_index, is_held_step, limits_code}
use Rattle.dc_lower.specs.Lowered.{shape_of, header_code, body_code, loop_code, loops_code, no_slots, index_group, body_plan, plans_of_loops, construct_at, constructs_from}
use Rattle.dc_lower.specs.Variables.{outsides_of, shapes_of}
use Rattle.dc_lower.specs.Wholes.{within_of, AddsLoops, loops_at, loops_behind, loop_at, plain_localities}
use Rattle.dc_lower.proofs.FittingLists.{as-many-constructs}

-- ---- localities

abbrev no_shape : Shape
no_shape = record { kind = Kind.K4; logical = false; elements = 0 }

pub plain-next : (shapes : List Shape) (at : ℕ) → at < length shapes → plain_localities (drop at shapes) ≡ Locality.Plain ∷ plain_localities (drop (at + 1) shapes)
plain-next shapes at below =
    let next : suc at ≡ at + 1 = omega arith in
    ap plain_localities (drop-cons shapes at no_shape below) ∙ ap (λ k. Locality.Plain ∷ plain_localities (drop k shapes)) next

plain-is : (variables : List Outside) → plain_localities (map shape_of variables) ≡ map (λ (variable : Outside). locality_of [] variable.name) variables
plain-is [] = refl
plain-is (first ∷ rest) = ap (λ (l : List Locality). Locality.Plain ∷ l) (plain-is rest)

-- ---- one loop

pub index-is : (scope : Scope) (says : Statement) (body : Items) (built : BuiltLoop scope says body) (asked : Ranging) → first_index says asked → built.ranging ≡ asked
index-is scope says body built asked first = subst (λ (s : Statement). first_index s asked) built.is first

pub index-held : (scope : Scope) (says : Statement) (body : Items) (built : BuiltLoop scope says body) (asked : Ranging) → built.ranging ≡ asked → is_held_index asked ≡ true
index-held scope says body built asked is =
    ap is_held_index (sym is) ∙ ap₂ (λ a b. a && b) built.first (ap₂ (λ a b. a && b) built.last (ap is_held_step built.step))

pub inner-scope : (symbols : List Symbol) (indexes : List IndexName) (name : Name) (kind : Kind) → indexes ≡ record { name = name; kind = kind } ∷ [] → kind ≡ kind_of_index symbols name
    → with_names (map index_entity indexes) (length indexes) (main_scope symbols) ≡ index_scope symbols name
inner-scope symbols indexes name kind is kinds =
    ap (λ (l : List IndexName). with_names (map index_entity l) (length l) (main_scope symbols)) is
    ∙ ap (λ (k : Kind). with_names (map index_entity (record { name = name; kind = k } ∷ [])) 1 (main_scope symbols)) kinds

module _ (symbols : List Symbol) (number : ℕ) (head : Line) (body : Items) (built : BuiltLoop (main_scope symbols) head.says body) where
  abbrev pub this : Concurrent
  this = concurrent-with (main_scope symbols) number head body built.ranging

  abbrev pub its-kind : Kind
  its-kind = kind_of_index symbols built.ranging.name

  abbrev pub its-scope : Scope
  its-scope = block_scope (within_of symbols) this

  pub header-is : (kind : Kind) (ranging : Ranging) (scope : Scope) → kind ≡ its-kind → built.ranging ≡ ranging → scope ≡ main_scope symbols
      → lined head.line (limits_code scope kind ranging ++ What.End ∷ []) ≡ header_code this
  header-is kind ranging scope k r s =
      ap (λ (x : Scope). lined head.line (limits_code x kind ranging ++ What.End ∷ [])) s
      ∙ ap₂ (λ (x : Kind) (y : Ranging). lined head.line (limits_code (main_scope symbols) x y ++ What.End ∷ [])) k (sym r)
      ∙ ap (λ (l : List What). lined head.line (l ++ What.End ∷ [])) (sym (append-nil (limits_code (main_scope symbols) its-kind built.ranging)))

  pub block-scope-is : (scope : Scope) → scope ≡ index_scope symbols built.ranging.name → scope ≡ its-scope
  block-scope-is scope s =
      s ∙ ap (λ (x : Statement). index_scope symbols (index_name x)) (sym built.is) ∙ sym (scope-is (within_of symbols) symbols number head body built)

  pub body-is : (scope : Scope) → scope ≡ its-scope → part_code scope 0 1 0 body head.line ≡ body_code (within_of symbols) this
  body-is scope s =
      ap (λ (x : Scope). part_code x 0 1 0 body head.line) s
      ∙ ap (λ n. part_code its-scope 0 n 0 body head.line) (sym (ap (λ (x : Scope). x.groups) (scope-is (within_of symbols) symbols number head body built)))

  pub plan-is : (groups : List Group) (kind : Kind) (scope : Scope) → kind ≡ its-kind → scope ≡ its-scope → groups ≡ (index_group kind ∷ []) ++ groups_of_block scope body
      → record { dummies = []; groups = groups } ≡ body_plan (within_of symbols) this
  plan-is groups kind scope k s is =
      ap (λ (g : List Group). record { dummies = []; groups = g }) (is ∙ ap₂ (λ (x : Kind) (y : Scope). (index_group x ∷ []) ++ groups_of_block y body) k s)

  pub construct-is : (kind : Kind) (shapes : List Shape) (at header : ℕ) → kind ≡ its-kind → shapes ≡ shapes_of symbols → header ≡ length (header_code this)
      → record { line = head.line; width = 1; kinds = kind ∷ []; header = at; mask = None; body = at + header; localities = plain_localities shapes } ≡ construct_at (within_of symbols) at this
  construct-is kind shapes at header k s h =
      let plain : plain_localities shapes ≡ map (λ (variable : Outside). locality_of [] variable.name) (outsides_of symbols) = ap plain_localities s ∙ plain-is (outsides_of symbols) in
      (λ i. record { line = head.line; width = 1; kinds = k i ∷ []; header = at; mask = None; body = at + h i; localities = plain i })

  -- What is added for a loop.
  pub loop-added : (before after : Lists) (header instrs : List Instr) (plan : Plan) (construct : ConstructCode) → header ≡ header_code this → instrs ≡ body_code (within_of symbols) this
      → plan ≡ body_plan (within_of symbols) this → construct ≡ construct_at (within_of symbols) (length before.instructions) this → after.instructions ≡ before.instructions ++ (header ++ instrs)
      → after.plans ≡ before.plans ++ (no_slots ∷ plan ∷ []) → after.constructs ≡ before.constructs ++ construct ∷ [] → after.texts ≡ before.texts → after.shapes ≡ before.shapes → after.bounds ≡ before.bounds
      → after.entries ≡ before.entries → AddsLoops symbols before after (loop_at symbols number head body)
  loop-added before after header instrs plan construct h b p k more_instructions more_plans more_constructs texts shapes bounds entries =
      let whole = header_code this ++ body_code (within_of symbols) this in
      let added : AddsLoops symbols before after (this ∷ []) = record {
        instructions =
            more_instructions ∙ ap₂ (λ (x y : List Instr). before.instructions ++ (x ++ y)) h b ∙ ap (λ (x : List Instr). before.instructions ++ x) (sym (append-nil whole));
        plans = more_plans ∙ ap (λ (x : Plan). before.plans ++ (no_slots ∷ x ∷ [])) p;
        constructs = more_constructs ∙ ap (λ (x : ConstructCode). before.constructs ++ x ∷ []) k;
        texts = texts;
        shapes = shapes;
        bounds = bounds;
        entries = entries;
      } in
      subst (λ (loops : List Concurrent). AddsLoops symbols before after loops) (sym (one-loop (within_of symbols) (main_scope symbols) number head body head built)) added

-- ---- one after the other

module _ (within : Surroundings) where
  plans-both : (first second : List Concurrent) → plans_of_loops within (first ++ second) ≡ plans_of_loops within first ++ plans_of_loops within second
  plans-both [] second = refl
  plans-both (found ∷ first) second = ap (λ (l : List Plan). no_slots ∷ body_plan within found ∷ l) (plans-both first second)

  constructs-both : (at : ℕ) (first second : List Concurrent) → constructs_from within at (first ++ second) ≡ constructs_from within at first ++ constructs_from within (at + length (loops_code within first)) second
  constructs-both at [] second = let same : at ≡ at + 0 = omega arith in ap (λ n. constructs_from within n second) same
  constructs-both at (found ∷ first) second =
      let one = loop_code within found in
      let more = loops_code within first in
      let lengths : length (one ++ more) ≡ length one + length more = length-append one more in
      let same : (at + length one) + length more ≡ at + length (one ++ more) = omega (arith, lengths) in
      ap (λ (l : List ConstructCode). construct_at within at found ∷ l)
      (constructs-both (at + length one) first second
      ∙ ap (λ n. constructs_from within (at + length one) first ++ constructs_from within n second) same)

module _ (symbols : List Symbol) where
  adds-both : (before between after : Lists) (first second : List Concurrent) → AddsLoops symbols before between first → AddsLoops symbols between after second → AddsLoops symbols before after (first ++ second)
  adds-both before between after first second one two =
      let within = within_of symbols in
      let lengths : length between.instructions ≡ length before.instructions + length (loops_code within first) =
      ap length one.instructions ∙ length-append before.instructions (loops_code within first) in
      record {
        instructions =
            two.instructions ∙ ap (λ (x : List Instr). x ++ loops_code within second) one.instructions ∙ append_assoc before.instructions (loops_code within first) (loops_code within second)
            ∙ ap (λ (x : List Instr). before.instructions ++ x) (sym (flat_map-append (loop_code within) first second));
        plans =
            two.plans ∙ ap (λ (x : List Plan). x ++ plans_of_loops within second) one.plans ∙ append_assoc before.plans (plans_of_loops within first) (plans_of_loops within second)
            ∙ ap (λ (x : List Plan). before.plans ++ x) (sym (plans-both within first second));
        constructs =
            two.constructs ∙ ap₂ (λ (x : List ConstructCode) n. x ++ constructs_from within n second) one.constructs lengths
            ∙ append_assoc before.constructs (constructs_from within (length before.instructions) first) (constructs_from within (length before.instructions + length (loops_code within first)) second)
            ∙ ap (λ (x : List ConstructCode). before.constructs ++ x) (sym (constructs-both within (length before.instructions) first second));
        texts = two.texts ∙ one.texts;
        shapes = two.shapes ∙ one.shapes;
        bounds = two.bounds ∙ one.bounds;
        entries = two.entries ∙ one.entries;
      }

  -- Behind the loops of an item.
  pub adds-next : (before between after : Lists) (first : Item) (rest : Items) → AddsLoops symbols before between (loops_at symbols (length before.constructs) first)
      → AddsLoops symbols between after (loops_behind symbols (length between.constructs) rest) → AddsLoops symbols before after (loops_behind symbols (length before.constructs) (and_then first rest))
  adds-next before between after first rest one two =
      let here = loops_at symbols (length before.constructs) first in
      let count : length between.constructs ≡ length before.constructs + length here =
      ap length one.constructs ∙ length-append before.constructs (constructs_from (within_of symbols) (length before.instructions) here)
      ∙ ap (λ n. length before.constructs + n) (as-many-constructs (within_of symbols) (length before.instructions) here) in
      adds-both before between after here (loops_behind symbols (length before.constructs + length here) rest) one
      (subst (λ n. AddsLoops symbols between after (loops_behind symbols n rest)) count two)

  pub adds-none : (lists : Lists) → AddsLoops symbols lists lists []
  adds-none lists = record {
    instructions = sym (append-nil lists.instructions);
    plans = sym (append-nil lists.plans);
    constructs = sym (append-nil lists.constructs);
    texts = refl;
    shapes = refl;
    bounds = refl;
    entries = refl;
  }

-- The item at a place, before the others.
pub items-next : (nodes : List Node) (at : ℕ) (node : Node) → at < length nodes → node ≡ get_or nodes at node
    → items_from (map item (drop at nodes)) ≡ and_then (item node) (items_from (map item (drop (at + 1) nodes)))
items-next nodes at node below is = ap (λ (l : List Node). items_from (map item l)) (next-is nodes at node below is)
