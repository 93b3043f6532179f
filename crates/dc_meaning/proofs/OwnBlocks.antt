-- Assignments, output and blocks access elements that they may, and leave them with values as their variables take
-- them.
use Rattle.std.proofs.Common.{◌≡◌, ◌+◌, ℕ, Bool, true, false, List, [], ◌∷◌, map, zip, Option, Some, None}
use Rattle.std.proofs.lemmas.Bool.{and_parts}
use Rattle.std.specs.Prelude.{ℤ, if◌then◌else◌}
use Rattle.dc_int.specs.declared.access.ElementId.{ElementId}
use Rattle.dc_int.specs.Sorts.{Sort, fitted}
use Rattle.dc_code.specs.declared.frame.Place.{Place}
use Rattle.dc_code.specs.Troubles.{Slots, write_line, enter_loop}
use Rattle.dc_tree.specs.Blocks as blocks
use Rattle.dc_tree.specs.Blocks.{Items, none, and_then, plain, branch, select}
use Rattle.dc_form.specs.BuiltPrograms.{is_built_assignment, is_built_deed, is_built_inside, is_built_block, is_built_line, is_built_loop, are_built_items}
use Rattle.dc_tree.specs.Entities.{Entity, outside, slots, dummy, constant, function, subroutine, reduction, nothing, Scope, entity}
use Rattle.dc_tree.specs.Statements as statements
use Rattle.dc_tree.specs.Statements.{Name, Target, Deed, Statement}
use Rattle.dc_tree.specs.Syntax.{Tree, number, truth, chars, name, refer, paren, unary, binary}
use Rattle.dc_tree.specs.Typing.{sort_of, sort_of_entity}
use Rattle.dc_meaning.specs.Acts as acts
use Rattle.dc_meaning.specs.Acts.{Act, ◌>>=◌, just}
use Rattle.dc_meaning.specs.Actions as actions
use Rattle.dc_meaning.specs.Actions.{Flow, on, returns, cycles, exits, ◌>>◌, places_of, assignment, filling, is_array, piece, pieces, named_pieces, paused_for, printing}
use Rattle.dc_meaning.specs.Execution.{plain_line, loop_of, concurrent_do, loops_in, exec_all, behind_item}
use Rattle.dc_meaning.specs.Places.{whole_values}
use Rattle.dc_meaning.specs.Storing.{stored, assigned}
use Rattle.dc_meaning.specs.Values.{Callee, value}
use Rattle.dc_meaning.proofs.Doing.{May, Any}
use Rattle.dc_meaning.proofs.Own.{Own, OwnPlace, Each, any-each, zip-each, OwnEntity, Takes, OwnTarget, target-read, both-own, just-own, each-own, store-own, element-own, whole-own, whole_values-own}
use Rattle.dc_meaning.proofs.OwnValues.{value-own, all_values-own}

-- An assignment accesses variables that it may, and leaves them with values as they take them.
module _ (may : May) (scope : Scope) (own : (text : Name) → OwnTarget may (entity scope text)) (call : Callee) where
  reads-own : (text : Name) → OwnEntity may.access (entity scope text)
  reads-own text = target-read may (entity scope text) (own text)

  pub places-own : (P : ElementId → Type 0) (line : ℕ) (e : Entity) (subscripts : Option (List Tree)) → OwnEntity P e → Own may (Each (OwnPlace P)) (places_of scope call line e subscripts)
  places-own P line e None own = whole-own may P line e own
  places-own P line e (Some trees) own =
      both-own may {Q = Any} (all_values-own may scope reads-own call line trees)
      (λ given any. both-own may {Q = OwnPlace P} (element-own may P line e given own) (λ place ready. just-own may (place ∷ []) (ready, tt)))

  taken : (sort : Sort) (given : ℤ) (place : Place) → OwnPlace (Takes may sort) place → OwnPlace (λ x. may.access x × may.leave x (Some (fitted sort given))) place
  taken sort given (Place.Outer x) takes = (takes.0, takes.1 given)
  taken sort given (Place.InFrame frame group position) takes = tt

  fit-own : (line : ℕ) (sort : Sort) (given : ℤ) (place : Place) → OwnPlace (Takes may sort) place → Own may Any (acts.store line place (fitted sort given))
  fit-own line sort given place takes = store-own may line place (fitted sort given) (taken sort given place takes)

  pub stored-own : (line : ℕ) (e : Entity) (given : ℤ) (places : List Place) → Each (OwnPlace (Takes may (sort_of_entity e))) places → Own may Any (stored line e given places)
  stored-own line e given places takes =
      both-own may {Q = Each Any} (each-own may {R = Any} (λ place. acts.store line place (fitted (sort_of_entity e) given)) (fit-own line (sort_of_entity e) given) places takes)
      (λ done any. just-own may on tt)

  pub assigned-own : (line : ℕ) (e : Entity) (subscripts : Option (List Tree)) (given : ℤ) → OwnTarget may e → Own may Any (assigned scope call line e subscripts given)
  assigned-own line e subscripts given target =
      both-own may {Q = Each (OwnPlace (Takes may (sort_of_entity e)))} (places-own (Takes may (sort_of_entity e)) line e subscripts target) (stored-own line e given)

  pub assignment-own : (line : ℕ) (target : Target) (t : Tree) (e : Entity) → OwnTarget may e → Own may Any (assignment scope call line target t e)
  assignment-own line target t e own = by e own
    where
      value_first : (e : Entity) → OwnTarget may e → Own may Any (value scope call line t >>= assigned scope call line e target.subscripts)
      value_first e own = both-own may {Q = Any} (value-own may scope reads-own call line t) (λ given any. assigned-own line e target.subscripts given own)

      by : (e : Entity) → OwnTarget may e → Own may Any (assignment scope call line target t e)
      by (outside variable sort bounds) own = value_first (outside variable sort bounds) own
      by (slots group sort bounds) own = value_first (slots group sort bounds) own
      by (constant sort z) own = value_first (constant sort z) own
      by nothing own = value_first nothing own
      by (dummy place sort) own = absurd own
      by (function procedure sort) own = absurd own
      by (subroutine procedure intents) own = absurd own
      by (reduction variable op sort bounds) own = absurd own

  pub filling-own : (line : ℕ) (trees : List Tree) (e : Entity) → OwnTarget may e → Own may Any (filling scope call line trees e)
  filling-own line trees e target =
      let sort = sort_of_entity e in
      both-own may {Q = Any} (all_values-own may scope reads-own call line trees)
      (λ given any. both-own may {Q = Each (OwnPlace (Takes may sort))} (whole-own may (Takes may sort) line e target)
      (λ places takes.
      both-own may {Q = Each Any}
      (each-own may {Q = λ w. OwnPlace (Takes may sort) w.0} {R = Any} (λ w. acts.store line w.0 (fitted sort w.1)) (λ w ready. fit-own line sort w.1 w.0 ready) (zip places given)
      (zip-each (OwnPlace (Takes may sort)) places given takes))
      (λ done any. just-own may on tt)))

  pub act-own : (line : ℕ) (deed : Deed) → is_built_assignment deed ≡ true → Own may Any (actions.act scope call line deed)
  act-own line (statements.assign target t) built = assignment-own line target t (entity scope target.name) (own target.name)
  act-own line (statements.fill text trees) built = filling-own line trees (entity scope text) (own text)
  act-own line deed built = cc

  -- ---- blocks

  line-own : (line : ℕ) (says : Statement) → is_built_inside says ≡ true → Own may Any (plain_line scope call (record { line = line; says = says }))
  line-own line (statements.act deed) built = act-own line deed built
  line-own line says built = cc

  pub behind_item-own : (rest : Act Flow) (flow : Flow) → Own may Any rest → Own may Any (behind_item rest flow)
  behind_item-own rest on own = own
  behind_item-own rest returns own = just-own may returns tt
  behind_item-own rest (cycles label) own = just-own may (cycles label) tt
  behind_item-own rest (exits label) own = just-own may (exits label) tt

  pub block-own : (counted : ℕ) (body : Items) → is_built_block body ≡ true → Own may Any (exec_all scope call counted body)
  block-own counted none built = just-own may on tt
  block-own counted (and_then (plain line) rest) built =
      let both = and_parts (is_built_inside line.says) (is_built_block rest) built in
      both-own may {Q = Any} (line-own line.line line.says both.0) (λ flow any. behind_item-own (exec_all scope call (counted + 0) rest) flow (block-own (counted + 0) rest both.1))
  block-own counted (and_then (branch arms close) rest) built = cc
  block-own counted (and_then (select head arms close) rest) built = cc
  block-own counted (and_then (blocks.loop head body close) rest) built = cc

  -- ---- output

  named_pieces-own : (line : ℕ) (e : Entity) (single : Act ℤ) → OwnEntity may.access e → Own may Any single → Own may Any (named_pieces line e single)
  named_pieces-own line e single own one = by (is_array e)
    where
      by
          : (b : Bool)
          → Own may Any (if b then (whole_values line e >>= (λ given. just (map (piece (sort_of_entity e)) given))) else (single >>= (λ z. just (piece (sort_of_entity e) z ∷ []))))
      by true = both-own may {Q = Any} (whole_values-own may line e own) (λ given any. just-own may _ tt)
      by false = both-own may {Q = Any} one (λ z any. just-own may _ tt)

  pieces-own : (line : ℕ) (t : Tree) → Own may Any (pieces scope call line t)
  pieces-own line t = by t
    where
      single : (t : Tree) → Own may Any (value scope call line t >>= (λ z. just (piece (sort_of scope t) z ∷ [])))
      single t = both-own may {Q = Any} (value-own may scope reads-own call line t) (λ z any. just-own may _ tt)

      by : (t : Tree) → Own may Any (pieces scope call line t)
      by (chars text) = just-own may _ tt
      by (name text) = named_pieces-own line (entity scope text) (value scope call line (name text)) (reads-own text) (value-own may scope reads-own call line (name text))
      by (number digits suffix) = single (number digits suffix)
      by (truth given) = single (truth given)
      by (refer text args) = single (refer text args)
      by (paren inside) = single (paren inside)
      by (unary mark right) = single (unary mark right)
      by (binary mark left right) = single (binary mark left right)

  -- where lines may be written
  module _ (writes : (line : ℕ) (bytes : List ℕ) → may.pause_at (write_line line bytes)) where
    pub printing-own : (line : ℕ) (trees : List Tree) → Own may Any (printing scope call line trees)
    printing-own line trees =
        both-own may {Q = Each Any} (each-own may {Q = Any} {R = Any} (pieces scope call line) (λ t any. pieces-own line t) trees (any-each trees))
        (λ given any. both-own may {Q = Any} {first = paused_for (write_line line _)} (record { holds = λ state. (writes line _, λ told. tt) }) (λ done any. just-own may on tt))

    deed-own : (line : ℕ) (deed : Deed) → is_built_deed deed ≡ true → Own may Any (actions.act scope call line deed)
    deed-own line (statements.print written trees) built = printing-own line trees
    deed-own line (statements.assign target t) built = act-own line (statements.assign target t) built
    deed-own line (statements.fill text trees) built = act-own line (statements.fill text trees) built
    deed-own line deed built = cc

    outer_line-own : (line : ℕ) (says : Statement) → is_built_line says ≡ true → Own may Any (plain_line scope call (record { line = line; says = says }))
    outer_line-own line (statements.act deed) built = deed-own line deed built
    outer_line-own line says built = cc

    -- where loops may be entered
    module _ (enters : (number turns : ℕ) (around : Slots) → may.pause_at (enter_loop number turns around)) where
      concurrent-own : (counted : ℕ) → Own may Any (concurrent_do counted)
      concurrent-own counted = record { holds = λ state. (enters counted _ _, λ told. tt) }

      loop-own : (counted line : ℕ) (says : Statement) (block : Items) (round : Act Flow) → is_built_loop scope says block ≡ true → Own may Any (loop_of scope call counted (record { line = line; says = says }) round)
      loop-own counted line (statements.concurrent label None (ranging ∷ []) None []) block round built = concurrent-own counted
      loop-own counted line says block round built = cc

      -- The block of a main program.
      pub items-own : (counted : ℕ) (items : Items) → are_built_items scope items ≡ true → Own may Any (exec_all scope call counted items)
      items-own counted none built = just-own may on tt
      items-own counted (and_then (plain line) rest) built =
          let both = and_parts (is_built_line line.says) (are_built_items scope rest) built in
          both-own may {Q = Any} (outer_line-own line.line line.says both.0)
          (λ flow any. behind_item-own (exec_all scope call (counted + 0) rest) flow (items-own (counted + 0) rest both.1))
      items-own counted (and_then (blocks.loop head body close) rest) built =
          let both = and_parts (is_built_loop scope head.says body) (are_built_items scope rest) built in
          let later = counted + loops_in (blocks.loop head body close) in
          both-own may {Q = Any} (loop-own counted head.line head.says body (exec_all scope call counted body) both.0)
          (λ flow any. behind_item-own (exec_all scope call later rest) flow (items-own later rest both.1))
      items-own counted (and_then (branch arms close) rest) built = cc
      items-own counted (and_then (select head arms close) rest) built = cc
