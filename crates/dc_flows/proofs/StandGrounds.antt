-- What the instructions of blocks need: names, texts, groups and loops of the code, and places of the loops around.
use Rattle.std.proofs.Common.{◌≡◌, ◌⊎◌, inl, inr, ◌≤◌, ℕ, ◌+◌, Bool, true, false, ◌||◌, cond, List, [], ◌∷◌, ◌++◌, length, map, Option, Some, refl, sym, ap, ◌∙◌, subst, arith}
use Rattle.std.proofs.lemmas.Bool.{false≢true}
use Rattle.dc_code.specs.declared.instr.What.{What}
use Rattle.dc_code.specs.declared.plan.Group.{Group}
use Rattle.dc_code.specs.WellFormed.{main}
use Rattle.dc_tree.specs.Entities.{Scope}
use Rattle.dc_tree.specs.Statements.{Name}
use Rattle.dc_meaning.specs.Execution.{belongs}
use Rattle.dc_actions.proofs.Straight.{can_stand, Ground}
use Rattle.dc_actions.proofs.RunsOfNames.{Fits}
use Rattle.dc_actions.proofs.RunsOfStatements.{Changes, HoldsNames}
use Rattle.dc_actions.proofs.Standing.{Stand, first-stand, second-stand}
use Rattle.dc_flows.specs.Flows.{LoopAround, loop_named}
use Rattle.dc_flows.specs.FlowsLowered.{belongs_to_some}

-- ---- names

-- A ground knows the names of a scope, and their variables can be changed. What stops, writes and enters loops stands
-- in the main program.
pub record Suits (ground : Ground) (scope : Scope) (in_main : Bool) : Type 0 where
  pub fits : Fits ground scope
  pub holds : HoldsNames scope
  pub changeable : Changes ground
  pub is_main : in_main ≡ true → ground.kind ≡ main

-- What can stand in the main program can where this is it.
pub can-main : (ground : Ground) (scope : Scope) (in_main : Bool) → Suits ground scope in_main → (what : What) → can_stand main what ≡ true → in_main ≡ true → can_stand ground.kind what ≡ true
can-main ground scope in_main suits what can e = subst (λ kind. can_stand kind what ≡ true) (sym (suits.is_main e)) can

-- ---- texts, groups and loops

-- A ground has these texts, groups and so many loops, each from a number on.
pub record Rooms (ground : Ground) (next free number : ℕ) (texts : List (List ℕ)) (groups : List Group) (loops : ℕ) : Type 0 where
  pub texts_stand : Stand ground.code.texts next texts
  pub groups_stand : Stand ground.plan.groups free groups
  pub loops_fit : number + loops ≤ length ground.code.constructs

pub rooms-first : {ground : Ground} {next free number : ℕ} (texts others : List (List ℕ)) (groups later : List Group) (loops further : ℕ)
    → Rooms ground next free number (texts ++ others) (groups ++ later) (loops + further) → Rooms ground next free number texts groups loops
rooms-first {ground} {next} {free} {number} texts others groups later loops further rooms =
    let few : number + (loops + further) ≤ length ground.code.constructs = rooms.loops_fit in
    record {
      texts_stand = first-stand ground.code.texts next texts others rooms.texts_stand;
      groups_stand = first-stand ground.plan.groups free groups later rooms.groups_stand;
      loops_fit = omega (arith, few);
    }

pub rooms-second : {ground : Ground} {next free number : ℕ} (texts others : List (List ℕ)) (groups later : List Group) (loops further : ℕ)
    → Rooms ground next free number (texts ++ others) (groups ++ later) (loops + further)
    → Rooms ground (next + length texts) (free + length groups) (number + loops) others later further
rooms-second {ground} {next} {free} {number} texts others groups later loops further rooms =
    let few : number + (loops + further) ≤ length ground.code.constructs = rooms.loops_fit in
    record {
      texts_stand = second-stand ground.code.texts next texts others rooms.texts_stand;
      groups_stand = second-stand ground.plan.groups free groups later rooms.groups_stand;
      loops_fit = omega (arith, few);
    }

-- ---- places of the loops around

-- Where a round of a loop around ends, or what is behind one.
abbrev pub IsAround : List LoopAround → ℕ → Type 0
IsAround [] place = ⊥
IsAround (nearest ∷ others) place = (place ≡ nearest.next) ⊎ ((place ≡ nearest.behind) ⊎ IsAround others place)

pub record IsFound (around : List LoopAround) (given : Option Name) : Type 0 where
  pub found : LoopAround
  pub is : loop_named around given ≡ Some found
  pub next : IsAround around found.next
  pub behind : IsAround around found.behind

-- What belongs to a loop around is found there.
pub found-around : (around : List LoopAround) (given : Option Name) → belongs_to_some (map (λ (loop : LoopAround). loop.label) around) given ≡ true → IsFound around given
found-around [] given so = absurd (false≢true so)
found-around (nearest ∷ others) given so = by (belongs nearest.label given) refl so (found-around others given)
  where
    labels : List (Option Name)
    labels = map (λ (loop : LoopAround). loop.label) others

    by : (b : Bool) → belongs nearest.label given ≡ b → (b || belongs_to_some labels given) ≡ true → (belongs_to_some labels given ≡ true → IsFound others given) → IsFound (nearest ∷ others) given
    by true e so further = record { found = nearest; is = ap (λ b. cond b (Some nearest) (loop_named others given)) e; next = inl refl; behind = inr (inl refl) }
    by false e so further =
        let far = further so in
        record {
          found = far.found;
          is = ap (λ b. cond b (Some nearest) (loop_named others given)) e ∙ far.is;
          next = inr (inr far.next);
          behind = inr (inr far.behind);
        }
