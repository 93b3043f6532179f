-- The lists of the code of a program fit together, and have no more elements than a store.
use Rattle.std.proofs.Common.{◌≡◌, ◌≤◌, ℕ, suc, ◌+◌, Bool, true, List, [], ◌∷◌, ◌++◌, length, map, refl, sym, ap, ◌∙◌, subst, arith}
use Rattle.std.specs.Prelude.{pos, flat_map}
use Rattle.std.specs.List.{list_all}
use Rattle.std.proofs.lemmas.Bool.{false≢true, le-leb, eqb-true, eq-eqb}
use Rattle.dc_int.specs.declared.variable.Locality.{Locality}
use Rattle.dc_int.specs.declared.variable.Shape.{Shape}
use Rattle.dc_int.specs.Sorts.{Sort}
use Rattle.dc_int.specs.Store.{Bounds, elements_in}
use Rattle.dc_code.specs.declared.plan.Group.{Group}
use Rattle.dc_code.specs.Codes.{is_small, starts_of_loop}
use Rattle.dc_code.specs.CodeForms.{locality_in}
use Rattle.dc_code.specs.WellFormed.{is_open, local_groups, bounds_fit, construct_fits}
use Rattle.dc_tree.specs.declared.symbols.Role as roles
use Rattle.dc_tree.specs.declared.symbols.Symbol.{Symbol}
use Rattle.dc_tree.specs.Blocks.{Items, Source, plain, none, and_then}
use Rattle.dc_form.specs.BuiltPrograms.{elements_of_all}
use Rattle.dc_tree.specs.Entities.{Entity, outside, Scope, entity, main_scope}
use Rattle.dc_tree.specs.Statements.{Name, Deed, fill, Statement, act}
use Rattle.dc_tree.specs.Typing.{sort_of_entity}
use Rattle.dc_meaning.specs.Concurrent.{Outside, Concurrent, Surroundings, locality_of}
use Rattle.dc_meaning.specs.Execution.{loops_in_all}
use Rattle.dc_meaning.specs.Programs.{outsides_from, surroundings, program_loops}
use Rattle.dc_meaning.proofs.ProgramLoops.{built-source}
use Rattle.dc_actions.specs.Assigning.{kept_group, all_usable, takes_list}
use Rattle.dc_actions.specs.Deeds.{groups_of_deed, deed_is_lowered}
use Rattle.dc_lower.specs.Blocks.{groups_of_says, groups_of_block, says_is_lowered, item_is_lowered, block_is_lowered}
use Rattle.dc_lower.specs.Lowerable.{IsLowerable}
use Rattle.dc_lower.specs.Lowered.{shape_of, loop_code, plans_of_loops, construct_at, constructs_from, main_code, lowered}
use Rattle.dc_actions.proofs.Facts.{both-hold, both-true}
use Rattle.dc_actions.proofs.RunsOfStatements.{HoldsNames}
use Rattle.dc_lower.proofs.SimpleLoops.{AreSimple, all-counted}
use Rattle.std.proofs.lemmas.List.{length-map}
use Rattle.dc_actions.proofs.Subscripts.{kept-bounds, counted_elements}
use Rattle.dc_lower.proofs.LoopShapes.{all-plain, plain_ones}

-- ---- outside variables

pub bounds-fit : (variables : List Outside) → bounds_fit (map shape_of variables) (map (λ (variable : Outside). variable.bounds) variables) ≡ true
bounds-fit [] = refl
bounds-fit (variable ∷ rest) = both-hold (eq-eqb (elements_in variable.bounds) (elements_in variable.bounds) refl) (bounds-fit rest)

small : (bounds : Bounds) → elements_in bounds ≤ 4194304 → is_small bounds ≡ true
small bounds few = le-leb (elements_in bounds) 4194304 few

small-by-role : (number scope : ℕ) (name : Name) (role : roles.Role) (rest : List Symbol)
    → elements_of_all (record { scope = scope; name = name; role = role } ∷ rest) ≤ 4194304
    → (elements_of_all rest ≤ 4194304 → (from : ℕ) → list_all is_small (map (λ (variable : Outside). variable.bounds) (outsides_from from rest)) ≡ true)
    → list_all is_small (map (λ (variable : Outside). variable.bounds) (outsides_from number (record { scope = scope; name = name; role = role } ∷ rest))) ≡ true
small-by-role number scope name (roles.Role.Variable flag kind bounds initial) rest few others =
    both-hold (small bounds (omega (arith, few))) (others (omega (arith, few)) (suc number))
small-by-role number scope name role rest few others = others (omega (arith, few)) number

pub bounds-small : (symbols : List Symbol) → elements_of_all symbols ≤ 4194304 → (from : ℕ)
    → list_all is_small (map (λ (variable : Outside). variable.bounds) (outsides_from from symbols)) ≡ true
bounds-small [] few from = refl
bounds-small (symbol ∷ rest) few from = small-by-role from symbol.scope symbol.name symbol.role rest few (bounds-small rest)

-- ---- groups

abbrev small_group : Group → Bool
small_group group = is_small group.bounds

pub all-both : {A : Type 0} (test : A → Bool) (first second : List A) → list_all test first ≡ true → list_all test second ≡ true → list_all test (first ++ second) ≡ true
all-both test [] second a b = b
all-both test (x ∷ first) second a b = both-hold (both-true a).0 (all-both test first second (both-true a).1 b)

kept-small : (sort : Sort) (count : ℕ) → count ≤ 4194304 → small_group (kept_group sort count) ≡ true
kept-small sort count few = ap is_small (kept-bounds sort count) ∙ small ((pos 1, pos count) ∷ []) (omega (arith, counted_elements count, few))

list-few : (scope : Scope) → HoldsNames scope → (text : Name) (found : Entity) (count : ℕ) → entity scope text ≡ found → takes_list found count ≡ true → count ≤ 4194304
list-few scope holds text (outside variable sort bounds) count e so =
    let few : elements_in bounds ≤ 4194304 = (holds.outer text variable sort bounds e).1 in
    let same : count ≡ elements_in bounds = eqb-true count (elements_in bounds) so in
    omega (arith, few, same)
list-few scope holds text found count e so = absurd (false≢true so)

deed-small : (scope : Scope) → HoldsNames scope → (deed : Deed) → deed_is_lowered scope deed ≡ true → list_all small_group (groups_of_deed scope deed) ≡ true
deed-small scope holds (fill text trees) so =
    both-hold (kept-small (sort_of_entity (entity scope text)) (length trees) (list-few scope holds text (entity scope text) (length trees) refl (both-true {a = all_usable scope trees} so).1)) refl
deed-small scope holds deed so = refl

says-small : (scope : Scope) → HoldsNames scope → (says : Statement) → says_is_lowered scope says ≡ true → list_all small_group (groups_of_says scope says) ≡ true
says-small scope holds (act deed) so = deed-small scope holds deed so
says-small scope holds says so = refl

pub groups-small : (scope : Scope) → HoldsNames scope → (loops : Bool) (block : Items) → block_is_lowered scope loops block ≡ true → list_all (λ (group : Group). is_small group.bounds) (groups_of_block scope block) ≡ true
groups-small scope holds loops none so = refl
groups-small scope holds loops (and_then (plain line) rest) so =
    all-both small_group (groups_of_says scope line.says) (groups_of_block scope rest) (says-small scope holds line.says (both-true so).0) (groups-small scope holds loops rest (both-true so).1)
groups-small scope holds loops (and_then other rest) so = groups-small scope holds loops rest (both-true {a = item_is_lowered scope loops other} so).1

-- ---- loops

pub body-changes : (within : Surroundings) (at : ℕ) (loop : Concurrent) → loop.locality ≡ [] → (variable : ℕ) → is_open (locality_in (construct_at within at loop) variable) ≡ true
body-changes within at loop e variable =
    ap is_open (all-plain (construct_at within at loop) within.outsides (ap (λ lists. map (λ (found : Outside). locality_of lists found.name) within.outsides) e) variable)

pub no-local-groups : (variables : List Outside) (shapes : List Shape) (bounds : List Bounds) → local_groups (plain_ones variables) shapes bounds ≡ []
no-local-groups [] shapes bounds = refl
no-local-groups (variable ∷ rest) [] bounds = refl
no-local-groups (variable ∷ rest) (shape ∷ shapes) [] = refl
no-local-groups (variable ∷ rest) (shape ∷ shapes) (first ∷ bounds) = no-local-groups rest shapes bounds

pub as-many-plans : (within : Surroundings) (at : ℕ) (loops : List Concurrent) → length (plans_of_loops within loops) ≡ length (flat_map starts_of_loop (constructs_from within at loops))
as-many-plans within at [] = refl
as-many-plans within at (loop ∷ loops) = ap (λ n. suc (suc n)) (as-many-plans within (at + length (loop_code within loop)) loops)

pub as-many-constructs : (within : Surroundings) (at : ℕ) (loops : List Concurrent) → length (constructs_from within at loops) ≡ length loops
as-many-constructs within at [] = refl
as-many-constructs within at (loop ∷ loops) = ap suc (as-many-constructs within (at + length (loop_code within loop)) loops)

-- The code has as many loops as its program, for however many turns.
pub as-many-loops : (symbols : List Symbol) (source : Source) → IsLowerable symbols source → (turns : ℕ) → length (lowered symbols source).constructs ≡ length (program_loops symbols source turns)
as-many-loops symbols source is turns =
    as-many-constructs (surroundings symbols source 0) (length (main_code symbols source)) (program_loops symbols source 0) ∙ sym (counted 0) ∙ counted turns
  where
    counted : (turns : ℕ) → loops_in_all source.body ≡ length (program_loops symbols source turns)
    counted turns = all-counted (surroundings symbols source turns) (main_scope symbols) 0 source.body (built-source symbols source is.built).body

pub constructs-fit : (within : Surroundings) (scope : Scope) (at : ℕ) (loops : List Concurrent) → AreSimple scope loops
    → list_all (construct_fits (length (map shape_of within.outsides))) (constructs_from within at loops) ≡ true
constructs-fit within scope at [] are = refl
constructs-fit within scope at (loop ∷ loops) are =
    both-hold
    (subst (λ found. construct_fits (length (map shape_of within.outsides)) (construct_at within at found) ≡ true) (are.0).same
    (eq-eqb (length (plain_ones within.outsides)) (length (map shape_of within.outsides))
    (length-map within.outsides (λ variable. Locality.Plain) ∙ sym (length-map within.outsides shape_of))))
    (constructs-fit within scope (at + length (loop_code within loop)) loops are.1)
