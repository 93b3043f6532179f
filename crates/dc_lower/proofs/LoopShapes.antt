-- A loop without localities, a mask or inner loops: what its code and its meaning have of these.
use Rattle.std.proofs.Common.{◌≡◌, ℕ, zero, suc, ◌+◌, Bool, true, false, List, [], ◌∷◌, ◌++◌, map, length, Option, Some, None, refl, sym, ap, ◌∙◌}
use Rattle.std.proofs.lemmas.Bool.{and_parts}
use Rattle.std.proofs.lemmas.Option.{none-some, same_Some, slice_get-map}
use Rattle.std.specs.Prelude.{flat_map, filter_map, option_map, slice_get, if◌then◌else◌}
use Rattle.std.specs.List.{list_all, range_with_len}
use Rattle.dc_int.specs.declared.variable.Locality.{Locality}
use Rattle.dc_code.specs.declared.plan.ConstructCode.{ConstructCode}
use Rattle.dc_code.specs.Codes.{CodeLists, elements_of_shape, elements_of_variable}
use Rattle.dc_code.specs.CodeForms.{local_slots, locality_in, kind_in, sized_localities, elements_where}
use Rattle.dc_code.specs.Loops.{Copies}
use Rattle.dc_tree.specs.Blocks as blocks
use Rattle.dc_tree.specs.Blocks.{Items, plain, branch, select, none, and_then}
use Rattle.dc_form.specs.BuiltPrograms.{is_built_inside, is_built_block}
use Rattle.dc_tree.specs.Entities.{Scope, entity}
use Rattle.dc_tree.specs.Statements.{Name, Ranging, assign, fill, Statement, concurrent, act}
use Rattle.dc_meaning.specs.Concurrent.{Outside, Concurrent, Surroundings, locality_of, local_of, is_reduction}
use Rattle.dc_meaning.specs.Headers.{localities_of}
use Rattle.dc_actions.specs.Deeds.{lined}
use Rattle.dc_lower.specs.Blocks.{texts_of_item, texts_of_block, groups_of_item, says_code, block_code}
use Rattle.dc_lower.specs.Lowered.{shape_of}
use Rattle.dc_lower.proofs.MainNames.{HasOutsides}

-- ---- localities

abbrev pub plain_ones : List Outside → List Locality
plain_ones outsides = map (λ (variable : Outside). locality_of [] variable.name) outsides

plain-at : (outsides : List Outside) (variable : ℕ) (locality : Locality) → slice_get (plain_ones outsides) variable ≡ Some locality → Locality.Plain ≡ locality
plain-at [] zero locality e = absurd (none-some locality e)
plain-at [] (suc variable) locality e = absurd (none-some locality e)
plain-at (first ∷ rest) zero locality e = same_Some Locality.Plain locality e
plain-at (first ∷ rest) (suc variable) locality e = plain-at rest variable locality e

pub all-plain : (construct : ConstructCode) (outsides : List Outside) → construct.localities ≡ plain_ones outsides → (variable : ℕ) → locality_in construct variable ≡ Locality.Plain
all-plain construct outsides are variable = by (slice_get construct.localities variable) refl
  where
    by : (found : Option Locality) → slice_get construct.localities variable ≡ found → locality_in construct variable ≡ Locality.Plain
    by None is = rw is refl
    by (Some locality) is = rw is (sym (plain-at outsides variable locality (sym (ap (λ all. slice_get all variable) are) ∙ is)))

pub no-elements : (holds : Locality → Bool) → holds Locality.Plain ≡ false → (code : CodeLists) (construct : ConstructCode) → ((variable : ℕ) → locality_in construct variable ≡ Locality.Plain)
    → elements_where holds code construct ≡ []
no-elements holds spares code construct each = from 0 (length code.shapes)
  where
    from : (first count : ℕ) → flat_map (λ variable. if holds (locality_in construct variable) then elements_of_variable code variable else []) (range_with_len first count) ≡ []
    from first zero = refl
    from first (suc count) = rw (each first, spares) (from (first + 1) count)

pub no-slots : (copies : Copies) (code : CodeLists) (construct : ConstructCode) → ((variable : ℕ) → locality_in construct variable ≡ Locality.Plain)
    → local_slots copies (sized_localities code construct) ≡ []
no-slots copies code construct each = from 0 (length code.shapes)
  where
    from : (first count : ℕ)
        → local_slots copies (map (λ variable. (locality_in construct variable, elements_of_shape (slice_get code.shapes variable))) (range_with_len first count)) ≡ []
    from first zero = refl
    from first (suc count) = rw (each first) (from (first + 1) count)

pub no-locals : (outsides : List Outside) → filter_map (local_of []) outsides ≡ []
no-locals [] = refl
no-locals (first ∷ rest) = no-locals rest

pub same-kind : (code : CodeLists) (within : Surroundings) (loop : Concurrent) → HasOutsides code within.outsides → (variable : ℕ) → kind_in code variable ≡ (localities_of within loop).kind variable
same-kind code within loop has variable = by (slice_get within.outsides variable) refl
  where
    shapes-at : slice_get code.shapes variable ≡ option_map shape_of (slice_get within.outsides variable)
    shapes-at = ap (λ all. slice_get all variable) has.shapes ∙ slice_get-map shape_of within.outsides variable

    by : (found : Option Outside) → slice_get within.outsides variable ≡ found → kind_in code variable ≡ (localities_of within loop).kind variable
    by None is = rw (shapes-at, is) refl
    by (Some outside) is = rw (shapes-at, is) refl

pub none-passed : (within : Surroundings) (loop : Concurrent) → ((text : Name) → is_reduction (entity loop.around text) ≡ false) → (variable : ℕ)
    → (localities_of within loop).passed variable ≡ false
none-passed within loop whole_names variable = by (slice_get within.outsides variable) refl
  where
    by : (found : Option Outside) → slice_get within.outsides variable ≡ found → (localities_of within loop).passed variable ≡ false
    by None is = rw is refl
    by (Some outside) is = rw is (whole_names outside.name)

-- ---- blocks without output and loops

-- How many loops there are before doesn't matter.
pub numbered : (scope : Scope) (next free number other : ℕ) (block : Items) → is_built_block block ≡ true → block_code scope next free number block ≡ block_code scope next free other block
numbered scope next free number other none e = refl
numbered scope next free number other (and_then (plain line) rest) e =
    ap (λ later. lined line.line (says_code scope next free line.says) ++ later)
    (numbered scope (next + length (texts_of_item (plain line))) (free + length (groups_of_item scope (plain line))) (number + 0) (other + 0) rest
    (and_parts (is_built_inside line.says) (is_built_block rest) e).1)
numbered scope next free number other (and_then (branch arms close) rest) e = cc
numbered scope next free number other (and_then (select head arms close) rest) e = cc
numbered scope next free number other (and_then (blocks.loop head body close) rest) e = cc

pub no-texts : (block : Items) → is_built_block block ≡ true → texts_of_block block ≡ []
no-texts none e = refl
no-texts (and_then (plain line) rest) e =
    let both = and_parts (is_built_inside line.says) (is_built_block rest) e in
    ap (λ texts. texts ++ texts_of_block rest) (of-line line.says both.0) ∙ no-texts rest both.1
  where
    of-line : (says : Statement) → is_built_inside says ≡ true → texts_of_item (plain (record { line = line.line; says = says })) ≡ []
    of-line (act (assign target tree)) e = refl
    of-line (act (fill text trees)) e = refl
    of-line (act other) e = cc
    of-line other e = cc
no-texts (and_then (branch arms close) rest) e = cc
no-texts (and_then (select head arms close) rest) e = cc
no-texts (and_then (blocks.loop head body close) rest) e = cc

-- ---- lists

pub all-at : {A : Type 0} (holds : A → Bool) (items : List A) (i : ℕ) (item : A) → list_all holds items ≡ true → slice_get items i ≡ Some item → holds item ≡ true
all-at holds [] zero item all e = absurd (none-some item e)
all-at holds [] (suc i) item all e = absurd (none-some item e)
all-at holds (first ∷ rest) zero item all e = ap holds (sym (same_Some first item e)) ∙ (and_parts (holds first) (list_all holds rest) all).0
all-at holds (first ∷ rest) (suc i) item all e = all-at holds rest i item (and_parts (holds first) (list_all holds rest) all).1 e

-- ---- the one index

abbrev indexes_of : Statement → List Ranging
indexes_of (concurrent label spec indexes mask locality) = indexes
indexes_of other = []

abbrev first_of : Ranging → List Ranging → Ranging
first_of other [] = other
first_of other (first ∷ rest) = first

pub one-index : (says : Statement) (one other : Ranging) {label label_again : Option (List ℕ)} → says ≡ concurrent label None (one ∷ []) None [] → says ≡ concurrent label_again None (other ∷ []) None [] → one ≡ other
one-index says one other first second = ap (λ s. first_of one (indexes_of s)) (sym first ∙ second)
