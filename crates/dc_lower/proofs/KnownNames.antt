-- What the names of a program stand for is in its code.
use Rattle.std.proofs.Common.{◌≡◌, ◌≤◌, ℕ, suc, ◌+◌, Bool, true, false, List, [], ◌∷◌, ◌++◌, length, map, Some, None, refl, sym, ap, ◌∙◌, subst, arith}
use Rattle.std.specs.Prelude.{ℤ, nat_eq, bytes_eq, filter_map, option_map, slice_get}
use Rattle.std.specs.List.{list_all}
use Rattle.std.proofs.lemmas.Bool.{false≢true, cond-true, cond_both}
use Rattle.std.proofs.lemmas.Option.{slice_get-map}
use Rattle.dc_int.specs.declared.kind.Kind.{Kind}
use Rattle.dc_int.specs.declared.variable.Shape.{Shape}
use Rattle.dc_int.specs.Sorts.{Sort, whole, logical, kind_of, sort_with}
use Rattle.dc_int.specs.Store.{Bounds, elements_in}
use Rattle.dc_code.specs.declared.plan.Group.{Group}
use Rattle.dc_code.specs.declared.plan.Plan.{Plan}
use Rattle.dc_code.specs.Codes.{CodeLists}
use Rattle.dc_tree.specs.declared.symbols.Role as roles
use Rattle.dc_tree.specs.declared.symbols.Symbol.{Symbol}
use Rattle.dc_tree.specs.Blocks.{Items}
use Rattle.dc_form.specs.BuiltPrograms.{is_whole_scalar, is_built_symbol, elements_of_all}
use Rattle.dc_tree.specs.Entities.{Entity, outside, slots, constant, Scope, entity, entity_in, outer_names, symbols_in, main_scope}
use Rattle.dc_tree.specs.Statements.{Name, Ranging}
use Rattle.dc_tree.specs.Symbols.{is_sound}
use Rattle.dc_tree.specs.Typing.{sort_of_entity}
use Rattle.dc_meaning.specs.Concurrent.{Outside, Concurrent, Surroundings, reduction_of, block_scope, variables_from}
use Rattle.dc_meaning.specs.Programs.{outsides_from}
use Rattle.dc_actions.specs.Typed.{are_held_bounds, fits_sort, FitNames}
use Rattle.dc_lower.specs.Lowerable.{is_held_symbol}
use Rattle.dc_lower.specs.Lowered.{shape_of, index_group}
use Rattle.dc_actions.proofs.Facts.{both-true}
use Rattle.dc_actions.proofs.RunsOfStatements.{HoldsNames}
use Rattle.dc_lower.proofs.LoopShapes.{no-locals}

-- ---- in a code

abbrev pub KnownIn : CodeLists → Plan → Entity → Type 0
KnownIn code plan (outside variable sort bounds) =
    ((shape : Shape) × ((slice_get code.shapes variable ≡ Some shape) × ((sort_with shape.logical shape.kind ≡ sort) × (slice_get code.bounds variable ≡ Some bounds))))
    × ((are_held_bounds bounds ≡ true) × (elements_in bounds ≤ 4194304))
KnownIn code plan (slots group sort bounds) =
    (found : Group) × ((slice_get plan.groups group ≡ Some found) × ((sort_with found.logical found.kind ≡ sort) × (found.bounds ≡ bounds)))
KnownIn code plan (constant sort z) = fits_sort sort z ≡ true
KnownIn code plan other = Unit {0}

pub fits-known : (code : CodeLists) (plan : Plan) (scope : Scope) → ((text : Name) → KnownIn code plan (entity scope text)) → FitNames code plan scope
fits-known code plan scope known = record {
  outer = λ text variable sort bounds e. (subst (KnownIn code plan) e (known text)).0;
  inner = λ text group sort bounds e. subst (KnownIn code plan) e (known text);
  constants = λ text sort z e. subst (KnownIn code plan) e (known text);
}

pub holds-known : (code : CodeLists) (plan : Plan) (scope : Scope) → ((text : Name) → KnownIn code plan (entity scope text)) → HoldsNames scope
holds-known code plan scope known = record { outer = λ text variable sort bounds e. (subst (KnownIn code plan) e (known text)).1 }

-- ---- among the declared names

abbrev Known : ℕ → List Symbol → Entity → Type 0
Known number own (outside variable sort bounds) =
    (i : ℕ) × ((variable ≡ number + i)
    × (((found : Outside) × ((slice_get (outsides_from number own) i ≡ Some found) × ((found.sort ≡ sort) × (found.bounds ≡ bounds))))
    × ((are_held_bounds bounds ≡ true) × (elements_in bounds ≤ elements_of_all own))))
Known number own (slots group sort bounds) = ⊥
Known number own (constant sort z) = fits_sort sort z ≡ true
Known number own other = Unit {0}

abbrev symbol_of : ℕ → Name → roles.Role → Symbol
symbol_of scope name role = record { scope = scope; name = name; role = role }

behind-variable : (number : ℕ) (scope : ℕ) (name : Name) (flag : Bool) (kind : Kind) (bounds : Bounds) (initial : List ℤ) (rest : List Symbol) (found : Entity) → Known (suc number) rest found
    → Known number (symbol_of scope name (roles.Role.Variable flag kind bounds initial) ∷ rest) found
behind-variable number scope name flag kind bounds initial rest (outside variable sort declared) known =
    (suc known.0, (omega (arith, (known.1).0), ((((known.1).1).0), ((((known.1).1).1).0, omega (arith, (((known.1).1).1).1)))))
behind-variable number scope name flag kind bounds initial rest found known = known

behind-constant : (number : ℕ) (scope : ℕ) (name : Name) (flag : Bool) (kind : Kind) (value : ℤ) (rest : List Symbol) (found : Entity) → Known number rest found
    → Known number (symbol_of scope name (roles.Role.Constant flag kind value) ∷ rest) found
behind-constant number scope name flag kind value rest (outside variable sort declared) known =
    (known.0, ((known.1).0, ((((known.1).1).0), ((((known.1).1).1).0, omega (arith, (((known.1).1).1).1)))))
behind-constant number scope name flag kind value rest found known = known

constant-fits : (scope : ℕ) (name : Name) (flag : Bool) (kind : Kind) (value : ℤ) → is_sound (symbol_of scope name (roles.Role.Constant flag kind value)) ≡ true → fits_sort (sort_with flag kind) value ≡ true
constant-fits scope name true kind value sound = refl
constant-fits scope name false kind value sound = (both-true (both-true sound).0).0

by-role : (all : List Symbol) (number : ℕ) (rest : List Symbol) (scope : ℕ) (name : Name) (role : roles.Role)
    → is_built_symbol (symbol_of scope name role) ≡ true → is_sound (symbol_of scope name role) ≡ true → is_held_symbol (symbol_of scope name role) ≡ true → (text : Name)
    → Known (suc number) rest (entity_in (outer_names all (suc number) rest) text) → Known number rest (entity_in (outer_names all number rest) text)
    → Known number (symbol_of scope name role ∷ rest) (entity_in (outer_names all number (symbol_of scope name role ∷ rest)) text)
by-role all number rest scope name (roles.Role.Variable flag kind bounds initial) built sound held text later same =
    cond_both (bytes_eq name text) (outside number (sort_with flag kind) bounds) (entity_in (outer_names all (suc number) rest) text)
    (Known number (symbol_of scope name (roles.Role.Variable flag kind bounds initial) ∷ rest))
    (λ e. (0, (omega arith, ((record { name = name; number = number; sort = sort_with flag kind; bounds = bounds }, (refl, (refl, refl))), (held, omega arith)))))
    (λ e. behind-variable number scope name flag kind bounds initial rest (entity_in (outer_names all (suc number) rest) text) later)
by-role all number rest scope name (roles.Role.Constant flag kind value) built sound held text later same =
    cond_both (bytes_eq name text) (constant (sort_with flag kind) value) (entity_in (outer_names all number rest) text)
    (Known number (symbol_of scope name (roles.Role.Constant flag kind value) ∷ rest))
    (λ e. constant-fits scope name flag kind value sound)
    (λ e. behind-constant number scope name flag kind value rest (entity_in (outer_names all number rest) text) same)
by-role all number rest scope name role built sound held text later same = absurd (false≢true (both-true {a = nat_eq scope 0} built).1)

names-known : (all : List Symbol) (number : ℕ) (own : List Symbol) → list_all is_built_symbol own ≡ true → list_all is_sound own ≡ true → list_all is_held_symbol own ≡ true → (text : Name)
    → Known number own (entity_in (outer_names all number own) text)
names-known all number [] built sound held text = tt
names-known all number (symbol ∷ rest) built sound held text =
    by-role all number rest symbol.scope symbol.name symbol.role (both-true built).0 (both-true sound).0 (both-true held).0 text
    (names-known all (suc number) rest (both-true built).1 (both-true sound).1 (both-true held).1 text)
    (names-known all number rest (both-true built).1 (both-true sound).1 (both-true held).1 text)

-- All are names of the main program.
pub all-in-main : (symbols : List Symbol) → list_all is_built_symbol symbols ≡ true → symbols_in 0 symbols ≡ symbols
all-in-main [] built = refl
all-in-main (symbol ∷ rest) built =
    cond-true (nat_eq symbol.scope 0) (symbol ∷ symbols_in 0 rest) (symbols_in 0 rest) (both-true (both-true built).0).0
    ∙ ap (λ others. symbol ∷ others) (all-in-main rest (both-true built).1)

sort-of-shape : (variable : Outside) → sort_with (shape_of variable).logical (shape_of variable).kind ≡ variable.sort
sort-of-shape variable = by variable.sort
  where
    by : (sort : Sort) → sort_with (shape_of (record { name = variable.name; number = variable.number; sort = sort; bounds = variable.bounds })).logical
        (shape_of (record { name = variable.name; number = variable.number; sort = sort; bounds = variable.bounds })).kind ≡ sort
    by (whole kind) = refl
    by logical = refl

in-code : (code : CodeLists) (plan : Plan) (own : List Symbol) → code.shapes ≡ map shape_of (outsides_from 0 own) → code.bounds ≡ map (λ (variable : Outside). variable.bounds) (outsides_from 0 own)
    → elements_of_all own ≤ 4194304 → (found : Entity) → Known 0 own found → KnownIn code plan found
in-code code plan own shapes bounds few (outside variable sort declared) known =
    let i = known.0 in
    let outer = ((known.1).1).0 in
    let held = ((known.1).1).1 in
    let same : variable ≡ i = (known.1).0 ∙ omega arith in
    let there : slice_get (outsides_from 0 own) variable ≡ Some outer.0 = ap (slice_get (outsides_from 0 own)) same ∙ (outer.1).0 in (
      (
        shape_of outer.0,
        (
          ap (λ items. slice_get items variable) shapes ∙ slice_get-map shape_of (outsides_from 0 own) variable ∙ ap (option_map shape_of) there,
          (
            sort-of-shape outer.0 ∙ ((outer.1).1).0,
            ap (λ items. slice_get items variable) bounds ∙ slice_get-map (λ (found : Outside). found.bounds) (outsides_from 0 own) variable
                ∙ ap (option_map (λ (found : Outside). found.bounds)) there ∙ ap (λ (given : Bounds). Some given) ((outer.1).1).1,
          ),
        ),
      ),
      (held.0, omega (arith, held.1, few)),
    )
in-code code plan own shapes bounds few (slots group sort declared) known = absurd known
in-code code plan own shapes bounds few (constant sort z) known = known
in-code code plan own shapes bounds few found known = tt

-- The names of the main program, for any plan.
pub main-known : (symbols : List Symbol) (code : CodeLists) (plan : Plan) → code.shapes ≡ map shape_of (outsides_from 0 (symbols_in 0 symbols))
    → code.bounds ≡ map (λ (variable : Outside). variable.bounds) (outsides_from 0 (symbols_in 0 symbols))
    → list_all is_built_symbol symbols ≡ true → list_all is_sound symbols ≡ true → list_all is_held_symbol symbols ≡ true → elements_of_all symbols ≤ 4194304
    → (text : Name) → KnownIn code plan (entity (main_scope symbols) text)
main-known symbols code plan shapes bounds built sound held few text =
    in-code code plan own shapes bounds (subst (λ given. elements_of_all given ≤ 4194304) same few) (entity (main_scope symbols) text)
    (names-known symbols 0 own (ap (λ given. list_all is_built_symbol given) (sym same) ∙ built) (ap (λ given. list_all is_sound given) (sym same) ∙ sound)
    (ap (λ given. list_all is_held_symbol given) (sym same) ∙ held) text)
  where
    own : List Symbol
    own = symbols_in 0 symbols

    same : symbols ≡ own
    same = sym (all-in-main symbols built)

-- ---- loops of one index

-- A loop of one index, without a type, a mask and localities.
abbrev pub simple_loop : Scope → ℕ → ℕ → Ranging → Items → Concurrent
simple_loop scope number line ranging inside =
    record { number = number; line = line; around = scope; spec = None; indexes = ranging ∷ []; mask = None; locality = []; body = inside }

-- Its index in front of the names around it.
abbrev pub indexed_scope : Scope → Ranging → Scope
indexed_scope scope ranging = record { names = (ranging.name, slots 0 (sort_of_entity (entity scope ranging.name)) []) ∷ scope.names; groups = 1 }

pub no-reductions : (variables : List Outside) → filter_map (reduction_of []) variables ≡ []
no-reductions [] = refl
no-reductions (variable ∷ rest) = no-reductions rest

pub scope-of-block : (within : Surroundings) (symbols : List Symbol) (number line : ℕ) (ranging : Ranging) (inside : Items)
    → block_scope within (simple_loop (main_scope symbols) number line ranging inside) ≡ indexed_scope (main_scope symbols) ranging
scope-of-block within symbols number line ranging inside = λ i.
    let locals = no-locals within.outsides i in
    record {
      names =
          ((ranging.name, slots 0 (sort_of_entity (entity (main_scope symbols) ranging.name)) [])
          ∷ (variables_from 1 (map (λ w. w.0) locals) ++ no-reductions within.outsides i))
          ++ (main_scope symbols).names;
      groups = 0 + (1 + length locals);
    }

whole-sort : (found : Entity) → is_whole_scalar found ≡ true → whole (kind_of (sort_of_entity found)) ≡ sort_of_entity found
whole-sort (outside variable (whole kind) []) so = refl
whole-sort (outside variable (whole kind) (dimension ∷ bounds)) so = absurd (false≢true so)
whole-sort (outside variable logical bounds) so = absurd (false≢true so)
whole-sort found so = absurd (false≢true so)

-- The names of its block, for a plan that begins with the index.
pub block-known : (symbols : List Symbol) (code : CodeLists) (plan : Plan) (ranging : Ranging) → ((text : Name) → KnownIn code plan (entity (main_scope symbols) text))
    → is_whole_scalar (entity (main_scope symbols) ranging.name) ≡ true
    → slice_get plan.groups 0 ≡ Some (index_group (kind_of (sort_of_entity (entity (main_scope symbols) ranging.name))))
    → (text : Name) → KnownIn code plan (entity (indexed_scope (main_scope symbols) ranging) text)
block-known symbols code plan ranging known scalar first text =
    cond_both (bytes_eq ranging.name text) (slots 0 sort []) (entity (main_scope symbols) text) (KnownIn code plan)
    (λ e. (index_group (kind_of sort), (first, (whole-sort (entity (main_scope symbols) ranging.name) scalar, refl))))
    (λ e. known text)
  where
    sort : Sort
    sort = sort_of_entity (entity (main_scope symbols) ranging.name)
