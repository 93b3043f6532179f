-- What a name of the main program stands for, by the place of its symbol and the number that is noted there.
use Rattle.std.proofs.Common.{◌≡◌, ℕ, zero, suc, ◌+◌, ◌≤◌, Bool, true, false, cond, ◌&&◌, List, [], ◌∷◌, ◌++◌, length, map, Option, Some, None, refl, sym, ap, ◌∙◌, slice_get, add-one, arith}
use Rattle.std.specs.Prelude.{nat_eq, nat_le, bytes_eq, option_map, IsTrue}
use Rattle.std.specs.List.{list_all}
use Rattle.std.proofs.lemmas.Bool.{and_parts, false≢true, leb-true}
use Rattle.dc_int.specs.Sorts.{whole}
use Rattle.dc_int.specs.declared.kind.Kind.{Kind}
use Rattle.dc_tree.specs.declared.symbols.Role as roles
use Rattle.dc_tree.specs.declared.symbols.Symbol.{Symbol}
use Rattle.dc_form.specs.BuiltPrograms.{is_built_role, is_built_symbol, role_elements, elements_of_all, are_built_symbols, greatest_names, greatest_elements}
use Rattle.dc_tree.specs.Entities.{Entity, slots, nothing, entity, entity_in, outer_names, symbols_in, main_scope, is_variable}
use Rattle.dc_tree.specs.Places.{place_at}
use Rattle.dc_tree.specs.Statements.{Name}
use Rattle.dc_sorts.specs.declared.standing.IndexName.{IndexName}
use Rattle.dc_sorts.specs.declared.standing.Standing as code
use Rattle.dc_sorts.specs.Standing.{index_kind, index_entity, standing_of, scope_at, unit_scope}
use Rattle.dc_entities.specs.Found.{entity_at}
use Rattle.dc_entities.specs.Numbering.{numbers_from, numbers_of}

-- ---- the place of a symbol

abbrev pub entity_there : Option Symbol → Option ℕ → Entity
entity_there (Some symbol) (Some number) = entity_at number symbol.role
entity_there symbol number = nothing

abbrev pub found_in : List Symbol → List ℕ → Option ℕ → Entity
found_in symbols numbers None = nothing
found_in symbols numbers (Some place) = entity_there (slice_get symbols place) (slice_get numbers place)

-- the first of these names, or a later one
first-or-later : (b : Bool) (number : ℕ) (numbers : List ℕ) (first : Symbol) (rest : List Symbol) (place : Option ℕ)
    → found_in (first ∷ rest) (number ∷ numbers) (cond b (Some 0) (option_map (λ p. suc p) place)) ≡ cond b (entity_at number first.role) (found_in rest numbers place)
first-or-later true number numbers first rest place = refl
first-or-later false number numbers first rest None = refl
first-or-later false number numbers first rest (Some p) = refl

abbrev at : ℕ → Name → roles.Role → Symbol
at scope its_name role = record { scope = scope; name = its_name; role = role }

abbrev FoundFrom : List Symbol → Name → List Symbol → ℕ → Type 0
FoundFrom all name symbols number = entity_in (outer_names all number (symbols_in 0 symbols)) name ≡ found_in symbols (numbers_from number symbols) (place_at symbols 0 name)

one-more : (all : List Symbol) (name : Name) (number next : ℕ) (scope : ℕ) (its_name : Name) (role : roles.Role) (rest : List Symbol) → nat_eq scope 0 ≡ true
    → ((xs : List Symbol) → outer_names all number (at scope its_name role ∷ xs) ≡ (its_name, entity_at number role) ∷ outer_names all next xs)
    → number + cond (is_variable (at scope its_name role)) 1 0 ≡ next → FoundFrom all name rest next → FoundFrom all name (at scope its_name role ∷ rest) number
one-more all name number next scope its_name role rest inside opens count later =
    ap (λ (b : Bool). entity_in (outer_names all number (cond b (at scope its_name role ∷ symbols_in 0 rest) (symbols_in 0 rest))) name) inside
    ∙ ap (λ (l : List (Name × Entity)). entity_in l name) (opens (symbols_in 0 rest))
    ∙ ap (λ (e : Entity). cond (bytes_eq its_name name) (entity_at number role) e) later
    ∙ sym (first-or-later (bytes_eq its_name name) number (numbers_from next rest) (at scope its_name role) rest (place_at rest 0 name))
    ∙ ap (λ (n : ℕ). found_in (at scope its_name role ∷ rest) (number ∷ numbers_from n rest) (cond (bytes_eq its_name name) (Some 0) (option_map (λ p. suc p) (place_at rest 0 name)))) (sym count)
    ∙ ap (λ (b : Bool). found_in (at scope its_name role ∷ rest) (numbers_from number (at scope its_name role ∷ rest)) (cond (b && bytes_eq its_name name) (Some 0) (option_map (λ p. suc p) (place_at rest 0 name)))) (sym inside)

found-more : (all : List Symbol) (name : Name) (number scope : ℕ) (its_name : Name) (role : roles.Role) (rest : List Symbol) → nat_eq scope 0 ≡ true → is_built_role role ≡ true
    → ((n : ℕ) → FoundFrom all name rest n) → FoundFrom all name (at scope its_name role ∷ rest) number
found-more all name number scope its_name (roles.Role.Variable logical kind bounds initial) rest inside built later =
    one-more all name number (suc number) scope its_name (roles.Role.Variable logical kind bounds initial) rest inside (λ xs. refl) (add-one number) (later (suc number))
found-more all name number scope its_name (roles.Role.Constant logical kind value) rest inside built later =
    one-more all name number number scope its_name (roles.Role.Constant logical kind value) rest inside (λ xs. refl) (omega arith) (later number)
found-more all name number scope its_name (roles.Role.Function procedure) rest inside built later = absurd (false≢true built)
found-more all name number scope its_name (roles.Role.Subroutine procedure) rest inside built later = absurd (false≢true built)
found-more all name number scope its_name (roles.Role.Dummy place logical kind intent) rest inside built later = absurd (false≢true built)
found-more all name number scope its_name (roles.Role.Result logical kind) rest inside built later = absurd (false≢true built)

pub names-found : (all : List Symbol) (name : Name) (symbols : List Symbol) → list_all is_built_symbol symbols ≡ true → (number : ℕ) → FoundFrom all name symbols number
names-found all name [] built number = refl
names-found all name (first ∷ rest) built number =
    let both = and_parts (is_built_symbol first) (list_all is_built_symbol rest) built in
    let own = and_parts (nat_eq first.scope 0) (is_built_role first.role) both.0 in
    found-more all name number first.scope first.name first.role rest own.0 own.1 (names-found all name rest both.1)

-- ---- all symbols

pub record Parts (symbols : List Symbol) : Type 0 where
  pub few : length symbols ≤ 1048576
  pub each : list_all is_built_symbol symbols ≡ true
  pub elements : elements_of_all symbols ≤ 4194304

pub built-parts : (symbols : List Symbol) → IsTrue (are_built_symbols symbols) → Parts symbols
built-parts symbols built =
    let outer = and_parts (nat_le (length symbols) greatest_names) (list_all is_built_symbol symbols && nat_le (elements_of_all symbols) greatest_elements) built in
    let inner = and_parts (list_all is_built_symbol symbols) (nat_le (elements_of_all symbols) greatest_elements) outer.1 in
    record { few = leb-true (length symbols) 1048576 outer.0; each = inner.0; elements = leb-true (elements_of_all symbols) 4194304 inner.1 }

-- a name of the main program, by its place
pub main-found : (symbols : List Symbol) (name : Name) → IsTrue (are_built_symbols symbols) → entity (main_scope symbols) name ≡ found_in symbols (numbers_of symbols) (place_at symbols 0 name)
main-found symbols name built = names-found symbols name symbols (built-parts symbols built).each 0

-- the symbol at a place has no more elements than all
pub elements-at : (symbols : List Symbol) (place : ℕ) (symbol : Symbol) → slice_get symbols place ≡ Some symbol → role_elements symbol.role ≤ elements_of_all symbols
elements-at [] place symbol is = absurd (cc)
elements-at (first ∷ rest) zero symbol is = let same : first ≡ symbol = cc in rw (sym same) (omega arith)
elements-at (first ∷ rest) (suc place) symbol is = let later = elements-at rest place symbol is in omega (arith, later)

pub few-at : (symbols : List Symbol) (place : ℕ) (symbol : Symbol) → IsTrue (are_built_symbols symbols) → slice_get symbols place ≡ Some symbol → role_elements symbol.role ≤ 4194304
few-at symbols place symbol built is =
    let whole = (built-parts symbols built).elements in
    let one = elements-at symbols place symbol is in
    omega (arith, whole, one)

-- ---- by what the code finds

-- no symbol of that name
pub name-unplaced : (symbols : List Symbol) (name : Name) → IsTrue (are_built_symbols symbols) → place_at symbols 0 name ≡ None → nothing ≡ entity (main_scope symbols) name
name-unplaced symbols name built at = sym (main-found symbols name built ∙ ap (found_in symbols (numbers_of symbols)) at)

-- the symbol and the number at its place
pub name-placed : (symbols : List Symbol) (name : Name) (place : ℕ) (symbol : Option Symbol) (number : Option ℕ) → IsTrue (are_built_symbols symbols) → place_at symbols 0 name ≡ Some place
    → slice_get symbols place ≡ symbol → slice_get (numbers_of symbols) place ≡ number → entity_there symbol number ≡ entity (main_scope symbols) name
name-placed symbols name place symbol number built at is numbered =
    sym (main-found symbols name built ∙ ap (found_in symbols (numbers_of symbols)) at ∙ ap (λ s. entity_there s (slice_get (numbers_of symbols) place)) is ∙ ap (entity_there symbol) numbered)

pub name-unnumbered : (symbols : List Symbol) (name : Name) (place : ℕ) (symbol : Option Symbol) → IsTrue (are_built_symbols symbols) → place_at symbols 0 name ≡ Some place
    → slice_get symbols place ≡ symbol → slice_get (numbers_of symbols) place ≡ None → nothing ≡ entity (main_scope symbols) name
name-unnumbered symbols name place None built at is numbered = name-placed symbols name place None None built at is numbered
name-unnumbered symbols name place (Some symbol) built at is numbered = name-placed symbols name place (Some symbol) None built at is numbered

-- ---- the index in front

no-index : (indexes : List IndexName) (tail : List (Name × Entity)) (name : Name) → index_kind indexes name ≡ None → entity_in (map index_entity indexes ++ tail) name ≡ entity_in tail name
no-index [] tail name none = refl
no-index (index ∷ rest) tail name none = by (bytes_eq index.name name) none (no-index rest tail name)
  where
    by : (b : Bool) → cond b (Some index.kind) (index_kind rest name) ≡ None → (index_kind rest name ≡ None → entity_in (map index_entity rest ++ tail) name ≡ entity_in tail name)
        → cond b (index_entity index).1 (entity_in (map index_entity rest ++ tail) name) ≡ entity_in tail name
    by true is later = absurd (cc)
    by false is later = later is

an-index : (indexes : List IndexName) (tail : List (Name × Entity)) (name : Name) (kind : Kind) → index_kind indexes name ≡ Some kind
    → entity_in (map index_entity indexes ++ tail) name ≡ slots 0 (whole kind) []
an-index [] tail name kind none = absurd (cc)
an-index (index ∷ rest) tail name kind found = by (bytes_eq index.name name) found (an-index rest tail name kind)
  where
    by : (b : Bool) → cond b (Some index.kind) (index_kind rest name) ≡ Some kind → (index_kind rest name ≡ Some kind → entity_in (map index_entity rest ++ tail) name ≡ slots 0 (whole kind) [])
        → cond b (index_entity index).1 (entity_in (map index_entity rest ++ tail) name) ≡ slots 0 (whole kind) []
    by true is later = let same : index.kind ≡ kind = cc in rw same refl
    by false is later = later is

pub index-found : (standing : code.Standing) (name : Name) (kind : Kind) → index_kind standing.indexes.now name ≡ Some kind → slots 0 (whole kind) [] ≡ entity (scope_at (standing_of standing)) name
index-found standing name kind is = sym (an-index standing.indexes.now (unit_scope standing.symbols.now standing.unit).names name kind is)

pub outer-found : (standing : code.Standing) (name : Name) → index_kind standing.indexes.now name ≡ None → standing.unit ≡ 0
    → entity (main_scope standing.symbols.now) name ≡ entity (scope_at (standing_of standing)) name
outer-found standing name none main =
    sym (no-index standing.indexes.now (unit_scope standing.symbols.now standing.unit).names name none ∙ ap (λ (u : ℕ). entity (unit_scope standing.symbols.now u) name) main)
