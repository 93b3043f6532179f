-- What a name means is what it stands for in the scope of its place: it has that sort and that value, and is declared there or not.
use Rattle.std.proofs.Common.{◌≡◌, ℕ, zero, suc, Bool, true, false, not, ◌&&◌, cond, List, [], ◌∷◌, ◌++◌, Option, Some, None, refl, sym, ap, subst, ◌∙◌, append-nil, arith}
use Rattle.std.specs.Prelude.{nat_eq, bytes_eq, map, option_map, IsTrue}
use Rattle.std.specs.List.{list_all}
use Rattle.std.proofs.lemmas.Bool.{false≢true, and_parts}
use Rattle.dc_int.specs.declared.kind.Kind.{Kind}
use Rattle.dc_int.specs.Sorts.{Sort, sort_with}
use Rattle.dc_tree.specs.declared.symbols.Role as roles
use Rattle.dc_tree.specs.declared.symbols.Symbol.{Symbol}
use Rattle.dc_tree.specs.Entities.{Entity, outside, slots, dummy, constant, nothing, entity, entity_in, result_in, symbols_in, first_local, procedure_entity, outer_names, inner_names, main_scope}
use Rattle.dc_tree.specs.Statements.{Name}
use Rattle.dc_tree.specs.Symbols.{symbol_at, declared_sort, is_sound}
use Rattle.dc_tree.specs.Syntax as syntax
use Rattle.dc_tree.specs.Typing.{sort_of_entity, constant_of_entity}
use Rattle.dc_sorts.specs.declared.form.Form.{Form}
use Rattle.dc_sorts.specs.declared.meaning.Meaning.{Meaning}
use Rattle.dc_sorts.specs.declared.standing.IndexName.{IndexName}
use Rattle.dc_sorts.specs.Forms.{sort_of_form, form_of_sort, form_with}
use Rattle.dc_sorts.specs.Meanings.{meaning_of_role, meaning_of_symbol, or_symbol, or_meaning, symbol_meaning, symbol_seen, declared_meaning, form_of_meaning, constant_of_meaning, is_nothing}
use Rattle.dc_sorts.specs.Knowing.{known_of}
use Rattle.dc_sorts.specs.Naming.{name_known}
use Rattle.dc_sorts.specs.Standing.{Standing, index_kind, meaning_by, meaning, unit_scope, index_entity, scope_at}
use Rattle.dc_sorts.proofs.Knowing.{form-back}

abbrev pub is_no_entity : Entity → Bool
is_no_entity nothing = true
is_no_entity other = false

pub record Agrees (entity : Entity) (meaning : Meaning) : Type 0 where
  pub sort : sort_of_entity entity ≡ sort_of_form (form_of_meaning meaning)
  pub constant : constant_of_entity entity ≡ constant_of_meaning meaning
  pub is_nothing : is_no_entity entity ≡ is_nothing meaning

sort-form : (logical : Bool) (kind : Kind) → sort_with logical kind ≡ sort_of_form (form_with logical kind)
sort-form true kind = refl
sort-form false kind = refl

-- ---- one symbol

procedure-agrees : (function : Bool) (number : ℕ) (own : List Symbol) (result : Option Sort) → result_in own ≡ result
    → Agrees (procedure_entity number own) (Meaning.Procedure function number (option_map form_of_sort result))
procedure-agrees function number own (Some sort) is = rw is (record { sort = sym (form-back sort); constant = refl; is_nothing = refl })
procedure-agrees function number own None is = rw is (record { sort = refl; constant = refl; is_nothing = refl })

-- the first of some names, or else one of the others
first-agrees : (all : List Symbol) (b : Bool) (first rest : Entity) (x : Symbol) (found behind : Option Symbol) → Agrees first (meaning_of_role all x.role)
    → Agrees rest (meaning_of_symbol all (or_symbol found behind)) → Agrees (cond b first rest) (meaning_of_symbol all (or_symbol (cond b (Some x) found) behind))
first-agrees all true first rest x found behind one other = one
first-agrees all false first rest x found behind one other = other

-- The names of a unit's symbols in front of others.
abbrev NamesAgree : (ℕ → List Symbol → List (Name × Entity)) → List Symbol → ℕ → Name → List (Name × Entity) → Option Symbol → ℕ → List Symbol → Type 0
NamesAgree names all unit name tail behind group xs =
    Agrees (entity_in (names group (symbols_in unit xs) ++ tail) name) (meaning_of_symbol all (or_symbol (symbol_at xs unit name) behind))

one-more : (names : ℕ → List Symbol → List (Name × Entity)) (all : List Symbol) (unit : ℕ) (name : Name) (tail : List (Name × Entity)) (behind : Option Symbol) (group next : ℕ) (x : Symbol) (xs : List Symbol) (e : Entity)
    → ((ys : List Symbol) → names group (x ∷ ys) ≡ (x.name, e) ∷ names next ys) → Agrees e (meaning_of_role all x.role) → ((g : ℕ) → NamesAgree names all unit name tail behind g xs)
    → NamesAgree names all unit name tail behind group (x ∷ xs)
one-more names all unit name tail behind group next x xs e opens own rest = by (nat_eq x.scope unit)
  where
    by : (b : Bool) → Agrees (entity_in (names group (cond b (x ∷ symbols_in unit xs) (symbols_in unit xs)) ++ tail) name)
        (meaning_of_symbol all (or_symbol (cond (b && bytes_eq x.name name) (Some x) (symbol_at xs unit name)) behind))
    by true =
        rw (opens (symbols_in unit xs))
        (first-agrees all (bytes_eq x.name name) e (entity_in (names next (symbols_in unit xs) ++ tail) name) x (symbol_at xs unit name) behind own (rest next))
    by false = rest group

-- a symbol of another unit
elsewhere : (names : ℕ → List Symbol → List (Name × Entity)) (all : List Symbol) (unit : ℕ) (name : Name) (tail : List (Name × Entity)) (behind : Option Symbol) (group : ℕ) (x : Symbol) (xs : List Symbol) → nat_eq x.scope unit ≡ false
    → ((g : ℕ) → NamesAgree names all unit name tail behind g xs) → NamesAgree names all unit name tail behind group (x ∷ xs)
elsewhere names all unit name tail behind group x xs other rest = by (nat_eq x.scope unit) other
  where
    by : (b : Bool) → b ≡ false → Agrees (entity_in (names group (cond b (x ∷ symbols_in unit xs) (symbols_in unit xs)) ++ tail) name)
        (meaning_of_symbol all (or_symbol (cond (b && bytes_eq x.name name) (Some x) (symbol_at xs unit name)) behind))
    by true is = absurd (false≢true (sym is))
    by false is = rest group

not-true : (b : Bool) → not b ≡ true → b ≡ false
not-true true is = absurd (false≢true is)
not-true false is = refl

-- a symbol of the main program is in no procedure
not-inside : (scope before : ℕ) → nat_eq scope 0 ≡ true → nat_eq scope (suc before) ≡ false
not-inside scope before is = grind (arith, is)

-- ---- the main program

abbrev at : ℕ → Name → roles.Role → Symbol
at scope its_name role = record { scope = scope; name = its_name; role = role }

outer-step : (all : List Symbol) (name : Name) (group scope : ℕ) (its_name : Name) (role : roles.Role) (xs : List Symbol) → IsTrue (is_sound (at scope its_name role))
    → ((g : ℕ) → NamesAgree (outer_names all) all 0 name [] None g xs) → NamesAgree (outer_names all) all 0 name [] None group (at scope its_name role ∷ xs)
outer-step all name group scope its_name (roles.Role.Variable logical kind bounds initial) xs sound rest =
    one-more (outer_names all) all 0 name [] None group (suc group) (at scope its_name (roles.Role.Variable logical kind bounds initial)) xs (outside group (sort_with logical kind) bounds) (λ ys. refl)
    (record { sort = sort-form logical kind; constant = refl; is_nothing = refl }) rest
outer-step all name group scope its_name (roles.Role.Constant logical kind value) xs sound rest =
    one-more (outer_names all) all 0 name [] None group group (at scope its_name (roles.Role.Constant logical kind value)) xs (constant (sort_with logical kind) value) (λ ys. refl)
    (record { sort = sort-form logical kind; constant = refl; is_nothing = refl }) rest
outer-step all name group scope its_name (roles.Role.Function number) xs sound rest =
    one-more (outer_names all) all 0 name [] None group group (at scope its_name (roles.Role.Function number)) xs (procedure_entity number (symbols_in number all)) (λ ys. refl)
    (procedure-agrees true number (symbols_in number all) (result_in (symbols_in number all)) refl) rest
outer-step all name group scope its_name (roles.Role.Subroutine number) xs sound rest =
    one-more (outer_names all) all 0 name [] None group group (at scope its_name (roles.Role.Subroutine number)) xs (procedure_entity number (symbols_in number all)) (λ ys. refl)
    (procedure-agrees false number (symbols_in number all) (result_in (symbols_in number all)) refl) rest
outer-step all name group scope its_name (roles.Role.Dummy place logical kind intent) xs sound rest =
    elsewhere (outer_names all) all 0 name [] None group (at scope its_name (roles.Role.Dummy place logical kind intent)) xs (not-true (nat_eq scope 0) sound) rest
outer-step all name group scope its_name (roles.Role.Result logical kind) xs sound rest =
    elsewhere (outer_names all) all 0 name [] None group (at scope its_name (roles.Role.Result logical kind)) xs (not-true (nat_eq scope 0) sound) rest

outer-agrees : (all : List Symbol) (name : Name) (xs : List Symbol) → IsTrue (list_all is_sound xs) → (group : ℕ) → NamesAgree (outer_names all) all 0 name [] None group xs
outer-agrees all name [] sound group = record { sort = refl; constant = refl; is_nothing = refl }
outer-agrees all name (x ∷ xs) sound group =
    let parts = and_parts (is_sound x) (list_all is_sound xs) sound in
    outer-step all name group x.scope x.name x.role xs parts.0 (outer-agrees all name xs parts.1)

or-none : (o : Option Symbol) → or_symbol o None ≡ o
or-none (Some x) = refl
or-none None = refl

main-agrees : (all : List Symbol) (name : Name) → IsTrue (list_all is_sound all) → Agrees (entity (main_scope all) name) (meaning_of_symbol all (symbol_at all 0 name))
main-agrees all name sound =
    subst (λ (o : Option Symbol). Agrees (entity (main_scope all) name) (meaning_of_symbol all o)) (or-none (symbol_at all 0 name))
    (subst (λ (l : List (Name × Entity)). Agrees (entity_in l name) (meaning_of_symbol all (or_symbol (symbol_at all 0 name) None))) (append-nil (outer_names all 0 (symbols_in 0 all)))
    (outer-agrees all name all sound 0))

-- ---- a procedure

inner-step : (all : List Symbol) (before : ℕ) (name : Name) (tail : List (Name × Entity)) (behind : Option Symbol) (group scope : ℕ) (its_name : Name) (role : roles.Role) (xs : List Symbol) → IsTrue (is_sound (at scope its_name role))
    → ((g : ℕ) → NamesAgree inner_names all (suc before) name tail behind g xs) → NamesAgree inner_names all (suc before) name tail behind group (at scope its_name role ∷ xs)
inner-step all before name tail behind group scope its_name (roles.Role.Variable logical kind bounds initial) xs sound rest =
    one-more inner_names all (suc before) name tail behind group (suc group) (at scope its_name (roles.Role.Variable logical kind bounds initial)) xs (slots group (sort_with logical kind) bounds) (λ ys. refl)
    (record { sort = sort-form logical kind; constant = refl; is_nothing = refl }) rest
inner-step all before name tail behind group scope its_name (roles.Role.Constant logical kind value) xs sound rest =
    one-more inner_names all (suc before) name tail behind group group (at scope its_name (roles.Role.Constant logical kind value)) xs (constant (sort_with logical kind) value) (λ ys. refl)
    (record { sort = sort-form logical kind; constant = refl; is_nothing = refl }) rest
inner-step all before name tail behind group scope its_name (roles.Role.Dummy place logical kind intent) xs sound rest =
    one-more inner_names all (suc before) name tail behind group group (at scope its_name (roles.Role.Dummy place logical kind intent)) xs (dummy place (sort_with logical kind)) (λ ys. refl)
    (record { sort = sort-form logical kind; constant = refl; is_nothing = refl }) rest
inner-step all before name tail behind group scope its_name (roles.Role.Result logical kind) xs sound rest =
    one-more inner_names all (suc before) name tail behind group group (at scope its_name (roles.Role.Result logical kind)) xs (slots 0 (sort_with logical kind) []) (λ ys. refl)
    (record { sort = sort-form logical kind; constant = refl; is_nothing = refl }) rest
inner-step all before name tail behind group scope its_name (roles.Role.Function number) xs sound rest =
    elsewhere inner_names all (suc before) name tail behind group (at scope its_name (roles.Role.Function number)) xs (not-inside scope before sound) rest
inner-step all before name tail behind group scope its_name (roles.Role.Subroutine number) xs sound rest =
    elsewhere inner_names all (suc before) name tail behind group (at scope its_name (roles.Role.Subroutine number)) xs (not-inside scope before sound) rest

inner-agrees : (all : List Symbol) (before : ℕ) (name : Name) (tail : List (Name × Entity)) (behind : Option Symbol) (xs : List Symbol) → Agrees (entity_in tail name) (meaning_of_symbol all behind)
    → IsTrue (list_all is_sound xs) → (group : ℕ) → NamesAgree inner_names all (suc before) name tail behind group xs
inner-agrees all before name tail behind [] outer sound group = outer
inner-agrees all before name tail behind (x ∷ xs) outer sound group =
    let parts = and_parts (is_sound x) (list_all is_sound xs) sound in
    inner-step all before name tail behind group x.scope x.name x.role xs parts.0 (inner-agrees all before name tail behind xs outer parts.1)

-- The name of a unit. In the main program it is looked up once, and the second look tells nothing else.
or-itself : (o : Option Symbol) → or_symbol o o ≡ o
or-itself (Some x) = refl
or-itself None = refl

unit-agrees : (all : List Symbol) (unit : ℕ) (name : Name) → IsTrue (list_all is_sound all) → Agrees (entity (unit_scope all unit) name) (meaning_of_symbol all (symbol_seen all unit name))
unit-agrees all zero name sound = rw (or-itself (symbol_at all 0 name)) (main-agrees all name sound)
unit-agrees all (suc before) name sound =
    inner-agrees all before name (outer_names all 0 (symbols_in 0 all)) (symbol_at all 0 name) all (main-agrees all name sound) sound (first_local (symbols_in (suc before) all))

-- ---- indexes in front

indexes-agree : (indexes : List IndexName) (tail : List (Name × Entity)) (name : Name) (declared : Meaning) → Agrees (entity_in tail name) declared
    → Agrees (entity_in (map index_entity indexes ++ tail) name) (meaning_by (index_kind indexes name) declared)
indexes-agree [] tail name declared outer = outer
indexes-agree (index ∷ rest) tail name declared outer = by (bytes_eq index.name name) (indexes-agree rest tail name declared outer)
  where
    by : (b : Bool) → Agrees (entity_in (map index_entity rest ++ tail) name) (meaning_by (index_kind rest name) declared)
        → Agrees (cond b (index_entity index).1 (entity_in (map index_entity rest ++ tail) name)) (meaning_by (cond b (Some index.kind) (index_kind rest name)) declared)
    by true other = record { sort = refl; constant = refl; is_nothing = refl }
    by false other = other

pub meaning-agrees : (standing : Standing) (name : Name) → IsTrue (list_all is_sound standing.symbols) → Agrees (entity (scope_at standing) name) (meaning standing name)
meaning-agrees standing name sound =
    indexes-agree standing.indexes (unit_scope standing.symbols standing.unit).names name (meaning_of_symbol standing.symbols (symbol_seen standing.symbols standing.unit name))
    (unit-agrees standing.symbols standing.unit name sound)

-- ---- as the code finds them

pub form-declared : (form : Bool × Kind) → form_of_sort (declared_sort form) ≡ form_with form.0 form.1
form-declared (true, kind) = refl
form-declared (false, kind) = refl

-- The result of a function by its declared form.
pub result-form : (form : Option (Bool × Kind)) (result : Option Sort) → option_map declared_sort form ≡ result → option_map form_of_sort result ≡ option_map (λ f. form_with f.0 f.1) form
result-form None result is = ap (λ o. option_map form_of_sort o) (sym is)
result-form (Some form) result is = ap (λ o. option_map form_of_sort o) (sym is) ∙ ap (λ f. Some f) (form-declared form)

pub ruleset result_forms = (form-declared, result-form)

-- The meaning by two looks, at the unit and at the main program.
pub two-looks : (symbols : List Symbol) (unit : ℕ) (name : Name) → declared_meaning symbols unit name
    ≡ or_meaning (symbol_meaning symbols unit name) (or_meaning (symbol_meaning symbols 0 name) Meaning.Nothing)
two-looks symbols unit name = by (symbol_at symbols unit name) (symbol_at symbols 0 name)
  where
    by : (own outer : Option Symbol) → meaning_of_symbol symbols (or_symbol own outer)
        ≡ or_meaning (option_map (λ symbol. meaning_of_role symbols symbol.role) own) (or_meaning (option_map (λ symbol. meaning_of_role symbols symbol.role) outer) Meaning.Nothing)
    by (Some symbol) outer = refl
    by None (Some symbol) = refl
    by None None = refl

-- What is known of a name, by what it means.
pub name-known : (standing : Standing) (text : Name) → IsTrue (list_all is_sound standing.symbols)
    → known_of (scope_at standing) (syntax.name text) ≡ name_known (meaning standing text)
name-known standing text sound =
    let agrees = meaning-agrees standing text sound in
    rw agrees.sort (rw agrees.constant (rw (form-there (form_of_meaning (meaning standing text))) refl))
  where
    form-there : (form : Form) → form_of_sort (sort_of_form form) ≡ form
    form-there (Form.Whole kind) = refl
    form-there Form.Logical = refl
