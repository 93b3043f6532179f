-- What names are in the main program, in the block of a loop and in its limits.
use Rattle.std.proofs.Common.{◌≡◌, ◌⊎◌, inl, inr, ℕ, suc, Bool, true, false, ◌&&◌, cond, List, [], ◌∷◌, length, Option, Some, None, refl, sym, ap, ◌∙◌}
use Rattle.std.proofs.lemmas.Bool.{and_parts, false≢true}
use Rattle.std.proofs.lemmas.Slice.Eq.{bytes_eq-Decides}
use Rattle.std.specs.Prelude.{nat_eq, bytes_eq}
use Rattle.std.specs.List.{list_all}
use Rattle.dc_int.specs.declared.kind.Kind.{Kind}
use Rattle.dc_int.specs.Sorts.{whole, sort_with}
use Rattle.dc_tree.specs.declared.symbols.Role as roles
use Rattle.dc_tree.specs.declared.symbols.Symbol.{Symbol}
use Rattle.dc_form.specs.BuiltPrograms.{is_built_symbol, is_built_role}
use Rattle.dc_tree.specs.Entities.{Entity, outside, entity, entity_in, symbols_in, outer_names, main_scope}
use Rattle.dc_tree.specs.Statements.{Name}
use Rattle.dc_tree.specs.Symbols.{symbol_at}
use Rattle.dc_sorts.specs.declared.form.Form.{Form}
use Rattle.dc_sorts.specs.declared.meaning.Meaning.{Meaning}
use Rattle.dc_sorts.specs.Meanings.{meaning_of_symbol, or_symbol, declared_meaning}
use Rattle.dc_sorts.specs.Standing.{Standing, scope_at}
use Rattle.dc_actions.proofs.Alike.{IsIndex, known-alike}
use Rattle.dc_actions.proofs.Things.{Thing, a_variable, an_index, a_counter, a_constant, undeclared, entity_of, meaning_of, is_declared, bounds_in, symbol_bounds, IsThing, Knows}

-- ---- declared names

-- An entity and the symbol of its name are those of one thing.
record IsSeen (all : List Symbol) (its : Entity) (symbol : Option Symbol) : Type 0 where
  thing : Thing
  stands : its ≡ entity_of thing
  means : meaning_of_symbol all symbol ≡ meaning_of thing
  bounded : symbol_bounds symbol ≡ bounds_in thing
  declared : is_declared thing ≡ true

either-seen : (all : List Symbol) (b : Bool) (first others : Entity) (one : Symbol) (rest : Option Symbol) → IsSeen all first (Some one) → IsSeen all others rest
    → IsSeen all (cond b first others) (cond b (Some one) rest)
either-seen all true first others one rest here there = here
either-seen all false first others one rest here there = there

abbrev SeenFrom : List Symbol → ℕ → List Symbol → Name → Type 0
SeenFrom all number xs text = IsSeen all (entity_in (outer_names all number (symbols_in 0 xs)) text) (symbol_at xs 0 text)

seen-first : (all : List Symbol) (number next : ℕ) (x : Symbol) (xs : List Symbol) (text : Name) (its : Entity) → nat_eq x.scope 0 ≡ true
    → ((ys : List Symbol) → outer_names all number (x ∷ ys) ≡ (x.name, its) ∷ outer_names all next ys) → IsSeen all its (Some x) → SeenFrom all next xs text
    → SeenFrom all number (x ∷ xs) text
seen-first all number next x xs text its here opens one rest = by (nat_eq x.scope 0) here
  where
    by : (b : Bool) → b ≡ true
        → IsSeen all (entity_in (outer_names all number (cond b (x ∷ symbols_in 0 xs) (symbols_in 0 xs))) text) (cond (b && bytes_eq x.name text) (Some x) (symbol_at xs 0 text))
    by true is =
        rw (opens (symbols_in 0 xs)) (either-seen all (bytes_eq x.name text) its (entity_in (outer_names all next (symbols_in 0 xs)) text) x (symbol_at xs 0 text) one rest)
    by false is = absurd (false≢true is)

abbrev symbol_with : ℕ → Name → roles.Role → Symbol
symbol_with scope its_name role = record { scope = scope; name = its_name; role = role }

seen-by : (all : List Symbol) (number scope : ℕ) (its_name : Name) (role : roles.Role) (xs : List Symbol) (text : Name)
    → nat_eq scope 0 ≡ true → is_built_role role ≡ true → ((next : ℕ) → SeenFrom all next xs text)
    → SeenFrom all number (symbol_with scope its_name role ∷ xs) text
seen-by all number scope its_name (roles.Role.Variable is_logical its_kind bounds initial) xs text here built rest =
    seen-first all number (suc number) (symbol_with scope its_name (roles.Role.Variable is_logical its_kind bounds initial)) xs text (outside number (sort_with is_logical its_kind) bounds) here (λ ys. refl)
    (record { thing = a_variable number is_logical its_kind bounds; stands = refl; means = refl; bounded = refl; declared = refl }) (rest (suc number))
seen-by all number scope its_name (roles.Role.Constant is_logical its_kind z) xs text here built rest =
    seen-first all number number (symbol_with scope its_name (roles.Role.Constant is_logical its_kind z)) xs text (entity_of (a_constant is_logical its_kind z)) here (λ ys. refl)
    (record { thing = a_constant is_logical its_kind z; stands = refl; means = refl; bounded = refl; declared = refl }) (rest number)
seen-by all number scope its_name (roles.Role.Function procedure) xs text here built rest = absurd (false≢true built)
seen-by all number scope its_name (roles.Role.Subroutine procedure) xs text here built rest = absurd (false≢true built)
seen-by all number scope its_name (roles.Role.Dummy place is_logical its_kind intent) xs text here built rest = absurd (false≢true built)
seen-by all number scope its_name (roles.Role.Result is_logical its_kind) xs text here built rest = absurd (false≢true built)

seen-from : (all : List Symbol) (text : Name) (xs : List Symbol) → list_all is_built_symbol xs ≡ true → (number : ℕ) → SeenFrom all number xs text
seen-from all text [] built number = record { thing = undeclared; stands = refl; means = refl; bounded = refl; declared = refl }
seen-from all text (x ∷ xs) built number =
    let parts = and_parts (is_built_symbol x) (list_all is_built_symbol xs) built in
    let own = and_parts (nat_eq x.scope 0) (is_built_role x.role) parts.0 in
    seen-by all number x.scope x.name x.role xs text own.0 own.1 (seen-from all text xs parts.1)

or-same : (o : Option Symbol) → or_symbol o o ≡ o
or-same None = refl
or-same (Some x) = refl

-- ---- the main program

abbrev pub main_standing : List Symbol → Standing
main_standing symbols = record { symbols = symbols; unit = 0; indexes = []; counted = []; callees = [] }

module _ (symbols : List Symbol) (built : list_all is_built_symbol symbols ≡ true) where
  main-thing : (text : Name) → IsThing (main_standing symbols) (main_scope symbols) text
  main-thing text =
      let seen = seen-from symbols text symbols built 0 in
      record {
        thing = seen.thing;
        stands = seen.stands;
        means = ap (meaning_of_symbol symbols) (or-same (symbol_at symbols 0 text)) ∙ seen.means;
        bounded = λ declared. ap symbol_bounds (or-same (symbol_at symbols 0 text)) ∙ seen.bounded;
      }

  pub main-knows : Knows (main_standing symbols) (main_scope symbols)
  main-knows = record { names = main-thing; sorts = λ tree. refl }

-- ---- a loop

abbrev pub loop_standing : List Symbol → Name → Kind → Standing
loop_standing symbols text its_kind =
    record { symbols = symbols; unit = 0; indexes = record { name = text; kind = its_kind } ∷ []; counted = []; callees = [] }

module _ (symbols : List Symbol) (built : list_all is_built_symbol symbols ≡ true) (index : Name) (number : ℕ) (its_kind : Kind)
    (around : entity (main_scope symbols) index ≡ outside number (whole its_kind) []) where
  block-by : (text : Name) (b : Bool) → bytes_eq index text ≡ b → IsThing (loop_standing symbols index its_kind) (scope_at (loop_standing symbols index its_kind)) text
  block-by text true is = record { thing = an_index 0 its_kind; stands = rw is refl; means = rw is refl; bounded = λ declared. absurd (false≢true declared) }
  block-by text false is =
      let its = main-thing symbols built text in
      record { thing = its.thing; stands = rw is its.stands; means = rw is its.means; bounded = its.bounded }

  pub block-knows : Knows (loop_standing symbols index its_kind) (scope_at (loop_standing symbols index its_kind))
  block-knows = record { names = λ text. block-by text (bytes_eq index text) refl; sorts = λ tree. refl }

  -- around the loop, where the rules see the index
  limit-by : (text : Name) (b : Bool) → bytes_eq index text ≡ b → IsThing (loop_standing symbols index its_kind) (main_scope symbols) text
  limit-by text true is =
      let same = (bytes_eq-Decides index text).0 is in
      record {
        thing = a_counter number its_kind;
        stands = ap (entity (main_scope symbols)) (sym same) ∙ around;
        means = rw is refl;
        bounded = λ declared. absurd (false≢true declared);
      }
  limit-by text false is =
      let its = main-thing symbols built text in record { thing = its.thing; stands = its.stands; means = rw is its.means; bounded = its.bounded }

  index-alike : (text : Name) (b : Bool) → bytes_eq index text ≡ b
      → (entity (scope_at (loop_standing symbols index its_kind)) text ≡ entity (main_scope symbols) text)
      ⊎ IsIndex (entity (scope_at (loop_standing symbols index its_kind)) text) (entity (main_scope symbols) text)
  index-alike text true is =
      let same = (bytes_eq-Decides index text).0 is in
      inr (record { group = 0; number = number; its_kind = its_kind; inside = rw is refl; around = ap (entity (main_scope symbols)) (sym same) ∙ around })
  index-alike text false is = inl (rw is refl)

  pub limits-know : Knows (loop_standing symbols index its_kind) (main_scope symbols)
  limits-know = record {
    names = λ text. limit-by text (bytes_eq index text) refl;
    sorts = known-alike (scope_at (loop_standing symbols index its_kind)) (main_scope symbols) (λ text. index-alike text (bytes_eq index text) refl);
  }

-- The meaning of an index around its loop: that of the variable.
index-of : (t : Thing) (number : ℕ) (its_kind : Kind) → is_declared t ≡ true → entity_of t ≡ outside number (whole its_kind) []
    → (rank : ℕ) × (meaning_of t ≡ Meaning.Variable (Form.Whole its_kind) rank)
index-of (a_variable variable false kind bounds) number its_kind declared e =
    let same : kind ≡ its_kind = cc in (length bounds, ap (λ (one : Kind). Meaning.Variable (Form.Whole one) (length bounds)) same)
index-of (a_variable variable true kind bounds) number its_kind declared e = let none : ⊥ = cc in absurd none
index-of (an_index group kind) number its_kind declared e = absurd (false≢true declared)
index-of (a_counter variable kind) number its_kind declared e = absurd (false≢true declared)
index-of (a_constant is_logical kind z) number its_kind declared e = let none : ⊥ = cc in absurd none
index-of undeclared number its_kind declared e = let none : ⊥ = cc in absurd none

pub index-means : (symbols : List Symbol) → list_all is_built_symbol symbols ≡ true → (index : Name) (number : ℕ) (its_kind : Kind)
    → entity (main_scope symbols) index ≡ outside number (whole its_kind) []
    → (rank : ℕ) × (declared_meaning symbols 0 index ≡ Meaning.Variable (Form.Whole its_kind) rank)
index-means symbols built index number its_kind around =
    let seen = seen-from symbols index symbols built 0 in
    let its = index-of seen.thing number its_kind seen.declared (sym seen.stands ∙ around) in
    (its.0, ap (meaning_of_symbol symbols) (or-same (symbol_at symbols 0 index)) ∙ seen.means ∙ its.1)
