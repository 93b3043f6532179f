-- What the names of a main program stand for is in its code.
use Rattle.std.proofs.Common.{◌≡◌, ℕ, zero, suc, ◌+◌, Bool, true, false, List, [], ◌∷◌, Some, refl, ap, ◌∙◌, subst, arith}
use Rattle.std.proofs.lemmas.Bool.{and_parts, leb-true}
use Rattle.std.proofs.lemmas.Option.{slice_get-map}
use Rattle.std.specs.Prelude.{ℤ, ◌≤◌, pos, negsuc, int_le, nat_eq, bytes_eq, map, option_map, slice_get, if◌then◌else◌}
use Rattle.std.specs.List.{list_all}
use Rattle.dc_int.specs.declared.kind.Kind.{Kind}
use Rattle.dc_int.specs.Kinds.{value_fits, is_of_kind, is_truth_value}
use Rattle.dc_int.specs.Reductions.{truth, number_of_truth}
use Rattle.dc_int.specs.Sorts.{Sort, whole, logical, kind_of, sort_with}
use Rattle.dc_int.specs.Store.{Bounds}
use Rattle.dc_code.specs.Codes.{CodeLists}
use Rattle.dc_code.specs.Frames.{Frame}
use Rattle.dc_tree.specs.declared.symbols.Role as roles
use Rattle.dc_tree.specs.declared.symbols.Symbol.{Symbol}
use Rattle.dc_form.specs.BuiltPrograms.{is_built_role, is_built_symbol}
use Rattle.dc_tree.specs.Entities.{Entity, outside, slots, dummy, constant, function, subroutine, reduction, nothing, Scope, entity, entity_in, symbols_in, outer_names}
use Rattle.dc_tree.specs.Statements.{Name}
use Rattle.dc_tree.specs.Symbols.{role_fits, is_sound, stands_in}
use Rattle.dc_meaning.specs.Acts.{State}
use Rattle.dc_meaning.specs.Concurrent.{Outside, is_reduction}
use Rattle.dc_meaning.specs.Programs.{outsides_from}
use Rattle.dc_lower.specs.Lowered.{is_truth, shape_of}
use Rattle.dc_actions.specs.Placed.{HaveNames, IsOutside, IsGroup}

-- ---- what a code and a frame have of an entity

-- Of an outside variable, of a named truth, and of a group by what is asked of it; nothing else stands in the programs
-- that are run.
abbrev pub Named : CodeLists → (ℕ → Sort → Bounds → Type 0) → Entity → Type 0
Named code Inner (outside variable sort bounds) = IsOutside code variable sort bounds
Named code Inner (slots group sort bounds) = Inner group sort bounds
Named code Inner (constant (whole its_kind) z) = Unit {0}
Named code Inner (constant logical z) = number_of_truth (truth z) ≡ z
Named code Inner nothing = Unit {0}
Named code Inner (dummy place sort) = ⊥
Named code Inner (function procedure sort) = ⊥
Named code Inner (subroutine procedure intents) = ⊥
Named code Inner (reduction variable op sort bounds) = ⊥

pub named-names : (code : CodeLists) (Inner : ℕ → Sort → Bounds → Type 0) (scope : Scope) (frame : Frame) (state : State)
    → ((text : Name) → Named code Inner (entity scope text)) → ((group : ℕ) (sort : Sort) (bounds : Bounds) → Inner group sort bounds → IsGroup code frame state group sort bounds)
    → HaveNames code scope frame state
named-names code Inner scope frame state named inner = record {
  outer = λ text variable sort bounds e. subst (Named code Inner) e (named text);
  inner = λ text group sort bounds e. inner group sort bounds (subst (Named code Inner) e (named text));
  truths = λ text z e. subst (Named code Inner) e (named text);
}

-- It isn't REDUCE.
pub named-whole : (code : CodeLists) (Inner : ℕ → Sort → Bounds → Type 0) (e : Entity) → Named code Inner e → is_reduction e ≡ false
named-whole code Inner (outside variable sort bounds) named = refl
named-whole code Inner (slots group sort bounds) named = refl
named-whole code Inner (constant sort z) named = refl
named-whole code Inner nothing named = refl
named-whole code Inner (dummy place sort) named = absurd named
named-whole code Inner (function procedure sort) named = absurd named
named-whole code Inner (subroutine procedure intents) named = absurd named
named-whole code Inner (reduction variable op sort bounds) named = absurd named

-- ---- outside variables

-- The outside variables of a code are these.
pub record HasOutsides (code : CodeLists) (outsides : List Outside) : Type 0 where
  pub shapes : code.shapes ≡ map shape_of outsides
  pub bounds : code.bounds ≡ map (λ (variable : Outside). variable.bounds) outsides

sort-again : (sort : Sort) → sort_with (is_truth sort) (kind_of sort) ≡ sort
sort-again (whole its_kind) = refl
sort-again logical = refl

pub outside-is : (code : CodeLists) (outsides : List Outside) (variable : ℕ) (found : Outside) → HasOutsides code outsides → slice_get outsides variable ≡ Some found
    → IsOutside code variable found.sort found.bounds
outside-is code outsides variable found has at = record {
  bounds = ap (λ all. slice_get all variable) has.bounds ∙ slice_get-map (λ (o : Outside). o.bounds) outsides variable ∙ ap (option_map (λ (o : Outside). o.bounds)) at;
  shape = shape_of found;
  shaped = ap (λ all. slice_get all variable) has.shapes ∙ slice_get-map shape_of outsides variable ∙ ap (option_map shape_of) at;
  elements = refl;
  sorted = sort-again found.sort;
}

-- ---- named truths

truth-stays : (kind : Kind) (z : ℤ) → value_fits kind true z ≡ true → number_of_truth (truth z) ≡ z
truth-stays kind z fits = by z (and_parts (is_of_kind kind z) (is_truth_value z) fits).1
  where
    by : (z : ℤ) → is_truth_value z ≡ true → number_of_truth (truth z) ≡ z
    by (pos zero) e = refl
    by (pos (suc zero)) e = refl
    by (pos (suc (suc n))) e =
        let below : suc (suc n) ≤ 1 = leb-true (suc (suc n)) 1 (and_parts (int_le (pos 0) (pos (suc (suc n)))) (int_le (pos (suc (suc n))) (pos 1)) e).1 in
        absurd (omega arith)
    by (negsuc n) e = cc

-- ---- the names of a main program

abbrev are_built_roles : List Symbol → Bool
are_built_roles symbols = list_all (λ symbol. is_built_role symbol.role) symbols

abbrev roles_fit : List Symbol → Bool
roles_fit symbols = list_all (λ symbol. role_fits symbol.role) symbols

pub roles-built : (symbols : List Symbol) → list_all is_built_symbol symbols ≡ true → are_built_roles (symbols_in 0 symbols) ≡ true
roles-built [] built = refl
roles-built (first ∷ rest) built =
    let both = and_parts (is_built_symbol first) (list_all is_built_symbol rest) built in
    let own = and_parts (nat_eq first.scope 0) (is_built_role first.role) both.0 in
    rw (own.0, own.1) (roles-built rest both.1)

pub roles-fit : (symbols : List Symbol) → list_all is_sound symbols ≡ true → roles_fit (symbols_in 0 symbols) ≡ true
roles-fit [] sound = refl
roles-fit (first ∷ rest) sound =
    let both = and_parts (is_sound first) (list_all is_sound rest) sound in
    let own = and_parts (role_fits first.role) (stands_in first.scope first.role) both.0 in
    by (nat_eq first.scope 0) refl own.0 (roles-fit rest both.1)
  where
    by : (b : Bool) → nat_eq first.scope 0 ≡ b → role_fits first.role ≡ true → roles_fit (symbols_in 0 rest) ≡ true → roles_fit (symbols_in 0 (first ∷ rest)) ≡ true
    by true is own others = rw (is, own) others
    by false is own others = rw is others

module _ (Good : Entity → Type 0) (none : Good nothing) (constants : (is_logical : Bool) (its_kind : Kind) (z : ℤ) → value_fits its_kind is_logical z ≡ true → Good (constant (sort_with is_logical its_kind) z))
    (all : List Symbol) where
  either-good : (one other : Entity) (b : Bool) → Good one → Good other → Good (if b then one else other)
  either-good one other true first second = first
  either-good one other false first second = second

  -- The outside variables of these symbols are good, counted from a number on.
  abbrev AreGood : ℕ → List Symbol → Type 0
  AreGood number symbols = (k : ℕ) (found : Outside) → slice_get (outsides_from number symbols) k ≡ Some found → (n : ℕ) → n ≡ number + k → Good (outside n found.sort found.bounds)

  pub names-good : (number : ℕ) (symbols : List Symbol) → are_built_roles symbols ≡ true → roles_fit symbols ≡ true → AreGood number symbols → (text : Name) → Good (entity_in (outer_names all number symbols) text)
  names-good number [] built fits good text = none
  names-good number (symbol ∷ rest) built fits good text =
      let both = and_parts (is_built_role symbol.role) (are_built_roles rest) built in
      let fit = and_parts (role_fits symbol.role) (roles_fit rest) fits in
      by symbol.role refl both.0 fit.0 (λ n later. names-good n rest both.1 fit.1 later text)
    where
      by : (role : roles.Role) → symbol.role ≡ role → is_built_role role ≡ true → role_fits role ≡ true → ((n : ℕ) → AreGood n rest → Good (entity_in (outer_names all n rest) text))
          → Good (entity_in (outer_names all number (symbol ∷ rest)) text)
      by (roles.Role.Variable is_logical its_kind bounds initial) is built fit behind =
          let here : Good (outside number (sort_with is_logical its_kind) bounds) =
          good 0 (record { name = symbol.name; number = number; sort = sort_with is_logical its_kind; bounds = bounds }) (rw is refl) number (omega arith) in
          let later : AreGood (suc number) rest = λ k found at n same. good (suc k) found (rw is at) n (omega (arith, same)) in
          rw is (either-good (outside number (sort_with is_logical its_kind) bounds) (entity_in (outer_names all (suc number) rest) text) (bytes_eq symbol.name text) here (behind (suc number) later))
      by (roles.Role.Constant is_logical its_kind value) is built fit behind =
          let later : AreGood number rest = λ k found at n same. good k found (rw is at) n same in
          rw is
          (either-good (constant (sort_with is_logical its_kind) value) (entity_in (outer_names all number rest) text) (bytes_eq symbol.name text) (constants is_logical its_kind value fit) (behind number later))
      by role is built fit behind = cc

-- The names of a main program are in a code with its outside variables, whatever is asked of groups.
pub main-named : (code : CodeLists) (Inner : ℕ → Sort → Bounds → Type 0) (symbols : List Symbol) → HasOutsides code (outsides_from 0 (symbols_in 0 symbols))
    → list_all is_built_symbol symbols ≡ true → list_all is_sound symbols ≡ true → (text : Name) → Named code Inner (entity_in (outer_names symbols 0 (symbols_in 0 symbols)) text)
main-named code Inner symbols has built sound text =
    names-good (Named code Inner) tt constants symbols 0 (symbols_in 0 symbols) (roles-built symbols built) (roles-fit symbols sound)
    (λ k found at n same. let here : n ≡ k = omega (arith, same) in rw here (outside-is code (outsides_from 0 (symbols_in 0 symbols)) k found has at)) text
  where
    constants : (is_logical : Bool) (its_kind : Kind) (z : ℤ) → value_fits its_kind is_logical z ≡ true → Named code Inner (constant (sort_with is_logical its_kind) z)
    constants true its_kind z fits = truth-stays its_kind z fits
    constants false its_kind z fits = tt
