-- What a statement of a block may define: names that aren't an index, which stand for no entity of the block.
use Rattle.std.proofs.Common.{◌≡◌, ℕ, suc, Bool, true, false, cond, List, [], ◌∷◌, map, Option, Some, None, refl, sym, ap, ◌∙◌}
use Rattle.std.specs.Prelude.{not, bytes_eq, if◌then◌else◌, IsTrue}
use Rattle.std.specs.List.{list_all}
use Rattle.std.proofs.lemmas.Bool.{and_parts, false≢true}
use Rattle.std.proofs.lemmas.Slice.Eq.{bytes_eq-Decides}
use Rattle.dc_int.specs.Sorts.{Sort}
use Rattle.dc_tree.specs.declared.symbols.Role as roles
use Rattle.dc_tree.specs.declared.symbols.Symbol.{Symbol}
use Rattle.dc_tree.specs.Entities.{Entity, entity, entity_in, result_in, procedure_entity, symbols_in, outer_names}
use Rattle.dc_tree.specs.Statements.{Name}
use Rattle.dc_sorts.specs.declared.standing.IndexName.{IndexName}
use Rattle.dc_sorts.specs.declared.standing.Standing as code
use Rattle.dc_sorts.specs.Standing.{index_kind, standing_of, scope_at}
use Rattle.dc_entities.proofs.Naming.{outer-found}
use Rattle.dc_meaning.specs.WalkScope.{is_slots, is_spared_name, index_names}
use Rattle.dc_meaning.proofs.Storing.{is_reduced}

either : (b : Bool) (one other : Entity) → is_slots one ≡ false → is_slots other ≡ false → is_slots (if b then one else other) ≡ false
either true one other first second = first
either false one other first second = second

of-procedure : (number : ℕ) (symbols : List Symbol) (found : Option Sort) → result_in symbols ≡ found → is_slots (procedure_entity number symbols) ≡ false
of-procedure number symbols (Some sort) is = rw is refl
of-procedure number symbols None is = rw is refl

-- No name of a main program stands for an entity of a block.
pub no-slots : (all : List Symbol) (number : ℕ) (symbols : List Symbol) (name : Name) → is_slots (entity_in (outer_names all number symbols) name) ≡ false
no-slots all number [] name = refl
no-slots all number (symbol ∷ rest) name = by symbol.role refl (no-slots all (suc number) rest name) (no-slots all number rest name)
  where
    by : (role : roles.Role) → symbol.role ≡ role → is_slots (entity_in (outer_names all (suc number) rest) name) ≡ false → is_slots (entity_in (outer_names all number rest) name) ≡ false
        → is_slots (entity_in (outer_names all number (symbol ∷ rest)) name) ≡ false
    by (roles.Role.Variable logical kind bounds initial) is behind others = rw is (either (bytes_eq symbol.name name) _ _ refl behind)
    by (roles.Role.Constant logical kind value) is behind others = rw is (either (bytes_eq symbol.name name) _ _ refl others)
    by (roles.Role.Function procedure) is behind others =
        rw is (either (bytes_eq symbol.name name) _ _ (of-procedure procedure (symbols_in procedure all) (result_in (symbols_in procedure all)) refl) others)
    by (roles.Role.Subroutine procedure) is behind others =
        rw is (either (bytes_eq symbol.name name) _ _ (of-procedure procedure (symbols_in procedure all) (result_in (symbols_in procedure all)) refl) others)
    by (roles.Role.Dummy place logical kind intent) is behind others = rw is others
    by (roles.Role.Result logical kind) is behind others = rw is others

other-name : (index name : Name) (b : Bool) → bytes_eq index name ≡ b → not (bytes_eq name index) ≡ true → b ≡ false
other-name index name false is other = refl
other-name index name true is other =
    let same = (bytes_eq-Decides index name).0 is in
    let back : bytes_eq name index ≡ true = (bytes_eq-Decides name index).1 (sym same) in
    absurd (false≢true (sym (ap not back) ∙ other))

-- A name that isn't an index.
pub no-kind : (indexes : List IndexName) (name : Name) → list_all (λ index. not (bytes_eq name index)) (map (λ (index : IndexName). index.name) indexes) ≡ true → index_kind indexes name ≡ None
no-kind [] name other = refl
no-kind (index ∷ rest) name other =
    let both = and_parts (not (bytes_eq name index.name)) (list_all (λ i. not (bytes_eq name i)) (map (λ (i : IndexName). i.name) rest)) other in
    ap (λ (b : Bool). cond b (Some index.kind) (index_kind rest name)) (other-name index.name name (bytes_eq index.name name) refl both.0) ∙ no-kind rest name both.1

pub defines-outside : (standing : code.Standing) (name : Name) → IsTrue (is_spared_name (index_names standing) name) → standing.unit ≡ 0
    → is_slots (entity (scope_at (standing_of standing)) name) ≡ false
defines-outside standing name other main =
    ap is_slots (sym (outer-found standing name (no-kind standing.indexes.now name other) main)) ∙ no-slots standing.symbols.now 0 (symbols_in 0 standing.symbols.now) name

-- ---- nor for a REDUCE variable

either-plain : (b : Bool) (one other : Entity) → is_reduced one ≡ false → is_reduced other ≡ false → is_reduced (if b then one else other) ≡ false
either-plain true one other first second = first
either-plain false one other first second = second

plain-procedure : (number : ℕ) (symbols : List Symbol) (found : Option Sort) → result_in symbols ≡ found → is_reduced (procedure_entity number symbols) ≡ false
plain-procedure number symbols (Some sort) is = rw is refl
plain-procedure number symbols None is = rw is refl

pub none-reduced : (all : List Symbol) (number : ℕ) (symbols : List Symbol) (name : Name) → is_reduced (entity_in (outer_names all number symbols) name) ≡ false
none-reduced all number [] name = refl
none-reduced all number (symbol ∷ rest) name = by symbol.role refl (none-reduced all (suc number) rest name) (none-reduced all number rest name)
  where
    by : (role : roles.Role) → symbol.role ≡ role → is_reduced (entity_in (outer_names all (suc number) rest) name) ≡ false → is_reduced (entity_in (outer_names all number rest) name) ≡ false
        → is_reduced (entity_in (outer_names all number (symbol ∷ rest)) name) ≡ false
    by (roles.Role.Variable logical kind bounds initial) is behind others = rw is (either-plain (bytes_eq symbol.name name) _ _ refl behind)
    by (roles.Role.Constant logical kind value) is behind others = rw is (either-plain (bytes_eq symbol.name name) _ _ refl others)
    by (roles.Role.Function procedure) is behind others =
        rw is (either-plain (bytes_eq symbol.name name) _ _ (plain-procedure procedure (symbols_in procedure all) (result_in (symbols_in procedure all)) refl) others)
    by (roles.Role.Subroutine procedure) is behind others =
        rw is (either-plain (bytes_eq symbol.name name) _ _ (plain-procedure procedure (symbols_in procedure all) (result_in (symbols_in procedure all)) refl) others)
    by (roles.Role.Dummy place logical kind intent) is behind others = rw is others
    by (roles.Role.Result logical kind) is behind others = rw is others

pub defines-plain : (standing : code.Standing) (name : Name) → IsTrue (is_spared_name (index_names standing) name) → standing.unit ≡ 0
    → is_reduced (entity (scope_at (standing_of standing)) name) ≡ false
defines-plain standing name other main =
    ap is_reduced (sym (outer-found standing name (no-kind standing.indexes.now name other) main)) ∙ none-reduced standing.symbols.now 0 (symbols_in 0 standing.symbols.now) name
