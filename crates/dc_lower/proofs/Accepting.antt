-- A program that breaks no rule is one whose code is made.
use Rattle.std.proofs.Common.{◌≡◌, true, false, ◌&&◌, List, [], ◌∷◌, length, is_none, IsTrue, refl, ap, subst}
use Rattle.std.proofs.lemmas.Bool.{and_parts, false≢true}
use Rattle.std.specs.Prelude.{nat_le}
use Rattle.std.specs.List.{list_all}
use Rattle.dc_tree.specs.declared.symbols.Symbol.{Symbol}
use Rattle.dc_tree.specs.Blocks.{Subprogram, Source}
use Rattle.dc_form.specs.BuiltPrograms.{are_built_items, is_built_symbol, are_built_symbols, greatest_names, greatest_elements, elements_of_all, is_built}
use Rattle.dc_tree.specs.Entities.{main_scope}
use Rattle.dc_tree.specs.Symbols.{is_sound}
use Rattle.dc_sorts.specs.declared.meaning.Meaning.{Meaning}
use Rattle.dc_declare.specs.Declarations.{symbols_of, declaration_findings}
use Rattle.dc_scope.specs.Answer.{scope_findings}
use Rattle.dc_scope.specs.Scope as scopes
use Rattle.dc_types.specs.Types as types
use Rattle.dc_meaning.specs.Programs.{surroundings}
use Rattle.dc_lower.specs.Lowerable.{IsLowerable}
use Rattle.dc_lower.proofs.Blocking.{main-passes}
use Rattle.dc_lower.proofs.Looping.{loops-pass}
use Rattle.dc_actions.proofs.Places.{main_standing}
use Rattle.dc_actions.proofs.Unbroken.{both-none}

-- What is built has no procedures.
record IsMain (symbols : List Symbol) (source : Source) : Type 0 where
  alone : source.procedures ≡ []
  named : list_all is_built_symbol symbols ≡ true
  items : are_built_items (main_scope symbols) source.body ≡ true

main-alone : (symbols : List Symbol) (source : Source) → is_built symbols source ≡ true → IsMain symbols source
main-alone symbols source built = by source.procedures refl
  where
    by : (procedures : List Subprogram) → source.procedures ≡ procedures → IsMain symbols source
    by [] is =
        let given : (is_none source.contains && (are_built_symbols symbols && are_built_items (main_scope symbols) source.body)) ≡ true = rw is at built in
        let one = and_parts (is_none source.contains) (are_built_symbols symbols && are_built_items (main_scope symbols) source.body) given in
        let two = and_parts (are_built_symbols symbols) (are_built_items (main_scope symbols) source.body) one.1 in
        let sized = and_parts (nat_le (length symbols) greatest_names) (list_all is_built_symbol symbols && nat_le (elements_of_all symbols) greatest_elements) two.0 in
        let each = and_parts (list_all is_built_symbol symbols) (nat_le (elements_of_all symbols) greatest_elements) sized.1 in
        record { alone = is; named = each.0; items = two.1 }
    by (first ∷ rest) is = let never : false ≡ true = rw is at built in absurd (false≢true never)

-- By the findings of its statements.
pub statements-pass : (symbols : List Symbol) (source : Source) → scopes.statement_findings symbols source ≡ [] → types.type_findings symbols source ≡ []
    → IsTrue (is_built symbols source) → IsTrue (list_all is_sound symbols) → IsLowerable symbols source
statements-pass symbols source s t built sound =
    let its = main-alone symbols source built in
    let callees = types.callees_from symbols 1 source.procedures in
    let found = both-none (scopes.unit_findings symbols 0 source.body) (scopes.procedures_findings symbols 1 source.procedures) s in
    let place = types.standing_in symbols callees 0 in
    let whole = both-none (types.unit_findings place source.front source.body) (types.procedures_findings symbols callees 1 source.procedures) t in
    let parts = both-none (types.front_numbers place source.front) (types.items_findings place source.body) whole.0 in
    let sorted : types.items_findings (main_standing symbols) source.body ≡ [] =
    subst (λ (given : List (List Meaning)). types.items_findings (types.standing_in symbols given 0) source.body ≡ []) (ap (types.callees_from symbols 1) its.alone) parts.1 in
    let passes = main-passes symbols its.named source.body its.items found.0 sorted in
    record {
      built = built;
      sound = sound;
      lowered = passes.lowered;
      typed = passes.typed;
      loops = loops-pass symbols its.named (surroundings symbols source 0) 0 source.body its.items found.0 sorted;
    }

-- By all findings.
pub program-passes : (source : Source) → scope_findings source ≡ [] → types.type_findings (symbols_of source) source ≡ []
    → IsTrue (is_built (symbols_of source) source) → IsTrue (list_all is_sound (symbols_of source)) → IsLowerable (symbols_of source) source
program-passes source s t built sound =
    let found = both-none (declaration_findings source) (scopes.statement_findings (symbols_of source) source) s in
    statements-pass (symbols_of source) source found.1 t built sound
