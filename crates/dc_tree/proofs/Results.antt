-- The result of a scope, and what one more symbol makes of it; and sound symbols.
use Rattle.std.proofs.Common.{◌≡◌, ℕ, Bool, true, false, cond, eqb, List, [], ◌∷◌, ◌++◌, Option, Some, None, refl, sym, ap, ◌∙◌}
use Rattle.std.specs.Prelude.{◌<◌, IsTrue, filter_map, length, option_map, slice_get, slice_set}
use Rattle.std.specs.List.{list_all, cons_option}
use Rattle.std.specs.Option.{option_or}
use Rattle.std.proofs.lemmas.Bool.{and_from}
use Rattle.std.proofs.lemmas.List.{append-nil}
use Rattle.std.proofs.lemmas.List.Elements.{filter-append, filter_map-append}
use Rattle.std.proofs.lemmas.List.Folds.{list_all-append}
use Rattle.dc_int.specs.declared.kind.Kind.{Kind}
use Rattle.dc_int.specs.Sorts.{Sort}
use Rattle.dc_tree.specs.declared.symbols.NamedScope.{NamedScope}
use Rattle.dc_tree.specs.declared.symbols.Symbol.{Symbol}
use Rattle.dc_tree.specs.Entities.{head_of, symbols_in, result_of, result_in}
use Rattle.dc_tree.specs.Places.{HasResults, HasSameResults, AddsResult}
use Rattle.dc_tree.specs.Symbols.{declared_sort, is_sound}
use Rattle.dc_tree.proofs.Places.{changed}

-- The symbols of a scope with one more symbol behind: it is the last of its own scope.
pub symbols-one_more : (s : ℕ) (xs : List Symbol) (x : Symbol) → symbols_in s (xs ++ x ∷ []) ≡ symbols_in s xs ++ cond (eqb x.scope s) (x ∷ []) []
symbols-one_more s xs x = filter-append (λ (y : Symbol). eqb y.scope s) xs (x ∷ [])

head-append : {A : Type 0} (xs ys : List A) → head_of (xs ++ ys) ≡ option_or (head_of xs) (head_of ys)
head-append [] ys = refl
head-append (x ∷ xs) ys = refl

head-option : {A : Type 0} (o : Option A) → head_of (cons_option o []) ≡ o
head-option None = refl
head-option (Some x) = refl

-- Among some symbols and one more, the result is the first that there is.
pub result-one_more : (xs : List Symbol) (x : Symbol) → result_in (xs ++ x ∷ []) ≡ option_or (result_in xs) (result_of x)
result-one_more xs x =
    ap (λ (sorts : List Sort). head_of sorts) (filter_map-append result_of xs (x ∷ [])) ∙ head-append (filter_map result_of xs) (filter_map result_of (x ∷ []))
    ∙ ap (λ o. option_or (result_in xs) o) (head-option (result_of x))

-- the sort of the first form that there is
map_or : (first second : Option (Bool × Kind)) → option_map declared_sort (option_or first second) ≡ option_or (option_map declared_sort first) (option_map declared_sort second)
map_or None second = refl
map_or (Some form) second = refl

-- a result where there was none
pub result_noted : (scopes : List NamedScope) (i : ℕ) (form : Option (Bool × Kind)) (old new : NamedScope) → i < length scopes → slice_get scopes i ≡ Some old
    → new.result ≡ option_or old.result form → AddsResult scopes i form (slice_set scopes i new)
result_noted scopes i form old new within at is =
    changed (λ own. option_map declared_sort own.result) (λ o. option_or o (option_map declared_sort form)) scopes i old new within at
    (ap (λ first. option_map declared_sort first) is ∙ map_or old.result form)

-- one more symbol in the list, whose result is noted
pub results-one_more : (before after : List NamedScope) (xs : List Symbol) (x : Symbol) (form : Option (Bool × Kind)) → HasResults before xs → AddsResult before x.scope form after
    → option_map declared_sort form ≡ result_of x → HasResults after (xs ++ x ∷ [])
results-one_more before after xs x form results adds form_is s =
    adds s ∙ ap (λ o. cond (eqb x.scope s) (option_or o (option_map declared_sort form)) o) (results s)
    ∙ ap (λ own. cond (eqb x.scope s) (option_or (result_in (symbols_in s xs)) own) (result_in (symbols_in s xs))) form_is ∙ by (eqb x.scope s)
    ∙ ap (λ own. result_in own) (sym (symbols-one_more s xs x))
  where
    by : (b : Bool) → cond b (option_or (result_in (symbols_in s xs)) (result_of x)) (result_in (symbols_in s xs)) ≡ result_in (symbols_in s xs ++ cond b (x ∷ []) [])
    by true = sym (result-one_more (symbols_in s xs) x)
    by false = ap (λ own. result_in own) (sym (append-nil (symbols_in s xs)))

-- the same, where the list is known by an equation
pub results-grown : (old mid new last : List NamedScope) (xs ys : List Symbol) (x : Symbol) (form : Option (Bool × Kind)) → HasResults old xs → HasSameResults old mid → HasSameResults mid new
    → AddsResult new x.scope form last → option_map declared_sort form ≡ result_of x → ys ≡ xs ++ x ∷ [] → HasResults last ys
results-grown old mid new last xs ys x form results opened named adds form_is ys_is s =
    let before : HasResults new xs = λ t. named t ∙ opened t ∙ results t in
    results-one_more new last xs x form before adds form_is s ∙ ap (λ (l : List Symbol). result_in (symbols_in s l)) (sym ys_is)

pub sound-one_more : (xs : List Symbol) (x : Symbol) → IsTrue (list_all is_sound xs) → IsTrue (is_sound x) → IsTrue (list_all is_sound (xs ++ x ∷ []))
sound-one_more xs x all own = list_all-append is_sound xs (x ∷ []) ∙ and_from (list_all is_sound xs) (list_all is_sound (x ∷ [])) all (and_from (is_sound x) true own refl)
