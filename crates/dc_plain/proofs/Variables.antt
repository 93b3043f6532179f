-- The walker's variables, as a store.
use Rattle.std.proofs.Common.{◌≡◌, ℕ, ◌≤◌, List, length, map, Option, Some, None, sym, ap, ◌∙◌, slice_get, slice_set}
use Rattle.std.specs.Prelude.{ℤ, option_map, option_and_then}
use Rattle.std.proofs.lemmas.Option.{slice_get-map}
use Rattle.dc_int.specs.declared.access.ElementId.{ElementId}
use Rattle.dc_int.specs.Store as stores
use Rattle.dc_int.specs.Store.{Store, cell_of, value_at, put_at, number_in, with_cell, changed_at}
use Rattle.dc_plain.specs.declared.note.Variable.{Variable}
use Rattle.dc_plain.specs.Views.{variable_of}
use Rattle.dc_plain.proofs.Changes.{changed-found, unchanged-past}

abbrev cell_by : ℕ → Option stores.Variable → Option (Option ℤ)
cell_by position variable = option_and_then (λ v. slice_get v.cells position) variable

pub value-found : (variables : List Variable) (x : ElementId) (variable : Variable) → slice_get variables x.variable ≡ Some variable
    → number_in (slice_get (variable_of variable).cells x.position) ≡ value_at (map variable_of variables) x
unfolding value_at cell_of
value-found variables x variable found =
    sym (ap (λ v. number_in (cell_by x.position v)) (slice_get-map variable_of variables x.variable ∙ ap (option_map variable_of) found))

pub value-missing : (variables : List Variable) (x : ElementId) → slice_get variables x.variable ≡ None → None ≡ value_at (map variable_of variables) x
unfolding value_at cell_of
value-missing variables x missing =
    sym (ap (λ v. number_in (cell_by x.position v)) (slice_get-map variable_of variables x.variable ∙ ap (option_map variable_of) missing))

pub put-found : (variables : List Variable) (x : ElementId) (state : Option ℤ) (variable after : Variable) → slice_get variables x.variable ≡ Some variable
    → variable_of after ≡ with_cell x.position state (variable_of variable) → map variable_of (slice_set variables x.variable after) ≡ put_at (map variable_of variables) x state
unfolding put_at
put-found variables x state variable after found is = changed-found variable_of variables x.variable variable after (with_cell x.position state) found is

pub put-past : (variables : List Variable) (x : ElementId) (state : Option ℤ) → length variables ≤ x.variable → map variable_of variables ≡ put_at (map variable_of variables) x state
unfolding put_at
put-past variables x state past = unchanged-past variable_of variables x.variable (with_cell x.position state) past
