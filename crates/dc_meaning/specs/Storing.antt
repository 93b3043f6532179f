-- How an assignment stores its value, as the walker goes about it. This project's own.
use Rattle.std.specs.Prelude.{ℕ, List, [], ◌∷◌, zip, Option, ℤ}
use Rattle.dc_int.specs.declared.fault.FaultKind.{FaultKind}
use Rattle.dc_int.specs.Sorts.{Sort, fitted}
use Rattle.dc_code.specs.declared.frame.Place.{Place}
use Rattle.dc_tree.specs.Entities.{Entity, Scope}
use Rattle.dc_tree.specs.Syntax.{Tree}
use Rattle.dc_tree.specs.Typing.{sort_of_entity}
use Rattle.dc_meaning.specs.Actions.{Flow, on, ◌>>◌, places_of}
use Rattle.dc_meaning.specs.Acts as acts
use Rattle.dc_meaning.specs.Acts.{Act, ◌>>=◌, for_each}
use Rattle.dc_meaning.specs.Gathering.{places_from}
use Rattle.dc_meaning.specs.Places.{whole_of, element_at}
use Rattle.dc_meaning.specs.Values.{Callee}

-- A value is stored in each place of a variable, as that takes it.
abbrev pub stored : ℕ → Entity → ℤ → List Place → Act Flow
stored line variable given places = for_each (λ place. acts.store line place (fitted (sort_of_entity variable) given)) places >> acts.just on

-- An assignment of a value that is there already, to a whole variable, to the element with these subscripts, and
-- to any target.
abbrev pub assigned_whole : ℕ → Entity → ℤ → Act Flow
assigned_whole line variable given = whole_of line variable >>= stored line variable given

abbrev pub assigned_at : ℕ → Entity → List ℤ → ℤ → Act Flow
assigned_at line variable subscripts given = element_at line variable subscripts >>= (λ place. stored line variable given (place ∷ []))

abbrev pub assigned : Scope → Callee → ℕ → Entity → Option (List Tree) → ℤ → Act Flow
assigned scope call line variable subscripts given = places_of scope call line variable subscripts >>= stored line variable given

-- A value is stored in so many elements of a variable, from a position on.
abbrev pub filled : ℕ → ℕ → ℤ → ℕ → ℕ → Act Flow
filled line variable value count position = for_each (λ place. acts.store line place value) (places_from variable count position) >> acts.just on

-- Each value is stored in its element of so many, from a position on.
abbrev pub listed : ℕ → ℕ → Sort → ℕ → ℕ → List ℤ → Act Flow
listed line variable sort count position given =
    for_each (λ w. acts.store line w.0 (fitted sort w.1)) (zip (places_from variable count position) given) >> acts.just on

-- The values of a list are stored in the elements of a whole variable.
abbrev pub listed_whole : ℕ → Entity → List ℤ → Act Flow
listed_whole line variable given = do
  places ← whole_of line variable
  for_each (λ w. acts.store line w.0 (fitted (sort_of_entity variable) w.1)) (zip places given) >> acts.just on

-- What has no places has no element.
abbrev pub nowhere_fault : List ℤ → FaultKind
nowhere_fault [] = FaultKind.Undefined
nowhere_fault subscripts = FaultKind.Subscript
