-- Lists that are made item by item, and how long they are.
use Rattle.std.proofs.Common.{◌≡◌, List, [], ◌∷◌, ◌++◌, append_assoc, append-nil}
use Rattle.std.proofs.lemmas.List.{length-map}

pub one_more : {A : Type 0} (made : List A) (next : A) (rest : List A) → (made ++ next ∷ []) ++ rest ≡ made ++ (next ∷ rest)
one_more made next rest = append_assoc made (next ∷ []) rest

pub ruleset lists = (one_more, append-nil)

pub ruleset lengths = (length-map)
